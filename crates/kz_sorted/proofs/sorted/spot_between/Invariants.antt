use Rattle.std.proofs.Common.{◌-◌, ◌≡◌, ◌≤◌, Less, length}
use Rattle.std.specs.List.{AllWithin}
use Rattle.kz_types.specs.Order.{bytes_cmp}
use Rattle.kz_sorted.proofs.sorted.spot_between.Given as goal

abbrev pub invariant-loop-low : goal.invariant-loop-low
invariant-loop-low g l = record {
  low_bound : l.low ≤ l.high;
  high_bound : l.high ≤ length l.items;
  under : AllWithin (λ y. bytes_cmp (g.T.Keyed.key y) l.key ≡ Less) l.items 0 l.low;
  over : AllWithin (λ y. bytes_cmp l.key (g.T.Keyed.key y) ≡ Less) l.items l.high (length l.items);
}

abbrev pub decreases-loop-low : goal.decreases-loop-low
decreases-loop-low g l = l.high - l.low
