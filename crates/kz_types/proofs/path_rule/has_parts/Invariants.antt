use Rattle.std.proofs.Common.{◌≡◌, ℕ, ◌<◌, ◌≤◌, drop, slice_index, ◌==◌, false}
use Rattle.std.specs.List.{list_all, slice_split, slice_range}
use Rattle.kz_types.specs.PathRule.{parts, is_shown, is_part}
use Rattle.kz_types.proofs.path_rule.has_parts.Given as goal

abbrev pub invariant-loop-at : goal.invariant-loop-at
invariant-loop-at l = record {
  shown : l.shown ≡ list_all is_shown (slice_range l.bytes l.start l.at);
  started : l.start ≤ l.at;
  no_slash : (k : ℕ) → l.start ≤ k → k < l.at → (slice_index l.bytes k == 47) ≡ false;
  left : list_all is_part (parts l.bytes) ≡ list_all is_part (slice_split (λ b. b == 47) (drop l.start l.bytes));
}
