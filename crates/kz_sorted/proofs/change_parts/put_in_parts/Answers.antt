use Rattle.std.proofs.Common.{◌≡◌, ℕ, ◌+◌, List, length, subst, rules}
use Rattle.kz_types.specs.Order.{bytes_cmp}
use Rattle.kz_types.specs.Ordered.{AllBelow}
use Rattle.kz_types.proofs.Order.{bytes_order}
use Rattle.kz_sorted.specs.BlockLists.{IsBlockFor}
use Rattle.kz_sorted.proofs.Parts.{all_before_last}
use Rattle.kz_sorted.proofs.change_parts.put_in_parts.Goals as goal

pub append_part-requires-then-is_before-clause-after :
    goal.append_part-requires-then-is_before-clause-after
append_part-requires-then-is_before-clause-after g c =
    let key = g.T.Keyed.key in
    let ps = c.args.parts.now.items in
    let place = c.part_for-place.result in
    let part = c.index-then-place-len.result.now in
    let last : place + 1 ≡ length ps = search rules in
    let for_key : IsBlockFor bytes_cmp key (key c.args.item) c.deref.result.now place = subst (λ (k : List ℕ). IsBlockFor bytes_cmp key k c.deref.result.now place) c.key.ensures c.part_for-place.ensures.part in
    let among : IsBlockFor bytes_cmp key (key c.args.item) ps place = subst (λ (xs : List (List g.row.T.Denot)). IsBlockFor bytes_cmp key (key c.args.item) xs place) c.deref.ensures.value for_key in
    let below : AllBelow bytes_cmp key part (key c.args.item) = subst (λ (k : List ℕ). AllBelow bytes_cmp key part k) c.key-then-place-len.ensures (c.if-is_before.ensures.0 (search rules)) in
    all_before_last bytes_order key (key c.args.item) ps place part last c.index-then-place-len.ensures among below
