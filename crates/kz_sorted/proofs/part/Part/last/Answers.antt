use Rattle.std.proofs.Common.{◌+◌, ◌-◌, ◌<◌, ◌≡◌, List, length, ap, sym, ◌∙◌, subst, arith, rules}
use Rattle.std.specs.List.{slice_get}
use Rattle.kz_types.specs.Order.{bytes_cmp}
use Rattle.kz_sorted.specs.BlockLists.{items_of, AreBlocks}
use Rattle.kz_sorted.proofs.ItemsOf.{last_of_blocks, are_parts}
use Rattle.kz_sorted.proofs.part.Part.last.Goals as goal

pub returns : goal.returns
returns g c =
    let bs = c.as_slice-blocks.result.now in
    let some : 0 < length bs = search rules in
    let last : length bs - 1 + 1 ≡ length bs = omega (arith, some) in
    let blocks : AreBlocks bytes_cmp g.T.Keyed.key bs = subst (λ (xs : List (List g.row.T.Denot)). AreBlocks bytes_cmp g.T.Keyed.key xs) (sym c.as_slice-blocks.ensures) c.self.invariant in
    c.last.ensures ∙ sym (last_of_blocks bs (length bs - 1) c.index-blocks-place.result (are_parts bs blocks).each last c.index-blocks-place.is)
    ∙ ap (λ (xs : List (List g.row.T.Denot)). slice_get (items_of xs) (length (items_of xs) - 1)) c.as_slice-blocks.ensures
    ∙ ap (λ (xs : List g.row.T.Denot). slice_get xs (length xs - 1)) c.self.view_is
