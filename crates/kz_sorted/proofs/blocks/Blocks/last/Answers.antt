use Rattle.std.proofs.Common.{◌+◌, ◌-◌, ◌<◌, ◌≡◌, List, length, ap, sym, ◌∙◌, subst, arith, rules}
use Rattle.std.specs.List.{slice_get}
use Rattle.kz_types.specs.Order.{bytes_cmp}
use Rattle.kz_sorted.specs.BlockLists.{items_of, AreParts}
use Rattle.kz_sorted.proofs.ItemsOf.{last_of_blocks}
use Rattle.kz_sorted.proofs.blocks.Blocks.last.Goals as goal

pub returns : goal.returns
returns g c =
    let ps = c.as_slice-parts.result.now in
    let some : 0 < length ps = search rules in
    let last : length ps - 1 + 1 ≡ length ps = omega (arith, some) in
    let parts : AreParts bytes_cmp g.T.Keyed.key ps = subst (λ (xs : List (List g.row.T.Denot)). AreParts bytes_cmp g.T.Keyed.key xs) (sym c.as_slice-parts.ensures) c.self.invariant in
    c.last.ensures ∙ sym (last_of_blocks ps (length ps - 1) c.index-parts-place.result parts.each last c.index-parts-place.is)
    ∙ ap (λ (xs : List (List g.row.T.Denot)). slice_get (items_of xs) (length (items_of xs) - 1)) c.as_slice-parts.ensures
    ∙ ap (λ (xs : List g.row.T.Denot). slice_get xs (length xs - 1)) c.self.view_is
