use Rattle.std.proofs.Common.{◌≡◌, ◌+◌, ◌-◌, ◌<◌, List, length, sym, ap, ◌∙◌, arith, rules}
use Rattle.std.specs.List.{slice_get}
use Rattle.kz_types.specs.declared.tree.Row.{Row}
use Rattle.kz_sorted.proofs.ItemsOf.{last_of_blocks}
use Rattle.kz_row_parts.proofs.parts.PartedRows.last.Goals as goal

pub returns-clause-last : goal.returns-clause-last
returns-clause-last c =
    let ps = c.self.inside.parts.items in
    let some : 0 < length ps = search rules in
    let last : c.len-place.result - 1 + 1 ≡ length ps = omega (arith, some, c.len-place.ensures) in
    c.last.ensures.last ∙ ap (λ (xs : List Row). slice_get xs (length xs - 1)) c.rows.ensures
    ∙ sym (last_of_blocks ps (c.len-place.result - 1) c.index.result.now c.self.invariant.parts.each last c.index.ensures)
    ∙ ap (λ (xs : List Row). slice_get xs (length xs - 1)) c.self.view_is
