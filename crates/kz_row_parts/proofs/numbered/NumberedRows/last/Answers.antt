use Rattle.std.proofs.Common.{◌≡◌, ◌+◌, ◌-◌, ◌<◌, List, length, sym, ap, ◌∙◌, arith, rules}
use Rattle.std.specs.List.{slice_get}
use Rattle.kz_types.specs.declared.tree.Row.{Row}
use Rattle.kz_sorted.proofs.ItemsOf.{are_parts, last_of_blocks}
use Rattle.kz_row_parts.proofs.numbered.NumberedRows.last.Goals as goal

pub returns-clause-last : goal.returns-clause-last
returns-clause-last c =
    let bs = c.self.inside.blocks.items in
    let some : 0 < length bs = search rules in
    let last : c.len-place.result - 1 + 1 ≡ length bs = omega (arith, some, c.len-place.ensures) in
    c.last.ensures ∙ sym (last_of_blocks bs (c.len-place.result - 1) c.index.result.now (are_parts bs c.self.invariant.blocks).each last c.index.ensures)
    ∙ ap (λ (xs : List Row). slice_get xs (length xs - 1)) c.self.view_is
