use Rattle.std.proofs.Common.{◌≡◌, ◌<◌, List, Some, length, get_or, drop, sym, ap, ◌∙◌, subst, rules}
use Rattle.std.proofs.lemmas.List.{take_rest}
use Rattle.kz_types.specs.declared.tree.Row.{Row}
use Rattle.kz_spec_data.specs.Tree.{path_of_row}
use Rattle.kz_row_parts.proofs.Ends.{found_late}
use Rattle.kz_row_parts.proofs.numbered.find_among_last.Goals as goal

pub returns-then-are_equal : goal.returns-then-are_equal
returns-then-are_equal c =
    let rows = c.args.rows.now in
    let from = c.saturating_sub-from.result in
    let i = c.loop-row.row-index in
    let row : Row = c.row-item.result in
    let all = take_rest rows from in
    let within : i < length (drop from rows) = subst (λ (xs : List Row). i < length xs) all c.loop-row-test.true in
    let is : row ≡ get_or (drop from rows) i row = subst (λ (xs : List Row). row ≡ get_or xs i row) all c.row-item.is in
    let same : c.bytes.result.now ≡ c.args.path.now = search rules in
    let at : row.path ≡ c.args.path.now = ap path_of_row (sym c.get-row.ensures) ∙ sym c.bytes.ensures.value ∙ same in
    found_late c.args.path.now rows from i row c.requires within is at ∙ ap Some (sym c.get-row.ensures)
