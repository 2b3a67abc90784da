use Rattle.std.proofs.Common.{◌≡◌, Some, option_map, sym, ap, ◌∙◌}
use Rattle.kz_types.proofs.Order.{bytes_order}
use Rattle.kz_types.proofs.Lookup.{some_is_none, key_of_found}
use Rattle.kz_spec_data.specs.Tree.{path_of_row, row_at}
use Rattle.kz_tree_rows.proofs.rows.Rows.touch.Goals as goal

pub replace-requires : goal.replace-requires
replace-requires c = λ none.
    let found : row_at c.args.path.now c.args.self.now ≡ Some c.in-Some.row.now = sym c.find.ensures ∙ ap (option_map (λ r. r.now)) c.in-Some.is in
    let same : c.in_ok-row.row.path ≡ c.args.path.now = ap path_of_row c.in_ok-row.ensures ∙ key_of_found bytes_order path_of_row c.args.path.now c.args.self.now c.in-Some.row.now found in
    some_is_none (sym found ∙ sym (ap (λ p. row_at p c.args.self.now) same) ∙ none)
