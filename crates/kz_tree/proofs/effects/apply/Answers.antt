use Rattle.std.proofs.Common.{◌≡◌, Some, option_map, sym, ap, ◌∙◌}
use Rattle.kz_types.proofs.Order.{bytes_order}
use Rattle.kz_types.proofs.Lookup.{some_is_none, key_of_found}
use Rattle.kz_spec_data.specs.Tree.{path_of_row, row_at}
use Rattle.kz_tree.proofs.effects.apply.Goals as goal

pub replace-requires : goal.replace-requires
replace-requires c = λ none.
    let path = c.bytes-in-Set.result.now in
    let found : row_at path c.args.rows.now ≡ Some c.in-Some.row.now = sym c.find.ensures ∙ ap (option_map (λ r. r.now)) c.in-Some.is in
    let same : c.in_ok-row-in-Set.row.path ≡ path = ap path_of_row c.in_ok-row-in-Set.ensures ∙ key_of_found bytes_order path_of_row path c.args.rows.now c.in-Some.row.now found in
    some_is_none (sym found ∙ sym (ap (λ p. row_at p c.args.rows.now) same) ∙ none)
