use Rattle.std.proofs.Common.{◌≡◌, ◌≢◌, ◌<◌, true, List, [], None, is_some, length, get_or, sym, ap, ◌∙◌, subst, arith, rules}
use Rattle.std.proofs.lemmas.List.{get_or_read, nil_from_length}
use Rattle.kz_types.specs.declared.tree.Row.{Row}
use Rattle.kz_types.specs.Order.{bytes_cmp}
use Rattle.kz_types.proofs.Order.{bytes_order}
use Rattle.kz_types.proofs.Append.{without_absent}
use Rattle.kz_sorted.specs.BlockLists.{items_of, IsBlockFor}
use Rattle.kz_sorted.proofs.Changes.{read_found}
use Rattle.kz_spec_data.specs.Tree.{path_of_row, row_at, without_row}
use Rattle.kz_row_parts.proofs.PartLemmas.{some_there, left_by_numbers}
use Rattle.kz_row_parts.proofs.part_changes.take_out.Goals as goal

pub returns-then-is_none-clause-ok : goal.returns-then-is_none-clause-ok
returns-then-is_none-clause-ok c =
    let ps = c.args.parts.now.items in
    let within : c.part_for-place.result < length ps = search rules in
    let for_path : IsBlockFor bytes_cmp path_of_row c.args.path.now ps c.part_for-place.result = subst (λ (xs : List (List Row)). IsBlockFor bytes_cmp path_of_row c.args.path.now xs c.part_for-place.result) c.deref.ensures.value c.part_for-place.ensures.part in
    let absent : row_at c.args.path.now c.rows.result.now ≡ None = search rules in
    sym (without_absent bytes_order path_of_row c.args.path.now (items_of ps)
    (read_found bytes_order path_of_row c.args.path.now ps c.part_for-place.result c.index.result.now within c.index.ensures for_path ∙ ap (row_at c.args.path.now) (sym c.rows.ensures) ∙ absent))

pub take_part-requires-clause-gone : goal.take_part-requires-clause-gone
take_part-requires-clause-gone c =
    let ps = c.args.parts.now.items in
    let i = c.part_for-place.result in
    let within : i < length ps = search rules in
    let there : c.rows.result.now ≡ get_or ps i [] = c.rows.ensures ∙ get_or_read ps i c.index.result.now within c.index.ensures [] in
    let found : is_some c.find.result ≡ true = search rules in
    let known : row_at c.args.path.now (get_or ps i []) ≢ None = some_there _ c.find.result _ found (c.find.ensures ∙ ap (row_at c.args.path.now) there) in
    nil_from_length (without_row c.args.path.now (get_or ps i [])) (omega (arith, c.if-at-eq1.true, left_by_numbers c.args.path.now ps c.args.segments.now i c.at.result c.requires.numbers within c.at.ensures known))

pub take_from_part-requires-clause-left : goal.take_from_part-requires-clause-left
take_from_part-requires-clause-left c =
    let ps = c.args.parts.now.items in
    let i = c.part_for-place.result in
    let within : i < length ps = search rules in
    let there : c.rows.result.now ≡ get_or ps i [] = c.rows.ensures ∙ get_or_read ps i c.index.result.now within c.index.ensures [] in
    let found : is_some c.find.result ≡ true = search rules in
    let known : row_at c.args.path.now (get_or ps i []) ≢ None = some_there _ c.find.result _ found (c.find.ensures ∙ ap (row_at c.args.path.now) there) in
    omega (arith, c.if-at-eq1.false, left_by_numbers c.args.path.now ps c.args.segments.now i c.at.result c.requires.numbers within c.at.ensures known)
