use Rattle.std.proofs.Common.{◌<◌, List, length, sym, ap, ◌∙◌, subst, rules}
use Rattle.kz_types.specs.declared.tree.Row.{Row}
use Rattle.kz_types.specs.Order.{bytes_cmp}
use Rattle.kz_types.proofs.Order.{bytes_order}
use Rattle.kz_sorted.specs.BlockLists.{IsBlockFor}
use Rattle.kz_sorted.proofs.Changes.{read_found}
use Rattle.kz_spec_data.specs.Tree.{path_of_row, row_at}
use Rattle.kz_row_parts.proofs.parts.PartedRows.find.Goals as goal

pub returns : goal.returns
returns c =
    let ps = c.self.inside.parts.items in
    let within : c.part_for-place.result < length ps = search rules in
    let for_path : IsBlockFor bytes_cmp path_of_row c.args.path.now ps c.part_for-place.result = subst (λ (xs : List (List Row)). IsBlockFor bytes_cmp path_of_row c.args.path.now xs c.part_for-place.result) c.deref.ensures.value c.part_for-place.ensures.part in
    c.find.ensures ∙ ap (row_at c.args.path.now) c.rows.ensures ∙ sym (read_found bytes_order path_of_row c.args.path.now ps c.part_for-place.result c.index.result.now within c.index.ensures for_path)
    ∙ ap (row_at c.args.path.now) c.self.view_is
