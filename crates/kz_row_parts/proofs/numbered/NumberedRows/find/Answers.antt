use Rattle.std.proofs.Common.{◌<◌, List, length, sym, ap, ◌∙◌, subst, rules}
use Rattle.kz_types.specs.declared.tree.Row.{Row}
use Rattle.kz_types.specs.Order.{bytes_cmp}
use Rattle.kz_types.proofs.Order.{bytes_order}
use Rattle.kz_sorted.specs.BlockLists.{IsBlockFor}
use Rattle.kz_sorted.proofs.ItemsOf.{are_parts}
use Rattle.kz_sorted.proofs.Changes.{read_rises, read_found}
use Rattle.kz_spec_data.specs.Tree.{path_of_row, row_at}
use Rattle.kz_row_parts.proofs.numbered.NumberedRows.find.Goals as goal

pub find-at-requires : goal.find-at-requires
find-at-requires c =
    let within : c.block_for-place.result < length c.self.inside.blocks.items = search rules in
    read_rises bytes_order path_of_row c.self.inside.blocks.items c.block_for-place.result c.index.result.now (are_parts c.self.inside.blocks.items c.self.invariant.blocks) within c.index.ensures

pub returns : goal.returns
returns c =
    let bs = c.self.inside.blocks.items in
    let within : c.block_for-place.result < length bs = search rules in
    let for_path : IsBlockFor bytes_cmp path_of_row c.args.path.now bs c.block_for-place.result = subst (λ (xs : List (List Row)). IsBlockFor bytes_cmp path_of_row c.args.path.now xs c.block_for-place.result) c.deref.ensures.value c.block_for-place.ensures.block in
    c.find-at.ensures ∙ sym (read_found bytes_order path_of_row c.args.path.now bs c.block_for-place.result c.index.result.now within c.index.ensures for_path) ∙ ap (row_at c.args.path.now) c.self.view_is
