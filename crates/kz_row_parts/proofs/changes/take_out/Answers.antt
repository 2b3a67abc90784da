use Rattle.std.proofs.Common.{◌≡◌, ◌<◌, List, None, length, sym, ◌∙◌, subst, rules}
use Rattle.kz_types.specs.declared.tree.Row.{Row}
use Rattle.kz_types.specs.Order.{bytes_cmp}
use Rattle.kz_types.proofs.Order.{bytes_order}
use Rattle.kz_types.proofs.Append.{without_absent}
use Rattle.kz_sorted.specs.BlockLists.{items_of, IsBlockFor}
use Rattle.kz_sorted.proofs.ItemsOf.{are_parts}
use Rattle.kz_sorted.proofs.Changes.{read_rises, read_found}
use Rattle.kz_spec_data.specs.Tree.{path_of_row, row_at}
use Rattle.kz_row_parts.proofs.changes.take_out.Goals as goal

pub find-requires : goal.find-requires
find-requires c =
    let within : c.block_for-place.result < length c.args.blocks.now.items = search rules in
    read_rises bytes_order path_of_row c.args.blocks.now.items c.block_for-place.result c.index.result.now (are_parts c.args.blocks.now.items c.requires.blocks) within c.index.ensures

pub returns-then-is_none-clause-ok : goal.returns-then-is_none-clause-ok
returns-then-is_none-clause-ok c =
    let bs = c.args.blocks.now.items in
    let within : c.block_for-place.result < length bs = search rules in
    let for_path : IsBlockFor bytes_cmp path_of_row c.args.path.now bs c.block_for-place.result = subst (λ (xs : List (List Row)). IsBlockFor bytes_cmp path_of_row c.args.path.now xs c.block_for-place.result) c.deref.ensures.value c.block_for-place.ensures.block in
    let absent : row_at c.args.path.now c.index.result.now ≡ None = search rules in
    sym (without_absent bytes_order path_of_row c.args.path.now (items_of bs) (read_found bytes_order path_of_row c.args.path.now bs c.block_for-place.result c.index.result.now within c.index.ensures for_path ∙ absent))
