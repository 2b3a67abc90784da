use Rattle.std.proofs.Common.{◌≡◌, ◌<◌, List, None, length, sym, ◌∙◌, subst, rules}
use Rattle.kz_types.specs.Order.{bytes_cmp}
use Rattle.kz_types.specs.Ordered.{find}
use Rattle.kz_types.proofs.Order.{bytes_order}
use Rattle.kz_types.proofs.Append.{without_absent}
use Rattle.kz_sorted.specs.BlockLists.{items_of, IsBlockFor}
use Rattle.kz_sorted.proofs.ItemsOf.{are_parts}
use Rattle.kz_sorted.proofs.Changes.{read_rises, read_found}
use Rattle.kz_sorted.proofs.change.remove_item.Goals as goal

pub find-requires : goal.find-requires
find-requires g c =
    let within : c.block_for-place.result < length c.args.blocks.now.items = search rules in
    read_rises bytes_order g.T.Keyed.key c.args.blocks.now.items c.block_for-place.result c.index.result.now (are_parts c.args.blocks.now.items c.requires) within c.index.ensures

pub returns-then-is_none-clause-ok : goal.returns-then-is_none-clause-ok
returns-then-is_none-clause-ok g c =
    let bs = c.args.blocks.now.items in
    let within : c.block_for-place.result < length bs = search rules in
    let for_key : IsBlockFor bytes_cmp g.T.Keyed.key c.args.key.now bs c.block_for-place.result = subst (λ (xs : List (List g.row.T.Denot)). IsBlockFor bytes_cmp g.T.Keyed.key c.args.key.now xs c.block_for-place.result) c.deref.ensures.value c.block_for-place.ensures.block in
    let absent : find bytes_cmp g.T.Keyed.key c.args.key.now c.index.result.now ≡ None = search rules in
    sym (without_absent bytes_order g.T.Keyed.key c.args.key.now (items_of bs) (read_found bytes_order g.T.Keyed.key c.args.key.now bs c.block_for-place.result c.index.result.now within c.index.ensures for_key ∙ absent))
