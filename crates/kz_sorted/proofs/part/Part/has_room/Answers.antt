use Rattle.std.proofs.Common.{◌<◌, List, length, sym, subst, rules}
use Rattle.kz_types.specs.Order.{bytes_cmp}
use Rattle.kz_types.proofs.Order.{bytes_order}
use Rattle.kz_sorted.specs.BlockLists.{AreBlocks}
use Rattle.kz_sorted.proofs.Changes.{read_rises}
use Rattle.kz_sorted.proofs.ItemsOf.{are_parts}
use Rattle.kz_sorted.proofs.part.Part.has_room.Goals as goal

pub has_key-requires : goal.has_key-requires
has_key-requires g c =
    let bs = c.as_slice-blocks.result.now in
    let within : c.block_for-place.result < length bs = search rules in
    let blocks : AreBlocks bytes_cmp g.T.Keyed.key bs = subst (λ (xs : List (List g.row.T.Denot)). AreBlocks bytes_cmp g.T.Keyed.key xs) (sym c.as_slice-blocks.ensures) c.self.invariant in
    read_rises bytes_order g.T.Keyed.key bs c.block_for-place.result c.index-blocks-place.result (are_parts bs blocks) within c.index-blocks-place.is
