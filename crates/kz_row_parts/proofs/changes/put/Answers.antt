use Rattle.std.proofs.Common.{◌<◌, length, rules}
use Rattle.kz_types.proofs.Order.{bytes_order}
use Rattle.kz_sorted.proofs.ItemsOf.{are_parts}
use Rattle.kz_sorted.proofs.Changes.{read_rises}
use Rattle.kz_spec_data.specs.Tree.{path_of_row}
use Rattle.kz_row_parts.proofs.changes.put.Goals as goal

pub fits_in-requires : goal.fits_in-requires
fits_in-requires c =
    let bs = c.args.blocks.now.items in
    let within : c.block_for-place.result < length bs = search rules in
    read_rises bytes_order path_of_row bs c.block_for-place.result c.index.result.now (are_parts bs c.requires.blocks) within c.index.ensures
