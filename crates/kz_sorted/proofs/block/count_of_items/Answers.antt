use Rattle.std.proofs.Common.{ap, length, arith}
use Rattle.kz_sorted.proofs.ItemsOf.{length-items_of_more}
use Rattle.kz_sorted.proofs.block.count_of_items.Goals as goal

pub loop-block-preserved : goal.loop-block-preserved
loop-block-preserved g c =
    let more = length-items_of_more c.args.blocks.now c.loop-block.block-index c.block-item.result (omega arith) c.block-item.is in
    omega (arith, more, c.saturating_add-count.ensures, ap length c.items.ensures)
