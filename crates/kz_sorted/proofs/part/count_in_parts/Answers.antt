use Rattle.std.proofs.Common.{arith}
use Rattle.kz_sorted.proofs.ItemsOf.{length-items_of_more}
use Rattle.kz_sorted.proofs.part.count_in_parts.Goals as goal

pub loop-part-preserved : goal.loop-part-preserved
loop-part-preserved g c =
    let more = length-items_of_more c.args.parts.now c.loop-part.part-index c.part-item.result (omega arith) c.part-item.is in
    omega (arith, more, c.saturating_add-count.ensures, c.len.ensures)
