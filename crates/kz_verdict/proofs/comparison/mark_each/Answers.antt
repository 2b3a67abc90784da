use Rattle.std.proofs.Common.{w64, to_z, of_z, arith}
use Rattle.kz_verdict.specs.Agreement.{marked_by}
use Rattle.kz_verdict.proofs.Agreements.{marked_more}
use Rattle.kz_verdict.proofs.comparison.mark_each.Goals as goal

pub loop-at-preserved : goal.loop-at-preserved
loop-at-preserved c =
    marked_more (marked_by (to_z w64 (of_z w64 c.args.end)) c.args.area.now c.args.rendering.now) c.args.found.now.items c.loop-at.found.items c.loop-at.at c.index_mut.result.now c.mark_one.new.one
    (omega (arith, c.loop-at-test.true, c.len-at-end.ensures, c.args.found.now.ok.0)) c.loop-at.invariant c.index_mut.ensures.value c.mark_one.ensures
