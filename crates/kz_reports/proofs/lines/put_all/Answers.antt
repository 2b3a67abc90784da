use Rattle.std.proofs.Common.{rules}
use Rattle.kz_output.proofs.Loops.{puts_next, front_of_list}
use Rattle.kz_reports.proofs.lines.put_all.Goals as goal

pub returns-in-Err-clause-err : goal.returns-in-Err-clause-err
returns-in-Err-clause-err g c =
    front_of_list g.T.Line.text c.args.items.now c.loop-item.item-index c.item-item.result _ _ _ c.args.output.now c.loop-item.output
    c.loop-item-test.true c.item-item.is c.loop-item.invariant.0 c.in-Err.ensures.err

pub loop-item-preserved : goal.loop-item-preserved
loop-item-preserved g c = (
  puts_next g.T.Line.text c.args.items.now c.loop-item.item-index c.item-item.result _ _ _ c.args.output.now c.loop-item.output c.put_line.new.output
      c.loop-item-test.true c.item-item.is c.loop-item.invariant.0 c.in-Ok.ensures.ok,
  search rules,
)
