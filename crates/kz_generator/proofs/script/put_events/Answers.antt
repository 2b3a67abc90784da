use Rattle.std.proofs.Common.{rules}
use Rattle.kz_output.proofs.Loops.{puts_next, front_of_list}
use Rattle.kz_spec_machine.specs.Generator.{event_line}
use Rattle.kz_generator.specs.Texts.{lines_of}
use Rattle.kz_generator.proofs.script.put_events.Goals as goal

pub returns-in-Err-clause-err : goal.returns-in-Err-clause-err
unfolding lines_of
returns-in-Err-clause-err g c =
    front_of_list event_line c.args.events.now c.loop-event.event-index c.event-item.result _ _ _ c.args.output.now c.loop-event.output
    c.loop-event-test.true c.event-item.is c.loop-event.invariant.0 c.in-Err.ensures.err

pub loop-event-preserved : goal.loop-event-preserved
loop-event-preserved g c = (
  puts_next event_line c.args.events.now c.loop-event.event-index c.event-item.result _ _ _ c.args.output.now c.loop-event.output c.put_event.new.output
      c.loop-event-test.true c.event-item.is c.loop-event.invariant.0 c.in-Ok.ensures.ok,
  search rules,
)
