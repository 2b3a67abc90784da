use Rattle.std.proofs.Common.{take}
use Rattle.std.specs.List.{flat_map}
use Rattle.kz_output.specs.Outputs.{Puts, HasNotFailed}
use Rattle.kz_spec_machine.specs.Generator.{event_line}
use Rattle.kz_generator.proofs.script.put_events.Given as goal

abbrev pub invariant-loop-event : goal.invariant-loop-event
invariant-loop-event g l =
    Puts (g.K.Sink.taken l.fn.out) l.fn.output (g.K.Sink.taken l.out) l.output (flat_map event_line (take l.event-index l.events))
    × HasNotFailed (g.K.Sink.faults l.fn.out) (g.K.Sink.faults l.out) (g.K.Sink.last_failed l.fn.out) (g.K.Sink.last_failed l.out)
