use Rattle.std.proofs.Common.{◌≡◌, ◌<◌, ◌^◌}
use Rattle.kz_output.specs.Outputs.{Puts, HasNotFailed}
use Rattle.kz_spec_machine.specs.Generator.{value_at, events_after}
use Rattle.kz_generator.specs.Texts.{lines_of}
use Rattle.kz_generator.proofs.script.put_changes.Given as goal

abbrev pub invariant-loop-done : goal.invariant-loop-done
invariant-loop-done g l =
    (l.value ≡ value_at l.changes l.done) × (l.value < 2 ^ 31)
    × Puts (g.K.Sink.taken l.fn.out) l.fn.output (g.K.Sink.taken l.out) l.output (lines_of (events_after l.changes 0 l.done))
    × HasNotFailed (g.K.Sink.faults l.fn.out) (g.K.Sink.faults l.out) (g.K.Sink.last_failed l.fn.out) (g.K.Sink.last_failed l.out)
