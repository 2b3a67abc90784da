use Rattle.std.proofs.Common.{take}
use Rattle.std.specs.List.{flat_map}
use Rattle.kz_output.specs.Outputs.{Puts, HasNotFailed}
use Rattle.kz_reports.proofs.lines.put_all.Given as goal

abbrev pub invariant-loop-item : goal.invariant-loop-item
invariant-loop-item g l =
    Puts (g.K.Sink.taken l.fn.out) l.fn.output (g.K.Sink.taken l.out) l.output (flat_map g.T.Line.text (take l.item-index l.items))
    × HasNotFailed (g.K.Sink.faults l.fn.out) (g.K.Sink.faults l.out) (g.K.Sink.last_failed l.fn.out) (g.K.Sink.last_failed l.out)
