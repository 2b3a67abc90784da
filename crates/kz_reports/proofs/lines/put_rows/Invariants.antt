use Rattle.std.specs.List.{flat_map}
use Rattle.kz_output.specs.Outputs.{HasNotFailed}
use Rattle.kz_spec_machine.specs.Dumps.{row_line}
use Rattle.kz_reports.proofs.Lists.{IsPutUpTo}
use Rattle.kz_reports.proofs.lines.put_rows.Given as goal

abbrev pub invariant-loop-row : goal.invariant-loop-row
invariant-loop-row g l =
    IsPutUpTo (g.K.Sink.taken l.fn.out) l.fn.output (g.K.Sink.taken l.out) l.output (flat_map row_line l.fn.tree.rows) (flat_map row_line l.row-iterator)
    × HasNotFailed (g.K.Sink.faults l.fn.out) (g.K.Sink.faults l.out) (g.K.Sink.last_failed l.fn.out) (g.K.Sink.last_failed l.out)
