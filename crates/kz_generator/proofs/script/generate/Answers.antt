use Rattle.std.proofs.Common.{◌++◌, sym, subst}
use Rattle.std.specs.Io.KnownBytes.{Appends}
use Rattle.kz_output.specs.Outputs.{WritesFront}
use Rattle.kz_output.proofs.Chains.{flushed, from_nothing, front_of_flush}
use Rattle.kz_spec_machine.specs.Generator.{events_after, opening_events, closing_events}
use Rattle.kz_generator.specs.Texts.{lines_of}
use Rattle.kz_generator.proofs.Parts.{on_ok, on_err, in_parts}
use Rattle.kz_generator.proofs.script.generate.Goals as goal

pub returns-in-Err-clause-err : goal.returns-in-Err-clause-err
returns-in-Err-clause-err g c =
    subst (λ script. WritesFront (g.K.Sink.taken c.args.out.now) (g.K.Sink.taken c.put_script.new.out) script) (sym (in_parts c.args.changes))
    (from_nothing _ _ c.new-output.result _ c.new-output.ensures c.in-Err.ensures.err)

pub returns-clause-ok : goal.returns-clause-ok
returns-clause-ok g c =
    on_ok c.flush.result c.flush.ensures.ok (λ last.
    subst (λ script. Appends (g.K.Sink.taken c.args.out.now) (g.K.Sink.taken c.flush.new.out) script) (sym (in_parts c.args.changes))
    (flushed _ _ _ c.new-output.result c.put_script.new.output _ c.new-output.ensures c.in-Ok.ensures.ok last))

pub returns-clause-err : goal.returns-clause-err
returns-clause-err g c =
    let n = c.args.changes in
    on_err c.flush.result c.flush.ensures.err (λ front.
    subst (λ script. WritesFront (g.K.Sink.taken c.args.out.now) (g.K.Sink.taken c.flush.new.out) script) (sym (in_parts c.args.changes))
    (from_nothing _ _ c.new-output.result _ c.new-output.ensures
    (front_of_flush _ _ _ c.new-output.result c.put_script.new.output (lines_of opening_events ++ (lines_of (events_after n 0 n) ++ lines_of (closing_events n))) c.in-Ok.ensures.ok front)))
