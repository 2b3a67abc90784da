use Rattle.std.proofs.Common.{◌++◌, refl, sym, append_assoc}
use Rattle.kz_output.proofs.Chains.{one_more, front_then}
use Rattle.kz_output.proofs.Loops.{front_goes_on}
use Rattle.kz_spec_machine.specs.Generator.{events_after, opening_events, closing_events}
use Rattle.kz_generator.specs.Texts.{lines_of}
use Rattle.kz_generator.proofs.Parts.{on_ok, on_err}
use Rattle.kz_generator.proofs.script.put_script.Goals as goal

pub returns-in-Err-clause-err : goal.returns-in-Err-clause-err
returns-in-Err-clause-err g c =
    let n = c.args.changes in
    front_goes_on _ _ c.args.output.now (lines_of opening_events) (lines_of (events_after n 0 n) ++ lines_of (closing_events n)) _ c.in-Err.ensures.err refl

pub returns-in-Err-put_changes-clause-err : goal.returns-in-Err-put_changes-clause-err
returns-in-Err-put_changes-clause-err g c =
    let n = c.args.changes in
    front_goes_on _ _ c.args.output.now (lines_of opening_events ++ lines_of (events_after n 0 n)) (lines_of (closing_events n)) _
    (front_then _ _ _ c.args.output.now c.put_opening.new.output _ _ c.in-Ok.ensures.ok c.in-Err-put_changes.ensures.err)
    (sym (append_assoc (lines_of opening_events) (lines_of (events_after n 0 n)) (lines_of (closing_events n))))

pub returns-clause-ok : goal.returns-clause-ok
returns-clause-ok g c =
    let n = c.args.changes in
    on_ok c.put_closing.result c.put_closing.ensures.ok (λ last.
    one_more _ _ _ c.args.output.now c.put_opening.new.output c.put_closing.new.output (lines_of opening_events) (lines_of (events_after n 0 n) ++ lines_of (closing_events n)) c.in-Ok.ensures.ok
    (one_more _ _ _ c.put_opening.new.output c.put_changes.new.output c.put_closing.new.output (lines_of (events_after n 0 n)) (lines_of (closing_events n)) c.in-Ok-put_changes.ensures.ok last))

pub returns-clause-err : goal.returns-clause-err
returns-clause-err g c =
    let n = c.args.changes in
    on_err c.put_closing.result c.put_closing.ensures.err (λ front.
    front_then _ _ _ c.args.output.now c.put_opening.new.output (lines_of opening_events) (lines_of (events_after n 0 n) ++ lines_of (closing_events n)) c.in-Ok.ensures.ok
    (front_then _ _ _ c.put_opening.new.output c.put_changes.new.output (lines_of (events_after n 0 n)) (lines_of (closing_events n)) c.in-Ok-put_changes.ensures.ok front))
