use Rattle.std.proofs.Common.{◌≡◌, None, OnOk, IfErr, subst}
use Rattle.kz_spec_data.specs.Log.{View}
use Rattle.kz_spec_machine.specs.Machine.{exit_refusal}
use Rattle.kz_exit.specs.Requests.{IsViewFault, refusal_of}
use Rattle.kz_exit.proofs.Refusals.{viewed_checked, viewed_disk, read_checked, read_disk}
use Rattle.kz_exit.proofs.requests.check.Goals as goal

-- the log was read

pub returns-in-Ok-clause-ok : goal.returns-in-Ok-clause-ok
returns-in-Ok-clause-ok g c = subst (λ (v : View). OnOk c.check_view.result (refusal_of c.args.tree.now v ≡ None)) c.in-Ok.ensures.view c.check_view.ensures.ok

pub returns-in-Ok-clause-err : goal.returns-in-Ok-clause-err
returns-in-Ok-clause-err g c =
    viewed_checked (exit_refusal c.args.tree.now (g.L.MetaLog.log c.args.log.now)) c.check_view.result
    (subst (λ (v : View). IfErr c.check_view.result (IsViewFault (refusal_of c.args.tree.now v))) c.in-Ok.ensures.view c.check_view.ensures.err)

pub returns-in-Ok-clause-disk : goal.returns-in-Ok-clause-disk
returns-in-Ok-clause-disk g c =
    viewed_disk (refusal_of c.args.tree.now c.in-Ok.view) c.check_view.result (g.L.MetaLog.disk c.args.log.now) (g.L.MetaLog.disk c.read.new.log) c.check_view.ensures.err c.in-Ok.ensures.disk

-- it wasn't read

pub returns-in-Err-clause-err : goal.returns-in-Err-clause-err
returns-in-Err-clause-err g c = read_checked (exit_refusal c.args.tree.now (g.L.MetaLog.log c.args.log.now)) c.in-Err.fault c.in-Err.ensures.err

pub returns-in-Err-clause-disk : goal.returns-in-Err-clause-disk
returns-in-Err-clause-disk g c = read_disk c.in-Err.fault (g.L.MetaLog.disk c.args.log.now) (g.L.MetaLog.disk c.read.new.log) c.in-Err.ensures.err c.in-Err.ensures.disk
