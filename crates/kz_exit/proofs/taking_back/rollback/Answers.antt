use Rattle.std.proofs.Common.{◌≡◌, None, OnOk, IfErr, sym, subst}
use Rattle.kz_spec_data.specs.Tree.{Tree as TreeValue}
use Rattle.kz_spec_data.specs.Log.{Log as LogValue}
use Rattle.kz_spec_data.specs.Requests.{Disk, Reset}
use Rattle.kz_spec_machine.specs.Machine.{exit_refusal, exit_ops}
use Rattle.kz_exit.specs.Disks.{LogDisk}
use Rattle.kz_exit.specs.Requests.{IsCheckFault}
use Rattle.kz_exit.specs.Rollbacks.{IsTakenBack, IsLeft}
use Rattle.kz_exit.specs.Stops.{RollbackLeaves}
use Rattle.kz_exit.proofs.Rollbacks.{checked_left, checked_log, checked_tree}
use Rattle.kz_exit.proofs.Stops.{checked_stop}
use Rattle.kz_exit.proofs.taking_back.rollback.Goals as goal

-- refused, or the log isn't read

pub returns-in-Err-clause-err : goal.returns-in-Err-clause-err
returns-in-Err-clause-err g c =
    let l = g.L.MetaLog.log c.args.log.now in
    checked_left (g.T.ZTree.tree c.args.tree.now) l (g.L.MetaLog.log c.check.new.log) c.in-Err.fault (subst (λ (t : TreeValue). IsCheckFault (exit_refusal t l) c.in-Err.fault) c.tree.ensures c.in-Err.ensures.err) c.in-Err.ensures.same

pub returns-in-Err-clause-log_disk : goal.returns-in-Err-clause-log_disk
returns-in-Err-clause-log_disk g c =
    checked_log (g.L.MetaLog.payload_bytes (g.L.MetaLog.log c.args.log.now) Reset) c.in-Err.fault (g.L.MetaLog.disk c.args.log.now) (g.L.MetaLog.disk c.check.new.log) c.in-Err.ensures.disk

pub returns-in-Err-clause-tree_disk : goal.returns-in-Err-clause-tree_disk
returns-in-Err-clause-tree_disk g c =
    let t = g.T.ZTree.tree c.args.tree.now in
    checked_tree t g.T.ZTree.payload_bytes (exit_ops t) (exit_refusal c.tree.result.now (g.L.MetaLog.log c.args.log.now)) c.in-Err.fault (g.T.ZTree.disk c.args.tree.now) c.in-Err.ensures.err

pub returns-in-Err-clause-stop : goal.returns-in-Err-clause-stop
returns-in-Err-clause-stop g c =
    let l = g.L.MetaLog.log c.args.log.now in
    checked_stop (g.T.ZTree.tree c.args.tree.now) l (exit_refusal c.tree.result.now l) c.in-Err.fault (g.T.ZTree.disk c.args.tree.now) (g.L.MetaLog.disk c.args.log.now) (g.L.MetaLog.disk c.check.new.log) (g.T.ZTree.left c.args.tree.now) (g.L.MetaLog.left c.check.new.log) c.in-Err.ensures.err c.in-Err.ensures.disk

-- nothing refuses it

pub take_back-requires : goal.take_back-requires
take_back-requires g c =
    subst (λ (t : TreeValue). exit_refusal t (g.L.MetaLog.log c.check.new.log) ≡ None) c.tree.ensures
    (subst (λ (l : LogValue). exit_refusal c.tree.result.now l ≡ None) (sym c.in-Ok.ensures.same) c.in-Ok.ensures.ok)

pub returns-in-Ok-clause-ok : goal.returns-in-Ok-clause-ok
returns-in-Ok-clause-ok g c =
    subst (λ (l : LogValue). OnOk c.take_back.result (IsTakenBack (g.T.ZTree.tree c.args.tree.now) l (g.T.ZTree.tree c.take_back.new.tree) (g.L.MetaLog.log c.take_back.new.log))) c.in-Ok.ensures.same c.take_back.ensures.ok

pub returns-in-Ok-clause-err : goal.returns-in-Ok-clause-err
returns-in-Ok-clause-err g c =
    subst (λ (l : LogValue). IfErr c.take_back.result (IsLeft (g.T.ZTree.tree c.args.tree.now) l (g.T.ZTree.tree c.take_back.new.tree) (g.L.MetaLog.log c.take_back.new.log))) c.in-Ok.ensures.same c.take_back.ensures.err

pub returns-in-Ok-clause-log_disk : goal.returns-in-Ok-clause-log_disk
returns-in-Ok-clause-log_disk g c =
    subst (λ (d : Disk). LogDisk (g.L.MetaLog.payload_bytes (g.L.MetaLog.log c.args.log.now) Reset) c.take_back.result d (g.L.MetaLog.disk c.take_back.new.log)) c.in-Ok.ensures.disk.1
    (subst (λ (l : LogValue). LogDisk (g.L.MetaLog.payload_bytes l Reset) c.take_back.result (g.L.MetaLog.disk c.check.new.log) (g.L.MetaLog.disk c.take_back.new.log)) c.in-Ok.ensures.same c.take_back.ensures.log_disk)

pub returns-in-Ok-clause-stop : goal.returns-in-Ok-clause-stop
returns-in-Ok-clause-stop g c =
    let tree_left = g.T.ZTree.left c.take_back.new.tree in
    let log_left = g.L.MetaLog.left c.take_back.new.log in
    let t = g.T.ZTree.tree c.args.tree.now in
    subst (λ (d : Disk). RollbackLeaves t (g.L.MetaLog.log c.args.log.now) c.take_back.result (g.T.ZTree.disk c.args.tree.now) d tree_left log_left) c.in-Ok.ensures.disk.1
    (subst (λ (l : LogValue). RollbackLeaves t l c.take_back.result (g.T.ZTree.disk c.args.tree.now) (g.L.MetaLog.disk c.check.new.log) tree_left log_left) c.in-Ok.ensures.same c.take_back.ensures.stop)
