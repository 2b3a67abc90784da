use Rattle.std.proofs.Common.{◌≡◌, List, Ok, OnOk, IfErr, subst}
use Rattle.kz_types.specs.declared.tree.Op.{Op}
use Rattle.kz_spec_data.specs.Log.{Log as LogValue}
use Rattle.kz_spec_data.specs.Requests.{Reset, Only, Between}
use Rattle.kz_spec_machine.specs.Machine.{exit_ops, tree_after_ops}
use Rattle.kz_exit.specs.Disks.{TreeDisk}
use Rattle.kz_exit.specs.Requests.{IsMultiFault}
use Rattle.kz_exit.proofs.Rollbacks.{kept_left, kept_log, kept_tree, sent_back, sent_left, sent_log}
use Rattle.kz_exit.proofs.Stops.{kept_stop, reset_up, sent_stop}
use Rattle.kz_exit.proofs.taking_back.make.Goals as goal

-- the log isn't reset

pub returns-in-Err-clause-err : goal.returns-in-Err-clause-err
returns-in-Err-clause-err g c =
    kept_left (g.T.ZTree.tree c.args.tree.now) (g.L.MetaLog.log c.args.log.now) (g.L.MetaLog.log c.reset.new.log) c.in-Err.fault c.requires.taken c.in-Err.ensures.err c.in-Err.ensures.same

pub returns-in-Err-clause-log_disk : goal.returns-in-Err-clause-log_disk
returns-in-Err-clause-log_disk g c =
    kept_log (g.L.MetaLog.payload_bytes (g.L.MetaLog.log c.args.log.now) Reset) c.in-Err.fault (g.L.MetaLog.disk c.args.log.now) (g.L.MetaLog.disk c.reset.new.log) c.in-Err.ensures.err c.in-Err.ensures.disk

pub returns-in-Err-clause-tree_disk : goal.returns-in-Err-clause-tree_disk
returns-in-Err-clause-tree_disk g c =
    let t = g.T.ZTree.tree c.args.tree.now in
    kept_tree t g.T.ZTree.payload_bytes (exit_ops t) c.in-Err.fault (g.T.ZTree.disk c.args.tree.now) c.in-Err.ensures.err

pub returns-in-Err-clause-stop : goal.returns-in-Err-clause-stop
returns-in-Err-clause-stop g c =
    let l = g.L.MetaLog.log c.args.log.now in
    let log_left = g.L.MetaLog.left c.reset.new.log in
    kept_stop (g.T.ZTree.tree c.args.tree.now) l (g.L.MetaLog.payload_bytes l Reset) c.in-Err.fault (g.T.ZTree.disk c.args.tree.now) (g.L.MetaLog.disk c.args.log.now) (g.L.MetaLog.disk c.reset.new.log) (g.T.ZTree.left c.args.tree.now) log_left
    c.in-Err.ensures.err c.in-Err.ensures.disk c.in-Err.ensures.stop (g.met.T.ZTree.settled c.args.tree.now)
    (λ up. subst (λ (x : LogValue). Only x log_left) c.in-Err.ensures.same (g.met.L.MetaLog.settled c.reset.new.log up))

-- the tree is given back, or it isn't

pub returns-in-Ok-clause-ok : goal.returns-in-Ok-clause-ok
returns-in-Ok-clause-ok g c =
    let t = g.T.ZTree.tree c.args.tree.now in
    let new = g.T.ZTree.tree c.send.new.tree in
    sent_back t new (g.L.MetaLog.log c.args.log.now) (g.L.MetaLog.log c.reset.new.log) c.send.result c.requires.taken c.in-Ok.ensures.ok
    (subst (λ (ops : List Op). OnOk c.send.result (tree_after_ops t ops ≡ Ok new)) c.requires.ops c.send.ensures.ok)

pub returns-in-Ok-clause-err : goal.returns-in-Ok-clause-err
returns-in-Ok-clause-err g c =
    let t = g.T.ZTree.tree c.args.tree.now in
    sent_left t (g.T.ZTree.tree c.send.new.tree) (g.L.MetaLog.log c.args.log.now) (g.L.MetaLog.log c.reset.new.log) c.send.result c.requires.taken c.in-Ok.ensures.ok
    (subst (λ (ops : List Op). IfErr c.send.result (IsMultiFault (tree_after_ops t ops))) c.requires.ops c.send.ensures.err)
    c.send.ensures.same

pub returns-in-Ok-clause-log_disk : goal.returns-in-Ok-clause-log_disk
returns-in-Ok-clause-log_disk g c =
    sent_log (tree_after_ops (g.T.ZTree.tree c.args.tree.now) c.args.ops.now) (g.L.MetaLog.payload_bytes (g.L.MetaLog.log c.args.log.now) Reset) c.send.result (g.L.MetaLog.disk c.args.log.now) (g.L.MetaLog.disk c.reset.new.log) c.send.ensures.err c.in-Ok.ensures.disk

pub returns-in-Ok-clause-tree_disk : goal.returns-in-Ok-clause-tree_disk
returns-in-Ok-clause-tree_disk g c =
    subst (λ (ops : List Op). TreeDisk (g.T.ZTree.tree c.args.tree.now) g.T.ZTree.payload_bytes ops c.send.result (g.T.ZTree.disk c.args.tree.now) (g.T.ZTree.disk c.send.new.tree)) c.requires.ops c.send.ensures.disk

pub returns-in-Ok-clause-stop : goal.returns-in-Ok-clause-stop
returns-in-Ok-clause-stop g c =
    let t = g.T.ZTree.tree c.args.tree.now in
    let old = g.T.ZTree.disk c.args.tree.now in
    let later = g.T.ZTree.disk c.send.new.tree in
    let tree_left = g.T.ZTree.left c.send.new.tree in
    let log_old = g.L.MetaLog.disk c.args.log.now in
    let log_new = g.L.MetaLog.disk c.reset.new.log in
    sent_stop t (g.T.ZTree.tree c.send.new.tree) (g.L.MetaLog.log c.args.log.now) (g.L.MetaLog.log c.reset.new.log) g.T.ZTree.payload_bytes c.send.result old later log_old log_new tree_left (g.L.MetaLog.left c.reset.new.log)
    (subst (λ (ops : List Op). IfErr c.send.result (IsMultiFault (tree_after_ops t ops))) c.requires.ops c.send.ensures.err)
    (subst (λ (ops : List Op). TreeDisk t g.T.ZTree.payload_bytes ops c.send.result old later) c.requires.ops c.send.ensures.disk)
    (λ failed. subst (λ (ops : List Op). Between t (tree_after_ops t ops) tree_left) c.requires.ops (c.send.ensures.stop failed))
    c.send.ensures.same (g.met.T.ZTree.settled c.send.new.tree) c.in-Ok.ensures.ok
    (reset_up (g.L.MetaLog.payload_bytes (g.L.MetaLog.log c.args.log.now) Reset) log_old log_new c.in-Ok.ensures.disk) (g.met.L.MetaLog.settled c.reset.new.log)
