use Rattle.std.proofs.Common.{rules, List, Result, IfOk, IfErr, OnOk, refl, sym, ap, subst, ◌∙◌, w32}
use Rattle.std.proofs.lemmas.Int.{to_z-of_z}
use mir.Val.{SFits}
use Rattle.kz_types.specs.declared.machine.Answer.{Answer}
use Rattle.kz_types.specs.declared.machine.Answer.TheVariants as answer
use Rattle.kz_types.specs.declared.machine.Event.TheVariants as event
use Rattle.kz_spec_data.specs.Log.{IsViewOf}
use Rattle.kz_spec_data.specs.Requests.{Reset}
use Rattle.kz_spec_machine.specs.Driver.{Driver, least}
use Rattle.kz_spec_machine.specs.Machine.{running_ids, exit_ops}
use Rattle.kz_world_parts.specs.Disks.{disks_of}
use Rattle.kz_exit.specs.Disks.{LogDisk, TreeDisk}
use Rattle.kz_exit.specs.Rollbacks.{IsTakenBack, IsLeft}
use Rattle.kz_exit.specs.Stops.{RollbackLeaves}
use Rattle.kz_log.proofs.Views.{new_is_view}
use Rattle.kz_world_parts.specs.declared.faults.EventFault.{EventFault}
use Rattle.kz_world_parts.specs.EventDisks.{disks_in}
use Rattle.kz_world_parts.specs.EventStops.{EventLeaves}
use Rattle.kz_world_parts.specs.Worlds.{world_of_parts, world_of, IsDone}
use Rattle.kz_world.proofs.Rollbacks.{with_stores, running_refused, exit_done, exit_stop, kept_anew}
use Rattle.kz_world.proofs.rollback.roll_back.Goals as goal

pub returns-in-Some-clause-ok : goal.returns-in-Some-clause-ok
returns-in-Some-clause-ok g c =
    let w = world_of g.T.ZTree.tree g.L.MetaLog.log c.args.parts.now in
    let id = c.in-Some.id in
    let fits : SFits w32 id = search rules in
    let found = ap (λ (ds : List Driver). least (running_ids ds)) (sym c.deref.ensures.value) ∙ sym c.least_running.ensures ∙ c.in-Some.is in
    (running_refused w id found ∙ ap (λ i. (w, answer.Running i)) (sym (to_z-of_z w32 id fits)), refl)

pub returns-clause-ok : goal.returns-clause-ok
returns-clause-ok g c =
    let tree = g.T.ZTree.tree in
    let log = g.L.MetaLog.log in
    let w = world_of tree log c.args.parts.now in
    let r = c.rollback.result in
    let t = tree c.rollback.new.tree in
    let l = log c.rollback.new.log in
    let none = ap (λ (ds : List Driver). least (running_ids ds)) (sym c.deref.ensures.value) ∙ sym c.least_running.ensures ∙ c.in_default.is in
    let lent = c.inner_mut.ensures.lent in
    let log_lent = c.inner_mut-2.ensures.lent in
    let ok = subst (λ s. OnOk r (IsTakenBack (tree s) w.shared.log t l)) lent (subst (λ m. OnOk r (IsTakenBack (tree c.inner_mut.result.now) (log m) t l)) log_lent c.rollback.ensures.ok) in
    let err = subst (λ s. IfErr r (IsLeft (tree s) w.shared.log t l)) lent (subst (λ m. IfErr r (IsLeft (tree c.inner_mut.result.now) (log m) t l)) log_lent c.rollback.ensures.err) in
    subst (λ (x : Result Answer EventFault). IfOk x (IsDone w event.Rollback (with_stores w t l))) (sym c.after_exit.ensures) (exit_done r w t l none ok err)

pub returns-clause-kept : goal.returns-clause-kept
returns-clause-kept g c =
    let p = c.args.parts.now in
    let l = g.L.MetaLog.log p.log.inner in
    let m = g.L.MetaLog.log c.rollback.new.log in
    let none = ap (λ (ds : List Driver). least (running_ids ds)) (sym c.deref.ensures.value) ∙ sym c.least_running.ensures ∙ c.in_default.is in
    kept_anew p.tree.plan p.log.plan p.tree.plan p.log.plan l m p.view c.new.result p.drivers.items refl refl none (subst (IsViewOf m) (sym c.new.ensures) (new_is_view m (g.met.L.MetaLog.is_log c.rollback.new.log))) c.requires

pub returns-clause-stop : goal.returns-clause-stop
returns-clause-stop g c =
    let tree = g.T.ZTree.tree in
    let log = g.L.MetaLog.log in
    let disk = g.T.ZTree.disk in
    let log_disk = g.L.MetaLog.disk in
    let payload_bytes = g.T.ZTree.payload_bytes in
    let w = world_of tree log c.args.parts.now in
    let r = c.rollback.result in
    let t = tree c.rollback.new.tree in
    let l = log c.rollback.new.log in
    let old = disks_in disk log_disk (world_of_parts c.args.parts.now) in
    let later = disks_of (disk c.rollback.new.tree) (log_disk c.rollback.new.log) in
    let left = g.T.ZTree.left c.rollback.new.tree in
    let log_left = g.L.MetaLog.left c.rollback.new.log in
    let none = ap (λ (ds : List Driver). least (running_ids ds)) (sym c.deref.ensures.value) ∙ sym c.least_running.ensures ∙ c.in_default.is in
    let lent = c.inner_mut.ensures.lent in
    let log_lent = c.inner_mut-2.ensures.lent in
    let given = c.inner_mut.result.now in
    let err = subst (λ s. IfErr r (IsLeft (tree s) w.shared.log t l)) lent (subst (λ m. IfErr r (IsLeft (tree given) (log m) t l)) log_lent c.rollback.ensures.err) in
    let on_log = subst (λ m. LogDisk (g.L.MetaLog.payload_bytes (log m) Reset) r (log_disk m) later.log) log_lent c.rollback.ensures.log_disk in
    let on_tree = subst (λ s. TreeDisk (tree s) payload_bytes (exit_ops (tree s)) r (disk s) later.tree) lent c.rollback.ensures.tree_disk in
    let stop = subst (λ s. RollbackLeaves (tree s) w.shared.log r (disk s) old.log left log_left) lent (subst (λ m. RollbackLeaves (tree given) (log m) r (disk given) (log_disk m) left log_left) log_lent c.rollback.ensures.stop) in
    subst (λ (x : Result Answer EventFault). EventLeaves w event.Rollback x old left log_left) (sym c.after_exit.ensures)
    (exit_stop r w t l (g.L.MetaLog.payload_bytes w.shared.log Reset) payload_bytes old later left log_left none err on_log on_tree stop (record { tree = g.met.T.ZTree.settled c.rollback.new.tree; log = g.met.L.MetaLog.settled c.rollback.new.log }))
