use Rattle.std.proofs.Common.{◌≡◌, ℕ, true, [], ◌∷◌, Result, refl, sym, ap, subst, ◌∙◌, w64, to_z, of_z}
use Rattle.std.proofs.lemmas.Int.{to_z-of_z}
use Rattle.kz_types.specs.declared.machine.Answer.{Answer}
use Rattle.kz_spec_data.specs.Log.{Log, IsViewOf, may_be_base, snapshot}
use Rattle.kz_spec_data.specs.Requests.{Snapshot, Done, IsTaken, ChangesDisk, Between, answer_of_log_fault}
use Rattle.kz_spec_machine.specs.Machine.{World, pair_of, cut_world}
use Rattle.kz_laws_machine.proofs.Allowed.{view_of_cut}
use Rattle.kz_log.specs.Requests.{IsRefusal, made_by_snapshot}
use Rattle.kz_world_parts.specs.Disks.{disks_of}
use Rattle.kz_world_parts.specs.declared.faults.EventFault.{EventFault}
use Rattle.kz_world_parts.specs.Stores.{IsLogChange}
use Rattle.kz_world_parts.specs.EventStops.{FailureLeaves}
use Rattle.kz_world_parts.specs.Worlds.{world_of}
use Rattle.kz_world_parts.proofs.EventStops.{log_fault_leaves}
use Rattle.kz_world_parts.proofs.Told.{log_disk}
use Rattle.kz_world_parts.proofs.Views.{kept_still}
use Rattle.kz_world.proofs.Snapshots.{may_cut, cut_is, cut_fault, cut_pair}
use Rattle.kz_world.proofs.snapshot.cut.Goals as goal

pub snapshot-requires : goal.snapshot-requires
snapshot-requires g c =
    let log = g.L.MetaLog.log in
    let w = world_of g.T.ZTree.tree log c.args.parts.now in
    subst (λ s. may_be_base (log s) (to_z w64 (of_z w64 c.args.offset)) ≡ true) (sym c.inner_mut.ensures.lent)
    (subst (λ o. may_be_base w.shared.log o ≡ true) (sym (to_z-of_z w64 c.args.offset c.ranges.offset)) (may_cut w c.args.offset c.requires.recorded))

pub returns-in-Ok-clause-ok : goal.returns-in-Ok-clause-ok
returns-in-Ok-clause-ok g c =
    let log = g.L.MetaLog.log in
    let w = world_of g.T.ZTree.tree log c.args.parts.now in
    let near = to_z w64 (of_z w64 c.args.offset) in
    let made = c.in-Ok.ensures.ok ∙ ap (λ s. snapshot (log s) near) c.inner_mut.ensures.lent ∙ ap (snapshot w.shared.log) (to_z-of_z w64 c.args.offset c.ranges.offset) in
    (ap (λ (l : Log). record w { shared = record w.shared { log = l } }) made ∙ sym (cut_is w c.args.offset c.requires.recorded), refl)

pub returns-in-Ok-clause-kept : goal.returns-in-Ok-clause-kept
returns-in-Ok-clause-kept g c =
    let p = c.args.parts.now in
    let log = g.L.MetaLog.log in
    let l = log p.log.inner in
    let w = world_of g.T.ZTree.tree log p in
    let near = to_z w64 (of_z w64 c.args.offset) in
    let made = c.in-Ok.ensures.ok ∙ ap (λ s. snapshot (log s) near) c.inner_mut.ensures.lent ∙ ap (snapshot l) (to_z-of_z w64 c.args.offset c.ranges.offset) in
    kept_still p.tree.plan p.log.plan l (log c.snapshot.new.self) p.view p.drivers.items
    (λ v h. subst (λ m. IsViewOf m v) (sym made) (view_of_cut l c.args.offset v (g.met.L.MetaLog.is_log p.log.inner) (may_cut w c.args.offset c.requires.recorded) h)) c.requires.kept

pub returns-in-Ok-clause-disks : goal.returns-in-Ok-clause-disks
returns-in-Ok-clause-disks g c =
    let log = g.L.MetaLog.log in
    let disk = g.L.MetaLog.disk in
    let payload = g.L.MetaLog.payload_bytes in
    let later = c.snapshot.new.self in
    let l = log c.args.parts.now.log.inner in
    let near = to_z w64 (of_z w64 c.args.offset) in
    let by_store = subst (λ s. ChangesDisk (IsTaken (made_by_snapshot (log s) near)) (payload (log s) (Snapshot near)) Done (disk s) (disk later)) c.inner_mut.ensures.lent c.in-Ok.ensures.disk in
    (subst (λ o. ChangesDisk (IsTaken (made_by_snapshot l o)) (payload l (Snapshot o)) Done (disk c.args.parts.now.log.inner) (disk later)) (to_z-of_z w64 c.args.offset c.ranges.offset) by_store, refl)

pub returns-in-Err-clause-ok : goal.returns-in-Err-clause-ok
returns-in-Err-clause-ok g c =
    let log = g.L.MetaLog.log in
    let l = log c.args.parts.now.log.inner in
    let near = to_z w64 (of_z w64 c.args.offset) in
    let f = c.in-Err.fault in
    let refused = subst (λ s. IsRefusal (made_by_snapshot (log s) near) f) c.inner_mut.ensures.lent c.in-Err.ensures.refused in
    rw c.after_log_fault.ensures (cut_fault _ l near f refused)

pub returns-in-Err-clause-disks : goal.returns-in-Err-clause-disks
returns-in-Err-clause-disks g c =
    let log = g.L.MetaLog.log in
    let disk = g.L.MetaLog.disk in
    let payload = g.L.MetaLog.payload_bytes in
    let l = log c.args.parts.now.log.inner in
    let old = disk c.args.parts.now.log.inner in
    let new = disk c.snapshot.new.self in
    let near = to_z w64 (of_z w64 c.args.offset) in
    let f = c.in-Err.fault in
    let lent = c.inner_mut.ensures.lent in
    let refused = subst (λ s. IsRefusal (made_by_snapshot (log s) near) f) lent c.in-Err.ensures.refused in
    let by_store = subst (λ s. ChangesDisk (IsTaken (made_by_snapshot (log s) near)) (payload (log s) (Snapshot near)) (answer_of_log_fault f) (disk s) new) lent c.in-Err.ensures.disk in
    let told = log_disk (made_by_snapshot l near) f (payload l (Snapshot near)) old new refused by_store in (
      subst (λ o. IsLogChange (made_by_snapshot l o) (payload l (Snapshot o)) c.after_log_fault.result old new) (to_z-of_z w64 c.args.offset c.ranges.offset)
          (subst (λ (r : Result Answer EventFault). IsLogChange (made_by_snapshot l near) (payload l (Snapshot near)) r old new) (sym c.after_log_fault.ensures) told),
      refl,
    )

pub returns-in-Err-clause-stop : goal.returns-in-Err-clause-stop
returns-in-Err-clause-stop g c =
    let log = g.L.MetaLog.log in
    let disk = g.L.MetaLog.disk in
    let p = c.args.parts.now in
    let later = c.snapshot.new.self in
    let w = world_of g.T.ZTree.tree log p in
    let made_world : Log → World = λ l. record { shared = record w.shared { log = l }; drivers = w.drivers } in
    let tree_disk = g.T.ZTree.disk p.tree.inner in
    let left = g.L.MetaLog.left later in
    let tree_left = g.T.ZTree.left p.tree.inner in
    let near = to_z w64 (of_z w64 c.args.offset) in
    let near_is = to_z-of_z w64 c.args.offset c.ranges.offset in
    let f = c.in-Err.fault in
    let lent = c.inner_mut.ensures.lent in
    let payload : Log → ℕ = λ l. g.L.MetaLog.payload_bytes l (Snapshot near) in
    let refused = subst (λ s. IsRefusal (made_by_snapshot (log s) near) f) lent c.in-Err.ensures.refused in
    let by_store = subst (λ s. ChangesDisk (IsTaken (made_by_snapshot (log s) near)) (payload (log s)) (answer_of_log_fault f) (disk s) (disk later)) lent c.in-Err.ensures.disk in
    let same = ap made_world (c.in-Err.ensures.same ∙ ap log lent) in
    let old = disks_of tree_disk (disk p.log.inner) in
    let pairs = pair_of (cut_world w).shared ∷ [] in
    subst (λ (r : Result Answer EventFault). FailureLeaves w pairs r old tree_left left) (sym c.after_log_fault.ensures)
    (log_fault_leaves _ w (made_world (log later)) pairs (made_by_snapshot w.shared.log near) (payload w.shared.log) f old (disks_of tree_disk (disk later)) tree_left left same refused by_store refl
    (record { tree = g.met.T.ZTree.settled p.tree.inner; log = g.met.L.MetaLog.settled later })
    (λ fails. subst (λ s. Between (log s) (made_by_snapshot (log s) near) left) lent (c.in-Err.ensures.stop fails))
    (λ m is. cut_pair w c.args.offset near m near_is c.requires.recorded is))
