use Rattle.std.proofs.Common.{◌≡◌, ℕ, ℤ, false, rules, Result, Ok, sym, ap, subst, refl, ◌∙◌, w32, w64, to_z, of_z}
use Rattle.std.specs.Prelude.{IfOk}
use Rattle.std.proofs.lemmas.Int.{to_z-of_z}
use mir.Val.{SFits}
use Rattle.kz_types.specs.declared.machine.Answer.{Answer}
use Rattle.kz_types.specs.declared.machine.Answer.TheVariants as answer
use Rattle.kz_spec_data.specs.Log.{Log, append}
use Rattle.kz_spec_data.specs.Requests.{Append, Done, IsTaken, ChangesDisk, Between, answer_of_log_fault}
use Rattle.kz_log.specs.Requests.{IsRefusal}
use Rattle.kz_spec_machine.specs.Machine.{World}
use Rattle.kz_spec_machine.specs.Failures.{is_failure}
use Rattle.kz_driver.specs.Disks.{disks_of}
use Rattle.kz_log.proofs.Views.{append_leaves_views}
use Rattle.kz_world_parts.specs.declared.faults.EventFault.{EventFault}
use Rattle.kz_world_parts.specs.Stores.{IsLogChange}
use Rattle.kz_world_parts.specs.EventStops.{FailureLeaves, append_pairs}
use Rattle.kz_world_parts.specs.Worlds.{world_of, world_after_append}
use Rattle.kz_world_parts.proofs.Outcomes.{append_done, append_refused, append_pair}
use Rattle.kz_world_parts.proofs.EventStops.{log_fault_leaves}
use Rattle.kz_world_parts.proofs.Told.{changed, log_disk}
use Rattle.kz_world_parts.proofs.Views.{kept_still}
use Rattle.kz_world_parts.proofs.appending.append.Goals as goal

pub returns-in-Ok-clause-kept : goal.returns-in-Ok-clause-kept
returns-in-Ok-clause-kept g c =
    let p = c.args.parts.now in
    let log = g.L.MetaLog.log in
    let new = log c.append.new.self in
    let records = c.args.records.now in
    let e = to_z w32 (of_z w32 c.epoch-epoch.result) in
    let n = to_z w64 (of_z w64 c.args.now) in
    let made = subst (λ s. append (log s) e n records ≡ Ok new) c.inner_mut.ensures.lent c.in-Ok.ensures.ok.0 in
    kept_still p.tree.plan p.log.plan (log p.log.inner) new p.view p.drivers.items (λ v h. append_leaves_views (log p.log.inner) new v e n records (g.met.L.MetaLog.is_log p.log.inner) h made) c.requires.kept

pub returns-in-Ok-clause-ok : goal.returns-in-Ok-clause-ok
returns-in-Ok-clause-ok g c =
    let log = g.L.MetaLog.log in
    let new = log c.append.new.self in
    let records = c.args.records.now in
    let w = world_of g.T.ZTree.tree log c.args.parts.now in
    let epoch_fits : SFits w32 c.epoch-epoch.result = search rules in
    let end_fits : SFits w64 c.in-Ok.offset = search rules in
    let e = to_z w32 (of_z w32 c.epoch-epoch.result) in
    let n = to_z w64 (of_z w64 c.args.now) in
    let epoch_is = to_z-of_z w32 c.epoch-epoch.result epoch_fits ∙ c.epoch-epoch.ensures ∙ ap (λ s. (log s).epoch) c.inner.ensures in
    let end_is = to_z-of_z w64 c.in-Ok.offset end_fits ∙ c.in-Ok.ensures.ok.1 in
    let made = subst (λ s. append (log s) e n records ≡ Ok new) c.inner_mut.ensures.lent c.in-Ok.ensures.ok.0 in (
      ap (world_after_append w records) (sym (to_z-of_z w64 c.args.now c.ranges.now))
          ∙ append_done w records n e (to_z w64 (of_z w64 c.in-Ok.offset)) new epoch_is made end_is,
      refl,
    )

pub returns-in-Err-clause-ok : goal.returns-in-Err-clause-ok
returns-in-Err-clause-ok g c =
    let log = g.L.MetaLog.log in
    let records = c.args.records.now in
    let w = world_of g.T.ZTree.tree log c.args.parts.now in
    let e = to_z w32 (of_z w32 c.epoch-epoch.result) in
    let n = to_z w64 (of_z w64 c.args.now) in
    let new : World = record { shared = record w.shared { log = log c.append.new.self }; drivers = w.drivers } in
    let epoch_fits : SFits w32 c.epoch-epoch.result = search rules in
    let epoch_is = to_z-of_z w32 c.epoch-epoch.result epoch_fits ∙ c.epoch-epoch.ensures ∙ ap (λ s. (log s).epoch) c.inner.ensures in
    let lent = c.inner_mut.ensures.lent in
    let refused = subst (λ s. IsRefusal (append (log s) e n records) c.in-Err.fault) lent c.in-Err.ensures.refused in
    let same = ap (λ (l : Log). record w { shared = record w.shared { log = l } }) (c.in-Err.ensures.same ∙ ap log lent) in
    subst (λ x. IfOk c.after_log_fault.result (λ a. (world_after_append w records x ≡ (new, a)) × (is_failure a ≡ false))) (to_z-of_z w64 c.args.now c.ranges.now)
    (subst (λ (r : Result Answer EventFault). IfOk r (λ a. (world_after_append w records n ≡ (new, a)) × (is_failure a ≡ false))) (sym c.after_log_fault.ensures)
    (append_refused w records n e c.in-Err.fault new epoch_is refused same))

pub returns-in-Ok-clause-disks : goal.returns-in-Ok-clause-disks
returns-in-Ok-clause-disks g c =
    let log = g.L.MetaLog.log in
    let disk = g.L.MetaLog.disk in
    let p = c.args.parts.now in
    let l = log p.log.inner in
    let later = c.append.new.self in
    let old = disk p.log.inner in
    let new = disk later in
    let records = c.args.records.now in
    let epoch_fits : SFits w32 c.epoch-epoch.result = search rules in
    let epoch_is = to_z-of_z w32 c.epoch-epoch.result epoch_fits ∙ c.epoch-epoch.ensures ∙ ap (λ s. (log s).epoch) c.inner.ensures in
    let e = to_z w32 (of_z w32 c.epoch-epoch.result) in
    let n = to_z w64 (of_z w64 c.args.now) in
    let lent = c.inner_mut.ensures.lent in
    let payload = g.L.MetaLog.payload_bytes in
    let made = subst (λ s. append (log s) e n records ≡ Ok (log later)) lent c.in-Ok.ensures.ok.0 in
    let disk_is = subst (λ s. ChangesDisk (IsTaken (append (log s) e n records)) (payload (log s) (Append e n records)) Done (disk s) new) lent c.in-Ok.ensures.disk in
    let done : Result Answer EventFault = Ok (answer.Appended (to_z w64 (of_z w64 c.in-Ok.offset))) in (
      subst (λ x. IsLogChange (append l l.epoch x records) (payload l (Append l.epoch x records)) done old new) (to_z-of_z w64 c.args.now c.ranges.now)
          (subst (λ x. IsLogChange (append l x n records) (payload l (Append x n records)) done old new) epoch_is
          (changed (append l e n records) (log later) (payload l (Append e n records)) old new made disk_is)),
      refl,
    )

pub returns-in-Err-clause-disks : goal.returns-in-Err-clause-disks
returns-in-Err-clause-disks g c =
    let log = g.L.MetaLog.log in
    let disk = g.L.MetaLog.disk in
    let p = c.args.parts.now in
    let l = log p.log.inner in
    let old = disk p.log.inner in
    let new = disk c.append.new.self in
    let records = c.args.records.now in
    let epoch_fits : SFits w32 c.epoch-epoch.result = search rules in
    let epoch_is = to_z-of_z w32 c.epoch-epoch.result epoch_fits ∙ c.epoch-epoch.ensures ∙ ap (λ s. (log s).epoch) c.inner.ensures in
    let e = to_z w32 (of_z w32 c.epoch-epoch.result) in
    let n = to_z w64 (of_z w64 c.args.now) in
    let f = c.in-Err.fault in
    let lent = c.inner_mut.ensures.lent in
    let payload = g.L.MetaLog.payload_bytes in
    let refused = subst (λ s. IsRefusal (append (log s) e n records) f) lent c.in-Err.ensures.refused in
    let disk_is = subst (λ s. ChangesDisk (IsTaken (append (log s) e n records)) (payload (log s) (Append e n records)) (answer_of_log_fault f) (disk s) new) lent c.in-Err.ensures.disk in
    let told = log_disk (append l e n records) f (payload l (Append e n records)) old new refused disk_is in (
      subst (λ x. IsLogChange (append l l.epoch x records) (payload l (Append l.epoch x records)) c.after_log_fault.result old new) (to_z-of_z w64 c.args.now c.ranges.now)
          (subst (λ x. IsLogChange (append l x n records) (payload l (Append x n records)) c.after_log_fault.result old new) epoch_is
          (subst (λ (r : Result Answer EventFault). IsLogChange (append l e n records) (payload l (Append e n records)) r old new) (sym c.after_log_fault.ensures) told)),
      refl,
    )

pub returns-in-Err-clause-stop : goal.returns-in-Err-clause-stop
returns-in-Err-clause-stop g c =
    let log = g.L.MetaLog.log in
    let disk = g.L.MetaLog.disk in
    let p = c.args.parts.now in
    let later = c.append.new.self in
    let w = world_of g.T.ZTree.tree log p in
    let made_world : Log → World = λ l. record { shared = record w.shared { log = l }; drivers = w.drivers } in
    let tree_disk = g.T.ZTree.disk p.tree.inner in
    let left = g.L.MetaLog.left later in
    let tree_left = g.T.ZTree.left p.tree.inner in
    let records = c.args.records.now in
    let epoch_fits : SFits w32 c.epoch-epoch.result = search rules in
    let epoch_is = to_z-of_z w32 c.epoch-epoch.result epoch_fits ∙ c.epoch-epoch.ensures ∙ ap (λ s. (log s).epoch) c.inner.ensures in
    let e = to_z w32 (of_z w32 c.epoch-epoch.result) in
    let n = to_z w64 (of_z w64 c.args.now) in
    let f = c.in-Err.fault in
    let lent = c.inner_mut.ensures.lent in
    let payload : Log → ℕ = λ l. g.L.MetaLog.payload_bytes l (Append e n records) in
    let refused = subst (λ s. IsRefusal (append (log s) e n records) f) lent c.in-Err.ensures.refused in
    let disk_is = subst (λ s. ChangesDisk (IsTaken (append (log s) e n records)) (payload (log s)) (answer_of_log_fault f) (disk s) (disk later)) lent c.in-Err.ensures.disk in
    let same = ap made_world (c.in-Err.ensures.same ∙ ap log lent) in
    let old = disks_of tree_disk (disk p.log.inner) in
    subst (λ x. FailureLeaves w (append_pairs w records x) c.after_log_fault.result old tree_left left) (to_z-of_z w64 c.args.now c.ranges.now)
    (subst (λ (r : Result Answer EventFault). FailureLeaves w (append_pairs w records n) r old tree_left left) (sym c.after_log_fault.ensures)
    (log_fault_leaves ℤ w (made_world (log later)) (append_pairs w records n) (append w.shared.log e n records) (payload w.shared.log) f old (disks_of tree_disk (disk later)) tree_left left same refused disk_is refl
    (record { tree = g.met.T.ZTree.settled p.tree.inner; log = g.met.L.MetaLog.settled later })
    (λ fails. subst (λ s. Between (log s) (append (log s) e n records) left) lent (c.in-Err.ensures.stop fails))
    (λ m is. append_pair w records n e m epoch_is is)))
