use Rattle.std.proofs.Common.{◌≡◌, ℕ, rules, ◌∙◌, refl, sym, ap, subst, w32, w64, to_z, of_z, List, Result, Ok}
use Rattle.std.specs.Prelude.{IfOk}
use Rattle.std.proofs.lemmas.Int.{to_z-of_z}
use mir.Val.{SFits}
use Rattle.kz_types.specs.declared.machine.Answer.{Answer}
use Rattle.kz_types.specs.declared.record.MetaRecord.{MetaRecord}
use Rattle.kz_types.specs.declared.machine.Answer.TheVariants as answer
use Rattle.kz_types.specs.declared.machine.Event.TheVariants as event
use Rattle.kz_spec_data.specs.Log.{Log, elect}
use Rattle.kz_spec_data.specs.Requests.{Elect, Done, IsTaken, ChangesDisk, Between, answer_of_log_fault}
use Rattle.kz_log.specs.Requests.{IsRefusal}
use Rattle.kz_log.specs.declared.store.Elected.{Elected}
use Rattle.kz_spec_machine.specs.Driver.{Driver}
use Rattle.kz_spec_machine.specs.Machine.{World, event_pairs}
use Rattle.kz_world_parts.specs.Disks.{disks_of}
use Rattle.kz_world_parts.specs.declared.faults.EventFault.{EventFault}
use Rattle.kz_world_parts.specs.Stores.{IsLogChange}
use Rattle.kz_world_parts.specs.EventStops.{EventLeaves}
use Rattle.kz_world_parts.specs.Worlds.{world_of, elected_drivers, IsDone, IsKept}
use Rattle.kz_log.proofs.Views.{elect_leaves_views}
use Rattle.kz_world_parts.proofs.Outcomes.{elected_done, election_refused, election_pair}
use Rattle.kz_world_parts.proofs.EventStops.{log_fault_leaves}
use Rattle.kz_world_parts.proofs.Told.{changed, log_disk}
use Rattle.kz_world_parts.proofs.Views.{kept_still, kept_elected}
use Rattle.kz_world.proofs.election.elect_running.Goals as goal

pub returns-in-Ok-clause-ok : goal.returns-in-Ok-clause-ok
returns-in-Ok-clause-ok g c =
    let log = g.L.MetaLog.log in
    let new = log c.elect.new.self in
    let items = c.args.items.now in
    let epoch_fits : SFits w32 c.in-Ok.elected.epoch = search rules in
    let end_fits : SFits w64 c.in-Ok.elected.end = search rules in
    let epoch = to_z w32 (of_z w32 c.in-Ok.elected.epoch) in
    let end = to_z w64 (of_z w64 c.in-Ok.elected.end) in
    let made = subst (λ s. elect (log s) (to_z w64 (of_z w64 c.args.now)) items ≡ Ok new) c.inner_mut.ensures.lent c.in-Ok.ensures.ok.0 in
    let w = world_of g.T.ZTree.tree log c.args.parts.now in (
      elected_done w c.args.id c.args.now items new c.elect_driver.new.drivers.items epoch end c.requires.running c.requires.items (ap (λ n. elect w.shared.log n items) (sym (to_z-of_z w64 c.args.now c.ranges.now)) ∙ made)
          (to_z-of_z w32 c.in-Ok.elected.epoch epoch_fits ∙ c.in-Ok.ensures.ok.1.epoch) (to_z-of_z w64 c.in-Ok.elected.end end_fits ∙ c.in-Ok.ensures.ok.1.end)
          (c.elect_driver.ensures ∙ ap (λ i. elected_drivers i epoch c.args.parts.now.drivers.items) (to_z-of_z w32 c.args.id c.ranges.id)),
      refl,
    )

pub returns-in-Ok-clause-kept : goal.returns-in-Ok-clause-kept
returns-in-Ok-clause-kept g c =
    let p = c.args.parts.now in
    let log = g.L.MetaLog.log in
    let new = log c.elect.new.self in
    let items = c.args.items.now in
    let n = to_z w64 (of_z w64 c.args.now) in
    let made = subst (λ s. elect (log s) n items ≡ Ok new) c.inner_mut.ensures.lent c.in-Ok.ensures.ok.0 in
    let still = kept_still p.tree.plan p.log.plan (log p.log.inner) new p.view p.drivers.items (λ v h. elect_leaves_views (log p.log.inner) new v n items (g.met.L.MetaLog.is_log p.log.inner) h made) c.requires.kept in
    subst (λ (ds : List Driver). IsKept p.tree.plan p.log.plan new p.view ds) (sym c.elect_driver.ensures) (kept_elected p.tree.plan p.log.plan new p.view _ _ p.drivers.items still)

pub returns-in-Err-clause-ok : goal.returns-in-Err-clause-ok
returns-in-Err-clause-ok g c =
    let log = g.L.MetaLog.log in
    let items = c.args.items.now in
    let w = world_of g.T.ZTree.tree log c.args.parts.now in
    let n = to_z w64 (of_z w64 c.args.now) in
    let lent = c.inner_mut.ensures.lent in
    let new : World = record { shared = record w.shared { log = log c.elect.new.self }; drivers = w.drivers } in
    let refused = subst (λ s. IsRefusal (elect (log s) n items) c.in-Err.fault) lent c.in-Err.ensures.refused in
    let same = ap (λ (l : Log). record w { shared = record w.shared { log = l } }) (c.in-Err.ensures.same ∙ ap log lent) in
    subst (λ x. IfOk c.after_log_fault.result (IsDone w (event.Elect c.args.id x) new)) (to_z-of_z w64 c.args.now c.ranges.now)
    (subst (λ (r : Result Answer EventFault). IfOk r (IsDone w (event.Elect c.args.id n) new)) (sym c.after_log_fault.ensures)
    (election_refused w c.args.id n items c.in-Err.fault new c.requires.running c.requires.items refused same))

pub returns-in-Ok-clause-disks : goal.returns-in-Ok-clause-disks
returns-in-Ok-clause-disks g c =
    let log = g.L.MetaLog.log in
    let disk = g.L.MetaLog.disk in
    let p = c.args.parts.now in
    let l = log p.log.inner in
    let later = c.elect.new.self in
    let old = disk p.log.inner in
    let new = disk later in
    let items = c.args.items.now in
    let n = to_z w64 (of_z w64 c.args.now) in
    let lent = c.inner_mut.ensures.lent in
    let payload = g.L.MetaLog.payload_bytes in
    let made = subst (λ s. elect (log s) n items ≡ Ok (log later)) lent c.in-Ok.ensures.ok.0 in
    let disk_is = subst (λ s. ChangesDisk (IsTaken (elect (log s) n items)) (payload (log s) (Elect n items)) Done (disk s) new) lent c.in-Ok.ensures.disk in
    let done : Result Answer EventFault = Ok (answer.Elected (to_z w32 (of_z w32 c.in-Ok.elected.epoch)) (to_z w64 (of_z w64 c.in-Ok.elected.end))) in (
      subst (λ (rs : List MetaRecord). IsLogChange (elect l c.args.now rs) (payload l (Elect c.args.now rs)) done old new) c.requires.items
          (subst (λ x. IsLogChange (elect l x items) (payload l (Elect x items)) done old new) (to_z-of_z w64 c.args.now c.ranges.now)
          (changed (elect l n items) (log later) (payload l (Elect n items)) old new made disk_is)),
      refl,
    )

pub returns-in-Err-clause-disks : goal.returns-in-Err-clause-disks
returns-in-Err-clause-disks g c =
    let log = g.L.MetaLog.log in
    let disk = g.L.MetaLog.disk in
    let p = c.args.parts.now in
    let l = log p.log.inner in
    let old = disk p.log.inner in
    let new = disk c.elect.new.self in
    let items = c.args.items.now in
    let n = to_z w64 (of_z w64 c.args.now) in
    let f = c.in-Err.fault in
    let lent = c.inner_mut.ensures.lent in
    let payload = g.L.MetaLog.payload_bytes in
    let refused = subst (λ s. IsRefusal (elect (log s) n items) f) lent c.in-Err.ensures.refused in
    let disk_is = subst (λ s. ChangesDisk (IsTaken (elect (log s) n items)) (payload (log s) (Elect n items)) (answer_of_log_fault f) (disk s) new) lent c.in-Err.ensures.disk in
    let told = log_disk (elect l n items) f (payload l (Elect n items)) old new refused disk_is in (
      subst (λ (rs : List MetaRecord). IsLogChange (elect l c.args.now rs) (payload l (Elect c.args.now rs)) c.after_log_fault.result old new) c.requires.items
          (subst (λ x. IsLogChange (elect l x items) (payload l (Elect x items)) c.after_log_fault.result old new) (to_z-of_z w64 c.args.now c.ranges.now)
          (subst (λ (r : Result Answer EventFault). IsLogChange (elect l n items) (payload l (Elect n items)) r old new) (sym c.after_log_fault.ensures) told)),
      refl,
    )

pub returns-in-Err-clause-stop : goal.returns-in-Err-clause-stop
returns-in-Err-clause-stop g c =
    let log = g.L.MetaLog.log in
    let disk = g.L.MetaLog.disk in
    let p = c.args.parts.now in
    let later = c.elect.new.self in
    let w = world_of g.T.ZTree.tree log p in
    let made_world : Log → World = λ l. record { shared = record w.shared { log = l }; drivers = w.drivers } in
    let tree_disk = g.T.ZTree.disk p.tree.inner in
    let left = g.L.MetaLog.left later in
    let tree_left = g.T.ZTree.left p.tree.inner in
    let id = c.args.id in
    let items = c.args.items.now in
    let n = to_z w64 (of_z w64 c.args.now) in
    let f = c.in-Err.fault in
    let lent = c.inner_mut.ensures.lent in
    let payload : Log → ℕ = λ l. g.L.MetaLog.payload_bytes l (Elect n items) in
    let refused = subst (λ s. IsRefusal (elect (log s) n items) f) lent c.in-Err.ensures.refused in
    let disk_is = subst (λ s. ChangesDisk (IsTaken (elect (log s) n items)) (payload (log s)) (answer_of_log_fault f) (disk s) (disk later)) lent c.in-Err.ensures.disk in
    let same = ap made_world (c.in-Err.ensures.same ∙ ap log lent) in
    let old = disks_of tree_disk (disk p.log.inner) in
    subst (λ x. EventLeaves w (event.Elect id x) c.after_log_fault.result old tree_left left) (to_z-of_z w64 c.args.now c.ranges.now)
    (subst (λ (r : Result Answer EventFault). EventLeaves w (event.Elect id n) r old tree_left left) (sym c.after_log_fault.ensures)
    (log_fault_leaves Elected w (made_world (log later)) (event_pairs w (event.Elect id n)) (elect w.shared.log n items) (payload w.shared.log) f old (disks_of tree_disk (disk later)) tree_left left same refused disk_is refl
    (record { tree = g.met.T.ZTree.settled p.tree.inner; log = g.met.L.MetaLog.settled later })
    (λ fails. subst (λ s. Between (log s) (elect (log s) n items) left) lent (c.in-Err.ensures.stop fails))
    (λ m is. election_pair w id n items m c.requires.running c.requires.items is)))
