use Rattle.std.proofs.Common.{Result, ℕ, ℤ, sym, ap, subst, refl, ◌∙◌, w64, to_z, of_z}
use Rattle.std.proofs.lemmas.Int.{to_z-of_z}
use Rattle.kz_types.specs.declared.machine.Answer.{Answer}
use Rattle.kz_types.specs.declared.machine.Event.TheVariants as event
use Rattle.kz_spec_data.specs.Requests.{EndSession, IsTaken, ChangesDisk, Between}
use Rattle.kz_spec_data.specs.Tree.{Tree, end_session}
use Rattle.kz_session.specs.Sessions.{answer_of_session_fault, IsRefusal}
use Rattle.kz_spec_machine.specs.Machine.{World, event_pairs}
use Rattle.kz_world_parts.specs.Disks.{disks_of}
use Rattle.kz_world_parts.specs.declared.faults.EventFault.{EventFault}
use Rattle.kz_world_parts.specs.EventStops.{EventLeaves}
use Rattle.kz_world_parts.specs.Worlds.{world_of}
use Rattle.kz_world_parts.proofs.Outcomes.{end_pair}
use Rattle.kz_world_parts.proofs.EventStops.{session_fault_leaves}
use Rattle.kz_world.proofs.sessions.expire.Goals as goal

pub returns-in-Err-clause-stop : goal.returns-in-Err-clause-stop
returns-in-Err-clause-stop g c =
    let tree = g.T.ZTree.tree in
    let disk = g.T.ZTree.disk in
    let p = c.args.parts.now in
    let later = c.end_session.new.self in
    let w = world_of tree g.L.MetaLog.log p in
    let made_world : Tree → World = λ t. record { shared = record w.shared { tree = t }; drivers = w.drivers } in
    let log_disk = g.L.MetaLog.disk p.log.inner in
    let left = g.T.ZTree.left later in
    let log_left = g.L.MetaLog.left p.log.inner in
    let n = to_z w64 (of_z w64 c.args.session) in
    let f = c.in-Err.fault in
    let lent = c.inner_mut.ensures.lent in
    let payload : Tree → ℕ = λ t. g.T.ZTree.payload_bytes t (EndSession n) in
    let refused = subst (λ s. IsRefusal (end_session (tree s) n) f) lent c.in-Err.ensures.refused in
    let disk_is = subst (λ s. ChangesDisk (IsTaken (end_session (tree s) n)) (payload (tree s)) (answer_of_session_fault f) (disk s) (disk later)) lent c.in-Err.ensures.disk in
    let same = ap made_world (c.in-Err.ensures.same ∙ ap tree lent) in
    subst (λ x. EventLeaves w (event.ZkExpire x) c.after_session_fault.result (disks_of (disk p.tree.inner) log_disk) left log_left) (to_z-of_z w64 c.args.session c.ranges.session)
    (subst (λ (r : Result Answer EventFault). EventLeaves w (event.ZkExpire n) r (disks_of (disk p.tree.inner) log_disk) left log_left) (sym c.after_session_fault.ensures)
    (session_fault_leaves ℤ w (made_world (tree later)) (event_pairs w (event.ZkExpire n)) (end_session w.shared.tree n) (payload w.shared.tree) f (disks_of (disk p.tree.inner) log_disk) (disks_of (disk later) log_disk) left log_left same refused disk_is refl
    (record { tree = g.met.T.ZTree.settled later; log = g.met.L.MetaLog.settled p.log.inner })
    (λ fails. subst (λ s. Between (tree s) (end_session (tree s) n) left) lent (c.in-Err.ensures.stop fails))
    (end_pair w n)))
