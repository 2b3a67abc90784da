use Rattle.std.proofs.Common.{Result, ℕ, ℤ, sym, ap, subst, refl, ◌∙◌}
use Rattle.kz_types.specs.declared.machine.Answer.{Answer}
use Rattle.kz_types.specs.declared.machine.Event.TheVariants as event
use Rattle.kz_spec_data.specs.Requests.{Multi, IsTaken, ChangesDisk, Between, answer_of_tree_fault}
use Rattle.kz_spec_data.specs.Tree.{Tree, multi}
use Rattle.kz_tree.specs.Requests.{IsRefusal}
use Rattle.kz_spec_machine.specs.Machine.{World, event_pairs}
use Rattle.kz_world_parts.specs.Disks.{disks_of}
use Rattle.kz_world_parts.specs.declared.faults.EventFault.{EventFault}
use Rattle.kz_world_parts.specs.EventStops.{EventLeaves}
use Rattle.kz_world_parts.specs.Worlds.{world_of}
use Rattle.kz_world_parts.proofs.Outcomes.{multi_pair}
use Rattle.kz_world_parts.proofs.EventStops.{tree_fault_leaves}
use Rattle.kz_world.proofs.client.ask_tree.Goals as goal

pub returns-in-Err-clause-stop : goal.returns-in-Err-clause-stop
returns-in-Err-clause-stop g c =
    let tree = g.T.ZTree.tree in
    let disk = g.T.ZTree.disk in
    let p = c.args.parts.now in
    let later = c.multi.new.self in
    let w = world_of tree g.L.MetaLog.log p in
    let made_world : Tree → World = λ t. record { shared = record w.shared { tree = t }; drivers = w.drivers } in
    let log_disk = g.L.MetaLog.disk p.log.inner in
    let left = g.T.ZTree.left later in
    let log_left = g.L.MetaLog.left p.log.inner in
    let ops = c.args.ops.now in
    let f = c.in-Err.fault in
    let lent = c.inner_mut.ensures.lent in
    let payload : Tree → ℕ = λ t. g.T.ZTree.payload_bytes t (Multi ops) in
    let refused = subst (λ s. IsRefusal (multi (tree s) ops) f) lent c.in-Err.ensures.refused in
    let disk_is = subst (λ s. ChangesDisk (IsTaken (multi (tree s) ops)) (payload (tree s)) (answer_of_tree_fault f) (disk s) (disk later)) lent c.in-Err.ensures.disk in
    let same = ap made_world (c.in-Err.ensures.same ∙ ap tree lent) in
    subst (λ (r : Result Answer EventFault). EventLeaves w (event.Zk ops) r (disks_of (disk p.tree.inner) log_disk) left log_left) (sym c.after_tree_fault.ensures)
    (tree_fault_leaves ℤ w (made_world (tree later)) (event_pairs w (event.Zk ops)) (multi w.shared.tree ops) (payload w.shared.tree) f (disks_of (disk p.tree.inner) log_disk) (disks_of (disk later) log_disk) left log_left same refused disk_is refl
    (record { tree = g.met.T.ZTree.settled later; log = g.met.L.MetaLog.settled p.log.inner })
    (λ fails. subst (λ s. Between (tree s) (multi (tree s) ops) left) lent (c.in-Err.ensures.stop fails))
    (λ t is. multi_pair w ops t c.requires.taken is))
