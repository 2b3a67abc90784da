use Rattle.std.proofs.Common.{◌≡◌, cond, [], ◌∷◌, ◌++◌, None, Err, ◌∙◌, sym, ap, subst, w32, w64, to_z, of_z}
use Rattle.std.specs.Ordering.{int_eq}
use Rattle.std.proofs.lemmas.Int.{to_z-of_z}
use Rattle.kz_types.specs.declared.codes.TheConstants.{NO_MIGRATION, PRE_MIGRATION}
use Rattle.kz_types.specs.declared.machine.Event.TheVariants as event
use Rattle.kz_types.specs.declared.record.MetaRecord.TheVariants as meta
use Rattle.kz_spec_data.specs.Log.{Log, IsLog, begun_of, image_of}
use Rattle.kz_spec_data.specs.Image.{Image}
use Rattle.kz_spec_machine.specs.Machine.{election_records, running_refusal, event_pairs}
use Rattle.kz_world_parts.specs.Disks.{Disks, payloads_of}
use Rattle.kz_world_parts.specs.declared.faults.EventFault.TheVariants as event_fault
use Rattle.kz_world_parts.specs.EventDisks.{disks_in, ElectsController}
use Rattle.kz_world_parts.specs.Worlds.{world_of_parts, world_of, records_on_election}
use Rattle.kz_log.proofs.Views.{open_is_begun}
use Rattle.kz_world_parts.proofs.Outcomes.{unless_none}
use Rattle.kz_world_parts.proofs.EventStops.{read_failure, still_failure, event_later}
use Rattle.kz_world_parts.proofs.Views.{read_keeps}
use Rattle.kz_world.proofs.election.elect.Goals as goal

-- what is known of the log says what an election writes
election_is : (l : Log) → IsLog l → records_on_election (begun_of l) (image_of l).state ≡ election_records l
election_is l h =
    ap (λ b. meta.NoOp ∷ (cond b (meta.AbortTransaction None ∷ []) [] ++ cond (int_eq (image_of l).state NO_MIGRATION) (meta.ZkMigrationState PRE_MIGRATION ∷ []) [])) (sym (open_is_begun l h))

pub elect_running-requires-clause-items : goal.elect_running-requires-clause-items
elect_running-requires-clause-items g c =
    let v = c.read.new.parts.view in
    let l = g.L.MetaLog.log c.read.new.parts.log.inner in
    let begun_is = c.in-Ok.ensures.begun ∙ ap begun_of (sym c.read.ensures.same) in
    let image_is = c.in-Ok.ensures.image ∙ ap image_of (sym c.read.ensures.same) in
    c.deref.ensures.value ∙ c.in-Ok-election_records.ensures ∙ ap (λ b. records_on_election b v.image.state) begun_is ∙ ap (λ (i : Image). records_on_election (begun_of l) i.state) image_is
    ∙ election_is l (g.met.L.MetaLog.is_log c.read.new.parts.log.inner)

pub returns-clause-disks : goal.returns-clause-disks
returns-clause-disks g c =
    let log = g.L.MetaLog.log in
    let disks = disks_in g.T.ZTree.disk g.L.MetaLog.disk in
    let payloads = payloads_of g.T.ZTree.payload_bytes g.L.MetaLog.payload_bytes in
    let p = c.args.parts.now in
    let q = c.read.new.parts in
    let r = c.elect_running.new.parts in
    let w = world_of g.T.ZTree.tree log p in
    let n = to_z w64 (of_z w64 c.args.now) in
    let runs = ap (running_refusal w) (sym (to_z-of_z w32 c.args.id c.ranges.id)) ∙ sym c.running_refusal.ensures.refusal ∙ c.in_default.is in
    let same = read_keeps (disks (world_of_parts p)) (disks (world_of_parts q)) c.in-Ok.ensures.disks.0.1 c.in-Ok.ensures.disks.1 in
    unless_none (running_refusal w c.args.id) _ _ runs
    (subst (λ x. ElectsController (log p.log.inner) x payloads c.elect_running.result (disks (world_of_parts p)) (disks (world_of_parts r))) (to_z-of_z w64 c.args.now c.ranges.now)
    (subst (λ (l : Log). ElectsController l n payloads c.elect_running.result (disks (world_of_parts p)) (disks (world_of_parts r))) c.read.ensures.same
    (subst (λ (x : Disks). ElectsController (log q.log.inner) n payloads c.elect_running.result x (disks (world_of_parts r))) same c.elect_running.ensures.disks)))

pub returns-in-Err-clause-stop : goal.returns-in-Err-clause-stop
returns-in-Err-clause-stop g c =
    let p = c.args.parts.now in
    let q = c.read.new.parts in
    let world = world_of g.T.ZTree.tree g.L.MetaLog.log in
    let disks = disks_in g.T.ZTree.disk g.L.MetaLog.disk in
    read_failure (world p) (world q) (event_pairs (world p) (event.Elect c.args.id c.args.now)) (Err c.in-Err.fault) (disks (world_of_parts p)) (disks (world_of_parts q)) (g.T.ZTree.left q.tree.inner) (g.L.MetaLog.left q.log.inner) tt c.read.ensures.world c.in-Err.ensures.disks
    (record { tree = g.met.T.ZTree.settled q.tree.inner; log = g.met.L.MetaLog.settled q.log.inner })

pub returns-in_default-election_records-clause-stop : goal.returns-in_default-election_records-clause-stop
returns-in_default-election_records-clause-stop g c =
    let p = c.args.parts.now in
    let q = c.read.new.parts in
    let world = world_of g.T.ZTree.tree g.L.MetaLog.log in
    let disks = disks_in g.T.ZTree.disk g.L.MetaLog.disk in
    let same = read_keeps (disks (world_of_parts p)) (disks (world_of_parts q)) c.in-Ok.ensures.disks.0.1 c.in-Ok.ensures.disks.1 in
    still_failure (world p) (world q) (event_pairs (world p) (event.Elect c.args.id c.args.now)) (Err event_fault.NoMemory) (disks (world_of_parts p)) (disks (world_of_parts q)) (g.T.ZTree.left q.tree.inner) (g.L.MetaLog.left q.log.inner) c.read.ensures.world same
    (record { tree = g.met.T.ZTree.settled q.tree.inner; log = g.met.L.MetaLog.settled q.log.inner })

pub returns-clause-stop : goal.returns-clause-stop
returns-clause-stop g c =
    let world = world_of g.T.ZTree.tree g.L.MetaLog.log in
    let disks = disks_in g.T.ZTree.disk g.L.MetaLog.disk in
    let p = c.args.parts.now in
    let q = c.read.new.parts in
    let r = c.elect_running.new.parts in
    let id = to_z w32 (of_z w32 c.args.id) in
    let same = read_keeps (disks (world_of_parts p)) (disks (world_of_parts q)) c.in-Ok.ensures.disks.0.1 c.in-Ok.ensures.disks.1 in
    event_later (world p) (world q) (event.Elect id (to_z w64 (of_z w64 c.args.now))) (event.Elect c.args.id c.args.now) c.elect_running.result (disks (world_of_parts p)) (disks (world_of_parts q)) (g.T.ZTree.left r.tree.inner) (g.L.MetaLog.left r.log.inner) c.read.ensures.world same
    (ap (event.Elect id) (to_z-of_z w64 c.args.now c.ranges.now) ∙ ap (λ i. event.Elect i c.args.now) (to_z-of_z w32 c.args.id c.ranges.id)) c.elect_running.ensures.stop
