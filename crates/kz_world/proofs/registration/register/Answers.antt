use Rattle.std.proofs.Common.{Err, List, [], ◌∷◌, ◌∙◌, sym, ap, w32, w64, to_z, of_z}
use Rattle.std.proofs.lemmas.Int.{to_z-of_z}
use Rattle.kz_types.specs.declared.machine.Event.TheVariants as event
use Rattle.kz_types.specs.declared.record.MetaRecord.{MetaRecord}
use Rattle.kz_spec_machine.specs.Machine.{World, leader_refusal, registration, next, event_pairs}
use Rattle.kz_world_parts.specs.EventDisks.{disks_in}
use Rattle.kz_world_parts.specs.EventStops.{append_pairs}
use Rattle.kz_world_parts.specs.Worlds.{world_of_parts, world_of, world_after_append}
use Rattle.kz_world_parts.proofs.Outcomes.{told_by, register_appends, register_pairs}
use Rattle.kz_world_parts.proofs.EventStops.{read_failure, later_leaves}
use Rattle.kz_world_parts.proofs.Views.{read_keeps}
use Rattle.kz_world.proofs.registration.register.Goals as goal

pub returns-in-None-clause-ok : goal.returns-in-None-clause-ok
returns-in-None-clause-ok g c =
    let w = world_of g.T.ZTree.tree g.L.MetaLog.log c.args.parts.now in
    let id = c.args.id in
    let broker = c.args.broker in
    let migrating = c.args.migrating in
    let records = c.registration.result ∷ [] in
    let now = to_z w64 (of_z w64 c.args.now) in
    let leads = ap (leader_refusal w) (sym (to_z-of_z w32 id c.ranges.id)) ∙ sym c.leader_refusal.ensures.refusal ∙ c.in_default.is in
    let none = sym c.in-Ok.ensures.begun ∙ sym c.begun.ensures ∙ c.in-None.is in
    let records_are = sym (c.registration.ensures ∙ ap (λ b. registration b migrating) (to_z-of_z w32 broker c.ranges.broker)) in
    told_by c.append.result (next w (event.Register id broker migrating c.args.now)) (world_after_append (world_of g.T.ZTree.tree g.L.MetaLog.log c.read.new.parts) records now) (world_of g.T.ZTree.tree g.L.MetaLog.log c.append.new.parts)
    (ap (λ n. next w (event.Register id broker migrating n)) (sym (to_z-of_z w64 c.args.now c.ranges.now)) ∙ register_appends w id broker migrating now leads none ∙ ap (λ rs. world_after_append w rs now) records_are
    ∙ ap (λ (x : World). world_after_append x records now) (sym c.read.ensures.world)) c.append.ensures.ok

pub returns-in-Err-clause-stop : goal.returns-in-Err-clause-stop
returns-in-Err-clause-stop g c =
    let p = c.args.parts.now in
    let q = c.read.new.parts in
    let world = world_of g.T.ZTree.tree g.L.MetaLog.log in
    let disks = disks_in g.T.ZTree.disk g.L.MetaLog.disk in
    read_failure (world p) (world q) (event_pairs (world p) (event.Register c.args.id c.args.broker c.args.migrating c.args.now)) (Err c.in-Err.fault) (disks (world_of_parts p)) (disks (world_of_parts q)) (g.T.ZTree.left q.tree.inner) (g.L.MetaLog.left q.log.inner) tt c.read.ensures.world c.in-Err.ensures.disks
    (record { tree = g.met.T.ZTree.settled q.tree.inner; log = g.met.L.MetaLog.settled q.log.inner })

pub returns-in-None-clause-stop : goal.returns-in-None-clause-stop
returns-in-None-clause-stop g c =
    let world = world_of g.T.ZTree.tree g.L.MetaLog.log in
    let disks = disks_in g.T.ZTree.disk g.L.MetaLog.disk in
    let p = c.args.parts.now in
    let q = c.read.new.parts in
    let later = c.append.new.parts in
    let w = world p in
    let id = c.args.id in
    let broker = c.args.broker in
    let migrating = c.args.migrating in
    let records = c.registration.result ∷ [] in
    let n = to_z w64 (of_z w64 c.args.now) in
    let leads = ap (leader_refusal w) (sym (to_z-of_z w32 id c.ranges.id)) ∙ sym c.leader_refusal.ensures.refusal ∙ c.in_default.is in
    let none = sym c.in-Ok.ensures.begun ∙ sym c.begun.ensures ∙ c.in-None.is in
    let records_are = c.registration.ensures ∙ ap (λ b. registration b migrating) (to_z-of_z w32 broker c.ranges.broker) in
    let same = read_keeps (disks (world_of_parts p)) (disks (world_of_parts q)) c.in-Ok.ensures.disks.0.1 c.in-Ok.ensures.disks.1 in
    let pairs = ap (λ (x : World). append_pairs x records n) c.read.ensures.world ∙ ap (append_pairs w records) (to_z-of_z w64 c.args.now c.ranges.now) ∙ ap (λ (rs : List MetaRecord). append_pairs w rs c.args.now) records_are
    ∙ register_pairs w id broker migrating c.args.now leads none in
    later_leaves w (world q) (append_pairs (world q) records n) (event_pairs w (event.Register id broker migrating c.args.now)) c.append.result (disks (world_of_parts p)) (disks (world_of_parts q)) (g.T.ZTree.left later.tree.inner) (g.L.MetaLog.left later.log.inner) c.read.ensures.world same pairs c.append.ensures.stop
