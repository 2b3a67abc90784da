use Rattle.std.proofs.Common.{◌≡◌, true, [], ◌∷◌, Some, Err, sym, ap, ◌∙◌, rules}
use Rattle.kz_types.specs.declared.machine.Event.TheVariants as event
use Rattle.kz_spec_data.specs.Tree.{migration_record}
use Rattle.kz_spec_data.specs.Log.{Log, is_migrated_log}
use Rattle.kz_spec_machine.specs.Machine.{World, pair_of, cut_world, event_pairs, snapshot_offset, snapshot_refusal}
use Rattle.kz_world_parts.specs.Disks.{Disks, disks_of, payloads_of}
use Rattle.kz_world_parts.specs.declared.faults.EventFault.TheVariants as event_fault
use Rattle.kz_world_parts.specs.EventDisks.{disks_in}
use Rattle.kz_world_parts.specs.Worlds.{world_of_parts, world_of}
use Rattle.kz_world_parts.proofs.EventStops.{read_failure, still_failure, later_leaves}
use Rattle.kz_world_parts.proofs.Views.{read_keeps}
use Rattle.kz_world.proofs.Snapshots.{offset_in, taken, cut_pairs}
use Rattle.kz_world.proofs.Unread.{either, unread_cut}
use Rattle.kz_world.proofs.snapshot.snapshot.Goals as goal

pub returns-in-Err-clause-stop : goal.returns-in-Err-clause-stop
returns-in-Err-clause-stop g c =
    let p = c.args.parts.now in
    let q = c.read.new.parts in
    let world = world_of g.T.ZTree.tree g.L.MetaLog.log in
    let disks = disks_in g.T.ZTree.disk g.L.MetaLog.disk in
    read_failure (world p) (world q) (event_pairs (world p) event.Snapshot) (Err c.in-Err.fault) (disks (world_of_parts p)) (disks (world_of_parts q)) (g.T.ZTree.left q.tree.inner) (g.L.MetaLog.left q.log.inner) tt c.read.ensures.world c.in-Err.ensures.disks
    (record { tree = g.met.T.ZTree.settled q.tree.inner; log = g.met.L.MetaLog.settled q.log.inner })

pub returns-in-Err-clause-disks : goal.returns-in-Err-clause-disks
returns-in-Err-clause-disks g c =
    let w = world_of g.T.ZTree.tree g.L.MetaLog.log c.args.parts.now in
    let reads = c.in-Err.ensures.disks in
    either (snapshot_refusal w) _ _ (unread_cut w.shared.log (snapshot_offset (migration_record w.shared.tree) w.shared.log) (payloads_of g.T.ZTree.payload_bytes g.L.MetaLog.payload_bytes) c.in-Err.fault _ _ reads) reads

pub returns-in-Ok-Some-clause-stop : goal.returns-in-Ok-Some-clause-stop
returns-in-Ok-Some-clause-stop g c =
    let log = g.L.MetaLog.log in
    let disk = g.L.MetaLog.disk in
    let p = c.args.parts.now in
    let q = c.read.new.parts in
    let m = c.offset_of.new.log in
    let later = c.cut.new.parts in
    let world = world_of g.T.ZTree.tree log in
    let disks = disks_in g.T.ZTree.disk disk in
    let w = world p in
    let read = world q in
    let mid : World = record { shared = record read.shared { log = log m }; drivers = read.drivers } in
    let between : Disks = disks_of (g.T.ZTree.disk q.tree.inner) (disk m) in
    let lent = c.inner_mut.ensures.lent in
    let same_world = ap (λ (l : Log). record { shared = record read.shared { log = l }; drivers = read.drivers }) (c.in-Ok-Some.ensures.same ∙ ap log lent) ∙ c.read.ensures.world in
    let same_disks = ap (disks_of (g.T.ZTree.disk q.tree.inner)) (c.in-Ok-Some.ensures.disk ∙ ap disk lent) ∙ read_keeps (disks (world_of_parts p)) (disks (world_of_parts q)) c.in-Ok.ensures.disks.0.1 c.in-Ok.ensures.disks.1 in
    let here : is_migrated_log (log q.log.inner) ≡ true = search rules in
    let migrated = ap (λ (x : World). is_migrated_log x.shared.log) (sym c.read.ensures.world) ∙ here in
    let cuts : snapshot_offset (migration_record (g.T.ZTree.tree q.tree.inner)) (log m) ≡ Some c.in-Ok-Some.offset = search rules in
    let at = ap offset_in (sym same_world) ∙ cuts in
    let pairs = ap (λ (x : World). pair_of (cut_world x).shared ∷ []) same_world ∙ cut_pairs w (taken w c.in-Ok-Some.offset migrated at) in
    later_leaves w mid (pair_of (cut_world mid).shared ∷ []) (event_pairs w event.Snapshot) c.cut.result (disks (world_of_parts p)) between (g.T.ZTree.left later.tree.inner) (g.L.MetaLog.left later.log.inner) same_world same_disks pairs c.cut.ensures.stop

pub returns-in-Err-offset_of-clause-stop : goal.returns-in-Err-offset_of-clause-stop
returns-in-Err-offset_of-clause-stop g c =
    let log = g.L.MetaLog.log in
    let disk = g.L.MetaLog.disk in
    let p = c.args.parts.now in
    let q = c.read.new.parts in
    let m = c.offset_of.new.log in
    let world = world_of g.T.ZTree.tree log in
    let disks = disks_in g.T.ZTree.disk disk in
    let read = world q in
    let mid : World = record { shared = record read.shared { log = log m }; drivers = read.drivers } in
    let between : Disks = disks_of (g.T.ZTree.disk q.tree.inner) (disk m) in
    let lent = c.inner_mut.ensures.lent in
    let same_world = ap (λ (l : Log). record { shared = record read.shared { log = l }; drivers = read.drivers }) (c.in-Err-offset_of.ensures.same ∙ ap log lent) ∙ c.read.ensures.world in
    let same_disks = ap (disks_of (g.T.ZTree.disk q.tree.inner)) (c.in-Err-offset_of.ensures.disk ∙ ap disk lent) ∙ read_keeps (disks (world_of_parts p)) (disks (world_of_parts q)) c.in-Ok.ensures.disks.0.1 c.in-Ok.ensures.disks.1 in
    still_failure (world p) mid (event_pairs (world p) event.Snapshot) (Err event_fault.NoMemory) (disks (world_of_parts p)) between (g.T.ZTree.left q.tree.inner) (g.L.MetaLog.left m) same_world same_disks
    (record { tree = g.met.T.ZTree.settled q.tree.inner; log = g.met.L.MetaLog.settled m })
