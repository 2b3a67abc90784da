use Rattle.std.proofs.Common.{Err, ap, ◌∙◌}
use Rattle.kz_types.specs.declared.machine.Event.TheVariants as event
use Rattle.kz_spec_data.specs.Log.{Log}
use Rattle.kz_spec_data.specs.Requests.{Disk}
use Rattle.kz_spec_machine.specs.Machine.{World, event_pairs}
use Rattle.kz_world_parts.specs.Disks.{Disks, disks_of}
use Rattle.kz_world_parts.specs.declared.faults.EventFault.TheVariants as event_fault
use Rattle.kz_world_parts.specs.EventDisks.{disks_in}
use Rattle.kz_world_parts.specs.Worlds.{world_of_parts, world_of}
use Rattle.kz_world_parts.proofs.EventStops.{read_failure, still_failure}
use Rattle.kz_world_parts.proofs.Views.{read_keeps}
use Rattle.kz_world.proofs.checks.compare.Goals as goal

pub returns-in-Err-clause-stop : goal.returns-in-Err-clause-stop
returns-in-Err-clause-stop g c =
    let p = c.args.parts.now in
    let q = c.read.new.parts in
    let world = world_of g.T.ZTree.tree g.L.MetaLog.log in
    let disks = disks_in g.T.ZTree.disk g.L.MetaLog.disk in
    read_failure (world p) (world q) (event_pairs (world p) (event.Check)) (Err c.in-Err.fault) (disks (world_of_parts p)) (disks (world_of_parts q)) (g.T.ZTree.left q.tree.inner) (g.L.MetaLog.left q.log.inner) tt c.read.ensures.world c.in-Err.ensures.disks
    (record { tree = g.met.T.ZTree.settled q.tree.inner; log = g.met.L.MetaLog.settled q.log.inner })

pub returns-in-Err-verdict_over-clause-stop : goal.returns-in-Err-verdict_over-clause-stop
returns-in-Err-verdict_over-clause-stop g c =
    let log = g.L.MetaLog.log in
    let disk = g.L.MetaLog.disk in
    let p = c.args.parts.now in
    let q = c.read.new.parts in
    let later = c.verdict_over.new.log in
    let world = world_of g.T.ZTree.tree log in
    let disks = disks_in g.T.ZTree.disk disk in
    let lent = c.inner_mut.ensures.lent in
    let with_log : Log → World = λ l. record { shared = record (world q).shared { log = l }; drivers = q.drivers.items } in
    let with_disk : Disk → Disks = λ d. disks_of (g.T.ZTree.disk q.tree.inner) d in
    let same = ap with_log (c.verdict_over.ensures.same ∙ ap log lent) ∙ c.read.ensures.world in
    let same_disks = ap with_disk (c.verdict_over.ensures.disk ∙ ap disk lent) ∙ read_keeps (disks (world_of_parts p)) (disks (world_of_parts q)) c.in-Ok.ensures.disks.0.1 c.in-Ok.ensures.disks.1 in
    still_failure (world p) (with_log (log later)) (event_pairs (world p) event.Check) (Err event_fault.NoMemory) (disks (world_of_parts p)) (with_disk (disk later)) (g.T.ZTree.left q.tree.inner) (g.L.MetaLog.left later) same same_disks
    (record { tree = g.met.T.ZTree.settled q.tree.inner; log = g.met.L.MetaLog.settled later })
