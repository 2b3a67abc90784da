use Rattle.std.proofs.Common.{Err, refl}
use Rattle.kz_types.specs.declared.machine.Event.TheVariants as event
use Rattle.kz_spec_machine.specs.Machine.{event_pairs}
use Rattle.kz_world_parts.specs.declared.faults.EventFault.TheVariants as event_fault
use Rattle.kz_world_parts.specs.EventDisks.{disks_in}
use Rattle.kz_world_parts.specs.Worlds.{world_of_parts, world_of}
use Rattle.kz_world_parts.proofs.EventStops.{still_failure}
use Rattle.kz_world.proofs.client.ask.Goals as goal

pub returns-in-Err-clause-stop : goal.returns-in-Err-clause-stop
returns-in-Err-clause-stop g c =
    let p = c.args.parts.now in
    let w = world_of g.T.ZTree.tree g.L.MetaLog.log p in
    let disks = disks_in g.T.ZTree.disk g.L.MetaLog.disk (world_of_parts p) in
    still_failure w w (event_pairs w (event.Zk c.args.ops.now)) (Err event_fault.NoMemory) disks disks (g.T.ZTree.left p.tree.inner) (g.L.MetaLog.left p.log.inner) refl refl
    (record { tree = g.met.T.ZTree.settled p.tree.inner; log = g.met.L.MetaLog.settled p.log.inner })
