use Rattle.kz_world.specs.Worlds.{plain_world}
use Rattle.kz_world.specs.EventDisks.{disks_in}
use Rattle.kz_world.specs.Disks.{payloads_of}
use Rattle.kz_stream.proofs.Events.{answer_disks}
use Rattle.kz_replay.proofs.machine.ReplayerMachine.event.Goals as goal

pub returns-clause-disks : goal.returns-clause-disks
returns-clause-disks g c = λ sound up.
    let world = plain_world g.T.ZTree.tree g.L.MetaLog.log in
    let disks = disks_in g.T.ZTree.disk g.L.MetaLog.disk in
    answer_disks (world c.args.self.now.world) (world c.event.new.self) c.args.event.now (payloads_of g.T.ZTree.payload_bytes g.L.MetaLog.payload_bytes) c.event.result
    (disks c.args.self.now.world) (disks c.event.new.self) up (c.event.ensures.disks sound) (c.event.ensures.failed sound)
