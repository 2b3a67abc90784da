use Rattle.kz_disk.proofs.Past.{left_by_sync}
use Rattle.kz_disk.proofs.memory.MemoryDiskDisk.sync.Goals as goal

pub returns-clause-stop : goal.returns-clause-stop
returns-clause-stop c left now = left_by_sync c.args.self.now.start.items c.args.self.now.changes.items _ left c.args.self.now.in_range c.in-Ok.ensures.items now
