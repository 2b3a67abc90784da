use Rattle.kz_laws_znodes.proofs.WholeSnapshotFiles.{snapshot_read_back, batches_read_back}
use Rattle.kz_laws_znodes.proofs.snapshot_files.snapshot_is_read_back.Goals as goal

pub returns-clause-records : goal.returns-clause-records
returns-clause-records c = snapshot_read_back

pub returns-clause-batches : goal.returns-clause-batches
returns-clause-batches c = batches_read_back
