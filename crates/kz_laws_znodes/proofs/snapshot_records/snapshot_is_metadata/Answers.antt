use Rattle.kz_laws_znodes.proofs.WholeSnapshotRecords.{records_return}
use Rattle.kz_laws_znodes.proofs.Batches.{batches_return}
use Rattle.kz_laws_znodes.proofs.snapshot_records.snapshot_is_metadata.Goals as goal

pub returns-clause-records : goal.returns-clause-records
returns-clause-records c = records_return

pub returns-clause-batches : goal.returns-clause-batches
returns-clause-batches c = batches_return
