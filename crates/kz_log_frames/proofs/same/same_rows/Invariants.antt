use Rattle.std.proofs.Common.{◌≡◌, drop}
use Rattle.kz_spec_data.specs.SnapshotBatches.{records_of_batches}
use Rattle.kz_spec_data.specs.LogFile.{same_records}
use Rattle.kz_log_frames.proofs.same.same_rows.Given as goal

abbrev pub invariant-loop-row : goal.invariant-loop-row
invariant-loop-row l = same_records (records_of_batches (drop l.row-index l.rows)) l.rest ≡ same_records (records_of_batches l.rows) l.others
