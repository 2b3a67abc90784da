use Rattle.std.proofs.Common.{◌≡◌, take}
use Rattle.kz_spec_data.specs.Metadata.{empty_image}
use Rattle.kz_spec_data.specs.SnapshotRecords.{image_after}
use Rattle.kz_spec_data.specs.SnapshotBatches.{records_of_batches}
use Rattle.kz_snapshot.proofs.read.from_rows.Given as goal

abbrev pub invariant-loop-row : goal.invariant-loop-row
invariant-loop-row l = l.image ≡ image_after (records_of_batches (take l.row-index l.rows)) empty_image
