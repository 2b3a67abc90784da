-- The records of a snapshot make the metadata that they are of.
use Rattle.std.specs.Prelude.{◌≡◌, ℤ}
use Rattle.kz_spec_data.specs.Metadata.{Image, empty_image}
use Rattle.kz_spec_data.specs.InOrder.{IsInOrder}
use Rattle.kz_laws_znodes.specs.RoundTrip.{IsWritable}
use Rattle.kz_spec_data.specs.SnapshotRecords.{image_after, snapshot_records}
use Rattle.kz_spec_data.specs.SnapshotBatches.{snapshot_batches, records_of_batches}

-- In every epoch.
abbrev pub SnapshotIsMetadata : Type 0
SnapshotIsMetadata = (i : Image) → IsInOrder i → IsWritable i → (epoch : ℤ) → image_after (snapshot_records epoch i) empty_image ≡ i

-- So do the records of its batches.
abbrev pub BatchesAreMetadata : Type 0
BatchesAreMetadata = (i : Image) → IsInOrder i → IsWritable i → (epoch : ℤ) → image_after (records_of_batches (snapshot_batches epoch i)) empty_image ≡ i
