-- What is read of a snapshot that was written.
use Rattle.std.specs.Prelude.{◌≡◌, ◌<◌, ◌≤◌, ◌^◌, ℤ, true, length, Ok, All}
use Rattle.std.specs.Int.{w32}
use Rattle.std.specs.Int.RustNames.{FitsSigned}
use Rattle.kz_types.specs.declared.limits.TheConstants.{MAX_FILE_BYTES}
use Rattle.kz_types.specs.declared.log.BatchRow.{BatchRow}
use Rattle.kz_types.specs.declared.log.EpochRecord.{EpochRecord}
use Rattle.kz_types.specs.declared.record.MetaRecord.{MetaRecord}
use Rattle.kz_spec_data.specs.Records.{bytes_of_record, record_of}
use Rattle.kz_spec_data.specs.InOrder.{IsInOrder}
use Rattle.kz_spec_data.specs.Log.{Log, IsLog, image_at, may_be_base, snapshot}
use Rattle.kz_spec_data.specs.SnapshotRecords.{snapshot_records}
use Rattle.kz_spec_data.specs.SnapshotBatches.{snapshot_batches}
use Rattle.kz_spec_data.specs.LogFile.{after_payload, snapshot_payload}
use Rattle.kz_laws_values.specs.Texts.{AreBytes}
use Rattle.kz_laws_znodes.specs.RoundTrip.{IsWritable}

-- A record's bytes are bytes and are read as the record, where they are fewer than 2^32: a record with more isn't written.
pub record IsReadBack (r : MetaRecord) : Type 0 where
  pub bytes : length (bytes_of_record r) < 2 ^ 32 → AreBytes (bytes_of_record r)
  pub read : length (bytes_of_record r) < 2 ^ 32 → record_of (bytes_of_record r) ≡ Ok r

-- A record is read back, and its epoch fits 32 bits.
pub record IsEpochReadBack (r : EpochRecord) : Type 0 where
  pub epoch : FitsSigned w32 r.epoch
  pub item : IsReadBack r.item

-- Each record of a batch is read back, and the batch's epoch fits 32 bits.
pub record IsBatchReadBack (b : BatchRow) : Type 0 where
  pub epoch : FitsSigned w32 b.epoch
  pub items : All IsReadBack b.items

-- A snapshot of a log may be written at an offset: the log may be cut there, its epoch fits 32 bits, its metadata there is in
-- order, with texts and numbers such as a program holds, and the bytes are no more than a file may have.
pub record MayBeWritten (l : Log) (at : ℤ) : Type 0 where
  pub log : IsLog l
  pub base : may_be_base l at ≡ true
  pub epoch : FitsSigned w32 l.epoch
  pub order : IsInOrder (image_at l at)
  pub writable : IsWritable (image_at l at)
  pub size : length (snapshot_payload l at) ≤ MAX_FILE_BYTES

-- Such a snapshot is read back as the log that is cut there, where each of its records is read back.
abbrev pub SnapshotIsReadBack : Type 0
SnapshotIsReadBack = (l : Log) (at : ℤ) → MayBeWritten l at → All IsEpochReadBack (snapshot_records l.epoch (image_at l at)) → after_payload l (snapshot_payload l at) ≡ Ok (snapshot l at)

-- And where each of its batches is.
abbrev pub BatchesAreReadBack : Type 0
BatchesAreReadBack = (l : Log) (at : ℤ) → MayBeWritten l at → All IsBatchReadBack (snapshot_batches l.epoch (image_at l at)) → after_payload l (snapshot_payload l at) ≡ Ok (snapshot l at)
