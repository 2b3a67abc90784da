-- What is written for a change of a log.
use Rattle.std.specs.Prelude.{◌≡◌, ◌<◌, ◌≤◌, ◌+◌, ◌^◌, ℕ, ℤ, pos, ◌+ℤ◌, List, [], ◌∷◌, ◌++◌, length, Ok, ⊤}
use Rattle.std.specs.List.{flat_map}
use Rattle.std.specs.Int.{w32, w64, to_be_bytes, cast_unsigned}
use Rattle.kz_types.specs.declared.limits.TheConstants.{MAX_FILE_BYTES}
use Rattle.kz_types.specs.declared.log.BatchRow.{BatchRow}
use Rattle.kz_types.specs.declared.record.MetaRecord.{MetaRecord}
use Rattle.kz_spec_data.specs.Records.{bytes_of_record, record_of}
use Rattle.kz_spec_data.specs.Metadata.{Image}
use Rattle.kz_spec_data.specs.Log.{Log, new_batch, with_next_epoch, with_row}
use Rattle.kz_spec_data.specs.Requests.{LogChange, Append, Elect, Reset, Snapshot}
use Rattle.kz_log.specs.Rows.{GoesOn}
use Rattle.kz_spec_data.specs.SnapshotBatches.{snapshot_batches}
use Rattle.kz_spec_data.specs.LogFile.{after_payload, batch_payload, reset_payload, snapshot_payload, piece_written}

-- The bytes of the payload that is written for a change of a log.
abbrev pub change_bytes : Log → LogChange → ℕ
change_bytes l (Append epoch now items) = length (batch_payload (new_batch l epoch now items))
change_bytes l (Elect now items) = length (batch_payload (new_batch (with_next_epoch l) (l.epoch +ℤ pos 1) now items))
change_bytes l Reset = length (reset_payload l)
change_bytes l (Snapshot at) = length (snapshot_payload l at)

-- As many bytes as a record has, and these bytes, where they are fewer than 2^32: a record with more isn't written.
pub record IsValueOf (r : MetaRecord) (value : List ℕ) : Type 0 where
  pub size : length value ≡ length (bytes_of_record r)
  pub is : length value < 2 ^ 32 → value ≡ bytes_of_record r
  pub read : length value < 2 ^ 32 → record_of value ≡ Ok r

-- the same of each of these records
abbrev pub AreValuesOf : List MetaRecord → List (List ℕ) → Type 0
AreValuesOf [] [] = ⊤
AreValuesOf [] (v ∷ vs) = ⊥
AreValuesOf (r ∷ rs) [] = ⊥
AreValuesOf (r ∷ rs) (v ∷ vs) = IsValueOf r v × AreValuesOf rs vs

-- As many bytes as a batch's payload has, and these bytes, where they keep the limit of a file. They are read as the batch.
pub record IsPayloadOf (b : BatchRow) (payload : List ℕ) : Type 0 where
  pub size : length payload ≡ length (batch_payload b)
  pub is : length payload ≤ MAX_FILE_BYTES → payload ≡ batch_payload b
  pub read : length payload ≤ MAX_FILE_BYTES → (l : Log) → GoesOn l b → after_payload l payload ≡ Ok (with_row l b)

-- Bytes have grown by as many as these, and by these, where they keep the limit of a file.
pub record Grows (old new more : List ℕ) : Type 0 where
  pub size : length new ≡ length old + length more
  pub is : length new ≤ MAX_FILE_BYTES → new ≡ old ++ more

-- the kind byte 3, a log's epoch in four bytes, a base in eight, and how many batches there are in four
abbrev pub snapshot_head : ℤ → ℤ → ℕ → List ℕ
snapshot_head epoch base count = 3 ∷ (to_be_bytes w32 (cast_unsigned w32 epoch) ++ to_be_bytes w64 (cast_unsigned w64 base) ++ to_be_bytes w32 count)

-- the same, and the batches of a snapshot of this metadata
abbrev pub written_snapshot : ℤ → ℤ → Image → List ℕ
written_snapshot epoch base i = snapshot_head epoch base (length (snapshot_batches epoch i)) ++ flat_map piece_written (snapshot_batches epoch i)

-- So many bytes, and these, where there are fewer than 2^32 batches.
pub record IsHeadOf (epoch base : ℤ) (count : ℕ) (head : List ℕ) : Type 0 where
  pub size : length head ≡ 17
  pub is : count < 2 ^ 32 → head ≡ snapshot_head epoch base count

-- As many bytes as a snapshot's payload has, where they keep the limit of a file read as the log that is cut there.
pub record IsSnapshotOf (l cut : Log) (at : ℤ) (payload : List ℕ) : Type 0 where
  pub size : length payload ≡ length (snapshot_payload l at)
  pub read : length payload ≤ MAX_FILE_BYTES → after_payload l payload ≡ Ok cut
