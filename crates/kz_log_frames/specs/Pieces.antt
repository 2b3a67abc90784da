-- How the frame of a snapshot is read.
use Rattle.std.specs.Prelude.{◌≡◌, ℕ, suc, Bool, ◌&&◌, ◌||◌, ◌==◌, ℤ, pos, ◌+ℤ◌, ◌<◌, ◌^◌, int_le, List, [], ◌∷◌, ◌++◌, length, map, Option, Some, None, Result, Ok, Err, ⊤, if◌then◌else◌}
use Rattle.std.specs.List.{All}
use Rattle.std.specs.Ordering.{int_eq}
use Rattle.kz_types.specs.declared.log.BatchRow.{BatchRow}
use Rattle.kz_types.specs.declared.record.MetaRecord.{MetaRecord}
use Rattle.kz_spec_data.specs.Fields.{◌>>=◌}
use Rattle.kz_spec_data.specs.Batches.{batch_of}
use Rattle.kz_spec_data.specs.Records.{bytes_of_record}
use Rattle.kz_spec_data.specs.Metadata.{Image, empty_image}
use Rattle.kz_spec_data.specs.Log.{Log, may_be_base}
use Rattle.kz_spec_data.specs.SnapshotRecords.{image_after, snapshot_records}
use Rattle.kz_spec_data.specs.SnapshotBatches.{records_of_batches}
use Rattle.kz_types.specs.declared.fault.LogWhy.{LogWhy}
use Rattle.kz_types.specs.declared.fault.LogWhy.TheVariants.{Malformed, Batch, Sequence}
use Rattle.kz_spec_data.specs.LogFile.{Piece, with_why, read_values, read_pieces, batch_row, are_snapshot_batches, same_records, with_base}
use Rattle.kz_log_frames.specs.declared.fault.FrameFault.{FrameFault}
use Rattle.kz_log_frames.specs.declared.fault.FrameFault.TheVariants.{Why, NoMemory}
use Rattle.kz_log_frames.specs.declared.pieces.Found.{Found}

-- ---- pieces

-- A piece and the bytes after it are split off, or the piece is cut.
abbrev pub IsSplit : List ℕ → Option (List ℕ × List ℕ) → Type 0
IsSplit bytes None = (n : ℕ) → read_pieces (suc n) bytes ≡ Err Malformed
IsSplit bytes (Some parts) = (n : ℕ) → read_pieces (suc n) bytes ≡ (read_pieces n parts.1 >>= λ r. Ok (parts.0 ∷ r.0, r.1))

-- ---- batches

-- what is held of a batch
abbrev pub row_of_piece : Piece → BatchRow
row_of_piece p = batch_row p.0 p.1

-- a batch of a snapshot, and its records
abbrev pub read_batch : List ℕ → Result Piece LogWhy
read_batch bytes = with_why Batch (batch_of bytes) >>= λ b. read_values b.values >>= λ items. Ok (b, items)

-- A record has fewer than 2^32 bytes.
abbrev pub IsShortRecord : MetaRecord → Type 0
IsShortRecord r = length (bytes_of_record r) < 2 ^ 32

-- Each record of these batches has fewer than 2^32 bytes.
abbrev pub HaveShortRecords : List BatchRow → Type 0
HaveShortRecords bs = All (λ (b : BatchRow). All IsShortRecord b.items) bs

-- These batches were read: what is held of them, with records of fewer than 2^32 bytes each, the last offset of the last, and
-- whether each is one of a snapshot.
pub record AreFound (f : Found) (ps : List Piece) : Type 0 where
  pub rows : f.rows.items ≡ map row_of_piece ps
  pub short : HaveShortRecords f.rows.items
  pub fits : (more : List Piece) → are_snapshot_batches (pos 0) (ps ++ more) ≡ (f.fits && are_snapshot_batches (f.last +ℤ pos 1) more)

-- A batch was read after these, unless memory ran out.
abbrev pub ReadsBatch : Result Found FrameFault → List Piece → Result Piece LogWhy → Type 0
ReadsBatch (Ok found) ps said = (p : Piece) × (said ≡ Ok p) × AreFound found (ps ++ p ∷ [])
ReadsBatch (Err (Why why)) ps said = said ≡ Err why
ReadsBatch (Err NoMemory) ps said = ⊤

-- All batches were read, unless memory ran out.
abbrev pub ReadsBatches : Result Found FrameFault → Result (List Piece) LogWhy → Type 0
ReadsBatches (Ok found) said = (ps : List Piece) × (said ≡ Ok ps) × AreFound found ps
ReadsBatches (Err (Why why)) said = said ≡ Err why
ReadsBatches (Err NoMemory) said = ⊤

-- ---- a snapshot

-- the metadata that batches make
abbrev pub image_of_rows : List BatchRow → Image
image_of_rows bs = image_after (records_of_batches bs) empty_image

-- A snapshot of the log may have this epoch, this base, these batches, of which each is one of a snapshot or not, and so many bytes after them.
abbrev pub is_allowed : Log → ℤ → ℤ → List BatchRow → Bool → ℕ → Bool
is_allowed l epoch base bs fits rest = (rest == 0) && int_eq epoch l.epoch && may_be_base l base && (int_le (pos 0) base || (length bs == 0)) && fits

-- the records of batches are those of the metadata that they make
abbrev pub are_own_records : ℤ → List BatchRow → Bool
are_own_records epoch bs = same_records (records_of_batches bs) (snapshot_records epoch (image_of_rows bs))

-- the log that is cut, or that the fields are no snapshot of it
abbrev pub cut_or_not : Log → ℤ → ℤ → List BatchRow → Bool → ℕ → Result Log LogWhy
cut_or_not l epoch base bs fits rest = if is_allowed l epoch base bs fits rest && are_own_records epoch bs then Ok (with_base l base (image_of_rows bs)) else Err Sequence
