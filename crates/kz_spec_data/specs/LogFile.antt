-- Which log a log's file stands for, or at which place it is damaged, and why.
use Rattle.std.specs.Prelude.{◌≡◌, ℕ, zero, suc, ◌+◌, Bool, true, false, not, ◌&&◌, ◌||◌, ◌==◌, nat_lt, ℤ, pos, ◌+ℤ◌, int_le, int_lt, List, [], ◌∷◌, ◌++◌, length, take, drop, map, Result, Ok, Err, if◌then◌else◌}
use Rattle.std.specs.Int.{w32, w64, to_be_bytes, from_be_bytes, cast_signed, cast_unsigned}
use Rattle.std.specs.List.{filter, flat_map}
use Rattle.std.specs.Ordering.{int_eq}
use Rattle.std.specs.Str.{bytes_eq}
use Rattle.kz_types.specs.declared.limits.TheConstants.{MAX_LONG}
use Rattle.kz_types.specs.declared.log.BatchRow.{BatchRow}
use Rattle.kz_types.specs.declared.record.MetaRecord.{MetaRecord}
use Rattle.kz_types.specs.declared.record.BatchFault.{BatchFault}
use Rattle.kz_types.specs.declared.record.CodecFault.{CodecFault}
use Rattle.kz_spec_data.specs.Fields.{◌>>=◌}
use Rattle.kz_spec_data.specs.Batches.{BatchContents, batch_of, batch_written, signed_at}
use Rattle.kz_spec_data.specs.Records.{record_of, bytes_of_record}
use Rattle.kz_spec_data.specs.Metadata.{Image, empty_image}
use Rattle.kz_spec_data.specs.Log.{Log, empty_log, end_of, image_at, begins_after, with_row, may_be_base, reset}
use Rattle.kz_types.specs.declared.log.EpochRecord.{EpochRecord}
use Rattle.kz_spec_data.specs.SnapshotRecords.{in_epoch, image_after, snapshot_records}
use Rattle.kz_spec_data.specs.SnapshotBatches.{snapshot_batches}
use Rattle.kz_types.specs.declared.fault.LogWhy.{LogWhy}
use Rattle.kz_types.specs.declared.fault.LogWhy.TheVariants.{Header, Malformed, Batch, Value, Sequence, Sum}
use Rattle.kz_spec_data.specs.Frames.{Framed, Journal, log_letter, journal_of}

-- ---- a batch

-- a fault with a reason
abbrev pub with_why : {A E : Type 0} → (E → LogWhy) → Result A E → Result A LogWhy
with_why why (Ok x) = Ok x
with_why why (Err e) = Err (why e)

-- the records of these values, or why the first that can't be read isn't one
abbrev pub read_values : List (List ℕ) → Result (List MetaRecord) LogWhy
read_values [] = Ok []
read_values (v ∷ vs) = with_why Value (record_of v) >>= λ r. read_values vs >>= λ rs. Ok (r ∷ rs)

-- A batch follows on the log: it is no control batch and has a record, it begins after the log's end, its last offset is in
-- range, and its epoch is at least the log's and at least 1.
abbrev pub follows : Log → BatchContents → Bool
follows l b = not b.control && nat_lt 0 (length b.values) && int_eq b.first (end_of l +ℤ pos 1) && int_le b.last MAX_LONG
    && int_le l.epoch b.epoch && int_le (pos 1) b.epoch

abbrev pub batch_row : BatchContents → List MetaRecord → BatchRow
batch_row b items = record { first = b.first; epoch = b.epoch; time = b.time; items = items }

abbrev pub after_batch : Log → List ℕ → Result Log LogWhy
after_batch l bytes = with_why Batch (batch_of bytes) >>= λ b. read_values b.values >>= λ items. if follows l b then Ok (with_row l (batch_row b items)) else Err Sequence

-- ---- a reset

-- the log's epoch in four bytes, and nothing after it
abbrev pub after_reset : Log → List ℕ → Result Log LogWhy
after_reset l bytes =
    if nat_lt (length bytes) 4 then Err Malformed
    else (if int_eq (signed_at w32 0 bytes) l.epoch && (length bytes == 4) then Ok (reset l) else Err Sequence)

-- ---- a snapshot

-- So many pieces, each after its length in four bytes, and the bytes after them.
abbrev pub read_pieces : ℕ → List ℕ → Result (List (List ℕ) × List ℕ) LogWhy
read_pieces zero bytes = Ok ([], bytes)
read_pieces (suc n) bytes =
    if nat_lt (length bytes) 4 then Err Malformed
    else (if nat_lt (length bytes) (4 + from_be_bytes w32 (take 4 bytes)) then Err Malformed
    else (read_pieces n (drop (4 + from_be_bytes w32 (take 4 bytes)) bytes) >>= λ r. Ok (take (from_be_bytes w32 (take 4 bytes)) (drop 4 bytes) ∷ r.0, r.1)))

-- a batch of a snapshot, and its records
abbrev pub Piece : Type 0
Piece = BatchContents × List MetaRecord

abbrev pub read_batches : List (List ℕ) → Result (List Piece) LogWhy
read_batches [] = Ok []
read_batches (p ∷ ps) = with_why Batch (batch_of p) >>= λ b. read_values b.values >>= λ items. read_batches ps >>= λ rest. Ok ((b, items) ∷ rest)

-- Each is no control batch and has a record, begins where the one before it ends, and has the time 0.
abbrev pub are_snapshot_batches : ℤ → List Piece → Bool
are_snapshot_batches first [] = true
are_snapshot_batches first (p ∷ ps) = not p.0.control && nat_lt 0 (length p.0.values) && int_eq p.0.first first && int_eq p.0.time (pos 0) && are_snapshot_batches (p.0.last +ℤ pos 1) ps

abbrev pub records_of_pieces : List Piece → List EpochRecord
records_of_pieces ps = flat_map (λ (p : Piece). map (in_epoch p.0.epoch) p.1) ps

-- the same epochs, and the same records byte for byte
abbrev pub same_records : List EpochRecord → List EpochRecord → Bool
same_records [] [] = true
same_records [] (r ∷ rs) = false
same_records (r ∷ rs) [] = false
same_records (r ∷ rs) (q ∷ qs) = int_eq r.epoch q.epoch && bytes_eq (bytes_of_record r.item) (bytes_of_record q.item) && same_records rs qs

-- the metadata that the batches make
abbrev pub image_of_pieces : List Piece → Image
image_of_pieces ps = image_after (records_of_pieces ps) empty_image

-- These fields are a snapshot of the log: the epoch is the log's; the base is a batch end outside every transaction; there are
-- no bytes after the batches; and the records are those of the metadata that they make. A base of -1 has none.
abbrev pub is_snapshot : Log → ℤ → ℤ → List Piece → List ℕ → Bool
is_snapshot l epoch base ps rest = (length rest == 0) && int_eq epoch l.epoch && may_be_base l base && (int_le (pos 0) base || (length ps == 0)) && are_snapshot_batches (pos 0) ps
    && same_records (records_of_pieces ps) (snapshot_records epoch (image_of_pieces ps))

abbrev pub with_base : Log → ℤ → Image → Log
with_base l base i = record l { base = base; base_image = i; batches = filter (begins_after base) l.batches }

-- the log's epoch in four bytes, the base in eight, how many batches there are in four, and the batches
abbrev pub after_snapshot : Log → List ℕ → Result Log LogWhy
after_snapshot l bytes =
    if nat_lt (length bytes) 16 then Err Malformed
    else (read_pieces (from_be_bytes w32 (take 4 (drop 12 bytes))) (drop 16 bytes) >>= λ pieces. read_batches pieces.0 >>= λ ps.
    if is_snapshot l (signed_at w32 0 bytes) (signed_at w64 4 bytes) ps pieces.1 then Ok (with_base l (signed_at w64 4 bytes) (image_of_pieces ps)) else Err Sequence)

-- ---- frames

-- what a frame makes of the log before it: its kind byte, 1 for a batch, 2 for a reset and 3 for a snapshot, and the rest
unfoldable pub after_payload : Log → List ℕ → Result Log LogWhy
after_payload l [] = Err Malformed
after_payload l (kind ∷ bytes) =
    if kind == 1 then after_batch l bytes
    else (if kind == 2 then after_reset l bytes
    else (if kind == 3 then after_snapshot l bytes else Err Malformed))

abbrev pub at_place : ℕ → Result Log LogWhy → (Log → Result Log (ℕ × LogWhy)) → Result Log (ℕ × LogWhy)
at_place at (Err why) go = Err (at, why)
at_place at (Ok l) go = go l

-- what these frames make of a log, or the place of the first that is damaged, and why
unfoldable pub after_frames : List Framed → Log → Result Log (ℕ × LogWhy)
after_frames [] l = Ok l
after_frames (f ∷ fs) l = at_place f.at (after_payload l f.payload) (after_frames fs)

-- why a journal is damaged at a place where no frame can be read
abbrev pub why_at : ℕ → LogWhy
why_at at = if at == 0 then Header else Sum

abbrev pub whole_or_damaged : Journal → Result Log (ℕ × LogWhy) → Result Log (ℕ × LogWhy)
whole_or_damaged j (Err e) = Err e
whole_or_damaged j (Ok l) = if j.damaged then Err (j.end, why_at j.end) else Ok l

-- the log that the journal of a log's file stands for, or the first damaged place, and why
abbrev pub log_in : Journal → Result Log (ℕ × LogWhy)
log_in j = whole_or_damaged j (after_frames j.frames empty_log)

-- The log that a file stands for, or the first place at which the file is damaged, and why.
abbrev pub log_of : List ℕ → Result Log (ℕ × LogWhy)
log_of file = log_in (journal_of log_letter file)

-- ---- what is written

-- the payload of a batch's frame
abbrev pub batch_payload : BatchRow → List ℕ
batch_payload b = 1 ∷ batch_written b.first b.epoch b.time (map bytes_of_record b.items)

-- the payload of the frame of a log's reset
abbrev pub reset_payload : Log → List ℕ
reset_payload l = 2 ∷ to_be_bytes w32 (cast_unsigned w32 l.epoch)

abbrev pub piece_written : BatchRow → List ℕ
piece_written b = to_be_bytes w32 (length (batch_written b.first b.epoch b.time (map bytes_of_record b.items))) ++ batch_written b.first b.epoch b.time (map bytes_of_record b.items)

-- the payload of the frame of a log's snapshot at an offset
abbrev pub snapshot_payload : Log → ℤ → List ℕ
snapshot_payload l at = 3 ∷ (to_be_bytes w32 (cast_unsigned w32 l.epoch) ++ to_be_bytes w64 (cast_unsigned w64 at)
    ++ to_be_bytes w32 (length (snapshot_batches l.epoch (image_at l at))) ++ flat_map piece_written (snapshot_batches l.epoch (image_at l at)))
