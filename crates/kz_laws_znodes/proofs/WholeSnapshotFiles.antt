-- A snapshot that was written is read back.
use Rattle.std.proofs.Common.{◌≡◌, ℕ, ◌+◌, ◌-◌, ◌^◌, ◌<◌, ◌≤◌, ℤ, pos, negsuc, ◌+ℤ◌, int_le, true, false, ◌||◌, ◌==◌, nat_lt, cond, List, [], ◌∷◌, ◌++◌, length, map, take, drop, Result, Ok, Err, refl, sym, ap, ◌∙◌, subst, arith, w32, w64, FitsSigned}
use Rattle.std.specs.Int.{to_be_bytes, from_be_bytes, cast_signed, cast_unsigned}
use Rattle.std.specs.List.{All}
use Rattle.std.specs.Ordering.{int_eq}
use Rattle.std.proofs.lemmas.Bool.{and_from}
use Rattle.std.proofs.lemmas.Bool.Decides.{Decides-int_eq, nat_tests}
use Rattle.std.proofs.lemmas.Int.{ints, to_z-of_z}
use Rattle.std.proofs.lemmas.List.{length-map}
use Rattle.std.proofs.lemmas.Nat.{from_be_bytes-to_be_bytes_4, from_be_bytes-to_be_bytes_8}
use Rattle.std.proofs.lemmas.Slice.Eq.{bytes_eq-Decides}
use Rattle.kz_types.specs.declared.log.BatchRow.{BatchRow}
use Rattle.kz_types.specs.declared.log.EpochRecord.{EpochRecord}
use Rattle.kz_types.specs.declared.fault.LogWhy.{LogWhy}
use Rattle.kz_types.specs.declared.fault.LogWhy.TheVariants.{Malformed, Sequence}
use Rattle.kz_spec_data.specs.Fields.{◌>>=◌}
use Rattle.kz_spec_data.specs.Batches.{signed_at}
use Rattle.kz_spec_data.specs.Records.{bytes_of_record}
use Rattle.kz_spec_data.specs.Metadata.{Image, empty_image}
use Rattle.kz_spec_data.specs.Log.{Log, image_at, snapshot}
use Rattle.kz_spec_data.specs.SnapshotRecords.{in_epoch, image_after, snapshot_records}
use Rattle.kz_spec_data.specs.SnapshotBatches.{snapshot_batches, records_of_batches}
use Rattle.kz_spec_data.specs.LogFile.{Piece, read_pieces, read_batches, are_snapshot_batches, records_of_pieces, same_records, image_of_pieces, is_snapshot, with_base, after_payload, snapshot_payload}
use Rattle.kz_laws_znodes.proofs.WholeSnapshotRecords.{records_return}
use Rattle.kz_laws_znodes.specs.ReadBack.{IsEpochReadBack, IsBatchReadBack, MayBeWritten}
use Rattle.kz_laws_znodes.proofs.Pieces.{bytes_of_row, pieces_written, pieces_read, count_of_pieces}
use Rattle.kz_laws_znodes.proofs.Following.{FollowFrom, follow_from, each_batch}
use Rattle.kz_laws_znodes.proofs.SnapshotReading.{piece_of, batches_read}
use Rattle.kz_laws_znodes.proofs.Bases.{offset_fits, base_or_none}
use Rattle.kz_laws_znodes.proofs.Batches.{records_from}

eq_true : (x y : ℤ) → x ≡ y → int_eq x y ≡ true
eq_true x y h = (Decides-int_eq x y).1 h

-- ---- the batches

some_count : (n : ℕ) → 0 < n → nat_lt 0 n ≡ true
some_count n h = grind (arith, nat_tests)

next_first : (n count size : ℕ) (first : ℤ) → first ≡ pos n → size ≡ count → (first +ℤ (pos size +ℤ negsuc 0)) +ℤ pos 1 ≡ pos (n + count)
next_first n count size first is same = omega (arith, ints, is, same)

-- Batches that follow each other are those of a snapshot.
are_batches : (n : ℕ) (bs : List BatchRow) → FollowFrom n bs → are_snapshot_batches (pos n) (map piece_of bs) ≡ true
are_batches n [] follow = refl
are_batches n (b ∷ bs) follow =
    let size : length (map bytes_of_record b.items) ≡ length b.items = length-map b.items bytes_of_record in
    let some = follow.2 in
    and_from _ _
    (and_from _ _ (and_from _ _ (some_count (length (map bytes_of_record b.items)) (omega (arith, size, some))) (eq_true b.first (pos n) follow.0)) (eq_true b.time (pos 0) follow.1))
    (ap (λ (o : ℤ). are_snapshot_batches o (map piece_of bs)) (next_first n (length b.items) (length (map bytes_of_record b.items)) b.first follow.0 size) ∙ are_batches (n + length b.items) bs follow.3)

records_are : (bs : List BatchRow) → records_of_pieces (map piece_of bs) ≡ records_of_batches bs
records_are [] = refl
records_are (b ∷ bs) = ap (λ (rs : List EpochRecord). map (in_epoch b.epoch) b.items ++ rs) (records_are bs)

same_as_themselves : (rs : List EpochRecord) → same_records rs rs ≡ true
same_as_themselves [] = refl
same_as_themselves (r ∷ rs) =
    and_from _ _ (and_from _ _ (eq_true r.epoch r.epoch refl) ((bytes_eq-Decides (bytes_of_record r.item) (bytes_of_record r.item)).1 refl)) (same_as_themselves rs)

-- ---- the fields

epoch_back : (epoch : ℤ) → FitsSigned w32 epoch → cast_signed w32 (from_be_bytes w32 (to_be_bytes w32 (cast_unsigned w32 epoch))) ≡ epoch
epoch_back epoch fits = ap (cast_signed w32) (from_be_bytes-to_be_bytes_4 (cast_unsigned w32 epoch) (omega (arith, ints))) ∙ to_z-of_z w32 epoch fits

offset_back : (offset : ℤ) → FitsSigned w64 offset → cast_signed w64 (from_be_bytes w64 (to_be_bytes w64 (cast_unsigned w64 offset))) ≡ offset
offset_back offset fits = ap (cast_signed w64) (from_be_bytes-to_be_bytes_8 (cast_unsigned w64 offset) (omega (arith, ints))) ∙ to_z-of_z w64 offset fits

-- a payload of these fields
abbrev fields : ℕ → ℕ → ℕ → List ℕ → List ℕ
fields epoch base count pieces = to_be_bytes w32 epoch ++ to_be_bytes w64 base ++ to_be_bytes w32 count ++ pieces

-- what a payload says
record Says (l : Log) (bytes : List ℕ) (at : ℤ) (n : ℕ) (rest : List ℕ) : Type 0 where
  long : nat_lt (length bytes) 16 ≡ false
  epoch : signed_at w32 0 bytes ≡ l.epoch
  base : signed_at w64 4 bytes ≡ at
  count : from_be_bytes w32 (take 4 (drop 12 bytes)) ≡ n
  after : drop 16 bytes ≡ rest

not_less : (a b : ℕ) → b ≤ a → nat_lt a b ≡ false
not_less a b h = grind (arith, nat_tests)

fields_length : (epoch base count : ℕ) (pieces : List ℕ) → length (fields epoch base count pieces) ≡ 16 + length pieces
fields_length epoch base count pieces = omega arith

said : (l : Log) (at : ℤ) (n : ℕ) (pieces : List ℕ) → FitsSigned w32 l.epoch → FitsSigned w64 at → n < 2 ^ 32 → Says l (fields (cast_unsigned w32 l.epoch) (cast_unsigned w64 at) n pieces) at n pieces
said l at n pieces epoch base few =
    let size = fields_length (cast_unsigned w32 l.epoch) (cast_unsigned w64 at) n pieces in
    record {
      long = not_less _ 16 (omega (arith, size));
      epoch = epoch_back l.epoch epoch;
      base = offset_back at base;
      count = from_be_bytes-to_be_bytes_4 n few;
      after = refl;
    }

-- ---- the whole

-- A payload whose batches are read is taken.
taken : (l : Log) (bytes : List ℕ) (at : ℤ) (n : ℕ) (rest : List ℕ) (pieces : List (List ℕ)) (ps : List Piece) → Says l bytes at n rest → read_pieces n rest ≡ Ok (pieces, []) → read_batches pieces ≡ Ok ps → is_snapshot l l.epoch at ps [] ≡ true
    → after_payload l (3 ∷ bytes) ≡ Ok (with_base l at (image_of_pieces ps))
unfolding after_payload
taken l bytes at n rest pieces ps says cut read is =
    let whole : ℤ → ℤ → List Piece → List ℕ → Result Log LogWhy = λ epoch base qs left. cond (is_snapshot l epoch base qs left) (Ok (with_base l base (image_of_pieces qs))) (Err Sequence) in
    let batches : ℤ → ℤ → List (List ℕ) × List ℕ → Result Log LogWhy = λ epoch base r. read_batches r.0 >>= λ (qs : List Piece). whole epoch base qs r.1 in
    let from : ℤ → ℤ → ℕ → List ℕ → Result Log LogWhy = λ epoch base k left. read_pieces k left >>= batches epoch base in
    ap (λ t. cond t (Err Malformed) (from (signed_at w32 0 bytes) (signed_at w64 4 bytes) (from_be_bytes w32 (take 4 (drop 12 bytes))) (drop 16 bytes))) says.long
    ∙ ap (λ k. from (signed_at w32 0 bytes) (signed_at w64 4 bytes) k (drop 16 bytes)) says.count
    ∙ ap (λ left. from (signed_at w32 0 bytes) (signed_at w64 4 bytes) n left) says.after
    ∙ ap (λ (epoch : ℤ). from epoch (signed_at w64 4 bytes) n rest) says.epoch
    ∙ ap (λ (base : ℤ). from l.epoch base n rest) says.base
    ∙ ap (λ (m : Result (List (List ℕ) × List ℕ) LogWhy). m >>= batches l.epoch at) cut
    ∙ ap (λ (m : Result (List Piece) LogWhy). m >>= λ (qs : List Piece). whole l.epoch at qs []) read
    ∙ ap (λ t. cond t (Ok (with_base l at (image_of_pieces ps))) (Err Sequence)) is

module _ (l : Log) (at : ℤ) (may : MayBeWritten l at) where
  abbrev image : Image
  image = image_at l at

  abbrev rows : List BatchRow
  rows = snapshot_batches l.epoch image

  made : image_of_pieces (map piece_of rows) ≡ image
  made =
      ap (λ (rs : List EpochRecord). image_after rs empty_image) (records_are rows ∙ records_from (pos 0) (snapshot_records l.epoch image))
      ∙ records_return image may.order may.writable l.epoch

  same : same_records (records_of_pieces (map piece_of rows)) (snapshot_records l.epoch (image_of_pieces (map piece_of rows))) ≡ true
  same =
      ap (λ (rs : List EpochRecord). same_records rs (snapshot_records l.epoch (image_of_pieces (map piece_of rows)))) (records_are rows ∙ records_from (pos 0) (snapshot_records l.epoch image))
      ∙ ap (λ (i : Image). same_records (snapshot_records l.epoch image) (snapshot_records l.epoch i)) made
      ∙ same_as_themselves (snapshot_records l.epoch image)

  none_before : (int_le (pos 0) at || (length (map piece_of rows) == 0)) ≡ true
  none_before = base_or_none l at may.log may.base (λ (i : Image). length (map piece_of (snapshot_batches l.epoch i)) == 0) refl

  is : is_snapshot l l.epoch at (map piece_of rows) [] ≡ true
  is =
      and_from _ _ (and_from _ _ (and_from _ _ (and_from _ _ (eq_true l.epoch l.epoch refl) may.base) none_before) (are_batches 0 rows (follow_from 0 (snapshot_records l.epoch image)))) same

  abbrev number : ℕ
  number = length rows

  short : length (pieces_written rows) < 2 ^ 31 - 16
  short =
      let size = fields_length (cast_unsigned w32 l.epoch) (cast_unsigned w64 at) number (pieces_written rows) in
      let all = may.size in
      omega (arith, size, all)

  pub batches_read_back : All IsBatchReadBack rows → after_payload l (snapshot_payload l at) ≡ Ok (snapshot l at)
  batches_read_back back =
      let count = count_of_pieces rows in
      taken l (fields (cast_unsigned w32 l.epoch) (cast_unsigned w64 at) number (pieces_written rows)) at number (pieces_written rows) (map bytes_of_row rows) (map piece_of rows)
      (said l at number (pieces_written rows) may.epoch (offset_fits l at may.log may.base) (omega (arith, count, short)))
      (pieces_read rows (omega (arith, short)))
      (batches_read 0 rows (follow_from 0 (snapshot_records l.epoch image)) back (omega (arith, short)))
      is
      ∙ ap (λ (i : Image). Ok (with_base l at i)) made

  pub snapshot_read_back : All IsEpochReadBack (snapshot_records l.epoch (image_at l at)) → after_payload l (snapshot_payload l at) ≡ Ok (snapshot l at)
  snapshot_read_back back =
      batches_read_back (each_batch 0 rows (follow_from 0 (snapshot_records l.epoch image)) (subst (All IsEpochReadBack) (sym (records_from (pos 0) (snapshot_records l.epoch image))) back))
