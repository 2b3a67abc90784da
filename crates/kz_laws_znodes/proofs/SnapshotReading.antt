-- Batches that were written are read as what they were written of.
use Rattle.std.proofs.Common.{◌≡◌, ℕ, ◌+◌, ◌^◌, ◌<◌, ◌≤◌, ℤ, pos, List, [], ◌∷◌, length, map, Result, Ok, refl, sym, ap, ◌∙◌, subst, length-append, arith, rules, w64, FitsSigned}
use Rattle.std.specs.List.{All}
use Rattle.std.proofs.lemmas.List.{length-map}
use Rattle.std.proofs.lemmas.List.Elements.{All-nil, All-cons, All-head, All-tail}
use Rattle.kz_types.specs.declared.log.BatchRow.{BatchRow}
use Rattle.kz_types.specs.declared.record.MetaRecord.{MetaRecord}
use Rattle.kz_types.specs.declared.record.CodecFault.{CodecFault}
use Rattle.kz_types.specs.declared.record.BatchFault.{BatchFault}
use Rattle.kz_types.specs.declared.fault.LogWhy.{LogWhy}
use Rattle.kz_types.specs.declared.fault.LogWhy.TheVariants.{Batch, Value}
use Rattle.kz_spec_data.specs.Fields.{◌>>=◌}
use Rattle.kz_spec_data.specs.Batches.{BatchContents, entry, content_with, records_written, batch_of}
use Rattle.kz_spec_data.specs.Records.{bytes_of_record, record_of}
use Rattle.kz_spec_data.specs.LogFile.{Piece, with_why, read_values, read_batches}
use Rattle.kz_laws_values.specs.Texts.{AreBytes}
use Rattle.kz_laws_values.specs.WrittenContents.{contents_of}
use Rattle.kz_laws_values.proofs.WrittenBatches.{written_batch_is_read}
use Rattle.kz_laws_znodes.specs.ReadBack.{IsReadBack, IsBatchReadBack}
use Rattle.kz_laws_znodes.proofs.Pieces.{entry_holds, count_of_values, batch_length, batch_fits, bytes_of_row, pieces_written, pieces_length}
use Rattle.kz_laws_znodes.proofs.Following.{FollowFrom}

-- ---- values

read_on : (r : MetaRecord) (rs : List MetaRecord) (v : List ℕ) (vs : List (List ℕ)) → record_of v ≡ Ok r → read_values vs ≡ Ok rs → read_values (v ∷ vs) ≡ Ok (r ∷ rs)
read_on r rs v vs one more =
    ap (λ (m : Result MetaRecord CodecFault). with_why Value m >>= λ (x : MetaRecord). read_values vs >>= λ (xs : List MetaRecord). Ok (x ∷ xs)) one
    ∙ ap (λ (m : Result (List MetaRecord) LogWhy). m >>= λ (xs : List MetaRecord). Ok (r ∷ xs)) more

values_read : (n : ℕ) (rs : List MetaRecord) → All IsReadBack rs → length (records_written n (map bytes_of_record rs)) < 2 ^ 32 → (read_values (map bytes_of_record rs) ≡ Ok rs) × All AreBytes (map bytes_of_record rs)
values_read n [] all few = (refl, All-nil AreBytes)
values_read n (r ∷ rs) all few =
    let vs : List (List ℕ) = map bytes_of_record rs in
    let v : List ℕ = bytes_of_record r in
    let both = length-append (entry.written (content_with n v)) (records_written (n + 1) vs) in
    let holds = entry_holds n v in
    let short : length v < 2 ^ 32 = omega (arith, both, holds, few) in
    let one = All-head IsReadBack r rs all in
    let rest = values_read (n + 1) rs (All-tail IsReadBack r rs all) (omega (arith, both, few)) in
    (read_on r rs v vs (one.read short) rest.0, All-cons AreBytes v vs (one.bytes short) rest.1)

-- ---- batches

-- what a written batch says
abbrev pub contents_of_row : BatchRow → BatchContents
contents_of_row b = contents_of b.first b.epoch b.time (map bytes_of_record b.items)

abbrev pub piece_of : BatchRow → Piece
piece_of b = (contents_of_row b, b.items)

-- Few bytes are read as a batch that has this first offset and the time 0.
record IsRead (b : BatchRow) : Type 0 where
  contents : batch_of (bytes_of_row b) ≡ Ok (contents_of_row b)
  items : read_values (map bytes_of_record b.items) ≡ Ok b.items
  count : length b.items ≤ length (bytes_of_row b)

first_fits : (n : ℕ) (first : ℤ) → first ≡ pos n → n < 2 ^ 31 → FitsSigned w64 first
first_fits n first is few = subst (FitsSigned w64) (sym is) (search rules)

time_fits : (time : ℤ) → time ≡ pos 0 → FitsSigned w64 time
time_fits time is = subst (FitsSigned w64) (sym is) (search rules)

batch_read : (n : ℕ) (b : BatchRow) → b.first ≡ pos n → b.time ≡ pos 0 → n < 2 ^ 31 → IsBatchReadBack b → length (bytes_of_row b) < 2 ^ 31 → IsRead b
batch_read n b first time low back few =
    let values : List (List ℕ) = map bytes_of_record b.items in
    let size = batch_length b.first b.epoch b.time values in
    let count = count_of_values 0 values in
    let same : length values ≡ length b.items = length-map b.items bytes_of_record in
    let read = values_read 0 b.items back.items (omega (arith, few, size)) in
    record {
      contents = written_batch_is_read b.first b.epoch b.time values (first_fits n b.first first low) back.epoch (time_fits b.time time) (batch_fits b.first b.epoch b.time values few) read.1;
      items = read.0;
      count = omega (arith, count, size, same);
    }

batches_on : (b : BatchRow) (bs : List BatchRow) → IsRead b → read_batches (map bytes_of_row bs) ≡ Ok (map piece_of bs) → read_batches (map bytes_of_row (b ∷ bs)) ≡ Ok (map piece_of (b ∷ bs))
batches_on b bs one more =
    let rest : List (List ℕ) = map bytes_of_row bs in
    ap (λ (m : Result BatchContents BatchFault). with_why Batch m >>= λ (x : BatchContents). read_values x.values >>= λ (items : List MetaRecord). read_batches rest >>= λ (xs : List Piece). Ok ((x, items) ∷ xs)) one.contents
    ∙ ap (λ (m : Result (List MetaRecord) LogWhy). m >>= λ (items : List MetaRecord). read_batches rest >>= λ (xs : List Piece). Ok ((contents_of_row b, items) ∷ xs)) one.items
    ∙ ap (λ (m : Result (List Piece) LogWhy). m >>= λ (xs : List Piece). Ok (piece_of b ∷ xs)) more

-- Batches that follow each other from an offset on are read from their bytes, where these are few.
pub batches_read : (n : ℕ) (bs : List BatchRow) → FollowFrom n bs → All IsBatchReadBack bs → n + length (pieces_written bs) < 2 ^ 31 → read_batches (map bytes_of_row bs) ≡ Ok (map piece_of bs)
batches_read n [] follow back few = refl
batches_read n (b ∷ bs) follow back few =
    let size = pieces_length b bs in
    let one = batch_read n b follow.0 follow.1 (omega (arith, few)) (All-head IsBatchReadBack b bs back) (omega (arith, few, size)) in
    let count = one.count in
    batches_on b bs one (batches_read (n + length b.items) bs follow.3 (All-tail IsBatchReadBack b bs back) (omega (arith, few, size, count)))
