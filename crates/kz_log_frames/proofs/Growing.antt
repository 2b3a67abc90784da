-- The payload of a snapshot, batch after batch, and that it is read as the log that is cut.
use Rattle.std.proofs.Common.{◌≡◌, ℕ, ◌+◌, ◌-◌, ◌^◌, ◌<◌, ◌≤◌, ℤ, true, List, [], ◌∷◌, ◌++◌, length, get_or, map, take, drop, Ok, sym, ap, ◌∙◌, subst, append-nil, append_assoc, length-append, arith, w32, FitsSigned}
use Rattle.std.specs.Int.{to_be_bytes}
use Rattle.std.specs.List.{All, flat_map}
use Rattle.std.proofs.lemmas.List.{take_more}
use Rattle.std.proofs.lemmas.List.Concat.{flat_map-append}
use Rattle.std.proofs.lemmas.List.Elements.{All-nil, All-cons, All-head, All-tail, All-more}
use Rattle.kz_types.specs.declared.log.BatchRow.{BatchRow}
use Rattle.kz_types.specs.declared.record.MetaRecord.{MetaRecord}
use Rattle.kz_spec_data.specs.Records.{bytes_of_record, record_of}
use Rattle.kz_spec_data.specs.Batches.{batch_written}
use Rattle.kz_spec_data.specs.Metadata.{Image}
use Rattle.kz_spec_data.specs.InOrder.{IsInOrder}
use Rattle.kz_spec_data.specs.Log.{Log, IsLog, image_at, may_be_base, snapshot}
use Rattle.kz_spec_data.specs.SnapshotBatches.{snapshot_batches}
use Rattle.kz_spec_data.specs.LogFile.{after_payload, batch_payload, piece_written, snapshot_payload}
use Rattle.kz_laws_values.specs.Texts.{AreBytes}
use Rattle.kz_laws_znodes.specs.RoundTrip.{IsWritable}
use Rattle.kz_laws_znodes.specs.ReadBack.{IsReadBack, IsBatchReadBack, BatchesAreReadBack}
use Rattle.kz_log_frames.specs.Payloads.{IsValueOf, AreValuesOf, IsPayloadOf, Grows, IsHeadOf, snapshot_head, written_snapshot, IsSnapshotOf}

-- ---- records that are read back

value_read_back : (r : MetaRecord) (v : List ℕ) → IsValueOf r v → AreBytes v → IsReadBack r
value_read_back r v value bytes =
    let size = value.size in record {
      bytes = λ few. subst AreBytes (value.is (omega (arith, size, few))) bytes;
      read = λ few. ap record_of (sym (value.is (omega (arith, size, few)))) ∙ value.read (omega (arith, size, few));
    }

pub values_read_back : (rs : List MetaRecord) (vs : List (List ℕ)) → AreValuesOf rs vs → All AreBytes vs → All IsReadBack rs
values_read_back [] [] all bytes = All-nil IsReadBack
values_read_back [] (v ∷ vs) all bytes = absurd all
values_read_back (r ∷ rs) [] all bytes = absurd all
values_read_back (r ∷ rs) (v ∷ vs) all bytes = All-cons IsReadBack r rs (value_read_back r v all.0 (All-head AreBytes v vs bytes)) (values_read_back rs vs all.1 (All-tail AreBytes v vs bytes))

pub batches_more : (bs : List BatchRow) (i : ℕ) (b : BatchRow) → i < length bs → b ≡ get_or bs i b → All IsBatchReadBack (take i bs) → IsBatchReadBack b → All IsBatchReadBack (take (i + 1) bs)
batches_more bs i b less is all one = All-more IsBatchReadBack bs i b less all (subst IsBatchReadBack is one)

-- ---- bytes that grow

pub grows_none : (old : List ℕ) → Grows old old []
grows_none old = record { size = omega arith; is = λ few. sym (append-nil old) }

pub grows_on : (a b c p q : List ℕ) → Grows a b p → Grows b c q → Grows a c (p ++ q)
grows_on a b c p q first second =
    let one = first.size in
    let two = second.size in
    let both = length-append p q in record {
      size = omega (arith, one, two, both);
      is = λ few. second.is few ∙ ap (λ xs. xs ++ q) (first.is (omega (arith, two, few))) ∙ append_assoc a p q;
    }

one_piece : (b : BatchRow) → flat_map piece_written (b ∷ []) ≡ piece_written b
one_piece b = append-nil (piece_written b)

pub pieces_more : (bs : List BatchRow) (i : ℕ) (b : BatchRow) (a c d : List ℕ) → i < length bs → b ≡ get_or bs i b → Grows a c (flat_map piece_written (take i bs)) → Grows c d (piece_written b) → Grows a d (flat_map piece_written (take (i + 1) bs))
pieces_more bs i b a c d less is first second =
    subst (Grows a d)
    (ap (λ xs. flat_map piece_written (take i bs) ++ xs) (sym (one_piece b)) ∙ sym (flat_map-append piece_written (take i bs) (b ∷ []))
    ∙ ap (flat_map piece_written) (sym (take_more bs i b less ∙ ap (λ x. take i bs ++ x ∷ []) (sym is))))
    (grows_on a c d (flat_map piece_written (take i bs)) (piece_written b) first second)

-- ---- a batch

abbrev written : BatchRow → List ℕ
written b = batch_written b.first b.epoch b.time (map bytes_of_record b.items)

tail_is : (x y : ℕ) (xs ys : List ℕ) → x ∷ xs ≡ y ∷ ys → xs ≡ ys
tail_is x y xs ys h = cc

rest_is : (bytes rest : List ℕ) (b : BatchRow) → rest ≡ drop 1 bytes → bytes ≡ batch_payload b → rest ≡ written b
rest_is bytes rest b is whole = is ∙ ap (drop 1) whole

pub piece_grows : (old mid new number rest bytes : List ℕ) (b : BatchRow) → IsPayloadOf b bytes → rest ≡ drop 1 bytes → length rest ≡ length bytes - 1 → length number ≡ 4 → (length rest < 2 ^ 32 → number ≡ to_be_bytes w32 (length rest))
    → mid ≡ old ++ number → new ≡ mid ++ rest → Grows old new (piece_written b)
piece_grows old mid new number rest bytes b payload rest_at rest_size four number_is first second =
    let size = payload.size in
    let one = ap length first ∙ length-append old number in
    let two = ap length second ∙ length-append mid rest in
    record {
      size = omega (arith, size, one, two, four, rest_size);
      is = λ few.
          let here = rest_is bytes rest b rest_at (payload.is (omega (arith, size, one, two, four, rest_size, few))) in
          let count = number_is (omega (arith, two, few)) ∙ ap (λ xs. to_be_bytes w32 (length xs)) here in
          second ∙ ap (λ xs. xs ++ rest) first ∙ append_assoc old number rest ∙ ap (λ xs. old ++ (xs ++ rest)) count ∙ ap (λ xs. old ++ (to_be_bytes w32 (length (written b)) ++ xs)) here;
    }

-- ---- the whole

each_piece : (b : BatchRow) → 1 ≤ length (piece_written b)
each_piece b = omega arith

pub fewer_batches : (bs : List BatchRow) → length bs ≤ length (flat_map piece_written bs)
fewer_batches [] = omega arith
fewer_batches (b ∷ bs) =
    let both = length-append (piece_written b) (flat_map piece_written bs) in
    let rest = fewer_batches bs in
    let one = each_piece b in omega (arith, both, rest, one)

pub whole_grows : (epoch base : ℤ) (i : Image) (count : ℕ) (head payload : List ℕ) (bs : List BatchRow) → bs ≡ snapshot_batches epoch i → count ≡ length bs → IsHeadOf epoch base count head → Grows head payload (flat_map piece_written bs)
    → Grows [] payload (written_snapshot epoch base i)
whole_grows epoch base i count head payload bs is counted first grown =
    subst (λ xs. Grows [] payload (snapshot_head epoch base (length xs) ++ flat_map piece_written xs)) is
    (let size = first.size in
    let more = grown.size in
    let fewer = fewer_batches bs in
    let both = length-append (snapshot_head epoch base (length bs)) (flat_map piece_written bs) in
    record {
      size = omega (arith, size, more, both);
      is = λ few. grown.is few ∙ ap (λ xs. xs ++ flat_map piece_written bs) (first.is (omega (arith, more, fewer, few, counted)) ∙ ap (snapshot_head epoch base) counted);
    })

-- ---- the log that is cut

pub snapshot_made : (l cut : Log) (at : ℤ) (i : Image) (payload : List ℕ) → IsLog l → may_be_base l at ≡ true → FitsSigned w32 l.epoch → cut ≡ snapshot l at → i ≡ image_at l at → IsInOrder i → IsWritable i
    → Grows [] payload (written_snapshot l.epoch at i) → All IsBatchReadBack (snapshot_batches l.epoch i) → BatchesAreReadBack → IsSnapshotOf l cut at payload
snapshot_made l cut at i payload log may fits cut_is image_is order writable grown back law =
    let grown_at : Grows [] payload (snapshot_payload l at) = subst (λ m. Grows [] payload (written_snapshot l.epoch at m)) image_is grown in
    let size = grown_at.size in record {
      size = omega (arith, size);
      read = λ few.
          ap (after_payload l) (grown_at.is few)
          ∙ law l at (record { log = log; base = may; epoch = fits; order = subst IsInOrder image_is order; writable = subst IsWritable image_is writable; size = omega (arith, size, few) })
          (subst (λ m. All IsBatchReadBack (snapshot_batches l.epoch m)) image_is back)
          ∙ ap Ok (sym cut_is);
    }

-- ---- by numbers of a fixed size

pub whole_grows_by : (epoch e d base b : ℤ) (i : Image) (count : ℕ) (head payload : List ℕ) (bs rows : List BatchRow) → e ≡ epoch → d ≡ epoch → b ≡ base → bs ≡ snapshot_batches e i → rows ≡ bs → count ≡ length bs → IsHeadOf d b count head
    → Grows head payload (flat_map piece_written rows) → Grows [] payload (written_snapshot epoch base i)
whole_grows_by epoch e d base b i count head payload bs rows e_is d_is b_is is rows_are counted first grown =
    whole_grows epoch base i count head payload bs (is ∙ ap (λ x. snapshot_batches x i) e_is) counted (subst (λ x. IsHeadOf x base count head) d_is (subst (λ x. IsHeadOf d x count head) b_is first))
    (subst (λ xs. Grows head payload (flat_map piece_written xs)) rows_are grown)

pub snapshot_made_by : (l cut : Log) (at a e : ℤ) (i : Image) (payload : List ℕ) → IsLog l → may_be_base l at ≡ true → FitsSigned w32 l.epoch → e ≡ l.epoch → a ≡ at → cut ≡ snapshot l at → i ≡ image_at l at → IsInOrder i → IsWritable i
    → Grows [] payload (written_snapshot e a i) → All IsBatchReadBack (snapshot_batches e i) → BatchesAreReadBack → IsSnapshotOf l cut at payload
snapshot_made_by l cut at a e i payload log may fits epoch_is at_is cut_is image_is order writable grown back law =
    snapshot_made l cut at i payload log may fits cut_is image_is order writable (subst (λ x. Grows [] payload (written_snapshot l.epoch x i)) at_is (subst (λ x. Grows [] payload (written_snapshot x a i)) epoch_is grown))
    (subst (λ x. All IsBatchReadBack (snapshot_batches x i)) epoch_is back) law
