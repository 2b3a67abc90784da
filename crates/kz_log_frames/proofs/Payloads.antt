-- What is written for a batch, and that it is read as the batch.
use Rattle.std.proofs.Common.{◌≡◌, ℕ, ◌+◌, ◌-◌, ◌*◌, ◌^◌, ◌<◌, ◌≤◌, Bool, true, false, ◌&&◌, nat_lt, ℤ, pos, negsuc, ◌+ℤ◌, ◌≤ℤ◌, int_le, cond, List, [], ◌∷◌, ◌++◌, length, map, Result, Ok, Err, refl, sym, ap, ◌∙◌, subst, take, get_or, length-append, arith, rules, w32, w64, FitsSigned, All}
use Rattle.std.specs.Ordering.{int_eq}
use Rattle.std.specs.Int.{to_be_bytes, cast_signed, cast_unsigned}
use Rattle.std.proofs.lemmas.Int.{ints, to_z-of_z}
use Rattle.std.proofs.lemmas.List.{take_more}
use Rattle.std.proofs.lemmas.List.Elements.{All-append}
use Rattle.std.proofs.lemmas.Nat.{from_be_bytes-to_be_bytes_4}
use Rattle.std.proofs.lemmas.Bool.Decides.{Decides-int_eq, nat_tests}
use Rattle.kz_types.specs.declared.limits.TheConstants.{MAX_LONG}
use Rattle.kz_types.specs.declared.log.BatchRow.{BatchRow}
use Rattle.kz_types.specs.declared.record.MetaRecord.{MetaRecord}
use Rattle.kz_types.specs.declared.record.CodecFault.{CodecFault}
use Rattle.kz_types.specs.declared.record.BatchFault.{BatchFault}
use Rattle.kz_spec_data.specs.Fields.{◌>>=◌, varint, groups_of}
use Rattle.kz_spec_data.specs.Batches.{BatchContents, content, entry, content_with, records_written, batch_of, batch_written, signed_at, BatchFits}
use Rattle.kz_spec_data.specs.Records.{bytes_of_record, record_of}
use Rattle.kz_spec_data.specs.Log.{Log, end_of, reset, with_row}
use Rattle.kz_types.specs.declared.fault.LogWhy.{LogWhy}
use Rattle.kz_types.specs.declared.fault.LogWhy.TheVariants.{Batch, Value, Sequence}
use Rattle.kz_spec_data.specs.LogFile.{with_why, read_values, follows, batch_row, after_payload, batch_payload, reset_payload}
use Rattle.kz_laws_values.specs.Texts.{AreBytes}
use Rattle.kz_laws_values.specs.WrittenContents.{contents_of}
use Rattle.kz_log_frames.specs.Payloads.{IsValueOf, AreValuesOf, IsPayloadOf}
use Rattle.kz_log.specs.Rows.{GoesOn}
use Rattle.kz_log_frames.proofs.FewBytes.{entry_holds, batch_fits}

-- ---- values

All-one : (v : List ℕ) → AreBytes v → All AreBytes (v ∷ [])
All-one v one = search (rules, one)

pub AreValuesOf-push : (rs : List MetaRecord) (vs : List (List ℕ)) (r : MetaRecord) (v : List ℕ) → AreValuesOf rs vs → IsValueOf r v → AreValuesOf (rs ++ r ∷ []) (vs ++ v ∷ [])
AreValuesOf-push [] [] r v all one = (one, tt)
AreValuesOf-push [] (w ∷ vs) r v all one = absurd all
AreValuesOf-push (s ∷ rs) [] r v all one = absurd all
AreValuesOf-push (s ∷ rs) (w ∷ vs) r v all one = (all.0, AreValuesOf-push rs vs r v all.1 one)

pub values_more : (rs : List MetaRecord) (i : ℕ) (r : MetaRecord) (ws ns : List (List ℕ)) (v : List ℕ) → i < length rs → r ≡ get_or rs i r → ns ≡ ws ++ v ∷ [] → AreValuesOf (take i rs) ws → IsValueOf r v → AreValuesOf (take (i + 1) rs) ns
values_more rs i r ws ns v within is more all one =
    subst (λ xs. AreValuesOf (take (i + 1) rs) xs) (sym more)
    (subst (λ ys. AreValuesOf ys (ws ++ v ∷ [])) (sym (take_more rs i r within ∙ ap (λ x. take i rs ++ x ∷ []) (sym is))) (AreValuesOf-push (take i rs) ws r v all one))

pub bytes_more : (ws ns : List (List ℕ)) (v : List ℕ) → ns ≡ ws ++ v ∷ [] → All AreBytes ws → AreBytes v → All AreBytes ns
bytes_more ws ns v more all one = subst (All AreBytes) (sym more) (All-append AreBytes ws (v ∷ []) all (All-one v one))

values_length : (rs : List MetaRecord) (vs : List (List ℕ)) → AreValuesOf rs vs → length vs ≡ length rs
values_length [] [] all = refl
values_length [] (w ∷ vs) all = absurd all
values_length (s ∷ rs) [] all = absurd all
values_length (s ∷ rs) (w ∷ vs) all = let rest = values_length rs vs all.1 in omega (arith, rest)

-- as many zeros as a record has bytes that is too long to be written
pub value_of_zeros : (r : MetaRecord) (value : List ℕ) (size : ℕ) → size ≡ length (bytes_of_record r) → length value ≡ size → 2 ^ 32 - 1 < size → IsValueOf r value
value_of_zeros r value size is zeros many = record {
  size = omega (arith, is, zeros);
  is = λ few. absurd (omega (arith, few, zeros, many));
  read = λ few. absurd (omega (arith, few, zeros, many));
}

-- what was written for a record
pub value_written : (r : MetaRecord) (value : List ℕ) → value ≡ bytes_of_record r → record_of (bytes_of_record r) ≡ Ok r → IsValueOf r value
value_written r value is read = record {
  size = ap length is;
  is = λ few. is;
  read = λ few. ap record_of is ∙ read;
}

-- ---- sizes

sized : (a b c d e value : List ℕ) → length ((0 ∷ []) ++ (a ++ (b ++ (c ++ ((d ++ value) ++ (e ++ [])))))) ≡ (1 + length a + length b + length c + length e) + (length d + length value)
sized a b c d e value =
    omega (arith, length-append a (b ++ (c ++ ((d ++ value) ++ (e ++ [])))), length-append b (c ++ ((d ++ value) ++ (e ++ []))), length-append c ((d ++ value) ++ (e ++ [])), length-append (d ++ value) (e ++ []), length-append d value, length-append e [])

content_size : (n : ℕ) (v : List ℕ) → length (content.written (content_with n v)) ≡ (1 + length (groups_of 9 0) + length (groups_of 9 (2 * n)) + length (groups_of 9 1) + length (groups_of 9 0)) + (length (groups_of 9 (2 * length v)) + length v)
content_size n v = sized (groups_of 9 0) (groups_of 9 (2 * n)) (groups_of 9 1) (groups_of 9 (2 * length v)) (groups_of 9 0) v

content_length : (n : ℕ) (v w : List ℕ) → length v ≡ length w → length (content.written (content_with n v)) ≡ length (content.written (content_with n w))
content_length n v w e =
    content_size n v
    ∙ ap (λ k. (1 + length (groups_of 9 0) + length (groups_of 9 (2 * n)) + length (groups_of 9 1) + length (groups_of 9 0)) + (length (groups_of 9 (2 * k)) + k)) e
    ∙ sym (content_size n w)

entry_length : (n : ℕ) (v w : List ℕ) → length v ≡ length w → length (entry.written (content_with n v)) ≡ length (entry.written (content_with n w))
entry_length n v w e =
    length-append (varint.written (pos (length (content.written (content_with n v))))) (content.written (content_with n v))
    ∙ ap (λ k. length (varint.written (pos k)) + k) (content_length n v w e)
    ∙ sym (length-append (varint.written (pos (length (content.written (content_with n w))))) (content.written (content_with n w)))

records_length : (n : ℕ) (rs : List MetaRecord) (vs : List (List ℕ)) → AreValuesOf rs vs → length (records_written n vs) ≡ length (records_written n (map bytes_of_record rs))
records_length n [] [] all = refl
records_length n [] (w ∷ vs) all = absurd all
records_length n (s ∷ rs) [] all = absurd all
records_length n (r ∷ rs) (v ∷ vs) all =
    length-append (entry.written (content_with n v)) (records_written (n + 1) vs)
    ∙ ap (λ k. k + length (records_written (n + 1) vs)) (entry_length n v (bytes_of_record r) all.0.size)
    ∙ ap (λ k. length (entry.written (content_with n (bytes_of_record r))) + k) (records_length (n + 1) rs vs all.1)
    ∙ sym (length-append (entry.written (content_with n (bytes_of_record r))) (records_written (n + 1) (map bytes_of_record rs)))

batch_length : (first epoch time : ℤ) (vs : List (List ℕ)) → length (batch_written first epoch time vs) ≡ 61 + length (records_written 0 vs)
batch_length first epoch time vs = omega arith

-- ---- few bytes

read_on : (r : MetaRecord) (rs : List MetaRecord) (v : List ℕ) (vs : List (List ℕ)) → record_of v ≡ Ok r → read_values vs ≡ Ok rs → read_values (v ∷ vs) ≡ Ok (r ∷ rs)
read_on r rs v vs one more =
    ap (λ (m : Result MetaRecord CodecFault). with_why Value m >>= λ (x : MetaRecord). read_values vs >>= λ (xs : List MetaRecord). Ok (x ∷ xs)) one
    ∙ ap (λ (m : Result (List MetaRecord) LogWhy). m >>= λ (xs : List MetaRecord). Ok (r ∷ xs)) more

all_read : (n : ℕ) (rs : List MetaRecord) (vs : List (List ℕ)) → AreValuesOf rs vs → length (records_written n vs) < 2 ^ 32 → (vs ≡ map bytes_of_record rs) × (read_values vs ≡ Ok rs)
all_read n [] [] all few = (refl, refl)
all_read n [] (w ∷ vs) all few = absurd all
all_read n (s ∷ rs) [] all few = absurd all
all_read n (r ∷ rs) (v ∷ vs) all few =
    let both = length-append (entry.written (content_with n v)) (records_written (n + 1) vs) in
    let holds = entry_holds n v in
    let short : length v < 2 ^ 32 = omega (arith, both, holds, few) in
    let rest = all_read (n + 1) rs vs all.1 (omega (arith, both, few)) in
    (ap (λ x. x ∷ vs) (all.0.is short) ∙ ap (λ xs. bytes_of_record r ∷ xs) rest.0, read_on r rs v vs (all.0.read short) rest.1)

-- ---- a batch that follows

and_is : (a b : Bool) → a ≡ true → b ≡ true → (a && b) ≡ true
and_is true b h k = k
and_is false b h k = absurd (cc)

is_some_count : (n : ℕ) → 0 < n → nat_lt 0 n ≡ true
is_some_count n h = grind (arith, nat_tests)

eq_true : (x y : ℤ) → x ≡ y → int_eq x y ≡ true
eq_true x y h = (Decides-int_eq x y).1 h

le_true : (x y : ℤ) → x ≤ℤ y → int_le x y ≡ true
le_true x y h = grind (arith, ints)

does_follow : (l : Log) (b : BatchRow) (vs : List (List ℕ)) → GoesOn l b → length vs ≡ length b.items → follows l (contents_of b.first b.epoch b.time vs) ≡ true
does_follow l b vs on count =
    let some = on.some in
    let last = on.last in
    and_is _ _ (and_is _ _ (and_is _ _ (and_is _ _ (and_is true _ refl (is_some_count (length vs) (omega (arith, some, count)))) (eq_true b.first (end_of l +ℤ pos 1) on.first)) (le_true (b.first +ℤ (pos (length vs) +ℤ negsuc 0)) MAX_LONG (omega (arith, ints, last, count)))) (le_true l.epoch b.epoch on.climbs)) (le_true (pos 1) b.epoch on.elected)

makes_row : (l : Log) (b : BatchContents) (items : List MetaRecord) (bytes : List ℕ) → batch_of bytes ≡ Ok b → read_values b.values ≡ Ok items → follows l b ≡ true → after_payload l (1 ∷ bytes) ≡ Ok (with_row l (batch_row b items))
unfolding after_payload
makes_row l b items bytes said read on =
    ap (λ (m : Result BatchContents BatchFault). with_why Batch m >>= λ (x : BatchContents). read_values x.values >>= λ rs. cond (follows l x) (Ok (with_row l (batch_row x rs))) (Err Sequence)) said
    ∙ ap (λ (m : Result (List MetaRecord) LogWhy). m >>= λ (rs : List MetaRecord). cond (follows l b) (Ok (with_row l (batch_row b rs))) (Err Sequence)) read
    ∙ ap (λ t. cond t (Ok (with_row l (batch_row b items))) (Err Sequence)) on

-- ---- the payload

-- zeros that are too many for a file
pub zeros_for : (b : BatchRow) (vs : List (List ℕ)) (payload zeros : List ℕ) → AreValuesOf b.items vs → payload ≡ 1 ∷ zeros → length zeros ≡ length (batch_written b.first b.epoch b.time vs) → 2147483647 < length zeros → IsPayloadOf b payload
zeros_for b vs payload zeros all is size many =
    let long = ap length is in
    let one = batch_length b.first b.epoch b.time vs in
    let other = batch_length b.first b.epoch b.time (map bytes_of_record b.items) in
    let same = records_length 0 b.items vs all in record {
      size = omega (arith, long, size, one, other, same);
      is = λ few. absurd (omega (arith, few, long, many));
      read = λ few. absurd (omega (arith, few, long, many));
    }

-- what the law of written batches says
abbrev pub ReadsWritten : Type 0
ReadsWritten = (first epoch time : ℤ) (values : List (List ℕ)) → FitsSigned w64 first → FitsSigned w32 epoch → FitsSigned w64 time → BatchFits values → All AreBytes values
    → batch_of (batch_written first epoch time values) ≡ Ok (contents_of first epoch time values)

-- a batch that was written
pub written_for : (b : BatchRow) (vs : List (List ℕ)) (payload : List ℕ) (first epoch time : ℤ) → first ≡ b.first → epoch ≡ b.epoch → time ≡ b.time → FitsSigned w64 b.first → FitsSigned w32 b.epoch → FitsSigned w64 b.time
    → AreValuesOf b.items vs → All AreBytes vs → payload ≡ 1 ∷ batch_written first epoch time vs → length (batch_written first epoch time vs) ≤ 2147483647 → ReadsWritten → IsPayloadOf b payload
written_for b vs payload first epoch time first_is epoch_is time_is ff fe ft all bytes is few law =
    let one = batch_length first epoch time vs in
    let other = batch_length (pos 0) (pos 0) (pos 0) vs in
    let read = all_read 0 b.items vs all (omega (arith, few, one)) in
    let said = law b.first b.epoch b.time vs ff fe ft (batch_fits vs (omega (arith, few, one, other))) bytes in
    let written : payload ≡ 1 ∷ batch_written b.first b.epoch b.time vs =
    is ∙ ap (λ f. 1 ∷ batch_written f epoch time vs) first_is ∙ ap (λ e. 1 ∷ batch_written b.first e time vs) epoch_is ∙ ap (λ t. 1 ∷ batch_written b.first b.epoch t vs) time_is in
    let same : payload ≡ batch_payload b = written ∙ ap (λ xs. 1 ∷ batch_written b.first b.epoch b.time xs) read.0 in record {
      size = ap length same;
      is = λ h. same;
      read = λ h l on. ap (after_payload l) written ∙ makes_row l (contents_of b.first b.epoch b.time vs) b.items (batch_written b.first b.epoch b.time vs) said read.1 (does_follow l b vs on (values_length b.items vs all));
    }

-- ---- a reset

reset_epoch : (epoch : ℤ) → FitsSigned w32 epoch → signed_at w32 0 (to_be_bytes w32 (cast_unsigned w32 epoch)) ≡ epoch
reset_epoch epoch fits = ap (cast_signed w32) (from_be_bytes-to_be_bytes_4 (cast_unsigned w32 epoch) (omega (arith, ints))) ∙ to_z-of_z w32 epoch fits

-- what is written for a reset is read as one
pub reset_read : (l : Log) → FitsSigned w32 l.epoch → after_payload l (reset_payload l) ≡ Ok (reset l)
unfolding after_payload
reset_read l fits =
    ap (λ t. cond (t && true) (Ok (reset l)) (Err Sequence)) (eq_true (signed_at w32 0 (to_be_bytes w32 (cast_unsigned w32 l.epoch))) l.epoch (reset_epoch l.epoch fits))

reset_is : (l : Log) (payload : List ℕ) (epoch : ℤ) → epoch ≡ l.epoch → payload ≡ 2 ∷ to_be_bytes w32 (cast_unsigned w32 epoch) → payload ≡ reset_payload l
reset_is l payload epoch same is = is ∙ ap (λ e. 2 ∷ to_be_bytes w32 (cast_unsigned w32 e)) same

pub reset_makes : (l : Log) (payload : List ℕ) (epoch : ℤ) → FitsSigned w32 epoch → epoch ≡ l.epoch → payload ≡ 2 ∷ to_be_bytes w32 (cast_unsigned w32 epoch) → after_payload l payload ≡ Ok (reset l)
reset_makes l payload epoch fits same is = ap (after_payload l) (reset_is l payload epoch same is) ∙ reset_read l (subst (λ e. FitsSigned w32 e) same fits)

pub reset_size : (l : Log) (payload : List ℕ) (epoch : ℤ) → payload ≡ 2 ∷ to_be_bytes w32 (cast_unsigned w32 epoch) → length payload ≡ length (reset_payload l)
reset_size l payload epoch is = ap length is
