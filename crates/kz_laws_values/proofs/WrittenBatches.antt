-- What is written for values that fit is a batch of these values.
use Rattle.std.proofs.Common.{◌≡◌, ℕ, zero, suc, ◌+◌, ◌-◌, ◌*◌, ◌/◌, ◌%◌, ◌^◌, ◌<◌, ◌≤◌, ℤ, pos, negsuc, ◌+ℤ◌, Bool, true, false, cond, ◌==◌, List, [], ◌∷◌, ◌++◌, length, take, drop, Option, Some, None, Ok, refl, sym, ap, ◌∙◌, subst, length-append, arith, rules, FitsSigned}
use Rattle.std.specs.Prelude.{map, bit_xor}
use Rattle.std.specs.Int.{Width, w16, w32, w64, from_be_bytes, to_be_bytes, cast_signed, cast_unsigned}
use Rattle.std.specs.List.{All}
use Rattle.std.proofs.lemmas.Int.{ints, to_z-of_z}
use Rattle.std.proofs.lemmas.Nat.{xor_of_32}
use Rattle.std.proofs.lemmas.List.Elements.{All-head, All-tail}
use mir.Val.{bits}
use Rattle.kz_types.specs.declared.record.ByteFault.{ByteFault}
use Rattle.kz_spec_data.specs.Fields.{Format, varint, varlong, zigzag, groups_of, IsGroups}
use Rattle.kz_spec_data.specs.Forms.{◌⊗◌, Each, items_written, AllFit}
use Rattle.kz_spec_data.specs.Checksum.{polynomial, after_bit, after_bits, after_bytes, crc32c}
use Rattle.kz_spec_data.specs.Batches.{base_offset, stated_length, leader_epoch, magic, stated_sum, compression, is_control, last_delta, base_time, stated_count, IsContent, part, no_attributes, measured_or_null, measured_written, IsMeasured, HasLength, bytes_with_length, header, headers, Content, content, value_of, entry, AreNumbered, IsBatch, batch_of, content_with, records_written, header_written, summed_written, batch_written, Holds31, BatchFits}
use Rattle.kz_laws_values.specs.Texts.{AreBytes}
use Rattle.kz_laws_values.specs.WrittenContents.{contents_of}
use Rattle.kz_laws_values.proofs.Exact.{AreSmall, small_from_bytes}
use Rattle.kz_laws_values.proofs.Basics.{HasBytes, bytes_32, bytes_64, HasSigns, signs_32, signs_64}
use Rattle.kz_laws_values.proofs.Written.{Writes, any, Fewest, groups_written, uvarint_spells, pair_writes, items_spell}
use Rattle.kz_laws_values.proofs.Batches.{batch_is_read}

-- ---- the checksum has 32 bits

one_bit : (state : ℕ) (even : Bool) → state < 2 ^ 32 → cond even (state / 2) (bit_xor (state / 2) polynomial) < 2 ^ 32
one_bit state true lt = omega (arith, lt)
one_bit state false lt = xor_of_32 (state / 2) polynomial (omega (arith, lt)) (omega arith)

bits_below : (n state : ℕ) → state < 2 ^ 32 → after_bits n state < 2 ^ 32
unfolding after_bits
bits_below zero state lt = lt
bits_below (suc n) state lt = bits_below n (after_bit state) (one_bit state (state % 2 == 0) lt)

bytes_below : (state : ℕ) (bytes : List ℕ) → state < 2 ^ 32 → AreSmall bytes → after_bytes state bytes < 2 ^ 32
unfolding after_bytes
bytes_below state [] lt small = lt
bytes_below state (b ∷ bytes) lt small =
    let byte : b < 2 ^ 32 = omega (arith, small.0) in
    bytes_below (after_bits 8 (bit_xor state b)) bytes (bits_below 8 (bit_xor state b) (xor_of_32 state b lt byte)) small.1

sum_below : (bytes : List ℕ) → AreSmall bytes → crc32c bytes < 2 ^ 32
sum_below bytes small = xor_of_32 (after_bytes (2 ^ 32 - 1) bytes) (2 ^ 32 - 1) (bytes_below (2 ^ 32 - 1) bytes (omega arith) small) (omega arith)

-- ---- what is written is bytes

pub small_joined : (xs ys : List ℕ) → AreSmall xs → AreSmall ys → AreSmall (xs ++ ys)
small_joined [] ys s t = t
small_joined (x ∷ xs) ys s t = (s.0, small_joined xs ys s.1 t)

small_groups : (n : ℕ) (bytes : List ℕ) → IsGroups n bytes → AreSmall bytes
small_groups n [] g = tt
small_groups n (b ∷ []) g = (omega (arith, g.0), tt)
small_groups n (b ∷ c ∷ tail) g = (g.1, small_groups g.2.0 (c ∷ tail) g.2.2)

small_16 : (n : ℕ) → AreSmall (to_be_bytes w16 n)
small_16 n = (omega arith, (omega arith, tt))

small_32 : (n : ℕ) → AreSmall (to_be_bytes w32 n)
small_32 n = (omega arith, (omega arith, (omega arith, (omega arith, tt))))

small_64 : (n : ℕ) → AreSmall (to_be_bytes w64 n)
small_64 n = (omega arith, (omega arith, (omega arith, (omega arith, (omega arith, (omega arith, (omega arith, (omega arith, tt))))))))

-- ---- fields of a record

part_writes : {X : Type 0} (f : Format ByteFault X) → Writes f any → Writes (part f) any
part_writes f wf = record { writes = λ x fits short. wf.writes x fits tt }

varint_spells : (z : ℤ) → zigzag z < 2 ^ 32 → varint.spells z (varint.written z)
varint_spells z lt = uvarint_spells (zigzag z) lt

pub varint_writes : Writes varint any
varint_writes = record { writes = λ z fits short. varint_spells z fits }

pub varlong_writes : Writes varlong any
varlong_writes = record {
  writes = λ z fits short.
      let g = groups_written 9 9 (zigzag z) (omega arith) (omega (arith, fits)) in
      (g.groups, g.few, fits);
}

no_attributes_writes : Writes no_attributes any
no_attributes_writes = record { writes = λ x fits short. refl }

measured_spells : (value : Option (List ℕ)) → HasLength value → IsMeasured value (measured_written value)
measured_spells None fits = varint_spells (negsuc 0) (omega arith)
measured_spells (Some x) fits = (varint.written (pos (length x)), refl, varint_spells (pos (length x)) (omega (arith, fits)))

measured_or_null_writes : Writes measured_or_null any
measured_or_null_writes = record { writes = λ value fits short. measured_spells value fits }

measured_writes : Writes bytes_with_length any
measured_writes = record { writes = λ x fits short. measured_spells (Some x) fits }

header_writes : Writes header any
header_writes = pair_writes bytes_with_length measured_or_null any measured_writes measured_or_null_writes

headers_writes : Writes headers any
headers_writes = record {
  writes = λ hs fits short. (varint.written (pos (length hs)), items_written header.written hs, refl, varint_spells (pos (length hs)) (omega (arith, fits.0)), items_spell header header_writes hs fits.1);
}

infixr 20 ◌⊠◌
◌⊠◌ : {E X Y : Type 0} {f : Format E X} {g : Format E Y} → Writes f any → Writes g any → Writes (f ⊗ g) any
wf ⊠ wg = pair_writes _ _ any wf wg

content_writes : Writes content any
content_writes = no_attributes_writes ⊠ part_writes varlong varlong_writes ⊠ part_writes varlong varlong_writes ⊠ measured_or_null_writes ⊠ measured_writes ⊠ headers_writes

entry_spells : (c : Content) → entry.fits c → entry.spells c (entry.written c)
entry_spells c fits = (varint.written (pos (length (content.written c))), content.written c, refl, varint_spells (pos (length (content.written c))) (omega (arith, fits.0)), content_writes.writes c fits.1 tt)

-- ---- records that hold a value

-- what is written for a number below 2 ^ 32
few_groups : (n : ℕ) → n < 2 ^ 32 → Fewest n 4 (groups_of 9 n)
few_groups n lt = groups_written 9 4 n (omega arith) (omega (arith, lt))

short_content : (a b c d e value : List ℕ) → length a ≤ 5 → length b ≤ 5 → length c ≤ 5 → length d ≤ 5 → length e ≤ 5 → Holds31 value
    → length ((0 ∷ []) ++ (a ++ (b ++ (c ++ ((d ++ value) ++ (e ++ [])))))) < 2 ^ 31
short_content a b c d e value la lb lc ld le holds =
    omega (arith, la, lb, lc, ld, le, holds, length-append a (b ++ (c ++ ((d ++ value) ++ (e ++ [])))), length-append b (c ++ ((d ++ value) ++ (e ++ []))), length-append c ((d ++ value) ++ (e ++ [])), length-append (d ++ value) (e ++ []), length-append d value, length-append e [])

small_content : (a b c d e value : List ℕ) → AreSmall a → AreSmall b → AreSmall c → AreSmall d → AreSmall e → AreSmall value
    → AreSmall ((0 ∷ []) ++ (a ++ (b ++ (c ++ ((d ++ value) ++ (e ++ []))))))
small_content a b c d e value sa sb sc sd se sv =
    (omega arith, small_joined a _ sa (small_joined b _ sb (small_joined c _ sc (small_joined (d ++ value) _ (small_joined d value sd sv) (small_joined e [] se tt)))))

holding_short : (n : ℕ) (value : List ℕ) → n < 2 ^ 31 → Holds31 value → length (content.written (content_with n value)) < 2 ^ 31
holding_short n value lt holds =
    let zero_few = few_groups 0 (omega arith) in
    let one_few = few_groups 1 (omega arith) in
    let delta_few = few_groups (2 * n) (omega (arith, lt)) in
    let size_few = few_groups (2 * length value) (omega (arith, holds)) in
    short_content (groups_of 9 0) (groups_of 9 (2 * n)) (groups_of 9 1) (groups_of 9 (2 * length value)) (groups_of 9 0) value zero_few.few delta_few.few one_few.few size_few.few zero_few.few holds

holding_fits : (n : ℕ) (value : List ℕ) → n < 2 ^ 31 → Holds31 value → entry.fits (content_with n value)
holding_fits n value lt holds = (holding_short n value lt holds, (tt, (omega arith, (omega (arith, lt), (tt, (omega (arith, holds), (omega arith, tt)))))))

holding_small : (n : ℕ) (value : List ℕ) → n < 2 ^ 31 → Holds31 value → AreSmall value → AreSmall (entry.written (content_with n value))
holding_small n value lt holds small =
    let zero_few = few_groups 0 (omega arith) in
    let one_few = few_groups 1 (omega arith) in
    let delta_few = few_groups (2 * n) (omega (arith, lt)) in
    let size_few = few_groups (2 * length value) (omega (arith, holds)) in
    let whole = few_groups (2 * length (content.written (content_with n value))) (omega (arith, holding_short n value lt holds)) in
    small_joined (varint.written (pos (length (content.written (content_with n value))))) (content.written (content_with n value))
    (small_groups (2 * length (content.written (content_with n value))) (groups_of 9 (2 * length (content.written (content_with n value)))) whole.groups)
    (small_content (groups_of 9 0) (groups_of 9 (2 * n)) (groups_of 9 1) (groups_of 9 (2 * length value)) (groups_of 9 0) value
    (small_groups 0 (groups_of 9 0) zero_few.groups) (small_groups (2 * n) (groups_of 9 (2 * n)) delta_few.groups) (small_groups 1 (groups_of 9 1) one_few.groups)
    (small_groups (2 * length value) (groups_of 9 (2 * length value)) size_few.groups) (small_groups 0 (groups_of 9 0) zero_few.groups) small)

-- the contents of records that hold these values at this offset delta and the next ones
abbrev held : ℕ → List (List ℕ) → List Content
held n [] = []
held n (v ∷ vs) = content_with n v ∷ held (n + 1) vs

held_length : (n : ℕ) (vs : List (List ℕ)) → length (held n vs) ≡ length vs
held_length n [] = refl
held_length n (v ∷ vs) = ap suc (held_length (n + 1) vs)

held_numbered : (n : ℕ) (vs : List (List ℕ)) → AreNumbered n (held n vs)
held_numbered n [] = tt
held_numbered n (v ∷ vs) = (refl, held_numbered (n + 1) vs)

held_values : (n : ℕ) (vs : List (List ℕ)) → vs ≡ map value_of (held n vs)
held_values n [] = refl
held_values n (v ∷ vs) = ap (λ ws. v ∷ ws) (held_values (n + 1) vs)

held_spelled : (n : ℕ) (vs : List (List ℕ)) → n + length vs < 2 ^ 31 → AllFit Holds31 vs → Each entry.spells (held n vs) (records_written n vs)
held_spelled n [] lt fits = refl
held_spelled n (v ∷ vs) lt fits =
    let here : n < 2 ^ 31 = omega (arith, lt) in
    (entry.written (content_with n v), records_written (n + 1) vs, refl, entry_spells (content_with n v) (holding_fits n v here fits.0), held_spelled (n + 1) vs (omega (arith, lt)) fits.1)

records_small : (n : ℕ) (vs : List (List ℕ)) → n + length vs < 2 ^ 31 → AllFit Holds31 vs → All AreBytes vs → AreSmall (records_written n vs)
records_small n [] lt fits small = tt
records_small n (v ∷ vs) lt fits small =
    let here : n < 2 ^ 31 = omega (arith, lt) in
    small_joined (entry.written (content_with n v)) (records_written (n + 1) vs)
    (holding_small n v here fits.0 (small_from_bytes v (All-head AreBytes v vs small)))
    (records_small (n + 1) vs (omega (arith, lt)) fits.1 (All-tail AreBytes v vs small))

-- ---- the header's numbers stand at their places

-- from the attributes to the count of records, by the numbers in it
abbrev numbers : ℕ → ℕ → ℕ → ℕ → ℕ → ℕ → List ℕ
numbers last time producer term sequence count = to_be_bytes w16 0 ++ (to_be_bytes w32 last ++ (to_be_bytes w64 time ++ (to_be_bytes w64 time ++ (to_be_bytes w64 producer ++ (to_be_bytes w16 term ++ (to_be_bytes w32 sequence ++ to_be_bytes w32 count))))))

-- what stands in front of the sum's bytes, and these
abbrev sealed : ℕ → ℕ → ℕ → ℕ → List ℕ → List ℕ
sealed first size epoch sum rest = to_be_bytes w64 first ++ (to_be_bytes w32 size ++ (to_be_bytes w32 epoch ++ (2 ∷ (to_be_bytes w32 sum ++ rest))))

sealed_length : (first size epoch sum : ℕ) (rest : List ℕ) → length (sealed first size epoch sum rest) ≡ 21 + length rest
sealed_length first size epoch sum rest = omega arith

numbers_length : (last time producer term sequence count : ℕ) (records : List ℕ) → length (numbers last time producer term sequence count ++ records) ≡ 40 + length records
numbers_length last time producer term sequence count records = omega arith

first_place : (first size epoch sum : ℕ) (rest : List ℕ) → take 8 (drop 0 (sealed first size epoch sum rest)) ≡ to_be_bytes w64 first
first_place first size epoch sum rest = refl

size_place : (first size epoch sum : ℕ) (rest : List ℕ) → take 4 (drop 8 (sealed first size epoch sum rest)) ≡ to_be_bytes w32 size
size_place first size epoch sum rest = refl

epoch_place : (first size epoch sum : ℕ) (rest : List ℕ) → take 4 (drop 12 (sealed first size epoch sum rest)) ≡ to_be_bytes w32 epoch
epoch_place first size epoch sum rest = refl

sum_place : (first size epoch sum : ℕ) (rest : List ℕ) → take 4 (drop 17 (sealed first size epoch sum rest)) ≡ to_be_bytes w32 sum
sum_place first size epoch sum rest = refl

rest_place : (first size epoch sum : ℕ) (rest : List ℕ) → drop 21 (sealed first size epoch sum rest) ≡ rest
rest_place first size epoch sum rest = refl

last_place : (first size epoch sum last time producer term sequence count : ℕ) (records : List ℕ)
    → take 4 (drop 23 (sealed first size epoch sum (numbers last time producer term sequence count ++ records))) ≡ to_be_bytes w32 last
last_place first size epoch sum last time producer term sequence count records = refl

time_place : (first size epoch sum last time producer term sequence count : ℕ) (records : List ℕ)
    → take 8 (drop 27 (sealed first size epoch sum (numbers last time producer term sequence count ++ records))) ≡ to_be_bytes w64 time
time_place first size epoch sum last time producer term sequence count records = refl

count_place : (first size epoch sum last time producer term sequence count : ℕ) (records : List ℕ)
    → take 4 (drop 57 (sealed first size epoch sum (numbers last time producer term sequence count ++ records))) ≡ to_be_bytes w32 count
count_place first size epoch sum last time producer term sequence count records = refl

records_place : (first size epoch sum last time producer term sequence count : ℕ) (records : List ℕ)
    → drop 61 (sealed first size epoch sum (numbers last time producer term sequence count ++ records)) ≡ records
records_place first size epoch sum last time producer term sequence count records = refl

-- ---- the header's numbers

number_is : (w : Width) → HasBytes w → (n : ℕ) (piece : List ℕ) → n < 2 ^ bits w → piece ≡ to_be_bytes w n → from_be_bytes w piece ≡ n
number_is w has n piece lt e = ap (from_be_bytes w) e ∙ has.again n lt

signed_is : (w : Width) → HasBytes w → HasSigns w → (z : ℤ) (piece : List ℕ) → FitsSigned w z → piece ≡ to_be_bytes w (cast_unsigned w z) → cast_signed w (from_be_bytes w piece) ≡ z
signed_is w has signs z piece fits e = ap (cast_signed w) (number_is w has (cast_unsigned w z) piece (signs.bound z fits) e) ∙ to_z-of_z w z fits

count_fits : (n : ℕ) → n < 2 ^ 31 → FitsSigned w32 (pos n)
count_fits n lt = search rules

last_fits : (n : ℕ) → n < 2 ^ 31 → FitsSigned w32 (pos n +ℤ negsuc 0)
last_fits zero lt = search rules
last_fits (suc n) lt = search rules

one_more : (n : ℕ) → (pos n +ℤ negsuc 0) +ℤ pos 1 ≡ pos n
one_more n = omega (arith, ints)

summed_length : (time : ℤ) (values : List (List ℕ)) → length (summed_written time values) ≡ 40 + length (records_written 0 values)
summed_length time values = numbers_length (cast_unsigned w32 (pos (length values) +ℤ negsuc 0)) (cast_unsigned w64 time) (cast_unsigned w64 (negsuc 0)) (cast_unsigned w16 (negsuc 0)) (cast_unsigned w32 (negsuc 0)) (length values) (records_written 0 values)

numbers_small : (last time producer term sequence count : ℕ) → AreSmall (numbers last time producer term sequence count)
numbers_small last time producer term sequence count =
    small_joined (to_be_bytes w16 0) (to_be_bytes w32 last ++ (to_be_bytes w64 time ++ (to_be_bytes w64 time ++ (to_be_bytes w64 producer ++ (to_be_bytes w16 term ++ (to_be_bytes w32 sequence ++ to_be_bytes w32 count)))))) (small_16 0)
    (small_joined (to_be_bytes w32 last) (to_be_bytes w64 time ++ (to_be_bytes w64 time ++ (to_be_bytes w64 producer ++ (to_be_bytes w16 term ++ (to_be_bytes w32 sequence ++ to_be_bytes w32 count))))) (small_32 last)
    (small_joined (to_be_bytes w64 time) (to_be_bytes w64 time ++ (to_be_bytes w64 producer ++ (to_be_bytes w16 term ++ (to_be_bytes w32 sequence ++ to_be_bytes w32 count)))) (small_64 time)
    (small_joined (to_be_bytes w64 time) (to_be_bytes w64 producer ++ (to_be_bytes w16 term ++ (to_be_bytes w32 sequence ++ to_be_bytes w32 count))) (small_64 time)
    (small_joined (to_be_bytes w64 producer) (to_be_bytes w16 term ++ (to_be_bytes w32 sequence ++ to_be_bytes w32 count)) (small_64 producer)
    (small_joined (to_be_bytes w16 term) (to_be_bytes w32 sequence ++ to_be_bytes w32 count) (small_16 term)
    (small_joined (to_be_bytes w32 sequence) (to_be_bytes w32 count) (small_32 sequence) (small_32 count)))))))

summed_small : (time : ℤ) (values : List (List ℕ)) → AreSmall (records_written 0 values) → AreSmall (summed_written time values)
summed_small time values small =
    small_joined (header_written time (length values)) (records_written 0 values)
    (numbers_small (cast_unsigned w32 (pos (length values) +ℤ negsuc 0)) (cast_unsigned w64 time) (cast_unsigned w64 (negsuc 0)) (cast_unsigned w16 (negsuc 0)) (cast_unsigned w32 (negsuc 0)) (length values))
    small

-- what stands in a batch that was written
record Stands (first epoch time : ℤ) (values : List (List ℕ)) (bytes : List ℕ) : Type 0 where
  size : length bytes ≡ 61 + length (records_written 0 values)
  stated : stated_length bytes ≡ pos (length bytes - 12)
  format : magic bytes ≡ 2
  sum : stated_sum bytes ≡ crc32c (drop 21 bytes)
  plain : compression bytes ≡ 0
  first_is : base_offset bytes ≡ first
  epoch_is : leader_epoch bytes ≡ epoch
  time_is : base_time bytes ≡ time
  last : last_delta bytes ≡ pos (length values) +ℤ negsuc 0
  control : is_control bytes ≡ false
  count : stated_count bytes ≡ pos (length values)
  records : drop 61 bytes ≡ records_written 0 values

stands : (first epoch time : ℤ) (values : List (List ℕ)) → FitsSigned w64 first → FitsSigned w32 epoch → FitsSigned w64 time → BatchFits values → All AreBytes values
    → Stands first epoch time values (batch_written first epoch time values)
stands first epoch time values ff fe ft fits small =
    let bytes = batch_written first epoch time values in
    let rest = summed_written time values in
    let records = records_written 0 values in
    let count = length values in
    let size = length rest + 9 in
    let sum = crc32c rest in
    let f = cast_unsigned w64 first in
    let e = cast_unsigned w32 epoch in
    let t = cast_unsigned w64 time in
    let last = cast_unsigned w32 (pos count +ℤ negsuc 0) in
    let producer = cast_unsigned w64 (negsuc 0) in
    let term = cast_unsigned w16 (negsuc 0) in
    let sequence = cast_unsigned w32 (negsuc 0) in
    let few : length values < 2 ^ 31 = fits.count in
    let all : length (summed_written time values) ≡ 40 + length (records_written 0 values) = summed_length time values in
    let other : length (summed_written (pos 0) values) ≡ 40 + length (records_written 0 values) = summed_length (pos 0) values in
    let short : length (summed_written time values) + 9 < 2 ^ 31 = omega (arith, fits.whole, all, other) in
    let whole : length (batch_written first epoch time values) ≡ 21 + length (summed_written time values) = sealed_length f size e sum rest in
    let counted : length (summed_written time values) + 9 ≡ length (batch_written first epoch time values) - 12 = omega (arith, whole) in
    let bytes_small : AreSmall (summed_written time values) = summed_small time values (records_small 0 values (omega (arith, few)) fits.each small) in
    record {
      size = omega (arith, whole, all);
      stated = signed_is w32 bytes_32 signs_32 (pos size) _ (count_fits size short) (size_place f size e sum rest) ∙ ap pos counted;
      format = refl;
      sum = number_is w32 bytes_32 sum _ (sum_below rest bytes_small) (sum_place f size e sum rest);
      plain = refl;
      first_is = signed_is w64 bytes_64 signs_64 first _ ff (first_place f size e sum rest);
      epoch_is = signed_is w32 bytes_32 signs_32 epoch _ fe (epoch_place f size e sum rest);
      time_is = signed_is w64 bytes_64 signs_64 time _ ft (time_place f size e sum last t producer term sequence count records);
      last = signed_is w32 bytes_32 signs_32 (pos count +ℤ negsuc 0) _ (last_fits count few) (last_place f size e sum last t producer term sequence count records);
      control = refl;
      count = signed_is w32 bytes_32 signs_32 (pos count) _ (count_fits count few) (count_place f size e sum last t producer term sequence count records);
      records = records_place f size e sum last t producer term sequence count records;
    }

-- ---- the laws

content_stands : (values : List (List ℕ)) (bytes : List ℕ) → BatchFits values → last_delta bytes ≡ pos (length values) +ℤ negsuc 0 → stated_count bytes ≡ pos (length values)
    → drop 61 bytes ≡ records_written 0 values → IsContent false bytes values
content_stands values bytes fits last count records = (
  held 0 values,
  record {
    spelled = subst (λ b. Each entry.spells (held 0 values) b) (sym records) (held_spelled 0 values (omega (arith, fits.count)) fits.each);
    count = count ∙ ap pos (sym (held_length 0 values));
    last = ap (λ z. z +ℤ pos 1) last ∙ one_more (length values) ∙ ap pos (sym (held_length 0 values));
    order = held_numbered 0 values;
  },
  held_values 0 values,
)

stands_as_batch : (first epoch time : ℤ) (values : List (List ℕ)) (bytes : List ℕ) → BatchFits values → Stands first epoch time values bytes → IsBatch bytes (contents_of first epoch time values)
stands_as_batch first epoch time values bytes fits s =
    let long : 61 ≤ length bytes = omega (arith, s.size) in
    record {
      size = long;
      stated = s.stated;
      format = s.format;
      sum = s.sum;
      plain = s.plain;
      first = sym s.first_is;
      epoch = sym s.epoch_is;
      time = sym s.time_is;
      last = sym (ap (λ z. z +ℤ last_delta bytes) s.first_is ∙ ap (λ z. first +ℤ z) s.last);
      control = sym s.control;
      content = content_stands values bytes fits s.last s.count s.records;
    }

pub written_is_batch : (first epoch time : ℤ) (values : List (List ℕ)) → FitsSigned w64 first → FitsSigned w32 epoch → FitsSigned w64 time → BatchFits values → All AreBytes values
    → IsBatch (batch_written first epoch time values) (contents_of first epoch time values)
written_is_batch first epoch time values ff fe ft fits small =
    stands_as_batch first epoch time values (batch_written first epoch time values) fits (stands first epoch time values ff fe ft fits small)

pub written_batch_is_read : (first epoch time : ℤ) (values : List (List ℕ)) → FitsSigned w64 first → FitsSigned w32 epoch → FitsSigned w64 time → BatchFits values → All AreBytes values
    → batch_of (batch_written first epoch time values) ≡ Ok (contents_of first epoch time values)
written_batch_is_read first epoch time values ff fe ft fits small =
    batch_is_read (batch_written first epoch time values) (contents_of first epoch time values) (written_is_batch first epoch time values ff fe ft fits small)
