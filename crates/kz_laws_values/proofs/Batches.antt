-- Bytes are read as a batch exactly where they are that batch.
use Rattle.std.proofs.Common.{◌≡◌, ℕ, ◌+◌, ◌-◌, ◌≤◌, ℤ, pos, negsuc, ◌+ℤ◌, Bool, true, false, cond, nat_lt, ◌==◌, List, [], ◌∷◌, ◌++◌, length, take, drop, Result, Ok, Err, refl, sym, ap, ◌∙◌, subst, append-nil, arith, eq-eqb, eqb-true, le-ltb, ltb-false}
use Rattle.std.specs.Prelude.{map, not, ◌&&◌, ◌≤ℤ◌}
use Rattle.std.specs.Int.{is_negative}
use Rattle.std.specs.Ordering.{int_eq}
use Rattle.std.proofs.lemmas.Bool.Decides.{Decides-int_eq}
use Rattle.std.proofs.lemmas.Int.{ints}
use Rattle.std.proofs.lemmas.List.{take_all, take-append-drop, length-drop}
use Rattle.kz_types.specs.declared.record.BatchFault.{BatchFault}
use Rattle.kz_types.specs.declared.record.BatchFault.TheVariants.{Short, BadMagic, BadCrc, Compressed, BadCount, BadOrder}
use Rattle.kz_spec_data.specs.Fields.{Reading, ◌>>=◌}
use Rattle.kz_spec_data.specs.Forms.{Each, items_at}
use Rattle.kz_spec_data.specs.Checksum.{crc32c}
use Rattle.kz_spec_data.specs.Batches.{base_offset, stated_length, leader_epoch, magic, stated_sum, compression, is_control, last_delta, base_time, stated_count, Content, delta_of, value_of, entry, BatchContents, AreNumbered, AreRecords, IsContent, IsBatch, holds_whole_batch, is_short, summed_rest, bytes_under_sum, records_counted, is_numbered, values_of, batch_with, batch_of}
use Rattle.kz_laws_values.proofs.Exact.{AreSmall, came, ok_same, result_same, small_rest}
use Rattle.kz_laws_values.proofs.Basics.{passed_true, passed_false, cond_true, cond_false}
use Rattle.kz_laws_values.proofs.RecordLists.{items_takes, items_given}
use Rattle.kz_laws_values.proofs.BatchParts.{none_left, entry_exact}

-- ---- tests

pub int_eq_true : (x y : ℤ) → x ≡ y → int_eq x y ≡ true
int_eq_true x y e = (Decides-int_eq x y).1 e

pub int_eq_is : (x y : ℤ) → int_eq x y ≡ true → x ≡ y
int_eq_is x y e = (Decides-int_eq x y).0 e

both_true : (a b : Bool) → a ≡ true → b ≡ true → (a && b) ≡ true
both_true true true e f = refl
both_true true false e f = absurd (cc)
both_true false b e f = absurd (cc)

each_true : (a b : Bool) → (a && b) ≡ true → (a ≡ true) × (b ≡ true)
each_true true true e = (refl, refl)
each_true true false e = absurd (cc)
each_true false b e = absurd (cc)

not_false : (a : Bool) → not a ≡ false → a ≡ true
not_false true e = refl
not_false false e = absurd (cc)

not_true : (a : Bool) → not a ≡ true → a ≡ false
not_true true e = absurd (cc)
not_true false e = refl

-- a test that fails where it is not met was met
met : {A E : Type 0} (b : Bool) (e : E) (m : Result A E) (y : A) → cond (not b) (Err e) m ≡ Ok y → (b ≡ true) × (m ≡ Ok y)
met true e m y h = (refl, h)
met false e m y h = absurd (cc)

meets : {A E : Type 0} (b : Bool) (e : E) (m : Result A E) → b ≡ true → cond (not b) (Err e) m ≡ m
meets true e m is = refl
meets false e m is = absurd (cc)

-- ---- records

numbered_true : (n : ℕ) (cs : List Content) → AreNumbered n cs → is_numbered n cs ≡ true
numbered_true n [] a = refl
numbered_true n (c ∷ cs) a = both_true (int_eq (delta_of c) (pos n)) (is_numbered (n + 1) cs) (int_eq_true (delta_of c) (pos n) a.0) (numbered_true (n + 1) cs a.1)

numbered_is : (n : ℕ) (cs : List Content) → is_numbered n cs ≡ true → AreNumbered n cs
numbered_is n [] e = tt
numbered_is n (c ∷ cs) e =
    let h = each_true (int_eq (delta_of c) (pos n)) (is_numbered (n + 1) cs) e in
    (int_eq_is (delta_of c) (pos n) h.0, numbered_is (n + 1) cs h.1)

abbrev records_end : List ℕ → ℕ → List Content × Reading → Result (List Content) BatchFault
records_end bytes n x = cond ((length x.1.left == 0) && int_eq (last_delta bytes +ℤ pos 1) (pos n)) (Ok x.0) (Err BadCount)

records_taken : (bytes : List ℕ) (cs : List Content) → AreRecords bytes cs → records_counted (stated_count bytes) bytes ≡ Ok cs
records_taken bytes cs r =
    ap (λ z. records_counted z bytes) r.count
    ∙ ap (λ b. items_at entry.read (length cs) (record { at = 61; left = b }) >>= records_end bytes (length cs)) (sym (append-nil (drop 61 bytes)))
    ∙ ap (λ m. m >>= records_end bytes (length cs)) (items_takes entry entry_exact cs (drop 61 bytes) [] 61 r.spelled)
    ∙ cond_true (int_eq (last_delta bytes +ℤ pos 1) (pos (length cs))) (Ok cs) (Err BadCount) (int_eq_true (last_delta bytes +ℤ pos 1) (pos (length cs)) r.last)

record Counted (count : ℤ) (bytes : List ℕ) (cs : List Content) : Type 0 where
  spelled : Each entry.spells cs (drop 61 bytes)
  count_is : count ≡ pos (length cs)
  last : last_delta bytes +ℤ pos 1 ≡ pos (length cs)

records_given : (count : ℤ) (bytes : List ℕ) (cs : List Content) → AreSmall (drop 61 bytes) → records_counted count bytes ≡ Ok cs → Counted count bytes cs
records_given (pos n) bytes cs small h =
    let c = came (items_at entry.read n (record { at = 61; left = drop 61 bytes })) (records_end bytes n) cs h in
    let one = items_given entry entry_exact n c.value.0 (record { at = 61; left = drop 61 bytes }) c.value.1 small c.first in
    let d = passed_true ((length c.value.1.left == 0) && int_eq (last_delta bytes +ℤ pos 1) (pos n)) BadCount (Ok c.value.0) cs c.second in
    let e = each_true (length c.value.1.left == 0) (int_eq (last_delta bytes +ℤ pos 1) (pos n)) d.0 in
    let all : drop 61 bytes ≡ one.bytes = one.split ∙ ap (λ b. one.bytes ++ b) (none_left c.value.1.left (eqb-true (length c.value.1.left) 0 e.0)) ∙ append-nil one.bytes in
    subst (Counted (pos n) bytes) (ok_same c.value.0 cs d.1)
    (record {
      spelled = subst (λ b. Each entry.spells c.value.0 b) (sym all) one.each;
      count_is = ap pos (sym one.count);
      last = int_eq_is (last_delta bytes +ℤ pos 1) (pos n) e.1 ∙ ap pos (sym one.count);
    })
records_given (negsuc n) bytes cs small h = absurd (cc)

-- ---- contents

negative_false : (z : ℤ) → pos 0 ≤ℤ z → is_negative z ≡ false
negative_false z le = grind (arith, ints)

negative_is : (z : ℤ) → is_negative z ≡ false → pos 0 ≤ℤ z
negative_is z e = grind (arith, ints)

abbrev values_end : List Content → Result (List (List ℕ)) BatchFault
values_end cs = cond (is_numbered 0 cs) (Ok (map value_of cs)) (Err BadOrder)

values_taken : (control : Bool) (bytes : List ℕ) (values : List (List ℕ)) → IsContent control bytes values → values_of control bytes ≡ Ok values
values_taken true bytes values s = cond_false (is_negative (last_delta bytes)) (Err BadCount) (Ok []) (negative_false (last_delta bytes) s.0) ∙ ap Ok (sym s.1)
values_taken false bytes values s =
    ap (λ m. m >>= values_end) (records_taken bytes s.0 s.1)
    ∙ cond_true (is_numbered 0 s.0) (Ok (map value_of s.0)) (Err BadOrder) (numbered_true 0 s.0 s.1.order)
    ∙ ap Ok (sym s.2)

values_given : (control : Bool) (bytes : List ℕ) (values : List (List ℕ)) → AreSmall (drop 61 bytes) → values_of control bytes ≡ Ok values → IsContent control bytes values
values_given true bytes values small h =
    let c = passed_false (is_negative (last_delta bytes)) BadCount (Ok []) values h in
    (negative_is (last_delta bytes) c.0, sym (ok_same [] values c.1))
values_given false bytes values small h =
    let c = came (records_counted (stated_count bytes) bytes) values_end values h in
    let one = records_given (stated_count bytes) bytes c.value small c.first in
    let d = passed_true (is_numbered 0 c.value) BadOrder (Ok (map value_of c.value)) values c.second in
    (c.value, record { spelled = one.spelled; count = one.count_is; last = one.last; order = numbered_is 0 c.value d.0 }, sym (ok_same (map value_of c.value) values d.1))

-- ---- the header

summed_all : (bytes : List ℕ) → 61 ≤ length bytes → stated_length bytes ≡ pos (length bytes - 12) → bytes_under_sum bytes ≡ drop 21 bytes
summed_all bytes size stated =
    let rest : length (drop 21 bytes) ≤ (length bytes - 12) - 9 = omega (arith, size, length-drop 21 bytes) in
    ap (summed_rest (drop 21 bytes)) stated ∙ take_all ((length bytes - 12) - 9) (drop 21 bytes) rest

sized_true : (size : ℕ) → 61 ≤ size → holds_whole_batch (pos (size - 12)) size ≡ true
sized_true size le =
    both_true (not (nat_lt (size - 12) 49)) (not (nat_lt size (12 + (size - 12))))
    (ap not (le-ltb (size - 12) 49 (omega (arith, le))))
    (ap not (le-ltb size (12 + (size - 12)) (omega (arith, le))))

long_enough : (bytes : List ℕ) → 61 ≤ length bytes → stated_length bytes ≡ pos (length bytes - 12) → is_short bytes ≡ false
long_enough bytes size stated =
    cond_false (nat_lt (length bytes) 61) true (not (holds_whole_batch (stated_length bytes) (length bytes))) (le-ltb (length bytes) 61 size)
    ∙ ap (λ z. not (holds_whole_batch z (length bytes))) stated
    ∙ ap not (sized_true (length bytes) size)

short_61 : (bytes : List ℕ) (less rest : Bool) → nat_lt (length bytes) 61 ≡ less → cond less true rest ≡ false → 61 ≤ length bytes
short_61 bytes true rest e h = absurd (cc)
short_61 bytes false rest e h = ltb-false (length bytes) 61 e

-- ---- whole batches

abbrev with_values : List ℕ → List (List ℕ) → Result BatchContents BatchFault
with_values bytes values = Ok (batch_with bytes values)

abbrev values_read : List ℕ → Result BatchContents BatchFault
values_read bytes = values_of (is_control bytes) bytes >>= with_values bytes

abbrev length_read : List ℕ → Result BatchContents BatchFault
length_read bytes = cond (not (int_eq (stated_length bytes) (pos (length bytes - 12)))) (Err BadCount) (values_read bytes)

abbrev plain_read : List ℕ → Result BatchContents BatchFault
plain_read bytes = cond (not (compression bytes == 0)) (Err (Compressed (compression bytes))) (length_read bytes)

abbrev sum_read : List ℕ → Result BatchContents BatchFault
sum_read bytes = cond (not (stated_sum bytes == crc32c (bytes_under_sum bytes))) (Err (BadCrc (stated_sum bytes) (crc32c (bytes_under_sum bytes)))) (plain_read bytes)

abbrev format_read : List ℕ → Result BatchContents BatchFault
format_read bytes = cond (not (magic bytes == 2)) (Err (BadMagic (magic bytes))) (sum_read bytes)

abbrev contents : ℤ → ℤ → ℤ → ℤ → Bool → List (List ℕ) → BatchContents
contents first epoch time last control values = record { first = first; epoch = epoch; time = time; last = last; control = control; values = values }

contents_same : (first epoch time last : ℤ) (control : Bool) (b : BatchContents)
    → b.first ≡ first → b.epoch ≡ epoch → b.time ≡ time → b.last ≡ last → b.control ≡ control
    → contents first epoch time last control b.values ≡ b
contents_same first epoch time last control b e f g h i =
    ap (λ x. contents x epoch time last control b.values) (sym e)
    ∙ ap (λ x. contents b.first x time last control b.values) (sym f)
    ∙ ap (λ x. contents b.first b.epoch x last control b.values) (sym g)
    ∙ ap (λ x. contents b.first b.epoch b.time x control b.values) (sym h)
    ∙ ap (λ x. contents b.first b.epoch b.time b.last x b.values) (sym i)

batch_same : (bytes : List ℕ) (b : BatchContents) → IsBatch bytes b → batch_with bytes b.values ≡ b
batch_same bytes b s = contents_same (base_offset bytes) (leader_epoch bytes) (base_time bytes) (base_offset bytes +ℤ last_delta bytes) (is_control bytes) b s.first s.epoch s.time s.last s.control

pub batch_is_read : (bytes : List ℕ) (b : BatchContents) → IsBatch bytes b → batch_of bytes ≡ Ok b
unfolding batch_of
batch_is_read bytes b s =
    let sum : stated_sum bytes ≡ crc32c (bytes_under_sum bytes) = s.sum ∙ ap crc32c (sym (summed_all bytes s.size s.stated)) in
    let values : values_of (is_control bytes) bytes ≡ Ok b.values = values_taken (is_control bytes) bytes b.values (subst (λ k. IsContent k bytes b.values) s.control s.content) in
    cond_false (is_short bytes) (Err Short) (format_read bytes) (long_enough bytes s.size s.stated)
    ∙ meets (magic bytes == 2) (BadMagic (magic bytes)) (sum_read bytes) (eq-eqb (magic bytes) 2 s.format)
    ∙ meets (stated_sum bytes == crc32c (bytes_under_sum bytes)) (BadCrc (stated_sum bytes) (crc32c (bytes_under_sum bytes))) (plain_read bytes) (eq-eqb (stated_sum bytes) (crc32c (bytes_under_sum bytes)) sum)
    ∙ meets (compression bytes == 0) (Compressed (compression bytes)) (length_read bytes) (eq-eqb (compression bytes) 0 s.plain)
    ∙ meets (int_eq (stated_length bytes) (pos (length bytes - 12))) BadCount (values_read bytes) (int_eq_true (stated_length bytes) (pos (length bytes - 12)) s.stated)
    ∙ ap (λ m. m >>= with_values bytes) values
    ∙ ap Ok (batch_same bytes b s)

pub read_is_batch : (bytes : List ℕ) (b : BatchContents) → AreSmall bytes → batch_of bytes ≡ Ok b → IsBatch bytes b
unfolding batch_of
read_is_batch bytes b small h =
    let c = passed_false (is_short bytes) Short (format_read bytes) b h in
    let d = met (magic bytes == 2) (BadMagic (magic bytes)) (sum_read bytes) b c.1 in
    let e = met (stated_sum bytes == crc32c (bytes_under_sum bytes)) (BadCrc (stated_sum bytes) (crc32c (bytes_under_sum bytes))) (plain_read bytes) b d.1 in
    let f = met (compression bytes == 0) (Compressed (compression bytes)) (length_read bytes) b e.1 in
    let g = met (int_eq (stated_length bytes) (pos (length bytes - 12))) BadCount (values_read bytes) b f.1 in
    let v = came (values_of (is_control bytes) bytes) (with_values bytes) b g.1 in
    let size = short_61 bytes (nat_lt (length bytes) 61) (not (holds_whole_batch (stated_length bytes) (length bytes))) refl c.0 in
    let stated = int_eq_is (stated_length bytes) (pos (length bytes - 12)) g.0 in
    let tail : AreSmall (drop 61 bytes) = small_rest (take 61 bytes) (drop 61 bytes) (subst AreSmall (sym (take-append-drop 61 bytes)) small) in
    subst (IsBatch bytes) (ok_same (batch_with bytes v.value) b v.second)
    (record {
      size = size;
      stated = stated;
      format = eqb-true (magic bytes) 2 d.0;
      sum = eqb-true (stated_sum bytes) (crc32c (bytes_under_sum bytes)) e.0 ∙ ap crc32c (summed_all bytes size stated);
      plain = eqb-true (compression bytes) 0 f.0;
      first = refl;
      epoch = refl;
      time = refl;
      last = refl;
      control = refl;
      content = values_given (is_control bytes) bytes v.value tail v.first;
    })

pub one_batch : (bytes : List ℕ) (b c : BatchContents) → IsBatch bytes b → IsBatch bytes c → b ≡ c
one_batch bytes b c s t = result_same (batch_of bytes) b c (batch_is_read bytes b s) (batch_is_read bytes c t)
