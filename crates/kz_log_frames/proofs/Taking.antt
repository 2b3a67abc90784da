-- What the payloads of frames make of a log.
use Rattle.std.proofs.Common.{◌≡◌, ℕ, zero, suc, ◌-◌, ◌<◌, Bool, true, false, not, ◌&&◌, nat_lt, ◌==◌, ℤ, pos, negsuc, ◌+ℤ◌, int_le, cond, List, [], ◌∷◌, ◌++◌, length, map, Result, Ok, Err, refl, sym, ap, ◌∙◌, subst, append-nil, append_assoc, arith}
use Rattle.std.specs.Ordering.{int_eq}
use Rattle.std.proofs.lemmas.Int.{ints}
use Rattle.std.proofs.lemmas.Bool.Decides.{Decides-int_eq, nat_tests}
use Rattle.kz_types.specs.declared.limits.TheConstants.{MAX_LONG}
use Rattle.kz_types.specs.declared.record.MetaRecord.{MetaRecord}
use Rattle.kz_types.specs.declared.record.BatchFault.{BatchFault}
use Rattle.kz_types.specs.declared.record.BatchFault.TheVariants.{Short, BadMagic, BadCrc, Compressed, BadCount, BadOrder}
use Rattle.kz_spec_data.specs.Fields.{Reading, ◌>>=◌}
use Rattle.kz_spec_data.specs.Forms.{items_at}
use Rattle.kz_spec_data.specs.Checksum.{crc32c}
use Rattle.kz_spec_data.specs.Batches.{BatchContents, Content, value_of, entry, stated_length, magic, stated_sum, compression, is_control, last_delta, stated_count, bytes_under_sum, is_short, is_numbered, records_counted, values_of, batch_with, batch_of}
use Rattle.kz_spec_data.specs.Records.{record_of}
use Rattle.kz_spec_data.specs.Log.{Log, end_of, with_row}
use Rattle.kz_types.specs.declared.fault.LogWhy.{LogWhy}
use Rattle.kz_types.specs.declared.fault.LogWhy.TheVariants.{Header, Malformed, Batch, Value, Sequence, Sum}
use Rattle.kz_spec_data.specs.LogFile.{with_why, read_values, follows, batch_row, after_batch, after_reset, after_snapshot, after_payload}
use Rattle.kz_log.specs.Rows.{GoesOn}
use Rattle.kz_log.proofs.Offsets.{of_le}
use Rattle.kz_log_frames.specs.declared.fault.FrameFault.{FrameFault}
use Rattle.kz_log_frames.specs.declared.fault.FrameFault.TheVariants.{Why, NoMemory}
use Rattle.kz_log_frames.specs.Taken.{Says, ReadsItem, row_or_not}

-- ---- the records of values, one after another

-- these records, and then those that were read
abbrev pub prefixed : List MetaRecord → Result (List MetaRecord) LogWhy → Result (List MetaRecord) LogWhy
prefixed rs (Ok more) = Ok (rs ++ more)
prefixed rs (Err why) = Err why

pub prefixed_none : (m : Result (List MetaRecord) LogWhy) → prefixed [] m ≡ m
prefixed_none (Ok rs) = refl
prefixed_none (Err why) = refl

prefixed_on : (rs : List MetaRecord) (r : MetaRecord) (m : Result (List MetaRecord) LogWhy) → prefixed rs (m >>= λ more. Ok (r ∷ more)) ≡ prefixed (rs ++ r ∷ []) m
prefixed_on rs r (Ok more) = ap Ok (sym (append_assoc rs (r ∷ []) more))
prefixed_on rs r (Err why) = refl

-- a value was read
pub value_more : (rs : List MetaRecord) (r : MetaRecord) (v : List ℕ) (vs : List (List ℕ)) → with_why Value (record_of v) ≡ Ok r → prefixed rs (read_values (v ∷ vs)) ≡ prefixed (rs ++ r ∷ []) (read_values vs)
value_more rs r v vs is = ap (λ (m : Result MetaRecord LogWhy). prefixed rs (m >>= λ (x : MetaRecord). read_values vs >>= λ more. Ok (x ∷ more))) is ∙ prefixed_on rs r (read_values vs)

-- a value can't be read
pub value_refused : (rs : List MetaRecord) (why : LogWhy) (v : List ℕ) (vs : List (List ℕ)) → with_why Value (record_of v) ≡ Err why → prefixed rs (read_values (v ∷ vs)) ≡ Err why
value_refused rs why v vs is = ap (λ (m : Result MetaRecord LogWhy). prefixed rs (m >>= λ (x : MetaRecord). read_values vs >>= λ more. Ok (x ∷ more))) is

pub values_all : (rs : List MetaRecord) → prefixed rs (read_values []) ≡ Ok rs
values_all rs = ap Ok (append-nil rs)

-- a value was read, or can't be
pub item_more : (rs : List MetaRecord) (r : MetaRecord) (v : List ℕ) (vs : List (List ℕ)) → record_of v ≡ Ok r → prefixed rs (read_values (v ∷ vs)) ≡ prefixed (rs ++ r ∷ []) (read_values vs)
item_more rs r v vs is = value_more rs r v vs (ap (with_why Value) is)

pub item_refused : (rs : List MetaRecord) (f : FrameFault) (v : List ℕ) (vs all : List (List ℕ)) → prefixed rs (read_values (v ∷ vs)) ≡ read_values all → ReadsItem (Err f) (record_of v)
    → Says {X = List MetaRecord} (λ items. items) (Err f) (read_values all)
item_refused rs (Why Header) v vs all same is = absurd is
item_refused rs (Why Malformed) v vs all same is = absurd is
item_refused rs (Why (Batch e)) v vs all same is = absurd is
item_refused rs (Why (Value e)) v vs all same is = sym same ∙ value_refused rs (Value e) v vs (ap (with_why Value) is)
item_refused rs (Why Sequence) v vs all same is = absurd is
item_refused rs (Why Sum) v vs all same is = absurd is
item_refused rs NoMemory v vs all same is = tt

-- what was read before something followed
record Came {A B E : Type 0} (m : Result A E) (k : A → Result B E) (y : B) : Type 0 where
  value : A
  first : m ≡ Ok value
  second : k value ≡ Ok y

came : {A B E : Type 0} (m : Result A E) (k : A → Result B E) (y : B) → m >>= k ≡ Ok y → Came m k y
came (Ok x) k y h = record { value = x; first = refl; second = h }
came (Err e) k y h = absurd (cc)

ok_same : {A E : Type 0} (x y : A) → ◌≡◌ {A = Result A E} (Ok x) (Ok y) → x ≡ y
ok_same x y h = cc

pub as_many : (vs : List (List ℕ)) (rs : List MetaRecord) → read_values vs ≡ Ok rs → length rs ≡ length vs
as_many [] rs h = ap length (sym (ok_same [] rs h))
as_many (v ∷ vs) rs h =
    let c = came (with_why Value (record_of v)) (λ (r : MetaRecord). read_values vs >>= λ (more : List MetaRecord). Ok (r ∷ more)) rs h in
    let d = came (read_values vs) (λ (more : List MetaRecord). Ok (c.value ∷ more)) rs c.second in
    let e : length (c.value ∷ d.value) ≡ length rs = ap length (ok_same (c.value ∷ d.value) rs d.second) in
    let rest = as_many vs d.value d.first in omega (arith, e, rest)

-- ---- the last offset of a batch

items_count : {E X : Type 0} (read : Reading → Result (X × Reading) E) (n : ℕ) (r : Reading) (xs : List X) (next : Reading) → items_at read n r ≡ Ok (xs, next) → length xs ≡ n
unfolding items_at
items_count {E} {X} read zero r xs next h = ap (λ (p : List X × Reading). length p.0) (sym (ok_same ([], r) (xs, next) h))
items_count {E} {X} read (suc n) r xs next h =
    let c = came (read r) (λ (y : X × Reading). items_at read n y.1 >>= λ (ys : List X × Reading). Ok (y.0 ∷ ys.0, ys.1)) (xs, next) h in
    let d = came (items_at read n c.value.1) (λ (ys : List X × Reading). Ok (c.value.0 ∷ ys.0, ys.1)) (xs, next) c.second in
    let e : length (c.value.0 ∷ d.value.0) ≡ length xs = ap (λ (p : List X × Reading). length p.0) (ok_same (c.value.0 ∷ d.value.0, d.value.1) (xs, next) d.second) in
    let rest = items_count read n c.value.1 d.value.0 d.value.1 d.first in omega (arith, e, rest)

passed_false : {A E : Type 0} (b : Bool) (e : E) (m : Result A E) (y : A) → cond b (Err e) m ≡ Ok y → (b ≡ false) × (m ≡ Ok y)
passed_false true e m y h = absurd (cc)
passed_false false e m y h = (refl, h)

passed_true : {A E : Type 0} (b : Bool) (e : E) (m : Result A E) (y : A) → cond b m (Err e) ≡ Ok y → (b ≡ true) × (m ≡ Ok y)
passed_true true e m y h = (refl, h)
passed_true false e m y h = absurd (cc)

parts : (a b : Bool) → (a && b) ≡ true → (a ≡ true) × (b ≡ true)
parts true b h = (refl, h)
parts false b h = absurd (cc)

map_length : {X Y : Type 0} (f : X → Y) (xs : List X) → length (map f xs) ≡ length xs
map_length f [] = refl
map_length f (x ∷ xs) = let rest = map_length f xs in omega (arith, rest)

counted : (stated : ℤ) (bytes : List ℕ) (cs : List Content) → records_counted stated bytes ≡ Ok cs → last_delta bytes +ℤ pos 1 ≡ pos (length cs)
counted (pos n) bytes cs h =
    let c = came (items_at entry.read n _) (λ (x : List Content × Reading). cond ((length x.1.left == 0) && int_eq (last_delta bytes +ℤ pos 1) (pos n)) (Ok x.0) (Err BadCount)) cs h in
    let d = passed_true ((length c.value.1.left == 0) && int_eq (last_delta bytes +ℤ pos 1) (pos n)) BadCount (Ok c.value.0) cs c.second in
    let p = parts (length c.value.1.left == 0) (int_eq (last_delta bytes +ℤ pos 1) (pos n)) d.0 in
    let count = items_count entry.read n _ c.value.0 c.value.1 c.first in
    (Decides-int_eq (last_delta bytes +ℤ pos 1) (pos n)).0 p.1 ∙ ap pos (sym count ∙ ap length (ok_same c.value.0 cs d.1))
counted (negsuc n) bytes cs h = absurd (cc)

numbered : (control : Bool) (bytes : List ℕ) (values : List (List ℕ)) → control ≡ false → values_of control bytes ≡ Ok values → last_delta bytes +ℤ pos 1 ≡ pos (length values)
numbered true bytes values e h = absurd (cc)
numbered false bytes values e h =
    let c = came (records_counted (stated_count bytes) bytes) (λ (cs : List Content). cond (is_numbered 0 cs) (Ok (map value_of cs)) (Err BadOrder)) values h in
    let d = passed_true (is_numbered 0 c.value) BadOrder (Ok (map value_of c.value)) values c.second in
    counted (stated_count bytes) bytes c.value c.first ∙ ap pos (sym (map_length value_of c.value) ∙ ap length (ok_same (map value_of c.value) values d.1))

pub last_is : (bytes : List ℕ) (b : BatchContents) → batch_of bytes ≡ Ok b → b.control ≡ false → b.last +ℤ pos 1 ≡ b.first +ℤ pos (length b.values)
unfolding batch_of
last_is bytes b h plain =
    let c = passed_false (is_short bytes) Short _ b h in
    let d = passed_false (not (magic bytes == 2)) (BadMagic (magic bytes)) _ b c.1 in
    let e = passed_false (not (stated_sum bytes == crc32c (bytes_under_sum bytes))) (BadCrc (stated_sum bytes) (crc32c (bytes_under_sum bytes))) _ b d.1 in
    let f = passed_false (not (compression bytes == 0)) (Compressed (compression bytes)) _ b e.1 in
    let g = passed_false (not (int_eq (stated_length bytes) (pos (length bytes - 12)))) BadCount _ b f.1 in
    let v = came (values_of (is_control bytes) bytes) (λ (values : List (List ℕ)). Ok (batch_with bytes values)) b g.1 in
    let same = ok_same (batch_with bytes v.value) b v.second in
    let count = numbered (is_control bytes) bytes v.value (ap (λ (x : BatchContents). x.control) same ∙ plain) v.first in
    subst (λ (x : BatchContents). x.last +ℤ pos 1 ≡ x.first +ℤ pos (length x.values)) same (omega (arith, ints, count))

-- ---- a batch that follows

of_lt : (n : ℕ) → nat_lt 0 n ≡ true → 0 < n
of_lt n h = grind (arith, nat_tests)

not_control : (c : Bool) → not c ≡ true → c ≡ false
not_control true h = absurd (cc)
not_control false h = refl

pub goes_on : (l : Log) (bytes : List ℕ) (b : BatchContents) (items : List MetaRecord) → batch_of bytes ≡ Ok b → read_values b.values ≡ Ok items → follows l b ≡ true → GoesOn l (batch_row b items)
goes_on l bytes b items said read on =
    let count = as_many b.values items read in
    let p = parts _ (int_le (pos 1) b.epoch) on in
    let q = parts _ (int_le l.epoch b.epoch) p.0 in
    let r = parts _ (int_le b.last MAX_LONG) q.0 in
    let s = parts _ (int_eq b.first (end_of l +ℤ pos 1)) r.0 in
    let t = parts (not b.control) (nat_lt 0 (length b.values)) s.0 in
    let last = last_is bytes b said (not_control b.control t.0) in
    let high = of_le b.last MAX_LONG r.1 in
    let some = of_lt (length b.values) t.1 in
    record {
      first = (Decides-int_eq b.first (end_of l +ℤ pos 1)).0 s.1;
      some = omega (arith, count, some);
      last = omega (arith, ints, last, high, count);
      climbs = of_le l.epoch b.epoch q.1;
      elected = of_le (pos 1) b.epoch p.1;
    }

-- ---- what a payload makes

pub batch_refused : (l : Log) (bytes : List ℕ) (e : BatchFault) → batch_of bytes ≡ Err e → after_batch l bytes ≡ Err (Batch e)
batch_refused l bytes e is = ap (λ (m : Result BatchContents BatchFault). with_why Batch m >>= λ (x : BatchContents). read_values x.values >>= λ rs. cond (follows l x) (Ok (with_row l (batch_row x rs))) (Err Sequence)) is

batch_read : (l : Log) (bytes : List ℕ) (b : BatchContents) → batch_of bytes ≡ Ok b → after_batch l bytes ≡ (read_values b.values >>= λ rs. cond (follows l b) (Ok (with_row l (batch_row b rs))) (Err Sequence))
batch_read l bytes b is = ap (λ (m : Result BatchContents BatchFault). with_why Batch m >>= λ (x : BatchContents). read_values x.values >>= λ rs. cond (follows l x) (Ok (with_row l (batch_row x rs))) (Err Sequence)) is

pub values_refused : (l : Log) (bytes : List ℕ) (b : BatchContents) (why : LogWhy) → batch_of bytes ≡ Ok b → read_values b.values ≡ Err why → after_batch l bytes ≡ Err why
values_refused l bytes b why is said = batch_read l bytes b is ∙ ap (λ (m : Result (List MetaRecord) LogWhy). m >>= λ (rs : List MetaRecord). cond (follows l b) (Ok (with_row l (batch_row b rs))) (Err Sequence)) said

pub batch_followed : (l : Log) (bytes : List ℕ) (b : BatchContents) (items : List MetaRecord) → batch_of bytes ≡ Ok b → read_values b.values ≡ Ok items → after_batch l bytes ≡ cond (follows l b) (Ok (with_row l (batch_row b items))) (Err Sequence)
batch_followed l bytes b items is said = batch_read l bytes b is ∙ ap (λ (m : Result (List MetaRecord) LogWhy). m >>= λ (rs : List MetaRecord). cond (follows l b) (Ok (with_row l (batch_row b rs))) (Err Sequence)) said

pub batch_unfollowed : (l : Log) (bytes : List ℕ) (b : BatchContents) (items : List MetaRecord) → batch_of bytes ≡ Ok b → read_values b.values ≡ Ok items → follows l b ≡ false → after_batch l bytes ≡ Err Sequence
batch_unfollowed l bytes b items is said on = batch_followed l bytes b items is said ∙ ap (λ t. cond t (Ok (with_row l (batch_row b items))) (Err Sequence)) on

pub batch_taken : (l : Log) (bytes : List ℕ) (b : BatchContents) (items : List MetaRecord) → batch_of bytes ≡ Ok b → read_values b.values ≡ Ok items → follows l b ≡ true → after_batch l bytes ≡ Ok (with_row l (batch_row b items))
batch_taken l bytes b items is said on = batch_followed l bytes b items is said ∙ ap (λ t. cond t (Ok (with_row l (batch_row b items))) (Err Sequence)) on

pub kind_one : (l : Log) (payload : List ℕ) (kind : ℕ) (bytes : List ℕ) → payload ≡ kind ∷ bytes → kind ≡ 1 → after_payload l payload ≡ after_batch l bytes
unfolding after_payload
kind_one l payload kind bytes is one = ap (after_payload l) (is ∙ ap (λ k. k ∷ bytes) one)

pub kind_two : (l : Log) (payload : List ℕ) (kind : ℕ) (bytes : List ℕ) → payload ≡ kind ∷ bytes → kind ≡ 2 → after_payload l payload ≡ after_reset l bytes
unfolding after_payload
kind_two l payload kind bytes is two = ap (after_payload l) (is ∙ ap (λ k. k ∷ bytes) two)

differs : (m n : ℕ) → (m ≡ n → ⊥) → (m == n) ≡ false
differs m n h = grind (arith, nat_tests)

pub kind_three : (l : Log) (payload : List ℕ) (kind : ℕ) (bytes : List ℕ) → payload ≡ kind ∷ bytes → kind ≡ 3 → after_payload l payload ≡ after_snapshot l bytes
unfolding after_payload
kind_three l payload kind bytes is three = ap (after_payload l) (is ∙ ap (λ k. k ∷ bytes) three)

pub kind_other : (l : Log) (payload : List ℕ) (kind : ℕ) (bytes : List ℕ) → payload ≡ kind ∷ bytes → (kind ≡ 1 → ⊥) → (kind ≡ 2 → ⊥) → (kind ≡ 3 → ⊥) → after_payload l payload ≡ Err Malformed
unfolding after_payload
kind_other l payload kind bytes is one two three =
    ap (after_payload l) is
    ∙ ap (λ t. cond t (after_batch l bytes) (cond (kind == 2) (after_reset l bytes) (cond (kind == 3) (after_snapshot l bytes) (Err Malformed)))) (differs kind 1 one)
    ∙ ap (λ t. cond t (after_reset l bytes) (cond (kind == 3) (after_snapshot l bytes) (Err Malformed))) (differs kind 2 two)
    ∙ ap (λ t. cond t (after_snapshot l bytes) (Err Malformed)) (differs kind 3 three)

pub no_kind : (l : Log) (payload : List ℕ) → length payload ≡ 0 → after_payload l payload ≡ Err Malformed
unfolding after_payload
no_kind l [] is = refl
no_kind l (kind ∷ bytes) is = absurd (omega (arith, is))

-- ---- the tests of a batch

pub follows_by : (l : Log) (b : BatchContents) (p s n g c e : Bool) → p ≡ not b.control → s ≡ nat_lt 0 (length b.values) → n ≡ int_eq b.first (end_of l +ℤ pos 1) → g ≡ int_le b.last MAX_LONG → c ≡ int_le l.epoch b.epoch
    → e ≡ int_le (pos 1) b.epoch → (p && s && n && g && c && e) ≡ follows l b
follows_by l b p s n g c e p_is s_is n_is g_is c_is e_is =
    ap (λ x. x && s && n && g && c && e) p_is
    ∙ ap (λ x. not b.control && x && n && g && c && e) s_is
    ∙ ap (λ x. not b.control && nat_lt 0 (length b.values) && x && g && c && e) n_is
    ∙ ap (λ x. not b.control && nat_lt 0 (length b.values) && int_eq b.first (end_of l +ℤ pos 1) && x && c && e) g_is
    ∙ ap (λ x. not b.control && nat_lt 0 (length b.values) && int_eq b.first (end_of l +ℤ pos 1) && int_le b.last MAX_LONG && x && e) c_is
    ∙ ap (λ x. not b.control && nat_lt 0 (length b.values) && int_eq b.first (end_of l +ℤ pos 1) && int_le b.last MAX_LONG && int_le l.epoch b.epoch && x) e_is

pub batch_judged : (l : Log) (bytes : List ℕ) (b : BatchContents) (items : List MetaRecord) → batch_of bytes ≡ Ok b → read_values b.values ≡ Ok items → after_batch l bytes ≡ row_or_not l b items
batch_judged l bytes b items is said = batch_followed l bytes b items is said
