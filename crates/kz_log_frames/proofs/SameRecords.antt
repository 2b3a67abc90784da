-- Whether two lists of records are the same, one record after another.
use Rattle.std.proofs.Common.{◌≡◌, ℕ, ◌+◌, ◌<◌, Bool, true, false, ◌&&◌, ℤ, List, [], ◌∷◌, ◌++◌, length, get_or, map, drop, Option, Some, None, refl, sym, ap, ◌∙◌, subst}
use Rattle.std.specs.Prelude.{MatchOption}
use Rattle.std.proofs.lemmas.List.{drop_more}
use Rattle.std.specs.Ordering.{int_eq}
use Rattle.std.specs.Str.{bytes_eq}
use Rattle.kz_types.specs.declared.log.BatchRow.{BatchRow}
use Rattle.kz_types.specs.declared.log.EpochRecord.{EpochRecord}
use Rattle.kz_types.specs.declared.record.MetaRecord.{MetaRecord}
use Rattle.kz_spec_data.specs.Records.{bytes_of_record}
use Rattle.kz_spec_data.specs.SnapshotRecords.{in_epoch}
use Rattle.kz_spec_data.specs.SnapshotBatches.{records_of_batches}
use Rattle.kz_spec_data.specs.LogFile.{same_records}

-- there is none
abbrev pub is_none : List EpochRecord → Bool
is_none [] = true
is_none (q ∷ qs) = false

and_false : (a : Bool) → a && false ≡ false
and_false true = refl
and_false false = refl

-- no record is left of the others
pub none_left : (r : EpochRecord) (rs : List EpochRecord) → same_records (r ∷ rs) [] ≡ false
none_left r rs = refl

pub other_epoch : (r q : EpochRecord) (rs qs : List EpochRecord) → int_eq r.epoch q.epoch ≡ false → same_records (r ∷ rs) (q ∷ qs) ≡ false
other_epoch r q rs qs is = ap (λ t. t && bytes_eq (bytes_of_record r.item) (bytes_of_record q.item) && same_records rs qs) is

pub other_bytes : (r q : EpochRecord) (rs qs : List EpochRecord) → bytes_eq (bytes_of_record r.item) (bytes_of_record q.item) ≡ false → same_records (r ∷ rs) (q ∷ qs) ≡ false
other_bytes r q rs qs is = ap (λ t. int_eq r.epoch q.epoch && t && same_records rs qs) is ∙ ap (λ t. t && same_records rs qs) (and_false (int_eq r.epoch q.epoch))

pub one_same : (r q : EpochRecord) (rs qs : List EpochRecord) → int_eq r.epoch q.epoch ≡ true → bytes_eq (bytes_of_record r.item) (bytes_of_record q.item) ≡ true → same_records (r ∷ rs) (q ∷ qs) ≡ same_records rs qs
one_same r q rs qs epoch bytes = ap (λ t. t && bytes_eq (bytes_of_record r.item) (bytes_of_record q.item) && same_records rs qs) epoch ∙ ap (λ t. t && same_records rs qs) bytes

-- ---- the records of a batch, one after another

next_item : (items : List MetaRecord) (i : ℕ) (x : MetaRecord) → i < length items → x ≡ get_or items i x → drop i items ≡ x ∷ drop (i + 1) items
next_item items i x less is = drop_more items i x less ∙ ap (λ y. y ∷ drop (i + 1) items) (sym is)

here : (epoch : ℤ) (items : List MetaRecord) (i : ℕ) (x : MetaRecord) (more : List EpochRecord) → i < length items → x ≡ get_or items i x → map (in_epoch epoch) (drop i items) ++ more ≡ in_epoch epoch x ∷ (map (in_epoch epoch) (drop (i + 1) items) ++ more)
here epoch items i x more less is = ap (λ xs. map (in_epoch epoch) xs ++ more) (next_item items i x less is)

pub item_none : (epoch : ℤ) (items : List MetaRecord) (i : ℕ) (x : MetaRecord) (more qs : List EpochRecord) → i < length items → x ≡ get_or items i x → qs ≡ [] → same_records (map (in_epoch epoch) (drop i items) ++ more) qs ≡ false
item_none epoch items i x more qs less is none = ap (λ rs. same_records rs qs) (here epoch items i x more less is) ∙ ap (same_records (in_epoch epoch x ∷ (map (in_epoch epoch) (drop (i + 1) items) ++ more))) none

pub item_epoch : (epoch : ℤ) (items : List MetaRecord) (i : ℕ) (x : MetaRecord) (more qs later : List EpochRecord) (q : EpochRecord) → i < length items → x ≡ get_or items i x → qs ≡ q ∷ later → int_eq epoch q.epoch ≡ false
    → same_records (map (in_epoch epoch) (drop i items) ++ more) qs ≡ false
item_epoch epoch items i x more qs later q less is whole other =
    ap (λ rs. same_records rs qs) (here epoch items i x more less is)
    ∙ ap (same_records (in_epoch epoch x ∷ (map (in_epoch epoch) (drop (i + 1) items) ++ more))) whole
    ∙ other_epoch (in_epoch epoch x) q (map (in_epoch epoch) (drop (i + 1) items) ++ more) later other

pub item_bytes : (epoch : ℤ) (items : List MetaRecord) (i : ℕ) (x : MetaRecord) (more qs later : List EpochRecord) (q : EpochRecord) → i < length items → x ≡ get_or items i x → qs ≡ q ∷ later
    → bytes_eq (bytes_of_record x) (bytes_of_record q.item) ≡ false → same_records (map (in_epoch epoch) (drop i items) ++ more) qs ≡ false
item_bytes epoch items i x more qs later q less is whole other =
    ap (λ rs. same_records rs qs) (here epoch items i x more less is)
    ∙ ap (same_records (in_epoch epoch x ∷ (map (in_epoch epoch) (drop (i + 1) items) ++ more))) whole
    ∙ other_bytes (in_epoch epoch x) q (map (in_epoch epoch) (drop (i + 1) items) ++ more) later other

pub item_same : (epoch : ℤ) (items : List MetaRecord) (i : ℕ) (x : MetaRecord) (more qs later : List EpochRecord) (q : EpochRecord) → i < length items → x ≡ get_or items i x → qs ≡ q ∷ later → int_eq epoch q.epoch ≡ true
    → bytes_eq (bytes_of_record x) (bytes_of_record q.item) ≡ true → same_records (map (in_epoch epoch) (drop i items) ++ more) qs ≡ same_records (map (in_epoch epoch) (drop (i + 1) items) ++ more) later
item_same epoch items i x more qs later q less is whole epoch_same same =
    ap (λ rs. same_records rs qs) (here epoch items i x more less is)
    ∙ ap (same_records (in_epoch epoch x ∷ (map (in_epoch epoch) (drop (i + 1) items) ++ more))) whole
    ∙ one_same (in_epoch epoch x) q (map (in_epoch epoch) (drop (i + 1) items) ++ more) later epoch_same same

-- ---- batches

pub next_batch : (bs : List BatchRow) (i : ℕ) (b : BatchRow) → i < length bs → b ≡ get_or bs i b → records_of_batches (drop i bs) ≡ map (in_epoch b.epoch) b.items ++ records_of_batches (drop (i + 1) bs)
next_batch bs i b less is = ap records_of_batches (drop_more bs i b less ∙ ap (λ y. y ∷ drop (i + 1) bs) (sym is))

pub none_more : (qs : List EpochRecord) → same_records [] qs ≡ is_none qs
none_more [] = refl
none_more (q ∷ qs) = refl

-- ---- the records that are left after a batch

pub if_none : {X : Type 0} (A : Type 0) (B : X → Type 0) (m : Option X) → m ≡ None → MatchOption m A B → A
if_none A B m is h = subst (λ n. MatchOption n A B) is h

pub if_some : {X : Type 0} (A : Type 0) (B : X → Type 0) (m : Option X) (x : X) → m ≡ Some x → MatchOption m A B → B x
if_some A B m x is h = subst (λ n. MatchOption n A B) is h

batch_at : (bs : List BatchRow) (i : ℕ) (b : BatchRow) (e : ℤ) (items : List MetaRecord) → i < length bs → b ≡ get_or bs i b → e ≡ b.epoch → items ≡ b.items
    → records_of_batches (drop i bs) ≡ map (in_epoch e) items ++ records_of_batches (drop (i + 1) bs)
batch_at bs i b e items less is epoch all =
    next_batch bs i b less is ∙ sym (ap (λ x. map (in_epoch x) items ++ records_of_batches (drop (i + 1) bs)) epoch ∙ ap (λ rs. map (in_epoch b.epoch) rs ++ records_of_batches (drop (i + 1) bs)) all)

pub batch_differs : (bs : List BatchRow) (i : ℕ) (b : BatchRow) (e : ℤ) (items : List MetaRecord) (qs : List EpochRecord) → i < length bs → b ≡ get_or bs i b → e ≡ b.epoch → items ≡ b.items
    → same_records (map (in_epoch e) items ++ records_of_batches (drop (i + 1) bs)) qs ≡ false → same_records (records_of_batches (drop i bs)) qs ≡ false
batch_differs bs i b e items qs less is epoch all differs = ap (λ rs. same_records rs qs) (batch_at bs i b e items less is epoch all) ∙ differs

pub batch_same : (bs : List BatchRow) (i : ℕ) (b : BatchRow) (e : ℤ) (items : List MetaRecord) (qs later : List EpochRecord) → i < length bs → b ≡ get_or bs i b → e ≡ b.epoch → items ≡ b.items
    → same_records (map (in_epoch e) items ++ records_of_batches (drop (i + 1) bs)) qs ≡ same_records (records_of_batches (drop (i + 1) bs)) later
    → same_records (records_of_batches (drop i bs)) qs ≡ same_records (records_of_batches (drop (i + 1) bs)) later
batch_same bs i b e items qs later less is epoch all same = ap (λ rs. same_records rs qs) (batch_at bs i b e items less is epoch all) ∙ same
