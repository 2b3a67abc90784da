-- The records of the transaction that is open at the end.
use Rattle.std.proofs.Common.{◌≡◌, ℤ, pos, ◌+ℤ◌, ◌≤ℤ◌, int_le, Bool, true, false, not, ◌&&◌, if◌then◌else◌, cond, List, [], ◌∷◌, map, filter, Option, Some, refl, sym, ap, ◌∙◌, subst, arith}
use Rattle.std.specs.Prelude.{◌<ℤ◌, ⊤}
use Rattle.std.proofs.lemmas.Int.{ints}
use Rattle.kz_types.specs.declared.log.Entry.{Entry}
use Rattle.kz_types.specs.declared.record.MetaRecord.{MetaRecord}
use Rattle.kz_spec_data.specs.Settlement.{is_begin, is_marker}
use Rattle.kz_spec_data.specs.Log.{entries_at_offsets}
use Rattle.kz_laws_machine.proofs.LogBatches.{AllAfter}
use Rattle.kz_laws_machine.proofs.Migration.{AllUpTo}
use Rattle.kz_laws_machine.proofs.Rising.{RisesAfter, all_after}
use Rattle.kz_laws_machine.proofs.Begun.{any_closes, begin_in}

-- the records after the first Begin that none of the later records ends
abbrev pub pending : List Entry → List Entry
pending [] = []
pending (e ∷ es) = if is_begin e.item && not (any_closes es) then es else pending es

abbrev pub item_of : Entry → MetaRecord
item_of e = e.item

abbrev pub stands_from : ℤ → Entry → Bool
stands_from o e = int_le o e.offset

-- ---- where it begins

some_same : (a b : ℤ) → Some a ≡ Some b → a ≡ b
some_same a b is = cc

begin_by : (at from : ℤ) (b : Bool) (e : Entry) (m : Option ℤ) → at <ℤ e.offset → (m ≡ Some from → at <ℤ from) → cond b (Some e.offset) m ≡ Some from → at <ℤ from
begin_by at from true e m less rest is = subst (λ (o : ℤ). at <ℤ o) (some_same e.offset from is) less
begin_by at from false e m less rest is = rest is

pub begin_after : (at from : ℤ) (es : List Entry) → AllAfter at es → begin_in es ≡ Some from → at <ℤ from
begin_after at from [] after is = absurd (cc)
begin_after at from (e ∷ es) after is = begin_by at from (is_begin e.item && not (any_closes es)) e (begin_in es) after.0 (begin_after at from es after.1) is

begin_low : (at from : ℤ) (b : Bool) (e : Entry) (m : Option ℤ) → e.offset ≤ℤ at → (m ≡ Some from → from ≤ℤ at) → cond b (Some e.offset) m ≡ Some from → from ≤ℤ at
begin_low at from true e m low rest is = subst (λ (o : ℤ). o ≤ℤ at) (some_same e.offset from is) low
begin_low at from false e m low rest is = rest is

pub begin_up_to : (at from : ℤ) (es : List Entry) → AllUpTo at es → begin_in es ≡ Some from → from ≤ℤ at
begin_up_to at from [] up_to is = absurd (cc)
begin_up_to at from (e ∷ es) up_to is = begin_low at from (is_begin e.item && not (any_closes es)) e (begin_in es) up_to.0 (begin_up_to at from es up_to.1) is

-- ---- the records from there on

at_most_is : (a b : ℤ) → a ≤ℤ b → int_le a b ≡ true
at_most_is a b low = grind (arith, ints)

not_at_most : (a b : ℤ) → a <ℤ b → int_le b a ≡ false
not_at_most a b less = grind (arith, ints)

itself_is : (a : ℤ) → int_le a a ≡ true
itself_is a = grind (arith, ints)

pub all_stand : (from at : ℤ) (es : List Entry) → from ≤ℤ at → AllAfter at es → filter (stands_from from) es ≡ es
all_stand from at [] low after = refl
all_stand from at (e ∷ es) low after =
    ap (λ (b : Bool). cond b (e ∷ filter (stands_from from) es) (filter (stands_from from) es)) (at_most_is from e.offset (between from at e.offset low after.0)) ∙ ap (λ (l : List Entry). e ∷ l) (all_stand from at es low after.1)
  where
    between : (a b c : ℤ) → a ≤ℤ b → b <ℤ c → a ≤ℤ c
    between a b c x y = omega (arith, ints, x, y)

pub none_stand : (from at : ℤ) (es : List Entry) → at <ℤ from → AllUpTo at es → filter (stands_from from) es ≡ []
none_stand from at [] less up_to = refl
none_stand from at (e ∷ es) less up_to =
    ap (λ (b : Bool). cond b (e ∷ filter (stands_from from) es) (filter (stands_from from) es)) (not_at_most e.offset from (between e.offset at from up_to.0 less)) ∙ none_stand from at es less up_to.1
  where
    between : (a b c : ℤ) → a ≤ℤ b → b <ℤ c → a <ℤ c
    between a b c x y = omega (arith, ints, x, y)

-- the Begin, and after it the pending records
pub record StandsFrom (from : ℤ) (es : List Entry) : Type 0 where
  pub first : Entry
  pub all : filter (stands_from from) es ≡ first ∷ pending es

stands_by : (from : ℤ) (t : Bool) (e : Entry) (es : List Entry) → (is_begin e.item && not (any_closes es)) ≡ t → AllAfter e.offset es → (begin_in es ≡ Some from → StandsFrom from es) → cond t (Some e.offset) (begin_in es) ≡ Some from → StandsFrom from (e ∷ es)
stands_by from true e es test after rest is =
    let same : e.offset ≡ from = some_same e.offset from is in
    record {
      first = e;
      all = ap (λ (o : ℤ). filter (stands_from o) (e ∷ es)) (sym same)
          ∙ ap (λ (b : Bool). cond b (e ∷ filter (stands_from e.offset) es) (filter (stands_from e.offset) es)) (itself_is e.offset)
          ∙ ap (λ (l : List Entry). e ∷ l) (all_stand e.offset e.offset es (weak e.offset) after)
          ∙ ap (λ (b : Bool). e ∷ cond b es (pending es)) (sym test);
    }
  where
    weak : (a : ℤ) → a ≤ℤ a
    weak a = omega (arith, ints)
stands_by from false e es test after rest is =
    let later = rest is in
    record {
      first = later.first;
      all = ap (λ (b : Bool). cond b (e ∷ filter (stands_from from) es) (filter (stands_from from) es)) (not_at_most e.offset from (begin_after e.offset from es after is))
          ∙ later.all
          ∙ ap (λ (b : Bool). later.first ∷ cond b es (pending es)) (sym test);
    }

pub stands : (from base : ℤ) (es : List Entry) → RisesAfter base es → begin_in es ≡ Some from → StandsFrom from es
stands from base [] rises is = absurd (cc)
stands from base (e ∷ es) rises is = stands_by from (is_begin e.item && not (any_closes es)) e es refl (all_after e.offset es rises.1) (stands from e.offset es rises.1) is

-- ---- numbered records

pub items_numbered : (offset epoch : ℤ) (items : List MetaRecord) → map item_of (entries_at_offsets offset epoch items) ≡ items
items_numbered offset epoch [] = refl
items_numbered offset epoch (r ∷ rs) = ap (λ (l : List MetaRecord). r ∷ l) (items_numbered (offset +ℤ pos 1) epoch rs)

-- none of these is a marker
abbrev pub NoneMarks : List Entry → Type 0
NoneMarks [] = ⊤
NoneMarks (e ∷ es) = (is_marker e.item ≡ false) × NoneMarks es
