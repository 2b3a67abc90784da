-- Whether a transaction is open at an offset, in one pass over the records.
use Rattle.std.proofs.Common.{◌≡◌, Bool, true, false, not, ◌&&◌, get_or, ℤ, pos, ◌+ℤ◌, ◌≤ℤ◌, ◌<ℤ◌, int_le, int_lt, int_cmp, List, [], ◌∷◌, ◌++◌, refl, sym, ap, ◌∙◌, subst, arith}
use Rattle.std.proofs.lemmas.Int.{ints}
use Rattle.std.specs.List.{All, list_any}
use Rattle.std.specs.Ordering.{int_eq}
use Rattle.std.proofs.lemmas.List.Elements.{All-nil, All-cons}
use Rattle.kz_types.specs.declared.log.Entry.{Entry}
use Rattle.kz_types.specs.Ordered.{Rises}
use Rattle.kz_types.proofs.Order.{int_order}
use Rattle.kz_types.proofs.Append.{Rises_left}
use Rattle.kz_spec_data.specs.Settlement.{is_open}
use Rattle.kz_spec_data.specs.Log.{Log, IsLog, entries, batch_ends, may_be_base}
use Rattle.kz_settle.specs.Settling.{offset_of, is_open_after, is_open_at_end}
use Rattle.kz_settle.proofs.Passing.{inside_is, any_same}
use Rattle.kz_log.specs.Reading.{entries_after, is_open_by}
use Rattle.kz_log.proofs.Offsets.{Consecutive, consecutive_rises, not_lt}
use Rattle.kz_log.proofs.Batches.{past, entries_by_offset, entries_after_consecutive}

-- no record after an offset changes what is open there
pub open_none : (at from : ℤ) (inside : Bool) (es : List Entry) → Consecutive from es → at ≤ℤ from → is_open_by at inside es ≡ inside
open_none at from inside [] h over = refl
open_none at from inside (e ∷ es) h over = rw (past at from e h.0 over) refl

pub open_next : (at : ℤ) (inside : Bool) (e : Entry) (es : List Entry) → int_le e.offset at ≡ true → is_open_by at inside (e ∷ es) ≡ is_open_by at (is_open_after inside e.item) es
open_next at inside e es within = rw within refl

not_before : (at from : ℤ) (es : List Entry) → Consecutive from es → at ≤ℤ from → All (λ (x : Entry). int_lt x.offset (at +ℤ pos 1) ≡ false) es
not_before at from [] h over = All-nil (λ (x : Entry). int_lt x.offset (at +ℤ pos 1) ≡ false)
not_before at from (e ∷ es) h over =
    let next = h.0 in
    All-cons (λ (x : Entry). int_lt x.offset (at +ℤ pos 1) ≡ false) e es (not_lt e.offset (at +ℤ pos 1) (omega (arith, ints, next, over)))
    (not_before at (from +ℤ pos 1) es h.1 (omega (arith, ints, over)))

-- The records at or before an offset, and the others: the first decide what is open there.
record Parted (at : ℤ) (inside : Bool) (es : List Entry) : Type 0 where
  done : List Entry
  rest : List Entry
  whole : es ≡ done ++ rest
  before : All (λ (x : Entry). int_lt x.offset (at +ℤ pos 1) ≡ true) done
  after : All (λ (x : Entry). int_lt x.offset (at +ℤ pos 1) ≡ false) rest
  is : is_open_by at inside es ≡ is_open_at_end inside done

at_most : (o at : ℤ) → int_le o at ≡ true → int_lt o (at +ℤ pos 1) ≡ true
at_most o at h = grind (arith, ints)

above : (o at : ℤ) → int_le o at ≡ false → at <ℤ o
above o at h = grind (arith, ints)

one_more : (at : ℤ) (inside : Bool) (e : Entry) (es : List Entry) → int_le e.offset at ≡ true → Parted at (is_open_after inside e.item) es → Parted at inside (e ∷ es)
one_more at inside e es within p = record {
  done = e ∷ p.done;
  rest = p.rest;
  whole = ap (λ (xs : List Entry). e ∷ xs) p.whole;
  before = All-cons (λ (x : Entry). int_lt x.offset (at +ℤ pos 1) ≡ true) e p.done (at_most e.offset at within) p.before;
  after = p.after;
  is = open_next at inside e es within ∙ p.is;
}

none_more : (at from : ℤ) (inside : Bool) (es : List Entry) → Consecutive from es → at ≤ℤ from → Parted at inside es
none_more at from inside es h over = record {
  done = [];
  rest = es;
  whole = refl;
  before = All-nil (λ (x : Entry). int_lt x.offset (at +ℤ pos 1) ≡ true);
  after = not_before at from es h over;
  is = open_none at from inside es h over;
}

before_next : (at from o : ℤ) → o ≡ from +ℤ pos 1 → at <ℤ o → at ≤ℤ from
before_next at from o next over = omega (arith, ints, next, over)

parted : (at from : ℤ) (inside : Bool) (es : List Entry) → Consecutive from es → Parted at inside es
parted at from inside [] h = record { done = []; rest = []; whole = refl; before = All-nil (λ (x : Entry). int_lt x.offset (at +ℤ pos 1) ≡ true); after = All-nil (λ (x : Entry). int_lt x.offset (at +ℤ pos 1) ≡ false); is = refl }
parted at from inside (e ∷ es) h = by (int_le e.offset at) refl (parted at (from +ℤ pos 1) (is_open_after inside e.item) es h.1) where
  by : (b : Bool) → int_le e.offset at ≡ b → Parted at (is_open_after inside e.item) es → Parted at inside (e ∷ es)
  by true within later = one_more at inside e es within later
  by false over later = none_more at from inside (e ∷ es) h (before_next at from e.offset h.0 (above e.offset at over))

open_by_is : (at from : ℤ) (es : List Entry) → Consecutive from es → is_open_by at false es ≡ is_open es at
open_by_is at from es h =
    let p = parted at from false es h in
    let rises = subst (λ (xs : List Entry). Rises int_cmp offset_of xs) p.whole (consecutive_rises from es h) in
    p.is ∙ sym (inside_is p.done p.rest (at +ℤ pos 1) p.before p.after (Rises_left int_order offset_of p.done p.rest rises)) ∙ ap (λ (xs : List Entry). is_open xs at) (sym p.whole)

-- it is what the definition says of the log
pub open_at_is : (l : Log) → IsLog l → (at : ℤ) → is_open_by at false (entries_after l.base l.batches) ≡ is_open (entries l.batches) at
open_at_is l k at =
    open_by_is at l.base (entries_after l.base l.batches) (entries_after_consecutive l.base l.batches)
    ∙ ap (λ (es : List Entry). is_open es at) (sym (entries_by_offset l.base l.batches k.follow))

-- ---- among the batch ends

turned : (x y : ℤ) → int_eq x y ≡ int_eq y x
turned x y = grind (arith, ints)

pub among_ends : (at : ℤ) (ends : List ℤ) → list_any (λ (e : ℤ). int_eq e at) ends ≡ list_any (int_eq at) ends
among_ends at ends = any_same (λ (e : ℤ). int_eq e at) (int_eq at) ends (λ k d lt. turned (get_or ends k d) at)

pub end_where : (l : Log) (at : ℤ) → list_any (int_eq at) (batch_ends l) ≡ true → may_be_base l at ≡ not (is_open (entries l.batches) at)
end_where l at is = ap (λ (b : Bool). b && not (is_open (entries l.batches) at)) is
