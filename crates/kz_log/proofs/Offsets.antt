-- Offsets that follow each other, and the tests that compare them.
use Rattle.std.proofs.Common.{◌≡◌, true, false, ℤ, pos, ◌+ℤ◌, ◌≤ℤ◌, ◌<ℤ◌, int_le, int_lt, int_cmp, Less, List, [], ◌∷◌, ◌++◌, length, refl, ap, subst, arith}
use Rattle.std.proofs.lemmas.Int.{ints}
use Rattle.kz_types.specs.declared.log.BatchRow.{BatchRow}
use Rattle.kz_types.specs.declared.log.Entry.{Entry}
use Rattle.kz_types.specs.declared.record.MetaRecord.{MetaRecord}
use Rattle.kz_types.specs.Ordered.{Rises, RisesAbove}
use Rattle.kz_spec_data.specs.Log.{last_of, last_end, entries_at_offsets}
use Rattle.kz_settle.specs.Settling.{offset_of}

-- ---- orders of numbers as tests

pub is_lt : (x y : ℤ) → x <ℤ y → int_lt x y ≡ true
is_lt x y h = grind (arith, ints)

pub of_lt : (x y : ℤ) → int_lt x y ≡ true → x <ℤ y
of_lt x y h = grind (arith, ints)

pub le_of_lt : (x y : ℤ) → int_lt x y ≡ true → x ≤ℤ y
le_of_lt x y h = grind (arith, ints)

pub not_lt : (x y : ℤ) → y ≤ℤ x → int_lt x y ≡ false
not_lt x y h = grind (arith, ints)

pub of_not_lt : (x y : ℤ) → int_lt x y ≡ false → y ≤ℤ x
of_not_lt x y h = grind (arith, ints)

pub of_le : (x y : ℤ) → int_le x y ≡ true → x ≤ℤ y
of_le x y h = grind (arith, ints)

pub not_le : (x y : ℤ) → y <ℤ x → int_le x y ≡ false
not_le x y h = grind (arith, ints)

less : (x y : ℤ) → x <ℤ y → int_cmp x y ≡ Less
less x y h = rw (is_lt x y h) refl

-- ---- the last offset of a batch

pub last_of_is : (from : ℤ) (b : BatchRow) → b.first ≡ from +ℤ pos 1 → last_of b ≡ from +ℤ pos (length b.items)
last_of_is from b h = omega (arith, ints, h)

pub last_end-append : (from : ℤ) (bs cs : List BatchRow) → last_end from (bs ++ cs) ≡ last_end (last_end from bs) cs
last_end-append from [] cs = refl
last_end-append from (b ∷ bs) cs = last_end-append (last_of b) bs cs

-- ---- one after another

-- offsets that follow each other from after an offset on
abbrev pub Consecutive : ℤ → List Entry → Type 0
Consecutive from [] = Unit {0}
Consecutive from (e ∷ es) = (e.offset ≡ from +ℤ pos 1) × Consecutive (from +ℤ pos 1) es

pub numbered_consecutive : (from offset epoch : ℤ) (items : List MetaRecord) (es : List Entry) → offset ≡ from +ℤ pos 1 → Consecutive (from +ℤ pos (length items)) es
    → Consecutive from (entries_at_offsets offset epoch items ++ es)
numbered_consecutive from offset epoch [] es at h = let same : from +ℤ pos 0 ≡ from = omega (arith, ints) in subst (λ n. Consecutive n es) same h
numbered_consecutive from offset epoch (x ∷ items) es at h =
    let same : from +ℤ pos (length (x ∷ items)) ≡ (from +ℤ pos 1) +ℤ pos (length items) = omega (arith, ints) in
    (at, numbered_consecutive (from +ℤ pos 1) (offset +ℤ pos 1) epoch items es (ap (λ n. n +ℤ pos 1) at) (subst (λ n. Consecutive n es) same h))

rises_above : (low from : ℤ) (es : List Entry) → low ≤ℤ from → Consecutive from es → RisesAbove int_cmp offset_of low es
rises_above low from [] k h = tt
rises_above low from (e ∷ es) k h =
    let at = h.0 in
    (less low e.offset (omega (arith, ints, at, k)), rises_above e.offset (from +ℤ pos 1) es (omega (arith, ints, at)) h.1)

pub consecutive_rises : (from : ℤ) (es : List Entry) → Consecutive from es → Rises int_cmp offset_of es
consecutive_rises from [] h = tt
consecutive_rises from (e ∷ es) h = let at = h.0 in rises_above e.offset (from +ℤ pos 1) es (omega (arith, ints, at)) h.1
