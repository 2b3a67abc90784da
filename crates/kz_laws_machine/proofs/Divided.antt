-- A log that is divided at a batch end.
use Rattle.std.proofs.Common.{◌≡◌, ℤ, pos, ◌+ℤ◌, ◌-ℤ◌, ◌≤ℤ◌, int_lt, Bool, true, false, cond, List, [], ◌∷◌, ◌++◌, length, map, filter, ℕ, ◌<◌, refl, sym, ap, ◌∙◌, subst, arith}
use Rattle.std.specs.Prelude.{◌<ℤ◌, ⊤}
use Rattle.std.proofs.lemmas.Int.{ints}
use Rattle.std.proofs.lemmas.List.Elements.{filter-append}
use Rattle.std.proofs.lemmas.List.Concat.{flat_map-append}
use Rattle.kz_types.specs.declared.log.BatchRow.{BatchRow}
use Rattle.kz_types.specs.declared.log.Entry.{Entry}
use Rattle.kz_spec_data.specs.Log.{Log, IsLog, Follow, last_of, last_end, end_of, batch_ends, entries, entries_of_batch, begins_after}
use Rattle.kz_spec_machine.specs.Sound.{IsBatchEnd}
use Rattle.kz_laws_machine.proofs.Numbers.{at_least_itself}
use Rattle.kz_laws_machine.proofs.LogBatches.{AllAfter}
use Rattle.kz_laws_machine.proofs.Ends.{last_of_is, counted_up, end_counts, entries_after}
use Rattle.kz_laws_machine.proofs.Migration.{AllUpTo, entries_up_to}
use Rattle.kz_laws_machine.proofs.Rising.{RisesAfter, offsets_rise}

-- The batches up to a batch end, and those after it.
pub record Divided (from at : ℤ) (bs : List BatchRow) : Type 0 where
  pub earlier : List BatchRow
  pub later : List BatchRow
  pub whole : bs ≡ earlier ++ later
  pub at_is : at ≡ last_end from earlier

pub divided_by : (from at : ℤ) (bs : List BatchRow) (before after : List ℤ) → from ∷ map last_of bs ≡ before ++ at ∷ after → Divided from at bs
divided_by from at bs [] after is = record { earlier = []; later = bs; whole = refl; at_is = cc }
divided_by from at [] (x ∷ []) after is = absurd (cc)
divided_by from at [] (x ∷ y ∷ before) after is = absurd (cc)
divided_by from at (b ∷ bs) (x ∷ before) after is =
    let rest : last_of b ∷ map last_of bs ≡ before ++ at ∷ after = cc in
    let d = divided_by (last_of b) at bs before after rest in
    record { earlier = b ∷ d.earlier; later = d.later; whole = ap (λ (l : List BatchRow). b ∷ l) d.whole; at_is = d.at_is }

pub divided : (l : Log) (at : ℤ) → IsBatchEnd l at → Divided l.base at l.batches
divided l at e = divided_by l.base at l.batches e.before e.after e.among

-- ---- each part follows

pub earlier_follow : (from : ℤ) (xs ys : List BatchRow) → Follow from (xs ++ ys) → Follow from xs
earlier_follow from [] ys h = tt
earlier_follow from (x ∷ xs) ys h = (h.0, h.1, earlier_follow (last_of x) xs ys h.2)

pub later_follow : (from : ℤ) (xs ys : List BatchRow) → Follow from (xs ++ ys) → Follow (last_end from xs) ys
later_follow from [] ys h = h
later_follow from (x ∷ xs) ys h = later_follow (last_of x) xs ys h.2

-- ---- which batches begin after it

begins_is : (at first : ℤ) → at <ℤ first → int_lt at first ≡ true
begins_is at first less = grind (arith, ints)

begins_not : (at first : ℤ) → first ≤ℤ at → int_lt at first ≡ false
begins_not at first low = grind (arith, ints)

all_begin : (from at : ℤ) (bs : List BatchRow) → at ≤ℤ from → Follow from bs → filter (begins_after at) bs ≡ bs
all_begin from at [] low h = refl
all_begin from at (b ∷ bs) low h =
    let last = last_of_is from b h.0 in
    ap (λ (t : Bool). cond t (b ∷ filter (begins_after at) bs) (filter (begins_after at) bs)) (begins_is at b.first (above from at b.first low h.0))
    ∙ ap (λ (l : List BatchRow). b ∷ l) (all_begin (last_of b) at bs (over from at (last_of b) (length b.items) low last) h.2)
  where
    above : (from at f : ℤ) → at ≤ℤ from → f ≡ from +ℤ pos 1 → at <ℤ f
    above from at f low is = omega (arith, ints, low, is)

    over : (from at l : ℤ) (n : ℕ) → at ≤ℤ from → l ≡ from +ℤ pos n → at ≤ℤ l
    over from at l n low is = omega (arith, ints, low, is)

none_begin : (from at : ℤ) (bs : List BatchRow) → last_end from bs ≤ℤ at → Follow from bs → filter (begins_after at) bs ≡ []
none_begin from at [] low h = refl
none_begin from at (b ∷ bs) low h =
    let last = last_of_is from b h.0 in
    let end = counted_up (last_of b) (last_end (last_of b) bs) _ (end_counts (last_of b) bs h.2) in
    ap (λ (t : Bool). cond t (b ∷ filter (begins_after at) bs) (filter (begins_after at) bs)) (begins_not at b.first (below from b.first (last_of b) (last_end (last_of b) bs) at (length b.items) h.0 h.1 last end low))
    ∙ none_begin (last_of b) at bs low h.2
  where
    below : (from f l e at : ℤ) (n : ℕ) → f ≡ from +ℤ pos 1 → 0 < n → l ≡ from +ℤ pos n → l ≤ℤ e → e ≤ℤ at → f ≤ℤ at
    below from f l e at n is some last end low = omega (arith, ints, is, some, last, end, low)

-- ---- a log

module _ (l : Log) (at : ℤ) (log : IsLog l) (d : Divided l.base at l.batches) where
  whole_follows : Follow l.base (d.earlier ++ d.later)
  whole_follows = subst (Follow l.base) d.whole log.follow

  pub earlier_follows : Follow l.base d.earlier
  earlier_follows = earlier_follow l.base d.earlier d.later whole_follows

  pub later_follows : Follow at d.later
  later_follows = subst (λ (o : ℤ). Follow o d.later) (sym d.at_is) (later_follow l.base d.earlier d.later whole_follows)

  pub later_is : filter (begins_after at) l.batches ≡ d.later
  later_is =
      ap (filter (begins_after at)) d.whole ∙ filter-append (begins_after at) d.earlier d.later
      ∙ ap (λ (xs : List BatchRow). xs ++ filter (begins_after at) d.later) (none_begin l.base at d.earlier (subst (λ (o : ℤ). o ≤ℤ at) d.at_is (at_least_itself at)) earlier_follows)
      ∙ all_begin at at d.later (at_least_itself at) later_follows

  pub entries_are : entries l.batches ≡ entries d.earlier ++ entries d.later
  entries_are = ap entries d.whole ∙ flat_map-append entries_of_batch d.earlier d.later

  pub earlier_up_to : AllUpTo at (entries d.earlier)
  earlier_up_to = entries_up_to at l.base d.earlier (subst (λ (o : ℤ). o ≤ℤ at) d.at_is (at_least_itself at)) earlier_follows

  pub later_after : AllAfter at (entries d.later)
  later_after = entries_after at at d.later (at_least_itself at) later_follows

  pub all_rise : RisesAfter l.base (entries d.earlier ++ entries d.later)
  all_rise = subst (RisesAfter l.base) entries_are (offsets_rise l log)

-- ---- a further batch end

longer_not : (from e : ℤ) (n : ℕ) → 0 < n → (from +ℤ pos n) ≤ℤ e → e ≤ℤ from → ⊥
longer_not from e n some low high = omega (arith, ints, some, low, high)

-- The batches between two batch ends, and those after the second.
pub record Between (from at : ℤ) (later rest : List BatchRow) (k : ℤ) : Type 0 where
  pub middle : List BatchRow
  pub whole : later ≡ middle ++ rest
  pub k_is : k ≡ last_end at middle

between_by : (from : ℤ) (bs cs xs ys : List BatchRow) → Follow from (bs ++ cs) → bs ++ cs ≡ xs ++ ys → last_end from bs ≤ℤ last_end from xs → Between from (last_end from bs) cs ys (last_end from xs)
between_by from [] cs xs ys follow same low = record { middle = xs; whole = same; k_is = refl }
between_by from (b ∷ bs) cs [] ys follow same low =
    let last = last_of_is from b follow.0 in
    let least = counted_up (last_of b) (last_end (last_of b) bs) _ (end_counts (last_of b) bs (earlier_follow (last_of b) bs cs follow.2)) in
    absurd (longer_not from (last_end (last_of b) bs) (length b.items) follow.1 (subst (λ (o : ℤ). o ≤ℤ last_end (last_of b) bs) last least) low)
between_by from (b ∷ bs) cs (x ∷ xs) ys follow same low =
    let here : x ≡ b = cc in
    let rest : bs ++ cs ≡ xs ++ ys = cc in
    let found = between_by (last_of b) bs cs xs ys follow.2 rest (subst (λ (y : BatchRow). last_end (last_of b) bs ≤ℤ last_end (last_of y) xs) here low) in
    record { middle = found.middle; whole = found.whole; k_is = ap (λ (y : BatchRow). last_end (last_of y) xs) here ∙ found.k_is }

module _ (l : Log) (at k : ℤ) (log : IsLog l) (d : Divided l.base at l.batches) (e : Divided l.base k l.batches) (order : at ≤ℤ k) where
  pub between : Between l.base at d.later e.later k
  between =
      let low : last_end l.base d.earlier ≤ℤ last_end l.base e.earlier = subst (λ (o : ℤ). o ≤ℤ last_end l.base e.earlier) d.at_is (subst (λ (o : ℤ). at ≤ℤ o) e.at_is order) in
      let found = between_by l.base d.earlier d.later e.earlier e.later (subst (Follow l.base) d.whole log.follow) (sym d.whole ∙ e.whole) low in
      record { middle = found.middle; whole = found.whole; k_is = e.at_is ∙ found.k_is ∙ ap (λ (o : ℤ). last_end o found.middle) (sym d.at_is) }
