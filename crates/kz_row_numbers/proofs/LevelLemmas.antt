-- A level and the levels above it.
use Rattle.std.proofs.Common.{◌≡◌, ℕ, zero, suc, ◌+◌, ◌-◌, ◌*◌, ◌/◌, ◌<◌, ◌≤◌, Bool, true, false, cond, ◌||◌, List, [], ◌∷◌, Some, None, length, get_or, set, slice_get, refl, sym, ap, ◌∙◌, subst, arith}
use Rattle.std.specs.List.{list_any, position_or_len, position}
use Rattle.std.proofs.lemmas.Grind.{common_steps}
use Rattle.kz_row_numbers.specs.declared.joined_numbers.Numbers.{Numbers}
use Rattle.kz_row_numbers.specs.Joins.{no_numbers, joined, all_joined}
use Rattle.kz_row_numbers.specs.Levels.{pairs, lowest, IsBelow, AreLevels}
use Rattle.kz_row_numbers.proofs.Joining.{joined-assoc}

-- ---- the pairs of a level

-- half as many, rounded up
pub record IsHalf (n h : ℕ) : Type 0 where
  pub least : n ≤ h + h
  pub most : h + h ≤ n + 1

pub length-pairs : (ns : List Numbers) → IsHalf (length ns) (length (pairs ns))
length-pairs [] = record { least = omega arith; most = omega arith }
length-pairs (a ∷ []) = record { least = omega arith; most = omega arith }
length-pairs (a ∷ b ∷ ns) = let rest = length-pairs ns in record { least = omega (arith, rest.least); most = omega (arith, rest.most) }

pub pair_alone : (ns : List Numbers) (i : ℕ) → 2 * i + 1 ≡ length ns → get_or (pairs ns) i no_numbers ≡ get_or ns (2 * i) no_numbers
pair_alone [] i e = absurd (omega arith)
pair_alone (a ∷ []) zero e = refl
pair_alone (a ∷ []) (suc i) e = absurd (omega arith)
pair_alone (a ∷ b ∷ ns) zero e = absurd (omega arith)
pair_alone (a ∷ b ∷ ns) (suc i) e =
    let twice : 2 * suc i ≡ suc (suc (2 * i)) = omega arith in
    rw twice (pair_alone ns i (omega (arith, e)))

pub pair_both : (ns : List Numbers) (i : ℕ) → 2 * i + 1 < length ns → get_or (pairs ns) i no_numbers ≡ joined (get_or ns (2 * i) no_numbers) (get_or ns (2 * i + 1) no_numbers)
pair_both [] i h = absurd (omega arith)
pair_both (a ∷ []) i h = absurd (omega arith)
pair_both (a ∷ b ∷ ns) zero h = refl
pair_both (a ∷ b ∷ ns) (suc i) h =
    let twice : 2 * suc i ≡ suc (suc (2 * i)) = omega arith in
    let more : suc (suc (2 * i)) + 1 ≡ suc (suc (2 * i + 1)) = omega arith in
    rw (twice, more) (pair_both ns i (omega (arith, h)))

-- one entry is changed
pub pairs-set : (ns : List Numbers) (i : ℕ) (n : Numbers) → i < length ns → pairs (set ns i n) ≡ set (pairs ns) (i / 2) (get_or (pairs (set ns i n)) (i / 2) no_numbers)
pairs-set [] i n h = absurd (omega arith)
pairs-set (a ∷ []) zero n h = refl
pairs-set (a ∷ []) (suc i) n h = absurd (omega arith)
pairs-set (a ∷ b ∷ ns) zero n h = refl
pairs-set (a ∷ b ∷ ns) (suc zero) n h = refl
pairs-set (a ∷ b ∷ ns) (suc (suc i)) n h =
    let half : suc (suc i) / 2 ≡ suc (i / 2) = omega arith in
    rw half (ap (λ l. joined a b ∷ l) (pairs-set ns i n (omega (arith, h))))

pub all_joined-pairs : (ns : List Numbers) → all_joined (pairs ns) ≡ all_joined ns
all_joined-pairs [] = refl
all_joined-pairs (a ∷ []) = refl
all_joined-pairs (a ∷ b ∷ ns) = ap (joined (joined a b)) (all_joined-pairs ns) ∙ joined-assoc a b (all_joined ns)

-- ---- a level and those above it

pub is_below : (level : List Numbers) (levels : List (List Numbers)) → 0 < length level → lowest levels ≡ pairs level → IsBelow level levels
is_below level [] some e = absurd (let lengths = ap length e in omega (arith, (length-pairs level).least))
is_below level (above ∷ levels) some e = e

pub below_is : (level : List Numbers) (levels : List (List Numbers)) → 0 < length levels → IsBelow level levels → lowest levels ≡ pairs level
below_is level [] some h = absurd (omega arith)
below_is level (above ∷ levels) some h = h

-- a level with a changed entry, and the levels above it with what follows
pub below_set : (level : List Numbers) (levels next : List (List Numbers)) (i : ℕ) (n pair : Numbers) → 0 < length levels → IsBelow level levels → i < length level → pair ≡ get_or (pairs (set level i n)) (i / 2) no_numbers
    → lowest next ≡ set (lowest levels) (i / 2) pair → IsBelow (set level i n) next
below_set level levels next i n pair some h within is made =
    is_below (set level i n) next (omega (arith, length-set level i n, within))
    (made ∙ ap (λ l. set l (i / 2) pair) (below_is level levels some h) ∙ ap (set (pairs level) (i / 2)) is ∙ sym (pairs-set level i n within))
  where
    length-set : (ns : List Numbers) (i : ℕ) (n : Numbers) → length (set ns i n) ≡ length ns
    length-set [] i n = refl
    length-set (m ∷ ns) zero n = refl
    length-set (m ∷ ns) (suc i) n = ap suc (length-set ns i n)

-- the highest level
pub record IsTop (levels : List (List Numbers)) (top : List Numbers) : Type 0 where
  pub single : length top ≤ 1
  pub whole : all_joined top ≡ all_joined (lowest levels)

pub top_is : (levels : List (List Numbers)) (top : List Numbers) → AreLevels levels → slice_get levels (length levels - 1) ≡ Some top → IsTop levels top
top_is [] top h e = absurd (cc)
top_is (level ∷ []) top h e = let same : level ≡ top = cc in subst (IsTop (level ∷ [])) same (record { single = h.0; whole = refl })
top_is (level ∷ above ∷ levels) top h e =
    let shorter : length (level ∷ above ∷ levels) - 1 ≡ suc (length (above ∷ levels) - 1) = omega arith in
    let rest = top_is (above ∷ levels) top h.1 (rw shorter at e) in record {
      single = rest.single;
      whole = rest.whole ∙ ap all_joined h.0 ∙ all_joined-pairs level;
    }

-- ---- the first entry that passes a test

module _ (p : Numbers → Bool) where
  first_by : (n : Numbers) (ns : List Numbers) (b : Bool) → p n ≡ b → list_any p (n ∷ ns) ≡ true → (list_any p ns ≡ true → position_or_len p ns < length ns) → position_or_len p (n ∷ ns) < length (n ∷ ns)
  first_by n ns true e h rest = rw e (omega arith)
  first_by n ns false e h rest = let later = rest (rw e at h) in rw e (omega (arith, later))

  pub some_first : (ns : List Numbers) → list_any p ns ≡ true → position_or_len p ns < length ns
  some_first [] h = absurd (cc)
  some_first (n ∷ ns) h = first_by n ns (p n) refl h (some_first ns)

module _ (p : Numbers → Bool) (law : (a b : Numbers) → p (joined a b) ≡ (p a || p b)) where
  pub any-pairs : (ns : List Numbers) → list_any p (pairs ns) ≡ list_any p ns
  any-pairs [] = refl
  any-pairs (a ∷ []) = refl
  any-pairs (a ∷ b ∷ ns) = rw (law a b, any-pairs ns) (or_assoc (p a) (p b) (list_any p ns))
    where
      or_assoc : (x y z : Bool) → ((x || y) || z) ≡ (x || (y || z))
      or_assoc true y z = refl
      or_assoc false y z = refl

  -- the first entry is one of the first pair
  abbrev first_of : List Numbers → ℕ → ℕ
  first_of ns k = cond (p (get_or ns (2 * k) no_numbers)) (2 * k) (2 * k + 1)

  lifted : (c : Bool) (n : ℕ) → 1 + (1 + cond c n (n + 1)) ≡ cond c (suc (suc n)) (suc (suc n) + 1)
  lifted true n = omega arith
  lifted false n = omega arith

  by_one : (a : Numbers) (x : Bool) → p a ≡ x → position_or_len p (a ∷ []) < 1 → position_or_len p (a ∷ []) ≡ first_of (a ∷ []) (position_or_len p (a ∷ []))
  by_one a true e h = rw (e, e) refl
  by_one a false e h = absurd (let none = rw e at h in omega (arith, none))

  by_two : (a b : Numbers) (ns : List Numbers) (x y : Bool) → p a ≡ x → p b ≡ y → position_or_len p (joined a b ∷ pairs ns) < length (joined a b ∷ pairs ns)
      → (position_or_len p (pairs ns) < length (pairs ns) → position_or_len p ns ≡ first_of ns (position_or_len p (pairs ns)))
      → position_or_len p (a ∷ b ∷ ns) ≡ first_of (a ∷ b ∷ ns) (position_or_len p (joined a b ∷ pairs ns))
  by_two a b ns true y e f h rest = rw (law a b, e, e) refl
  by_two a b ns false true e f h rest = rw (law a b, e, f, e) refl
  by_two a b ns false false e f h rest =
      let k = position_or_len p (pairs ns) in
      let within : k < length (pairs ns) = let later = rw (law a b, e, f) at h in omega (arith, later) in
      let twice : 2 * (1 + k) ≡ suc (suc (2 * k)) = omega arith in
      rw (law a b, e, f) (rw twice (ap (λ n. 1 + (1 + n)) (rest within) ∙ lifted (p (get_or ns (2 * k) no_numbers)) (2 * k)))

  pub first_of_pairs : (ns : List Numbers) → position_or_len p (pairs ns) < length (pairs ns) → position_or_len p ns ≡ first_of ns (position_or_len p (pairs ns))
  first_of_pairs [] h = absurd (omega arith)
  first_of_pairs (a ∷ []) h = by_one a (p a) refl h
  first_of_pairs (a ∷ b ∷ ns) h = by_two a b ns (p a) (p b) refl refl h (first_of_pairs ns)

module _ (p : Numbers → Bool) where
  pub first_position : (ns : List Numbers) → list_any p ns ≡ true → Some (position_or_len p ns) ≡ position p ns
  first_position ns h = let within = some_first p ns h in grind (arith, common_steps)

  no_first : (ns : List Numbers) → list_any p ns ≡ false → length ns ≤ position_or_len p ns
  no_first [] h = omega arith
  no_first (n ∷ ns) h = let rest = no_first ns (or_right (p n) (list_any p ns) h) in rw (or_left (p n) (list_any p ns) h) (omega (arith, rest))
    where
      or_left : (x y : Bool) → (x || y) ≡ false → x ≡ false
      or_left true y h = h
      or_left false y h = refl

      or_right : (x y : Bool) → (x || y) ≡ false → y ≡ false
      or_right true y h = absurd (cc)
      or_right false y h = h

  pub no_position : (ns : List Numbers) → list_any p ns ≡ false → None ≡ position p ns
  no_position ns h = let without = no_first ns h in grind (arith, common_steps)

-- ---- the first entry that passes a test, from the highest level down

module _ (p : Numbers → Bool) (law : (a b : Numbers) → p (joined a b) ≡ (p a || p b)) where
  zero_first : (ns : List Numbers) → length ns ≤ 1 → list_any p ns ≡ true → 0 ≡ position_or_len p ns
  zero_first ns single h = let within = some_first p ns h in omega (arith, within, single)

  pub first_alone : (levels above : List (List Numbers)) (level : List Numbers) → AreLevels levels → levels ≡ level ∷ above → length above ≡ 0 → list_any p (lowest levels) ≡ true → 0 ≡ position_or_len p (lowest levels)
  first_alone levels [] level h is none some = rw is (zero_first level (rw is at h).0 (rw is at some))
  first_alone levels (next ∷ above) level h is none some = absurd (omega arith)

  pub some_above : (levels above : List (List Numbers)) (level : List Numbers) → AreLevels levels → levels ≡ level ∷ above → 0 < length above → list_any p (lowest levels) ≡ true → AreLevels above × (list_any p (lowest above) ≡ true)
  some_above levels above level h is more some =
      let parts : IsBelow level above × AreLevels above = rw is at h in
      (parts.1, ap (list_any p) (below_is level above more parts.0) ∙ any-pairs p law level ∙ (rw is at some))

  pub within_pair : (levels above : List (List Numbers)) (level : List Numbers) (k : ℕ) → AreLevels levels → levels ≡ level ∷ above → 0 < length above → list_any p (lowest levels) ≡ true → k ≡ position_or_len p (lowest above) → 2 * k < length level
  within_pair levels above level k h is more some at =
      let parts : IsBelow level above × AreLevels above = rw is at h in
      let within = some_first p (lowest above) (some_above levels above level h is more some).1 in
      let lengths = ap length (below_is level above more parts.0) in
      omega (arith, at, within, lengths, (length-pairs level).most)

  pub first_above : (levels above : List (List Numbers)) (level : List Numbers) (k : ℕ) → AreLevels levels → levels ≡ level ∷ above → 0 < length above → list_any p (lowest levels) ≡ true → k ≡ position_or_len p (lowest above)
      → cond (p (get_or level (2 * k) no_numbers)) (2 * k) (2 * k + 1) ≡ position_or_len p (lowest levels)
  first_above levels above level k h is more some at =
      let parts : IsBelow level above × AreLevels above = rw is at h in
      let pairs_are : lowest above ≡ pairs level = below_is level above more parts.0 in
      let within : position_or_len p (pairs level) < length (pairs level) = rw pairs_are at (some_first p (lowest above) (some_above levels above level h is more some).1) in
      rw is (rw (at, pairs_are) (sym (first_of_pairs p law level within)))

-- ---- a change, from the lowest level up

pub place_above : (levels above : List (List Numbers)) (level : List Numbers) (i : ℕ) → AreLevels levels → levels ≡ level ∷ above → 0 < length above → i < length (lowest levels) → AreLevels above × (i / 2 < length (lowest above))
place_above levels above level i h is more within =
    let parts : IsBelow level above × AreLevels above = rw is at h in
    let lengths = ap length (below_is level above more parts.0) in
    let place : i < length level = rw is at within in
    (parts.1, omega (arith, place, lengths, (length-pairs level).least))

pub levels_set : (levels above next : List (List Numbers)) (level : List Numbers) (i : ℕ) (n pair : Numbers) → AreLevels levels → levels ≡ level ∷ above → 0 < length above → i < length (lowest levels)
    → pair ≡ get_or (pairs (set level i n)) (i / 2) no_numbers → lowest next ≡ set (lowest above) (i / 2) pair → AreLevels next → AreLevels (set level i n ∷ next)
levels_set levels above next level i n pair h is more within pair_is made nexts =
    let parts : IsBelow level above × AreLevels above = rw is at h in
    (below_set level above next i n pair more parts.0 (rw is at within) pair_is made, nexts)
