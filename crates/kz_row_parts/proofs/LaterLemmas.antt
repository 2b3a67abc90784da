-- The first znode of the migrated area that was written after a transaction, block after block.
use Rattle.std.proofs.Common.{◌≡◌, ℕ, suc, ◌+◌, ◌<◌, ◌≤◌, ℤ, Bool, true, false, cond, not, ◌||◌, ◌&&◌, List, [], ◌∷◌, ◌++◌, length, get_or, map, filter, Option, Some, None, is_some, refl, sym, ap, ◌∙◌, arith, position}
use Rattle.std.specs.Int.{int_max}
use Rattle.std.specs.List.{position_or_len}
use Rattle.std.specs.Option.{option_or}
use Rattle.std.proofs.lemmas.Grind.{common_steps}
use Rattle.std.proofs.lemmas.List.{get_or_past, length-map}
use Rattle.std.proofs.lemmas.List.Elements.{filter-append}
use Rattle.kz_types.specs.Paths.{is_migrated}
use Rattle.kz_types.specs.declared.tree.Row.{Row}
use Rattle.kz_sorted.specs.BlockLists.{items_of}
use Rattle.kz_row_numbers.specs.declared.joined_numbers.Numbers.{Numbers}
use Rattle.kz_row_numbers.specs.Joins as joins
use Rattle.kz_row_numbers.specs.Joins.{is_above}
use Rattle.kz_row_numbers.proofs.Joining.{above_greater, later_joined}
use Rattle.kz_spec_data.specs.Tree.{is_later, first_row}
use Rattle.kz_row_parts.specs.Numbered.{numbers_of_row, numbers_of}

abbrev pub first_in : ℤ → List Row → Option Row
first_in zxid rows = first_row (filter (is_later zxid) (filter (λ (r : Row). is_migrated r.path) rows))

first-append : (xs ys : List Row) → first_row (xs ++ ys) ≡ option_or (first_row xs) (first_row ys)
first-append [] ys = refl
first-append (x ∷ xs) ys = refl

pub first_in-append : (zxid : ℤ) (xs ys : List Row) → first_in zxid (xs ++ ys) ≡ option_or (first_in zxid xs) (first_in zxid ys)
first_in-append zxid xs ys =
    let m : Row → Bool = λ r. is_migrated r.path in
    ap (λ l. first_row (filter (is_later zxid) l)) (filter-append m xs ys) ∙ ap first_row (filter-append (is_later zxid) (filter m xs) (filter m ys))
    ∙ first-append (filter (is_later zxid) (filter m xs)) (filter (is_later zxid) (filter m ys))

row_later_by : (zxid : ℤ) (r : Row) (b : Bool) → is_above zxid (cond b (Some (int_max r.mzxid r.pzxid)) None) ≡ (b && is_later zxid r)
row_later_by zxid r true = above_greater zxid (Some r.mzxid) (Some r.pzxid)
row_later_by zxid r false = refl

some_more : (zxid : ℤ) (r : Row) (rows : List Row) (b c : Bool) → is_migrated r.path ≡ b → is_later zxid r ≡ c → is_some (first_in zxid (r ∷ rows)) ≡ ((b && c) || is_some (first_in zxid rows))
some_more zxid r rows true true e f = rw (e, f) refl
some_more zxid r rows true false e f = rw (e, f) refl
some_more zxid r rows false c e f = rw e refl

-- the numbers of znodes tell whether there is one
pub later_some : (zxid : ℤ) (rows : List Row) → joins.is_later zxid (numbers_of rows) ≡ is_some (first_in zxid rows)
later_some zxid [] = refl
later_some zxid (r ∷ rows) =
    later_joined zxid (numbers_of_row r) (numbers_of rows) ∙ ap (λ b. b || joins.is_later zxid (numbers_of rows)) (row_later_by zxid r (is_migrated r.path))
    ∙ ap (λ b. (is_migrated r.path && is_later zxid r) || b) (later_some zxid rows) ∙ sym (some_more zxid r rows (is_migrated r.path) (is_later zxid r) refl refl)

or_some : {A : Type 0} (o p : Option A) → is_some o ≡ true → option_or o p ≡ o
or_some None p h = absurd (cc)
or_some (Some x) p h = refl

or_none : {A : Type 0} (o p : Option A) → is_some o ≡ false → option_or o p ≡ p
or_none None p h = refl
or_none (Some x) p h = absurd (cc)

abbrev place : ℤ → List (List Row) → ℕ
place zxid bs = position_or_len (joins.is_later zxid) (map numbers_of bs)

first_by : (zxid : ℤ) (b : List Row) (bs : List (List Row)) (c : Bool) → joins.is_later zxid (numbers_of b) ≡ c → first_in zxid (items_of bs) ≡ first_in zxid (get_or bs (place zxid bs) [])
    → option_or (first_in zxid b) (first_in zxid (items_of bs)) ≡ first_in zxid (get_or (b ∷ bs) (cond (not c) (1 + place zxid bs) 0) [])
first_by zxid b bs true e rest = or_some (first_in zxid b) (first_in zxid (items_of bs)) (sym (later_some zxid b) ∙ e)
first_by zxid b bs false e rest =
    let next : 1 + place zxid bs ≡ suc (place zxid bs) = omega arith in
    rw next (or_none (first_in zxid b) (first_in zxid (items_of bs)) (sym (later_some zxid b) ∙ e) ∙ rest)

-- it is in the first block whose numbers tell of one
pub first_there : (zxid : ℤ) (bs : List (List Row)) → first_in zxid (items_of bs) ≡ first_in zxid (get_or bs (place zxid bs) [])
first_there zxid [] = refl
first_there zxid (b ∷ bs) = first_in-append zxid b (items_of bs) ∙ first_by zxid b bs (joins.is_later zxid (numbers_of b)) refl (first_there zxid bs)

module _ {X : Type 0} (p : X → Bool) where
  pub place_is : (xs : List X) (i : ℕ) → position p xs ≡ Some i → (position_or_len p xs ≡ i) × (i < length xs)
  place_is xs i e = let at : position_or_len p xs ≡ i = grind (arith, common_steps) in let inside : i < length xs = grind (arith, common_steps) in (at, inside)

  pub place_past : (xs : List X) → position p xs ≡ None → length xs ≤ position_or_len p xs
  place_past xs e = grind (arith, common_steps)

-- there is none
pub none_later : (zxid : ℤ) (bs : List (List Row)) (ns : List Numbers) → ns ≡ map numbers_of bs → position (joins.is_later zxid) ns ≡ None → first_in zxid (items_of bs) ≡ None
none_later zxid bs ns is none =
    let past = place_past (joins.is_later zxid) (map numbers_of bs) (ap (position (joins.is_later zxid)) (sym is) ∙ none) in
    first_there zxid bs ∙ ap (first_in zxid) (get_or_past bs (place zxid bs) [] (omega (arith, past, length-map bs numbers_of)))

-- it is in this block
pub one_later : (zxid : ℤ) (bs : List (List Row)) (ns : List Numbers) (i : ℕ) → ns ≡ map numbers_of bs → position (joins.is_later zxid) ns ≡ Some i → (first_in zxid (items_of bs) ≡ first_in zxid (get_or bs i [])) × (i < length bs)
one_later zxid bs ns i is some =
    let at = place_is (joins.is_later zxid) (map numbers_of bs) i (ap (position (joins.is_later zxid)) (sym is) ∙ some) in
    (first_there zxid bs ∙ ap (λ k. first_in zxid (get_or bs k [])) at.0, omega (arith, at.1, length-map bs numbers_of))
