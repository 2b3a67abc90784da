-- The last znode, and one that comes after it.
use Rattle.std.proofs.Common.{◌≡◌, ℕ, suc, ◌+◌, ◌-◌, ◌<◌, Bool, true, false, ◌&&◌, List, [], ◌∷◌, ◌++◌, map, Option, Some, None, IfSome, Ordering, Less, Equal, Greater, All, Contains, length, slice_get, get_or, take, drop, refl, sym, ap, ◌∙◌, subst, arith}
use Rattle.std.specs.List.{list_all}
use Rattle.std.specs.Ordering.{match_ordering}
use Rattle.std.proofs.lemmas.List.{drop_all, map-append, get_or-drop, length-drop}
use Rattle.std.proofs.lemmas.List.Elements.{All-nil, All-cons, All-head, All-tail, Contains-append_left, Contains-append_right}
use Rattle.std.proofs.lemmas.List.Folds.{list_all-append}
use Rattle.kz_types.specs.declared.tree.Row.{Row}
use Rattle.kz_types.specs.Order.{bytes_cmp}
use Rattle.kz_types.proofs.Order.{bytes_order}
use Rattle.kz_types.proofs.Lookup.{rest_rises, found_at, key_of_found, found_is_contained, contained_is_found}
use Rattle.kz_types.specs.Ordered.{RisesAbove, AllBelow}
use Rattle.kz_types.proofs.Append.{find_all_below}
use Rattle.kz_sorted.specs.BlockLists.{items_of, IsBlockFor}
use Rattle.kz_sorted.proofs.ItemsOf.{items_of_split}
use Rattle.kz_sorted.proofs.BlockFor.{find-items_of}
use Rattle.kz_sorted.proofs.Parts.{append_part, append_block_kept, append_part_kept}
use Rattle.kz_spec_data.specs.Tree.{path_of_row, row_at, put_row}
use Rattle.kz_spec_data.specs.Loads.{is_before}
use Rattle.kz_row_numbers.specs.declared.joined_numbers.Numbers.{Numbers}
use Rattle.kz_row_parts.specs.Kept.{AreRows}
use Rattle.kz_row_parts.specs.Numbered.{numbers_of, AreNumbered, AreNumberedParts}

and_true : (a : Bool) → (a && true) ≡ a
and_true true = refl
and_true false = refl

and_false : (a : Bool) → (a && false) ≡ false
and_false true = refl
and_false false = refl

and_first : (a b : Bool) → (a && b) ≡ true → a ≡ true
and_first true b h = refl
and_first false b h = absurd (cc)

and_second : (a b : Bool) → (a && b) ≡ true → b ≡ true
and_second true b h = h
and_second false b h = absurd (cc)

less_of : (o : Ordering) → match_ordering o true false false ≡ true → o ≡ Less
less_of Less h = refl
less_of Equal h = absurd (cc)
less_of Greater h = absurd (cc)

-- a znode before one that comes before the path comes before it, too
first_before : (path : List ℕ) (x y : Row) (rs : List Row) (b : Bool) → AreRows (x ∷ y ∷ rs) → list_all (is_before path) (y ∷ rs) ≡ b → b ≡ list_all (is_before path) (x ∷ y ∷ rs)
first_before path x y rs false rises e = sym (ap (λ c. is_before path x && c) e ∙ and_false (is_before path x))
first_before path x y rs true rises e =
    let second : bytes_cmp y.path path ≡ Less = less_of (bytes_cmp y.path path) (and_first (is_before path y) (list_all (is_before path) rs) e) in
    let first : is_before path x ≡ true = ap (λ o. match_ordering o true false false) (bytes_order.chain x.path y.path path rises.0 second) in
    sym (ap (λ c. is_before path x && c) e ∙ and_true (is_before path x) ∙ first)

-- all come before a path where the last one does
pub before_by_last : (path : List ℕ) (rows : List Row) (r : Row) → AreRows rows → Some r ≡ slice_get rows (length rows - 1) → is_before path r ≡ list_all (is_before path) rows
before_by_last path [] r rises e = absurd (cc)
before_by_last path (x ∷ []) r rises e = let same : r ≡ x = cc in ap (is_before path) same ∙ sym (and_true (is_before path x))
before_by_last path (x ∷ y ∷ rs) r rises e =
    let shorter : length (x ∷ y ∷ rs) - 1 ≡ suc (length (y ∷ rs) - 1) = omega arith in
    let rest = before_by_last path (y ∷ rs) r (rest_rises bytes_order path_of_row x (y ∷ rs) rises) (rw shorter at e) in
    rest ∙ first_before path x y rs (list_all (is_before path) (y ∷ rs)) rises refl

-- where there is no last one, there is none
pub before_none : (path : List ℕ) (rows : List Row) → None ≡ slice_get rows (length rows - 1) → true ≡ list_all (is_before path) rows
before_none path [] e = refl
before_none path (x ∷ []) e = absurd (cc)
before_none path (x ∷ y ∷ rs) e =
    let shorter : length (x ∷ y ∷ rs) - 1 ≡ suc (length (y ∷ rs) - 1) = omega arith in
    absurd (some_last (y ∷ rs) (omega arith) (rw shorter at e))
  where
    some_last : (rows : List Row) → 0 < length rows → None ≡ slice_get rows (length rows - 1) → ⊥
    some_last [] some e = omega arith
    some_last (x ∷ []) some e = cc
    some_last (x ∷ y ∷ rs) some e =
        let shorter : length (x ∷ y ∷ rs) - 1 ≡ suc (length (y ∷ rs) - 1) = omega arith in
        some_last (y ∷ rs) (omega arith) (rw shorter at e)

-- ---- a znode after all others

pub all_below : (path : List ℕ) (rows : List Row) → list_all (is_before path) rows ≡ true → AllBelow bytes_cmp path_of_row rows path
all_below path [] h = All-nil (λ (r : Row). bytes_cmp r.path path ≡ Less)
all_below path (x ∷ xs) h =
    All-cons (λ (r : Row). bytes_cmp r.path path ≡ Less) x xs (less_of (bytes_cmp x.path path) (and_first (is_before path x) (list_all (is_before path) xs) h))
    (all_below path xs (and_second (is_before path x) (list_all (is_before path) xs) h))

-- none of them has its path
pub none_has : (path : List ℕ) (rows : List Row) → list_all (is_before path) rows ≡ true → row_at path rows ≡ None
none_has path rows h = find_all_below bytes_order path_of_row path rows (all_below path rows h)

All-left : {A : Type 0} (P : A → Type 0) (xs ys : List A) → All P (xs ++ ys) → All P xs
All-left P [] ys h = All-nil P
All-left P (x ∷ xs) ys h = All-cons P x xs (All-head P x (xs ++ ys) h) (All-left P xs ys (All-tail P x (xs ++ ys) h))

-- the last block is the one for its path
pub last_is_for : (path : List ℕ) (bs : List (List Row)) (i : ℕ) → i + 1 ≡ length bs → AllBelow bytes_cmp path_of_row (items_of bs) path → IsBlockFor bytes_cmp path_of_row path bs i
last_is_for path bs i last below =
    let P : Row → Type 0 = λ r. bytes_cmp r.path path ≡ Less in
    let rest : List (List Row) = drop (i + 1) bs in
    let none : rest ≡ [] = drop_all (i + 1) bs (omega (arith, last)) in record {
      below = All-left P (items_of (take i bs)) (get_or bs i [] ++ items_of rest) (subst (All P) (items_of_split bs i [] (omega (arith, last))) below);
      above = subst (λ (cs : List (List Row)). RisesAbove bytes_cmp path_of_row path (items_of cs)) (sym none) tt;
    }

-- the block for its path doesn't have it
pub absent_there : (path : List ℕ) (bs : List (List Row)) (i : ℕ) → i < length bs → IsBlockFor bytes_cmp path_of_row path bs i → AllBelow bytes_cmp path_of_row (items_of bs) path → row_at path (get_or bs i []) ≡ None
absent_there path bs i within for_path below = sym (find-items_of bytes_order path_of_row path bs i [] within for_path) ∙ find_all_below bytes_order path_of_row path (items_of bs) below

-- those of the last part do, too
pub last_part_before : (path : List ℕ) (ps : List (List Row)) (i : ℕ) → i < length ps → list_all (is_before path) (items_of ps) ≡ true → list_all (is_before path) (get_or ps i []) ≡ true
last_part_before path ps i within h =
    let p : Row → Bool = is_before path in
    let front : List Row = items_of (take i ps) in
    let part : List Row = get_or ps i [] in
    let back : List Row = items_of (drop (i + 1) ps) in
    let split : list_all p (items_of ps) ≡ (list_all p front && list_all p (part ++ back)) = ap (list_all p) (items_of_split ps i [] within) ∙ list_all-append p front (part ++ back) in
    and_first (list_all p part) (list_all p back) (sym (list_all-append p part back) ∙ and_second (list_all p front) (list_all p (part ++ back)) (sym split ∙ h))

-- in a block or a part of its own
pub put_in_own : (r : Row) (bs : List (List Row)) → AllBelow bytes_cmp path_of_row (items_of bs) r.path → items_of (bs ++ (r ∷ []) ∷ []) ≡ put_row r (items_of bs)
put_in_own r bs below = append_part bytes_order path_of_row r bs (r ∷ []) below refl

own_numbers : (r : Row) (bs : List (List Row)) (ns made : List Numbers) → ns ≡ map numbers_of bs → made ≡ ns ++ numbers_of (r ∷ []) ∷ [] → made ≡ map numbers_of (bs ++ (r ∷ []) ∷ [])
own_numbers r bs ns made h is = is ∙ ap (λ l. l ++ numbers_of (r ∷ []) ∷ []) h ∙ sym (map-append numbers_of bs ((r ∷ []) ∷ []))

pub own_numbered : (r : Row) (bs : List (List Row)) (ns made : List Numbers) → AreNumbered bs ns → AllBelow bytes_cmp path_of_row (items_of bs) r.path → made ≡ ns ++ numbers_of (r ∷ []) ∷ [] → AreNumbered (bs ++ (r ∷ []) ∷ []) made
own_numbered r bs ns made h below is = record {
  blocks = append_block_kept bytes_order path_of_row r bs (r ∷ []) h.blocks below refl;
  numbers = own_numbers r bs ns made h.numbers is;
}

pub own_part_numbered : (r : Row) (ps : List (List Row)) (ns made : List Numbers) → AreNumberedParts ps ns → AllBelow bytes_cmp path_of_row (items_of ps) r.path → made ≡ ns ++ numbers_of (r ∷ []) ∷ [] → AreNumberedParts (ps ++ (r ∷ []) ∷ []) made
own_part_numbered r ps ns made h below is = record {
  parts = append_part_kept bytes_order path_of_row r ps (r ∷ []) h.parts below refl;
  numbers = own_numbers r ps ns made h.numbers is;
}

-- ---- one of the last znodes

pub found_late : (path : List ℕ) (rows : List Row) (n i : ℕ) (r : Row) → AreRows rows → i < length (drop n rows) → r ≡ get_or (drop n rows) i r → r.path ≡ path → row_at path rows ≡ Some r
found_late path rows n i r rises within is at =
    let place : n + i < length rows = omega (arith, length-drop n rows, within) in
    let there : r ≡ get_or rows (n + i) r = is ∙ get_or-drop n rows i r in
    ap (λ p. row_at p rows) (sym at ∙ ap path_of_row there) ∙ found_at bytes_order path_of_row rows (n + i) r rises place ∙ ap Some (sym there)

pub some_further : {X : Type 0} (o : Option X) (P Q : X → Type 0) → ((x : X) → P x → Q x) → IfSome o P → IfSome o Q
some_further None P Q f h = h
some_further (Some x) P Q f h = f x h

-- what is found in a block is found among all
pub found_in_block : (path : List ℕ) (bs : List (List Row)) (i : ℕ) (r : Row) → AreRows (items_of bs) → i < length bs → row_at path (get_or bs i []) ≡ Some r → row_at path (items_of bs) ≡ Some r
found_in_block path bs i r h within found =
    let b : List Row = get_or bs i [] in
    let rest : List Row = items_of (drop (i + 1) bs) in
    let inside : Contains (items_of bs) r =
    subst (λ (xs : List Row). Contains xs r) (sym (items_of_split bs i [] within))
    (Contains-append_right (items_of (take i bs)) (b ++ rest) r (Contains-append_left b rest r (found_is_contained bytes_order path_of_row path b r found))) in
    ap (λ p. row_at p (items_of bs)) (sym (key_of_found bytes_order path_of_row path b r found)) ∙ contained_is_found bytes_order path_of_row (items_of bs) r h inside
