-- Which paths keep the rule: parts of the rule in ASCII, and what stands before a slash of a path.
use Rattle.std.proofs.Common.{◌≡◌, ℕ, zero, suc, ◌<◌, ◌≤◌, ◌==◌, nat_le, nat_lt, Bool, true, false, ◌&&◌, cond, List, [], ◌∷◌, ◌++◌, length, take, drop, slice_index, refl, sym, ap, ◌∙◌, subst, arith, length-append}
use Rattle.std.specs.List.{All, slice_split, onto_first, list_all}
use Rattle.std.specs.Str.{IsUtf8, is_utf8}
use Rattle.std.proofs.lemmas.Bool.{and_parts, and_from, false≢true, ne_eqb, leb-true, ltb-true}
use Rattle.std.proofs.lemmas.Bool.Decides.{nat_tests}
use Rattle.std.proofs.lemmas.Str.{IsUtf8-from_ascii, IsUtf8-append, IsUtf8-take, is_utf8-from_IsUtf8}
use Rattle.std.proofs.lemmas.List.Folds.{list_all-append}
use Rattle.std.proofs.lemmas.List.Sums.{AllPass-from_list_all}
use Rattle.std.proofs.lemmas.List.Splits.{slice_split_none, slice_split_at}
use Rattle.kz_types.specs.Numbers.{is_digit}
use Rattle.kz_types.specs.PathRule.{is_path, has_path_form, is_part, is_shown, parts}
use Rattle.kz_types.proofs.PathRules.{path_is_text, parts_are_legal, begins_with_slash}

-- ---- parts in ASCII

abbrev pub is_ascii : ℕ → Bool
is_ascii b = nat_lt b 128

-- a part of the rule whose bytes are in ASCII
abbrev pub is_ascii_part : List ℕ → Bool
is_ascii_part part = is_part part && list_all is_ascii part

-- these parts after each other, with a slash between two
abbrev pub joined : List ℕ → List (List ℕ) → List ℕ
joined p [] = p
joined p (q ∷ qs) = p ++ 47 ∷ joined q qs

no_slash : (part : List ℕ) → is_part part ≡ true → All (λ b. (b == 47) ≡ false) part
no_slash part h k d within = ne_eqb _ 47 (λ same. false≢true (ap is_shown (sym same) ∙ AllPass-from_list_all is_shown part (and_parts _ _ h).1 k d within))

below_128 : (bs : List ℕ) → list_all is_ascii bs ≡ true → (i : ℕ) → slice_index bs i < 128
below_128 [] h i = omega arith
below_128 (b ∷ bs) h zero = ltb-true b 128 (and_parts _ _ h).0
below_128 (b ∷ bs) h (suc i) = below_128 bs (and_parts _ _ h).1 i

ascii_text : (bs : List ℕ) → list_all is_ascii bs ≡ true → IsUtf8 bs
ascii_text bs h = IsUtf8-from_ascii bs (below_128 bs h)

joined_text : (p : List ℕ) (qs : List (List ℕ)) → list_all is_ascii_part (p ∷ qs) ≡ true → IsUtf8 (joined p qs)
joined_text p [] h = ascii_text p (and_parts _ _ (and_parts _ _ h).0).1
joined_text p (q ∷ qs) h =
    let k = and_parts (is_ascii_part p) (list_all is_ascii_part (q ∷ qs)) h in
    IsUtf8-append p (47 ∷ joined q qs) (ascii_text p (and_parts _ _ k.0).1) (IsUtf8-append (47 ∷ []) (joined q qs) (ascii_text (47 ∷ []) refl) (joined_text q qs k.1))

joined_parts : (p : List ℕ) (qs : List (List ℕ)) → list_all is_ascii_part (p ∷ qs) ≡ true → slice_split (λ b. b == 47) (joined p qs) ≡ p ∷ qs
joined_parts p [] h = slice_split_none (λ b. b == 47) p (no_slash p (and_parts _ _ (and_parts _ _ h).0).0)
joined_parts p (q ∷ qs) h =
    let k = and_parts (is_ascii_part p) (list_all is_ascii_part (q ∷ qs)) h in
    slice_split_at (λ b. b == 47) p 47 (joined q qs) (no_slash p (and_parts _ _ k.0).0) refl ∙ ap (λ ps. p ∷ ps) (joined_parts q qs k.1)

all_parts : (ps : List (List ℕ)) → list_all is_ascii_part ps ≡ true → list_all is_part ps ≡ true
all_parts [] h = refl
all_parts (p ∷ ps) h = let k = and_parts (is_ascii_part p) (list_all is_ascii_part ps) h in and_from _ _ (and_parts _ _ k.0).0 (all_parts ps k.1)

pub joined_is_path : (p : List ℕ) (qs : List (List ℕ)) → list_all is_ascii_part (p ∷ qs) ≡ true → length (joined p qs) < 1024 → is_path (47 ∷ joined p qs) ≡ true
unfolding is_path has_path_form
joined_is_path p qs h few =
    let text : is_utf8 (47 ∷ joined p qs) ≡ true = is_utf8-from_IsUtf8 _ (IsUtf8-append (47 ∷ []) (joined p qs) (ascii_text (47 ∷ []) refl) (joined_text p qs h)) in
    let legal : list_all is_part (slice_split (λ b. b == 47) (joined p qs)) ≡ true = ap (list_all is_part) (joined_parts p qs h) ∙ all_parts (p ∷ qs) h in
    let long : nat_le (length (47 ∷ joined p qs)) 1024 ≡ true = grind (arith, nat_tests, few) in
    and_from _ _ (and_from _ _ (and_from _ _ text refl) legal) long

-- ---- digits as a part

digit_range : (b : ℕ) → is_digit b ≡ true → (48 ≤ b) × (b ≤ 57)
digit_range b h = (grind (arith, nat_tests), grind (arith, nat_tests))

-- a byte within these that is no slash may stand in a part
pub shown_byte : (b : ℕ) → 32 ≤ b → b ≤ 126 → (b ≡ 47 → ⊥) → is_shown b && is_ascii b ≡ true
shown_byte b low high other =
    let l : nat_le 32 b ≡ true = grind (arith, nat_tests) in
    let h : b == 127 ≡ false = grind (arith, nat_tests) in
    let a : nat_lt b 128 ≡ true = grind (arith, nat_tests) in
    rw (l, h, ne_eqb b 47 other, a) refl

-- bytes that pass a test of such bytes
pub passed : (test : ℕ → Bool) → ((b : ℕ) → test b ≡ true → is_shown b && is_ascii b ≡ true) → (bs : List ℕ) → list_all test bs ≡ true → (list_all is_shown bs ≡ true) × (list_all is_ascii bs ≡ true)
passed test each [] h = (refl, refl)
passed test each (b ∷ bs) h =
    let k = and_parts (test b) (list_all test bs) h in
    let one = and_parts (is_shown b) (is_ascii b) (each b k.0) in
    let rest = passed test each bs k.1 in
    (and_from _ _ one.0 rest.0, and_from _ _ one.1 rest.1)

pub digits_are_part : (bs : List ℕ) → list_all is_digit bs ≡ true → 0 < length bs → is_ascii_part bs ≡ true
digits_are_part [] h some = absurd (omega arith)
digits_are_part (b ∷ bs) h some =
    let r = digit_range b (and_parts (is_digit b) (list_all is_digit bs) h).0 in
    let dot : b == 46 ≡ false = grind (arith, nat_tests, r.0) in
    let k = passed is_digit (λ d is. let e = digit_range d is in shown_byte d (omega (arith, e.0)) (omega (arith, e.1)) (λ same. omega (arith, e.0, same))) (b ∷ bs) h in
    let long : nat_lt 0 (length (b ∷ bs)) ≡ true = grind (arith, nat_tests) in
    let part : is_part (b ∷ bs) ≡ true = rw (long, dot) k.0 in
    and_from (is_part (b ∷ bs)) (list_all is_ascii (b ∷ bs)) part k.1

-- ---- what stands before a slash

split_some : (bs : List ℕ) → (q : List ℕ) × (qs : List (List ℕ)) × (slice_split (λ b. b == 47) bs ≡ q ∷ qs)
split_some [] = ([], [], refl)
split_some (b ∷ bs) = by (b == 47) (split_some bs)
  where
    by : (t : Bool) → (q : List ℕ) × (qs : List (List ℕ)) × (slice_split (λ x. x == 47) bs ≡ q ∷ qs)
        → (q : List ℕ) × (qs : List (List ℕ)) × (cond t ([] ∷ slice_split (λ x. x == 47) bs) (onto_first b (slice_split (λ x. x == 47) bs)) ≡ q ∷ qs)
    by true s = ([], slice_split (λ x. x == 47) bs, refl)
    by false s = (b ∷ s.0, s.1, ap (onto_first b) s.2)

split_front : (xs bs : List ℕ) → slice_split (λ b. b == 47) (xs ++ 47 ∷ bs) ≡ slice_split (λ b. b == 47) xs ++ slice_split (λ b. b == 47) bs
split_front [] bs = refl
split_front (x ∷ xs) bs = by (x == 47) (split_some xs) (split_front xs bs)
  where
    by : (t : Bool) → (q : List ℕ) × (qs : List (List ℕ)) × (slice_split (λ b. b == 47) xs ≡ q ∷ qs)
        → slice_split (λ b. b == 47) (xs ++ 47 ∷ bs) ≡ slice_split (λ b. b == 47) xs ++ slice_split (λ b. b == 47) bs
        → cond t ([] ∷ slice_split (λ b. b == 47) (xs ++ 47 ∷ bs)) (onto_first x (slice_split (λ b. b == 47) (xs ++ 47 ∷ bs)))
        ≡ cond t ([] ∷ slice_split (λ b. b == 47) xs) (onto_first x (slice_split (λ b. b == 47) xs)) ++ slice_split (λ b. b == 47) bs
    by true s e = ap (λ ps. [] ∷ ps) e
    by false s e = ap (onto_first x) (e ∙ ap (λ ps. ps ++ slice_split (λ b. b == 47) bs) s.2) ∙ sym (ap (λ ps. onto_first x ps ++ slice_split (λ b. b == 47) bs) s.2)

front_text : (xs bs : List ℕ) → IsUtf8 (xs ++ 47 ∷ bs) → IsUtf8 xs
front_text xs bs h =
    subst IsUtf8 (take_front xs (47 ∷ bs)) (IsUtf8-take (xs ++ 47 ∷ bs) (length xs) h (omega (arith, length-append xs (47 ∷ bs)), λ within high. absurd (let at = slash_at xs bs in omega (arith, at, high))))
  where
    take_front : (xs ys : List ℕ) → take (length xs) (xs ++ ys) ≡ xs
    take_front [] ys = refl
    take_front (x ∷ xs) ys = ap (λ zs. x ∷ zs) (take_front xs ys)

    slash_at : (xs ys : List ℕ) → slice_index (xs ++ 47 ∷ ys) (length xs) ≡ 47
    slash_at [] ys = refl
    slash_at (x ∷ xs) ys = slash_at xs ys

front_parts : (xs bs : List ℕ) → list_all is_part (parts (xs ++ 47 ∷ bs)) ≡ true → list_all is_part (parts xs) ≡ true
front_parts xs bs h = by (split_some xs)
  where
    by : (q : List ℕ) × (qs : List (List ℕ)) × (slice_split (λ b. b == 47) xs ≡ q ∷ qs) → list_all is_part (parts xs) ≡ true
    by s =
        let whole : list_all is_part (s.1 ++ slice_split (λ b. b == 47) bs) ≡ true =
        sym (ap (λ ps. list_all is_part (drop 1 ps)) (split_front xs bs ∙ ap (λ ps. ps ++ slice_split (λ b. b == 47) bs) s.2)) ∙ h in
        ap (λ ps. list_all is_part (drop 1 ps)) s.2 ∙ (and_parts _ _ (sym (list_all-append is_part s.1 (slice_split (λ b. b == 47) bs)) ∙ whole)).0

front_begins : (xs bs : List ℕ) → 0 < length xs → (slice_index (xs ++ 47 ∷ bs) 0 == 47) ≡ true → (slice_index xs 0 == 47) ≡ true
front_begins [] bs some h = absurd (omega arith)
front_begins (x ∷ xs) bs some h = h

pub front_is_path : (xs bs : List ℕ) → 0 < length xs → is_path (xs ++ 47 ∷ bs) ≡ true → is_path xs ≡ true
unfolding is_path has_path_form
front_is_path xs bs some h =
    let text : is_utf8 xs ≡ true = is_utf8-from_IsUtf8 xs (front_text xs bs (path_is_text (xs ++ 47 ∷ bs) h)) in
    let whole : length (xs ++ 47 ∷ bs) ≤ 1024 = leb-true (length (xs ++ 47 ∷ bs)) 1024 (and_parts (has_path_form (xs ++ 47 ∷ bs)) (nat_le (length (xs ++ 47 ∷ bs)) 1024) h).1 in
    let long : nat_le (length xs) 1024 ≡ true = grind (arith, nat_tests, whole, length-append xs (47 ∷ bs)) in
    and_from _ _ (and_from _ _ (and_from _ _ text (front_begins xs bs some (begins_with_slash (xs ++ 47 ∷ bs) h))) (front_parts xs bs (parts_are_legal (xs ++ 47 ∷ bs) h))) long
