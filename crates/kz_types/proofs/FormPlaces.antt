-- Where bytes stop having the form of a path, and where they stop being the beginning of one.
use Rattle.std.proofs.Common.{◌≡◌, ℕ, zero, suc, ◌+◌, ◌-◌, ◌<◌, ◌≤◌, ◌==◌, Bool, true, false, not, ◌&&◌, ⊎_elim, List, [], ◌∷◌, ◌++◌, length, take, drop, get_or, slice_index, IsUtf8, refl, sym, ap, ◌∙◌, subst, append_assoc, append-nil, length-append, length-take-le, length-drop, take-take, take-add, get_or-drop, arith, ne_eqb, eqb-true, lt-ltb}
use Rattle.std.specs.Prelude.{◌||◌, codes, bytes_eq, nat_le, nat_lt}
use Rattle.std.specs.List.{All, list_all, slice_split, onto_first, slice_range}
use Rattle.std.specs.Str.{is_utf8, chars}
use Rattle.std.specs.Char.{encode_utf8}
use Rattle.std.proofs.lemmas.Bool.{false≢true}
use Rattle.std.proofs.lemmas.List.{take_more, take-append-le, get_or_append_left}
use Rattle.std.proofs.lemmas.List.Folds.{list_all-append}
use Rattle.std.proofs.lemmas.List.Splits.{slice_split_none, slice_split_at, slice_split-cons_yes, slice_split-cons_no}
use Rattle.std.proofs.lemmas.Str.{IsUtf8-append, IsUtf8-from_ascii, IsUtf8-from_is_utf8, is_utf8-from_IsUtf8, IsUtf8-take, IsCharBoundary-before_ascii}
use Rattle.std.proofs.str.Laws.{order}
use Rattle.kz_types.specs.PathRule.{parts, is_shown, is_part, has_path_form, BeginsPath}
use Rattle.kz_types.specs.Faults.{IsFaultPlace}
use Rattle.kz_types.specs.Places.{IsTextPlace, has_form, IsFormPlace}
use Rattle.kz_types.proofs.PathRules.{both_hold}
use Rattle.kz_types.proofs.TextPlaces.{shown_high}

abbrev is_slash : ℕ → Bool
is_slash b = b == 47

-- ---- tests

not_true : (b : Bool) → not b ≡ true → b ≡ false
not_true true h = sym h
not_true false h = refl

or_true : (a b : Bool) → b ≡ true → a || b ≡ true
or_true true b e = refl
or_true false b e = e

or_left : (a b : Bool) → a ≡ true → a || b ≡ true
or_left true b e = refl
or_left false b e = absurd (false≢true e)

and_false : (a : Bool) → a && false ≡ false
and_false true = refl
and_false false = refl

-- ---- parts

-- the bytes of all parts are shown exactly where each byte is shown or a slash
abbrev is_plain_or_slash : ℕ → Bool
is_plain_or_slash b = is_shown b || is_slash b

and_assoc : (a b c : Bool) → a && (b && c) ≡ (a && b) && c
and_assoc true b c = refl
and_assoc false b c = refl

onto_shown : (x : ℕ) (ps : List (List ℕ)) → list_all (list_all is_shown) (onto_first x ps) ≡ is_shown x && list_all (list_all is_shown) ps
onto_shown x [] = by (is_shown x)
  where
    by : (b : Bool) → (b && true) && true ≡ b && true
    by true = refl
    by false = refl
onto_shown x (p ∷ ps) = sym (and_assoc (is_shown x) (list_all is_shown p) (list_all (list_all is_shown) ps))

split_more : (x : ℕ) (l : List ℕ) (b : Bool) → is_slash x ≡ b → (list_all (list_all is_shown) (slice_split is_slash l) ≡ true → list_all is_plain_or_slash l ≡ true)
    → list_all (list_all is_shown) (slice_split is_slash (x ∷ l)) ≡ true → list_all is_plain_or_slash (x ∷ l) ≡ true
split_more x l true e rest h = λ i. or_true (is_shown x) (is_slash x) e i && rest (sym (ap (list_all (list_all is_shown)) (slice_split-cons_yes is_slash x l e)) ∙ h) i
split_more x l false e rest h =
    let parts = both_hold (is_shown x) (list_all (list_all is_shown) (slice_split is_slash l)) (sym (ap (list_all (list_all is_shown)) (slice_split-cons_no is_slash x l e) ∙ onto_shown x (slice_split is_slash l)) ∙ h) in
    λ i. or_left (is_shown x) (is_slash x) parts.0 i && rest parts.1 i

split_shown : (l : List ℕ) → list_all (list_all is_shown) (slice_split is_slash l) ≡ true → list_all is_plain_or_slash l ≡ true
split_shown [] h = refl
split_shown (x ∷ l) h = split_more x l (is_slash x) refl (split_shown l) h

-- parts of the rule are shown
part_shown : (p : List ℕ) → is_part p ≡ true → list_all is_shown p ≡ true
part_shown p h = (both_hold (nat_lt 0 (length p) && not (bytes_eq p (codes ".")) && not (bytes_eq p (codes ".."))) (list_all is_shown p) h).1

parts_shown : (ps : List (List ℕ)) → list_all is_part ps ≡ true → list_all (list_all is_shown) ps ≡ true
parts_shown [] h = refl
parts_shown (p ∷ ps) h = let parts = both_hold (is_part p) (list_all is_part ps) h in λ i. part_shown p parts.0 i && parts_shown ps parts.1 i

none_is_slash : (part : List ℕ) → list_all is_shown part ≡ true → All (λ b. is_slash b ≡ false) part
none_is_slash [] h k d lt = absurd (omega (arith, lt))
none_is_slash (b ∷ part) h zero d lt = not_true (is_slash b) (both_hold (nat_le 32 b && not (b == 127)) (not (is_slash b)) (both_hold (is_shown b) (list_all is_shown part) h).0).1
none_is_slash (b ∷ part) h (suc k) d lt = none_is_slash part (both_hold (is_shown b) (list_all is_shown part) h).1 k d (omega (arith, lt))

-- shown bytes and an `a` are a part
ends_with_a : (l : List ℕ) → list_all is_shown l ≡ true → is_part (l ++ 97 ∷ []) ≡ true
ends_with_a [] h = refl
ends_with_a (x ∷ []) h = by (is_shown x) (x == 46) (both_hold (is_shown x) true h).0
  where
    by : (b c : Bool) → b ≡ true → not (c && false) && not (c && false) && (b && true) ≡ true
    by b c e = (λ i. not (and_false c i) && not (and_false c i) && (e i && true))
ends_with_a (x ∷ y ∷ l) h = (λ i. (((lt-ltb 0 (length (x ∷ y ∷ (l ++ 97 ∷ []))) (omega arith) i) && not (and_false (x == 46) i)) && not (longer (x == 46) (y == 46) l i)) && shown i)
  where
    longer : (b c : Bool) (l : List ℕ) → b && (c && bytes_eq (l ++ 97 ∷ []) []) ≡ false
    longer b c [] = (λ i. b && and_false c i) ∙ and_false b
    longer b c (z ∷ l) = (λ i. b && and_false c i) ∙ and_false b

    shown : list_all is_shown (x ∷ y ∷ (l ++ 97 ∷ [])) ≡ true
    shown = list_all-append is_shown (x ∷ y ∷ l) (97 ∷ []) ∙ ap (λ b. b && true) h

-- ---- the form, part by part

-- The parts before these bytes are legal, and a slash ends the last of them.
abbrev pub IsDone : List ℕ → Type 0
IsDone before = (rest : List ℕ) → has_form (before ++ rest) ≡ list_all is_part (slice_split is_slash rest)

pub done_first : IsDone (47 ∷ [])
done_first rest = ap (λ ps. list_all is_part (drop 1 ps)) (slice_split-cons_yes is_slash 47 rest refl)

module _ (before part : List ℕ) (done : IsDone before) (shown : list_all is_shown part ≡ true) where
  with_byte : (b : ℕ) (rest : List ℕ) → has_form ((before ++ (part ++ b ∷ [])) ++ rest) ≡ list_all is_part (slice_split is_slash (part ++ b ∷ rest))
  with_byte b rest = ap has_form (append_assoc before (part ++ b ∷ []) rest ∙ ap (λ l. before ++ l) (append_assoc part (b ∷ []) rest)) ∙ done (part ++ b ∷ rest)

  with_slash : (rest : List ℕ) → has_form ((before ++ (part ++ 47 ∷ [])) ++ rest) ≡ is_part part && list_all is_part (slice_split is_slash rest)
  with_slash rest = with_byte 47 rest ∙ ap (list_all is_part) (slice_split_at is_slash part 47 rest (none_is_slash part shown) refl)

  -- a slash after a part
  pub done_next : is_part part ≡ true → IsDone (before ++ (part ++ 47 ∷ []))
  done_next legal rest = with_slash rest ∙ ap (λ b. b && list_all is_part (slice_split is_slash rest)) legal

  -- a slash after what is none
  pub no_slash : is_part part ≡ false → (rest : List ℕ) → has_form ((before ++ (part ++ 47 ∷ [])) ++ rest) ≡ true → ⊥
  no_slash illegal rest h = let wrong : false ≡ true = sym (with_slash rest ∙ ap (λ b. b && list_all is_part (slice_split is_slash rest)) illegal) ∙ h in false≢true wrong

  -- a byte that isn't shown
  pub not_shown : (b : ℕ) → is_shown b ≡ false → is_slash b ≡ false → (rest : List ℕ) → has_form ((before ++ (part ++ b ∷ [])) ++ rest) ≡ true → ⊥
  not_shown b hidden other rest h =
      let all : list_all is_plain_or_slash (part ++ b ∷ rest) ≡ true = split_shown (part ++ b ∷ rest) (parts_shown (slice_split is_slash (part ++ b ∷ rest)) (sym (with_byte b rest) ∙ h)) in
      let back : list_all is_plain_or_slash part && ((is_shown b || is_slash b) && list_all is_plain_or_slash rest) ≡ true = sym (list_all-append is_plain_or_slash part (b ∷ rest)) ∙ all in
      let this : (is_shown b || is_slash b) ≡ true = (both_hold (is_shown b || is_slash b) (list_all is_plain_or_slash rest) (both_hold (list_all is_plain_or_slash part) ((is_shown b || is_slash b) && list_all is_plain_or_slash rest) back).1).0 in
      let wrong : false ≡ true = sym (λ i. hidden i || other i) ∙ this in false≢true wrong

  -- shown bytes and an `a` complete a path
  pub goes_on : (more : List ℕ) → list_all is_shown more ≡ true → has_form ((before ++ part) ++ (more ++ 97 ∷ [])) ≡ true
  goes_on more fine =
      let all : list_all is_shown (part ++ more) ≡ true = list_all-append is_shown part more ∙ (λ i. shown i && fine i) in
      let last : list_all is_shown ((part ++ more) ++ 97 ∷ []) ≡ true = list_all-append is_shown (part ++ more) (97 ∷ []) ∙ ap (λ b. b && true) all in
      ap has_form (append_assoc before part (more ++ 97 ∷ []) ∙ ap (λ l. before ++ l) (sym (append_assoc part more (97 ∷ [])))) ∙ done ((part ++ more) ++ 97 ∷ [])
      ∙ ap (list_all is_part) (slice_split_none is_slash ((part ++ more) ++ 97 ∷ []) (none_is_slash ((part ++ more) ++ 97 ∷ []) last))
      ∙ ap (λ b. b && true) (ends_with_a (part ++ more) all)

-- ---- the bytes so far

module _ (bs : List ℕ) (start at : ℕ) (some : 1 ≤ start) (started : start ≤ at) (in_bs : at ≤ length bs) (done : IsDone (take start bs)) (shown : list_all is_shown (slice_range bs start at) ≡ true) where
  front : take at bs ≡ take start bs ++ slice_range bs start at
  front = let e : start + (at - start) ≡ at = omega arith in ap (λ n. take n bs) (sym e) ∙ take-add start (at - start) bs

  with_next : at < length bs → take (at + 1) bs ≡ take start bs ++ (slice_range bs start at ++ slice_index bs at ∷ [])
  with_next lt = take_more bs at 0 lt ∙ ap (λ l. l ++ slice_index bs at ∷ []) front ∙ append_assoc (take start bs) (slice_range bs start at) (slice_index bs at ∷ [])

  with_this : (b : ℕ) → at < length bs → slice_index bs at ≡ b → take (at + 1) bs ≡ take start bs ++ (slice_range bs start at ++ b ∷ [])
  with_this b lt e = with_next lt ∙ ap (λ x. take start bs ++ (slice_range bs start at ++ x ∷ [])) e

  place : ((rest : List ℕ) → at < length bs → has_form (take (at + 1) bs ++ rest) ≡ true → ⊥) → (at < length bs → slice_index bs at < 128) → IsFormPlace bs at
  place none ascii = record {
    within = in_bs;
    some = λ pos more fine. ap (λ l. has_form (l ++ (more ++ 97 ∷ []))) front ∙ goes_on (take start bs) (slice_range bs start at) done shown more fine;
    none = λ lt rest h. none rest lt h;
    ascii = λ pos lt. ascii lt;
  }

  pub at_end : at ≡ length bs → IsFormPlace bs at
  at_end e = place (λ rest lt h. omega (arith, e, lt)) (λ lt. absurd (omega (arith, e, lt)))

  pub at_slash : slice_index bs at ≡ 47 → is_part (slice_range bs start at) ≡ false → IsFormPlace bs at
  at_slash e illegal = place
      (λ rest lt h. no_slash (take start bs) (slice_range bs start at) done shown illegal rest (sym (ap (λ l. has_form (l ++ rest)) (with_this 47 lt e)) ∙ h))
      (λ lt. omega (arith, e))

  pub at_hidden : is_shown (slice_index bs at) ≡ false → (slice_index bs at ≡ 47 → ⊥) → IsFormPlace bs at
  at_hidden hidden other = place
      (λ rest lt h. not_shown (take start bs) (slice_range bs start at) done shown (slice_index bs at) hidden (ne_eqb (slice_index bs at) 47 other) rest (sym (ap (λ l. has_form (l ++ rest)) (with_next lt)) ∙ h))
      (λ lt. ⊎_elim (λ low. low) (λ high. absurd (false≢true (sym hidden ∙ shown_high (slice_index bs at) high))) (order (slice_index bs at) 128))

  pub next_part : at < length bs → slice_index bs at ≡ 47 → is_part (slice_range bs start at) ≡ true → IsDone (take (at + 1) bs)
  next_part lt e legal = subst IsDone (sym (with_this 47 lt e)) (done_next (take start bs) (slice_range bs start at) done shown legal)

  pub next_byte : at < length bs → is_shown (slice_index bs at) ≡ true → list_all is_shown (slice_range bs start (at + 1)) ≡ true
  next_byte lt fine =
      let inner : at - start < length (drop start bs) = omega (arith, lt, length-drop start bs) in
      let one : (at + 1) - start ≡ (at - start) + 1 = omega arith in
      let same : get_or (drop start bs) (at - start) 0 ≡ slice_index bs at = get_or-drop start bs (at - start) 0 ∙ ap (λ n. get_or bs n 0) (let e : start + (at - start) ≡ at = omega arith in e) in
      ap (λ n. list_all is_shown (take n (drop start bs))) one ∙ ap (list_all is_shown) (take_more (drop start bs) (at - start) 0 inner ∙ ap (λ b. slice_range bs start at ++ b ∷ []) same)
      ∙ list_all-append is_shown (slice_range bs start at) (slice_index bs at ∷ []) ∙ (λ i. shown i && (fine i && true))

-- no byte yet
pub nothing_yet : (bs : List ℕ) (at : ℕ) → list_all is_shown (slice_range bs at at) ≡ true
nothing_yet bs at = let e : at - at ≡ 0 = omega arith in ap (λ n. list_all is_shown (take n (drop at bs))) e

-- the first byte
pub first_place : (bs : List ℕ) → (0 < length bs → slice_index bs 0 ≡ 47 → ⊥) → IsFormPlace bs 0
first_place bs other = record {
  within = omega arith;
  some = λ pos. absurd (omega (arith, pos));
  none = λ lt rest h. by bs other lt rest h;
  ascii = λ pos. absurd (omega (arith, pos));
}
  where
    by : (bs : List ℕ) → (0 < length bs → slice_index bs 0 ≡ 47 → ⊥) → 0 < length bs → (rest : List ℕ) → has_form (take 1 bs ++ rest) ≡ true → ⊥
    by [] other lt rest h = omega (arith, lt)
    by (b ∷ bs) other lt rest h = other lt (eqb-true b 47 (both_hold (b == 47) (list_all is_part (parts (b ∷ rest))) h).0)

pub first_done : (bs : List ℕ) → 0 < length bs → slice_index bs 0 ≡ 47 → IsDone (take 1 bs)
first_done [] lt e = absurd (omega (arith, lt))
first_done (b ∷ bs) lt e = subst (λ x. IsDone (x ∷ [])) (sym e) done_first

-- ---- both

form_of : (bs : List ℕ) → has_path_form bs ≡ true → (is_utf8 bs ≡ true) × (has_form bs ≡ true)
unfolding has_path_form
form_of bs h =
    let outer = both_hold (is_utf8 bs && (slice_index bs 0 == 47)) (list_all is_part (parts bs)) h in
    let inner = both_hold (is_utf8 bs) (slice_index bs 0 == 47) outer.0 in
    (inner.0, λ i. inner.1 i && outer.1 i)

of_form : (bs : List ℕ) → IsUtf8 bs → has_form bs ≡ true → has_path_form bs ≡ true
unfolding has_path_form
of_form bs u h = let parts = both_hold (slice_index bs 0 == 47) (list_all is_part (parts bs)) h in λ i. (is_utf8-from_IsUtf8 bs u i && parts.0 i) && parts.1 i

letter : IsUtf8 (97 ∷ [])
letter = IsUtf8-from_ascii (97 ∷ []) (λ i. low i)
  where
    low : (i : ℕ) → slice_index (97 ∷ []) i < 128
    low zero = omega arith
    low (suc i) = omega arith

root_goes : BeginsPath []
unfolding has_path_form is_utf8 chars encode_utf8
root_goes = (codes "/a", refl)

module _ (bs : List ℕ) (text_end at : ℕ) (text : IsTextPlace bs text_end) (form : IsFormPlace (take text_end bs) at) where
  size : length (take text_end bs) ≡ text_end
  size = length-take-le text_end bs text.within

  within : at ≤ text_end
  within = omega (arith, form.within, size)

  shorter : (n : ℕ) → n ≤ text_end → take n (take text_end bs) ≡ take n bs
  shorter n le = take-take n text_end bs le

  -- where the text goes on after it
  goes : 0 < at → (more : List ℕ) → list_all is_shown more ≡ true → IsUtf8 (take at bs ++ more) → BeginsPath (take at bs)
  goes pos more fine u = (
    more ++ 97 ∷ [],
    of_form (take at bs ++ (more ++ 97 ∷ [])) (subst IsUtf8 (append_assoc (take at bs) more (97 ∷ [])) (IsUtf8-append (take at bs ++ more) (97 ∷ []) u letter))
        (ap (λ l. has_form (l ++ (more ++ 97 ∷ []))) (sym (shorter at within)) ∙ form.some pos more fine),
  )

  inner : 0 < at → at < text_end → IsUtf8 (take at bs ++ [])
  inner pos lt =
      let whole : List ℕ = take text_end bs ++ text.more in
      let there : at < length (take text_end bs) = omega (arith, lt, size) in
      let here : get_or whole at 0 < 128 = subst (λ b. b < 128) (sym (get_or_append_left (take text_end bs) text.more 0 at there)) (form.ascii pos there) in
      let cut : IsUtf8 (take at whole) = IsUtf8-take whole at text.text (IsCharBoundary-before_ascii whole at (omega (arith, lt, size, length-append (take text_end bs) text.more)) here) in
      subst IsUtf8 (take-append-le at (take text_end bs) text.more (omega (arith, lt, size)) ∙ shorter at within ∙ sym (append-nil (take at bs))) cut

  some : BeginsPath (take at bs)
  some = ⊎_elim (λ pos. ⊎_elim (λ lt. goes pos [] refl (inner pos lt))
      (λ le. let e : text_end ≡ at = omega (arith, le, within) in goes pos text.more text.shown (subst (λ n. IsUtf8 (take n bs ++ text.more)) e text.text))
      (order at text_end))
      (λ le. let e : 0 ≡ at = omega (arith, le) in subst (λ n. BeginsPath (take n bs)) e root_goes)
      (order 0 at)

  none : at < length bs → BeginsPath (take (at + 1) bs) → ⊥
  none lt g = let parts = form_of (take (at + 1) bs ++ g.0) g.1 in ⊎_elim
      (λ less. form.none (omega (arith, less, size)) g.0 (ap (λ l. has_form (l ++ g.0)) (shorter (at + 1) (omega (arith, less))) ∙ parts.1))
      (λ le. let e : at ≡ text_end = omega (arith, le, within) in
      text.none (omega (arith, lt, e)) g.0 (subst (λ n. IsUtf8 (take (n + 1) bs ++ g.0)) e (IsUtf8-from_is_utf8 (take (at + 1) bs ++ g.0) parts.0)))
      (order at text_end)

  pub both_places : IsFaultPlace BeginsPath bs at
  both_places = record { within = omega (arith, within, text.within); some = some; none = none }
