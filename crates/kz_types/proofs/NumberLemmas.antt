-- Lemmas on decimals.
use Rattle.std.proofs.Common.{◌≡◌, ℕ, ◌+◌, ◌*◌, ◌-◌, ◌^◌, ◌<◌, ◌≤◌, nat_le, Bool, true, false, ◌&&◌, List, [], ◌∷◌, length, drop, get_or, ◌∙◌, sym, ap, subst, refl, arith, inl, inr, Some, None, decimal}
use Rattle.std.specs.Prelude.{◌⊎◌, Option, if◌then◌else◌, bytes_eq}
use Rattle.std.specs.List.{list_all}
use Rattle.std.specs.Char.{digit_value}
use Rattle.std.specs.Str.Parse.{digits_value_after}
use Rattle.std.proofs.lemmas.Bool.{leb-true, le-leb, lt-leb, and_left, and_right, false≢true, cases_lt}
use Rattle.std.proofs.lemmas.Fmt.{decimal_is_IsNumeral, decimal-digits_value, digits_decimal, first_decimal, decimal_digit}
use Rattle.std.proofs.lemmas.Str.Parse.{numerals_by_value, IsDigitsTest}
use Rattle.std.proofs.lemmas.Str.{digit_value_digit}
use Rattle.std.proofs.lemmas.List.{drop_more, drop_all}
use Rattle.std.proofs.lemmas.Slice.Eq.{bytes_eq-Decides}
use Rattle.kz_types.specs.Numbers.{canonical, digits_up_to, is_digit, number_of}
use Rattle.kz_types.specs.declared.limits.TheConstants.{MAX_NUMBER}
use Rattle.kz_types.proofs.PathRules.{both_hold}

-- the test of digits is one
pub tells : IsDigitsTest (λ ds. list_all is_digit ds ≡ true)
tells = record {
  empty = refl;
  parts = λ c cs e. let k = both_hold (is_digit c) (list_all is_digit cs) e in let m = both_hold (nat_le 48 c) (nat_le c 57) k.0 in ((leb-true 48 c m.0, leb-true c 57 m.1), k.1);
  more = λ c cs k e i. (le-leb 48 c k.0 i && le-leb c 57 k.1 i) && e i;
}

-- what `==` of bytes says
pub bytes_eq-true : (a b : List ℕ) → bytes_eq a b ≡ true → a ≡ b
bytes_eq-true a b h = (bytes_eq-Decides a b).0 h

pub bytes_eq-same : (a b : List ℕ) → a ≡ b → bytes_eq a b ≡ true
bytes_eq-same a b e = (bytes_eq-Decides a b).1 e

some_if : (t : Bool) (m n : ℕ) → (if t then Some m else None) ≡ Some n → (t ≡ true) × (m ≡ n)
some_if true m n h = (refl, cc h)
some_if false m n h = cc h

-- a canonical decimal is the decimal text of its number
pub canonical_sound : (bs : List ℕ) (n : ℕ) → canonical bs ≡ Some n → (bs ≡ decimal n) × (n ≤ 2147483647) × (number_of bs ≡ n)
unfolding canonical
canonical_sound bs n h =
    let k = some_if (bytes_eq (decimal (number_of bs)) bs && nat_le (number_of bs) MAX_NUMBER) (number_of bs) n h in
    let m = both_hold (bytes_eq (decimal (number_of bs)) bs) (nat_le (number_of bs) MAX_NUMBER) k.0 in
    (sym (bytes_eq-true (decimal (number_of bs)) bs m.0) ∙ ap decimal k.1, omega (arith, leb-true (number_of bs) MAX_NUMBER m.1, k.1), k.1)

-- and each number of its range has one
pub canonical_complete : (n : ℕ) → n ≤ 2147483647 → canonical (decimal n) ≡ Some n
unfolding canonical
canonical_complete n le =
    let value : number_of (decimal n) ≡ n = (decimal_is_IsNumeral n (omega arith)).1 in
    (λ i. if bytes_eq (decimal (value i)) (decimal n) && nat_le (value i) MAX_NUMBER then Some (value i) else None)
    ∙ (λ i. if bytes_eq-same (decimal n) (decimal n) refl i && le-leb n MAX_NUMBER le i then Some n else None)

-- its bytes are digits
pub canonical_digits : (bs : List ℕ) (n : ℕ) → canonical bs ≡ Some n → (list_all is_digit bs ≡ true) × (0 < length bs) × (1 < length bs → get_or bs 0 0 ≡ 48 → ⊥)
canonical_digits bs n h = let k = canonical_sound bs n h in
    let small : n < 2 ^ 64 = omega (arith, k.1) in
    let some : 0 < length (decimal n) = (decimal_is_IsNumeral n small).0.0 in
    subst (λ ds. (list_all is_digit ds ≡ true) × (0 < length ds) × (1 < length ds → get_or ds 0 0 ≡ 48 → ⊥)) (sym k.0) (
      digits_decimal (numerals_by_value _ tells) n small,
      some,
      λ more zero. elim (cases_lt n 10) [
        | inl one ↦ omega (arith, ap length (decimal_digit n one))
        | inr many ↦ omega (arith, first_decimal n (omega arith) small)
      ],
    )

none_unless : (o : Option ℕ) → ((n : ℕ) → o ≡ Some n → ⊥) → o ≡ None
none_unless None h = refl
none_unless (Some n) h = absurd (h n refl)

-- no bytes are none
pub canonical_empty : (bs : List ℕ) → length bs < 1 → canonical bs ≡ None
canonical_empty bs l = none_unless (canonical bs) (λ n h. let k = canonical_digits bs n h in omega (arith, k.1))

-- nor is a zero before another digit
pub canonical_leading : (bs : List ℕ) → 1 < length bs → get_or bs 0 0 ≡ 48 → canonical bs ≡ None
canonical_leading bs l zero = none_unless (canonical bs) (λ n h. (canonical_digits bs n h).2 l zero)

-- other bytes are where they are digits of a number in range
pub canonical_of_digits : (bs : List ℕ) → 0 < length bs → (1 < length bs → get_or bs 0 0 ≡ 48 → ⊥) → canonical bs ≡ digits_up_to 2147483647 bs
unfolding canonical
canonical_of_digits bs some first = by (list_all is_digit bs) (nat_le (number_of bs) 2147483647) refl refl
  where
    by : (d t : Bool) → list_all is_digit bs ≡ d → nat_le (number_of bs) 2147483647 ≡ t → canonical bs ≡ digits_up_to 2147483647 bs
    by true true d t =
        let le : number_of bs ≤ 2147483647 = leb-true (number_of bs) 2147483647 t in
        let alone : get_or bs 0 0 ≡ 48 → length bs ≡ 1 = λ zero. elim (cases_lt 1 (length bs)) [ inl more ↦ absurd (first more zero) | inr one ↦ omega arith ] in
        let same : decimal (number_of bs) ≡ bs = decimal-digits_value (numerals_by_value _ tells) bs d some alone (omega arith) in
        (λ i. if bytes_eq-same (decimal (number_of bs)) bs same i && t i then Some (number_of bs) else None)
        ∙ sym (λ i. if d i && t i then Some (number_of bs) else None)
    by true false d t = none_unless (canonical bs) (λ n h. let k = canonical_sound bs n h in false≢true (sym t ∙ le-leb (number_of bs) 2147483647 (omega (arith, k.1, k.2)))) ∙ sym (λ i. if d i && t i then Some (number_of bs) else None)
    by false t d e = none_unless (canonical bs) (λ n h. let k = canonical_digits bs n h in false≢true (sym d ∙ k.0)) ∙ sym (λ i. if d i && nat_le (number_of bs) 2147483647 then Some (number_of bs) else None)

-- ---- the reader of digits

le_value_after : (n : ℕ) (ds : List ℕ) → n ≤ digits_value_after 10 n ds
le_value_after n [] = omega arith
le_value_after n (c ∷ cs) = omega (arith, le_value_after (n * 10 + digit_value c) cs)

-- what is left of the digits at a place, after a number
pub record AtPlace (text : List ℕ) (number at : ℕ) : Type 0 where
  pub digits : list_all is_digit text ≡ list_all is_digit (drop at text)
  pub value : number_of text ≡ digits_value_after 10 number (drop at text)

digit_true : (b : ℕ) → 48 ≤ b → b ≤ 57 → is_digit b ≡ true
digit_true b low high i = le-leb 48 b low i && le-leb b 57 high i

digit_false : (b : ℕ) → (b < 48) ⊎ (57 < b) → is_digit b ≡ false
digit_false b (inl low) = and_left (nat_le 48 b) (nat_le b 57) (lt-leb 48 b low)
digit_false b (inr high) = and_right (nat_le 48 b) (nat_le b 57) (lt-leb b 57 high)

-- a byte that is no digit
pub no_digit : (text : List ℕ) (most number at : ℕ) → AtPlace text number at → at < length text → (get_or text at 0 < 48) ⊎ (57 < get_or text at 0) → digits_up_to most text ≡ None
no_digit text most number at place lt other =
    let none : list_all is_digit text ≡ false = place.digits ∙ ap (list_all is_digit) (drop_more text at 0 lt) ∙ and_left (is_digit (get_or text at 0)) (list_all is_digit (drop (at + 1) text)) (digit_false (get_or text at 0) other) in
    λ i. if none i && nat_le (number_of text) most then Some (number_of text) else None

-- the next place
pub next_place : (text : List ℕ) (number at : ℕ) → AtPlace text number at → at < length text → 48 ≤ get_or text at 0 → get_or text at 0 ≤ 57
    → AtPlace text (number * 10 + (get_or text at 0 - 48)) (at + 1)
next_place text number at place lt low high =
    let worth : digit_value (get_or text at 0) ≡ get_or text at 0 - 48 = omega (arith, digit_value_digit (get_or text at 0) (low, high)) in
    record {
      digits = place.digits ∙ ap (list_all is_digit) (drop_more text at 0 lt) ∙ ap (λ b. b && list_all is_digit (drop (at + 1) text)) (digit_true (get_or text at 0) low high);
      value = place.value ∙ ap (digits_value_after 10 number) (drop_more text at 0 lt) ∙ ap (λ d. digits_value_after 10 (number * 10 + d) (drop (at + 1) text)) worth;
    }

-- a number above the most
pub too_large : (text : List ℕ) (most number at : ℕ) → AtPlace text number at → most < number → digits_up_to most text ≡ None
too_large text most number at place more =
    let large : nat_le (number_of text) most ≡ false = lt-leb (number_of text) most (omega (arith, place.value, le_value_after number (drop at text))) in
    let none : list_all is_digit text && nat_le (number_of text) most ≡ false = and_right (list_all is_digit text) (nat_le (number_of text) most) large in
    λ i. if none i then Some (number_of text) else None

-- all digits
pub all_digits : (text : List ℕ) (most number at : ℕ) → AtPlace text number at → length text ≤ at → number ≤ most → digits_up_to most text ≡ Some number
all_digits text most number at place end le =
    let nothing : drop at text ≡ [] = drop_all at text end in
    let digits : list_all is_digit text ≡ true = place.digits ∙ ap (list_all is_digit) nothing in
    let value : number_of text ≡ number = place.value ∙ ap (digits_value_after 10 number) nothing in
    (λ i. if digits i && nat_le (value i) most then Some (value i) else None) ∙ (λ i. if le-leb number most le i then Some number else None)
