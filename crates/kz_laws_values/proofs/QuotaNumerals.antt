-- Lemmas on the parts of a quota's text.
use Rattle.std.proofs.Common.{◌≡◌, ℕ, ◌+◌, Bool, true, false, cond, ◌&&◌, ◌==◌, nat_lt, List, [], ◌∷◌, length, ◌∙◌, sym, ap, subst, refl, arith, Ok, Err, length-drop, pos, neg_ℤ}
use Rattle.std.specs.Prelude.{if◌then◌else◌}
use Rattle.std.specs.List.{list_all, take_while, prefix_len}
use Rattle.std.proofs.lemmas.Bool.{eq-eqb, ne_eqb, lt-ltb}
use Rattle.std.proofs.lemmas.List.{take_all}
use Rattle.std.proofs.lemmas.List.Sums.{take_while-cons}
use Rattle.std.proofs.lemmas.List.Folds.{length-prefix_len}
use Rattle.kz_types.specs.Numbers.{is_digit, number_of}
use Rattle.kz_spec_data.specs.Quotas.{digits_at, after_digits, exponent_of, after_letter, after_whole, numeral_of}

-- each element of a front that passes does
pub take_while_passes : (p : ℕ → Bool) (xs : List ℕ) → list_all p (take_while p xs) ≡ true
take_while_passes p [] = refl
take_while_passes p (x ∷ xs) = ap (list_all p) (take_while-cons p x xs) ∙ by (p x) refl (take_while_passes p xs)
  where
    by : (t : Bool) → p x ≡ t → list_all p (take_while p xs) ≡ true → list_all p (cond t (x ∷ take_while p xs) []) ≡ true
    by true e rest = ap (λ b. b && list_all p (take_while p xs)) e ∙ rest
    by false e rest = refl

-- digits that nothing follows are the whole text
pub digits_are_all : (text : List ℕ) → length (after_digits text) ≡ 0 → digits_at text ≡ text
digits_are_all text none = take_all (prefix_len is_digit text) text (omega (arith, length-drop (length (digits_at text)) text, length-prefix_len is_digit text))

-- an exponent whose digits end the text
pub exponent_is : (whole decimals : List ℕ) (negative : Bool) (at : ℕ) (text : List ℕ) → (length text ≡ 0 → ⊥) → length (after_digits text) ≡ 0
    → exponent_of whole decimals (if negative then neg_ℤ else (λ z. z)) at text
    ≡ Ok (record { whole = whole; decimals = decimals; exponent = if negative then neg_ℤ (pos (number_of (digits_at text))) else pos (number_of (digits_at text)) })
exponent_is whole decimals negative at text some none = by negative
  where
    all : digits_at text ≡ text
    all = digits_are_all text none

    tests : nat_lt 0 (length (digits_at text)) && (length (digits_at text) == length text) ≡ true
    tests = (λ i. nat_lt 0 (length (all i)) && (length (all i) == length text)) ∙ (λ i. lt-ltb 0 (length text) (omega arith) i && eq-eqb (length text) (length text) refl i)

    by : (n : Bool) → exponent_of whole decimals (if n then neg_ℤ else (λ z. z)) at text
        ≡ Ok (record { whole = whole; decimals = decimals; exponent = if n then neg_ℤ (pos (number_of (digits_at text))) else pos (number_of (digits_at text)) })
    by true = (λ i. if tests i then Ok (record { whole = whole; decimals = decimals; exponent = neg_ℤ (pos (number_of text)) }) else Err (at + length (digits_at text)))
        ∙ (λ i. Ok (record { whole = whole; decimals = decimals; exponent = neg_ℤ (pos (number_of (sym all i))) }))
    by false = (λ i. if tests i then Ok (record { whole = whole; decimals = decimals; exponent = pos (number_of text) }) else Err (at + length (digits_at text)))
        ∙ (λ i. Ok (record { whole = whole; decimals = decimals; exponent = pos (number_of (sym all i)) }))

-- after an `E` without a sign
pub no_sign : (whole decimals : List ℕ) (at : ℕ) (text rest : List ℕ) (sign : ℕ) → text ≡ sign ∷ rest → (sign ≡ 43 → ⊥) → (sign ≡ 45 → ⊥)
    → after_letter whole decimals at text ≡ exponent_of whole decimals (λ z. z) at text
no_sign whole decimals at text rest sign e plus minus = subst (λ t. after_letter whole decimals at t ≡ exponent_of whole decimals (λ z. z) at t) (sym e) (
    (λ i. if ne_eqb sign 43 plus i then exponent_of whole decimals (λ z. z) (at + 1) rest
    else if ne_eqb sign 45 minus i then exponent_of whole decimals neg_ℤ (at + 1) rest else exponent_of whole decimals (λ z. z) at (sign ∷ rest)))

-- a text that begins with no digit
pub no_numeral : (text : List ℕ) → length (digits_at text) ≡ 0 → numeral_of text ≡ Err 0
unfolding numeral_of
no_numeral text none = λ i. if eq-eqb (length (digits_at text)) 0 none i then Err 0 else after_whole (digits_at text) (length (digits_at text)) (after_digits text)

-- a text that begins with digits
pub numeral_is : (text : List ℕ) → (length (digits_at text) ≡ 0 → ⊥)
    → numeral_of text ≡ after_whole (digits_at text) (length (digits_at text)) (after_digits text)
unfolding numeral_of
numeral_is text some = λ i. if ne_eqb (length (digits_at text)) 0 some i then Err 0 else after_whole (digits_at text) (length (digits_at text)) (after_digits text)

-- what follows the digits is read on
pub numeral_goes_on : (text whole after : List ℕ) (at count : ℕ) → whole ≡ digits_at text → after ≡ after_digits text → at ≡ length whole → count ≡ length whole → (count ≡ 0 → ⊥)
    → numeral_of text ≡ after_whole whole at after
numeral_goes_on text whole after at count w b a n some =
    numeral_is text (λ none. some (n ∙ ap length w ∙ none))
    ∙ (λ i. after_whole (sym w i) (length (sym w i)) (sym b i)) ∙ ap (λ k. after_whole whole k after) (sym a)
