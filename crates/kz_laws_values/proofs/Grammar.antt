-- What is read is a decimal, and what isn't read stops being the beginning of one at the place that is told.
use Rattle.std.proofs.Common.{◌≡◌, ℕ, ◌+◌, ◌<◌, ◌≤◌, ◌/◌, ◌%◌, Bool, true, false, cond, ◌&&◌, ◌==◌, nat_lt, nat_le, ◌⊎◌, inl, inr, List, [], ◌∷◌, ◌++◌, length, take, ◌∙◌, sym, ap, subst, refl, append_assoc, append-nil, length-append, arith, Result, Ok, Err, Some, None, ℤ, neg_ℤ, pos, eqb-true, ne_eqb, eq-eqb, lt-ltb, leb-true}
use Rattle.std.specs.Prelude.{◌||◌, if◌then◌else◌, Option, int_le}
use Rattle.std.specs.List.{list_all, prefix_len}
use Rattle.std.proofs.lemmas.Bool.{eqb-false}
use Rattle.std.proofs.lemmas.List.Folds.{list_all-append}
use Rattle.std.proofs.lemmas.List.{take_at}
use Rattle.kz_types.specs.Faults.{IsFaultPlace}
use Rattle.kz_types.specs.Numbers.{is_digit, number_of}
use Rattle.kz_types.specs.declared.limits.TheConstants.{MAX_LONG}
use Rattle.kz_types.specs.declared.row.QuotaValue.{QuotaValue}
use Rattle.kz_types.specs.declared.value_fault.QuotaFault.TheVariants.{NotNumber, TooLarge}
use Rattle.kz_types.proofs.PathRules.{both_hold}
use Rattle.kz_spec_data.specs.Quotas.{Numeral, digits_at, after_digits, exponent_of, after_letter, after_decimals, after_point, after_whole, numeral_of, digits_of, scale_of, in_millionths, quota_of_millionths, quota_of_numeral, quota_of}
use Rattle.kz_laws_values.specs.Grammar.{AreDigits, IsPoint, IsSign, IsExponent, IsDecimal, BeginsDecimal}
use Rattle.kz_laws_values.proofs.QuotaNumerals.{numeral_is, no_numeral}
use Rattle.kz_laws_values.proofs.QuotaTexts.{digits_front, after_front}

-- ---- digits and what follows them

record Split (text : List ℕ) : Type 0 where
  digits : List ℕ
  after : List ℕ
  parts : text ≡ digits ++ after
  are : list_all is_digit digits ≡ true
  none : prefix_len is_digit after ≡ 0

no_digit : (b : ℕ) (l : List ℕ) → is_digit b ≡ false → prefix_len is_digit (b ∷ l) ≡ 0
no_digit b l e = λ i. cond (e i) (1 + prefix_len is_digit l) 0

not_digit : (b : ℕ) (l : List ℕ) → prefix_len is_digit (b ∷ l) ≡ 0 → is_digit b ≡ false
not_digit b l h = by (is_digit b) refl
  where
    by : (t : Bool) → is_digit b ≡ t → t ≡ false
    by true e = let wrong : 1 + prefix_len is_digit l ≡ 0 = sym (λ i. cond (e i) (1 + prefix_len is_digit l) 0) ∙ h in absurd (omega (arith, wrong))
    by false e = refl

split_next : (b : ℕ) (l : List ℕ) (t : Bool) → is_digit b ≡ t → Split l → Split (b ∷ l)
split_next b l true e s = record { digits = b ∷ s.digits; after = s.after; parts = ap (λ m. b ∷ m) s.parts; are = (λ i. e i && s.are i); none = s.none }
split_next b l false e s = record { digits = []; after = b ∷ l; parts = refl; are = refl; none = no_digit b l e }

split_of : (text : List ℕ) → Split text
split_of [] = record { digits = []; after = []; parts = refl; are = refl; none = refl }
split_of (b ∷ l) = split_next b l (is_digit b) refl (split_of l)

zero_is_digit : AreDigits (48 ∷ [])
zero_is_digit = (refl, omega arith)

with_zero : (digits : List ℕ) → list_all is_digit digits ≡ true → AreDigits (digits ++ 48 ∷ [])
with_zero digits are = (list_all-append is_digit digits (48 ∷ []) ∙ (λ i. are i && true), omega (arith, length-append digits (48 ∷ [])))

-- ---- what is read

-- These bytes stop being the beginning of a decimal here: some decimal begins with what stands before, and none with the next byte.
pub record Fails (text : List ℕ) (place : ℕ) : Type 0 where
  pub before : List ℕ
  pub after : List ℕ
  pub parts : text ≡ before ++ after
  pub at : place ≡ length before
  pub more : List ℕ
  pub some : IsDecimal (before ++ more)
  pub none : (b : ℕ) (l rest : List ℕ) → after ≡ b ∷ l → numeral_of (before ++ b ∷ rest) ≡ Err place

abbrev pub Told : List ℕ → Result Numeral ℕ → Type 0
Told text (Ok n) = IsDecimal text
Told text (Err place) = Fails text place

-- ---- an exponent's digits

and_false : (b : Bool) → b && false ≡ false
and_false true = refl
and_false false = refl

exponent_all : (whole decimals : List ℕ) (sign : ℤ → ℤ) (at : ℕ) (digits : List ℕ) → AreDigits digits
    → exponent_of whole decimals sign at digits ≡ Ok (record { whole = whole; decimals = decimals; exponent = sign (pos (number_of digits)) })
exponent_all whole decimals sign at digits d =
    let all : digits_at digits ≡ digits = ap digits_at (sym (append-nil digits)) ∙ digits_front digits [] d.0 refl in
    let tests : nat_lt 0 (length (digits_at digits)) && (length (digits_at digits) == length digits) ≡ true =
    (λ i. nat_lt 0 (length (all i)) && (length (all i) == length digits)) ∙ (λ i. lt-ltb 0 (length digits) d.1 i && eq-eqb (length digits) (length digits) refl i) in
    (λ i. if tests i then Ok (record { whole = whole; decimals = decimals; exponent = sign (pos (number_of digits)) }) else Err (at + length (digits_at digits)))

exponent_stops : (whole decimals : List ℕ) (sign : ℤ → ℤ) (at : ℕ) (digits after : List ℕ) → list_all is_digit digits ≡ true → prefix_len is_digit after ≡ 0 → (length digits ≡ 0) ⊎ (0 < length after)
    → exponent_of whole decimals sign at (digits ++ after) ≡ Err (at + length digits)
exponent_stops whole decimals sign at digits after are none out =
    let all : digits_at (digits ++ after) ≡ digits = digits_front digits after are none in
    let tests : nat_lt 0 (length (digits_at (digits ++ after))) && (length (digits_at (digits ++ after)) == length (digits ++ after)) ≡ false =
    (λ i. nat_lt 0 (length (all i)) && (length (all i) == length (digits ++ after))) ∙ by out in
    (λ i. if tests i then Ok (record { whole = whole; decimals = decimals; exponent = sign (pos (number_of (digits ++ after))) }) else Err (at + length (digits_at (digits ++ after))))
    ∙ ap (λ d. Err (at + length d)) all
  where
    by : (length digits ≡ 0) ⊎ (0 < length after) → nat_lt 0 (length digits) && (length digits == length (digits ++ after)) ≡ false
    by (inl nothing) = (λ i. nat_lt 0 (nothing i) && (length digits == length (digits ++ after)))
    by (inr some) = (λ i. nat_lt 0 (length digits) && ne_eqb (length digits) (length (digits ++ after)) (λ e. omega (arith, some, e, length-append digits after)) i) ∙ and_false (nat_lt 0 (length digits))

-- What is known of the first byte of what is read.
record Starts (Fine : List ℕ → Type 0) : Type 0 where
  same : (b : ℕ) (l m : List ℕ) → Fine (b ∷ l) → Fine (b ∷ m)

-- any first byte
abbrev Any : List ℕ → Type 0
Any l = Unit {0}

-- no sign
abbrev Unsigned : List ℕ → Type 0
Unsigned [] = Unit {0}
Unsigned (b ∷ l) = (b ≡ 43 → ⊥) × (b ≡ 45 → ⊥)

any : Starts Any
any = record { same = λ b l m h. tt }

unsigned : Starts Unsigned
unsigned = record { same = λ b l m h. h }

starts_again : {Fine : List ℕ → Type 0} → Starts Fine → (ds : List ℕ) (b c : ℕ) (l m : List ℕ) → b ≡ c → Fine (ds ++ b ∷ l) → Fine (ds ++ c ∷ m)
starts_again {Fine} s [] b c l m e h = subst (λ x. Fine (x ∷ m)) e (s.same b l m h)
starts_again s (d ∷ ds) b c l m e h = s.same d (ds ++ b ∷ l) (ds ++ c ∷ m) h

module _ (whole decimals : List ℕ) where
  -- after a letter, and the sign where there is one
  module _ (before : List ℕ) (sign : ℤ → ℤ) (Fine : List ℕ → Type 0) (starts : Starts Fine)
      (reads : (b : ℕ) (rest : List ℕ) → Fine (b ∷ rest) → numeral_of (before ++ b ∷ rest) ≡ exponent_of whole decimals sign (length before) (b ∷ rest))
      (good : (digits : List ℕ) → AreDigits digits → IsDecimal (before ++ digits)) where
    reads_all : (ds : List ℕ) (c : ℕ) (rest : List ℕ) → Fine (ds ++ c ∷ rest) → numeral_of (before ++ (ds ++ c ∷ rest)) ≡ exponent_of whole decimals sign (length before) (ds ++ c ∷ rest)
    reads_all [] c rest h = reads c rest h
    reads_all (d ∷ ds) c rest h = reads d (ds ++ c ∷ rest) h

    exponent_digits : (digits after : List ℕ) → Fine (digits ++ after) → list_all is_digit digits ≡ true → prefix_len is_digit after ≡ 0 → Told (before ++ (digits ++ after)) (exponent_of whole decimals sign (length before) (digits ++ after))
    exponent_digits [] [] fine are none = subst (Told (before ++ [])) (sym (exponent_stops whole decimals sign (length before) [] [] refl refl (inl refl))) (record {
      before = before;
      after = [];
      parts = refl;
      at = omega arith;
      more = 48 ∷ [];
      some = good (48 ∷ []) zero_is_digit;
      none = λ b l rest e. absurd (cc);
    })
    exponent_digits (d ∷ ds) [] fine are none =
        let some : AreDigits (d ∷ ds) = (are, omega arith) in
        subst (λ l. Told (before ++ l) (exponent_of whole decimals sign (length before) l)) (sym (append-nil (d ∷ ds)))
        (subst (Told (before ++ (d ∷ ds))) (sym (exponent_all whole decimals sign (length before) (d ∷ ds) some)) (good (d ∷ ds) some))
    exponent_digits ds (b ∷ l) fine are none = subst (Told (before ++ (ds ++ b ∷ l))) (sym (exponent_stops whole decimals sign (length before) ds (b ∷ l) are none (inr (omega arith)))) (record {
      before = before ++ ds;
      after = b ∷ l;
      parts = sym (append_assoc before ds (b ∷ l));
      at = sym (length-append before ds);
      more = 48 ∷ [];
      some = subst IsDecimal (sym (append_assoc before ds (48 ∷ []))) (good (ds ++ 48 ∷ []) (with_zero ds are));
      none = λ c m rest e.
          let same : b ≡ c = cc in
          let not : prefix_len is_digit (c ∷ rest) ≡ 0 = no_digit c rest (ap is_digit (sym same) ∙ not_digit b l none) in
          ap numeral_of (append_assoc before ds (c ∷ rest)) ∙ reads_all ds c rest (starts_again starts ds b c l rest same fine)
          ∙ exponent_stops whole decimals sign (length before) ds (c ∷ rest) are not (inr (omega arith));
    })

    exponent_told : (rest : List ℕ) → Fine rest → Told (before ++ rest) (exponent_of whole decimals sign (length before) rest)
    exponent_told rest fine = let s = split_of rest in
        subst (λ l. Told (before ++ l) (exponent_of whole decimals sign (length before) l)) (sym s.parts) (exponent_digits s.digits s.after (subst Fine s.parts fine) s.are s.none)

  -- ---- after a letter

  abbrev letter_of : ℕ → List ℕ → Result Numeral ℕ
  letter_of at rest = after_letter whole decimals at rest

  letter_plus : (at : ℕ) (rest : List ℕ) → letter_of at (43 ∷ rest) ≡ exponent_of whole decimals (λ z. z) (at + 1) rest
  letter_plus at rest = refl

  letter_minus : (at : ℕ) (rest : List ℕ) → letter_of at (45 ∷ rest) ≡ exponent_of whole decimals neg_ℤ (at + 1) rest
  letter_minus at rest = refl

  letter_other : (at b : ℕ) (rest : List ℕ) → Unsigned (b ∷ rest) → letter_of at (b ∷ rest) ≡ exponent_of whole decimals (λ z. z) at (b ∷ rest)
  letter_other at b rest u = (λ i. if ne_eqb b 43 u.0 i then exponent_of whole decimals (λ z. z) (at + 1) rest
      else if ne_eqb b 45 u.1 i then exponent_of whole decimals neg_ℤ (at + 1) rest else exponent_of whole decimals (λ z. z) at (b ∷ rest))

  module _ (before : List ℕ) (reads : (rest : List ℕ) → numeral_of (before ++ rest) ≡ letter_of (length before) rest)
      (good : (sign digits : List ℕ) → IsSign sign → AreDigits digits → IsDecimal (before ++ (sign ++ digits))) where
    one_more : (b : ℕ) → length (before ++ b ∷ []) ≡ length before + 1
    one_more b = length-append before (b ∷ [])

    letter_signed : (b : ℕ) (sign : ℤ → ℤ) (rest : List ℕ) → IsSign (b ∷ []) → ((l : List ℕ) → letter_of (length before) (b ∷ l) ≡ exponent_of whole decimals sign (length before + 1) l)
        → Told (before ++ b ∷ rest) (letter_of (length before) (b ∷ rest))
    letter_signed b sign rest is next =
        subst (Told (before ++ b ∷ rest)) (ap (λ n. exponent_of whole decimals sign n rest) (one_more b) ∙ sym (next rest))
        (subst (λ l. Told l (exponent_of whole decimals sign (length (before ++ b ∷ [])) rest)) (append_assoc before (b ∷ []) rest)
        (exponent_told (before ++ b ∷ []) sign Any any
        (λ c l h. ap numeral_of (append_assoc before (b ∷ []) (c ∷ l)) ∙ reads (b ∷ c ∷ l) ∙ next (c ∷ l) ∙ ap (λ n. exponent_of whole decimals sign n (c ∷ l)) (sym (one_more b)))
        (λ digits d. subst IsDecimal (sym (append_assoc before (b ∷ []) digits)) (good (b ∷ []) digits is d)) rest tt))

    letter_told : (rest : List ℕ) → Told (before ++ rest) (letter_of (length before) rest)
    letter_told [] = record {
      before = before;
      after = [];
      parts = refl;
      at = refl;
      more = 48 ∷ [];
      some = good [] (48 ∷ []) (inl refl) zero_is_digit;
      none = λ b l rest e. absurd (cc);
    }
    letter_told (b ∷ rest) = by (b == 43) (b == 45) refl refl
      where
        by : (p m : Bool) → b == 43 ≡ p → b == 45 ≡ m → Told (before ++ b ∷ rest) (letter_of (length before) (b ∷ rest))
        by true m e f = let is : 43 ≡ b = sym (eqb-true b 43 e) in subst (λ c. Told (before ++ c ∷ rest) (letter_of (length before) (c ∷ rest))) is
            (letter_signed 43 (λ z. z) rest (inr (inl refl)) (letter_plus (length before)))
        by false true e f = let is : 45 ≡ b = sym (eqb-true b 45 f) in subst (λ c. Told (before ++ c ∷ rest) (letter_of (length before) (c ∷ rest))) is
            (letter_signed 45 neg_ℤ rest (inr (inr refl)) (letter_minus (length before)))
        by false false e f =
            let u : Unsigned (b ∷ rest) = (eqb-false b 43 e, eqb-false b 45 f) in
            subst (Told (before ++ b ∷ rest)) (sym (letter_other (length before) b rest u))
            (exponent_told before (λ z. z) Unsigned unsigned (λ c l h. reads (c ∷ l) ∙ letter_other (length before) c l h) (λ digits d. good [] digits (inl refl) d) (b ∷ rest) u)

-- ---- after the digits and decimals

abbrev is_letter : ℕ → Bool
is_letter b = b == 69 || (b == 101)

letter_is : (b : ℕ) → is_letter b ≡ true → (b ≡ 69) ⊎ (b ≡ 101)
letter_is b h = by (b == 69) refl h
  where
    by : (t : Bool) → b == 69 ≡ t → t || (b == 101) ≡ true → (b ≡ 69) ⊎ (b ≡ 101)
    by true e k = inl (eqb-true b 69 e)
    by false e k = inr (eqb-true b 101 k)

module _ (whole decimals : List ℕ) where
  decimals_letter : (at b : ℕ) (rest : List ℕ) → is_letter b ≡ true → after_decimals whole decimals at (b ∷ rest) ≡ after_letter whole decimals (at + 1) rest
  decimals_letter at b rest e = λ i. if e i then after_letter whole decimals (at + 1) rest else Err at

  decimals_other : (at b : ℕ) (rest : List ℕ) → is_letter b ≡ false → after_decimals whole decimals at (b ∷ rest) ≡ Err at
  decimals_other at b rest e = λ i. if e i then after_letter whole decimals (at + 1) rest else Err at

  decimals_told : (before : List ℕ) (b : ℕ) (rest : List ℕ) → ((l : List ℕ) → numeral_of (before ++ b ∷ l) ≡ after_decimals whole decimals (length before) (b ∷ l))
      → ((exponent : List ℕ) → IsExponent exponent → IsDecimal (before ++ exponent)) → Told (before ++ b ∷ rest) (after_decimals whole decimals (length before) (b ∷ rest))
  decimals_told before b rest reads good = by (is_letter b) refl
    where
      one_byte : length (before ++ b ∷ []) ≡ length before + 1
      one_byte = length-append before (b ∷ [])

      by : (t : Bool) → is_letter b ≡ t → Told (before ++ b ∷ rest) (after_decimals whole decimals (length before) (b ∷ rest))
      by true e =
          subst (Told (before ++ b ∷ rest)) (ap (λ n. after_letter whole decimals n rest) one_byte ∙ sym (decimals_letter (length before) b rest e))
          (subst (λ l. Told l (after_letter whole decimals (length (before ++ b ∷ [])) rest)) (append_assoc before (b ∷ []) rest)
          (letter_told whole decimals (before ++ b ∷ [])
          (λ l. ap numeral_of (append_assoc before (b ∷ []) l) ∙ reads l ∙ decimals_letter (length before) b l e ∙ ap (λ n. after_letter whole decimals n l) (sym one_byte))
          (λ sign digits is d. subst IsDecimal (sym (append_assoc before (b ∷ []) (sign ++ digits))) (good (b ∷ (sign ++ digits)) (inr (b, sign, digits, letter_is b e, is, d, refl)))) rest))
      by false e = subst (Told (before ++ b ∷ rest)) (sym (decimals_other (length before) b rest e)) (record {
        before = before;
        after = b ∷ rest;
        parts = refl;
        at = refl;
        more = [];
        some = good [] (inl refl);
        none = λ c m l same. let is : b ≡ c = cc in ap (λ x. numeral_of (before ++ x ∷ l)) (sym is) ∙ reads l ∙ decimals_other (length before) b l e;
      })

-- ---- after a point

point_none : (whole : List ℕ) (at : ℕ) (after : List ℕ) → prefix_len is_digit after ≡ 0 → after_point whole at after ≡ Err at
point_none whole at after none = let nothing : length (digits_at after) ≡ 0 = ap length (digits_front [] after refl none) in
    λ i. if eq-eqb (length (digits_at after)) 0 nothing i then Err at else after_decimals whole (digits_at after) (at + length (digits_at after)) (after_digits after)

point_some : (whole : List ℕ) (at : ℕ) (digits after : List ℕ) → AreDigits digits → prefix_len is_digit after ≡ 0 → after_point whole at (digits ++ after) ≡ after_decimals whole digits (at + length digits) after
point_some whole at digits after are none =
    let all = digits_front digits after are.0 none in
    let left = after_front digits after are.0 none in
    let some = are.1 in
    (λ i. if ne_eqb (length (digits_at (digits ++ after))) 0 (λ e. omega (arith, e, ap length all, some)) i then Err at
    else after_decimals whole (digits_at (digits ++ after)) (at + length (digits_at (digits ++ after))) (after_digits (digits ++ after)))
    ∙ (λ i. after_decimals whole (all i) (at + length (all i)) (left i))

module _ (whole before : List ℕ) (reads : (rest : List ℕ) → numeral_of (before ++ rest) ≡ after_point whole (length before) rest)
    (good : (digits exponent : List ℕ) → AreDigits digits → IsExponent exponent → IsDecimal (before ++ (digits ++ exponent))) where
  point_digits : (digits after : List ℕ) → list_all is_digit digits ≡ true → prefix_len is_digit after ≡ 0 → Told (before ++ (digits ++ after)) (after_point whole (length before) (digits ++ after))
  point_digits [] after are none = subst (Told (before ++ after)) (sym (point_none whole (length before) after none)) (record {
    before = before;
    after = after;
    parts = refl;
    at = refl;
    more = 48 ∷ [];
    some = good (48 ∷ []) [] zero_is_digit (inl refl);
    none = λ b l rest e.
        let not : is_digit b ≡ false = not_digit b l (ap (prefix_len is_digit) (sym e) ∙ none) in
        reads (b ∷ rest) ∙ point_none whole (length before) (b ∷ rest) (no_digit b rest not);
  })
  point_digits (d ∷ ds) [] are none =
      let some : AreDigits (d ∷ ds) = (are, omega arith) in
      subst (Told (before ++ ((d ∷ ds) ++ []))) (sym (point_some whole (length before) (d ∷ ds) [] some none)) (good (d ∷ ds) [] some (inl refl))
  point_digits (d ∷ ds) (b ∷ l) are none =
      let some : AreDigits (d ∷ ds) = (are, omega arith) in
      let not : is_digit b ≡ false = not_digit b l none in
      let size : length (before ++ d ∷ ds) ≡ length before + length (d ∷ ds) = length-append before (d ∷ ds) in
      subst (Told (before ++ ((d ∷ ds) ++ b ∷ l))) (ap (λ n. after_decimals whole (d ∷ ds) n (b ∷ l)) size ∙ sym (point_some whole (length before) (d ∷ ds) (b ∷ l) some none))
      (subst (λ t. Told t (after_decimals whole (d ∷ ds) (length (before ++ d ∷ ds)) (b ∷ l))) (append_assoc before (d ∷ ds) (b ∷ l))
      (decimals_told whole (d ∷ ds) (before ++ d ∷ ds) b l
      (λ m. ap numeral_of (append_assoc before (d ∷ ds) (b ∷ m)) ∙ reads ((d ∷ ds) ++ b ∷ m) ∙ point_some whole (length before) (d ∷ ds) (b ∷ m) some (no_digit b m not)
      ∙ ap (λ n. after_decimals whole (d ∷ ds) n (b ∷ m)) (sym size))
      (λ exponent is. subst IsDecimal (sym (append_assoc before (d ∷ ds) exponent)) (good (d ∷ ds) exponent some is))))

  point_told : (rest : List ℕ) → Told (before ++ rest) (after_point whole (length before) rest)
  point_told rest = let s = split_of rest in subst (λ l. Told (before ++ l) (after_point whole (length before) l)) (sym s.parts) (point_digits s.digits s.after s.are s.none)

-- ---- from the beginning

reads_whole : (whole after : List ℕ) → AreDigits whole → prefix_len is_digit after ≡ 0 → numeral_of (whole ++ after) ≡ after_whole whole (length whole) after
reads_whole whole after are none =
    let all = digits_front whole after are.0 none in
    let left = after_front whole after are.0 none in
    let some = are.1 in
    numeral_is (whole ++ after) (λ e. omega (arith, e, ap length all, some)) ∙ (λ i. after_whole (all i) (length (all i)) (left i))

whole_other : (whole : List ℕ) (at b : ℕ) (rest : List ℕ) → (b ≡ 46 → ⊥) → after_whole whole at (b ∷ rest) ≡ after_decimals whole [] at (b ∷ rest)
whole_other whole at b rest other = λ i. if ne_eqb b 46 other i then after_point whole (at + 1) rest else after_decimals whole [] at (b ∷ rest)

whole_digits : (whole after : List ℕ) → list_all is_digit whole ≡ true → prefix_len is_digit after ≡ 0 → Told (whole ++ after) (numeral_of (whole ++ after))
whole_digits [] after are none = subst (Told after) (sym (no_numeral after (ap length (digits_front [] after refl none)))) (record {
  before = [];
  after = after;
  parts = refl;
  at = refl;
  more = 48 ∷ [];
  some = (48 ∷ [], [], [], zero_is_digit, inl refl, inl refl, refl);
  none = λ b l rest e.
      let not : is_digit b ≡ false = not_digit b l (ap (prefix_len is_digit) (sym e) ∙ none) in
      no_numeral (b ∷ rest) (ap length (digits_front [] (b ∷ rest) refl (no_digit b rest not)));
})
whole_digits (d ∷ ds) [] are none =
    let some : AreDigits (d ∷ ds) = (are, omega arith) in
    subst (Told ((d ∷ ds) ++ [])) (sym (reads_whole (d ∷ ds) [] some none)) (d ∷ ds, [], [], some, inl refl, inl refl, refl)
whole_digits (d ∷ ds) (b ∷ l) are none = by (b == 46) refl
  where
    some : AreDigits (d ∷ ds)
    some = (are, omega arith)

    one_byte : length ((d ∷ ds) ++ 46 ∷ []) ≡ length (d ∷ ds) + 1
    one_byte = length-append (d ∷ ds) (46 ∷ [])

    by : (t : Bool) → b == 46 ≡ t → Told ((d ∷ ds) ++ b ∷ l) (numeral_of ((d ∷ ds) ++ b ∷ l))
    by true e = let is : 46 ≡ b = sym (eqb-true b 46 e) in subst (λ c. Told ((d ∷ ds) ++ c ∷ l) (numeral_of ((d ∷ ds) ++ c ∷ l))) is
        (subst (Told ((d ∷ ds) ++ 46 ∷ l)) (ap (λ n. after_point (d ∷ ds) n l) one_byte ∙ sym (reads_whole (d ∷ ds) (46 ∷ l) some refl))
        (subst (λ t. Told t (after_point (d ∷ ds) (length ((d ∷ ds) ++ 46 ∷ [])) l)) (append_assoc (d ∷ ds) (46 ∷ []) l)
        (point_told (d ∷ ds) ((d ∷ ds) ++ 46 ∷ [])
        (λ rest. ap numeral_of (append_assoc (d ∷ ds) (46 ∷ []) rest) ∙ reads_whole (d ∷ ds) (46 ∷ rest) some refl ∙ ap (λ n. after_point (d ∷ ds) n rest) (sym one_byte))
        (λ digits exponent fine is. (d ∷ ds, 46 ∷ digits, exponent, some, inr (digits, fine, refl), is, append_assoc (d ∷ ds) (46 ∷ []) (digits ++ exponent))) l)))
    by false e =
        let other : b ≡ 46 → ⊥ = eqb-false b 46 e in
        let not : is_digit b ≡ false = not_digit b l none in
        subst (Told ((d ∷ ds) ++ b ∷ l)) (sym (reads_whole (d ∷ ds) (b ∷ l) some none ∙ whole_other (d ∷ ds) (length (d ∷ ds)) b l other))
        (decimals_told (d ∷ ds) [] (d ∷ ds) b l
        (λ m. reads_whole (d ∷ ds) (b ∷ m) some (no_digit b m not) ∙ whole_other (d ∷ ds) (length (d ∷ ds)) b m other)
        (λ exponent is. (d ∷ ds, [], exponent, some, inl refl, is, refl)))

pub told : (text : List ℕ) → Told text (numeral_of text)
told text = let s = split_of text in subst (λ t. Told t (numeral_of t)) (sym s.parts) (whole_digits s.digits s.after s.are s.none)

-- ---- each decimal is read

abbrev IsRead : Result Numeral ℕ → Type 0
IsRead r = (n : Numeral) × (r ≡ Ok n)

read_as : {r s : Result Numeral ℕ} → r ≡ s → IsRead s → IsRead r
read_as e h = (h.0, e ∙ h.1)

letter_holds : (b : ℕ) → (b ≡ 69) ⊎ (b ≡ 101) → is_letter b ≡ true
letter_holds b (inl e) = ap (λ x. x == 69 || (x == 101)) e
letter_holds b (inr e) = ap (λ x. x == 69 || (x == 101)) e

digit_bounds : (b : ℕ) → is_digit b ≡ true → (48 ≤ b) × (b ≤ 57)
digit_bounds b h = let parts = both_hold (nat_le 48 b) (nat_le b 57) h in (leb-true 48 b parts.0, leb-true b 57 parts.1)

letter_no_digit : (b : ℕ) (l : List ℕ) → (b ≡ 69) ⊎ (b ≡ 101) → prefix_len is_digit (b ∷ l) ≡ 0
letter_no_digit b l (inl e) = ap (λ x. prefix_len is_digit (x ∷ l)) e
letter_no_digit b l (inr e) = ap (λ x. prefix_len is_digit (x ∷ l)) e

exponent_no_digit : (exponent : List ℕ) → IsExponent exponent → prefix_len is_digit exponent ≡ 0
exponent_no_digit exponent (inl e) = ap (prefix_len is_digit) e
exponent_no_digit exponent (inr x) = ap (prefix_len is_digit) x.6 ∙ letter_no_digit x.0 (x.1 ++ x.2) x.3

module _ (whole decimals : List ℕ) (at : ℕ) where
  digits_read : (digits : List ℕ) → AreDigits digits → IsRead (after_letter whole decimals at digits)
  digits_read [] d = absurd (let some = d.1 in omega (arith, some))
  digits_read (b ∷ l) d =
      let range = digit_bounds b (both_hold (is_digit b) (list_all is_digit l) d.0).0 in
      read_as (letter_other whole decimals at b l (λ e. omega (arith, e, range.0), λ e. omega (arith, e, range.0)) ∙ exponent_all whole decimals (λ z. z) at (b ∷ l) d) (_, refl)

  signed_read : (sign digits : List ℕ) → IsSign sign → AreDigits digits → IsRead (after_letter whole decimals at (sign ++ digits))
  signed_read sign digits (inl e) d = read_as (ap (λ s. after_letter whole decimals at (s ++ digits)) e) (digits_read digits d)
  signed_read sign digits (inr (inl e)) d = read_as (ap (λ s. after_letter whole decimals at (s ++ digits)) e ∙ exponent_all whole decimals (λ z. z) (at + 1) digits d) (_, refl)
  signed_read sign digits (inr (inr e)) d = read_as (ap (λ s. after_letter whole decimals at (s ++ digits)) e ∙ exponent_all whole decimals neg_ℤ (at + 1) digits d) (_, refl)

exponent_read : (whole decimals : List ℕ) (at : ℕ) (exponent : List ℕ) → IsExponent exponent → IsRead (after_decimals whole decimals at exponent)
exponent_read whole decimals at exponent (inl e) = read_as (ap (after_decimals whole decimals at) e) (_, refl)
exponent_read whole decimals at exponent (inr x) =
    read_as (ap (after_decimals whole decimals at) x.6 ∙ decimals_letter whole decimals at x.0 (x.1 ++ x.2) (letter_holds x.0 x.3)) (signed_read whole decimals (at + 1) x.1 x.2 x.4 x.5)

without_point : (whole : List ℕ) (at : ℕ) (exponent : List ℕ) → IsExponent exponent → after_whole whole at exponent ≡ after_decimals whole [] at exponent
without_point whole at exponent (inl e) = subst (λ l. after_whole whole at l ≡ after_decimals whole [] at l) (sym e) refl
without_point whole at exponent (inr x) = subst (λ l. after_whole whole at l ≡ after_decimals whole [] at l) (sym x.6) (whole_other whole at x.0 (x.1 ++ x.2) (not_point x.3))
  where
    not_point : (x.0 ≡ 69) ⊎ (x.0 ≡ 101) → x.0 ≡ 46 → ⊥
    not_point (inl e) f = omega (arith, e, f)
    not_point (inr e) f = omega (arith, e, f)

point_read : (whole : List ℕ) → AreDigits whole → (point exponent : List ℕ) → IsPoint point → IsExponent exponent → IsRead (numeral_of (whole ++ (point ++ exponent)))
point_read whole d point exponent (inl e) is =
    read_as (ap (λ l. numeral_of (whole ++ (l ++ exponent))) e ∙ reads_whole whole exponent d (exponent_no_digit exponent is) ∙ without_point whole (length whole) exponent is)
    (exponent_read whole [] (length whole) exponent is)
point_read whole d point exponent (inr x) is =
    read_as (ap (λ l. numeral_of (whole ++ (l ++ exponent))) x.2 ∙ reads_whole whole (46 ∷ (x.0 ++ exponent)) d refl ∙ point_some whole (length whole + 1) x.0 exponent x.1 (exponent_no_digit exponent is))
    (exponent_read whole x.0 (length whole + 1 + length x.0) exponent is)

pub is_read : (text : List ℕ) → IsDecimal text → (n : Numeral) × (numeral_of text ≡ Ok n)
is_read text d = read_as (ap numeral_of d.6) (point_read d.0 d.3 d.1 d.2 d.4 d.5)

-- ---- the laws

pub is_decimal : (text : List ℕ) (n : Numeral) → numeral_of text ≡ Ok n → IsDecimal text
is_decimal text n e = subst (Told text) e (told text)

never : {at : ℕ} (n : Numeral) → Err at ≡ Ok n → ⊥
never n e = cc

fault_of : (text : List ℕ) (at : ℕ) → Fails text at → IsFaultPlace BeginsDecimal text at
fault_of text at f =
    let long : length text ≡ at + length f.after = omega (arith, ap length f.parts, length-append f.before f.after, f.at) in
    let front : take at text ≡ f.before = ap (take at) f.parts ∙ take_at f.before f.after at (sym f.at) in
    record {
      within = omega (arith, long);
      some = (f.more, subst (λ l. IsDecimal (l ++ f.more)) (sym front) f.some);
      none = λ lt g. by f.after refl lt g;
    }
  where
    by : (after : List ℕ) → f.after ≡ after → at < length text → BeginsDecimal (take (at + 1) text) → ⊥
    by [] e lt g = omega (arith, lt, ap length f.parts, length-append f.before f.after, f.at, ap length e)
    by (b ∷ l) e lt g =
        let all : text ≡ (f.before ++ b ∷ []) ++ l = f.parts ∙ ap (λ m. f.before ++ m) e ∙ sym (append_assoc f.before (b ∷ []) l) in
        let size : length (f.before ++ b ∷ []) ≡ at + 1 = omega (arith, length-append f.before (b ∷ []), f.at) in
        let front : take (at + 1) text ++ g.0 ≡ f.before ++ b ∷ g.0 = ap (λ m. m ++ g.0) (ap (take (at + 1)) all ∙ take_at (f.before ++ b ∷ []) l (at + 1) size) ∙ append_assoc f.before (b ∷ []) g.0 in
        let read = is_read (take (at + 1) text ++ g.0) g.1 in
        never read.0 (sym (f.none b l g.0 e) ∙ ap numeral_of (sym front) ∙ read.1)

-- a number of millionths is no such fault
never_either : (t : Bool) (q : QuotaValue) (at : ℕ) → cond t (Ok q) (Err TooLarge) ≡ Err (NotNumber at) → ⊥
never_either true q at h = cc
never_either false q at h = cc

never_millionths : (o : Option ℕ) (at : ℕ) → quota_of_millionths o ≡ Err (NotNumber at) → ⊥
never_millionths None at h = cc
never_millionths (Some m) at h = never_either (int_le (pos (m / 1000000)) MAX_LONG) (record { whole = pos (m / 1000000); micros = pos (m % 1000000) }) at h

pub place_of_fault : (text : List ℕ) (at : ℕ) → quota_of text ≡ Err (NotNumber at) → IsFaultPlace BeginsDecimal text at
unfolding quota_of
place_of_fault text at e = by (numeral_of text) refl e
  where
    by : (r : Result Numeral ℕ) → numeral_of text ≡ r → quota_of_numeral r ≡ Err (NotNumber at) → IsFaultPlace BeginsDecimal text at
    by (Err place) is h = let same : place ≡ at = cc in subst (IsFaultPlace BeginsDecimal text) same (fault_of text place (subst (Told text) is (told text)))
    by (Ok n) is h = absurd (never_millionths (in_millionths (digits_of n) (scale_of n)) at h)
