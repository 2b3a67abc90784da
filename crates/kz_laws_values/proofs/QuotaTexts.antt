-- The text that is written for a quota is read as that quota.
use Rattle.std.proofs.Common.{◌≡◌, ℕ, zero, suc, ◌+◌, ◌-◌, ◌*◌, ◌/◌, ◌%◌, ◌^◌, ◌<◌, ◌≤◌, Bool, true, false, cond, ◌&&◌, ◌==◌, List, [], ◌∷◌, ◌++◌, length, take, drop, ◌∙◌, sym, ap, refl, arith, inl, inr, Ok, Some, length-append, nat_le, ℤ, pos, negsuc, ◌≤ℤ◌, ◌+ℤ◌, ◌-ℤ◌, decimal}
use Rattle.std.specs.Prelude.{int_le, nat_abs, if◌then◌else◌, Err}
use Rattle.std.specs.List.{list_all, prefix_len}
use Rattle.std.specs.Str.{IsAscii, IsUtf8, is_utf8}
use Rattle.std.specs.Char.{digit_value}
use Rattle.std.specs.Str.Parse.{digits_value_after}
use Rattle.std.proofs.Math.Seq.{take-append_seam, drop-append_seam}
use Rattle.std.proofs.Math.Nat.{pow-suc}
use Rattle.std.proofs.lemmas.Bool.{eqb-true, eqb-false, ne_eqb, le-leb, leb-true, false≢true, cases_lt}
use Rattle.std.proofs.lemmas.Int.{ints}
use Rattle.std.proofs.lemmas.Fmt.{digits_decimal, decimal_is_IsNumeral}
use Rattle.std.proofs.lemmas.List.{append-nil, get_or_past, take-append-drop}
use Rattle.std.proofs.lemmas.List.Folds.{list_all-append}
use Rattle.std.proofs.lemmas.Str.{digit_value_digit, IsUtf8-from_ascii, IsAscii-append, is_utf8-from_IsUtf8}
use Rattle.std.proofs.lemmas.Str.Parse.{digit_at, numerals_by_value}
use Rattle.kz_types.specs.Numbers.{is_digit, number_of}
use Rattle.kz_spec_data.specs.Quotas.{digits_at, after_digits, after_decimals, after_point, after_whole, numeral_of, in_millionths, quota_of_millionths, quota_of_numeral, quota_of, last_digits, onto_digits, without_end_zeros, decimals_text, quota_text}
use Rattle.kz_types.specs.Quotas.{is_quota}
use Rattle.kz_types.specs.declared.row.QuotaValue.{QuotaValue}
use Rattle.kz_types.specs.declared.value_fault.QuotaFault.TheVariants.{TooLarge}
use Rattle.kz_types.proofs.PathRules.{both_hold}
use Rattle.kz_types.proofs.NumberLemmas.{tells}
use Rattle.kz_laws_values.proofs.QuotaNumerals.{numeral_goes_on}
use Rattle.kz_laws_values.proofs.QuotaScales.{value_after, in_parts}

-- ---- digits before something else

all_pass : (ds rest : List ℕ) → list_all is_digit ds ≡ true → prefix_len is_digit rest ≡ 0 → prefix_len is_digit (ds ++ rest) ≡ length ds
all_pass [] rest are none = none
all_pass (d ∷ ds) rest are none =
    let both = both_hold (is_digit d) (list_all is_digit ds) are in
    (λ i. cond (both.0 i) (1 + prefix_len is_digit (ds ++ rest)) 0) ∙ omega (arith, all_pass ds rest both.1 none)

pub digits_front : (ds rest : List ℕ) → list_all is_digit ds ≡ true → prefix_len is_digit rest ≡ 0 → digits_at (ds ++ rest) ≡ ds
digits_front ds rest are none = ap (λ n. take n (ds ++ rest)) (all_pass ds rest are none) ∙ take-append_seam ds rest

pub after_front : (ds rest : List ℕ) → list_all is_digit ds ≡ true → prefix_len is_digit rest ≡ 0 → after_digits (ds ++ rest) ≡ rest
after_front ds rest are none = ap (λ l. drop (length l) (ds ++ rest)) (digits_front ds rest are none) ∙ drop-append_seam ds rest

-- the first of digits
pub first_are_digits : (ds : List ℕ) (count : ℕ) → list_all is_digit ds ≡ true → list_all is_digit (take count ds) ≡ true
first_are_digits ds count are =
    (both_hold (list_all is_digit (take count ds)) (list_all is_digit (drop count ds))
    (sym (list_all-append is_digit (take count ds) (drop count ds)) ∙ ap (list_all is_digit) (take-append-drop count ds) ∙ are)).0

-- digits are a text
digits_are_ascii : (ds : List ℕ) → list_all is_digit ds ≡ true → IsAscii ds
digits_are_ascii ds are i = elim (cases_lt i (length ds)) [
  | inl lt ↦ let range = digit_at ds i ((numerals_by_value _ tells).to ds are) lt in omega (arith, range.1)
  | inr ge ↦ omega (arith, get_or_past ds i 0 ge)
]

pub digits_are_text : (ds : List ℕ) → list_all is_digit ds ≡ true → IsUtf8 ds
digits_are_text ds are = IsUtf8-from_ascii ds (digits_are_ascii ds are)

-- ---- the decimals

digit_of : (n : ℕ) → is_digit (48 + n % 10) ≡ true
digit_of n i = le-leb 48 (48 + n % 10) (omega arith) i && le-leb (48 + n % 10) 57 (omega arith) i

pub last_are_digits : (count n : ℕ) → list_all is_digit (last_digits count n) ≡ true
last_are_digits zero n = refl
last_are_digits (suc count) n =
    list_all-append is_digit (last_digits count (n / 10)) ((48 + n % 10) ∷ [])
    ∙ (λ i. last_are_digits count (n / 10) i && (digit_of n i && true))

length-last_digits : (count n : ℕ) → length (last_digits count n) ≡ count
length-last_digits zero n = refl
length-last_digits (suc count) n = omega (arith, length-append (last_digits count (n / 10)) ((48 + n % 10) ∷ []), length-last_digits count (n / 10))

onto_are_digits : (d : ℕ) (ds : List ℕ) → is_digit d ≡ true → list_all is_digit ds ≡ true → list_all is_digit (onto_digits d ds) ≡ true
onto_are_digits d [] one are = by (d == 48)
  where
    by : (t : Bool) → list_all is_digit (if t then [] else d ∷ []) ≡ true
    by true = refl
    by false = λ i. one i && true
onto_are_digits d (e ∷ es) one are = λ i. one i && are i

ends_are_digits : (ds : List ℕ) → list_all is_digit ds ≡ true → list_all is_digit (without_end_zeros ds) ≡ true
ends_are_digits [] are = refl
ends_are_digits (d ∷ ds) are =
    let both = both_hold (is_digit d) (list_all is_digit ds) are in
    onto_are_digits d (without_end_zeros ds) both.0 (ends_are_digits ds both.1)

onto_shorter : (d : ℕ) (ds : List ℕ) → length (onto_digits d ds) ≤ suc (length ds)
onto_shorter d [] = by (d == 48)
  where
    by : (t : Bool) → length (if t then [] else d ∷ []) ≤ 1
    by true = omega arith
    by false = omega arith
onto_shorter d (e ∷ es) = omega arith

ends_shorter : (ds : List ℕ) → length (without_end_zeros ds) ≤ length ds
ends_shorter [] = omega arith
ends_shorter (d ∷ ds) = omega (arith, onto_shorter d (without_end_zeros ds), ends_shorter ds)

nothing : (ds : List ℕ) → length ds ≡ 0 → number_of ds ≡ 0
nothing [] none = refl
nothing (d ∷ ds) none = absurd (omega (arith, none))

after_append : (n : ℕ) (xs ys : List ℕ) → digits_value_after 10 n (xs ++ ys) ≡ digits_value_after 10 (digits_value_after 10 n xs) ys
after_append n [] ys = refl
after_append n (x ∷ xs) ys = after_append (n * 10 + digit_value x) xs ys

last_value : (whole count n : ℕ) → n < 10 ^ count → digits_value_after 10 whole (last_digits count n) ≡ whole * 10 ^ count + n
last_value whole zero n lt = omega (arith, lt)
last_value whole (suc count) n lt =
    let power : 10 ^ suc count ≡ 10 ^ count * 10 = pow-suc 10 count in
    let less : n / 10 < 10 ^ count = omega (arith, power, lt) in
    let worth : digit_value (48 + n % 10) ≡ n % 10 = omega (arith, digit_value_digit (48 + n % 10) (omega arith, omega arith)) in
    let front : digits_value_after 10 whole (last_digits count (n / 10)) ≡ whole * 10 ^ count + n / 10 = last_value whole count (n / 10) less in
    let raised : whole * 10 ^ count * 10 ^ 1 ≡ whole * 10 ^ suc count = in_parts whole count 1 (suc count) (omega arith) in
    after_append whole (last_digits count (n / 10)) ((48 + n % 10) ∷ []) ∙ (λ i. front i * 10 + worth i) ∙ omega (arith, raised)

-- ---- the numeral

decimal_digits : (whole : ℕ) → whole < 2 ^ 64 → list_all is_digit (decimal whole) ≡ true
decimal_digits whole small = digits_decimal (numerals_by_value _ tells) whole small

decimal_some : (whole : ℕ) → whole < 2 ^ 64 → length (decimal whole) ≡ 0 → ⊥
decimal_some whole small none = let some : 0 < length (decimal whole) = (decimal_is_IsNumeral whole small).0.0 in omega (arith, none, some)

decimal_value : (whole : ℕ) → whole < 2 ^ 64 → number_of (decimal whole) ≡ whole
decimal_value whole small = (decimal_is_IsNumeral whole small).1

-- what follows a whole part is read on
goes_on : (whole : ℕ) (rest : List ℕ) → whole < 2 ^ 64 → prefix_len is_digit rest ≡ 0
    → numeral_of (decimal whole ++ rest) ≡ after_whole (decimal whole) (length (decimal whole)) rest
goes_on whole rest small none =
    numeral_goes_on (decimal whole ++ rest) (decimal whole) rest (length (decimal whole)) (length (decimal whole))
    (sym (digits_front (decimal whole) rest (decimal_digits whole small) none)) (sym (after_front (decimal whole) rest (decimal_digits whole small) none)) refl refl
    (decimal_some whole small)

-- digits to the end are decimals
all_decimals : (whole decimals : List ℕ) (at : ℕ) → list_all is_digit decimals ≡ true → (length decimals ≡ 0 → ⊥)
    → after_point whole at decimals ≡ Ok (record { whole = whole; decimals = decimals; exponent = pos 0 })
all_decimals whole decimals at are some =
    let front : digits_at decimals ≡ decimals = ap digits_at (sym (append-nil decimals)) ∙ digits_front decimals [] are refl in
    let after : after_digits decimals ≡ [] = ap after_digits (sym (append-nil decimals)) ∙ after_front decimals [] are refl in
    (λ i. if length (front i) == 0 then Err at else after_decimals whole (front i) (at + length (front i)) (after i))
    ∙ (λ i. if ne_eqb (length decimals) 0 some i then Err at else Ok (record { whole = whole; decimals = decimals; exponent = pos 0 }))

-- ---- the quota

of_millionths : (whole micros : ℕ) → whole ≤ 9223372036854775807 → micros ≤ 999999
    → quota_of_millionths (Some (whole * 10 ^ 6 + micros)) ≡ Ok (record { whole = pos whole; micros = pos micros })
of_millionths whole micros fits few =
    let quotient : (whole * 1000000 + micros) / 1000000 ≡ whole = omega arith in
    let rest : (whole * 1000000 + micros) % 1000000 ≡ micros = omega arith in
    (λ i. if nat_le (quotient i) 9223372036854775807 then Ok (record { whole = pos (quotient i); micros = pos (rest i) }) else Err TooLarge)
    ∙ (λ i. if le-leb whole 9223372036854775807 fits i then Ok (record { whole = pos whole; micros = pos micros }) else Err TooLarge)

-- a whole part alone
whole_restored : (whole : ℕ) → whole ≤ 9223372036854775807 → quota_of (decimal whole ++ []) ≡ Ok (record { whole = pos whole; micros = pos 0 })
unfolding quota_of
whole_restored whole fits =
    let small : whole < 2 ^ 64 = omega arith in
    let value : number_of (decimal whole ++ []) ≡ whole = ap number_of (append-nil (decimal whole)) ∙ decimal_value whole small in
    ap quota_of_numeral (goes_on whole [] small refl) ∙ (λ i. quota_of_millionths (Some (value i * 10 ^ 6)))
    ∙ ap (λ n. quota_of_millionths (Some n)) (omega arith) ∙ of_millionths whole 0 fits (omega arith)

-- and with decimals
pointed_restored : (whole micros : ℕ) (all : List ℕ) → whole ≤ 9223372036854775807 → micros ≤ 999999 → (micros ≡ 0 → ⊥) → list_all is_digit all ≡ true → length all ≡ 6
    → digits_value_after 10 whole all ≡ whole * 10 ^ 6 + micros → digits_value_after 10 0 all ≡ micros
    → quota_of (decimal whole ++ 46 ∷ without_end_zeros all) ≡ Ok (record { whole = pos whole; micros = pos micros })
unfolding quota_of
pointed_restored whole micros all fits few some are six worth alone =
    let small : whole < 2 ^ 64 = omega arith in
    let decimals : List ℕ = without_end_zeros all in
    let count : ℕ = 6 - length decimals in
    let short : length decimals ≤ 6 = omega (arith, ends_shorter all, six) in
    let left : length decimals + count ≡ length all = omega (arith, short, six) in
    let not_none : length decimals ≡ 0 → ⊥ = λ none. some (sym alone ∙ value_after 0 all count left ∙ ap (λ n. n * 10 ^ count) (nothing decimals none) ∙ omega arith) in
    let scale : (pos 0 +ℤ pos 6) -ℤ pos (length decimals) ≡ pos count = omega (arith, ints, short) in
    let number : number_of (decimal whole ++ decimals) ≡ digits_value_after 10 whole decimals =
    after_append 0 (decimal whole) decimals ∙ ap (λ n. digits_value_after 10 n decimals) (decimal_value whole small) in
    ap quota_of_numeral (goes_on whole (46 ∷ decimals) small refl ∙ all_decimals (decimal whole) decimals (length (decimal whole) + 1) (ends_are_digits all are) not_none)
    ∙ (λ i. quota_of_millionths (in_millionths (number i) (scale i)))
    ∙ ap (λ n. quota_of_millionths (Some n)) (sym (value_after whole all count left) ∙ worth) ∙ of_millionths whole micros fits few

pub natural_restored : (whole micros : ℕ) → whole ≤ 9223372036854775807 → micros ≤ 999999
    → quota_of (decimal whole ++ decimals_text micros) ≡ Ok (record { whole = pos whole; micros = pos micros })
natural_restored whole micros fits few = by (micros == 0) refl
  where
    by : (t : Bool) → (micros == 0) ≡ t → quota_of (decimal whole ++ (if t then [] else 46 ∷ without_end_zeros (last_digits 6 micros))) ≡ Ok (record { whole = pos whole; micros = pos micros })
    by true none = whole_restored whole fits ∙ ap (λ m. Ok (record { whole = pos whole; micros = pos m })) (sym (eqb-true micros 0 none))
    by false some = pointed_restored whole micros (last_digits 6 micros) fits few (eqb-false micros 0 some) (last_are_digits 6 micros) (length-last_digits 6 micros)
        (last_value whole 6 micros (omega arith)) (last_value 0 6 micros (omega arith) ∙ omega arith)

pub quota_restored : (q : QuotaValue) → is_quota q ≡ true → q.whole ≤ℤ pos 9223372036854775807 → quota_of (quota_text q) ≡ Ok q
unfolding quota_text
quota_restored q is fits = by q.whole q.micros is fits
  where
    by : (whole micros : ℤ) → is_quota (record { whole = whole; micros = micros }) ≡ true → whole ≤ℤ pos 9223372036854775807
        → quota_of (quota_text (record { whole = whole; micros = micros })) ≡ Ok (record { whole = whole; micros = micros })
    by (pos whole) (pos micros) is fits =
        natural_restored whole micros (omega (arith, ints, fits)) (leb-true micros 999999 (both_hold (int_le (pos 0) (pos whole) && int_le (pos 0) (pos micros)) (int_le (pos micros) (pos 999999)) is).1)
    by (pos whole) (negsuc micros) is fits =
        let both = both_hold (int_le (pos 0) (pos whole) && int_le (pos 0) (negsuc micros)) (int_le (negsuc micros) (pos 999999)) is in
        absurd (false≢true (both_hold (int_le (pos 0) (pos whole)) (int_le (pos 0) (negsuc micros)) both.0).1)
    by (negsuc whole) micros is fits =
        let both = both_hold (int_le (pos 0) (negsuc whole) && int_le (pos 0) micros) (int_le micros (pos 999999)) is in
        absurd (false≢true (both_hold (int_le (pos 0) (negsuc whole)) (int_le (pos 0) micros) both.0).0)

-- ---- what is written

-- a whole part
pub plain_text : (q : QuotaValue) (whole micros : ℕ) → whole ≡ nat_abs q.whole → micros ≡ nat_abs q.micros → micros ≡ 0 → decimal whole ≡ quota_text q
unfolding quota_text
plain_text q whole micros w m none = sym (append-nil (decimal whole)) ∙ (λ i. decimal (w i) ++ decimals_text ((sym none ∙ m) i))

-- and decimals
pub pointed_text : (q : QuotaValue) (whole micros : ℕ) (decimals : List ℕ) → whole ≡ nat_abs q.whole → micros ≡ nat_abs q.micros → (micros ≡ 0 → ⊥)
    → decimals ≡ without_end_zeros (last_digits 6 micros) → decimal whole ++ 46 ∷ decimals ≡ quota_text q
unfolding quota_text
pointed_text q whole micros decimals w m some d =
    (λ i. decimal whole ++ 46 ∷ d i)
    ∙ sym (λ i. decimal whole ++ (if ne_eqb micros 0 some i then [] else 46 ∷ without_end_zeros (last_digits 6 micros)))
    ∙ (λ i. decimal (w i) ++ decimals_text (m i))

-- what is written is a text
decimals_are_ascii : (micros : ℕ) → IsAscii (decimals_text micros)
decimals_are_ascii micros = by (micros == 0)
  where
    point : IsAscii (46 ∷ [])
    point zero = omega arith
    point (suc i) = omega arith

    decimals : List ℕ
    decimals = without_end_zeros (last_digits 6 micros)

    by : (t : Bool) → IsAscii (if t then [] else 46 ∷ decimals)
    by true = digits_are_ascii [] refl
    by false = IsAscii-append (46 ∷ []) decimals point (digits_are_ascii decimals (ends_are_digits (last_digits 6 micros) (last_are_digits 6 micros)))

pub quota_is_text : (q : QuotaValue) → is_quota q ≡ true → q.whole ≤ℤ pos 9223372036854775807 → is_utf8 (quota_text q) ≡ true
unfolding quota_text
quota_is_text q is fits = is_utf8-from_IsUtf8 (quota_text q) (IsUtf8-from_ascii (quota_text q) (IsAscii-append (decimal (nat_abs q.whole)) (decimals_text (nat_abs q.micros))
    (digits_are_ascii (decimal (nat_abs q.whole)) (decimal_digits (nat_abs q.whole) (small q.whole is fits))) (decimals_are_ascii (nat_abs q.micros))))
  where
    small : (whole : ℤ) → is_quota (record { whole = whole; micros = q.micros }) ≡ true → whole ≤ℤ pos 9223372036854775807 → nat_abs whole < 2 ^ 64
    small (pos n) h fits = omega (arith, ints, fits)
    small (negsuc n) h fits =
        let both = both_hold (int_le (pos 0) (negsuc n) && int_le (pos 0) q.micros) (int_le q.micros (pos 999999)) h in
        absurd (false≢true (both_hold (int_le (pos 0) (negsuc n)) (int_le (pos 0) q.micros) both.0).0)
