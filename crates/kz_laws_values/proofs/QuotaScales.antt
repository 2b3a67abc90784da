-- Lemmas on numbers of digits, without the zeros at their end, and on their scales.
use Rattle.std.proofs.Common.{◌≡◌, ℕ, zero, suc, ◌+◌, ◌-◌, ◌*◌, ◌/◌, ◌%◌, ◌^◌, ◌<◌, ◌≤◌, min, Bool, true, false, ◌==◌, nat_le, List, [], ◌∷◌, ◌++◌, length, take, get_or, append_assoc, ◌∙◌, sym, ap, subst, refl, arith, inl, inr, length-append, Some, None, ℤ, pos, negsuc, neg_ℤ, ◌+ℤ◌, ◌-ℤ◌, Ok, Err}
use Rattle.std.specs.Prelude.{◌⊎◌, Option, option_map, if◌then◌else◌}
use Rattle.std.specs.List.{list_all}
use Rattle.std.specs.Char.{digit_value}
use Rattle.std.specs.Str.Parse.{digits_value_after}
use Rattle.std.proofs.Math.Nat.{pow-le-pow_right, mul-le-mul_left, one-le-pow, eq_of_mul-eq-mul_right, mul_assoc, mul-mod_left, mul-div_cancel}
use Rattle.std.proofs.lemmas.Bool.{leb-true, lt-leb, eq-eqb, ne_eqb, eqb-true, eqb-false, cases_lt}
use Rattle.std.proofs.lemmas.Int.{ints}
use Rattle.std.proofs.lemmas.List.{take_more}
use Rattle.std.proofs.lemmas.Nat.{pow-add, div-add-mod'}
use Rattle.std.proofs.lemmas.Int.Digits.{digits_value_push, digits_value_more}
use Rattle.std.proofs.lemmas.Str.{digit_value_digit}
use Rattle.kz_types.specs.Numbers.{is_digit, number_of}
use Rattle.kz_spec_data.specs.Quotas.{Numeral, digits_of, scale_of, onto_digits, without_end_zeros, in_millionths, quota_of_millionths, quota_of_numeral}
use Rattle.kz_types.specs.declared.value_fault.QuotaFault.TheVariants.{TooLarge}
use Rattle.std.proofs.lemmas.Str.Parse.{digit_at, numerals_by_value}
use Rattle.kz_types.proofs.NumberLemmas.{tells}
use Rattle.kz_types.proofs.PathRules.{both_hold}

-- ---- powers of ten

pub ten_pos : (k : ℕ) → 0 < 10 ^ k
ten_pos k = let h : 1 ≤ 10 ^ k = one-le-pow k 10 (omega arith) in omega arith

pub grows : (n i j : ℕ) → i ≤ j → n * 10 ^ i ≤ n * 10 ^ j
grows n i j le = let t : 0 < 10 = omega arith in mul-le-mul_left n (pow-le-pow_right t le)

-- a power in two parts
pub in_parts : (n i j k : ℕ) → i + j ≡ k → n * 10 ^ i * 10 ^ j ≡ n * 10 ^ k
in_parts n i j k e = mul_assoc n (10 ^ i) (10 ^ j) ∙ ap (λ p. n * p) (sym (pow-add 10 i j)) ∙ ap (λ x. n * 10 ^ x) e

-- ---- the zeros at the end

onto_zero : (d : ℕ) → (d ≡ 48) → onto_digits d [] ≡ []
onto_zero d e i = if eq-eqb d 48 e i then [] else d ∷ []

onto_other : (d : ℕ) → (d ≡ 48 → ⊥) → onto_digits d [] ≡ d ∷ []
onto_other d other i = if ne_eqb d 48 other i then [] else d ∷ []

-- one more zero
pub end_zero : (ds : List ℕ) → without_end_zeros (ds ++ 48 ∷ []) ≡ without_end_zeros ds
end_zero [] = refl
end_zero (d ∷ ds) = ap (onto_digits d) (end_zero ds)

onto_more : (d e : ℕ) (ds : List ℕ) → onto_digits d (ds ++ e ∷ []) ≡ d ∷ (ds ++ e ∷ [])
onto_more d e [] = refl
onto_more d e (c ∷ cs) = refl

-- one more digit that isn't 0
pub end_other : (ds : List ℕ) (d : ℕ) → (d ≡ 48 → ⊥) → without_end_zeros (ds ++ d ∷ []) ≡ ds ++ d ∷ []
end_other [] d other = onto_other d other
end_other (c ∷ cs) d other = ap (onto_digits c) (end_other cs d other) ∙ onto_more c d cs

-- of the first digits, whose last is a zero
pub one_zero_less : (ds : List ℕ) (count next : ℕ) → next + 1 ≡ count → count ≤ length ds → get_or ds next 0 ≡ 48
    → without_end_zeros (take count ds) ≡ without_end_zeros (take next ds)
one_zero_less ds count next e le hit =
    ap (λ n. without_end_zeros (take n ds)) (sym e) ∙ ap without_end_zeros (take_more ds next 0 (omega arith))
    ∙ ap (λ d. without_end_zeros (take next ds ++ d ∷ [])) hit ∙ end_zero (take next ds)

-- or whose last is none
pub no_zero_left : (ds : List ℕ) (count : ℕ) → count ≤ length ds → (0 < count → get_or ds (count - 1) 0 ≡ 48 → ⊥) → without_end_zeros (take count ds) ≡ take count ds
no_zero_left ds zero le other = refl
no_zero_left ds (suc next) le other =
    let one : next + 1 ≡ suc next = omega arith in
    let more : take (suc next) ds ≡ take next ds ++ get_or ds next 0 ∷ [] = ap (λ n. take n ds) (sym one) ∙ take_more ds next 0 (omega arith) in
    let last : suc next - 1 ≡ next = omega arith in
    ap without_end_zeros more ∙ end_other (take next ds) (get_or ds next 0) (λ hit. other (omega arith) (ap (λ n. get_or ds n 0) last ∙ hit)) ∙ sym more

-- ---- the number without them

-- each of them is a power of ten
pub value_after : (n : ℕ) (ds : List ℕ) (z : ℕ) → length (without_end_zeros ds) + z ≡ length ds
    → digits_value_after 10 n ds ≡ digits_value_after 10 n (without_end_zeros ds) * 10 ^ z
value_after n [] z e = let nothing : z ≡ 0 = omega arith in let none : n * 10 ^ z ≡ n * 10 ^ 0 = ap (λ k. n * 10 ^ k) nothing in omega (arith, none)
value_after n (d ∷ ds) z e = by (without_end_zeros ds) e (value_after (n * 10 + digit_value d) ds)
  where
    nothing : (t : Bool) → (d == 48) ≡ t → length (onto_digits d []) + z ≡ suc (length ds)
        → ((y : ℕ) → y ≡ length ds → digits_value_after 10 (n * 10 + digit_value d) ds ≡ (n * 10 + digit_value d) * 10 ^ y)
        → digits_value_after 10 (n * 10 + digit_value d) ds ≡ digits_value_after 10 n (onto_digits d []) * 10 ^ z
    nothing true is l rest =
        let same : d ≡ 48 = eqb-true d 48 is in
        let all : z ≡ suc (length ds) = omega (arith, l, ap length (onto_zero d same)) in
        rest (length ds) refl
        ∙ ap (λ x. (n * 10 + digit_value x) * 10 ^ length ds) same
        ∙ let some : n * 10 ^ 1 * 10 ^ length ds ≡ n * 10 ^ z = in_parts n 1 (length ds) z (omega arith) in
        (let first : (n * 10 + digit_value 48) * 10 ^ length ds ≡ n * 10 ^ 1 * 10 ^ length ds = ap (λ x. x * 10 ^ length ds) (omega arith) in first ∙ some)
        ∙ ap (λ w. digits_value_after 10 n w * 10 ^ z) (sym (onto_zero d same))
    nothing false is l rest =
        let other : d ≡ 48 → ⊥ = eqb-false d 48 is in
        rest z (omega (arith, l, ap length (onto_other d other))) ∙ ap (λ w. digits_value_after 10 n w * 10 ^ z) (sym (onto_other d other))

    by : (w : List ℕ) → length (onto_digits d w) + z ≡ suc (length ds)
        → ((y : ℕ) → length w + y ≡ length ds → digits_value_after 10 (n * 10 + digit_value d) ds ≡ digits_value_after 10 (n * 10 + digit_value d) w * 10 ^ y)
        → digits_value_after 10 (n * 10 + digit_value d) ds ≡ digits_value_after 10 n (onto_digits d w) * 10 ^ z
    by [] l rest = nothing (d == 48) refl l (λ y same. rest y (omega (arith, same)))
    by (c ∷ cs) l rest = rest z (omega (arith, l))

pub number_is : (ds : List ℕ) (z : ℕ) → length (without_end_zeros ds) + z ≡ length ds → number_of ds ≡ number_of (without_end_zeros ds) * 10 ^ z
number_is ds z e = value_after 0 ds z e

-- and its last digit isn't 0
last_after : (n : ℕ) (ds : List ℕ) → list_all is_digit ds ≡ true
    → (without_end_zeros ds ≡ []) ⊎ (digits_value_after 10 n (without_end_zeros ds) % 10 ≡ 0 → ⊥)
last_after n [] digits = inl refl
last_after n (d ∷ ds) digits =
    let both = both_hold (is_digit d) (list_all is_digit ds) digits in
    let range = both_hold (nat_le 48 d) (nat_le d 57) both.0 in
    by (without_end_zeros ds) (leb-true 48 d range.0) (leb-true d 57 range.1) (last_after (n * 10 + digit_value d) ds both.1)
  where
    nothing : (t : Bool) → (d == 48) ≡ t → 48 ≤ d → d ≤ 57 → (onto_digits d [] ≡ []) ⊎ (digits_value_after 10 n (onto_digits d []) % 10 ≡ 0 → ⊥)
    nothing true is low high = inl (onto_zero d (eqb-true d 48 is))
    nothing false is low high =
        let other : d ≡ 48 → ⊥ = eqb-false d 48 is in
        let worth : digit_value d + 48 ≡ d = digit_value_digit d (low, high) in
        inr (λ h. let value : (n * 10 + digit_value d) % 10 ≡ 0 = ap (λ w. digits_value_after 10 n w % 10) (sym (onto_other d other)) ∙ h in
        other (omega (arith, value, worth)))

    by : (w : List ℕ) → 48 ≤ d → d ≤ 57 → (w ≡ []) ⊎ (digits_value_after 10 (n * 10 + digit_value d) w % 10 ≡ 0 → ⊥)
        → (onto_digits d w ≡ []) ⊎ (digits_value_after 10 n (onto_digits d w) % 10 ≡ 0 → ⊥)
    by [] low high rest = nothing (d == 48) refl low high
    by (c ∷ cs) low high (inl none) = absurd (cc)
    by (c ∷ cs) low high (inr some) = inr some

pub last_is : (ds : List ℕ) → list_all is_digit ds ≡ true → (number_of (without_end_zeros ds) ≡ 0) ⊎ (number_of (without_end_zeros ds) % 10 ≡ 0 → ⊥)
last_is ds digits = elim (last_after 0 ds digits) [
  | inl none ↦ inl (ap number_of none)
  | inr some ↦ inr some
]

-- ---- scales

difference_up : (up down : ℕ) → down ≤ up → pos up -ℤ pos down ≡ pos (up - down)
difference_up up down le = omega (arith, ints)

difference_down : (up down k : ℕ) → up + suc k ≡ down → pos up -ℤ pos down ≡ negsuc k
difference_down up down k e = omega (arith, ints)

-- a scale below zero
lowered : (n k z : ℕ) → suc k ≤ z → in_millionths (n * 10 ^ z) (negsuc k) ≡ Some (n * 10 ^ (z - suc k))
lowered n k z le =
    let parts : n * 10 ^ (z - suc k) * 10 ^ suc k ≡ n * 10 ^ z = in_parts n (z - suc k) (suc k) z (omega arith) in
    let whole : n * 10 ^ z % 10 ^ suc k ≡ 0 = ap (λ x. x % 10 ^ suc k) (sym parts) ∙ mul-mod_left (n * 10 ^ (z - suc k)) (10 ^ suc k) in
    let quotient : n * 10 ^ z / 10 ^ suc k ≡ n * 10 ^ (z - suc k) = ap (λ x. x / 10 ^ suc k) (sym parts) ∙ mul-div_cancel (n * 10 ^ (z - suc k)) (ten_pos (suc k)) in
    (λ i. if eq-eqb (n * 10 ^ z % 10 ^ suc k) 0 whole i then Some (n * 10 ^ z / 10 ^ suc k) else None) ∙ ap (λ x. Some x) quotient

not_lowered : (n k z : ℕ) → z < suc k → (n % 10 ≡ 0 → ⊥) → in_millionths (n * 10 ^ z) (negsuc k) ≡ None
not_lowered n k z lt last = λ i. if ne_eqb (n * 10 ^ z % 10 ^ suc k) 0 (λ whole.
    let q : ℕ = n * 10 ^ z / 10 ^ suc k in
    let j : ℕ = suc k - z - 1 in
    let again : q * 10 ^ suc k ≡ n * 10 ^ z = let all = div-add-mod' (n * 10 ^ z) (10 ^ suc k) in omega (arith, all, whole) in
    let left : n ≡ q * 10 ^ (j + 1) = eq_of_mul-eq-mul_right (10 ^ z) (ten_pos z) n (q * 10 ^ (j + 1)) (sym again ∙ sym (in_parts q (j + 1) z (suc k) (omega arith))) in
    let ten : q * 10 ^ j * 10 ≡ q * 10 ^ (j + 1) = in_parts q j 1 (j + 1) refl in
    last (ap (λ x. x % 10) (left ∙ sym ten) ∙ mul-mod_left (q * 10 ^ j) 10)) i then Some (n * 10 ^ z / 10 ^ suc k) else None

-- it is raised
pub rises : (n z up down : ℕ) → down ≤ z + up → in_millionths (n * 10 ^ z) (pos up -ℤ pos down) ≡ Some (n * 10 ^ (z + up - down))
rises n z up down le = elim (cases_lt up down) [
  | inl lt ↦ ap (in_millionths (n * 10 ^ z)) (difference_down up down (down - up - 1) (omega arith)) ∙ lowered n (down - up - 1) z (omega arith)
      ∙ ap (λ k. Some (n * 10 ^ k)) (omega arith)
  | inr ge ↦ ap (in_millionths (n * 10 ^ z)) (difference_up up down ge) ∙ ap (λ x. Some x) (in_parts n z (up - down) (z + up - down) (omega arith))
]

-- it is no whole number
pub falls : (n z up down : ℕ) → z + up < down → (n % 10 ≡ 0 → ⊥) → in_millionths (n * 10 ^ z) (pos up -ℤ pos down) ≡ None
falls n z up down lt last =
    ap (in_millionths (n * 10 ^ z)) (difference_down up down (down - up - 1) (omega arith)) ∙ not_lowered n (down - up - 1) z (omega arith) last

-- zero stays zero
pub stays_zero : (up down : ℕ) → in_millionths 0 (pos up -ℤ pos down) ≡ Some 0
stays_zero up down =
    let nothing : (k : ℕ) → 0 ≡ 0 * 10 ^ k = λ k. omega arith in
    ap (λ x. in_millionths x (pos up -ℤ pos down)) (nothing down) ∙ rises 0 down up down (omega arith) ∙ ap (λ x. Some x) (sym (nothing (down + up - down)))

-- ---- numbers that are too large

-- from here on they are too large for a quota
abbrev pub cap : ℕ → ℕ
cap n = min n 10000000000000000000000000

pub capped : (o : Option ℕ) → quota_of_millionths (option_map cap o) ≡ quota_of_millionths o
capped None = refl
capped (Some n) = elim (cases_lt 10000000000000000000000000 n) [
  | inl lt ↦
      let most : cap n ≡ 10000000000000000000000000 = omega arith in
      ap (λ k. quota_of_millionths (Some k)) most
      ∙ sym (λ i. if lt-leb (n / 1000000) 9223372036854775807 (omega arith) i then Ok (record { whole = pos (n / 1000000); micros = pos (n % 1000000) }) else Err TooLarge)
  | inr le ↦ let same : cap n ≡ n = omega arith in ap (λ k. quota_of_millionths (Some k)) same
]

-- ---- one more digit

-- of a product only what is below the cap counts
pub capped_product : (core power : ℕ) → 0 < power → cap (cap core * power) ≡ cap (core * power)
capped_product core power some = elim (cases_lt 10000000000000000000000000 core) [
  | inl lt ↦
      let most : cap core ≡ 10000000000000000000000000 = omega arith in
      let product : cap core * power ≡ 10000000000000000000000000 * power = ap (λ x. x * power) most in
      let one : 10000000000000000000000000 * 1 ≤ 10000000000000000000000000 * power = mul-le-mul_left 10000000000000000000000000 some in
      let more : core * 1 ≤ core * power = mul-le-mul_left core some in
      omega (arith, product, one, more)
  | inr le ↦ let same : cap core ≡ core = omega arith in ap (λ x. cap (x * power)) same
]

-- nor of a sum
capped_sum : (core power digit : ℕ) → 0 < power → cap (cap (cap core * power) + digit) ≡ cap (core * power + digit)
capped_sum core power digit some = omega (arith, capped_product core power some)

-- The digits of a number as far as its last that isn't 0, and how many zeros follow.
pub record IsSignificant (digits : List ℕ) (number count : ℕ) : Type 0 where
  pub number_is : number ≡ cap (number_of (without_end_zeros digits))
  pub zeros_are : length (without_end_zeros digits) + count ≡ length digits

pub with_zero : (digits : List ℕ) (number count digit : ℕ) → IsSignificant digits number count → digit ≡ 48 → IsSignificant (digits ++ digit ∷ []) number (count + 1)
with_zero digits number count digit is none =
    let same : without_end_zeros (digits ++ digit ∷ []) ≡ without_end_zeros digits = ap (λ d. without_end_zeros (digits ++ d ∷ [])) none ∙ end_zero digits in
    record {
      number_is = is.number_is ∙ ap (λ w. cap (number_of w)) (sym same);
      zeros_are = omega (arith, ap length same, is.zeros_are, length-append digits (digit ∷ []));
    }

pub with_other : (digits : List ℕ) (number count digit raised all : ℕ) → IsSignificant digits number count → (digit ≡ 48 → ⊥) → 48 ≤ digit → digit ≤ 57
    → raised ≡ cap (number * 10 ^ (count + 1)) → all ≡ cap (raised + (digit - 48)) → IsSignificant (digits ++ digit ∷ []) all 0
with_other digits number count digit raised all is other low high r a =
    let core : ℕ = number_of (without_end_zeros digits) in
    let same : without_end_zeros (digits ++ digit ∷ []) ≡ digits ++ digit ∷ [] = end_other digits digit other in
    let worth : digit_value digit ≡ digit - 48 = omega (arith, digit_value_digit digit (low, high)) in
    let shifted : number_of digits * 10 ≡ core * 10 ^ (count + 1) = ap (λ x. x * 10) (number_is digits count is.zeros_are) ∙ in_parts core count 1 (count + 1) refl in
    let value : number_of (digits ++ digit ∷ []) ≡ core * 10 ^ (count + 1) + (digit - 48) = digits_value_push 10 digits digit ∙ (λ i. shifted i + worth i) in
    record {
      number_is = a ∙ (λ i. cap (r i + (digit - 48))) ∙ (λ i. cap (cap (is.number_is i * 10 ^ (count + 1)) + (digit - 48)))
          ∙ capped_sum core (10 ^ (count + 1)) (digit - 48) (ten_pos (count + 1)) ∙ ap cap (sym value) ∙ ap (λ w. cap (number_of w)) (sym same);
      zeros_are = omega (arith, ap length same);
    }

pub one_more : (xs ds : List ℕ) (at number count : ℕ) → at < length ds → IsSignificant (xs ++ take at ds ++ get_or ds at 0 ∷ []) number count → IsSignificant (xs ++ take (at + 1) ds) number count
one_more xs ds at number count lt is = subst (λ l. IsSignificant l number count) (append_assoc xs (take at ds) (get_or ds at 0 ∷ []) ∙ ap (λ l. xs ++ l) (sym (take_more ds at 0 lt))) is

-- ---- the number of all digits

pub whole_zero : (digits : List ℕ) (number count up down : ℕ) → IsSignificant digits number count → number ≡ 0
    → Some 0 ≡ option_map cap (in_millionths (number_of digits) (pos up -ℤ pos down))
whole_zero digits number count up down is none =
    let core : number_of (without_end_zeros digits) ≡ 0 = omega (arith, is.number_is) in
    let product : number_of (without_end_zeros digits) * 10 ^ count ≡ 0 * 10 ^ count = ap (λ x. x * 10 ^ count) core in
    let all : number_of digits ≡ 0 = number_is digits count is.zeros_are ∙ product ∙ omega arith in
    sym (ap (λ n. option_map cap (in_millionths n (pos up -ℤ pos down))) all ∙ ap (option_map cap) (stays_zero up down))

pub no_whole : (digits : List ℕ) (number count up down : ℕ) → list_all is_digit digits ≡ true → IsSignificant digits number count → (number ≡ 0 → ⊥) → count + up < down
    → None ≡ option_map cap (in_millionths (number_of digits) (pos up -ℤ pos down))
no_whole digits number count up down are is some lt = elim (last_is digits are) [
  | inl nothing ↦ absurd (some (is.number_is ∙ ap cap nothing))
  | inr last ↦ sym (ap (λ n. option_map cap (in_millionths n (pos up -ℤ pos down))) (number_is digits count is.zeros_are)
      ∙ ap (option_map cap) (falls (number_of (without_end_zeros digits)) count up down lt last))
]

pub whole_raised : (digits : List ℕ) (number count up down raised : ℕ) → IsSignificant digits number count → down ≤ count + up → raised ≡ cap (number * 10 ^ (count + up - down))
    → Some raised ≡ option_map cap (in_millionths (number_of digits) (pos up -ℤ pos down))
whole_raised digits number count up down raised is le r =
    let core : ℕ = number_of (without_end_zeros digits) in
    ap (λ x. Some x) (r ∙ ap (λ x. cap (x * 10 ^ (count + up - down))) is.number_is ∙ capped_product core (10 ^ (count + up - down)) (ten_pos (count + up - down)))
    ∙ sym (ap (λ n. option_map cap (in_millionths n (pos up -ℤ pos down))) (number_is digits count is.zeros_are) ∙ ap (option_map cap) (rises core count up down le))

-- ---- the number of an exponent

pub next_digit : (ds : List ℕ) (most at number next : ℕ) → list_all is_digit ds ≡ true → at < length ds → number ≡ min (number_of (take at ds)) most
    → next ≡ min (number * 10 + (get_or ds at 0 - 48)) most → next ≡ min (number_of (take (at + 1) ds)) most
next_digit ds most at number next are lt so_far is =
    let range = digit_at ds at ((numerals_by_value _ tells).to ds are) lt in
    let worth : digit_value (get_or ds at 0) + 48 ≡ get_or ds at 0 = digit_value_digit (get_or ds at 0) range in
    omega (arith, so_far, is, worth, digits_value_more 10 ds at lt)

-- An exponent's powers of ten, as far as any text's digits may balance them.
abbrev pub ArePowers : ℤ → ℕ → ℕ → Type 0
ArePowers exponent up down =
    ((e : ℕ) × (exponent ≡ pos e) × (up ≡ min e 100000000000000000000) × (down ≡ 0))
    ⊎ ((e : ℕ) × (exponent ≡ neg_ℤ (pos e)) × (up ≡ 0) × (down ≡ min e 100000000000000000000))

capped_power : (n k : ℕ) → 0 < n → 25 ≤ k → cap (n * 10 ^ k) ≡ 10000000000000000000000000
capped_power n k some le =
    let most : n * 10 ^ 25 ≤ n * 10 ^ k = grows n 25 k le in
    omega (arith, most)

abbrev capped_scale : List ℕ → ℤ → Option ℕ
capped_scale digits scale = option_map cap (in_millionths (number_of digits) scale)

-- what the powers make of digits, though the exponent may be greater
pub same_scale : (digits : List ℕ) (number count places up down : ℕ) (exponent : ℤ) → list_all is_digit digits ≡ true → IsSignificant digits number count → count < 2 ^ 66 → places < 2 ^ 64
    → ArePowers exponent up down → capped_scale digits (pos (up + 6) -ℤ pos (down + places)) ≡ capped_scale digits ((exponent +ℤ pos 6) -ℤ pos places)
same_scale digits number count places up down exponent are is few short powers = by powers
  where
    core : ℕ
    core = number_of (without_end_zeros digits)

    value : number_of digits ≡ core * 10 ^ count
    value = number_is digits count is.zeros_are

    nothing : (u d v w : ℕ) → core ≡ 0 → capped_scale digits (pos u -ℤ pos d) ≡ capped_scale digits (pos v -ℤ pos w)
    nothing u d v w none =
        let all : number_of digits ≡ 0 = value ∙ ap (λ x. x * 10 ^ count) none ∙ omega arith in
        ap (λ n. option_map cap (in_millionths n (pos u -ℤ pos d))) all ∙ ap (option_map cap) (stays_zero u d ∙ sym (stays_zero v w))
        ∙ sym (ap (λ n. option_map cap (in_millionths n (pos v -ℤ pos w))) all)

    raised : (u d : ℕ) → (core % 10 ≡ 0 → ⊥) → d + 25 ≤ u → capped_scale digits (pos u -ℤ pos d) ≡ Some 10000000000000000000000000
    raised u d last le =
        ap (λ n. option_map cap (in_millionths n (pos u -ℤ pos d))) value ∙ ap (option_map cap) (rises core count u d (omega arith))
        ∙ ap (λ x. Some x) (capped_power core (count + u - d) (omega (arith, last)) (omega arith))

    fallen : (u d : ℕ) → (core % 10 ≡ 0 → ⊥) → count + u < d → capped_scale digits (pos u -ℤ pos d) ≡ None
    fallen u d last lt = ap (λ n. option_map cap (in_millionths n (pos u -ℤ pos d))) value ∙ ap (option_map cap) (falls core count u d lt last)

    by : ArePowers exponent up down → capped_scale digits (pos (up + 6) -ℤ pos (down + places)) ≡ capped_scale digits ((exponent +ℤ pos 6) -ℤ pos places)
    by (inl h) =
        let scale : (exponent +ℤ pos 6) -ℤ pos places ≡ pos (h.0 + 6) -ℤ pos places = ap (λ x. (x +ℤ pos 6) -ℤ pos places) h.1 in
        elim (cases_lt 100000000000000000000 h.0) [
          | inl lt ↦ elim (last_is digits are) [
            | inl none ↦ nothing (up + 6) (down + places) (h.0 + 6) places none ∙ ap (capped_scale digits) (sym scale)
            | inr last ↦ raised (up + 6) (down + places) last (omega (arith, h.2, h.3)) ∙ sym (raised (h.0 + 6) places last (omega arith)) ∙ ap (capped_scale digits) (sym scale)
          ]
          | inr le ↦
              let same : pos (up + 6) -ℤ pos (down + places) ≡ pos (h.0 + 6) -ℤ pos places = omega (arith, ints, h.2, h.3) in
              ap (capped_scale digits) (same ∙ sym scale)
        ]
    by (inr h) =
        let scale : (exponent +ℤ pos 6) -ℤ pos places ≡ pos 6 -ℤ pos (h.0 + places) = ap (λ x. (x +ℤ pos 6) -ℤ pos places) h.1 ∙ omega (arith, ints) in
        elim (cases_lt 100000000000000000000 h.0) [
          | inl lt ↦ elim (last_is digits are) [
            | inl none ↦ nothing (up + 6) (down + places) 6 (h.0 + places) none ∙ ap (capped_scale digits) (sym scale)
            | inr last ↦ fallen (up + 6) (down + places) last (omega (arith, h.2, h.3)) ∙ sym (fallen 6 (h.0 + places) last (omega arith)) ∙ ap (capped_scale digits) (sym scale)
          ]
          | inr le ↦
              let same : pos (up + 6) -ℤ pos (down + places) ≡ pos 6 -ℤ pos (h.0 + places) = omega (arith, ints, h.2, h.3) in
              ap (capped_scale digits) (same ∙ sym scale)
        ]

-- the quota that the powers make of a numeral
pub value_is : (n : Numeral) (number count places up down : ℕ) (o : Option ℕ) → list_all is_digit (n.whole ++ n.decimals) ≡ true → IsSignificant (n.whole ++ n.decimals) number count
    → count < 2 ^ 66 → places ≡ length n.decimals → places < 2 ^ 64 → ArePowers n.exponent up down
    → o ≡ option_map cap (in_millionths (digits_of n) (pos (up + 6) -ℤ pos (down + places))) → quota_of_millionths o ≡ quota_of_numeral (Ok n)
value_is n number count places up down o are is few same short powers made =
    ap quota_of_millionths (made ∙ same_scale (n.whole ++ n.decimals) number count places up down n.exponent are is few short powers
    ∙ ap (λ k. option_map cap (in_millionths (digits_of n) ((n.exponent +ℤ pos 6) -ℤ pos k))) same)
    ∙ capped (in_millionths (digits_of n) (scale_of n))
