-- The ids of migrated entries rise with their numbers.
use Rattle.std.proofs.Common.{◌≡◌, ◌⊎◌, ℕ, zero, suc, ◌+◌, ◌*◌, ◌/◌, ◌%◌, ◌^◌, ◌<◌, ◌≤◌, nat_lt, Bool, true, false, List, Ordering, Less, refl, sym, ap, ◌∙◌, inl, inr, arith}
use Rattle.std.specs.Str.{bytes_eq}
use Rattle.std.specs.Ordering.{nat_cmp, ordering_then}
use Rattle.std.specs.Int.{byte_at, bytes_high_first}
use Rattle.std.specs.Cmp.Lexicographic.{slice_cmp}
use Rattle.std.proofs.lemmas.Bool.Decides.{nat_tests}
use Rattle.std.proofs.Math.Arith.{mod-mul}
use Rattle.std.proofs.Math.Nat.{mul-le-mul_right, pow-succ'}
use Rattle.kz_types.specs.Order.{bytes_cmp}
use Rattle.kz_types.proofs.Order.{nat_order, cmp_equal}
use Rattle.kz_types.specs.Ids.{zero_id}
use Rattle.kz_spec_data.specs.Translation.{migrated_id}

power_above : (k : ℕ) → 0 < 256 ^ k
power_above zero = omega arith
power_above (suc k) = omega (arith, power_above k, pow-succ' 256 k)

byte_is : (k n : ℕ) → byte_at k n ≡ n / 256 ^ k % 256
byte_is zero n = omega arith
byte_is (suc k) n = refl

parts : (k n : ℕ) → n % 256 ^ suc k ≡ byte_at k n * 256 ^ k + n % 256 ^ k
parts k n = ap (λ p. n % p) (pow-succ' 256 k) ∙ mod-mul n {m = 256} {c = 256 ^ k} (omega arith) (power_above k) ∙ ap (λ b. b * 256 ^ k + n % 256 ^ k) (sym (byte_is k n))

-- of two numbers of two digits, the first digit decides, and else the second
by_digits : (p a b r s : ℕ) → r < p → s < p → a * p + r < b * p + s → (a < b) ⊎ ((a ≡ b) × (r < s))
by_digits p a b r s lr ls less = by (nat_lt a b) (nat_lt b a) refl refl
  where
    smaller : nat_lt a b ≡ true → a < b
    smaller e = grind (arith, nat_tests)

    same : nat_lt a b ≡ false → nat_lt b a ≡ false → a ≡ b
    same e f = grind (arith, nat_tests)

    greater : nat_lt b a ≡ true → b + 1 ≤ a
    greater e = grind (arith, nat_tests)

    by : (t u : Bool) → nat_lt a b ≡ t → nat_lt b a ≡ u → (a < b) ⊎ ((a ≡ b) × (r < s))
    by true u e f = inl (smaller e)
    by false true e f = let more : (b + 1) * p ≤ a * p = mul-le-mul_right p (greater f) in absurd (omega (arith, more, lr, ls, less))
    by false false e f = let is = same e f in let scaled : a * p ≡ b * p = ap (λ x. x * p) is in inr (is, omega (arith, scaled, less))

abbrev numbers_cmp : List ℕ → List ℕ → Ordering
numbers_cmp = slice_cmp nat_cmp

less_number : (a b : ℕ) → a < b → nat_cmp a b ≡ Less
less_number a b less = grind (arith, nat_tests)

bytes_rise : (k m n : ℕ) → m % 256 ^ k < n % 256 ^ k → numbers_cmp (bytes_high_first k m) (bytes_high_first k n) ≡ Less
bytes_rise zero m n less = absurd (omega (arith, less))
bytes_rise (suc k) m n less =
    elim (by_digits (256 ^ k) (byte_at k m) (byte_at k n) (m % 256 ^ k) (n % 256 ^ k) (below m) (below n) (rw (← parts k m, ← parts k n) less)) [
      | inl first ↦ ap (λ o. ordering_then o (numbers_cmp (bytes_high_first k m) (bytes_high_first k n))) (less_number (byte_at k m) (byte_at k n) first)
      | inr both ↦ ap (λ o. ordering_then o (numbers_cmp (bytes_high_first k m) (bytes_high_first k n))) (cmp_equal nat_order (byte_at k m) (byte_at k n) both.0) ∙ bytes_rise k m n both.1
    ]
  where
    below : (x : ℕ) → x % 256 ^ k < 256 ^ k
    below x = omega (arith, power_above k)

within : (n : ℕ) → n < 2 ^ 64 → n % 256 ^ 8 ≡ n
within n less = omega (arith, less)

-- the ids of greater numbers are greater
pub ids_rise : (m n : ℕ) → m < n → n < 2 ^ 64 → bytes_cmp (migrated_id m).bytes (migrated_id n).bytes ≡ Less
ids_rise m n less small = bytes_rise 8 m n (rw (within m (omega (arith, less, small)), within n small) less)

-- none is zero
pub id_not_zero : (n : ℕ) → bytes_eq (migrated_id n).bytes zero_id ≡ false
id_not_zero n = refl
