-- Orders of numbers, and equal numbers.
use Rattle.std.proofs.Common.{◌≡◌, ◌⊎◌, inl, inr, ℤ, ◌≤ℤ◌, Bool, true, false, int_lt, Some, refl, arith}
use Rattle.std.specs.Prelude.{◌<ℤ◌}
use Rattle.std.proofs.lemmas.Int.{ints}

pub less_itself : (a b : ℤ) → a <ℤ b → b ≤ℤ a → ⊥
less_itself a b less least = absurd (omega (arith, ints, less, least))

pub same_number : (a b : ℤ) → Some a ≡ Some b → a ≡ b
same_number a b is = cc

pub at_least_itself : (a : ℤ) → a ≤ℤ a
at_least_itself a = omega (arith, ints)

pub at_most_by : (a b : ℤ) → a ≡ b → a ≤ℤ b
at_most_by a b is = omega (arith, ints, is)

pub weaker : (a b : ℤ) → a <ℤ b → a ≤ℤ b
weaker a b less = omega (arith, ints, less)

pub less_then : (a b c : ℤ) → a <ℤ b → b ≤ℤ c → a <ℤ c
less_then a b c less least = omega (arith, ints, less, least)

pub then_less : (a b c : ℤ) → a ≤ℤ b → b <ℤ c → a <ℤ c
then_less a b c least less = omega (arith, ints, less, least)

pub at_most_then : (a b c : ℤ) → a ≤ℤ b → b ≤ℤ c → a ≤ℤ c
at_most_then a b c x y = omega (arith, ints, x, y)

pub both_at_most : (a b : ℤ) → a ≤ℤ b → b ≤ℤ a → a ≡ b
both_at_most a b x y = omega (arith, ints, x, y)

is_less : (a b : ℤ) → int_lt a b ≡ true → a <ℤ b
is_less a b is = grind (arith, ints)

is_not_less : (a b : ℤ) → int_lt a b ≡ false → b ≤ℤ a
is_not_less a b is = grind (arith, ints)

pub less_or_same : (a b : ℤ) → a ≤ℤ b → (a <ℤ b) ⊎ (a ≡ b)
less_or_same a b low = by_test (int_lt a b) refl
  where
    by_test : (t : Bool) → int_lt a b ≡ t → (a <ℤ b) ⊎ (a ≡ b)
    by_test true is = inl (is_less a b is)
    by_test false is = inr (both_at_most a b low (is_not_less a b is))
