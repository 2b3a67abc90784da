-- The tables have what 8 to 64 bits make of each byte.
use Rattle.std.proofs.Common.{◌≡◌, ℕ, zero, suc, ◌+◌, ◌^◌, ◌<◌, Bool, true, false, ◌&&◌, eqb, List, [], ◌∷◌, length, get_or, refl, ap, ◌∙◌, arith}
use Rattle.std.proofs.lemmas.Bool.{eqb-true}
use Rattle.kz_spec_data.specs.Checksum.{after_bits}
use Rattle.kz_crc.proofs.Linear.{after_bits_add}
use Rattle.kz_crc.specs.declared.tables.TheConstants.{ONE, TWO, THREE, FOUR, FIVE, SIX, SEVEN, EIGHT}

-- each number is what 8 bits make of its place, from n on
numbered : ℕ → List ℕ → Bool
numbered n [] = true
numbered n (x ∷ xs) = eqb x (after_bits 8 n) && numbered (suc n) xs

first_true : (a b : Bool) → (a && b) ≡ true → (a ≡ true) × (b ≡ true)
first_true true b e = (refl, e)
first_true false b e = absurd cc

numbered_at : (n : ℕ) (xs : List ℕ) (i d : ℕ) → numbered n xs ≡ true → i < length xs → get_or xs i d ≡ after_bits 8 (n + i)
unfolding numbered
numbered_at n [] i d e lt = absurd (omega arith)
numbered_at n (x ∷ xs) zero d e lt =
    let here : x ≡ after_bits 8 n = eqb-true _ _ (first_true (eqb x (after_bits 8 n)) (numbered (suc n) xs) e).0 in
    let same : n ≡ n + 0 = omega arith in
    here ∙ ap (after_bits 8) same
numbered_at n (x ∷ xs) (suc i) d e lt =
    let there = numbered_at (suc n) xs i d (first_true (eqb x (after_bits 8 n)) (numbered (suc n) xs) e).1 (omega arith) in
    let same : suc n + i ≡ n + suc i = omega arith in
    there ∙ ap (after_bits 8) same

one_numbered : numbered 0 ONE ≡ true
unfolding numbered after_bits
one_numbered = refl

-- each number of the second list is what 8 bits make of that of the first
follows : List ℕ → List ℕ → Bool
follows xs [] = true
follows [] (y ∷ ys) = false
follows (x ∷ xs) (y ∷ ys) = eqb y (after_bits 8 x) && follows xs ys

follows_at : (xs ys : List ℕ) (i d : ℕ) → follows xs ys ≡ true → i < length ys → get_or ys i d ≡ after_bits 8 (get_or xs i d)
unfolding follows
follows_at xs [] i d e lt = absurd (omega arith)
follows_at [] (y ∷ ys) i d e lt = absurd cc
follows_at (x ∷ xs) (y ∷ ys) zero d e lt = eqb-true _ _ (first_true (eqb y (after_bits 8 x)) (follows xs ys) e).0
follows_at (x ∷ xs) (y ∷ ys) (suc i) d e lt = follows_at xs ys i d (first_true (eqb y (after_bits 8 x)) (follows xs ys) e).1 (omega arith)

next_at : (k : ℕ) (xs ys : List ℕ) (i d : ℕ) → follows xs ys ≡ true → i < length ys → get_or xs i d ≡ after_bits k i → get_or ys i d ≡ after_bits (k + 8) i
next_at k xs ys i d e lt h = follows_at xs ys i d e lt ∙ ap (after_bits 8) h ∙ after_bits_add k 8 i

pub one_at : (i d : ℕ) → i < 2 ^ 8 → get_or ONE i d ≡ after_bits 8 i
one_at i d lt = numbered_at 0 ONE i d one_numbered (omega arith) ∙ ap (after_bits 8) (omega arith)

two_follows : follows ONE TWO ≡ true
unfolding follows after_bits
two_follows = refl

pub two_at : (i d : ℕ) → i < 2 ^ 8 → get_or TWO i d ≡ after_bits 16 i
two_at i d lt = next_at 8 ONE TWO i d two_follows lt (one_at i d lt)

three_follows : follows TWO THREE ≡ true
unfolding follows after_bits
three_follows = refl

pub three_at : (i d : ℕ) → i < 2 ^ 8 → get_or THREE i d ≡ after_bits 24 i
three_at i d lt = next_at 16 TWO THREE i d three_follows lt (two_at i d lt)

four_follows : follows THREE FOUR ≡ true
unfolding follows after_bits
four_follows = refl

pub four_at : (i d : ℕ) → i < 2 ^ 8 → get_or FOUR i d ≡ after_bits 32 i
four_at i d lt = next_at 24 THREE FOUR i d four_follows lt (three_at i d lt)

five_follows : follows FOUR FIVE ≡ true
unfolding follows after_bits
five_follows = refl

pub five_at : (i d : ℕ) → i < 2 ^ 8 → get_or FIVE i d ≡ after_bits 40 i
five_at i d lt = next_at 32 FOUR FIVE i d five_follows lt (four_at i d lt)

six_follows : follows FIVE SIX ≡ true
unfolding follows after_bits
six_follows = refl

pub six_at : (i d : ℕ) → i < 2 ^ 8 → get_or SIX i d ≡ after_bits 48 i
six_at i d lt = next_at 40 FIVE SIX i d six_follows lt (five_at i d lt)

seven_follows : follows SIX SEVEN ≡ true
unfolding follows after_bits
seven_follows = refl

pub seven_at : (i d : ℕ) → i < 2 ^ 8 → get_or SEVEN i d ≡ after_bits 56 i
seven_at i d lt = next_at 48 SIX SEVEN i d seven_follows lt (six_at i d lt)

eight_follows : follows SEVEN EIGHT ≡ true
unfolding follows after_bits
eight_follows = refl

pub eight_at : (i d : ℕ) → i < 2 ^ 8 → get_or EIGHT i d ≡ after_bits 64 i
eight_at i d lt = next_at 56 SEVEN EIGHT i d eight_follows lt (seven_at i d lt)
