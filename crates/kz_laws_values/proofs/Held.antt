-- Lengths of fields whose bytes are few.
use Rattle.std.proofs.Common.{◌≡◌, ℕ, zero, suc, ◌+◌, ◌*◌, ◌/◌, ◌%◌, ◌^◌, ◌<◌, ℤ, Bool, true, false, cond, nat_lt, List, [], ◌∷◌, length, Some, refl, length-append, arith}
use Rattle.kz_spec_data.specs.Fields.{groups_of, items_with_count, int_bytes}
use Rattle.kz_spec_data.specs.Records.{IsShort, IsFew}

some_either : (b : Bool) (xs ys : List ℕ) (x y : ℕ) → 0 < length (cond b (x ∷ xs) (y ∷ ys))
some_either true xs ys x y = omega arith
some_either false xs ys x y = omega arith

groups_some : (more n : ℕ) → 0 < length (groups_of more n)
unfolding groups_of
groups_some zero n = omega arith
groups_some (suc more) n = some_either (nat_lt n 128) [] (groups_of more (n / 128)) n (128 + n % 128)

int_bytes_length : (zs : List ℤ) → length (int_bytes zs) ≡ 4 * length zs
int_bytes_length [] = refl
int_bytes_length (z ∷ zs) = let h = int_bytes_length zs in omega (arith, h)

-- few numbers fit
pub few_ints : (zs : List ℤ) → IsFew zs → (items_with_count 4).fits (Some (int_bytes zs))
few_ints zs few = let size = int_bytes_length zs in (omega (arith, size), omega (arith, size, few))

-- a field of numbers that fits has few of them
pub few_in_field : (zs : List ℤ) → length ((items_with_count 4).written (Some (int_bytes zs))) < 2 ^ 32 → IsFew zs
few_in_field zs lt =
    let some = groups_some 9 (length (int_bytes zs) / 4 + 1) in
    omega (arith, lt, some, int_bytes_length zs, length-append (groups_of 9 (length (int_bytes zs) / 4 + 1)) (int_bytes zs))

-- a field of a text that fits has a short one
pub short_in_field : (text : List ℕ) → length ((items_with_count 1).written (Some text)) < 2 ^ 32 → IsShort text
short_in_field text lt =
    let some = groups_some 9 (length text / 1 + 1) in
    omega (arith, lt, some, length-append (groups_of 9 (length text / 1 + 1)) text)
