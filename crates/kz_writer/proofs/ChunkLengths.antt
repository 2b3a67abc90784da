-- How many operations a write has.
use Rattle.std.proofs.Common.{◌≡◌, ℕ, zero, suc, ◌+◌, ◌<◌, ◌≤◌, ◌⊎◌, inl, inr, min, max, true, false, cond, List, [], ◌∷◌, ◌++◌, length, take, get_or, map, refl, sym, ap, subst, ◌∙◌, arith}
use Rattle.std.specs.Prelude.{sum}
use Rattle.std.specs.List.{sum_by}
use Rattle.std.proofs.Math.Nat.{eq-or-lt_of_le}
use Rattle.std.proofs.lemmas.Bool.{le-leb, lt-leb}
use Rattle.std.proofs.lemmas.List.{length-take, length-take-le, take_more, take-take, take_min}
use Rattle.std.proofs.lemmas.List.Sums.{sum-map, sum_by-append, sum_by-take-le}
use Rattle.kz_types.specs.declared.limits.TheConstants.{MAX_CHUNK_BYTES}
use Rattle.kz_types.specs.declared.tree.Op.{Op}
use Rattle.kz_spec_data.specs.Difference.{op_size, keeps_bytes, chunk_length}

-- the bytes of the first so many operations
abbrev pub first_bytes : ℕ → List Op → ℕ
first_bytes n ops = sum (map op_size (take n ops))

one_more : (n : ℕ) (ops : List Op) (o : Op) → n < length ops → o ≡ get_or ops n o → first_bytes (n + 1) ops ≡ first_bytes n ops + op_size o
one_more n ops o within at =
    let front : take (n + 1) ops ≡ take n ops ++ o ∷ [] = take_more ops n o within ∙ ap (λ x. take n ops ++ x ∷ []) (sym at) in
    let all : first_bytes (n + 1) ops ≡ sum_by op_size (take n ops ++ o ∷ []) = sum-map op_size (take (n + 1) ops) ∙ ap (sum_by op_size) front in
    let parts : sum_by op_size (take n ops ++ o ∷ []) ≡ sum_by op_size (take n ops) + (0 + op_size o) = sum_by-append op_size (take n ops) (o ∷ []) in
    let first : first_bytes n ops ≡ sum_by op_size (take n ops) = sum-map op_size (take n ops) in
    omega (arith, all, parts, first)

no_fewer : (n more : ℕ) (ops : List Op) → n ≤ more → first_bytes n ops ≤ first_bytes more ops
no_fewer n more ops h =
    let few : first_bytes n ops ≡ sum_by op_size (take n ops) = sum-map op_size (take n ops) in
    let many : first_bytes more ops ≡ sum_by op_size (take more ops) = sum-map op_size (take more ops) in
    let front : sum_by op_size (take n (take more ops)) ≡ sum_by op_size (take n ops) = ap (sum_by op_size) (take-take n more ops h) in
    let least : sum_by op_size (take n (take more ops)) ≤ sum_by op_size (take more ops) = sum_by-take-le op_size (take more ops) n in
    omega (arith, few, many, front, least)

-- the bytes that are left after one operation more
pub left_after_more : (ops : List Op) (count bytes left : ℕ) (o : Op) → count < length ops → o ≡ get_or ops count o
    → first_bytes count ops + bytes ≡ MAX_CHUNK_BYTES → op_size o + left ≡ bytes → first_bytes (count + 1) ops + left ≡ MAX_CHUNK_BYTES
left_after_more ops count bytes left o within at held after = omega (arith, one_more count ops o within at, held, after)

-- ---- the most operations that keep the limit

at_most : (n k : ℕ) (ops : List Op) → k ≡ suc (suc n) → (k ≡ 1) ⊎ (keeps_bytes k ops ≡ true) → chunk_length (suc (suc n)) ops ≡ k
at_most n k ops same (inl one) = absurd (omega (arith, one, same))
at_most n k ops same (inr keeps) = ap (λ b. cond b (suc (suc n)) (chunk_length (suc n) ops)) (ap (λ i. keeps_bytes i ops) (sym same) ∙ keeps) ∙ sym same

-- it is a number that keeps the limit, or 1, where no greater number does
length_is : (most k : ℕ) (ops : List Op) → 0 < k → k ≤ most → (k ≡ 1) ⊎ (keeps_bytes k ops ≡ true) → ((j : ℕ) → k < j → keeps_bytes j ops ≡ false) → chunk_length most ops ≡ k
length_is zero k ops some within keeps more = absurd (omega (arith, some, within))
length_is (suc zero) k ops some within keeps more = omega (arith, some, within)
length_is (suc (suc n)) k ops some within keeps more =
    elim (eq-or-lt_of_le within) as (λ _. chunk_length (suc (suc n)) ops ≡ k) [
      | inl same ↦ at_most n k ops same keeps
      | inr below ↦ ap (λ b. cond b (suc (suc n)) (chunk_length (suc n) ops)) (more (suc (suc n)) below) ∙ length_is (suc n) k ops some (omega (arith, below)) keeps more
    ]

all_keep : (most : ℕ) (ops : List Op) → keeps_bytes most ops ≡ true → chunk_length most ops ≡ most
all_keep zero ops keeps = refl
all_keep (suc zero) ops keeps = refl
all_keep (suc (suc n)) ops keeps = ap (λ b. cond b (suc (suc n)) (chunk_length (suc n) ops)) keeps

first_keep : (count left : ℕ) (ops : List Op) → first_bytes count ops + left ≡ MAX_CHUNK_BYTES → (max count 1 ≡ 1) ⊎ (keeps_bytes (max count 1) ops ≡ true)
first_keep zero left ops held = inl refl
first_keep (suc n) left ops held =
    let same : suc n ≡ max (suc n) 1 = omega arith in
    inr (subst (λ k. keeps_bytes k ops ≡ true) same (le-leb (first_bytes (suc n) ops) MAX_CHUNK_BYTES (omega (arith, held))))

-- an operation for which too few bytes are left ends the write
pub stops : (ops : List Op) (count left most : ℕ) (o : Op) → count < length ops → count < most → o ≡ get_or ops count o
    → first_bytes count ops + left ≡ MAX_CHUNK_BYTES → left < op_size o → max count 1 ≡ length (take (chunk_length most ops) ops)
stops ops count left most o within below at held small =
    let over : MAX_CHUNK_BYTES < first_bytes (count + 1) ops = omega (arith, one_more count ops o within at, held, small) in
    let more : (j : ℕ) → max count 1 < j → keeps_bytes j ops ≡ false =
    λ j above. lt-leb (first_bytes j ops) MAX_CHUNK_BYTES (omega (arith, over, no_fewer (count + 1) j ops (omega (arith, above)))) in
    let is : chunk_length most ops ≡ max count 1 = length_is most (max count 1) ops (omega arith) (omega (arith, below)) (first_keep count left ops held) more in
    sym (ap (λ n. length (take n ops)) is ∙ length-take-le (max count 1) ops (omega (arith, within)))

-- where no operation ends it, it has as many as there are, or as a write may have
pub goes_on : (ops : List Op) (left most : ℕ) → first_bytes (min (length ops) most) ops + left ≡ MAX_CHUNK_BYTES → min (length ops) most ≡ length (take (chunk_length most ops) ops)
goes_on ops left most held =
    let turned : min (length ops) most ≡ min most (length ops) = omega arith in
    let same : take (min (length ops) most) ops ≡ take most ops = ap (λ n. take n ops) turned ∙ take_min most ops in
    let total : first_bytes most ops + left ≡ MAX_CHUNK_BYTES = subst (λ os. sum (map op_size os) + left ≡ MAX_CHUNK_BYTES) same held in
    turned ∙ sym (ap (λ n. length (take n ops)) (all_keep most ops (le-leb (first_bytes most ops) MAX_CHUNK_BYTES (omega (arith, total)))) ∙ length-take most ops)

pub take_length : {A : Type 0} (n : ℕ) (xs : List A) → take (length (take n xs)) xs ≡ take n xs
take_length zero xs = refl
take_length (suc n) [] = refl
take_length (suc n) (x ∷ xs) = ap (λ ys. x ∷ ys) (take_length n xs)
