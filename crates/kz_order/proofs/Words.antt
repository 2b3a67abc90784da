-- Bytes as numbers, and their order.
use Rattle.std.proofs.Common.{◌≡◌, ◌<◌, ◌≤◌, ◌+◌, ◌*◌, ◌^◌, ℕ, suc, List, [], ◌∷◌, ◌++◌, length, refl, sym, ap, ◌∙◌, arith, mul-le-mul_right, suc-mul, take, drop, get_or, zero, subst, pow-suc}
use Rattle.std.proofs.lemmas.List.{take-append-drop, length-take-le}
use Rattle.std.specs.declared.cmp.Ordering.{Ordering}
use Rattle.std.specs.declared.cmp.Ordering.TheVariants.{Less, Equal, Greater}
use Rattle.std.specs.Ordering.{nat_cmp, ordering_then, MatchOrdering}
use Rattle.std.specs.Cmp.{nat_cmp_is, ranks}
use Rattle.kz_types.specs.Order.{bytes_cmp}
use Rattle.kz_order.specs.Numbers.{number_of}

-- of two numbers, that with the lower first digit is lower
lower : (a b u v m : ℕ) → u < m → a < b → a * m + u < b * m + v
lower a b u v m low lt =
    let most : suc a * m ≤ b * m = mul-le-mul_right m lt in
    let next = suc-mul a m in
    omega (arith, most, next, low)

-- how two numbers of two digits each stand, by how their digits do
by_digits : (a b u v m : ℕ) → u < m → v < m → (r q : Ordering) → MatchOrdering r (a < b) (a ≡ b) (b < a) → MatchOrdering q (u < v) (u ≡ v) (v < u)
    → MatchOrdering (ordering_then r q) (a * m + u < b * m + v) (a * m + u ≡ b * m + v) (b * m + v < a * m + u)
by_digits a b u v m low other Less q h k = lower a b u v m low h
by_digits a b u v m low other Equal Less h k = rw h (omega (arith, k))
by_digits a b u v m low other Equal Equal h k = λ i. h i * m + k i
by_digits a b u v m low other Equal Greater h k = rw h (omega (arith, k))
by_digits a b u v m low other Greater q h k = lower b a v u m other h

-- the order of two numbers of two digits each
digits : (a b u v m : ℕ) → u < m → v < m → ordering_then (nat_cmp a b) (nat_cmp u v) ≡ nat_cmp (a * m + u) (b * m + v)
digits a b u v m low other = nat_cmp_is (a * m + u) (b * m + v) _ (by_digits a b u v m low other (nat_cmp a b) (nat_cmp u v) (ranks a b) (ranks u v))

regroup : (a b c : Ordering) → ordering_then a (ordering_then b c) ≡ ordering_then (ordering_then a b) c
regroup Less b c = refl
regroup Equal b c = refl
regroup Greater b c = refl

-- each of these is a byte
abbrev AreBytes : List ℕ → Type 0
AreBytes xs = (i : ℕ) → get_or xs i 0 < 256

-- a number of so many bytes is below that power of 256
below_power : (xs : List ℕ) → AreBytes xs → number_of xs < 256 ^ length xs
below_power [] h = omega arith
below_power (x ∷ xs) h =
    let rest = below_power xs (λ i. h (suc i)) in
    let most : suc x * 256 ^ length xs ≤ 256 * 256 ^ length xs = mul-le-mul_right (256 ^ length xs) (h 0) in
    let next = suc-mul x (256 ^ length xs) in
    let power : 256 ^ suc (length xs) ≡ 256 ^ length xs * 256 = pow-suc 256 (length xs) in
    omega (arith, rest, most, next, power)

-- strings that begin with as many bytes each are ordered by these, as numbers, and then by what follows
by_numbers : (xs ys r s : List ℕ) → length xs ≡ length ys → AreBytes xs → AreBytes ys
    → bytes_cmp (xs ++ r) (ys ++ s) ≡ ordering_then (nat_cmp (number_of xs) (number_of ys)) (bytes_cmp r s)
by_numbers [] [] r s l h k = refl
by_numbers [] (y ∷ ys) r s l h k = absurd (omega (arith, l))
by_numbers (x ∷ xs) [] r s l h k = absurd (omega (arith, l))
by_numbers (x ∷ xs) (y ∷ ys) r s l h k =
    let same : length xs ≡ length ys = omega (arith, l) in
    let high : number_of ys < 256 ^ length xs = subst (λ (n : ℕ). number_of ys < 256 ^ n) (sym same) (below_power ys (λ i. k (suc i))) in
    ap (ordering_then (nat_cmp x y)) (by_numbers xs ys r s same (λ i. h (suc i)) (λ i. k (suc i)))
    ∙ regroup (nat_cmp x y) (nat_cmp (number_of xs) (number_of ys)) (bytes_cmp r s)
    ∙ ap (λ o. ordering_then o (bytes_cmp r s)) (digits x y (number_of xs) (number_of ys) (256 ^ length xs) (below_power xs (λ i. h (suc i))) high
    ∙ ap (λ n. nat_cmp (x * 256 ^ length xs + number_of xs) (y * 256 ^ n + number_of ys)) same)

taken : (n : ℕ) (xs : List ℕ) → AreBytes xs → AreBytes (take n xs)
taken zero xs h i = omega arith
taken (suc n) [] h i = omega arith
taken (suc n) (x ∷ xs) h zero = h 0
taken (suc n) (x ∷ xs) h (suc i) = taken n xs (λ j. h (suc j)) i

-- the same of strings of eight bytes and more
pub by_eight : (xs ys : List ℕ) → 8 ≤ length xs → 8 ≤ length ys → ((i : ℕ) → get_or xs i 0 < 256) → ((i : ℕ) → get_or ys i 0 < 256)
    → bytes_cmp xs ys ≡ ordering_then (nat_cmp (number_of (take 8 xs)) (number_of (take 8 ys))) (bytes_cmp (drop 8 xs) (drop 8 ys))
by_eight xs ys l m h k =
    (λ i. bytes_cmp (sym (take-append-drop 8 xs) i) (sym (take-append-drop 8 ys) i))
    ∙ by_numbers (take 8 xs) (take 8 ys) (drop 8 xs) (drop 8 ys) (length-take-le 8 xs l ∙ sym (length-take-le 8 ys m)) (taken 8 xs h) (taken 8 ys k)
