-- Numbers that are read a byte at a time, the highest byte first.
use Rattle.std.proofs.Common.{◌≡◌, ◌≢◌, ℕ, zero, suc, ◌+◌, ◌-◌, ◌*◌, ◌/◌, ◌%◌, ◌^◌, ◌<◌, ◌≤◌, pos, Bool, true, false, cond, List, [], ◌∷◌, length, get_or, take, drop, Some, Ok, Err, refl, sym, ap, ◌∙◌, subst, arith}
use Rattle.std.specs.Prelude.{nat_le, ◌&&◌}
use Rattle.std.proofs.Math.Nat.{pow-le-pow_right, one-le-pow, pow-suc, mul-le-mul_left, div-add-mod}
use Rattle.std.proofs.lemmas.Nat.{mod_below}
use Rattle.std.proofs.lemmas.Bool.{le-leb, lt-leb, leb-true, leb-false}
use Rattle.kz_spec_data.specs.Transactions.{at_byte, goes_on, digits_at, owner_of}

-- a power of 256 below the eighth is a number of 64 bits
pub scale_fits : (n : ℕ) → n < 8 → 256 ^ n < 2 ^ 64
scale_fits n lt =
    let le : n ≤ 7 = omega arith in
    let top : 256 ^ n ≤ 256 ^ 7 = pow-le-pow_right {n = 256} (omega arith) {i = n} {j = 7} le in
    omega (arith, top)

pub scale_some : (n : ℕ) → 0 < 256 ^ n
scale_some n = let h : 1 ≤ 256 ^ n = one-le-pow n 256 (omega arith) in omega (arith, h)

-- ---- whether a number goes on

least_goes : (s d least : ℕ) → 0 < d → least / d ≤ s → least ≤ s * d + (d - 1)
least_goes s d least some le =
    let whole : d * (least / d) + least % d ≡ least = div-add-mod least d in
    let rest : least % d < d = mod_below least d some in
    let under : d * (least / d) ≤ d * s = mul-le-mul_left d le in
    omega (arith, whole, rest, under)

least_stops : (s d least : ℕ) → 0 < d → s < least / d → s * d + (d - 1) < least
least_stops s d least some lt =
    let whole : d * (least / d) + least % d ≡ least = div-add-mod least d in
    let next : s + 1 ≤ least / d = omega arith in
    let over : d * (s + 1) ≤ d * (least / d) = mul-le-mul_left d next in
    omega (arith, whole, over)

most_goes : (s d most : ℕ) → s ≤ most / d → s * d ≤ most
most_goes s d most le =
    let whole : d * (most / d) + most % d ≡ most = div-add-mod most d in
    let under : d * s ≤ d * (most / d) = mul-le-mul_left d le in
    omega (arith, whole, under)

most_stops : (s d most : ℕ) → 0 < d → most / d < s → most < s * d
most_stops s d most some lt =
    let whole : d * (most / d) + most % d ≡ most = div-add-mod most d in
    let rest : most % d < d = mod_below most d some in
    let next : most / d + 1 ≤ s = omega arith in
    let over : d * (most / d + 1) ≤ d * s = mul-le-mul_left d next in
    omega (arith, whole, rest, over)

both_false_first : (a b : Bool) → a ≡ false → (a && b) ≡ false
both_false_first true b e = absurd (cc)
both_false_first false b e = refl

both_false_second : (a b : Bool) → b ≡ false → (a && b) ≡ false
both_false_second true b e = e
both_false_second false b e = refl

pub both_true : (a b : Bool) → a ≡ true → b ≡ true → (a && b) ≡ true
both_true true b e f = f
both_true false b e f = absurd (cc)

pub goes_on_true : (n s least most : ℕ) → least / 256 ^ n ≤ s → s ≤ most / 256 ^ n → goes_on n s least most ≡ true
goes_on_true n s least most low high =
    both_true (nat_le least (s * 256 ^ n + (256 ^ n - 1))) (nat_le (s * 256 ^ n) most)
    (le-leb least (s * 256 ^ n + (256 ^ n - 1)) (least_goes s (256 ^ n) least (scale_some n) low))
    (le-leb (s * 256 ^ n) most (most_goes s (256 ^ n) most high))

pub goes_on_low : (n s least most : ℕ) → s < least / 256 ^ n → goes_on n s least most ≡ false
goes_on_low n s least most low =
    both_false_first (nat_le least (s * 256 ^ n + (256 ^ n - 1))) (nat_le (s * 256 ^ n) most)
    (lt-leb least (s * 256 ^ n + (256 ^ n - 1)) (least_stops s (256 ^ n) least (scale_some n) low))

pub goes_on_high : (n s least most : ℕ) → most / 256 ^ n < s → goes_on n s least most ≡ false
goes_on_high n s least most high =
    both_false_second (nat_le least (s * 256 ^ n + (256 ^ n - 1))) (nat_le (s * 256 ^ n) most)
    (lt-leb (s * 256 ^ n) most (most_stops s (256 ^ n) most (scale_some n) high))

high_decides : (n s least most : ℕ) → least / 256 ^ n ≤ s → (b : Bool) → nat_le s (most / 256 ^ n) ≡ b → b ≡ goes_on n s least most
high_decides n s least most low true e = sym (goes_on_true n s least most low (leb-true s (most / 256 ^ n) e))
high_decides n s least most low false e = sym (goes_on_high n s least most (leb-false s (most / 256 ^ n) e))

-- the test that the code makes, with the power that it has
pub goes_on_by : (n s d least most : ℕ) → d ≡ 256 ^ n → least / d ≤ s → nat_le s (most / d) ≡ goes_on n s least most
goes_on_by n s d least most e low =
    subst (λ (k : ℕ). least / k ≤ s → nat_le s (most / k) ≡ goes_on n s least most) (sym e) (λ l. high_decides n s least most l (nat_le s (most / 256 ^ n)) refl) low

pub goes_on_not : (n s d least most : ℕ) → d ≡ 256 ^ n → s < least / d → false ≡ goes_on n s least most
goes_on_not n s d least most e low = sym (goes_on_low n s least most (subst (λ (k : ℕ). s < least / k) e low))

more_one : (n : ℕ) → n + 1 ≡ suc n
more_one n = omega arith

-- so far there is room for another byte
pub room_for_byte : (n s most : ℕ) → s * 256 ^ (n + 1) ≤ most → s * 256 ≤ most
room_for_byte n s most le =
    let power : 256 ^ (n + 1) ≡ 256 ^ n * 256 = ap (λ (k : ℕ). 256 ^ k) (more_one n) ∙ pow-suc 256 n in
    let some : 1 ≤ 256 ^ n = one-le-pow n 256 (omega arith) in
    let more : (s * 256) * 1 ≤ (s * 256) * 256 ^ n = mul-le-mul_left (s * 256) some in
    let same : s * 256 ^ (n + 1) ≡ (s * 256) * 256 ^ n = ap (λ (k : ℕ). s * k) power ∙ omega arith in
    omega (arith, more, same, le)

-- ---- the next byte

pub first_byte : (left : List ℕ) → 1 ≤ length left → left ≡ get_or (take 1 left) 0 0 ∷ drop 1 left
first_byte [] le = absurd (omega arith)
first_byte (b ∷ rest) le = refl

pub no_byte : (left : List ℕ) → length left < 1 → left ≡ []
no_byte [] lt = refl
no_byte (b ∷ rest) lt = absurd (omega arith)

-- ---- digits

pub digits_none : (n s least most at : ℕ) (left : List ℕ) → left ≡ [] → digits_at (n + 1) s least most at left ≡ Err (at_byte at)
unfolding digits_at
digits_none n s least most at left e = ap (λ (k : ℕ). digits_at k s least most at left) (more_one n) ∙ ap (digits_at (suc n) s least most at) e

pub digits_step : (n s least most at b : ℕ) (rest left : List ℕ) → left ≡ b ∷ rest → goes_on n (s * 256 + b) least most ≡ true
    → digits_at (n + 1) s least most at left ≡ digits_at n (s * 256 + b) least most (at + 1) rest
unfolding digits_at
digits_step n s least most at b rest left e on =
    ap (λ (k : ℕ). digits_at k s least most at left) (more_one n)
    ∙ ap (digits_at (suc n) s least most at) e
    ∙ ap (λ (t : Bool). cond t (digits_at n (s * 256 + b) least most (at + 1) rest) (Err (at_byte at))) on

pub digits_fault : (n s least most at b : ℕ) (rest left : List ℕ) → left ≡ b ∷ rest → goes_on n (s * 256 + b) least most ≡ false
    → digits_at (n + 1) s least most at left ≡ Err (at_byte at)
unfolding digits_at
digits_fault n s least most at b rest left e off =
    ap (λ (k : ℕ). digits_at k s least most at left) (more_one n)
    ∙ ap (digits_at (suc n) s least most at) e
    ∙ ap (λ (t : Bool). cond t (digits_at n (s * 256 + b) least most (at + 1) rest) (Err (at_byte at))) off

pub digits_done : (n s least most at : ℕ) (left : List ℕ) → n ≡ 0 → digits_at n s least most at left ≡ Ok (s, record { at = at; left = left })
unfolding digits_at
digits_done zero s least most at left e = refl
digits_done (suc n) s least most at left e = absurd (cc)

-- ---- owners

pub owner_some : (n : ℕ) → n ≢ 0 → owner_of n ≡ Some (pos n)
owner_some zero ne = absurd (ne refl)
owner_some (suc n) ne = refl
