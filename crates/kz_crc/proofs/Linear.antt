-- What bits make of a state is linear in the state, so that the parts of a state act apart from one another.
use Rattle.std.proofs.Common.{◌≡◌, ℕ, zero, suc, ◌+◌, ◌*◌, ◌/◌, ◌%◌, ◌^◌, ◌<◌, ◌⊎◌, inl, inr, refl, sym, ap, ◌∙◌, arith}
use Rattle.std.proofs.lemmas.Bool.{cases_lt}
use Rattle.std.specs.Int.Bits.{bit_xor, xor_assoc, xor_comm, xor_self, xor_zero_r, xor_shr, xor_mod, xor_shifted}
use Rattle.kz_spec_data.specs.Checksum.{after_bits, after_bit, polynomial}

parity : (n : ℕ) → (n % 2 ≡ 0) ⊎ (n % 2 ≡ 1)
parity n = elim (cases_lt (n % 2) 1) [ inl lt ↦ inl (omega arith) | inr le ↦ inr (omega arith) ]

even : (n : ℕ) → n % 2 ≡ 0 → after_bit n ≡ n / 2
even n e = rw e refl

odd : (n : ℕ) → n % 2 ≡ 1 → after_bit n ≡ bit_xor (n / 2) polynomial
odd n e = rw e refl

-- two terms with the polynomial lose it
cancel : (a b p : ℕ) → bit_xor a b ≡ bit_xor (bit_xor a p) (bit_xor b p)
cancel a b p =
    let inner : bit_xor p (bit_xor b p) ≡ b = ap (bit_xor p) (xor_comm b p) ∙ sym (xor_assoc p p b) ∙ ap (λ (x : ℕ). bit_xor x b) (xor_self p) in
    ap (bit_xor a) (sym inner) ∙ sym (xor_assoc a p (bit_xor b p))

pub after_bit_xor : (a b : ℕ) → after_bit (bit_xor a b) ≡ bit_xor (after_bit a) (after_bit b)
after_bit_xor a b =
    let half : bit_xor a b / 2 ≡ bit_xor (a / 2) (b / 2) = xor_shr a b 1 in
    let low : bit_xor a b % 2 ≡ bit_xor (a % 2) (b % 2) = xor_mod a b 1 in
    elim (parity a) [
      | inl p ↦ elim (parity b) [
        | inl q ↦ even (bit_xor a b) (low ∙ rw (p, q) refl) ∙ half ∙ sym (rw (even a p, even b q) refl)
        | inr q ↦ odd (bit_xor a b) (low ∙ rw (p, q) refl) ∙ ap (λ (x : ℕ). bit_xor x polynomial) half ∙ xor_assoc (a / 2) (b / 2) polynomial ∙ sym (rw (even a p, odd b q) refl)
      ]
      | inr p ↦ elim (parity b) [
        | inl q ↦ odd (bit_xor a b) (low ∙ rw (p, q) refl) ∙ ap (λ (x : ℕ). bit_xor x polynomial) half ∙ xor_assoc (a / 2) (b / 2) polynomial
            ∙ ap (bit_xor (a / 2)) (xor_comm (b / 2) polynomial) ∙ sym (xor_assoc (a / 2) polynomial (b / 2)) ∙ sym (rw (odd a p, even b q) refl)
        | inr q ↦ even (bit_xor a b) (low ∙ rw (p, q) refl) ∙ half ∙ cancel (a / 2) (b / 2) polynomial ∙ sym (rw (odd a p, odd b q) refl)
      ]
    ]

pub after_bits_xor : (n a b : ℕ) → after_bits n (bit_xor a b) ≡ bit_xor (after_bits n a) (after_bits n b)
unfolding after_bits
after_bits_xor zero a b = refl
after_bits_xor (suc n) a b = ap (after_bits n) (after_bit_xor a b) ∙ after_bits_xor n (after_bit a) (after_bit b)

pub after_bits_add : (m n x : ℕ) → after_bits n (after_bits m x) ≡ after_bits (m + n) x
unfolding after_bits
after_bits_add zero n x = let e : n ≡ 0 + n = omega arith in ap (λ (k : ℕ). after_bits k x) e
after_bits_add (suc m) n x = let e : suc (m + n) ≡ suc m + n = omega arith in after_bits_add m n (after_bit x) ∙ ap (λ (k : ℕ). after_bits k x) e

half_of : (x y : ℕ) → x ≡ 2 * y → after_bit x ≡ y
half_of x y e = even x (omega arith) ∙ omega arith

-- eight zeros go out
shift : (y : ℕ) → after_bits 8 (y * 256) ≡ y
unfolding after_bits
shift y = rw (
  half_of (y * 256) (y * 128) (omega arith),
  half_of (y * 128) (y * 64) (omega arith),
  half_of (y * 64) (y * 32) (omega arith),
  half_of (y * 32) (y * 16) (omega arith),
  half_of (y * 16) (y * 8) (omega arith),
  half_of (y * 8) (y * 4) (omega arith),
  half_of (y * 4) (y * 2) (omega arith),
  half_of (y * 2) y (omega arith),
) refl

-- the lowest byte acts, and the others move down
pub one_byte : (s b : ℕ) → after_bits 8 (bit_xor s b) ≡ bit_xor (after_bits 8 (bit_xor (s % 256) b)) (s / 256)
one_byte s b =
    let high = s / 256 * 256 in
    let low = s % 256 in
    let parts : bit_xor high low ≡ s = xor_shifted (s / 256) 8 (s % 256) (omega arith) ∙ omega arith in
    let regrouped : bit_xor s b ≡ bit_xor high (bit_xor low b) = ap (λ (x : ℕ). bit_xor x b) (sym parts) ∙ xor_assoc high low b in
    ap (after_bits 8) regrouped ∙ after_bits_xor 8 high (bit_xor low b) ∙ ap (λ (x : ℕ). bit_xor x (after_bits 8 (bit_xor low b))) (shift (s / 256)) ∙ xor_comm (s / 256) (after_bits 8 (bit_xor low b))

-- the next byte, where the state has a part that is done and a part that is still to go out
advance : (x y r b : ℕ) → x ≡ bit_xor y r → after_bits 8 (bit_xor x b) ≡ bit_xor (bit_xor (after_bits 8 y) (after_bits 8 (bit_xor (r % 256) b))) (r / 256)
advance x y r b e =
    ap (λ (k : ℕ). after_bits 8 (bit_xor k b)) e ∙ ap (after_bits 8) (xor_assoc y r b) ∙ after_bits_xor 8 y (bit_xor r b)
    ∙ ap (bit_xor (after_bits 8 y)) (one_byte r b) ∙ sym (xor_assoc (after_bits 8 y) (after_bits 8 (bit_xor (r % 256) b)) (r / 256))

-- the same once nothing is left to go out
follow : (x y b : ℕ) → x ≡ y → after_bits 8 (bit_xor x b) ≡ bit_xor (after_bits 8 y) (after_bits 8 b)
follow x y b e = ap (λ (k : ℕ). after_bits 8 (bit_xor k b)) e ∙ after_bits_xor 8 y b

spread : (m y i : ℕ) → after_bits 8 (bit_xor y (after_bits m i)) ≡ bit_xor (after_bits 8 y) (after_bits (m + 8) i)
spread m y i = after_bits_xor 8 y (after_bits m i) ∙ ap (bit_xor (after_bits 8 y)) (after_bits_add m 8 i)

pub eight_bytes : (s a b c d e f g h : ℕ) → s < 2 ^ 32
    → after_bits 8 (bit_xor (after_bits 8 (bit_xor (after_bits 8 (bit_xor (after_bits 8 (bit_xor (after_bits 8 (bit_xor (after_bits 8 (bit_xor (after_bits 8 (bit_xor (after_bits 8 (bit_xor s a)) b)) c)) d)) e)) f)) g)) h)
    ≡ bit_xor (bit_xor (bit_xor (bit_xor (bit_xor (bit_xor (bit_xor (after_bits 64 (bit_xor (s % 256) a)) (after_bits 56 (bit_xor (s / 256 % 256) b))) (after_bits 48 (bit_xor (s / 65536 % 256) c)))
    (after_bits 40 (bit_xor (s / 16777216 % 256) d))) (after_bits 32 e)) (after_bits 24 f)) (after_bits 16 g)) (after_bits 8 h)
eight_bytes s a b c d e f g h lt =
    let r2 : s / 256 / 256 ≡ s / 65536 = omega arith in
    let r3 : s / 65536 / 256 ≡ s / 16777216 = omega arith in
    let r4 : s / 16777216 / 256 ≡ 0 = omega arith in
    let e1 = one_byte s a in
    let e2 = advance _ (after_bits 8 (bit_xor (s % 256) a)) (s / 256) b e1 in
    let e2' = rw r2 at e2 in
    let e3 = advance _ _ (s / 65536) c e2' in
    let e3' = rw r3 at e3 in
    let e4 = advance _ _ (s / 16777216) d e3' in
    let e4' = rw (r4, xor_zero_r) at e4 in
    let e5 = follow _ _ e e4' in
    let e6 = follow _ _ f e5 in
    let e7 = follow _ _ g e6 in
    let e8 = follow _ _ h e7 in
    e8 ∙ simp (spread, after_bits_add)
