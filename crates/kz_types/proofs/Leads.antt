-- The first bytes of characters of several bytes, and what follows them.
use Rattle.std.proofs.Common.{◌≡◌, ℕ, ◌+◌, ◌-◌, ◌*◌, ◌<◌, ◌≤◌, ◌==◌, Bool, true, false, cond, ◌⊎◌, inl, inr, ⊎_elim, List, [], ◌∷◌, length, take, get_or, IsUtf8, refl, sym, ◌∙◌, subst, append-nil, arith, ne_eqb}
use Rattle.std.specs.Str.{StartsWithNoChar}
use Rattle.std.specs.Str.Lossy.{second_byte_min, second_byte_max}
use Rattle.std.proofs.str.Laws.{Follows, order}
use Rattle.std.proofs.str.Faults.{Ranged, no_char}
use Rattle.std.proofs.str.Valid.{of_two, of_three, of_four}
use Rattle.std.proofs.iter.FirstChar.{no_text}

abbrev pub RangedAt : List ℕ → Type 0
RangedAt l = Ranged (length l) (get_or l 0 0) (get_or l 1 0) (get_or l 2 0) (get_or l 3 0)

-- a text begins with a character
pub begins : (text : List ℕ) → IsUtf8 text → 0 < length text → (RangedAt text → ⊥) → ⊥
begins text u some h =
    let all : length text - 0 ≡ length text = omega arith in
    no_text text [] (subst StartsWithNoChar (sym (append-nil text)) (no_char text 0 (λ r.
    h (subst (λ n. Ranged n (get_or text 0 0) (get_or text 1 0) (get_or text 2 0) (get_or text 3 0)) all r)))) u some

-- the second bytes that may follow
pub record IsSecond (x y : ℕ) : Type 0 where
  pub least : second_byte_min x ≤ y
  pub most : y ≤ second_byte_max x

-- A first byte: how many bytes its characters have, and which bytes follow it.
pub record Lead (x : ℕ) : Type 0 where
  pub size : ℕ
  pub some : 2 ≤ size
  pub few : size ≤ 4
  pub above : 128 ≤ second_byte_min x
  pub between : second_byte_min x ≤ second_byte_max x
  pub below : second_byte_max x < 192
  pub whole : (y z w : ℕ) → IsSecond x y → (2 < size → Follows z) → (3 < size → Follows w) → IsUtf8 (take size (x ∷ y ∷ z ∷ w ∷ []))
  pub only : (n y z w : ℕ) → Ranged n x y z w → (size ≤ n) × IsSecond x y × (2 < size → Follows z) × (3 < size → Follows w)

cond_false : {X : Type 0} (b : Bool) (p q : X) → b ≡ false → cond b p q ≡ q
cond_false true p q e = cc
cond_false false p q e = refl

least_as_usual : (x : ℕ) → (x ≡ 224 → ⊥) → (x ≡ 240 → ⊥) → second_byte_min x ≡ 128
least_as_usual x p q = cond_false (x == 224) _ _ (ne_eqb x 224 p) ∙ cond_false (x == 240) _ _ (ne_eqb x 240 q)

most_as_usual : (x : ℕ) → (x ≡ 237 → ⊥) → (x ≡ 244 → ⊥) → second_byte_max x ≡ 191
most_as_usual x p q = cond_false (x == 237) _ _ (ne_eqb x 237 p) ∙ cond_false (x == 244) _ _ (ne_eqb x 244 q)

-- of two bytes
lead_two : (x : ℕ) → 194 ≤ x → x < 224 → Lead x
lead_two x l u =
    let low : second_byte_min x ≡ 128 = least_as_usual x (λ e. omega (arith, u, e)) (λ e. omega (arith, u, e)) in
    let high : second_byte_max x ≡ 191 = most_as_usual x (λ e. omega (arith, u, e)) (λ e. omega (arith, u, e)) in
    record {
      size = 2;
      some = omega arith;
      few = omega arith;
      above = omega (arith, low);
      between = omega (arith, low, high);
      below = omega (arith, high);
      whole = λ y z w s third fourth. of_two (x ∷ y ∷ z ∷ w ∷ []) 0 (omega arith) (l, u) (omega (arith, low, s.least), omega (arith, high, s.most));
      only = λ n y z w r.
          let second = r.second (omega (arith, l)) in
          (omega (arith, second.1), record { least = omega (arith, low, second.2.0); most = omega (arith, high, second.2.1) }, λ h. absurd (omega (arith, h)), λ h. absurd (omega (arith, h)));
    }

-- of three bytes, where the second bytes are those of the numbers of characters
lead_three : (x low high : ℕ) → 224 ≤ x → x < 240 → second_byte_min x ≡ low → second_byte_max x ≡ high → 128 ≤ low → low ≤ high → high < 192
    → ((y z : ℕ) → low ≤ y → y ≤ high → Follows z → let c = (x - 224) * 4096 + (y - 128) * 64 + (z - 128) in (2048 ≤ c) × ((c < 55296) ⊎ (57344 ≤ c)))
    → ((y : ℕ) → Follows y → let c = (x - 224) * 64 + (y - 128) in 32 ≤ c → (c < 864) ⊎ (896 ≤ c) → (low ≤ y) × (y ≤ high))
    → Lead x
lead_three x low high l u least most above between below there back = record {
  size = 3;
  some = omega arith;
  few = omega arith;
  above = omega (arith, least, above);
  between = omega (arith, least, most, between);
  below = omega (arith, most, below);
  whole = λ y z w s third fourth.
      let p : low ≤ y = omega (arith, least, s.least) in
      let q : y ≤ high = omega (arith, most, s.most) in
      let f = third (omega arith) in
      let c = there y z p q f in
      of_three (x ∷ y ∷ z ∷ w ∷ []) 0 (omega arith) (l, u) (omega (arith, above, p), omega (arith, below, q)) f c.0 c.1;
  only = λ n y z w r.
      let second = r.second (omega (arith, l)) in
      let third = r.third l in
      let high_bits = r.in_three l u in
      let range = back y second.2 high_bits.0 high_bits.1 in
      (omega (arith, third.0), record { least = omega (arith, least, range.0); most = omega (arith, most, range.1) }, λ h. third.1, λ h. absurd (omega (arith, h)));
}

lead_224 : Lead 224
lead_224 = lead_three 224 160 191 (omega arith) (omega arith) refl refl (omega arith) (omega arith) (omega arith)
    (λ y z p q f. (omega (arith, p, q, f.0, f.1), inl (omega (arith, p, q, f.0, f.1))))
    (λ y f p q. (omega (arith, f.0, f.1, p), omega (arith, f.1)))

lead_225 : (x : ℕ) → 225 ≤ x → x < 237 → Lead x
lead_225 x l u =
    lead_three x 128 191 (omega (arith, l)) (omega (arith, u)) (least_as_usual x (λ e. omega (arith, l, e)) (λ e. omega (arith, u, e)))
    (most_as_usual x (λ e. omega (arith, u, e)) (λ e. omega (arith, u, e))) (omega arith) (omega arith) (omega arith)
    (λ y z p q f. (omega (arith, l, p, f.0), inl (omega (arith, u, p, q, f.0, f.1))))
    (λ y f p q. (f.0, omega (arith, f.1)))

lead_237 : Lead 237
lead_237 = lead_three 237 128 159 (omega arith) (omega arith) refl refl (omega arith) (omega arith) (omega arith)
    (λ y z p q f. (omega (arith, p, q, f.0, f.1), inl (omega (arith, p, q, f.0, f.1))))
    (λ y f p q. (f.0, ⊎_elim (λ h. omega (arith, f.0, f.1, h)) (λ h. omega (arith, f.0, f.1, h)) q))

lead_238 : (x : ℕ) → 238 ≤ x → x < 240 → Lead x
lead_238 x l u =
    lead_three x 128 191 (omega (arith, l)) u (least_as_usual x (λ e. omega (arith, l, e)) (λ e. omega (arith, u, e)))
    (most_as_usual x (λ e. omega (arith, l, e)) (λ e. omega (arith, u, e))) (omega arith) (omega arith) (omega arith)
    (λ y z p q f. (omega (arith, l, p, f.0), inr (omega (arith, l, p, f.0))))
    (λ y f p q. (f.0, omega (arith, f.1)))

-- of four bytes
lead_four : (x low high : ℕ) → 240 ≤ x → x < 245 → second_byte_min x ≡ low → second_byte_max x ≡ high → 128 ≤ low → low ≤ high → high < 192
    → ((y : ℕ) → low ≤ y → y ≤ high → let c = (x - 240) * 64 + (y - 128) in (16 ≤ c) × (c < 272))
    → ((y : ℕ) → Follows y → let c = (x - 240) * 64 + (y - 128) in 16 ≤ c → c < 272 → (low ≤ y) × (y ≤ high))
    → Lead x
lead_four x low high l u least most above between below there back = record {
  size = 4;
  some = omega arith;
  few = omega arith;
  above = omega (arith, least, above);
  between = omega (arith, least, most, between);
  below = omega (arith, most, below);
  whole = λ y z w s third fourth.
      let p : low ≤ y = omega (arith, least, s.least) in
      let q : y ≤ high = omega (arith, most, s.most) in
      of_four (x ∷ y ∷ z ∷ w ∷ []) 0 (omega arith) l (omega (arith, above, p), omega (arith, below, q)) (third (omega arith)) (fourth (omega arith)) (there y p q);
  only = λ n y z w r.
      let second = r.second (omega (arith, l)) in
      let third = r.third (omega (arith, l)) in
      let fourth = r.fourth l in
      let range = back y second.2 fourth.2.0 fourth.2.1 in
      (omega (arith, fourth.0), record { least = omega (arith, least, range.0); most = omega (arith, most, range.1) }, λ h. third.1, λ h. fourth.1);
}

lead_240 : Lead 240
lead_240 = lead_four 240 144 191 (omega arith) (omega arith) refl refl (omega arith) (omega arith) (omega arith)
    (λ y p q. (omega (arith, p), omega (arith, q)))
    (λ y f p q. (omega (arith, f.0, p), omega (arith, f.1)))

lead_241 : (x : ℕ) → 241 ≤ x → x < 244 → Lead x
lead_241 x l u =
    lead_four x 128 191 (omega (arith, l)) (omega (arith, u)) (least_as_usual x (λ e. omega (arith, l, e)) (λ e. omega (arith, l, e)))
    (most_as_usual x (λ e. omega (arith, l, e)) (λ e. omega (arith, u, e))) (omega arith) (omega arith) (omega arith)
    (λ y p q. (omega (arith, l, p), omega (arith, u, q)))
    (λ y f p q. (f.0, omega (arith, f.1)))

lead_244 : Lead 244
lead_244 = lead_four 244 128 143 (omega arith) (omega arith) refl refl (omega arith) (omega arith) (omega arith)
    (λ y p q. (omega (arith, p), omega (arith, q)))
    (λ y f p q. (f.0, omega (arith, f.0, q)))

at : (x y : ℕ) → x ≡ y → Lead y → Lead x
at x y e lead = subst Lead (sym e) lead

pub lead_of : (x : ℕ) → 194 ≤ x → x ≤ 244 → Lead x
lead_of x l u =
    ⊎_elim (λ u224. lead_two x l u224) (λ l224.
    ⊎_elim (λ u225. at x 224 (omega (arith, l224, u225)) lead_224) (λ l225.
    ⊎_elim (λ u237. lead_225 x l225 u237) (λ l237.
    ⊎_elim (λ u238. at x 237 (omega (arith, l237, u238)) lead_237) (λ l238.
    ⊎_elim (λ u240. lead_238 x l238 u240) (λ l240.
    ⊎_elim (λ u241. at x 240 (omega (arith, l240, u241)) lead_240) (λ l241.
    ⊎_elim (λ u244. lead_241 x l241 u244) (λ l244. at x 244 (omega (arith, l244, u)) lead_244)
    (order x 244)) (order x 241)) (order x 240)) (order x 238)) (order x 237)) (order x 225)) (order x 224)

-- no character begins with these
pub no_lead : (n x y z w : ℕ) → 128 ≤ x → (x < 194) ⊎ (244 < x) → Ranged n x y z w → ⊥
no_lead n x y z w l (inl low) r = let second = r.second l in omega (arith, low, second.0)
no_lead n x y z w l (inr high) r = let fourth = r.fourth (omega (arith, high)) in let second = r.second l in omega (arith, high, fourth.2.1, second.2.0)
