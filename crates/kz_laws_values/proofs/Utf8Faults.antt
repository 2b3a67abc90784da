-- Where bytes stop being UTF-8: the first byte at which no text of their length goes on.
use Rattle.std.proofs.Common.{◌≡◌, ℕ, zero, suc, ◌+◌, ◌-◌, ◌*◌, ◌<◌, ◌≤◌, ◌==◌, Bool, true, false, cond, nat_lt, nat_le, ◌&&◌, ◌⊎◌, inl, inr, ⊎_elim, List, [], ◌∷◌, ◌++◌, length, take, drop, get_or, Some, IsUtf8, refl, sym, ap, ◌∙◌, subst, append-nil, length-append, length-drop, length-take-le, take_at, take_all, take-take, get_or-take, arith, le-ltb, lt-ltb, le-leb, leb-true, ne_eqb}
use Rattle.std.specs.Int.{is_in_range}
use Rattle.std.specs.Option.{unwrap_or}
use Rattle.std.specs.Str.{is_utf8, StartsWithNoChar}
use Rattle.std.specs.Str.Lossy.{valid_len_up_to, utf8_valid_len, utf8_error_len, second_byte_min, second_byte_max}
use Rattle.std.proofs.lemmas.List.{take-append-le, drop-take, drop_at}
use Rattle.std.proofs.lemmas.Str.{IsUtf8-nil, IsUtf8-append, IsUtf8-from_is_utf8, is_utf8-from_IsUtf8}
use Rattle.std.proofs.str.Laws.{Follows, order}
use Rattle.std.proofs.str.Faults.{Ranged, no_char}
use Rattle.std.proofs.str.Valid.{of_one, of_two, of_three, of_four, longer}
use Rattle.std.proofs.iter.FirstChar.{after_text, no_text}
use lib.Seq.{take-add}
use Rattle.kz_spec_data.specs.Fields.{char_size, text_beginning_length, text_fault}
use Rattle.kz_laws_values.proofs.Basics.{cond_true, cond_false}
use Rattle.kz_laws_values.proofs.Faults.{zeros, length-zeros}

-- ---- tests

not_true : (b : Bool) → (b ≡ true → ⊥) → b ≡ false
not_true true h = absurd (h refl)
not_true false h = refl

both_true : (a b : Bool) → (a && b) ≡ true → (a ≡ true) × (b ≡ true)
both_true true b e = (refl, e)
both_true false b e = absurd (cc)

in_range : (low high c : ℕ) → low ≤ c → c ≤ high → is_in_range low high c ≡ true
in_range low high c l h = λ i. le-leb low c l i && le-leb c high h i

out_of_range : (low high c : ℕ) → (c < low) ⊎ (high < c) → is_in_range low high c ≡ false
out_of_range low high c out = not_true (is_in_range low high c) (λ e.
    let parts = both_true (nat_le low c) (nat_le c high) e in
    let least = leb-true low c parts.0 in
    let most = leb-true c high parts.1 in
    ⊎_elim (λ p. omega (arith, p, least)) (λ p. omega (arith, p, most)) out)

-- ---- lists

pub zeros_are_text : (n : ℕ) → IsUtf8 (zeros n)
zeros_are_text zero = IsUtf8-nil
zeros_are_text (suc n) = IsUtf8-append (0 ∷ []) (zeros n) (of_one (0 ∷ []) 0 (omega arith) (omega arith)) (zeros_are_text n)

take_one : (bytes : List ℕ) → 0 < length bytes → take 1 bytes ≡ get_or bytes 0 0 ∷ []
take_one [] h = absurd (omega (arith, h))
take_one (x ∷ bytes) h = refl

take_two : (bytes : List ℕ) → 1 < length bytes → take 2 bytes ≡ get_or bytes 0 0 ∷ get_or bytes 1 0 ∷ []
take_two [] h = absurd (omega (arith, h))
take_two (x ∷ []) h = absurd (omega (arith, h))
take_two (x ∷ y ∷ bytes) h = refl

take_three : (bytes : List ℕ) → 2 < length bytes → take 3 bytes ≡ get_or bytes 0 0 ∷ get_or bytes 1 0 ∷ get_or bytes 2 0 ∷ []
take_three [] h = absurd (omega (arith, h))
take_three (x ∷ []) h = absurd (omega (arith, h))
take_three (x ∷ y ∷ []) h = absurd (omega (arith, h))
take_three (x ∷ y ∷ z ∷ bytes) h = refl

same_at : (i m : ℕ) (a b : List ℕ) → i < m → take m a ≡ take m b → get_or a i 0 ≡ get_or b i 0
same_at i m a b lt e = sym (get_or-take m a i 0 lt) ∙ ap (λ l. get_or l i 0) e ∙ get_or-take m b i 0 lt

-- ---- first bytes

-- A first byte: how many bytes its characters have, and which second byte.
record Lead (x size low high : ℕ) : Type 0 where
  counts : char_size x ≡ size
  first : is_in_range 0xC2 0xF4 x ≡ true
  least : second_byte_min x ≡ low
  most : second_byte_max x ≡ high
  some : 2 ≤ size
  few : size ≤ 4
  above : 128 ≤ low
  between : low ≤ high
  below : high < 192
  whole : (bytes : List ℕ) → get_or bytes 0 0 ≡ x → size ≤ length bytes → low ≤ get_or bytes 1 0 → get_or bytes 1 0 ≤ high
      → (2 < size → Follows (get_or bytes 2 0)) → (3 < size → Follows (get_or bytes 3 0)) → IsUtf8 (take size bytes)
  only : (n y z w : ℕ) → Ranged n x y z w → (size ≤ n) × (low ≤ y) × (y ≤ high) × (2 < size → Follows z) × (3 < size → Follows w)

size_two : (x : ℕ) → 194 ≤ x → x < 224 → char_size x ≡ 2
size_two x l u =
    cond_false (nat_lt x 128) _ _ (le-ltb x 128 (omega (arith, l))) ∙ cond_false (nat_lt x 194) _ _ (le-ltb x 194 l) ∙ cond_true (nat_lt x 224) _ _ (lt-ltb x 224 u)

size_three : (x : ℕ) → 224 ≤ x → x < 240 → char_size x ≡ 3
size_three x l u =
    cond_false (nat_lt x 128) _ _ (le-ltb x 128 (omega (arith, l))) ∙ cond_false (nat_lt x 194) _ _ (le-ltb x 194 (omega (arith, l)))
    ∙ cond_false (nat_lt x 224) _ _ (le-ltb x 224 l) ∙ cond_true (nat_lt x 240) _ _ (lt-ltb x 240 u)

size_four : (x : ℕ) → 240 ≤ x → x < 245 → char_size x ≡ 4
size_four x l u =
    cond_false (nat_lt x 128) _ _ (le-ltb x 128 (omega (arith, l))) ∙ cond_false (nat_lt x 194) _ _ (le-ltb x 194 (omega (arith, l)))
    ∙ cond_false (nat_lt x 224) _ _ (le-ltb x 224 (omega (arith, l))) ∙ cond_false (nat_lt x 240) _ _ (le-ltb x 240 l) ∙ cond_true (nat_lt x 245) _ _ (lt-ltb x 245 u)

size_low : (x : ℕ) → 128 ≤ x → x < 194 → char_size x ≡ 0
size_low x l u = cond_false (nat_lt x 128) _ _ (le-ltb x 128 l) ∙ cond_true (nat_lt x 194) _ _ (lt-ltb x 194 u)

size_high : (x : ℕ) → 245 ≤ x → char_size x ≡ 0
size_high x l =
    cond_false (nat_lt x 128) _ _ (le-ltb x 128 (omega (arith, l))) ∙ cond_false (nat_lt x 194) _ _ (le-ltb x 194 (omega (arith, l)))
    ∙ cond_false (nat_lt x 224) _ _ (le-ltb x 224 (omega (arith, l))) ∙ cond_false (nat_lt x 240) _ _ (le-ltb x 240 (omega (arith, l))) ∙ cond_false (nat_lt x 245) _ _ (le-ltb x 245 l)

least_as_usual : (x : ℕ) → (x ≡ 224 → ⊥) → (x ≡ 240 → ⊥) → second_byte_min x ≡ 128
least_as_usual x p q = cond_false (x == 224) _ _ (ne_eqb x 224 p) ∙ cond_false (x == 240) _ _ (ne_eqb x 240 q)

most_as_usual : (x : ℕ) → (x ≡ 237 → ⊥) → (x ≡ 244 → ⊥) → second_byte_max x ≡ 191
most_as_usual x p q = cond_false (x == 237) _ _ (ne_eqb x 237 p) ∙ cond_false (x == 244) _ _ (ne_eqb x 244 q)

lead_two : (x : ℕ) → 194 ≤ x → x < 224 → Lead x 2 128 191
lead_two x l u = record {
  counts = size_two x l u;
  first = in_range 0xC2 0xF4 x l (omega (arith, u));
  least = least_as_usual x (λ e. omega (arith, u, e)) (λ e. omega (arith, u, e));
  most = most_as_usual x (λ e. omega (arith, u, e)) (λ e. omega (arith, u, e));
  some = omega arith;
  few = omega arith;
  above = omega arith;
  between = omega arith;
  below = omega arith;
  whole = λ bytes e long least most third fourth. of_two bytes 0 (omega (arith, long)) (omega (arith, e, l), omega (arith, e, u)) (least, omega (arith, most));
  only = λ n y z w r.
      let second = r.second (omega (arith, l)) in
      (omega (arith, second.1), second.2.0, omega (arith, second.2.1), λ h. absurd (omega (arith, h)), λ h. absurd (omega (arith, h)));
}

-- of three bytes, where the second bytes are those of the numbers of characters
lead_three : (x low high : ℕ) → 224 ≤ x → x < 240 → second_byte_min x ≡ low → second_byte_max x ≡ high → 128 ≤ low → low ≤ high → high < 192
    → ((y z : ℕ) → low ≤ y → y ≤ high → Follows z → let c = (x - 224) * 4096 + (y - 128) * 64 + (z - 128) in (2048 ≤ c) × ((c < 55296) ⊎ (57344 ≤ c)))
    → ((y : ℕ) → Follows y → let c = (x - 224) * 64 + (y - 128) in 32 ≤ c → (c < 864) ⊎ (896 ≤ c) → (low ≤ y) × (y ≤ high))
    → Lead x 3 low high
lead_three x low high l u least most above between below there back = record {
  counts = size_three x l u;
  first = in_range 0xC2 0xF4 x (omega (arith, l)) (omega (arith, u));
  least = least;
  most = most;
  some = omega arith;
  few = omega arith;
  above = above;
  between = between;
  below = below;
  whole = λ bytes e long p q third fourth.
      let f = third (omega arith) in
      let c = subst (λ b. let c = (b - 224) * 4096 + (get_or bytes 1 0 - 128) * 64 + (get_or bytes 2 0 - 128) in (2048 ≤ c) × ((c < 55296) ⊎ (57344 ≤ c))) (sym e) (there (get_or bytes 1 0) (get_or bytes 2 0) p q f) in
      of_three bytes 0 (omega (arith, long)) (omega (arith, e, l), omega (arith, e, u)) (omega (arith, above, p), omega (arith, below, q)) f c.0 c.1;
  only = λ n y z w r.
      let second = r.second (omega (arith, l)) in
      let third = r.third l in
      let high = r.in_three l u in
      let range = back y second.2 high.0 high.1 in
      (omega (arith, third.0), range.0, range.1, λ h. third.1, λ h. absurd (omega (arith, h)));
}

lead_224 : Lead 224 3 160 191
lead_224 = lead_three 224 160 191 (omega arith) (omega arith) refl refl (omega arith) (omega arith) (omega arith)
    (λ y z p q f. (omega (arith, p, q, f.0, f.1), inl (omega (arith, p, q, f.0, f.1))))
    (λ y f p q. (omega (arith, f.0, f.1, p), omega (arith, f.1)))

lead_225 : (x : ℕ) → 225 ≤ x → x < 237 → Lead x 3 128 191
lead_225 x l u =
    lead_three x 128 191 (omega (arith, l)) (omega (arith, u)) (least_as_usual x (λ e. omega (arith, l, e)) (λ e. omega (arith, u, e)))
    (most_as_usual x (λ e. omega (arith, u, e)) (λ e. omega (arith, u, e))) (omega arith) (omega arith) (omega arith)
    (λ y z p q f. (omega (arith, l, p, f.0), inl (omega (arith, u, p, q, f.0, f.1))))
    (λ y f p q. (f.0, omega (arith, f.1)))

lead_237 : Lead 237 3 128 159
lead_237 = lead_three 237 128 159 (omega arith) (omega arith) refl refl (omega arith) (omega arith) (omega arith)
    (λ y z p q f. (omega (arith, p, q, f.0, f.1), inl (omega (arith, p, q, f.0, f.1))))
    (λ y f p q. (f.0, ⊎_elim (λ h. omega (arith, f.0, f.1, h)) (λ h. omega (arith, f.0, f.1, h)) q))

lead_238 : (x : ℕ) → 238 ≤ x → x < 240 → Lead x 3 128 191
lead_238 x l u =
    lead_three x 128 191 (omega (arith, l)) u (least_as_usual x (λ e. omega (arith, l, e)) (λ e. omega (arith, u, e)))
    (most_as_usual x (λ e. omega (arith, l, e)) (λ e. omega (arith, u, e))) (omega arith) (omega arith) (omega arith)
    (λ y z p q f. (omega (arith, l, p, f.0), inr (omega (arith, l, p, f.0))))
    (λ y f p q. (f.0, omega (arith, f.1)))

-- of four bytes
lead_four : (x low high : ℕ) → 240 ≤ x → x < 245 → second_byte_min x ≡ low → second_byte_max x ≡ high → 128 ≤ low → low ≤ high → high < 192
    → ((y : ℕ) → low ≤ y → y ≤ high → let c = (x - 240) * 64 + (y - 128) in (16 ≤ c) × (c < 272))
    → ((y : ℕ) → Follows y → let c = (x - 240) * 64 + (y - 128) in 16 ≤ c → c < 272 → (low ≤ y) × (y ≤ high))
    → Lead x 4 low high
lead_four x low high l u least most above between below there back = record {
  counts = size_four x l u;
  first = in_range 0xC2 0xF4 x (omega (arith, l)) (omega (arith, u));
  least = least;
  most = most;
  some = omega arith;
  few = omega arith;
  above = above;
  between = between;
  below = below;
  whole = λ bytes e long p q third fourth.
      let c = subst (λ b. let c = (b - 240) * 64 + (get_or bytes 1 0 - 128) in (16 ≤ c) × (c < 272)) (sym e) (there (get_or bytes 1 0) p q) in
      of_four bytes 0 (omega (arith, long)) (omega (arith, e, l)) (omega (arith, above, p), omega (arith, below, q)) (third (omega arith)) (fourth (omega arith)) c;
  only = λ n y z w r.
      let second = r.second (omega (arith, l)) in
      let third = r.third (omega (arith, l)) in
      let fourth = r.fourth l in
      let range = back y second.2 fourth.2.0 fourth.2.1 in
      (omega (arith, fourth.0), range.0, range.1, λ h. third.1, λ h. fourth.1);
}

lead_240 : Lead 240 4 144 191
lead_240 = lead_four 240 144 191 (omega arith) (omega arith) refl refl (omega arith) (omega arith) (omega arith)
    (λ y p q. (omega (arith, p), omega (arith, q)))
    (λ y f p q. (omega (arith, f.0, p), omega (arith, f.1)))

lead_241 : (x : ℕ) → 241 ≤ x → x < 244 → Lead x 4 128 191
lead_241 x l u =
    lead_four x 128 191 (omega (arith, l)) (omega (arith, u)) (least_as_usual x (λ e. omega (arith, l, e)) (λ e. omega (arith, l, e)))
    (most_as_usual x (λ e. omega (arith, l, e)) (λ e. omega (arith, u, e))) (omega arith) (omega arith) (omega arith)
    (λ y p q. (omega (arith, l, p), omega (arith, u, q)))
    (λ y f p q. (f.0, omega (arith, f.1)))

lead_244 : Lead 244 4 128 143
lead_244 = lead_four 244 128 143 (omega arith) (omega arith) refl refl (omega arith) (omega arith) (omega arith)
    (λ y p q. (omega (arith, p), omega (arith, q)))
    (λ y f p q. (f.0, omega (arith, f.0, q)))

-- ---- where no character begins

-- No text of the length of these bytes goes on after so many of them: some text begins with these, and none with one more.
pub record Stop (bytes : List ℕ) (count : ℕ) : Type 0 where
  pub within : count < length bytes
  pub other : List ℕ
  pub text : IsUtf8 other
  pub size : length other ≡ length bytes
  pub same : take count other ≡ take count bytes
  pub none : (others : List ℕ) → IsUtf8 others → length others ≡ length bytes → take (count + 1) others ≡ take (count + 1) bytes → ⊥

refuse : (others : List ℕ) → IsUtf8 others → 0 < length others
    → (Ranged (length others) (get_or others 0 0) (get_or others 1 0) (get_or others 2 0) (get_or others 3 0) → ⊥) → ⊥
refuse others u some h =
    let all : length others - 0 ≡ length others = omega arith in
    no_text others [] (subst StartsWithNoChar (sym (append-nil others)) (no_char others 0 (λ r.
    h (subst (λ n. Ranged n (get_or others 0 0) (get_or others 1 0) (get_or others 2 0) (get_or others 3 0)) all r)))) u some

-- what a text that begins with a first byte goes on with
began : {size low high : ℕ} (bytes others : List ℕ) (m : ℕ) → Lead (get_or bytes 0 0) size low high → IsUtf8 others → length others ≡ length bytes → 0 < length bytes → 0 < m → take m others ≡ take m bytes
    → ((size ≤ length bytes) → (low ≤ get_or others 1 0) → (get_or others 1 0 ≤ high) → (2 < size → Follows (get_or others 2 0)) → (3 < size → Follows (get_or others 3 0)) → ⊥) → ⊥
began bytes others m lead u l some pos e h =
    refuse others u (omega (arith, l, some)) (λ r.
    let o = lead.only (length others) (get_or others 1 0) (get_or others 2 0) (get_or others 3 0) (subst (λ x. Ranged (length others) x (get_or others 1 0) (get_or others 2 0) (get_or others 3 0)) (same_at 0 m others bytes pos e) r) in
    h (omega (arith, o.0, l)) o.1 o.2 o.3 o.4)

-- no character begins with the first byte
stop_first : (bytes : List ℕ) → 0 < length bytes → ((n y z w : ℕ) → Ranged n (get_or bytes 0 0) y z w → ⊥) → Stop bytes 0
stop_first bytes some h = record {
  within = some;
  other = zeros (length bytes);
  text = zeros_are_text (length bytes);
  size = length-zeros (length bytes);
  same = refl;
  none = λ others u l e. refuse others u (omega (arith, l, some)) (λ r.
      h (length others) (get_or others 1 0) (get_or others 2 0) (get_or others 3 0)
      (subst (λ x. Ranged (length others) x (get_or others 1 0) (get_or others 2 0) (get_or others 3 0)) (same_at 0 1 others bytes (omega arith) e) r));
}

possible_none : (bytes : List ℕ) (size : ℕ) → char_size (get_or bytes 0 0) ≡ size → (size < 1) ⊎ (length bytes < size) → text_beginning_length bytes ≡ 0
possible_none bytes size e out =
    cond_false (is_in_range 1 (length bytes) (char_size (get_or bytes 0 0))) _ _
    (ap (is_in_range 1 (length bytes)) e ∙ out_of_range 1 (length bytes) size out)

possible_some : (bytes : List ℕ) (size count : ℕ) → char_size (get_or bytes 0 0) ≡ size → 1 ≤ size → size ≤ length bytes → utf8_error_len bytes ≡ Some count → text_beginning_length bytes ≡ count
possible_some bytes size count e l u h =
    cond_true (is_in_range 1 (length bytes) (char_size (get_or bytes 0 0))) _ _ (ap (is_in_range 1 (length bytes)) e ∙ in_range 1 (length bytes) size l u)
    ∙ ap (λ o. unwrap_or o 0) h

module _ (bytes : List ℕ) (size low high : ℕ) (lead : Lead (get_or bytes 0 0) size low high) where
  second_range : (b : Bool) → is_in_range low high (get_or bytes 1 0) ≡ b → is_in_range (second_byte_min (get_or bytes 0 0)) (second_byte_max (get_or bytes 0 0)) (get_or bytes 1 0) ≡ b
  second_range b e = (λ i. is_in_range (lead.least i) (lead.most i) (get_or bytes 1 0)) ∙ e

  error_one : 2 ≤ length bytes → (get_or bytes 1 0 < low) ⊎ (high < get_or bytes 1 0) → utf8_error_len bytes ≡ Some 1
  unfolding utf8_error_len
  error_one long out =
      cond_false (length bytes == 0) _ _ (ne_eqb (length bytes) 0 (λ e. omega (arith, long, e)))
      ∙ cond_true (is_in_range 0xC2 0xF4 (get_or bytes 0 0)) _ _ lead.first
      ∙ cond_false (nat_lt (length bytes) 2) _ _ (le-ltb (length bytes) 2 long)
      ∙ cond_false (is_in_range (second_byte_min (get_or bytes 0 0)) (second_byte_max (get_or bytes 0 0)) (get_or bytes 1 0)) _ _ (second_range false (out_of_range low high (get_or bytes 1 0) out))

  error_two : 3 ≤ length bytes → low ≤ get_or bytes 1 0 → get_or bytes 1 0 ≤ high → (get_or bytes 2 0 < 128) ⊎ (191 < get_or bytes 2 0) → utf8_error_len bytes ≡ Some 2
  unfolding utf8_error_len
  error_two long p q out =
      cond_false (length bytes == 0) _ _ (ne_eqb (length bytes) 0 (λ e. omega (arith, long, e)))
      ∙ cond_true (is_in_range 0xC2 0xF4 (get_or bytes 0 0)) _ _ lead.first
      ∙ cond_false (nat_lt (length bytes) 2) _ _ (le-ltb (length bytes) 2 (omega (arith, long)))
      ∙ cond_true (is_in_range (second_byte_min (get_or bytes 0 0)) (second_byte_max (get_or bytes 0 0)) (get_or bytes 1 0)) _ _ (second_range true (in_range low high (get_or bytes 1 0) p q))
      ∙ cond_false (nat_lt (length bytes) 3) _ _ (le-ltb (length bytes) 3 long)
      ∙ cond_false (is_in_range 128 191 (get_or bytes 2 0)) _ _ (out_of_range 128 191 (get_or bytes 2 0) out)

  error_three : 4 ≤ length bytes → low ≤ get_or bytes 1 0 → get_or bytes 1 0 ≤ high → Follows (get_or bytes 2 0) → utf8_error_len bytes ≡ Some 3
  unfolding utf8_error_len
  error_three long p q f =
      cond_false (length bytes == 0) _ _ (ne_eqb (length bytes) 0 (λ e. omega (arith, long, e)))
      ∙ cond_true (is_in_range 0xC2 0xF4 (get_or bytes 0 0)) _ _ lead.first
      ∙ cond_false (nat_lt (length bytes) 2) _ _ (le-ltb (length bytes) 2 (omega (arith, long)))
      ∙ cond_true (is_in_range (second_byte_min (get_or bytes 0 0)) (second_byte_max (get_or bytes 0 0)) (get_or bytes 1 0)) _ _ (second_range true (in_range low high (get_or bytes 1 0) p q))
      ∙ cond_false (nat_lt (length bytes) 3) _ _ (le-ltb (length bytes) 3 (omega (arith, long)))
      ∙ cond_true (is_in_range 128 191 (get_or bytes 2 0)) _ _ (in_range 128 191 (get_or bytes 2 0) f.0 (omega (arith, f.1)))
      ∙ cond_false (nat_lt (length bytes) 4) _ _ (le-ltb (length bytes) 4 long)

  -- a text of this length that begins with the first byte and these
  abbrev completed : (y z w : ℕ) → List ℕ
  completed y z w = take size (get_or bytes 0 0 ∷ y ∷ z ∷ w ∷ []) ++ zeros (length bytes - size)

  completed_text : (y z w : ℕ) → low ≤ y → y ≤ high → Follows z → Follows w → IsUtf8 (completed y z w)
  completed_text y z w p q f g =
      IsUtf8-append (take size (get_or bytes 0 0 ∷ y ∷ z ∷ w ∷ [])) (zeros (length bytes - size))
      (lead.whole (get_or bytes 0 0 ∷ y ∷ z ∷ w ∷ []) refl lead.few p q (λ h. f) (λ h. g)) (zeros_are_text (length bytes - size))

  completed_size : (y z w : ℕ) → size ≤ length bytes → length (completed y z w) ≡ length bytes
  completed_size y z w long =
      let front : length (take size (get_or bytes 0 0 ∷ y ∷ z ∷ w ∷ [])) ≡ size = length-take-le size (get_or bytes 0 0 ∷ y ∷ z ∷ w ∷ []) lead.few in
      omega (arith, long, front, length-zeros (length bytes - size), length-append (take size (get_or bytes 0 0 ∷ y ∷ z ∷ w ∷ [])) (zeros (length bytes - size)))

  completed_front : (count y z w : ℕ) → count ≤ size → take count (completed y z w) ≡ take count (get_or bytes 0 0 ∷ y ∷ z ∷ w ∷ [])
  completed_front count y z w le =
      let front : length (take size (get_or bytes 0 0 ∷ y ∷ z ∷ w ∷ [])) ≡ size = length-take-le size (get_or bytes 0 0 ∷ y ∷ z ∷ w ∷ []) lead.few in
      take-append-le count (take size (get_or bytes 0 0 ∷ y ∷ z ∷ w ∷ [])) (zeros (length bytes - size)) (omega (arith, le, front))
      ∙ take-take count size (get_or bytes 0 0 ∷ y ∷ z ∷ w ∷ []) le

  module _ (long : size ≤ length bytes) (longest : (m : ℕ) → 0 < m → m ≤ length bytes → IsUtf8 (take m bytes) → ⊥) where
    not_whole : low ≤ get_or bytes 1 0 → get_or bytes 1 0 ≤ high → (2 < size → Follows (get_or bytes 2 0)) → (3 < size → Follows (get_or bytes 3 0)) → ⊥
    not_whole p q third fourth = longest size (omega (arith, lead.some)) long (lead.whole bytes refl long p q third fourth)

    stop_second : (get_or bytes 1 0 < low) ⊎ (high < get_or bytes 1 0) → Stop bytes 1
    stop_second out = record {
      within = omega (arith, long, lead.some);
      other = completed low 128 128;
      text = completed_text low 128 128 (omega arith) lead.between (omega arith, omega arith) (omega arith, omega arith);
      size = completed_size low 128 128 long;
      same = completed_front 1 low 128 128 (omega (arith, lead.some)) ∙ sym (take_one bytes (omega (arith, long, lead.some)));
      none = λ others u l e. began bytes others 2 lead u l (omega (arith, long, lead.some)) (omega arith) e (λ s p q third fourth.
          let y = same_at 1 2 others bytes (omega arith) e in
          ⊎_elim (λ h. omega (arith, h, p, y)) (λ h. omega (arith, h, q, y)) out);
    }

    stop_third : 2 < size → low ≤ get_or bytes 1 0 → get_or bytes 1 0 ≤ high → (get_or bytes 2 0 < 128) ⊎ (191 < get_or bytes 2 0) → Stop bytes 2
    stop_third more p q out = record {
      within = omega (arith, long, more);
      other = completed (get_or bytes 1 0) 128 128;
      text = completed_text (get_or bytes 1 0) 128 128 p q (omega arith, omega arith) (omega arith, omega arith);
      size = completed_size (get_or bytes 1 0) 128 128 long;
      same = completed_front 2 (get_or bytes 1 0) 128 128 lead.some ∙ sym (take_two bytes (omega (arith, long, more)));
      none = λ others u l e. began bytes others 3 lead u l (omega (arith, long, more)) (omega arith) e (λ s f g third fourth.
          let z = same_at 2 3 others bytes (omega arith) e in
          let range = third more in
          ⊎_elim (λ h. omega (arith, h, range.0, z)) (λ h. omega (arith, h, range.1, z)) out);
    }

    stop_fourth : 3 < size → low ≤ get_or bytes 1 0 → get_or bytes 1 0 ≤ high → Follows (get_or bytes 2 0) → Stop bytes 3
    stop_fourth more p q f = record {
      within = omega (arith, long, more);
      other = completed (get_or bytes 1 0) (get_or bytes 2 0) 128;
      text = completed_text (get_or bytes 1 0) (get_or bytes 2 0) 128 p q f (omega arith, omega arith);
      size = completed_size (get_or bytes 1 0) (get_or bytes 2 0) 128 long;
      same = completed_front 3 (get_or bytes 1 0) (get_or bytes 2 0) 128 (omega (arith, more)) ∙ sym (take_three bytes (omega (arith, long, more)));
      none = λ others u l e. began bytes others 4 lead u l (omega (arith, long, more)) (omega arith) e (λ s g h third fourth.
          not_whole p q (λ t. f) (λ t. subst Follows (same_at 3 4 others bytes (omega arith) e) (fourth more)));
    }

    stop_after_third : 2 < size → low ≤ get_or bytes 1 0 → get_or bytes 1 0 ≤ high → Follows (get_or bytes 2 0) → Stop bytes (text_beginning_length bytes)
    stop_after_third more p q f = ⊎_elim
        (λ four. subst (Stop bytes) (sym (possible_some bytes size 3 lead.counts (omega (arith, more)) long (error_three (omega (arith, four, long)) p q f))) (stop_fourth four p q f))
        (λ three. absurd (not_whole p q (λ t. f) (λ t. absurd (omega (arith, t, three)))))
        (order 3 size)

    stop_after_second : low ≤ get_or bytes 1 0 → get_or bytes 1 0 ≤ high → Stop bytes (text_beginning_length bytes)
    stop_after_second p q = ⊎_elim
        (λ more.
        let two : (out : (get_or bytes 2 0 < 128) ⊎ (191 < get_or bytes 2 0)) → Stop bytes (text_beginning_length bytes) = λ out. subst (Stop bytes) (sym (possible_some bytes size 2 lead.counts (omega (arith, more)) long (error_two (omega (arith, more, long)) p q out))) (stop_third more p q out) in
        ⊎_elim (λ low_third. two (inl low_third)) (λ l. ⊎_elim (λ high_third. two (inr high_third)) (λ u. stop_after_third more p q (l, omega (arith, u))) (order 191 (get_or bytes 2 0))) (order (get_or bytes 2 0) 128))
        (λ two. absurd (not_whole p q (λ t. absurd (omega (arith, t, two))) (λ t. absurd (omega (arith, t, two)))))
        (order 2 size)

    stop_in_size : Stop bytes (text_beginning_length bytes)
    stop_in_size =
        let one : (out : (get_or bytes 1 0 < low) ⊎ (high < get_or bytes 1 0)) → Stop bytes (text_beginning_length bytes) = λ out. subst (Stop bytes) (sym (possible_some bytes size 1 lead.counts (omega (arith, lead.some)) long (error_one (omega (arith, lead.some, long)) out))) (stop_second out) in
        ⊎_elim (λ low_second. one (inl low_second)) (λ l. ⊎_elim (λ high_second. one (inr high_second)) (λ u. stop_after_second l u) (order high (get_or bytes 1 0))) (order (get_or bytes 1 0) low)

  stop_short : 0 < length bytes → length bytes < size → Stop bytes (text_beginning_length bytes)
  stop_short some short = subst (Stop bytes) (sym (possible_none bytes size lead.counts (inr short))) (record {
    within = some;
    other = zeros (length bytes);
    text = zeros_are_text (length bytes);
    size = length-zeros (length bytes);
    same = refl;
    none = λ others u l e. began bytes others 1 lead u l some (omega arith) e (λ s p q third fourth. omega (arith, s, short));
  })

  stop_lead : 0 < length bytes → ((m : ℕ) → 0 < m → m ≤ length bytes → IsUtf8 (take m bytes) → ⊥) → Stop bytes (text_beginning_length bytes)
  stop_lead some longest = ⊎_elim (λ short. stop_short some short) (λ long. stop_in_size long longest) (order (length bytes) size)

-- no character has this first byte
stop_at_first : (bytes : List ℕ) → 0 < length bytes → char_size (get_or bytes 0 0) ≡ 0 → ((n y z w : ℕ) → Ranged n (get_or bytes 0 0) y z w → ⊥) → Stop bytes (text_beginning_length bytes)
stop_at_first bytes some e h = subst (Stop bytes) (sym (possible_none bytes 0 e (inl (omega arith)))) (stop_first bytes some h)

lead_at : (bytes : List ℕ) (x size low high : ℕ) → get_or bytes 0 0 ≡ x → Lead x size low high → Lead (get_or bytes 0 0) size low high
lead_at bytes x size low high e lead = subst (λ b. Lead b size low high) (sym e) lead

pub stop_at : (bytes : List ℕ) → 0 < length bytes → ((m : ℕ) → 0 < m → m ≤ length bytes → IsUtf8 (take m bytes) → ⊥) → Stop bytes (text_beginning_length bytes)
stop_at bytes some longest =
    let x : ℕ = get_or bytes 0 0 in
    ⊎_elim (λ h. absurd (longest 1 (omega arith) some (of_one bytes 0 some h))) (λ l128.
    ⊎_elim (λ u194. stop_at_first bytes some (size_low x l128 u194) (λ n y z w r. let second = r.second l128 in omega (arith, second.0, u194))) (λ l194.
    ⊎_elim (λ u224. stop_lead bytes 2 128 191 (lead_two x l194 u224) some longest) (λ l224.
    ⊎_elim (λ u225. stop_lead bytes 3 160 191 (lead_at bytes 224 3 160 191 (omega (arith, l224, u225)) lead_224) some longest) (λ l225.
    ⊎_elim (λ u237. stop_lead bytes 3 128 191 (lead_225 x l225 u237) some longest) (λ l237.
    ⊎_elim (λ u238. stop_lead bytes 3 128 159 (lead_at bytes 237 3 128 159 (omega (arith, l237, u238)) lead_237) some longest) (λ l238.
    ⊎_elim (λ u240. stop_lead bytes 3 128 191 (lead_238 x l238 u240) some longest) (λ l240.
    ⊎_elim (λ u241. stop_lead bytes 4 144 191 (lead_at bytes 240 4 144 191 (omega (arith, l240, u241)) lead_240) some longest) (λ l241.
    ⊎_elim (λ u244. stop_lead bytes 4 128 191 (lead_241 x l241 u244) some longest) (λ l244.
    ⊎_elim (λ u245. stop_lead bytes 4 128 143 (lead_at bytes 244 4 128 143 (omega (arith, l244, u245)) lead_244) some longest) (λ l245.
    stop_at_first bytes some (size_high x l245) (λ n y z w r.
    let second = r.second l128 in
    let fourth = r.fourth (omega (arith, l245)) in
    omega (arith, l245, second.2.0, fourth.2.1)))
    (order x 245)) (order x 244)) (order x 241)) (order x 240)) (order x 238)) (order x 237)) (order x 225)) (order x 224)) (order x 194)) (order x 128)

-- ---- the longest front that is a text

front_step : (bs : List ℕ) (n : ℕ) (b : Bool) → is_utf8 (take (suc n) bs) ≡ b → IsUtf8 (take (valid_len_up_to bs n) bs) → IsUtf8 (take (cond b (suc n) (valid_len_up_to bs n)) bs)
front_step bs n true e u = IsUtf8-from_is_utf8 (take (suc n) bs) e
front_step bs n false e u = u

front_up_to : (bs : List ℕ) (n : ℕ) → IsUtf8 (take (valid_len_up_to bs n) bs)
front_up_to bs zero = IsUtf8-nil
front_up_to bs (suc n) = front_step bs n (is_utf8 (take (suc n) bs)) refl (front_up_to bs n)

never_both : (b : Bool) → b ≡ true → b ≡ false → ⊥
never_both b e f = cc

longest_step : (bs : List ℕ) (n m : ℕ) (b : Bool) → is_utf8 (take (suc n) bs) ≡ b → (valid_len_up_to bs n < m → m ≤ n → IsUtf8 (take m bs) → ⊥)
    → cond b (suc n) (valid_len_up_to bs n) < m → m ≤ suc n → IsUtf8 (take m bs) → ⊥
longest_step bs n m true e go lt le u = omega (arith, lt, le)
longest_step bs n m false e go lt le u = ⊎_elim
    (λ less. go lt (omega (arith, less)) u)
    (λ more.
    let same : m ≡ suc n = omega (arith, more, le) in
    never_both (is_utf8 (take (suc n) bs)) (is_utf8-from_IsUtf8 (take (suc n) bs) (subst (λ k. IsUtf8 (take k bs)) same u)) e)
    (order m (suc n))

longest_up_to : (bs : List ℕ) (n m : ℕ) → valid_len_up_to bs n < m → m ≤ n → IsUtf8 (take m bs) → ⊥
longest_up_to bs zero m lt le u = omega (arith, lt, le)
longest_up_to bs (suc n) m lt le u = longest_step bs n m (is_utf8 (take (suc n) bs)) refl (λ p q v. longest_up_to bs n m p q v) lt le u

valid_front : (bs : List ℕ) → IsUtf8 (take (utf8_valid_len bs) bs)
unfolding utf8_valid_len
valid_front bs = front_up_to bs (length bs)

valid_longest : (bs : List ℕ) (m : ℕ) → utf8_valid_len bs < m → m ≤ length bs → IsUtf8 (take m bs) → ⊥
unfolding utf8_valid_len
valid_longest bs m lt le u = longest_up_to bs (length bs) m lt le u

valid_some : (bs : List ℕ) → is_utf8 bs ≡ false → utf8_valid_len bs < length bs
valid_some bs e = ⊎_elim (λ h. h)
    (λ all. absurd (never_both (is_utf8 bs) (is_utf8-from_IsUtf8 bs (subst IsUtf8 (take_all (utf8_valid_len bs) bs all) (valid_front bs))) e))
    (order (utf8_valid_len bs) (length bs))

stop_after : (bs : List ℕ) → is_utf8 bs ≡ false → Stop (drop (utf8_valid_len bs) bs) (text_beginning_length (drop (utf8_valid_len bs) bs))
stop_after bs e =
    let n : ℕ = utf8_valid_len bs in
    let some = valid_some bs e in
    let left = length-drop n bs in
    stop_at (drop n bs) (omega (arith, some, left)) (λ m p q u. valid_longest bs (n + m) (omega (arith, p)) (omega (arith, q, left, some)) (longer bs n m (valid_front bs) u))

take_joined : (n m : ℕ) (a b : List ℕ) → length a ≡ n → take (n + m) (a ++ b) ≡ a ++ take m b
take_joined n m a b e = take-add n m (a ++ b) ∙ (λ i. take_at a b n e i ++ take m (drop_at a b n e i))

-- the place of the fault in a text that is none
pub text_stop : (bs : List ℕ) → is_utf8 bs ≡ false → Stop bs (text_fault bs)
text_stop bs e =
    let n : ℕ = utf8_valid_len bs in
    let after : List ℕ = drop n bs in
    let count : ℕ = text_beginning_length after in
    let s = stop_after bs e in
    let some = valid_some bs e in
    let left = length-drop n bs in
    let size : length (take n bs) ≡ n = length-take-le n bs (omega (arith, some)) in
    let next : n + (count + 1) ≡ (n + count) + 1 = omega arith in
    record {
      within = omega (arith, s.within, left);
      other = take n bs ++ s.other;
      text = IsUtf8-append (take n bs) s.other (valid_front bs) s.text;
      size = omega (arith, length-append (take n bs) s.other, size, s.size, left, some);
      same = take_joined n count (take n bs) s.other size ∙ ap (λ l. take n bs ++ l) s.same ∙ sym (take-add n count bs);
      none = λ others u l same.
          let all : take (n + (count + 1)) others ≡ take (n + (count + 1)) bs = subst (λ k. take k others ≡ take k bs) (sym next) same in
          let front : take n others ≡ take n bs = sym (take-take n (n + (count + 1)) others (omega arith)) ∙ ap (take n) all ∙ take-take n (n + (count + 1)) bs (omega arith) in
          let rest : IsUtf8 (drop n others) = after_text others n u (subst IsUtf8 (sym front) (valid_front bs)) in
          s.none (drop n others) rest (omega (arith, l, left, length-drop n others)) (sym (drop-take n (count + 1) others) ∙ ap (drop n) all ∙ drop-take n (count + 1) bs);
    }
