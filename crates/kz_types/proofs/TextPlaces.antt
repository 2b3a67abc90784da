-- Where bytes stop being the beginning of a text, read off the error of `from_utf8`.
use Rattle.std.proofs.Common.{◌≡◌, ℕ, zero, suc, ◌+◌, ◌-◌, ◌<◌, ◌≤◌, ◌==◌, nat_lt, nat_le, Bool, true, false, cond, not, ◌&&◌, ◌⊎◌, inl, inr, ⊎_elim, List, [], ◌∷◌, ◌++◌, length, take, drop, get_or, Some, None, IsUtf8, refl, sym, ap, ◌∙◌, subst, append_assoc, length-drop, length-take-le, get_or-drop, append-nil, take_all, arith, le-ltb, le-leb, leb-true, ne_eqb}
use Rattle.std.specs.Prelude.{Option}
use Rattle.std.specs.List.{list_all}
use Rattle.std.specs.Int.{is_in_range}
use Rattle.std.specs.Str.{IsValidUpTo}
use Rattle.std.specs.Str.Lossy.{utf8_error_len, second_byte_min, second_byte_max}
use Rattle.std.proofs.lemmas.Str.{IsUtf8-append}
use Rattle.std.proofs.str.Laws.{Follows, order}
use Rattle.std.proofs.str.Faults.{Ranged}
use Rattle.std.proofs.str.Valid.{of_one, longer}
use Rattle.std.proofs.iter.FirstChar.{after_text}
use lib.Seq.{take-add, take_at, drop_at}
use Rattle.kz_types.specs.PathRule.{is_shown}
use Rattle.kz_types.specs.Places.{IsTextPlace}
use Rattle.kz_types.proofs.Leads.{IsSecond, Lead, begins, lead_of, no_lead}

-- ---- tests

cond_true : {X : Type 0} (b : Bool) (p q : X) → b ≡ true → cond b p q ≡ p
cond_true true p q e = refl
cond_true false p q e = cc

cond_false : {X : Type 0} (b : Bool) (p q : X) → b ≡ false → cond b p q ≡ q
cond_false true p q e = cc
cond_false false p q e = refl

both_true : (a b : Bool) → (a && b) ≡ true → (a ≡ true) × (b ≡ true)
both_true true b e = (refl, e)
both_true false b e = absurd (cc)

in_range : (low high c : ℕ) → low ≤ c → c ≤ high → is_in_range low high c ≡ true
in_range low high c l h = λ i. le-leb low c l i && le-leb c high h i

pub within_range : (low high c : ℕ) → is_in_range low high c ≡ true → (low ≤ c) × (c ≤ high)
within_range low high c e = let parts = both_true (nat_le low c) (nat_le c high) e in (leb-true low c parts.0, leb-true c high parts.1)

outside : (low high c : ℕ) → is_in_range low high c ≡ false → low ≤ c → c ≤ high → ⊥
outside low high c e l h = let i : true ≡ false = sym (in_range low high c l h) ∙ e in absurd (cc)

-- ---- bytes after the last whole character

-- a byte of a character of several bytes
pub shown_high : (b : ℕ) → 128 ≤ b → is_shown b ≡ true
shown_high b le = λ i. (le-leb 32 b (omega (arith, le)) i && not (ne_eqb b 127 (λ e. omega (arith, le, e)) i)) && not (ne_eqb b 47 (λ e. omega (arith, le, e)) i)

-- Some character begins with so many of these bytes, and none with one more.
pub record Stop (bytes : List ℕ) (count : ℕ) : Type 0 where
  pub within : count ≤ length bytes
  pub more : List ℕ
  pub text : IsUtf8 (take count bytes ++ more)
  pub shown : list_all is_shown more ≡ true
  pub none : count < length bytes → (rest : List ℕ) → IsUtf8 (take (count + 1) bytes ++ rest) → ⊥

-- what the length of an error says
abbrev pub Found : List ℕ → Option ℕ → Type 0
Found bytes None = Stop bytes (length bytes)
Found bytes (Some k) = Stop bytes k

abbrev Longest : List ℕ → Type 0
Longest bytes = (m : ℕ) → 0 < m → m ≤ length bytes → IsUtf8 (take m bytes) → ⊥

-- ---- no first byte

stop_first : (x : ℕ) (l : List ℕ) → 128 ≤ x → (x < 194) ⊎ (244 < x) → Stop (x ∷ l) 0
stop_first x l high out = record {
  within = omega arith;
  more = [];
  text = ([], (refl, refl));
  shown = refl;
  none = λ lt rest u. begins (x ∷ rest) u (omega arith) (λ r. no_lead (length (x ∷ rest)) x (get_or (x ∷ rest) 1 0) (get_or (x ∷ rest) 2 0) (get_or (x ∷ rest) 3 0) high out r);
}

-- ---- a first byte

shown_take : (n : ℕ) (l : List ℕ) → list_all is_shown l ≡ true → list_all is_shown (take n l) ≡ true
shown_take n [] h = λ i. list_all is_shown (nothing n i)
  where
    nothing : (n : ℕ) → take {A = ℕ} n [] ≡ []
    nothing zero = refl
    nothing (suc n) = refl
shown_take zero (b ∷ l) h = refl
shown_take (suc n) (b ∷ l) h = let parts = both_true (is_shown b) (list_all is_shown l) h in λ i. parts.0 i && shown_take n l parts.1 i

module _ (x : ℕ) (high : 128 ≤ x) (lead : Lead x) (first : is_in_range 0xC2 0xF4 x ≡ true) where
  abbrev size : ℕ
  size = lead.size

  abbrev low : ℕ
  low = second_byte_min x

  last : Follows 128
  last = (omega arith, omega arith)

  least : IsSecond x low
  least = record { least = omega arith; most = lead.between }

  second_high : (y : ℕ) → IsSecond x y → 128 ≤ y
  second_high y s = omega (arith, lead.above, s.least)

  -- a character that begins with so many bytes
  completed : (k y z w : ℕ) → k ≤ size → IsSecond x y → Follows z → Follows w → IsUtf8 (take k (x ∷ y ∷ z ∷ w ∷ []) ++ take (size - k) (drop k (x ∷ y ∷ z ∷ w ∷ [])))
  completed k y z w le s f g =
      let e : k + (size - k) ≡ size = omega (arith, le) in
      subst IsUtf8 (ap (λ n. take n (x ∷ y ∷ z ∷ w ∷ [])) (sym e) ∙ take-add k (size - k) (x ∷ y ∷ z ∷ w ∷ [])) (lead.whole y z w s (λ h. f) (λ h. g))

  -- a text that begins with the first byte and these
  refuse : (y z w : ℕ) (text : List ℕ) → IsUtf8 text → 0 < length text → get_or text 0 0 ≡ x → get_or text 1 0 ≡ y → get_or text 2 0 ≡ z → get_or text 3 0 ≡ w
      → (IsSecond x y → (2 < size → Follows z) → (3 < size → Follows w) → ⊥) → ⊥
  refuse y z w text u some a b c d h = begins text u some (λ r.
      let n : ℕ = length text in
      let r1 : Ranged n x (get_or text 1 0) (get_or text 2 0) (get_or text 3 0) = subst (λ k. Ranged n k (get_or text 1 0) (get_or text 2 0) (get_or text 3 0)) a r in
      let r2 : Ranged n x y (get_or text 2 0) (get_or text 3 0) = subst (λ k. Ranged n x k (get_or text 2 0) (get_or text 3 0)) b r1 in
      let r3 : Ranged n x y z (get_or text 3 0) = subst (λ k. Ranged n x y k (get_or text 3 0)) c r2 in
      let o = lead.only n y z w (subst (λ k. Ranged n x y z k) d r3) in
      h o.1 o.2 o.3)

  -- ---- the length of the error

  error_first : (l : List ℕ) → utf8_error_len (x ∷ l) ≡ (cond (nat_lt (length (x ∷ l)) 2) None (cond (is_in_range (second_byte_min x) (second_byte_max x) (get_or (x ∷ l) 1 0)) (cond (nat_lt (length (x ∷ l)) 3) None (cond (is_in_range 0x80 0xBF (get_or (x ∷ l) 2 0)) (cond (nat_lt (length (x ∷ l)) 4) None (Some 3)) (Some 2))) (Some 1)))
  unfolding utf8_error_len
  error_first l = cond_false (length (x ∷ l) == 0) _ _ (ne_eqb (length (x ∷ l)) 0 (λ e. omega arith)) ∙ cond_true (is_in_range 0xC2 0xF4 x) _ _ first

  -- ---- where the bytes stop

  stop_one : (l : List ℕ) → (0 < length l → IsSecond x (get_or l 0 0) → ⊥) → Stop (x ∷ l) 1
  stop_one l out = record {
    within = omega arith;
    more = take (size - 1) (low ∷ 128 ∷ 128 ∷ []);
    text = completed 1 low 128 128 (omega (arith, lead.some)) least last last;
    shown = shown_take (size - 1) (low ∷ 128 ∷ 128 ∷ []) (λ i. shown_high low lead.above i && true);
    none = λ lt rest u. by l out lt rest u;
  }
    where
      by : (l : List ℕ) → (0 < length l → IsSecond x (get_or l 0 0) → ⊥) → 1 < length (x ∷ l) → (rest : List ℕ) → IsUtf8 (take 2 (x ∷ l) ++ rest) → ⊥
      by [] out lt rest u = absurd (omega (arith, lt))
      by (y ∷ l) out lt rest u = refuse y (get_or (y ∷ rest) 1 0) (get_or (y ∷ rest) 2 0) (x ∷ y ∷ rest) u (omega arith) refl refl refl refl (λ s third fourth. out (omega arith) s)

  module _ (y : ℕ) (s : IsSecond x y) where
    stop_two : (l : List ℕ) → (0 < length l → 2 < size → Follows (get_or l 0 0) → ⊥) → 2 < size → Stop (x ∷ y ∷ l) 2
    stop_two l out long = record {
      within = omega arith;
      more = take (size - 2) (128 ∷ 128 ∷ []);
      text = completed 2 y 128 128 (omega (arith, lead.some)) s last last;
      shown = shown_take (size - 2) (128 ∷ 128 ∷ []) refl;
      none = λ lt rest u. by l out lt rest u;
    }
      where
        by : (l : List ℕ) → (0 < length l → 2 < size → Follows (get_or l 0 0) → ⊥) → 2 < length (x ∷ y ∷ l) → (rest : List ℕ) → IsUtf8 (take 3 (x ∷ y ∷ l) ++ rest) → ⊥
        by [] out lt rest u = absurd (omega (arith, lt))
        by (z ∷ l) out lt rest u = refuse y z (get_or (z ∷ rest) 1 0) (x ∷ y ∷ z ∷ rest) u (omega arith) refl refl refl refl (λ s third fourth. out (omega arith) long (third long))

    module _ (z : ℕ) (f : Follows z) where
      stop_three : (l : List ℕ) → (0 < length l → Follows (get_or l 0 0) → ⊥) → 3 < size → Stop (x ∷ y ∷ z ∷ l) 3
      stop_three l out long = record {
        within = omega arith;
        more = take (size - 3) (128 ∷ []);
        text = completed 3 y z 128 (omega (arith, long)) s f last;
        shown = shown_take (size - 3) (128 ∷ []) refl;
        none = λ lt rest u. by l out lt rest u;
      }
        where
          by : (l : List ℕ) → (0 < length l → Follows (get_or l 0 0) → ⊥) → 3 < length (x ∷ y ∷ z ∷ l) → (rest : List ℕ) → IsUtf8 (take 4 (x ∷ y ∷ z ∷ l) ++ rest) → ⊥
          by [] out lt rest u = absurd (omega (arith, lt))
          by (w ∷ l) out lt rest u = refuse y z w (x ∷ y ∷ z ∷ w ∷ rest) u (omega arith) refl refl refl refl (λ s third fourth. out (omega arith) (fourth long))

  -- a character of two bytes would be whole, and one of three
  two_more : (y : ℕ) (l : List ℕ) → IsSecond x y → ((m : ℕ) → 0 < m → m ≤ length (x ∷ y ∷ l) → IsUtf8 (take m (x ∷ y ∷ l)) → ⊥) → 2 < size
  two_more y l s longest = ⊎_elim (λ long. long)
      (λ le. absurd (longest 2 (omega arith) (omega arith)
      (let e : size ≡ 2 = omega (arith, lead.some, le) in subst (λ n. IsUtf8 (take n (x ∷ y ∷ 128 ∷ 128 ∷ []))) e (lead.whole y 128 128 s (λ h. last) (λ h. last)))))
      (order 2 size)

  three_more : (y z : ℕ) (l : List ℕ) → IsSecond x y → Follows z → ((m : ℕ) → 0 < m → m ≤ length (x ∷ y ∷ z ∷ l) → IsUtf8 (take m (x ∷ y ∷ z ∷ l)) → ⊥) → 3 < size
  three_more y z l s f longest = ⊎_elim (λ long. long)
      (λ le. absurd (longest 3 (omega arith) (omega arith)
      (let more = two_more y (z ∷ l) s longest in let e : size ≡ 3 = omega (arith, more, le) in subst (λ n. IsUtf8 (take n (x ∷ y ∷ z ∷ 128 ∷ []))) e (lead.whole y z 128 s (λ h. f) (λ h. last)))))
      (order 3 size)

  -- ---- what the length of the error says

  found_third : (y z : ℕ) (l : List ℕ) → IsSecond x y → Follows z → 3 < size → ((m : ℕ) → 0 < m → m ≤ length (x ∷ y ∷ z ∷ l) → IsUtf8 (take m (x ∷ y ∷ z ∷ l)) → ⊥)
      → Found (x ∷ y ∷ z ∷ l) (cond (nat_lt (length (x ∷ y ∷ z ∷ l)) 4) None (Some 3))
  found_third y z [] s f long longest = stop_three y s z f [] (λ some g. omega (arith, some)) long
  found_third y z (w ∷ l) s f long longest =
      subst (Found (x ∷ y ∷ z ∷ w ∷ l)) (sym (cond_false (nat_lt (length (x ∷ y ∷ z ∷ w ∷ l)) 4) _ _ (le-ltb (length (x ∷ y ∷ z ∷ w ∷ l)) 4 (omega arith))))
      (stop_three y s z f (w ∷ l) (λ some g. longest 4 (omega arith) (omega arith)
      (let e : size ≡ 4 = omega (arith, lead.few, long) in subst (λ n. IsUtf8 (take n (x ∷ y ∷ z ∷ w ∷ []))) e (lead.whole y z w s (λ h. f) (λ h. g)))) long)

  found_second : (y : ℕ) (l : List ℕ) → IsSecond x y → ((m : ℕ) → 0 < m → m ≤ length (x ∷ y ∷ l) → IsUtf8 (take m (x ∷ y ∷ l)) → ⊥)
      → Found (x ∷ y ∷ l) (cond (nat_lt (length (x ∷ y ∷ l)) 3) None (cond (is_in_range 0x80 0xBF (get_or l 0 0)) (cond (nat_lt (length (x ∷ y ∷ l)) 4) None (Some 3)) (Some 2)))
  found_second y [] s longest = stop_two y s [] (λ some long f. omega (arith, some)) (two_more y [] s longest)
  found_second y (z ∷ l) s longest =
      subst (Found (x ∷ y ∷ z ∷ l)) (sym (cond_false (nat_lt (length (x ∷ y ∷ z ∷ l)) 3) _ _ (le-ltb (length (x ∷ y ∷ z ∷ l)) 3 (omega arith))))
      (by (is_in_range 0x80 0xBF z) refl)
    where
      by : (b : Bool) → is_in_range 0x80 0xBF z ≡ b → Found (x ∷ y ∷ z ∷ l) (cond b (cond (nat_lt (length (x ∷ y ∷ z ∷ l)) 4) None (Some 3)) (Some 2))
      by true e = let r = within_range 0x80 0xBF z e in let f : Follows z = (r.0, omega (arith, r.1)) in found_third y z l s f (three_more y z l s f longest) longest
      by false e = stop_two y s (z ∷ l) (λ some long f. outside 0x80 0xBF z e f.0 (omega (arith, f.1))) (two_more y (z ∷ l) s longest)

  found_first : (l : List ℕ) → ((m : ℕ) → 0 < m → m ≤ length (x ∷ l) → IsUtf8 (take m (x ∷ l)) → ⊥) → Found (x ∷ l) (utf8_error_len (x ∷ l))
  found_first [] longest = subst (Found (x ∷ [])) (sym (error_first [])) (stop_one [] (λ some s. omega (arith, some)))
  found_first (y ∷ l) longest =
      subst (Found (x ∷ y ∷ l)) (sym (error_first (y ∷ l) ∙ cond_false (nat_lt (length (x ∷ y ∷ l)) 2) _ _ (le-ltb (length (x ∷ y ∷ l)) 2 (omega arith))))
      (by (is_in_range (second_byte_min x) (second_byte_max x) y) refl)
    where
      by : (b : Bool) → is_in_range (second_byte_min x) (second_byte_max x) y ≡ b
          → Found (x ∷ y ∷ l) (cond b (cond (nat_lt (length (x ∷ y ∷ l)) 3) None (cond (is_in_range 0x80 0xBF (get_or l 0 0)) (cond (nat_lt (length (x ∷ y ∷ l)) 4) None (Some 3)) (Some 2))) (Some 1))
      by true e = let r = within_range (second_byte_min x) (second_byte_max x) y e in found_second y l (record { least = r.0; most = r.1 }) longest
      by false e = stop_one (y ∷ l) (λ some s. outside (second_byte_min x) (second_byte_max x) y e s.least s.most)

-- no first byte of several
found_none : (x : ℕ) (l : List ℕ) → is_in_range 0xC2 0xF4 x ≡ false → ((m : ℕ) → 0 < m → m ≤ length (x ∷ l) → IsUtf8 (take m (x ∷ l)) → ⊥) → 128 ≤ x × ((x < 194) ⊎ (244 < x))
found_none x l e longest = (
  ⊎_elim (λ ascii. absurd (longest 1 (omega arith) (omega arith) (of_one (x ∷ l) 0 (omega arith) ascii))) (λ high. high) (order x 128),
  ⊎_elim (λ low. inl low) (λ l194. ⊎_elim (λ u. absurd (outside 0xC2 0xF4 x e l194 (omega (arith, u)))) (λ high. inr (omega (arith, high))) (order x 245)) (order x 194),
)

pub stop_none : (bytes : List ℕ) → 0 < length bytes → is_in_range 0xC2 0xF4 (get_or bytes 0 0) ≡ false → Longest bytes → Stop bytes 0
stop_none [] some e longest = absurd (omega (arith, some))
stop_none (x ∷ l) some e longest = let out = found_none x l e longest in stop_first x l out.0 out.1

pub stop_some : (bytes : List ℕ) → 0 < length bytes → is_in_range 0xC2 0xF4 (get_or bytes 0 0) ≡ true → Longest bytes → Found bytes (utf8_error_len bytes)
stop_some [] some e longest = absurd (omega (arith, some))
stop_some (x ∷ l) some e longest = let r = within_range 0xC2 0xF4 x e in found_first x (omega (arith, r.0)) (lead_of x r.0 r.1) e l longest

-- the length of the error where no first byte stands
error_none : (bytes : List ℕ) → 0 < length bytes → is_in_range 0xC2 0xF4 (get_or bytes 0 0) ≡ false → utf8_error_len bytes ≡ Some 1
unfolding utf8_error_len
error_none bytes some e =
    cond_false (length bytes == 0) _ _ (ne_eqb (length bytes) 0 (λ none. omega (arith, some, none))) ∙ cond_false (is_in_range 0xC2 0xF4 (get_or bytes 0 0)) _ _ e

-- ---- the whole bytes

module _ (bs : List ℕ) (valid : ℕ) (v : IsValidUpTo bs valid) where
  pub longest_after : Longest (drop valid bs)
  longest_after m pos le u = v.longest (valid + m) (omega (arith, pos)) (longer bs valid m v.front u)

  pub left : length (drop valid bs) ≡ length bs - valid
  left = length-drop valid bs

  pub place_after : (count at : ℕ) → at ≡ valid + count → Stop (drop valid bs) count → IsTextPlace bs at
  place_after count at e s = subst (IsTextPlace bs) (sym e) (record {
    within = let short = v.short in omega (arith, s.within, left);
    more = s.more;
    text = subst IsUtf8 (sym (append_assoc (take valid bs) (take count (drop valid bs)) s.more) ∙ ap (λ l. l ++ s.more) (sym (take-add valid count bs)))
        (IsUtf8-append (take valid bs) (take count (drop valid bs) ++ s.more) v.front s.text);
    shown = s.shown;
    none = λ lt rest u.
        let one : valid + count + 1 ≡ valid + (count + 1) = omega arith in
        let split : take (valid + count + 1) bs ++ rest ≡ take valid bs ++ (take (count + 1) (drop valid bs) ++ rest) =
        ap (λ n. take n bs ++ rest) one ∙ ap (λ l. l ++ rest) (take-add valid (count + 1) bs) ∙ append_assoc (take valid bs) (take (count + 1) (drop valid bs)) rest in
        let size : length (take valid bs) ≡ valid = length-take-le valid bs (let short = v.short in omega (arith, short)) in
        let whole : IsUtf8 (take valid bs ++ (take (count + 1) (drop valid bs) ++ rest)) = subst IsUtf8 split u in
        let front = take_at (take valid bs) (take (count + 1) (drop valid bs) ++ rest) valid size in
        let back = drop_at (take valid bs) (take (count + 1) (drop valid bs) ++ rest) valid size in
        s.none (omega (arith, lt, left)) rest (subst IsUtf8 back (after_text (take valid bs ++ (take (count + 1) (drop valid bs) ++ rest)) valid whole (subst IsUtf8 (sym front) v.front)));
  })

pub whole_text : (bs : List ℕ) → IsUtf8 bs → IsTextPlace bs (length bs)
whole_text bs u = record {
  within = omega arith;
  more = [];
  text = subst IsUtf8 (sym (append-nil (take (length bs) bs) ∙ take_all (length bs) bs (omega arith))) u;
  shown = refl;
  none = λ lt rest t. omega (arith, lt);
}

none_some : {o : Option ℕ} → o ≡ None → o ≡ Some 1 → ⊥
none_some e f = cc

pub end_place : (bs : List ℕ) (valid : ℕ) → IsValidUpTo bs valid → utf8_error_len (drop valid bs) ≡ None → IsTextPlace bs (length bs)
end_place bs valid v e = by (is_in_range 0xC2 0xF4 (get_or (drop valid bs) 0 0)) refl
  where
    some : 0 < length (drop valid bs)
    some = let short = v.short in omega (arith, short, left bs valid v)

    by : (b : Bool) → is_in_range 0xC2 0xF4 (get_or (drop valid bs) 0 0) ≡ b → IsTextPlace bs (length bs)
    by true t = place_after bs valid v (length (drop valid bs)) (length bs) (let short = v.short in omega (arith, short, left bs valid v)) (subst (Found (drop valid bs)) e (stop_some (drop valid bs) some t (longest_after bs valid v)))
    by false t = let one = error_none (drop valid bs) some t in absurd (none_some e one)

-- the byte after the valid ones
after_valid : (bs : List ℕ) (valid : ℕ) → get_or (drop valid bs) 0 0 ≡ get_or bs valid 0
after_valid bs valid = get_or-drop valid bs 0 0 ∙ ap (λ n. get_or bs n 0) (let e : valid + 0 ≡ valid = omega arith in e)

pub lead_place : (bs : List ℕ) (valid count : ℕ) → IsValidUpTo bs valid → utf8_error_len (drop valid bs) ≡ Some count → is_in_range 0xC2 0xF4 (get_or bs valid 0) ≡ true → IsTextPlace bs (valid + count)
lead_place bs valid count v e t = place_after bs valid v count (valid + count) refl
    (subst (Found (drop valid bs)) e (stop_some (drop valid bs) (let short = v.short in omega (arith, short, left bs valid v)) (ap (is_in_range 0xC2 0xF4) (after_valid bs valid) ∙ t) (longest_after bs valid v)))

pub other_place : (bs : List ℕ) (valid : ℕ) → IsValidUpTo bs valid → is_in_range 0xC2 0xF4 (get_or bs valid 0) ≡ false → IsTextPlace bs valid
other_place bs valid v t = place_after bs valid v 0 valid (omega arith)
    (stop_none (drop valid bs) (let short = v.short in omega (arith, short, left bs valid v)) (ap (is_in_range 0xC2 0xF4) (after_valid bs valid) ∙ t) (longest_after bs valid v))
