-- Lemmas on texts that need no escape.
use Rattle.std.proofs.Common.{◌≡◌, ℕ, ◌≤◌, Bool, true, false, ◌==◌, List, [], ◌∷◌, ◌++◌, append_assoc, refl, sym, ap, ◌∙◌}
use Rattle.std.specs.Prelude.{not}
use Rattle.std.proofs.lemmas.Bool.{and_parts, ltb-true, eqb-false}
use Rattle.json.specs.Print.{escape_byte, escape}
use Rattle.json.proofs.Printed.Strings.{escape_byte_plain}
use Rattle.kz_body_texts.specs.Texts.{is_plain, are_plain}

escape_joined : (xs ys : List ℕ) → escape (xs ++ ys) ≡ escape xs ++ escape ys
escape_joined [] ys = refl
escape_joined (x ∷ xs) ys = ap (λ l. escape_byte x ++ l) (escape_joined xs ys) ∙ sym (append_assoc (escape_byte x) (escape xs) (escape ys))

pub plain_one : (x : ℕ) → (x ≡ 34 → ⊥) → (x ≡ 92 → ⊥) → 32 ≤ x → escape (x ∷ []) ≡ x ∷ []
plain_one x q b l = ap (λ e. e ++ []) (escape_byte_plain x q b l)

pub plain_joined : (xs ys : List ℕ) → escape xs ≡ xs → escape ys ≡ ys → escape (xs ++ ys) ≡ xs ++ ys
plain_joined xs ys p q = escape_joined xs ys ∙ ap (λ l. l ++ escape ys) p ∙ ap (λ l. xs ++ l) q

-- a plain byte
pub plain_at : (x : ℕ) → is_plain x ≡ true → escape_byte x ≡ x ∷ []
plain_at x h =
    let one = and_parts _ _ h in
    let two = and_parts _ _ one.1 in
    escape_byte_plain x (eqb-false x 34 (not_false (x == 34) two.0)) (eqb-false x 92 (not_false (x == 92) two.1)) (ltb-true 31 x one.0)
  where
    not_false : (b : Bool) → not b ≡ true → b ≡ false
    not_false true e = sym e
    not_false false e = refl

-- plain bytes
pub plain_text : (bytes : List ℕ) → are_plain bytes ≡ true → escape bytes ≡ bytes
plain_text [] h = refl
plain_text (byte ∷ bytes) h =
    let parts = and_parts _ _ h in
    ap (λ l. l ++ escape bytes) (plain_at byte parts.0) ∙ ap (λ l. byte ∷ l) (plain_text bytes parts.1)
