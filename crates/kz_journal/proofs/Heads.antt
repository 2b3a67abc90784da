-- What a gate and its four bytes of length say.
use Rattle.std.proofs.Common.{◌≡◌, ◌≢◌, ℕ, ◌≤◌, ◌==◌, false, List, [], ◌∷◌, length, take, drop, get_or, refl, sym, ◌∙◌, subst, arith}
use Rattle.std.proofs.lemmas.Bool.Decides.{nat_tests}
use Rattle.kz_spec_data.specs.Frames.{is_open, open_gate}

-- five bytes
pub record Head (buf here : List ℕ) : Type 0 where
  pub gate : is_open here ≡ (get_or buf 0 0 == open_gate)
  pub size : take 4 (drop 1 here) ≡ get_or buf 1 0 ∷ get_or buf 2 0 ∷ get_or buf 3 0 ∷ get_or buf 4 0 ∷ []

pub head_of : (buf here : List ℕ) → 5 ≤ length here → buf ≡ take 5 here → Head buf here
head_of buf [] some is = absurd (omega arith)
head_of buf (a ∷ []) some is = absurd (omega arith)
head_of buf (a ∷ b ∷ []) some is = absurd (omega arith)
head_of buf (a ∷ b ∷ d ∷ []) some is = absurd (omega arith)
head_of buf (a ∷ b ∷ d ∷ e ∷ []) some is = absurd (omega arith)
head_of buf (a ∷ b ∷ d ∷ e ∷ f ∷ rest) some is = subst (λ (l : List ℕ). Head l (a ∷ b ∷ d ∷ e ∷ f ∷ rest)) (sym is) (record { gate = refl; size = refl })

-- four bytes
pub four_of : (buf here : List ℕ) → 4 ≤ length here → buf ≡ take 4 here → take 4 here ≡ get_or buf 0 0 ∷ get_or buf 1 0 ∷ get_or buf 2 0 ∷ get_or buf 3 0 ∷ []
four_of buf [] some is = absurd (omega arith)
four_of buf (a ∷ []) some is = absurd (omega arith)
four_of buf (a ∷ b ∷ []) some is = absurd (omega arith)
four_of buf (a ∷ b ∷ d ∷ []) some is = absurd (omega arith)
four_of buf (a ∷ b ∷ d ∷ e ∷ rest) some is = subst (λ (l : List ℕ). a ∷ b ∷ d ∷ e ∷ [] ≡ get_or l 0 0 ∷ get_or l 1 0 ∷ get_or l 2 0 ∷ get_or l 3 0 ∷ []) (sym is) refl

-- a gate that isn't open
pub not_open : (buf here : List ℕ) → 5 ≤ length here → buf ≡ take 5 here → get_or buf 0 0 ≢ open_gate → is_open here ≡ false
not_open buf here some is other =
    let test : (get_or buf 0 0 == open_gate) ≡ false = grind (arith, nat_tests) in
    (head_of buf here some is).gate ∙ test
