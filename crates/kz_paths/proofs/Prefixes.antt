-- When a path is at or below another.
use Rattle.std.proofs.Common.{◌≡◌, ℕ, suc, Bool, true, false, ◌&&◌, ◌||◌, List, [], ◌∷◌, ◌<◌, length, get_or, refl, sym, ap, ◌∙◌, arith, ne_eqb}
use Rattle.std.specs.Bool.{nat_eq}
use Rattle.std.specs.Str.{bytes_eq}
use Rattle.std.specs.List.{starts_with}
use Rattle.std.proofs.lemmas.Bool.Decides.{nat_tests}
use Rattle.kz_types.specs.Paths.{is_below}

mirror : (a b : ℕ) → nat_eq a b ≡ nat_eq b a
mirror a b = grind (arith, nat_tests)

and_true : (a : Bool) → (a && true) ≡ a
and_true true = refl
and_true false = refl

regroup : (a b c : Bool) → (a && (b && c)) ≡ ((a && b) && c)
regroup true b c = refl
regroup false b c = refl

pub below_is : (root path : List ℕ) → is_below root path ≡ (starts_with nat_eq path root && nat_eq (get_or path (length root) 0) 47)
below_is [] [] = refl
below_is [] (p ∷ ps) = and_true (nat_eq 47 p) ∙ mirror 47 p
below_is (r ∷ rs) [] = refl
below_is (r ∷ rs) (p ∷ ps) = ap (λ b. nat_eq r p && b) (below_is rs ps) ∙ regroup (nat_eq r p) (starts_with nat_eq ps rs) (nat_eq (get_or ps (length rs) 0) 47)

one_more : (m n : ℕ) → nat_eq m n ≡ nat_eq (suc m) (suc n)
one_more m n = grind (arith, nat_tests)

same_is : (root path : List ℕ) → bytes_eq path root ≡ (starts_with nat_eq path root && nat_eq (length path) (length root))
same_is [] [] = refl
same_is [] (p ∷ ps) = sym (ne_eqb (length (p ∷ ps)) 0 (λ e. omega arith))
same_is (r ∷ rs) [] = refl
same_is (r ∷ rs) (p ∷ ps) =
    ap (λ b. b && bytes_eq ps rs) (mirror p r) ∙ ap (λ b. nat_eq r p && b) (same_is rs ps) ∙ regroup (nat_eq r p) (starts_with nat_eq ps rs) (nat_eq (length ps) (length rs))
    ∙ ap (λ b. (nat_eq r p && starts_with nat_eq ps rs) && b) (one_more (length ps) (length rs))

by_parts : (s l b : Bool) → ((s && l) || (s && b)) ≡ (s && (l || b))
by_parts true l b = refl
by_parts false l b = refl

pub at_or_below : (root path : List ℕ)
    → (bytes_eq path root || is_below root path) ≡ (starts_with nat_eq path root && (nat_eq (length path) (length root) || nat_eq (get_or path (length root) 0) 47))
at_or_below root path =
    ap (λ b. b || is_below root path) (same_is root path) ∙ ap (λ b. (starts_with nat_eq path root && nat_eq (length path) (length root)) || b) (below_is root path)
    ∙ by_parts (starts_with nat_eq path root) (nat_eq (length path) (length root)) (nat_eq (get_or path (length root) 0) 47)

and_false : (a : Bool) → (a && false) ≡ false
and_false true = refl
and_false false = refl

-- A longer path that has no slash where the other ends isn't below it.
pub elsewhere : (root path : List ℕ) → length root < length path → (get_or path (length root) 0 ≡ 47 → ⊥) → false ≡ (bytes_eq path root || is_below root path)
elsewhere root path lt other = sym (
    at_or_below root path
    ∙ ap (λ b. starts_with nat_eq path root && (b || nat_eq (get_or path (length root) 0) 47)) (ne_eqb (length path) (length root) (λ e. omega arith))
    ∙ ap (λ b. starts_with nat_eq path root && b) (ne_eqb (get_or path (length root) 0) 47 other)
    ∙ and_false (starts_with nat_eq path root))
