-- Tables of texts that are lent.
use Rattle.std.proofs.Common.{◌≡◌, ℕ, zero, suc, ◌<◌, Bool, true, List, [], ◌∷◌, length, get_or, map, refl, ap, Bor, arith}
use Rattle.std.specs.Prelude.{◌||◌}
use Rattle.std.specs.List.{list_any, list_all}
use Rattle.kz_types.specs.PathRule.{is_path}
use Rattle.kz_types.specs.Paths.{roots, base_paths, control_paths}
use Rattle.kz_types.proofs.OnLiterals.{values_on_literals}
use Rattle.kz_types.proofs.PathRules.{both_hold}

-- a test of what is lent
pub any_lent : (p : List ℕ → Bool) (texts : List (Bor (List ℕ))) → list_any (λ t. p t.now) texts ≡ list_any p (map (λ t. t.now) texts)
any_lent p [] = refl
any_lent p (t ∷ ts) = ap (λ b. p t.now || b) (any_lent p ts)

-- what holds of all that is lent holds of each
pub all_lent : (p : List ℕ → Bool) (texts : List (Bor (List ℕ))) (i : ℕ) (d : Bor (List ℕ)) → list_all p (map (λ t. t.now) texts) ≡ true → i < length texts → p (get_or texts i d).now ≡ true
all_lent p [] i d h lt = absurd (omega (arith, lt))
all_lent p (t ∷ ts) zero d h lt = (both_hold (p t.now) (list_all p (map (λ t. t.now) ts)) h).0
all_lent p (t ∷ ts) (suc i) d h lt = all_lent p ts i d (both_hold (p t.now) (list_all p (map (λ t. t.now) ts)) h).1 (omega (arith, lt))

-- ---- the tables

pub roots_are_paths : list_all is_path roots ≡ true
unfolding values_on_literals
roots_are_paths = refl

pub bases_are_paths : list_all is_path base_paths ≡ true
unfolding values_on_literals
bases_are_paths = refl

pub controls_are_paths : list_all is_path control_paths ≡ true
unfolding values_on_literals
controls_are_paths = refl
