-- Nothing of the migrated area stands below a control znode.
use Rattle.std.proofs.Common.{◌≡◌, ℕ, Bool, true, false, ◌||◌, List, ◌∷◌, ◌++◌, refl, ap}
use Rattle.std.specs.Prelude.{codes}
use Rattle.std.specs.List.{list_any}
use Rattle.kz_types.specs.Paths.{is_migrated, roots, control_paths, is_below}
use Rattle.kz_laws_machine.proofs.Below.{below_is}

below_controller : (x : List ℕ) → is_migrated (codes "/controller" ++ 47 ∷ x) ≡ false
unfolding is_migrated roots
below_controller x = refl

below_epoch : (x : List ℕ) → is_migrated (codes "/controller_epoch" ++ 47 ∷ x) ≡ false
unfolding is_migrated roots
below_epoch x = refl

below_migration : (x : List ℕ) → is_migrated (codes "/migration" ++ 47 ∷ x) ≡ false
unfolding is_migrated roots
below_migration x = refl

not_below : (above p : List ℕ) (b : Bool) → ((x : List ℕ) → is_migrated (above ++ 47 ∷ x) ≡ false) → is_migrated p ≡ true → is_below above p ≡ b → b ≡ false
not_below above p true outside inside is = absurd (let split = below_is above p is in let same = ap is_migrated split.1 in cc (outside split.0))
not_below above p false outside inside is = refl

none_of_three : (a b c : Bool) → a ≡ false → b ≡ false → c ≡ false → (a || (b || (c || false))) ≡ false
none_of_three false false false a b c = refl
none_of_three true y z a b c = absurd (cc)
none_of_three false true z a b c = absurd (cc)
none_of_three false false true a b c = absurd (cc)

pub migrated_free : (p : List ℕ) → is_migrated p ≡ true → list_any (λ control. is_below control p) control_paths ≡ false
unfolding control_paths
migrated_free p inside = none_of_three (is_below (codes "/controller") p) (is_below (codes "/controller_epoch") p) (is_below (codes "/migration") p)
    (not_below (codes "/controller") p (is_below (codes "/controller") p) below_controller inside refl)
    (not_below (codes "/controller_epoch") p (is_below (codes "/controller_epoch") p) below_epoch inside refl)
    (not_below (codes "/migration") p (is_below (codes "/migration") p) below_migration inside refl)
