-- The last path of znodes is that of the last of them.
use Rattle.std.proofs.Common.{◌≡◌, ℕ, zero, suc, List, [], ◌∷◌, length, get_or, Some, refl, arith}
use Rattle.kz_types.specs.declared.tree.Row.{Row}
use Rattle.kz_spec_machine.specs.Driver.{last_path}

pub last_path_is : (rows : List Row) (n : ℕ) (d : Row) → suc n ≡ length rows → Some (get_or rows n d).path ≡ last_path rows
last_path_is [] n d h = absurd (omega (arith, h))
last_path_is (x ∷ []) zero d h = refl
last_path_is (x ∷ []) (suc n) d h = absurd (omega (arith, h))
last_path_is (x ∷ y ∷ ys) zero d h = absurd (omega (arith, h))
last_path_is (x ∷ y ∷ ys) (suc n) d h = last_path_is (y ∷ ys) n d (omega (arith, h))
