-- Whether a znode of an entity's parent stands at a path, by the number of its parts.
use Rattle.std.proofs.Common.{◌≡◌, ◌<◌, ℕ, false, ◌||◌, List, [], ◌∷◌, length, refl, arith}
use Rattle.kz_spec_data.specs.Metadata.{Image}
use Rattle.kz_spec_data.specs.Lookups.{is_parent_of_partitions, is_parent_of_clients}

-- no znode of a parent has fewer than four parts
pub none_of_few : (i : Image) (path : List ℕ) (ps : List (List ℕ)) → length ps < 4 → (is_parent_of_partitions i ps || is_parent_of_clients i path ps) ≡ false
none_of_few i path [] h = refl
none_of_few i path (a ∷ []) h = refl
none_of_few i path (a ∷ b ∷ []) h = refl
none_of_few i path (a ∷ b ∷ c ∷ []) h = refl
none_of_few i path (a ∷ b ∷ c ∷ d ∷ more) h = absurd (omega (arith, h))

-- none has more than five
pub none_of_many : (i : Image) (path : List ℕ) (ps : List (List ℕ)) → 5 < length ps → (is_parent_of_partitions i ps || is_parent_of_clients i path ps) ≡ false
none_of_many i path [] h = refl
none_of_many i path (a ∷ []) h = refl
none_of_many i path (a ∷ b ∷ []) h = refl
none_of_many i path (a ∷ b ∷ c ∷ []) h = refl
none_of_many i path (a ∷ b ∷ c ∷ d ∷ []) h = absurd (omega (arith, h))
none_of_many i path (a ∷ b ∷ c ∷ d ∷ e ∷ []) h = absurd (omega (arith, h))
none_of_many i path (a ∷ b ∷ c ∷ d ∷ e ∷ f ∷ more) h = refl
