-- Lemmas on the parts of paths.
use Rattle.std.proofs.Common.{◌≡◌, ℕ, ◌≤◌, List, [], ◌∷◌, length, None, Some, true, false, refl, sym, arith}
use Rattle.std.specs.Prelude.{Option, Result, Ok, Err, IfOk, IfSome}
use Rattle.kz_types.specs.declared.key.EntityKey.{EntityKey}
use Rattle.kz_types.specs.PathRule.{is_path}
use Rattle.kz_types.proofs.KeyLemmas.{path_of_key_of}
use Rattle.kz_types.specs.Paths.{key_of, key_of_parts, is_scaffold_of_parts, path_of}

-- seven parts hold no entity
pub key_of_more : (ps : List (List ℕ)) → 7 ≤ length ps → key_of_parts ps ≡ None
key_of_more [] l = refl
key_of_more (a ∷ []) l = absurd (omega arith)
key_of_more (a ∷ b ∷ []) l = refl
key_of_more (a ∷ b ∷ c ∷ []) l = absurd (omega arith)
key_of_more (a ∷ b ∷ c ∷ d ∷ []) l = absurd (omega arith)
key_of_more (a ∷ b ∷ c ∷ d ∷ e ∷ []) l = absurd (omega arith)
key_of_more (a ∷ b ∷ c ∷ d ∷ e ∷ f ∷ []) l = absurd (omega arith)
key_of_more (a ∷ b ∷ c ∷ d ∷ e ∷ f ∷ g ∷ more) l = refl

-- and are no parent of entities
pub scaffold_of_more : (ps : List (List ℕ)) → 7 ≤ length ps → is_scaffold_of_parts ps ≡ false
scaffold_of_more [] l = refl
scaffold_of_more (a ∷ []) l = refl
scaffold_of_more (a ∷ b ∷ []) l = refl
scaffold_of_more (a ∷ b ∷ c ∷ []) l = refl
scaffold_of_more (a ∷ b ∷ c ∷ d ∷ []) l = absurd (omega arith)
scaffold_of_more (a ∷ b ∷ c ∷ d ∷ e ∷ []) l = absurd (omega arith)
scaffold_of_more (a ∷ b ∷ c ∷ d ∷ e ∷ f ∷ more) l = refl

-- the entity that was read has the path that it was read from
pub belongs : {E : Type 0} (path : List ℕ) (r : Result (Option EntityKey) E) → is_path path ≡ true → IfOk r (λ key. key ≡ key_of path) → IfOk r (λ key. IfSome key (λ k. path_of k ≡ path))
belongs path (Err e) rule is = tt
belongs path (Ok None) rule is = tt
belongs path (Ok (Some key)) rule is = path_of_key_of path key rule (sym is)
