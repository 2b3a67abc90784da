-- The last znode of a path in a list, by a look-up that tells what the list has at the path.
use Rattle.std.proofs.Common.{◌≡◌, ℕ, true, List, Option, Some, None, Contains, refl, sym, ap, ◌∙◌, subst}
use Rattle.std.specs.Prelude.{option_map}
use Rattle.kz_types.specs.declared.tree.Rendered.{Rendered}
use Rattle.kz_types.specs.declared.bodies.Body.{Body}
use Rattle.kz_types.specs.declared.key.EntityKey.{EntityKey}
use Rattle.kz_types.specs.Paths.{is_path, key_of}
use Rattle.kz_types.proofs.KeyLemmas.{path_of_key_of}
use Rattle.kz_types.proofs.Lookup.{some_is_none, same_some}
use Rattle.kz_spec_data.specs.Tree.{path_of_rendered}
use Rattle.kz_spec_data.specs.Rendering.{znode}
use Rattle.kz_laws_values.proofs.Legal.{IsGoodKey}
use Rattle.kz_laws_values.proofs.Keys.{path_holds}
use Rattle.kz_laws_values.proofs.Texts.{key_good}
use Rattle.kz_laws_znodes.proofs.Lasts.{last_at, last_found, last_there}

-- Each znode of the list at the path is what is found, and what is found is one of them.
pub record Finds (p : List ℕ) (xs : List Rendered) (found : Option Rendered) : Type 0 where
  pub each : (r : Rendered) → Contains xs r → r.path ≡ p → found ≡ Some r
  pub there : (r : Rendered) → found ≡ Some r → Contains xs r × (r.path ≡ p)

pub settled : (p : List ℕ) (xs : List Rendered) (found : Option Rendered) → Finds p xs found → last_at p xs ≡ found
settled p xs found finds = by (last_at p xs) found refl refl
  where
    by : (a b : Option Rendered) → last_at p xs ≡ a → found ≡ b → last_at p xs ≡ found
    by (Some r) b e f = let l = last_found p xs r e in e ∙ sym (finds.each r l.0 l.1)
    by None None e f = e ∙ sym f
    by None (Some r) e f =
        let t = finds.there r f in
        let l = last_there p xs r t.0 t.1 in
        absurd (some_is_none (sym l.1 ∙ e))

-- ---- znodes that stand for keys

-- Each znode is that of a good key with what is held for it, and each good key for which something is held has one.
pub record Keyed (xs : List Rendered) (held : EntityKey → Option Body) : Type 0 where
  pub each : (r : Rendered) → Contains xs r → (k : EntityKey) × IsGoodKey k × ((b : Body) × (held k ≡ Some b) × (r ≡ znode k b))
  pub there : (k : EntityKey) (b : Body) → IsGoodKey k → held k ≡ Some b → Contains xs (znode k b)

-- the znode of the key that a path holds
abbrev pub given : (EntityKey → Option Body) → Option EntityKey → Option Rendered
given held None = None
given held (Some k) = option_map (znode k) (held k)

module _ (p : List ℕ) (rule : is_path p ≡ true) (xs : List Rendered) (held : EntityKey → Option Body) (keyed : Keyed xs held) where
  each_given : (r : Rendered) → Contains xs r → r.path ≡ p → given held (key_of p) ≡ Some r
  each_given r has at =
      let m = keyed.each r has in
      let k : EntityKey = m.0 in
      let holds : key_of p ≡ Some k = ap key_of (sym at ∙ ap path_of_rendered m.2.2) ∙ path_holds k m.1.0 m.1.1 in
      ap (given held) holds ∙ ap (option_map (znode k)) m.2.1 ∙ ap (λ x. Some x) (sym m.2.2)

  given_by : (k : EntityKey) → key_of p ≡ Some k → (r : Rendered) (o : Option Body) → held k ≡ o → option_map (znode k) o ≡ Some r → Contains xs r × (r.path ≡ p)
  given_by k e r None f is = absurd (some_is_none (sym is))
  given_by k e r (Some b) f is =
      let same : znode k b ≡ r = same_some (znode k b) r is in
      (subst (Contains xs) same (keyed.there k b (key_good p k rule e) f), ap path_of_rendered (sym same) ∙ path_of_key_of p k rule e)

  given_there : (k : Option EntityKey) → key_of p ≡ k → (r : Rendered) → given held k ≡ Some r → Contains xs r × (r.path ≡ p)
  given_there None e r is = absurd (some_is_none (sym is))
  given_there (Some k) e r is = given_by k e r (held k) refl is

  pub keyed_at : last_at p xs ≡ given held (key_of p)
  keyed_at = settled p xs (given held (key_of p)) (record { each = each_given; there = λ r is. given_there (key_of p) refl r is })
