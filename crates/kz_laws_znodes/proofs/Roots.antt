-- What the roots have at a path.
use Rattle.std.proofs.Common.{◌≡◌, ◌≢◌, ℕ, Bool, true, false, cond, ◌||◌, List, [], ◌∷◌, map, Option, Some, None, Contains, refl, sym, ap, ◌∙◌, subst, inl, inr}
use Rattle.std.specs.Str.{bytes_eq}
use Rattle.std.proofs.lemmas.Slice.Eq.{bytes_eq-Decides}
use Rattle.std.proofs.lemmas.Bool.{false≢true}
use Rattle.kz_types.specs.declared.tree.Rendered.{Rendered}
use Rattle.kz_types.specs.declared.key.EntityKey.{EntityKey}
use Rattle.kz_types.specs.declared.key.EntityKey.TheVariants as key
use Rattle.kz_types.specs.Paths.{roots, is_among, key_of, path_of}
use Rattle.kz_types.specs.Order.{bytes_cmp}
use Rattle.kz_types.specs.Ordered.{find}
use Rattle.kz_types.proofs.Order.{bytes_order}
use Rattle.kz_types.proofs.Lookup.{some_is_none, same_some, find_here, find_skip, Contains-head, Contains-tail}
use Rattle.kz_spec_data.specs.Tree.{path_of_rendered}
use Rattle.kz_spec_data.specs.Rendering.{bare}
use Rattle.kz_laws_znodes.proofs.Scaffolds.{root_is}
use Rattle.kz_laws_znodes.proofs.FoundQuotas.{producer_key}

-- the znode without data of this path, where it is there
abbrev pub bare_at : List ℕ → Bool → Option Rendered
bare_at p there = cond there (Some (bare p)) None

pub among_found : (p : List ℕ) (paths : List (List ℕ)) → find bytes_cmp path_of_rendered p (map bare paths) ≡ bare_at p (is_among paths p)
among_found p [] = refl
among_found p (x ∷ xs) = by (bytes_eq p x) (bytes_eq-Decides p x).0 (bytes_eq-Decides p x).1 (among_found p xs)
  where
    by : (t : Bool) → (t ≡ true → p ≡ x) → (p ≡ x → t ≡ true) → find bytes_cmp path_of_rendered p (map bare xs) ≡ bare_at p (is_among xs p)
        → find bytes_cmp path_of_rendered p (bare x ∷ map bare xs) ≡ bare_at p (t || is_among xs p)
    by true is back rest = find_here bytes_order path_of_rendered p (bare x) (map bare xs) (is refl) ∙ ap (λ path. Some (bare path)) (sym (is refl))
    by false is back rest = find_skip bytes_order path_of_rendered p (bare x) (map bare xs) (λ e. false≢true (back e)) ∙ rest

pub among_contained : (p : List ℕ) (paths : List (List ℕ)) → is_among paths p ≡ true → Contains paths p
among_contained p [] h = absurd (false≢true h)
among_contained p (x ∷ xs) h = by (bytes_eq p x) (bytes_eq-Decides p x).0 h (λ rest. among_contained p xs rest)
  where
    by : (t : Bool) → (t ≡ true → p ≡ x) → t || is_among xs p ≡ true → (is_among xs p ≡ true → Contains xs p) → Contains (x ∷ xs) p
    by true is h rest = subst (Contains (x ∷ xs)) (sym (is refl)) (Contains-head x xs)
    by false is h rest = Contains-tail x xs p (rest h)

-- a path that holds another entity than the producer ids is no root
pub no_root : (p : List ℕ) (k : EntityKey) → key_of p ≡ Some k → k ≢ key.Producer → is_among roots p ≡ false
no_root p k e other = by (is_among roots p) refl
  where
    by : (t : Bool) → is_among roots p ≡ t → t ≡ false
    by false h = refl
    by true h = elim (root_is p (among_contained p roots h)) [
      | inl scaffold ↦ absurd (some_is_none (sym e ∙ scaffold.none))
      | inr is ↦ absurd (other (same_some k key.Producer (sym e ∙ ap key_of is ∙ producer_key)))
    ]

-- the root of the producer ids is there
pub producer_root : (p : List ℕ) → p ≡ path_of key.Producer → is_among roots p ≡ true
unfolding roots path_of
producer_root p is = ap (is_among roots) is
