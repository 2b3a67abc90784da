-- What stands in a list that is made of others.
use Rattle.std.proofs.Common.{◌≡◌, ◌⊎◌, List, [], ◌∷◌, map, Contains, sym, subst, inl, inr}
use Rattle.std.specs.List.{flat_map}
use Rattle.std.proofs.lemmas.List.Elements.{Contains-append_left, Contains-append_right, Contains-append_cases}
use Rattle.kz_types.proofs.Lookup.{Contains-cons_cases, Contains-head, Contains-tail, Contains-nil}

-- An item of one of the lists that are made of these.
pub record FlatFrom {X A : Type 0} (f : X → List A) (xs : List X) (y : A) : Type 0 where
  pub source : X
  pub has : Contains xs source
  pub gives : Contains (f source) y

pub from_flat : {X A : Type 0} (f : X → List A) (xs : List X) (y : A) → Contains (flat_map f xs) y → FlatFrom f xs y
from_flat f [] y has = absurd (Contains-nil y has)
from_flat {X} {A} f (x ∷ xs) y has = by (Contains-append_cases (f x) (flat_map f xs) y has) (from_flat f xs y)
  where
    by : Contains (f x) y ⊎ Contains (flat_map f xs) y → (Contains (flat_map f xs) y → FlatFrom f xs y) → FlatFrom f (x ∷ xs) y
    by (inl first) rest = record { source = x; has = Contains-head x xs; gives = first }
    by (inr later) rest = let r = rest later in record { source = r.source; has = Contains-tail x xs r.source r.has; gives = r.gives }

pub to_flat : {X A : Type 0} (f : X → List A) (xs : List X) (x : X) (y : A) → Contains xs x → Contains (f x) y → Contains (flat_map f xs) y
to_flat f [] x y has gives = absurd (Contains-nil x has)
to_flat f (z ∷ zs) x y has gives = elim (Contains-cons_cases z zs x has) [
  | inl e ↦ Contains-append_left (f z) (flat_map f zs) y (subst (λ w. Contains (f w) y) (sym e) gives)
  | inr later ↦ Contains-append_right (f z) (flat_map f zs) y (to_flat f zs x y later gives)
]

-- An item that is made of one of these.
pub record MapFrom {X A : Type 0} (f : X → A) (xs : List X) (y : A) : Type 0 where
  pub source : X
  pub has : Contains xs source
  pub is : y ≡ f source

pub from_map : {X A : Type 0} (f : X → A) (xs : List X) (y : A) → Contains (map f xs) y → MapFrom f xs y
from_map f [] y has = absurd (Contains-nil y has)
from_map f (x ∷ xs) y has = elim (Contains-cons_cases (f x) (map f xs) y has) [
  | inl e ↦ record { source = x; has = Contains-head x xs; is = sym e }
  | inr later ↦ let r = from_map f xs y later in record { source = r.source; has = Contains-tail x xs r.source r.has; is = r.is }
]

pub to_map : {X A : Type 0} (f : X → A) (xs : List X) (x : X) → Contains xs x → Contains (map f xs) (f x)
to_map f [] x has = absurd (Contains-nil x has)
to_map f (z ∷ zs) x has = elim (Contains-cons_cases z zs x has) [
  | inl e ↦ subst (λ w. Contains (f z ∷ map f zs) (f w)) e (Contains-head (f z) (map f zs))
  | inr later ↦ Contains-tail (f z) (map f zs) (f x) (to_map f zs x later)
]
