-- The difference of two lists, computed at some keys alone.
use Rattle.std.specs.Prelude.{◌≡◌, List, [], ◌∷◌, ◌++◌, Contains, option_to_list}
use Rattle.std.specs.declared.cmp.Ordering.{Ordering}
use Rattle.kz_types.specs.Ordered.{find}

-- the items of a list under these keys, in the order of the keys
abbrev pub at_keys : {A K : Type 0} → (K → K → Ordering) → (A → K) → List K → List A → List A
at_keys cmp key [] xs = []
at_keys cmp key (k ∷ ks) xs = option_to_list (find cmp key k xs) ++ at_keys cmp key ks xs

-- two lists find the same under each key that isn't one of these
abbrev pub Covers : {A K : Type 0} → (K → K → Ordering) → (A → K) → List K → List A → List A → Type 0
Covers {A} {K} cmp key ks a b = (k : K) → (Contains ks k → ⊥) → find cmp key k a ≡ find cmp key k b
