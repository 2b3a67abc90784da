-- Lists whose items rise by a key. `cmp` orders the keys, and `key` gives the key of an item.
use Rattle.std.specs.Prelude.{◌≡◌, List, [], ◌∷◌, Option, Some, None, if◌then◌else◌, All, ⊤}
use Rattle.std.specs.declared.cmp.Ordering.{Ordering}
use Rattle.std.specs.declared.cmp.Ordering.TheVariants.{Less}
use Rattle.std.specs.Ordering.{match_ordering, is_eq}

-- the first item with this key
abbrev pub find : {A K : Type 0} → (K → K → Ordering) → (A → K) → K → List A → Option A
find cmp key k [] = None
find cmp key k (x ∷ xs) = if is_eq (cmp k (key x)) then Some x else find cmp key k xs

-- the list with this item at its place, instead of the one with its key
abbrev pub put : {A K : Type 0} → (K → K → Ordering) → (A → K) → A → List A → List A
put cmp key x [] = x ∷ []
put cmp key x (y ∷ ys) = match_ordering (cmp (key x) (key y)) (x ∷ y ∷ ys) (x ∷ ys) (y ∷ put cmp key x ys)

-- the list without the first item of this key
abbrev pub without : {A K : Type 0} → (K → K → Ordering) → (A → K) → K → List A → List A
without cmp key k [] = []
without cmp key k (x ∷ xs) = if is_eq (cmp k (key x)) then xs else x ∷ without cmp key k xs

-- these items, each put at its place: of two with one key the later one stands
abbrev pub all_put : {A K : Type 0} → (K → K → Ordering) → (A → K) → List A → List A → List A
all_put cmp key [] ys = ys
all_put cmp key (x ∷ xs) ys = all_put cmp key xs (put cmp key x ys)

-- the keys rise, from above this one on
abbrev pub RisesAbove : {A K : Type 0} → (K → K → Ordering) → (A → K) → K → List A → Type 0
RisesAbove cmp key k [] = ⊤
RisesAbove cmp key k (x ∷ xs) = (cmp k (key x) ≡ Less) × RisesAbove cmp key (key x) xs

-- the keys rise
abbrev pub Rises : {A K : Type 0} → (K → K → Ordering) → (A → K) → List A → Type 0
Rises cmp key [] = ⊤
Rises cmp key (x ∷ xs) = RisesAbove cmp key (key x) xs

-- each key of the list is below this one
abbrev pub AllBelow : {A K : Type 0} → (K → K → Ordering) → (A → K) → List A → K → Type 0
AllBelow cmp key xs k = All (λ x. cmp (key x) k ≡ Less) xs
