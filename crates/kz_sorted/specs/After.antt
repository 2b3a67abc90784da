-- The items of a list that come after a key. `cmp` orders the keys, and `key` gives the key of an item.
use Rattle.std.specs.Prelude.{Bool, true, false, Option, Some, None, List, filter}
use Rattle.std.specs.declared.cmp.Ordering.{Ordering}
use Rattle.std.specs.Ordering.{match_ordering}

-- whether an item's key is above this one, as each is where no key is given
abbrev pub is_after : {A K : Type 0} → (K → K → Ordering) → (A → K) → Option K → A → Bool
is_after cmp key None x = true
is_after cmp key (Some k) x = match_ordering (cmp k (key x)) true false false

-- the items whose keys are above this one, or all where no key is given, in their order
abbrev pub items_after : {A K : Type 0} → (K → K → Ordering) → (A → K) → Option K → List A → List A
items_after cmp key k xs = filter (is_after cmp key k) xs
