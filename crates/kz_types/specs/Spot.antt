-- The place of a key in a list that rises.
use Rattle.std.specs.Prelude.{◌≡◌, ℕ, ◌<◌, ◌≤◌, List, length, Result, MatchResult, HoldsAt}
use Rattle.std.specs.List.{AllWithin}
use Rattle.std.specs.declared.cmp.Ordering.{Ordering}
use Rattle.std.specs.declared.cmp.Ordering.TheVariants.{Less}

-- The place of the item with this key, or, where there is none, the place before the first item with a greater key.
abbrev pub IsSpot : {A K : Type 0} → (K → K → Ordering) → (A → K) → K → List A → Result ℕ ℕ → Type 0
IsSpot cmp key k xs r = MatchResult r
    (λ i. (i < length xs) × HoldsAt (λ y. key y ≡ k) xs i)
    (λ i. (i ≤ length xs) × AllWithin (λ y. cmp (key y) k ≡ Less) xs 0 i × AllWithin (λ y. cmp k (key y) ≡ Less) xs i (length xs))
