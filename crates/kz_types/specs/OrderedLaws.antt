-- Laws of lists that rise by a key, for items and keys of any type and any total order.
use Rattle.std.specs.Prelude.{ℕ, ◌≡◌, ◌≢◌, List, [], ◌∷◌, ◌++◌, map, reverse, Some, None, All, Contains, option_map, Result, Ok, Err, slice_set, slice_index_or, length, insert, remove}
use Rattle.std.specs.Option.{option_or}
use Rattle.std.specs.declared.cmp.Ordering.{Ordering}
use Rattle.std.specs.declared.cmp.Ordering.TheVariants.{Less}
use Rattle.std.specs.List.Sorted.{IsBinarySearchResult, IsSearchInRange}
use Rattle.kz_types.specs.Order.{TotalOrder}
use Rattle.kz_types.specs.Spot.{IsSpot}
use Rattle.kz_types.specs.Ordered.{find, put, without, all_put, Rises, AllBelow}

-- ---- look-ups after a change

-- An item that was put is found under its key.
abbrev pub PutIsFound : (A K : Type 0) → Type 0
PutIsFound A K = (cmp : K → K → Ordering) (key : A → K) → TotalOrder cmp → (x : A) (ys : List A) → find cmp key (key x) (put cmp key x ys) ≡ Some x

-- Under each other key a put leaves what was found.
abbrev pub PutLeavesOthers : (A K : Type 0) → Type 0
PutLeavesOthers A K = (cmp : K → K → Ordering) (key : A → K) → TotalOrder cmp → (x : A) (ys : List A) (k : K) → k ≢ key x → find cmp key k (put cmp key x ys) ≡ find cmp key k ys

-- Nothing is found under a key that was taken out of a list that rises.
abbrev pub WithoutIsNotFound : (A K : Type 0) → Type 0
WithoutIsNotFound A K = (cmp : K → K → Ordering) (key : A → K) → TotalOrder cmp → (k : K) (xs : List A) → Rises cmp key xs → find cmp key k (without cmp key k xs) ≡ None

-- Under each other key, what was found is found.
abbrev pub WithoutLeavesOthers : (A K : Type 0) → Type 0
WithoutLeavesOthers A K = (cmp : K → K → Ordering) (key : A → K) → TotalOrder cmp → (j : K) (xs : List A) (k : K) → k ≢ j → find cmp key k (without cmp key j xs) ≡ find cmp key k xs

-- Of many items, the last one with a key is found, and else what was there.
abbrev pub AllPutFindsLast : (A K : Type 0) → Type 0
AllPutFindsLast A K = (cmp : K → K → Ordering) (key : A → K) → TotalOrder cmp → (k : K) (xs ys : List A) → find cmp key k (all_put cmp key xs ys) ≡ find cmp key k (reverse xs ++ ys)

-- ---- the order is kept

-- A list that rises still does after a put.
abbrev pub PutRises : (A K : Type 0) → Type 0
PutRises A K = (cmp : K → K → Ordering) (key : A → K) → TotalOrder cmp → (x : A) (ys : List A) → Rises cmp key ys → Rises cmp key (put cmp key x ys)

-- It does after an item is taken out.
abbrev pub WithoutRises : (A K : Type 0) → Type 0
WithoutRises A K = (cmp : K → K → Ordering) (key : A → K) → TotalOrder cmp → (k : K) (xs : List A) → Rises cmp key xs → Rises cmp key (without cmp key k xs)

-- It does after many items are put, whatever their order.
abbrev pub AllPutRises : (A K : Type 0) → Type 0
AllPutRises A K = (cmp : K → K → Ordering) (key : A → K) → TotalOrder cmp → (xs ys : List A) → Rises cmp key ys → Rises cmp key (all_put cmp key xs ys)

-- ---- what is found

-- What is found is an item of the list, and has the key that was asked.
abbrev pub FoundHasTheKey : (A K : Type 0) → Type 0
FoundHasTheKey A K = (cmp : K → K → Ordering) (key : A → K) → TotalOrder cmp → (k : K) (xs : List A) (y : A) → find cmp key k xs ≡ Some y → Contains xs y × (key y ≡ k)

-- In a list that rises each item is found under its key.
abbrev pub ItemIsFound : (A K : Type 0) → Type 0
ItemIsFound A K = (cmp : K → K → Ordering) (key : A → K) → TotalOrder cmp → (xs : List A) (y : A) → Rises cmp key xs → Contains xs y → find cmp key (key y) xs ≡ Some y

-- Nothing is found under a key below that of the first item.
abbrev pub NothingBelowTheFirst : (A K : Type 0) → Type 0
NothingBelowTheFirst A K = (cmp : K → K → Ordering) (key : A → K) → TotalOrder cmp → (k : K) (x : A) (xs : List A) → Rises cmp key (x ∷ xs) → cmp k (key x) ≡ Less → find cmp key k (x ∷ xs) ≡ None

-- Two lists that rise and find the same under each key are equal.
abbrev pub SameItems : (A K : Type 0) → Type 0
SameItems A K = (cmp : K → K → Ordering) (key : A → K) → TotalOrder cmp → (xs ys : List A) → Rises cmp key xs → Rises cmp key ys → ((k : K) → find cmp key k xs ≡ find cmp key k ys) → xs ≡ ys

-- ---- lists joined end to end

-- In two lists joined end to end, what the first finds is found, and else what the second finds. No order is needed.
abbrev pub FoundInEither : (A K : Type 0) → Type 0
FoundInEither A K = (cmp : K → K → Ordering) (key : A → K) (k : K) (xs ys : List A) → find cmp key k (xs ++ ys) ≡ option_or (find cmp key k xs) (find cmp key k ys)

-- Two lists that rise make one that rises, where each key of the first is below each key of the second.
abbrev pub JoinedRises : (A K : Type 0) → Type 0
JoinedRises A K = (cmp : K → K → Ordering) (key : A → K) → TotalOrder cmp → (xs ys : List A) → Rises cmp key xs → Rises cmp key ys → All (λ y. AllBelow cmp key xs (key y)) ys → Rises cmp key (xs ++ ys)

-- An item whose key is above all others is put at the end.
abbrev pub GreatestIsPutLast : (A K : Type 0) → Type 0
GreatestIsPutLast A K = (cmp : K → K → Ordering) (key : A → K) → TotalOrder cmp → (x : A) (xs : List A) → AllBelow cmp key xs (key x) → put cmp key x xs ≡ xs ++ x ∷ []

-- ---- items changed in place

-- Where a change keeps each key, the changed list finds what the item that was found becomes. No order is needed.
abbrev pub MappedIsFound : (A B K : Type 0) → Type 0
MappedIsFound A B K = (cmp : K → K → Ordering) (key : A → K) (name : B → K) (f : A → B) → ((x : A) → name (f x) ≡ key x) → (k : K) (xs : List A) → find cmp name k (map f xs) ≡ option_map f (find cmp key k xs)

-- The changed list rises too.
abbrev pub MappedRises : (A B K : Type 0) → Type 0
MappedRises A B K = (cmp : K → K → Ordering) (key : A → K) (name : B → K) (f : A → B) → ((x : A) → name (f x) ≡ key x) → (xs : List A) → Rises cmp key xs → Rises cmp name (map f xs)

-- ---- the place of a key

-- The item at the place of a key is found, a put writes over it, and without it the list is what removing it leaves.
abbrev pub PlaceOfItem : (A K : Type 0) → Type 0
PlaceOfItem A K = (cmp : K → K → Ordering) (key : A → K) → TotalOrder cmp → (k : K) (xs : List A) (i : ℕ) → Rises cmp key xs → IsSpot cmp key k xs (Ok i)
    → ((d : A) → find cmp key k xs ≡ Some (slice_index_or xs i d)) × (without cmp key k xs ≡ remove xs i) × ((x : A) → key x ≡ k → put cmp key x xs ≡ slice_set xs i x)

-- At the place of a key that no item has, nothing is found, a put inserts, and without the key the list is as it was.
abbrev pub PlaceInGap : (A K : Type 0) → Type 0
PlaceInGap A K = (cmp : K → K → Ordering) (key : A → K) → TotalOrder cmp → (k : K) (xs : List A) (i : ℕ) → IsSpot cmp key k xs (Err i)
    → (find cmp key k xs ≡ None) × (without cmp key k xs ≡ xs) × ((x : A) → key x ≡ k → put cmp key x xs ≡ insert xs i x)

-- What std's binary search answers in a list that rises is the place of the key.
abbrev pub BinarySearchTellsPlace : (A K : Type 0) → Type 0
BinarySearchTellsPlace A K = (cmp : K → K → Ordering) (key : A → K) → TotalOrder cmp → (k : K) (xs : List A) (r : Result ℕ ℕ) → Rises cmp key xs → IsSearchInRange r (length xs) → IsBinarySearchResult (λ y. cmp (key y) k) xs r → IsSpot cmp key k xs r
