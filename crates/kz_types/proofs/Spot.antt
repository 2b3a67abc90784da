-- What a list that rises finds, and becomes, at the place of a key.
use Rattle.std.proofs.Common.{◌≡◌, ◌⊎◌, ℕ, zero, suc, ◌<◌, ◌≤◌, List, [], ◌∷◌, Some, None, Result, Ok, Err, Ordering, Less, Equal, Greater, length, get_or, set, insert, remove, HoldsAt, refl, sym, ap, ◌∙◌, subst, inl, inr, arith, eq-or-lt_of_le}
use Rattle.std.specs.List.{AllWithin}
use Rattle.std.specs.List.Sorted.{IsBinarySearchResult, IsSearchInRange}
use Rattle.std.specs.Ordering.{ordering_index, ordering_reverse}
use Rattle.std.proofs.lemmas.List.Elements.{AllWithin-none}
use Rattle.kz_types.specs.Order.{TotalOrder}
use Rattle.kz_types.specs.Ordered.{find, put, without, Rises}
use Rattle.kz_types.specs.Spot.{IsSpot}
use Rattle.kz_types.proofs.Order.{below, equal, above, place, cmp_equal, cmp_greater, less_differs, less_differs_back}
use Rattle.kz_types.proofs.Lookup.{find_skip, rest_rises, found_at, less_by_place, without_here, without_skip}
use Rattle.kz_types.proofs.Append.{without_absent}

later : {A : Type 0} (P : A → Type 0) (x : A) (xs : List A) (i n : ℕ) → AllWithin P (x ∷ xs) (suc i) (suc n) → AllWithin P xs i n
later P x xs i n h k d from to = h (suc k) d (omega arith) (omega arith)

later_all : {A : Type 0} (P : A → Type 0) (x : A) (xs : List A) (n : ℕ) → AllWithin P (x ∷ xs) 0 (suc n) → AllWithin P xs 0 n
later_all P x xs n h k d from to = h (suc k) d (omega arith) (omega arith)

module _ {A K : Type 0} {cmp : K → K → Ordering} (o : TotalOrder cmp) (key : A → K) where
  -- ---- at an item with the key

  pub find_at_place : (k : K) (xs : List A) (i : ℕ) (d : A) → Rises cmp key xs → i < length xs → HoldsAt (λ y. key y ≡ k) xs i → find cmp key k xs ≡ Some (get_or xs i d)
  find_at_place k xs i d h within is = ap (λ q. find cmp key q xs) (sym (is d)) ∙ found_at o key xs i d h within

  pub put_at_place : (x : A) (xs : List A) (i : ℕ) → Rises cmp key xs → i < length xs → HoldsAt (λ y. key y ≡ key x) xs i → put cmp key x xs ≡ set xs i x
  put_at_place x [] i h within is = absurd (omega arith)
  put_at_place x (y ∷ ys) zero h within is = rw (cmp_equal o (key x) (key y) (sym (is x)))
  put_at_place x (y ∷ ys) (suc i) h within is =
      let lt : cmp (key y) (key x) ≡ Less = subst (λ q. cmp (key y) q ≡ Less) (is x) (less_by_place o key (y ∷ ys) 0 (suc i) x h (omega arith) within) in
      rw (cmp_greater o (key x) (key y) lt) (ap (λ zs. y ∷ zs) (put_at_place x ys i (rest_rises o key y ys h) (omega arith) is))

  pub without_at_place : (k : K) (xs : List A) (i : ℕ) → Rises cmp key xs → i < length xs → HoldsAt (λ y. key y ≡ k) xs i → without cmp key k xs ≡ remove xs i
  without_at_place k [] i h within is = absurd (omega arith)
  without_at_place k (y ∷ ys) zero h within is = without_here o key k y ys (sym (is y))
  without_at_place k (y ∷ ys) (suc i) h within is =
      let lt : cmp (key y) k ≡ Less = subst (λ q. cmp (key y) q ≡ Less) (is y) (less_by_place o key (y ∷ ys) 0 (suc i) y h (omega arith) within) in
      without_skip o key k y ys (less_differs_back o k (key y) lt) ∙ ap (λ zs. y ∷ zs) (without_at_place k ys i (rest_rises o key y ys h) (omega arith) is)

  -- ---- between the items below the key and those above it

  pub find_in_place_gap : (k : K) (xs : List A) (i : ℕ) → i ≤ length xs → AllWithin (λ y. cmp (key y) k ≡ Less) xs 0 i → AllWithin (λ y. cmp k (key y) ≡ Less) xs i (length xs) → find cmp key k xs ≡ None
  find_in_place_gap k [] i within under over = refl
  find_in_place_gap k (y ∷ ys) zero within under over =
      find_skip o key k y ys (less_differs o k (key y) (over 0 y (omega arith) (omega arith)))
      ∙ find_in_place_gap k ys zero (omega arith) (AllWithin-none (λ z. cmp (key z) k ≡ Less) ys 0) (λ j d from to. over (suc j) d (omega arith) (omega arith))
  find_in_place_gap k (y ∷ ys) (suc i) within under over =
      find_skip o key k y ys (less_differs_back o k (key y) (under 0 y (omega arith) (omega arith)))
      ∙ find_in_place_gap k ys i (omega arith) (later_all (λ z. cmp (key z) k ≡ Less) y ys i under) (later (λ z. cmp k (key z) ≡ Less) y ys i (length ys) over)

  pub put_in_place_gap : (x : A) (xs : List A) (i : ℕ) → i ≤ length xs → AllWithin (λ y. cmp (key y) (key x) ≡ Less) xs 0 i → AllWithin (λ y. cmp (key x) (key y) ≡ Less) xs i (length xs) → put cmp key x xs ≡ insert xs i x
  put_in_place_gap x [] zero within under over = refl
  put_in_place_gap x [] (suc i) within under over = absurd (omega arith)
  put_in_place_gap x (y ∷ ys) zero within under over = rw (over 0 y (omega arith) (omega arith))
  put_in_place_gap x (y ∷ ys) (suc i) within under over =
      rw (cmp_greater o (key x) (key y) (under 0 y (omega arith) (omega arith)))
      (ap (λ zs. y ∷ zs) (put_in_place_gap x ys i (omega arith) (later_all (λ z. cmp (key z) (key x) ≡ Less) y ys i under) (later (λ z. cmp (key x) (key z) ≡ Less) y ys i (length ys) over)))

  -- ---- at the spot of a key, whichever it is

  pub find_by_spot : (k : K) (xs : List A) (i : ℕ) (d : A) → Rises cmp key xs → IsSpot cmp key k xs (Ok i) → find cmp key k xs ≡ Some (get_or xs i d)
  find_by_spot k xs i d h s = find_at_place k xs i d h s.0 s.1

  pub find_by_gap : (k : K) (xs : List A) (i : ℕ) → IsSpot cmp key k xs (Err i) → find cmp key k xs ≡ None
  find_by_gap k xs i s = find_in_place_gap k xs i s.0 s.1 s.2

  pub put_by_spot : (x : A) (xs : List A) (i : ℕ) → Rises cmp key xs → IsSpot cmp key (key x) xs (Ok i) → put cmp key x xs ≡ set xs i x
  put_by_spot x xs i h s = put_at_place x xs i h s.0 s.1

  pub put_by_gap : (x : A) (xs : List A) (i : ℕ) → IsSpot cmp key (key x) xs (Err i) → put cmp key x xs ≡ insert xs i x
  put_by_gap x xs i s = put_in_place_gap x xs i s.0 s.1 s.2

  pub without_by_spot : (k : K) (xs : List A) (i : ℕ) → Rises cmp key xs → IsSpot cmp key k xs (Ok i) → without cmp key k xs ≡ remove xs i
  without_by_spot k xs i h s = without_at_place k xs i h s.0 s.1

  pub without_by_gap : (k : K) (xs : List A) (i : ℕ) → IsSpot cmp key k xs (Err i) → without cmp key k xs ≡ xs
  without_by_gap k xs i s = without_absent o key k xs (find_by_gap k xs i s)

  -- ---- how a search knows the spot

  beyond : (k : K) (xs : List A) (i j : ℕ) (e : A) → Rises cmp key xs → cmp k (key (get_or xs i e)) ≡ Less → j < length xs → (i ≡ j) ⊎ (i < j) → cmp k (key (get_or xs j e)) ≡ Less
  beyond k xs i j e h lt within (inl is) = subst (λ n. cmp k (key (get_or xs n e)) ≡ Less) is lt
  beyond k xs i j e h lt within (inr more) = o.chain k (key (get_or xs i e)) (key (get_or xs j e)) lt (less_by_place o key xs i j e h more within)

  -- from the first item that is above the key
  pub spot_before : (k : K) (xs : List A) (i : ℕ) → Rises cmp key xs → i < length xs → AllWithin (λ y. cmp (key y) k ≡ Less) xs 0 i → HoldsAt (λ y. cmp k (key y) ≡ Less) xs i → IsSpot cmp key k xs (Err i)
  spot_before k xs i h within under lt = (omega arith, under, λ j e from to. beyond k xs i j e h (lt e) to (eq-or-lt_of_le from))

  -- where all items are below the key
  pub spot_after : (k : K) (xs : List A) → AllWithin (λ y. cmp (key y) k ≡ Less) xs 0 (length xs) → IsSpot cmp key k xs (Err (length xs))
  spot_after k xs under = (omega arith, under, λ j d from to. absurd (omega arith))

  index_at_most_2 : (r : Ordering) → ordering_index r ≤ 2
  index_at_most_2 Less = omega arith
  index_at_most_2 Equal = omega arith
  index_at_most_2 Greater = omega arith

  index_rises : (p q k : K) → cmp p q ≡ Less → ordering_index (cmp p k) ≤ ordering_index (cmp q k)
  index_rises p q k lt = elim (place o q k) [
    | below h ↦ rw (h, o.chain p q k lt h) (omega arith)
    | equal h ↦ rw (subst (λ z. cmp p z ≡ Less) h lt) (omega arith)
    | above h ↦ rw (cmp_greater o q k h) (index_at_most_2 (cmp p k))
  ]

  index_in_order : (k : K) (xs : List A) (i j : ℕ) (d : A) → Rises cmp key xs → j < length xs → (i ≡ j) ⊎ (i < j) → ordering_index (cmp (key (get_or xs i d)) k) ≤ ordering_index (cmp (key (get_or xs j d)) k)
  index_in_order k xs i j d h within (inl is) = subst (λ n. ordering_index (cmp (key (get_or xs i d)) k) ≤ ordering_index (cmp (key (get_or xs n d)) k)) is (omega arith)
  index_in_order k xs i j d h within (inr lt) = index_rises (key (get_or xs i d)) (key (get_or xs j d)) k (less_by_place o key xs i j d h lt within)

  -- from what std's binary search says
  pub spot_from_binary_search : (k : K) (xs : List A) (r : Result ℕ ℕ) → Rises cmp key xs → IsSearchInRange r (length xs) → IsBinarySearchResult (λ y. cmp (key y) k) xs r → IsSpot cmp key k xs r
  spot_from_binary_search k xs (Ok i) h within s = (within, λ d. o.same (key (get_or xs i d)) k (s d))
  spot_from_binary_search k xs (Err i) h within s =
      let parts = s (λ p q d from to. index_in_order k xs p q d h to (eq-or-lt_of_le from)) in
      (within, parts.0, λ j d from to. o.mirror k (key (get_or xs j d)) ∙ ap ordering_reverse (parts.1 j d from to))
