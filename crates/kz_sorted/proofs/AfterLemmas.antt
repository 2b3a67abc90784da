-- The items after a key, in one list and in the list of all blocks.
use Rattle.std.proofs.Common.{◌≡◌, ℕ, zero, suc, ◌+◌, ◌<◌, ◌≤◌, Bool, true, false, inl, inr, List, [], ◌∷◌, ◌++◌, Some, None, Ok, Err, Ordering, Less, length, get_or, take, drop, filter, refl, sym, ap, ◌∙◌, subst, arith, eq-or-lt_of_le}
use Rattle.std.specs.List.{AllWithin}
use Rattle.std.specs.Ordering.{match_ordering}
use Rattle.std.proofs.lemmas.List.Elements.{All-head, All-tail, filter-append}
use Rattle.kz_types.specs.Order.{TotalOrder}
use Rattle.kz_types.specs.Ordered.{Rises, RisesAbove, AllBelow}
use Rattle.kz_types.specs.Spot.{IsSpot}
use Rattle.kz_types.proofs.Order.{cmp_equal, cmp_greater}
use Rattle.kz_types.proofs.Lookup.{less_by_place, rises_above_smaller}
use Rattle.kz_sorted.specs.After.{is_after, items_after}
use Rattle.kz_sorted.specs.BlockLists.{items_of, IsBlockFor}
use Rattle.kz_sorted.proofs.ItemsOf.{items_of_split}

-- where no key is given, all items
pub items_after-none : {A K : Type 0} (cmp : K → K → Ordering) (key : A → K) (xs : List A) → items_after cmp key None xs ≡ xs
items_after-none cmp key [] = refl
items_after-none cmp key (x ∷ xs) = ap (λ zs. x ∷ zs) (items_after-none cmp key xs)

module _ {A : Type 0} (p : A → Bool) where
  -- where the items before a place fail a test and the others pass it, those from the place on are left
  filter_from : (xs : List A) (i : ℕ) → AllWithin (λ x. p x ≡ false) xs 0 i → AllWithin (λ x. p x ≡ true) xs i (length xs) → filter p xs ≡ drop i xs
  filter_from [] zero before from = refl
  filter_from [] (suc i) before from = refl
  filter_from (x ∷ xs) zero before from = rw (from 0 x (omega arith) (omega arith)) (ap (λ zs. x ∷ zs) (filter_from xs zero (λ k d a b. absurd (omega arith)) (λ k d a b. from (suc k) d (omega arith) (omega arith))))
  filter_from (x ∷ xs) (suc i) before from = rw (before 0 x (omega arith) (omega arith)) (filter_from xs i (λ k d a b. before (suc k) d (omega arith) (omega arith)) (λ k d a b. from (suc k) d (omega arith) (omega arith)))

module _ {A K : Type 0} {cmp : K → K → Ordering} (o : TotalOrder cmp) (key : A → K) where
  not_below : (k : K) (x : A) → cmp (key x) k ≡ Less → is_after cmp key (Some k) x ≡ false
  not_below k x lt = ap (λ r. match_ordering r true false false) (cmp_greater o k (key x) lt)

  not_same : (k : K) (x : A) → key x ≡ k → is_after cmp key (Some k) x ≡ false
  not_same k x is = ap (λ r. match_ordering r true false false) (cmp_equal o k (key x) (sym is))

  above : (k : K) (x : A) → cmp k (key x) ≡ Less → is_after cmp key (Some k) x ≡ true
  above k x lt = ap (λ r. match_ordering r true false false) lt

  -- ---- in one list, at the place of the key

  pub items_after-gap : (k : K) (xs : List A) (i : ℕ) → IsSpot cmp key k xs (Err i) → items_after cmp key (Some k) xs ≡ drop i xs
  items_after-gap k xs i s = filter_from (is_after cmp key (Some k)) xs i (λ j d a b. not_below k (get_or xs j d) (s.1 j d a b)) (λ j d a b. above k (get_or xs j d) (s.2 j d a b))

  pub items_after-found : (k : K) (xs : List A) (i : ℕ) → Rises cmp key xs → IsSpot cmp key k xs (Ok i) → items_after cmp key (Some k) xs ≡ drop (i + 1) xs
  items_after-found k xs i h s =
      filter_from (is_after cmp key (Some k)) xs (i + 1)
      (λ j d a b. elim (eq-or-lt_of_le (let before : j ≤ i = omega arith in before)) [
        | inl same ↦ not_same k (get_or xs j d) (subst (λ n. key (get_or xs n d) ≡ k) (sym same) (s.1 d))
        | inr lt ↦ not_below k (get_or xs j d) (subst (λ q. cmp (key (get_or xs j d)) q ≡ Less) (s.1 d) (less_by_place o key xs j i d h lt s.0))
      ])
      (λ j d a b. above k (get_or xs j d) (subst (λ q. cmp q (key (get_or xs j d)) ≡ Less) (s.1 d) (less_by_place o key xs i j d h (omega arith) b)))

  -- ---- in the list of all blocks

  none_after : (k : K) (xs : List A) → AllBelow cmp key xs k → items_after cmp key (Some k) xs ≡ []
  none_after k [] h = refl
  none_after k (x ∷ xs) h = rw (not_below k x (All-head (λ y. cmp (key y) k ≡ Less) x xs h)) (none_after k xs (All-tail (λ y. cmp (key y) k ≡ Less) x xs h))

  rest_after : (k : K) (xs : List A) → RisesAbove cmp key k xs → items_after cmp key (Some k) xs ≡ xs
  rest_after k [] h = refl
  rest_after k (x ∷ xs) h = rw (above k x h.0) (ap (λ zs. x ∷ zs) (rest_after k xs (raised k x xs h)))
    where
      raised : (k : K) (x : A) (xs : List A) → RisesAbove cmp key k (x ∷ xs) → RisesAbove cmp key k xs
      raised k x xs h = rises_above_smaller o key k (key x) xs h.0 h.1

  pub items_after-items_of : (k : K) (bs : List (List A)) (i : ℕ) (b : List A) → i < length bs → b ≡ get_or bs i b → IsBlockFor cmp key k bs i → items_after cmp key (Some k) (items_of bs) ≡ items_after cmp key (Some k) b ++ items_of (drop (i + 1) bs)
  items_after-items_of k bs i b within is for_key =
      let p : A → Bool = is_after cmp key (Some k) in
      let front = items_of (take i bs) in
      let back = items_of (drop (i + 1) bs) in
      ap (filter p) (items_of_split bs i b within) ∙ filter-append p front (get_or bs i b ++ back) ∙ ap (λ zs. zs ++ filter p (get_or bs i b ++ back)) (none_after k front for_key.below)
      ∙ filter-append p (get_or bs i b) back ∙ ap (λ zs. filter p (get_or bs i b) ++ zs) (rest_after k back for_key.above) ∙ ap (λ z. filter p z ++ back) (sym is)
