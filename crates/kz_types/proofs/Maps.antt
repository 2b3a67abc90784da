-- A list whose items are changed but keep their keys, and a list of which some items are kept.
use Rattle.std.proofs.Common.{◌≡◌, ◌≢◌, Bool, true, false, cond, List, [], ◌∷◌, map, filter, Option, Some, None, Ordering, Less, Equal, Greater, is_eq, option_map, refl, sym, ap, ◌∙◌}
use Rattle.std.specs.Ordering.{match_ordering}
use Rattle.kz_types.specs.Order.{TotalOrder}
use Rattle.kz_types.specs.Ordered.{find, put, without, RisesAbove, Rises}
use Rattle.kz_types.proofs.Order.{below, equal, above, place, less_differs, less_differs_back}
use Rattle.kz_types.proofs.Lookup.{some_is_none, same_some, find_here, find_skip, find_at_bound, rises_above_smaller, rises_from_above}

-- whatever the order is, `name` gives the key of what an item becomes
module _ {A B K : Type 0} (cmp : K → K → Ordering) (key : A → K) (name : B → K) (f : A → B) (keeps : (x : A) → name (f x) ≡ key x) where
  first_mapped : (b : Bool) (x : A) (r : Option B) (s : Option A) → r ≡ option_map f s → cond b (Some (f x)) r ≡ option_map f (cond b (Some x) s)
  first_mapped true x r s e = refl
  first_mapped false x r s e = e

  pub find-map : (k : K) (xs : List A) → find cmp name k (map f xs) ≡ option_map f (find cmp key k xs)
  find-map k [] = refl
  find-map k (x ∷ xs) = rw (keeps x) (first_mapped (is_eq (cmp k (key x))) x (find cmp name k (map f xs)) (find cmp key k xs) (find-map k xs))

  pub RisesAbove-map : (k : K) (xs : List A) → RisesAbove cmp key k xs → RisesAbove cmp name k (map f xs)
  RisesAbove-map k [] h = tt
  RisesAbove-map k (x ∷ xs) h = rw (keeps x) (h.0, RisesAbove-map (key x) xs h.1)

  pub Rises-map : (xs : List A) → Rises cmp key xs → Rises cmp name (map f xs)
  Rises-map [] h = tt
  Rises-map (x ∷ xs) h = rw (keeps x) (RisesAbove-map (key x) xs h)

  put_mapped : (r : Ordering) (x y : A) (ys : List A) (zs : List B) → map f (put cmp key x ys) ≡ zs → map f (match_ordering r (x ∷ y ∷ ys) (x ∷ ys) (y ∷ put cmp key x ys)) ≡ match_ordering r (f x ∷ f y ∷ map f ys) (f x ∷ map f ys) (f y ∷ zs)
  put_mapped Less x y ys zs e = refl
  put_mapped Equal x y ys zs e = refl
  put_mapped Greater x y ys zs e = ap (λ rest. f y ∷ rest) e

  pub map-put : (x : A) (ys : List A) → map f (put cmp key x ys) ≡ put cmp name (f x) (map f ys)
  map-put x [] = refl
  map-put x (y ∷ ys) = rw (keeps x, keeps y) (put_mapped (cmp (key x) (key y)) x y ys (put cmp name (f x) (map f ys)) (map-put x ys))

  without_mapped : (b : Bool) (k : K) (x : A) (xs : List A) (zs : List B) → map f (without cmp key k xs) ≡ zs → map f (cond b xs (x ∷ without cmp key k xs)) ≡ cond b (map f xs) (f x ∷ zs)
  without_mapped true k x xs zs e = refl
  without_mapped false k x xs zs e = ap (λ rest. f x ∷ rest) e

  pub map-without : (k : K) (xs : List A) → map f (without cmp key k xs) ≡ without cmp name k (map f xs)
  map-without k [] = refl
  map-without k (x ∷ xs) = rw (keeps x) (without_mapped (is_eq (cmp k (key x))) k x xs (without cmp name k (map f xs)) (map-without k xs))

-- ---- the items that pass a test

module _ {A K : Type 0} {cmp : K → K → Ordering} (o : TotalOrder cmp) (key : A → K) (p : A → Bool) where
  kept_above : (k : K) (x : A) (b : Bool) (ys : List A) → cmp k (key x) ≡ Less → RisesAbove cmp key (key x) ys → RisesAbove cmp key k (cond b (x ∷ ys) ys)
  kept_above k x true ys lt h = (lt, h)
  kept_above k x false ys lt h = rises_above_smaller o key k (key x) ys lt h

  pub RisesAbove-filter : (k : K) (xs : List A) → RisesAbove cmp key k xs → RisesAbove cmp key k (filter p xs)
  RisesAbove-filter k [] h = tt
  RisesAbove-filter k (x ∷ xs) h = kept_above k x (p x) (filter p xs) h.0 (RisesAbove-filter (key x) xs h.1)

  kept_first : (x : A) (b : Bool) (ys : List A) → RisesAbove cmp key (key x) ys → Rises cmp key (cond b (x ∷ ys) ys)
  kept_first x true ys h = h
  kept_first x false ys h = rises_from_above o key (key x) ys h

  pub Rises-filter : (xs : List A) → Rises cmp key xs → Rises cmp key (filter p xs)
  Rises-filter [] h = tt
  Rises-filter (x ∷ xs) h = kept_first x (p x) (filter p xs) (RisesAbove-filter (key x) xs h)

  skip_kept : (k : K) (x : A) (b : Bool) (ys : List A) → k ≢ key x → find cmp key k (cond b (x ∷ ys) ys) ≡ find cmp key k ys
  skip_kept k x true ys ne = find_skip o key k x ys ne
  skip_kept k x false ys ne = refl

  own_kept : (k : K) (x : A) (b : Bool) (ys : List A) → k ≡ key x → find cmp key k ys ≡ None → find cmp key k (cond b (x ∷ ys) ys) ≡ cond b (Some x) None
  own_kept k x true ys e none = find_here o key k x ys e
  own_kept k x false ys e none = none

  -- the item with a key is found as before where it passes, and else nothing is
  pub find-filter_absent : (k : K) (xs : List A) → find cmp key k xs ≡ None → find cmp key k (filter p xs) ≡ None
  find-filter_absent k [] e = refl
  find-filter_absent k (x ∷ xs) e = elim (place o k (key x)) [
    | below h ↦ skip_kept k x (p x) (filter p xs) (less_differs o k (key x) h) ∙ find-filter_absent k xs (sym (find_skip o key k x xs (less_differs o k (key x) h)) ∙ e)
    | equal h ↦ absurd (some_is_none (sym (find_here o key k x xs h) ∙ e))
    | above h ↦ skip_kept k x (p x) (filter p xs) (less_differs_back o k (key x) h) ∙ find-filter_absent k xs (sym (find_skip o key k x xs (less_differs_back o k (key x) h)) ∙ e)
  ]

  pub find-filter_found : (k : K) (xs : List A) (y : A) → Rises cmp key xs → find cmp key k xs ≡ Some y → find cmp key k (filter p xs) ≡ cond (p y) (Some y) None
  find-filter_found k [] y h e = absurd (some_is_none (sym e))
  find-filter_found k (x ∷ xs) y h e = elim (place o k (key x)) [
    | below lt ↦ skip_kept k x (p x) (filter p xs) (less_differs o k (key x) lt) ∙ find-filter_found k xs y (rises_from_above o key (key x) xs h) (sym (find_skip o key k x xs (less_differs o k (key x) lt)) ∙ e)
    | equal is ↦ own_kept k x (p x) (filter p xs) is (ap (λ q. find cmp key q (filter p xs)) is ∙ find_at_bound o key (key x) (filter p xs) (RisesAbove-filter (key x) xs h)) ∙ ap (λ z. cond (p z) (Some z) None) (same_some x y (sym (find_here o key k x xs is) ∙ e))
    | above gt ↦ skip_kept k x (p x) (filter p xs) (less_differs_back o k (key x) gt) ∙ find-filter_found k xs y (rises_from_above o key (key x) xs h) (sym (find_skip o key k x xs (less_differs_back o k (key x) gt)) ∙ e)
  ]
