-- Lists joined end to end, and what stands at a place that splits a list.
use Rattle.std.proofs.Common.{◌≡◌, Bool, true, false, cond, List, [], ◌∷◌, ◌++◌, Option, Some, None, Ordering, Less, is_eq, All, refl, sym, ap, ◌∙◌}
use Rattle.std.specs.Option.{option_or}
use Rattle.std.proofs.lemmas.List.Elements.{All-head, All-tail, All-nil, All-cons}
use Rattle.kz_types.specs.Order.{TotalOrder}
use Rattle.kz_types.specs.Ordered.{find, put, without, RisesAbove, Rises, AllBelow}
use Rattle.kz_types.proofs.Order.{below, equal, above, place, cmp_equal, cmp_greater, less_differs, less_differs_back}
use Rattle.kz_types.proofs.Lookup.{find_here, find_skip, without_here, without_skip, find_at_bound, rises_from_above}

-- whatever the order is, an item of the first list is found before those of the second
found_first : {A : Type 0} (b : Bool) (x : A) (r s t : Option A) → r ≡ option_or s t → cond b (Some x) r ≡ option_or (cond b (Some x) s) t
found_first true x r s t e = refl
found_first false x r s t e = e

pub find-append : {A K : Type 0} (cmp : K → K → Ordering) (key : A → K) (k : K) (xs ys : List A) → find cmp key k (xs ++ ys) ≡ option_or (find cmp key k xs) (find cmp key k ys)
find-append cmp key k [] ys = refl
find-append cmp key k (x ∷ xs) ys = found_first (is_eq (cmp k (key x))) x (find cmp key k (xs ++ ys)) (find cmp key k xs) (find cmp key k ys) (find-append cmp key k xs ys)

-- what holds of each item of the one list beside each of the other holds the other way round
pub All-turned : {X Y : Type 0} (R : X → Y → Type 0) (xs : List X) (ys : List Y) → All (λ x. All (λ y. R x y) ys) xs → All (λ y. All (λ x. R x y) xs) ys
All-turned R xs ys h j e within i d before = h i d before j e within

module _ {A K : Type 0} {cmp : K → K → Ordering} (o : TotalOrder cmp) (key : A → K) where
  first_below : (k : K) (x : A) (xs : List A) → AllBelow cmp key (x ∷ xs) k → cmp (key x) k ≡ Less
  first_below k x xs h = All-head (λ y. cmp (key y) k ≡ Less) x xs h

  rest_below : (k : K) (x : A) (xs : List A) → AllBelow cmp key (x ∷ xs) k → AllBelow cmp key xs k
  rest_below k x xs h = All-tail (λ y. cmp (key y) k ≡ Less) x xs h

  -- ---- look-ups in a list that is split at the key

  pub find_all_below : (k : K) (xs : List A) → AllBelow cmp key xs k → find cmp key k xs ≡ None
  find_all_below k [] h = refl
  find_all_below k (x ∷ xs) h = find_skip o key k x xs (less_differs_back o k (key x) (first_below k x xs h)) ∙ find_all_below k xs (rest_below k x xs h)

  pub find-append_right : (k : K) (xs ys : List A) → AllBelow cmp key xs k → find cmp key k (xs ++ ys) ≡ find cmp key k ys
  find-append_right k xs ys h = find-append cmp key k xs ys ∙ ap (λ r. option_or r (find cmp key k ys)) (find_all_below k xs h)

  pub find_at_split : (k : K) (xs : List A) (y : A) (ys : List A) → AllBelow cmp key xs k → k ≡ key y → find cmp key k (xs ++ y ∷ ys) ≡ Some y
  find_at_split k xs y ys h e = find-append_right k xs (y ∷ ys) h ∙ find_here o key k y ys e

  pub find_in_gap : (k : K) (xs ys : List A) → AllBelow cmp key xs k → RisesAbove cmp key k ys → find cmp key k (xs ++ ys) ≡ None
  find_in_gap k xs ys h g = find-append_right k xs ys h ∙ find_at_bound o key k ys g

  -- ---- an item put, and one taken out, at the place that splits a list

  pub put_first : (x : A) (ys : List A) → RisesAbove cmp key (key x) ys → put cmp key x ys ≡ x ∷ ys
  put_first x [] h = refl
  put_first x (y ∷ ys) h = rw h.0

  pub put-append : (x : A) (xs ys : List A) → AllBelow cmp key xs (key x) → put cmp key x (xs ++ ys) ≡ xs ++ put cmp key x ys
  put-append x [] ys h = refl
  put-append x (y ∷ xs) ys h = rw (cmp_greater o (key x) (key y) (first_below (key x) y xs h)) (ap (λ zs. y ∷ zs) (put-append x xs ys (rest_below (key x) y xs h)))

  -- into a gap
  pub put_in_gap : (x : A) (xs ys : List A) → AllBelow cmp key xs (key x) → RisesAbove cmp key (key x) ys → put cmp key x (xs ++ ys) ≡ xs ++ x ∷ ys
  put_in_gap x xs ys h g = put-append x xs ys h ∙ ap (λ zs. xs ++ zs) (put_first x ys g)

  -- in place of the item with its key
  pub put_at_split : (x : A) (xs : List A) (y : A) (ys : List A) → AllBelow cmp key xs (key x) → key x ≡ key y → put cmp key x (xs ++ y ∷ ys) ≡ xs ++ x ∷ ys
  put_at_split x xs y ys h e = put-append x xs (y ∷ ys) h ∙ rw (cmp_equal o (key x) (key y) e)

  -- after all items
  pub put_last : (x : A) (xs : List A) → AllBelow cmp key xs (key x) → put cmp key x xs ≡ xs ++ x ∷ []
  put_last x [] h = refl
  put_last x (y ∷ xs) h = rw (cmp_greater o (key x) (key y) (first_below (key x) y xs h)) (ap (λ zs. y ∷ zs) (put_last x xs (rest_below (key x) y xs h)))

  pub without-append : (k : K) (xs ys : List A) → AllBelow cmp key xs k → without cmp key k (xs ++ ys) ≡ xs ++ without cmp key k ys
  without-append k [] ys h = refl
  without-append k (x ∷ xs) ys h = without_skip o key k x (xs ++ ys) (less_differs_back o k (key x) (first_below k x xs h)) ∙ ap (λ zs. x ∷ zs) (without-append k xs ys (rest_below k x xs h))

  pub without_at_split : (k : K) (xs : List A) (y : A) (ys : List A) → AllBelow cmp key xs k → k ≡ key y → without cmp key k (xs ++ y ∷ ys) ≡ xs ++ ys
  without_at_split k xs y ys h e = without-append k xs (y ∷ ys) h ∙ ap (λ zs. xs ++ zs) (without_here o key k y ys e)

  -- a list without the key stays as it is
  pub without_absent : (k : K) (xs : List A) → find cmp key k xs ≡ None → without cmp key k xs ≡ xs
  without_absent k [] e = refl
  without_absent k (x ∷ xs) e = elim (place o k (key x)) [
    | below h ↦ without_skip o key k x xs (less_differs o k (key x) h) ∙ ap (λ zs. x ∷ zs) (without_absent k xs (sym (find_skip o key k x xs (less_differs o k (key x) h)) ∙ e))
    | equal h ↦ absurd (let found = find_here o key k x xs h in cc)
    | above h ↦ without_skip o key k x xs (less_differs_back o k (key x) h) ∙ ap (λ zs. x ∷ zs) (without_absent k xs (sym (find_skip o key k x xs (less_differs_back o k (key x) h)) ∙ e))
  ]

  -- ---- lists that rise, joined

  -- a list that rises, each of whose keys is above this one, rises above it
  pub rises_above_from_all : (k : K) (ys : List A) → Rises cmp key ys → All (λ y. cmp k (key y) ≡ Less) ys → RisesAbove cmp key k ys
  rises_above_from_all k [] h g = tt
  rises_above_from_all k (y ∷ ys) h g = (All-head (λ z. cmp k (key z) ≡ Less) y ys g, h)

  pub all_from_rises_above : (k : K) (ys : List A) → RisesAbove cmp key k ys → All (λ y. cmp k (key y) ≡ Less) ys
  all_from_rises_above k [] h = All-nil (λ z. cmp k (key z) ≡ Less)
  all_from_rises_above k (y ∷ ys) h = All-cons (λ z. cmp k (key z) ≡ Less) y ys h.0 (all_from_rises_above k ys (raised y ys h))
    where
      raised : (y : A) (ys : List A) → RisesAbove cmp key k (y ∷ ys) → RisesAbove cmp key k ys
      raised y [] h = tt
      raised y (z ∷ zs) h = (o.chain k (key y) (key z) h.0 h.1.0, h.1.1)

  RisesAbove-append : (k : K) (xs ys : List A) → RisesAbove cmp key k xs → Rises cmp key ys → All (λ y. cmp k (key y) ≡ Less) ys → All (λ x. All (λ y. cmp (key x) (key y) ≡ Less) ys) xs → RisesAbove cmp key k (xs ++ ys)
  RisesAbove-append k [] ys h g over apart = rises_above_from_all k ys g over
  RisesAbove-append k (x ∷ xs) ys h g over apart = (h.0, RisesAbove-append (key x) xs ys h.1 g (All-head (λ z. All (λ y. cmp (key z) (key y) ≡ Less) ys) x xs apart) (All-tail (λ z. All (λ y. cmp (key z) (key y) ≡ Less) ys) x xs apart))

  Rises-append_by : (xs ys : List A) → Rises cmp key xs → Rises cmp key ys → All (λ x. All (λ y. cmp (key x) (key y) ≡ Less) ys) xs → Rises cmp key (xs ++ ys)
  Rises-append_by [] ys h g apart = g
  Rises-append_by (x ∷ xs) ys h g apart = RisesAbove-append (key x) xs ys h g (All-head (λ z. All (λ y. cmp (key z) (key y) ≡ Less) ys) x xs apart) (All-tail (λ z. All (λ y. cmp (key z) (key y) ≡ Less) ys) x xs apart)

  pub Rises-append : (xs ys : List A) → Rises cmp key xs → Rises cmp key ys → All (λ y. AllBelow cmp key xs (key y)) ys → Rises cmp key (xs ++ ys)
  Rises-append xs ys h g apart = Rises-append_by xs ys h g (All-turned (λ y x. cmp (key x) (key y) ≡ Less) ys xs apart)

  -- one more item after all others
  RisesAbove-push : (k : K) (xs : List A) (y : A) → RisesAbove cmp key k xs → cmp k (key y) ≡ Less → AllBelow cmp key xs (key y) → RisesAbove cmp key k (xs ++ y ∷ [])
  RisesAbove-push k [] y h lt under = (lt, tt)
  RisesAbove-push k (x ∷ xs) y h lt under = (h.0, RisesAbove-push (key x) xs y h.1 (first_below (key y) x xs under) (rest_below (key y) x xs under))

  pub Rises-push : (xs : List A) (y : A) → Rises cmp key xs → AllBelow cmp key xs (key y) → Rises cmp key (xs ++ y ∷ [])
  Rises-push [] y h under = tt
  Rises-push (x ∷ xs) y h under = RisesAbove-push (key x) xs y h (first_below (key y) x xs under) (rest_below (key y) x xs under)

  -- ---- the parts of a list that rises

  RisesAbove_left : (k : K) (xs ys : List A) → RisesAbove cmp key k (xs ++ ys) → RisesAbove cmp key k xs
  RisesAbove_left k [] ys h = tt
  RisesAbove_left k (x ∷ xs) ys h = (h.0, RisesAbove_left (key x) xs ys h.1)

  pub Rises_left : (xs ys : List A) → Rises cmp key (xs ++ ys) → Rises cmp key xs
  Rises_left [] ys h = tt
  Rises_left (x ∷ xs) ys h = RisesAbove_left (key x) xs ys h

  pub Rises_right : (xs ys : List A) → Rises cmp key (xs ++ ys) → Rises cmp key ys
  Rises_right [] ys h = h
  Rises_right (x ∷ xs) ys h = Rises_right xs ys (rises_from_above o key (key x) (xs ++ ys) h)

  all_of_right : (P : A → Type 0) (xs ys : List A) → All P (xs ++ ys) → All P ys
  all_of_right P [] ys h = h
  all_of_right P (x ∷ xs) ys h = all_of_right P xs ys (All-tail P x (xs ++ ys) h)

  parts_apart_by : (xs ys : List A) → Rises cmp key (xs ++ ys) → All (λ x. All (λ y. cmp (key x) (key y) ≡ Less) ys) xs
  parts_apart_by [] ys h = All-nil (λ z. All (λ y. cmp (key z) (key y) ≡ Less) ys)
  parts_apart_by (x ∷ xs) ys h = All-cons (λ z. All (λ y. cmp (key z) (key y) ≡ Less) ys) x xs (all_of_right (λ y. cmp (key x) (key y) ≡ Less) xs ys (all_from_rises_above (key x) (xs ++ ys) h)) (parts_apart_by xs ys (rises_from_above o key (key x) (xs ++ ys) h))

  -- each key of the first part is below each of the second
  pub parts_apart : (xs ys : List A) → Rises cmp key (xs ++ ys) → All (λ y. AllBelow cmp key xs (key y)) ys
  parts_apart xs ys h = All-turned (λ x y. cmp (key x) (key y) ≡ Less) xs ys (parts_apart_by xs ys h)

  -- the first part is below the item that follows, and what follows that item rises above its key
  pub below_split : (xs : List A) (y : A) (ys : List A) → Rises cmp key (xs ++ y ∷ ys) → AllBelow cmp key xs (key y)
  below_split [] y ys h = All-nil (λ z. cmp (key z) (key y) ≡ Less)
  below_split (x ∷ xs) y ys h = All-cons (λ z. cmp (key z) (key y) ≡ Less) x xs (All-head (λ z. cmp (key x) (key z) ≡ Less) y ys (all_of_right (λ z. cmp (key x) (key z) ≡ Less) xs (y ∷ ys) (all_from_rises_above (key x) (xs ++ y ∷ ys) h))) (below_split xs y ys (rises_from_above o key (key x) (xs ++ y ∷ ys) h))

  pub above_split : (xs : List A) (y : A) (ys : List A) → Rises cmp key (xs ++ y ∷ ys) → RisesAbove cmp key (key y) ys
  above_split xs y ys h = Rises_right xs (y ∷ ys) h
