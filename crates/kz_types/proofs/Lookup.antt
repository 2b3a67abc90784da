-- Look-ups in a list after an item is put or taken out, and lists that rise.
use Rattle.std.proofs.Common.{◌≡◌, ◌≢◌, ℕ, zero, suc, ◌+◌, ◌<◌, ◌⊎◌, Bool, true, false, cond, List, [], ◌∷◌, Some, None, Ordering, Less, Equal, Greater, is_eq, Contains, length, get_or, refl, sym, ap, ◌∙◌, subst, arith, inl, inr}
use Rattle.std.specs.Ordering.{match_ordering}
use Rattle.std.proofs.lemmas.List.Elements.{Contains-get_or}
use Rattle.kz_types.specs.Order.{TotalOrder}
use Rattle.kz_types.specs.Ordered.{find, put, without, RisesAbove, Rises}
use Rattle.kz_types.proofs.Order.{below, equal, above, place, cmp_equal, cmp_greater, less_differs, less_differs_back, is_eq_same, is_eq_other}

pub some_is_none : {A : Type 0} {x : A} → Some x ≡ None → ⊥
some_is_none e = cc

pub same_some : {A : Type 0} (x y : A) → Some x ≡ Some y → x ≡ y
same_some x y e = cc

-- what a list contains is its first item or stands after it
pub Contains-cons_cases : {A : Type 0} (x : A) (xs : List A) (y : A) → Contains (x ∷ xs) y → (x ≡ y) ⊎ Contains xs y
Contains-cons_cases x xs y (zero, within, is) = inl is
Contains-cons_cases x xs y (suc i, within, is) = inr (i, omega arith, is)

pub Contains-head : {A : Type 0} (x : A) (xs : List A) → Contains (x ∷ xs) x
Contains-head x xs = (zero, omega arith, refl)

pub Contains-tail : {A : Type 0} (x : A) (xs : List A) (y : A) → Contains xs y → Contains (x ∷ xs) y
Contains-tail x xs y (i, within, is) = (suc i, omega arith, is)

pub Contains-nil : {A : Type 0} (y : A) → Contains [] y → ⊥
Contains-nil y (i, within, is) = absurd (omega arith)

module _ {A K : Type 0} {cmp : K → K → Ordering} (o : TotalOrder cmp) (key : A → K) where
  -- ---- the first item

  pub find_here : (k : K) (x : A) (xs : List A) → k ≡ key x → find cmp key k (x ∷ xs) ≡ Some x
  find_here k x xs e = rw (is_eq_same o k (key x) e)

  pub find_head : (x : A) (xs : List A) → find cmp key (key x) (x ∷ xs) ≡ Some x
  find_head x xs = find_here (key x) x xs refl

  pub find_skip : (k : K) (x : A) (xs : List A) → k ≢ key x → find cmp key k (x ∷ xs) ≡ find cmp key k xs
  find_skip k x xs ne = rw (is_eq_other o k (key x) ne)

  -- the item that is found has the key that was asked
  pub key_of_found : (k : K) (xs : List A) (y : A) → find cmp key k xs ≡ Some y → key y ≡ k
  key_of_found k [] y e = absurd (some_is_none (sym e))
  key_of_found k (x ∷ xs) y e = elim (place o k (key x)) [
    | below h ↦ key_of_found k xs y (sym (find_skip k x xs (less_differs o k (key x) h)) ∙ e)
    | equal h ↦ ap key (same_some y x (sym e ∙ find_here k x xs h)) ∙ sym h
    | above h ↦ key_of_found k xs y (sym (find_skip k x xs (less_differs_back o k (key x) h)) ∙ e)
  ]

  -- ---- after an item is put

  pub find-put_same : (x : A) (ys : List A) → find cmp key (key x) (put cmp key x ys) ≡ Some x
  find-put_same x [] = find_head x []
  find-put_same x (y ∷ ys) = elim (place o (key x) (key y)) [
    | below h ↦ rw h (find_head x (y ∷ ys))
    | equal h ↦ rw (cmp_equal o (key x) (key y) h) (find_head x ys)
    | above h ↦ rw (cmp_greater o (key x) (key y) h) (find_skip (key x) y (put cmp key x ys) (less_differs_back o (key x) (key y) h) ∙ find-put_same x ys)
  ]

  pub find-put_other : (x : A) (ys : List A) (k : K) → k ≢ key x → find cmp key k (put cmp key x ys) ≡ find cmp key k ys
  find-put_other x [] k ne = find_skip k x [] ne
  find-put_other x (y ∷ ys) k ne = elim (place o (key x) (key y)) [
    | below h ↦ rw h (find_skip k x (y ∷ ys) ne)
    | equal h ↦ rw (cmp_equal o (key x) (key y) h) (find_skip k x ys ne ∙ sym (find_skip k y ys (λ e. ne (e ∙ sym h))))
    | above h ↦ rw (cmp_greater o (key x) (key y) h) (ap (λ r. cond (is_eq (cmp k (key y))) (Some y) r) (find-put_other x ys k ne))
  ]

  -- ---- lists that rise

  pub rises_from_above : (k : K) (xs : List A) → RisesAbove cmp key k xs → Rises cmp key xs
  rises_from_above k [] h = tt
  rises_from_above k (x ∷ xs) h = h.1

  pub rest_rises : (x : A) (xs : List A) → Rises cmp key (x ∷ xs) → Rises cmp key xs
  rest_rises x xs h = rises_from_above (key x) xs h

  -- what rises above a key rises above each smaller one
  pub rises_above_smaller : (j k : K) (xs : List A) → cmp j k ≡ Less → RisesAbove cmp key k xs → RisesAbove cmp key j xs
  rises_above_smaller j k [] lt h = tt
  rises_above_smaller j k (x ∷ xs) lt h = (o.chain j k (key x) lt h.0, h.1)

  -- nothing is found at the key above which a list rises, nor below it
  pub find_at_bound : (k : K) (xs : List A) → RisesAbove cmp key k xs → find cmp key k xs ≡ None
  find_at_bound k [] h = refl
  find_at_bound k (x ∷ xs) h = find_skip k x xs (less_differs o k (key x) h.0) ∙ find_at_bound k xs (rises_above_smaller k (key x) xs h.0 h.1)

  pub find_below : (j k : K) (xs : List A) → cmp j k ≡ Less → RisesAbove cmp key k xs → find cmp key j xs ≡ None
  find_below j k xs lt h = find_at_bound j xs (rises_above_smaller j k xs lt h)

  pub find_below_first : (k : K) (x : A) (xs : List A) → Rises cmp key (x ∷ xs) → cmp k (key x) ≡ Less → find cmp key k (x ∷ xs) ≡ None
  find_below_first k x xs h lt = find_skip k x xs (less_differs o k (key x) lt) ∙ find_below k (key x) xs lt h

  -- what is found stands above the key above which the list rises
  pub found_above : (k j : K) (xs : List A) (y : A) → RisesAbove cmp key k xs → find cmp key j xs ≡ Some y → cmp k j ≡ Less
  found_above k j xs y h e = elim (place o k j) [
    | below lt ↦ lt
    | equal is ↦ absurd (some_is_none (sym e ∙ ap (λ q. find cmp key q xs) (sym is) ∙ find_at_bound k xs h))
    | above gt ↦ absurd (some_is_none (sym e ∙ find_below j k xs gt h))
  ]

  pub RisesAbove-put : (k : K) (x : A) (ys : List A) → cmp k (key x) ≡ Less → RisesAbove cmp key k ys → RisesAbove cmp key k (put cmp key x ys)
  RisesAbove-put k x [] lt h = (lt, tt)
  RisesAbove-put k x (y ∷ ys) lt h = elim (place o (key x) (key y)) [
    | below p ↦ rw p (lt, (p, h.1))
    | equal p ↦ rw (cmp_equal o (key x) (key y) p) (lt, subst (λ q. RisesAbove cmp key q ys) (sym p) h.1)
    | above p ↦ rw (cmp_greater o (key x) (key y) p) (h.0, RisesAbove-put (key y) x ys p h.1)
  ]

  pub Rises-put : (x : A) (ys : List A) → Rises cmp key ys → Rises cmp key (put cmp key x ys)
  Rises-put x [] h = tt
  Rises-put x (y ∷ ys) h = elim (place o (key x) (key y)) [
    | below p ↦ rw p (p, h)
    | equal p ↦ rw (cmp_equal o (key x) (key y) p) (subst (λ q. RisesAbove cmp key q ys) (sym p) h)
    | above p ↦ rw (cmp_greater o (key x) (key y) p) (RisesAbove-put (key y) x ys p h)
  ]

  -- ---- after an item is taken out

  pub without_here : (k : K) (x : A) (xs : List A) → k ≡ key x → without cmp key k (x ∷ xs) ≡ xs
  without_here k x xs e = rw (is_eq_same o k (key x) e)

  pub without_skip : (k : K) (x : A) (xs : List A) → k ≢ key x → without cmp key k (x ∷ xs) ≡ x ∷ without cmp key k xs
  without_skip k x xs ne = rw (is_eq_other o k (key x) ne)

  pub RisesAbove-without : (k j : K) (xs : List A) → RisesAbove cmp key k xs → RisesAbove cmp key k (without cmp key j xs)
  RisesAbove-without k j [] h = tt
  RisesAbove-without k j (x ∷ xs) h = elim (place o j (key x)) [
    | below p ↦ rw (is_eq_other o j (key x) (less_differs o j (key x) p)) (h.0, RisesAbove-without (key x) j xs h.1)
    | equal p ↦ rw (is_eq_same o j (key x) p) (rises_above_smaller k (key x) xs h.0 h.1)
    | above p ↦ rw (is_eq_other o j (key x) (less_differs_back o j (key x) p)) (h.0, RisesAbove-without (key x) j xs h.1)
  ]

  pub Rises-without : (j : K) (xs : List A) → Rises cmp key xs → Rises cmp key (without cmp key j xs)
  Rises-without j [] h = tt
  Rises-without j (x ∷ xs) h = elim (place o j (key x)) [
    | below p ↦ rw (is_eq_other o j (key x) (less_differs o j (key x) p)) (RisesAbove-without (key x) j xs h)
    | equal p ↦ rw (is_eq_same o j (key x) p) (rest_rises x xs h)
    | above p ↦ rw (is_eq_other o j (key x) (less_differs_back o j (key x) p)) (RisesAbove-without (key x) j xs h)
  ]

  pub find-without_same : (k : K) (xs : List A) → Rises cmp key xs → find cmp key k (without cmp key k xs) ≡ None
  find-without_same k [] h = refl
  find-without_same k (x ∷ xs) h = elim (place o k (key x)) [
    | below p ↦ ap (find cmp key k) (without_skip k x xs (less_differs o k (key x) p)) ∙ find_skip k x (without cmp key k xs) (less_differs o k (key x) p) ∙ find-without_same k xs (rest_rises x xs h)
    | equal p ↦ ap (find cmp key k) (without_here k x xs p) ∙ ap (λ q. find cmp key q xs) p ∙ find_at_bound (key x) xs h
    | above p ↦ ap (find cmp key k) (without_skip k x xs (less_differs_back o k (key x) p)) ∙ find_skip k x (without cmp key k xs) (less_differs_back o k (key x) p) ∙ find-without_same k xs (rest_rises x xs h)
  ]

  pub find-without_other : (j : K) (xs : List A) (k : K) → k ≢ j → find cmp key k (without cmp key j xs) ≡ find cmp key k xs
  find-without_other j [] k ne = refl
  find-without_other j (x ∷ xs) k ne = elim (place o j (key x)) [
    | below p ↦ rw (is_eq_other o j (key x) (less_differs o j (key x) p)) (ap (λ r. cond (is_eq (cmp k (key x))) (Some x) r) (find-without_other j xs k ne))
    | equal p ↦ rw (is_eq_same o j (key x) p) (sym (find_skip k x xs (λ e. ne (e ∙ sym p))))
    | above p ↦ rw (is_eq_other o j (key x) (less_differs_back o j (key x) p)) (ap (λ r. cond (is_eq (cmp k (key x))) (Some x) r) (find-without_other j xs k ne))
  ]

  -- ---- lists that rise and answer alike are one list

  -- below the first two items, which have one key, the look-ups agree too
  alike_later : (x y : A) (xs ys : List A) → key x ≡ key y → RisesAbove cmp key (key x) xs → RisesAbove cmp key (key y) ys → ((k : K) → find cmp key k (x ∷ xs) ≡ find cmp key k (y ∷ ys)) → (k : K) → find cmp key k xs ≡ find cmp key k ys
  alike_later x y xs ys e hx hy alike k = elim (place o k (key x)) [
    | below p ↦ find_below k (key x) xs p hx ∙ sym (find_below k (key y) ys (subst (λ q. cmp k q ≡ Less) e p) hy)
    | equal p ↦ ap (λ q. find cmp key q xs) p ∙ find_at_bound (key x) xs hx ∙ sym (ap (λ q. find cmp key q ys) (p ∙ e) ∙ find_at_bound (key y) ys hy)
    | above p ↦ let ne : k ≢ key x = less_differs_back o k (key x) p in sym (find_skip k x xs ne) ∙ alike k ∙ find_skip k y ys (λ f. ne (f ∙ sym e))
  ]

  -- of two lists that answer alike, the first keys are the same
  first_keys : (x y : A) (xs ys : List A) → RisesAbove cmp key (key x) xs → RisesAbove cmp key (key y) ys → ((k : K) → find cmp key k (x ∷ xs) ≡ find cmp key k (y ∷ ys)) → key x ≡ key y
  first_keys x y xs ys hx hy alike = elim (place o (key x) (key y)) [
    | below p ↦ absurd (some_is_none (sym (find_head x xs) ∙ alike (key x) ∙ find_skip (key x) y ys (less_differs o (key x) (key y) p) ∙ find_below (key x) (key y) ys p hy))
    | equal p ↦ p
    | above p ↦ absurd (some_is_none (sym (find_head y ys) ∙ sym (alike (key y)) ∙ find_skip (key y) x xs (less_differs o (key y) (key x) p) ∙ find_below (key y) (key x) xs p hx))
  ]

  pub same_items : (xs ys : List A) → Rises cmp key xs → Rises cmp key ys → ((k : K) → find cmp key k xs ≡ find cmp key k ys) → xs ≡ ys
  same_items [] [] hx hy alike = refl
  same_items [] (y ∷ ys) hx hy alike = absurd (some_is_none (sym (find_head y ys) ∙ sym (alike (key y))))
  same_items (x ∷ xs) [] hx hy alike = absurd (some_is_none (sym (find_head x xs) ∙ alike (key x)))
  same_items (x ∷ xs) (y ∷ ys) hx hy alike =
      let keys : key x ≡ key y = first_keys x y xs ys hx hy alike in
      let first : x ≡ y = same_some x y (sym (find_head x xs) ∙ alike (key x) ∙ ap (λ k. find cmp key k (y ∷ ys)) keys ∙ find_head y ys) in
      let rest : xs ≡ ys = same_items xs ys (rest_rises x xs hx) (rest_rises y ys hy) (alike_later x y xs ys keys hx hy alike) in
      ap (λ z. z ∷ xs) first ∙ ap (λ zs. y ∷ zs) rest

  -- ---- the items of a list that rises, by their keys and by their places

  pub found_is_contained : (k : K) (xs : List A) (y : A) → find cmp key k xs ≡ Some y → Contains xs y
  found_is_contained k [] y e = absurd (some_is_none (sym e))
  found_is_contained k (x ∷ xs) y e = elim (place o k (key x)) [
    | below h ↦ Contains-tail x xs y (found_is_contained k xs y (sym (find_skip k x xs (less_differs o k (key x) h)) ∙ e))
    | equal h ↦ subst (Contains (x ∷ xs)) (same_some x y (sym (find_here k x xs h) ∙ e)) (Contains-head x xs)
    | above h ↦ Contains-tail x xs y (found_is_contained k xs y (sym (find_skip k x xs (less_differs_back o k (key x) h)) ∙ e))
  ]

  pub contained_is_above : (k : K) (xs : List A) (y : A) → RisesAbove cmp key k xs → Contains xs y → cmp k (key y) ≡ Less
  contained_is_above k [] y h has = absurd (Contains-nil y has)
  contained_is_above k (x ∷ xs) y h has = elim (Contains-cons_cases x xs y has) [
    | inl is ↦ subst (λ z. cmp k (key z) ≡ Less) is h.0
    | inr later ↦ o.chain k (key x) (key y) h.0 (contained_is_above (key x) xs y h.1 later)
  ]

  pub contained_is_found : (xs : List A) (y : A) → Rises cmp key xs → Contains xs y → find cmp key (key y) xs ≡ Some y
  contained_is_found [] y h has = absurd (Contains-nil y has)
  contained_is_found (x ∷ xs) y h has = elim (Contains-cons_cases x xs y has) [
    | inl is ↦ subst (λ z. find cmp key (key z) (x ∷ xs) ≡ Some z) is (find_head x xs)
    | inr later ↦ find_skip (key y) x xs (less_differs_back o (key y) (key x) (contained_is_above (key x) xs y h later)) ∙ contained_is_found xs y (rest_rises x xs h) later
  ]

  -- the item at each place is found under its key
  pub found_at : (xs : List A) (i : ℕ) (d : A) → Rises cmp key xs → i < length xs → find cmp key (key (get_or xs i d)) xs ≡ Some (get_or xs i d)
  found_at xs i d h within = contained_is_found xs (get_or xs i d) h (Contains-get_or xs i d within)

  -- of two places, the later one has the greater key
  pub less_by_place : (xs : List A) (i j : ℕ) (d : A) → Rises cmp key xs → i < j → j < length xs → cmp (key (get_or xs i d)) (key (get_or xs j d)) ≡ Less
  less_by_place [] i j d h before within = absurd (omega arith)
  less_by_place (x ∷ xs) i zero d h before within = absurd (omega arith)
  less_by_place (x ∷ xs) zero (suc j) d h before within = contained_is_above (key x) xs (get_or xs j d) h (Contains-get_or xs j d (omega arith))
  less_by_place (x ∷ xs) (suc i) (suc j) d h before within = less_by_place xs i j d (rest_rises x xs h) (omega arith) (omega arith)

  -- a list rises where each item has a smaller key than the next
  pub Rises-from_places : (xs : List A) → ((i : ℕ) (d : A) → i + 1 < length xs → cmp (key (get_or xs i d)) (key (get_or xs (i + 1) d)) ≡ Less) → Rises cmp key xs
  Rises-from_places [] h = tt
  Rises-from_places (x ∷ []) h = tt
  Rises-from_places (x ∷ y ∷ ys) h = (h 0 x (omega arith), Rises-from_places (y ∷ ys) (λ i d within. let e : suc i + 1 ≡ suc (i + 1) = omega arith in rw e at (h (suc i) d (omega arith))))

  -- ---- what a list contains after a change

  pub Contains-put_cases : (x : A) (ys : List A) (z : A) → Contains (put cmp key x ys) z → (x ≡ z) ⊎ Contains ys z
  Contains-put_cases x [] z has = Contains-cons_cases x [] z has
  Contains-put_cases x (y ∷ ys) z has = put_cases_by x y ys z (cmp (key x) (key y)) has (Contains-put_cases x ys z)
    where
      after : (x y : A) (ys : List A) (z : A) → (x ≡ z) ⊎ Contains ys z → (x ≡ z) ⊎ Contains (y ∷ ys) z
      after x y ys z (inl e) = inl e
      after x y ys z (inr has) = inr (Contains-tail y ys z has)

      first_or : (x y : A) (ys zs : List A) (z : A) → (y ≡ z) ⊎ Contains zs z → (Contains zs z → (x ≡ z) ⊎ Contains ys z) → (x ≡ z) ⊎ Contains (y ∷ ys) z
      first_or x y ys zs z (inl e) later = inr (subst (Contains (y ∷ ys)) e (Contains-head y ys))
      first_or x y ys zs z (inr has) later = after x y ys z (later has)

      put_cases_by : (x y : A) (ys : List A) (z : A) (r : Ordering) → Contains (match_ordering r (x ∷ y ∷ ys) (x ∷ ys) (y ∷ put cmp key x ys)) z → (Contains (put cmp key x ys) z → (x ≡ z) ⊎ Contains ys z) → (x ≡ z) ⊎ Contains (y ∷ ys) z
      put_cases_by x y ys z Less has later = Contains-cons_cases x (y ∷ ys) z has
      put_cases_by x y ys z Equal has later = after x y ys z (Contains-cons_cases x ys z has)
      put_cases_by x y ys z Greater has later = first_or x y ys (put cmp key x ys) z (Contains-cons_cases y (put cmp key x ys) z has) later

  pub Contains-without : (k : K) (xs : List A) (z : A) → Contains (without cmp key k xs) z → Contains xs z
  Contains-without k [] z has = has
  Contains-without k (x ∷ xs) z has = without_by k x xs z (is_eq (cmp k (key x))) has (Contains-without k xs z)
    where
      first_or : (x : A) (xs zs : List A) (z : A) → (x ≡ z) ⊎ Contains zs z → (Contains zs z → Contains xs z) → Contains (x ∷ xs) z
      first_or x xs zs z (inl e) later = subst (Contains (x ∷ xs)) e (Contains-head x xs)
      first_or x xs zs z (inr has) later = Contains-tail x xs z (later has)

      without_by : (k : K) (x : A) (xs : List A) (z : A) (b : Bool) → Contains (cond b xs (x ∷ without cmp key k xs)) z → (Contains (without cmp key k xs) z → Contains xs z) → Contains (x ∷ xs) z
      without_by k x xs z true has later = Contains-tail x xs z has
      without_by k x xs z false has later = first_or x xs (without cmp key k xs) z (Contains-cons_cases x (without cmp key k xs) z has) later
