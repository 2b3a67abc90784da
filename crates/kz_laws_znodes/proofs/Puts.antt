-- What is found among items that were put, one after another.
use Rattle.std.proofs.Common.{◌≡◌, ◌⊎◌, List, [], ◌∷◌, Some, Ordering, Contains, sym, ap, ◌∙◌, subst, inl, inr}
use Rattle.kz_types.specs.Order.{TotalOrder}
use Rattle.kz_types.specs.Ordered.{find, put, all_put}
use Rattle.kz_types.proofs.Order.{below, equal, above, place, less_differs, less_differs_back}
use Rattle.kz_types.proofs.Lookup.{same_some, find-put_same, find-put_other, Contains-head, Contains-tail, Contains-nil, Contains-cons_cases}

module _ {A K : Type 0} {cmp : K → K → Ordering} (o : TotalOrder cmp) (key : A → K) where
  -- what is found after one item is put
  found_put : (k : K) (x : A) (ys : List A) (z : A) → find cmp key k (put cmp key x ys) ≡ Some z → (x ≡ z) ⊎ (find cmp key k ys ≡ Some z)
  found_put k x ys z e = elim (place o k (key x)) [
    | below h ↦ inr (sym (find-put_other o key x ys k (less_differs o k (key x) h)) ∙ e)
    | equal h ↦ inl (same_some x z (sym (find-put_same o key x ys) ∙ ap (λ q. find cmp key q (put cmp key x ys)) (sym h) ∙ e))
    | above h ↦ inr (sym (find-put_other o key x ys k (less_differs_back o k (key x) h)) ∙ e)
  ]

  -- what is found is one of the items, or was there
  pub found_all_put : (k : K) (xs ys : List A) (z : A) → find cmp key k (all_put cmp key xs ys) ≡ Some z → Contains xs z ⊎ (find cmp key k ys ≡ Some z)
  found_all_put k [] ys z e = inr e
  found_all_put k (x ∷ xs) ys z e = before (found_all_put k xs (put cmp key x ys) z e)
    where
      at_first : (x ≡ z) ⊎ (find cmp key k ys ≡ Some z) → Contains (x ∷ xs) z ⊎ (find cmp key k ys ≡ Some z)
      at_first (inl is) = inl (subst (Contains (x ∷ xs)) is (Contains-head x xs))
      at_first (inr was) = inr was

      before : Contains xs z ⊎ (find cmp key k (put cmp key x ys) ≡ Some z) → Contains (x ∷ xs) z ⊎ (find cmp key k ys ≡ Some z)
      before (inl later) = inl (Contains-tail x xs z later)
      before (inr there) = at_first (found_put k x ys z there)

  -- a key that has an item keeps one
  still_put : (k : K) (x : A) (ys : List A) (y : A) → find cmp key k ys ≡ Some y → (z : A) × (find cmp key k (put cmp key x ys) ≡ Some z)
  still_put k x ys y e = elim (place o k (key x)) [
    | below h ↦ (y, find-put_other o key x ys k (less_differs o k (key x) h) ∙ e)
    | equal h ↦ (x, ap (λ q. find cmp key q (put cmp key x ys)) h ∙ find-put_same o key x ys)
    | above h ↦ (y, find-put_other o key x ys k (less_differs_back o k (key x) h) ∙ e)
  ]

  pub still_found : (k : K) (xs ys : List A) (y : A) → find cmp key k ys ≡ Some y → (z : A) × (find cmp key k (all_put cmp key xs ys) ≡ Some z)
  still_found k [] ys y e = (y, e)
  still_found k (x ∷ xs) ys y e = let s = still_put k x ys y e in still_found k xs (put cmp key x ys) s.0 s.1

  -- where one of the items has the key, what is found is one of them
  pub found_among : (xs ys : List A) (x z : A) → Contains xs x → find cmp key (key x) (all_put cmp key xs ys) ≡ Some z → Contains xs z
  found_among [] ys x z has e = absurd (Contains-nil x has)
  found_among (y ∷ xs) ys x z has e = elim (Contains-cons_cases y xs x has) [
    | inl is ↦ elim (found_all_put (key x) xs (put cmp key y ys) z e) [
      | inl later ↦ Contains-tail y xs z later
      | inr there ↦
          let own : find cmp key (key x) (put cmp key y ys) ≡ Some y = ap (λ q. find cmp key q (put cmp key y ys)) (sym (ap key is)) ∙ find-put_same o key y ys in
          subst (Contains (y ∷ xs)) (same_some y z (sym own ∙ there)) (Contains-head y xs)
    ]
    | inr later ↦ Contains-tail y xs z (found_among xs (put cmp key y ys) x z later e)
  ]

  pub put_is_found : (xs ys : List A) (x : A) → Contains xs x → (z : A) × (find cmp key (key x) (all_put cmp key xs ys) ≡ Some z)
  put_is_found [] ys x has = absurd (Contains-nil x has)
  put_is_found (y ∷ xs) ys x has = elim (Contains-cons_cases y xs x has) [
    | inl is ↦ still_found (key x) xs (put cmp key y ys) y (ap (λ q. find cmp key q (put cmp key y ys)) (sym (ap key is)) ∙ find-put_same o key y ys)
    | inr later ↦ put_is_found xs (put cmp key y ys) x later
  ]
