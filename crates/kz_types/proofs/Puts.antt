-- Many items put, one after another.
use Rattle.std.proofs.Common.{◌≡◌, ◌⊎◌, List, [], ◌∷◌, ◌++◌, reverse, Ordering, Contains, refl, sym, ap, ◌∙◌, subst, inl, inr, append_assoc, append-nil}
use Rattle.std.specs.Option.{option_or}
use Rattle.std.proofs.lemmas.List.{reverse-append}
use Rattle.kz_types.specs.Order.{TotalOrder}
use Rattle.kz_types.specs.Ordered.{find, put, all_put, Rises}
use Rattle.kz_types.proofs.Order.{below, equal, above, place, less_differs, less_differs_back}
use Rattle.kz_types.proofs.Lookup.{find_here, find_skip, find-put_same, find-put_other, Rises-put, Contains-put_cases, Contains-head, Contains-tail}
use Rattle.kz_types.proofs.Append.{find-append, put_last, below_split}

module _ {A K : Type 0} {cmp : K → K → Ordering} (o : TotalOrder cmp) (key : A → K) where
  -- to look up after a put is to look up with the item in front
  pub find-put : (k : K) (x : A) (ys : List A) → find cmp key k (put cmp key x ys) ≡ find cmp key k (x ∷ ys)
  find-put k x ys = elim (place o k (key x)) [
    | below h ↦ find-put_other o key x ys k (less_differs o k (key x) h) ∙ sym (find_skip o key k x ys (less_differs o k (key x) h))
    | equal h ↦ ap (λ q. find cmp key q (put cmp key x ys)) h ∙ find-put_same o key x ys ∙ sym (find_here o key k x ys h)
    | above h ↦ find-put_other o key x ys k (less_differs_back o k (key x) h) ∙ sym (find_skip o key k x ys (less_differs_back o k (key x) h))
  ]

  -- the last item with the key is found, and else what was there
  pub find-all_put : (k : K) (xs ys : List A) → find cmp key k (all_put cmp key xs ys) ≡ find cmp key k (reverse xs ++ ys)
  find-all_put k [] ys = refl
  find-all_put k (x ∷ xs) ys =
      find-all_put k xs (put cmp key x ys) ∙ find-append cmp key k (reverse xs) (put cmp key x ys) ∙ ap (option_or (find cmp key k (reverse xs))) (find-put k x ys)
      ∙ sym (find-append cmp key k (reverse xs) (x ∷ ys)) ∙ ap (find cmp key k) (sym (append_assoc (reverse xs) (x ∷ []) ys) ∙ ap (λ zs. zs ++ ys) (sym (reverse-append (x ∷ []) xs)))

  pub Rises-all_put : (xs ys : List A) → Rises cmp key ys → Rises cmp key (all_put cmp key xs ys)
  Rises-all_put [] ys h = h
  Rises-all_put (x ∷ xs) ys h = Rises-all_put xs (put cmp key x ys) (Rises-put o key x ys h)

  pub all_put-append : (xs zs ys : List A) → all_put cmp key (xs ++ zs) ys ≡ all_put cmp key zs (all_put cmp key xs ys)
  all_put-append [] zs ys = refl
  all_put-append (x ∷ xs) zs ys = all_put-append xs zs (put cmp key x ys)

  -- what stands afterwards is one of the items, or was there
  pub Contains-all_put_cases : (xs ys : List A) (z : A) → Contains (all_put cmp key xs ys) z → Contains xs z ⊎ Contains ys z
  Contains-all_put_cases [] ys z has = inr has
  Contains-all_put_cases (x ∷ xs) ys z has = before x xs ys z (Contains-all_put_cases xs (put cmp key x ys) z has)
    where
      put_before : (x : A) (xs ys : List A) (z : A) → (x ≡ z) ⊎ Contains ys z → Contains (x ∷ xs) z ⊎ Contains ys z
      put_before x xs ys z (inl e) = inl (subst (Contains (x ∷ xs)) e (Contains-head x xs))
      put_before x xs ys z (inr has) = inr has

      before : (x : A) (xs ys : List A) (z : A) → Contains xs z ⊎ Contains (put cmp key x ys) z → Contains (x ∷ xs) z ⊎ Contains ys z
      before x xs ys z (inl has) = inl (Contains-tail x xs z has)
      before x xs ys z (inr has) = put_before x xs ys z (Contains-put_cases o key x ys z has)

  -- items that rise are put after one another
  pub all_put_in_order : (xs ys : List A) → Rises cmp key (ys ++ xs) → all_put cmp key xs ys ≡ ys ++ xs
  all_put_in_order [] ys h = sym (append-nil ys)
  all_put_in_order (x ∷ xs) ys h =
      ap (all_put cmp key xs) (put_last o key x ys (below_split o key ys x xs h))
      ∙ all_put_in_order xs (ys ++ x ∷ []) (subst (Rises cmp key) (sym (append_assoc ys (x ∷ []) xs)) h) ∙ append_assoc ys (x ∷ []) xs

  pub all_put_of_rising : (xs : List A) → Rises cmp key xs → all_put cmp key xs [] ≡ xs
  all_put_of_rising xs h = all_put_in_order xs [] h
