-- Lists whose items are themselves lists, one for each key: what becomes of one that grows by an item.
use Rattle.std.proofs.Common.{◌≡◌, List, [], ◌∷◌, ◌++◌, Option, Some, None, Ordering, Less, Greater, refl, sym, ap, ◌∙◌, subst}
use Rattle.kz_types.specs.Order.{TotalOrder}
use Rattle.kz_types.specs.Ordered.{find, put, Rises, AllBelow}
use Rattle.kz_types.proofs.Order.{below, equal, above, place, cmp_equal, cmp_greater, less_differs, less_differs_back}
use Rattle.kz_types.proofs.Lookup.{find-put_same, find-put_other, Rises-put, same_items}
use Rattle.kz_types.proofs.Append.{put_last}

module _ {X K : Type 0} {cmp : K → K → Ordering} (o : TotalOrder cmp) (key : X → K) where
  -- an item that is put takes the place of one put before
  pub put_over : (x y : X) (xs : List X) → key x ≡ key y → put cmp key x (put cmp key y xs) ≡ put cmp key x xs
  put_over x y [] e = rw (cmp_equal o (key x) (key y) e) refl
  put_over x y (z ∷ zs) e = elim (place o (key y) (key z)) [
    | below h ↦ let first : cmp (key x) (key z) ≡ Less = subst (λ k. cmp k (key z) ≡ Less) (sym e) h in rw (h, cmp_equal o (key x) (key y) e, first) refl
    | equal h ↦ rw (cmp_equal o (key y) (key z) h, cmp_equal o (key x) (key y) e, cmp_equal o (key x) (key z) (e ∙ h)) refl
    | above h ↦
        let last : cmp (key x) (key z) ≡ Greater = cmp_greater o (key x) (key z) (subst (λ k. cmp (key z) k ≡ Less) (sym e) h) in
        rw (cmp_greater o (key y) (key z) h, last) (ap (λ rest. z ∷ rest) (put_over x y zs e))
  ]

  -- an item that is found stays as it is when it is put
  pub put_found : (x : X) (xs : List X) → Rises cmp key xs → find cmp key (key x) xs ≡ Some x → put cmp key x xs ≡ xs
  put_found x xs h found = same_items o key (put cmp key x xs) xs (Rises-put o key x xs h) h each
    where
      each : (k : K) → find cmp key k (put cmp key x xs) ≡ find cmp key k xs
      each k = elim (place o k (key x)) [
        | below less ↦ find-put_other o key x xs k (less_differs o k (key x) less)
        | equal e ↦ ap (λ q. find cmp key q (put cmp key x xs)) e ∙ find-put_same o key x xs ∙ sym found ∙ ap (λ q. find cmp key q xs) (sym e)
        | above more ↦ find-put_other o key x xs k (less_differs_back o k (key x) more)
      ]

-- the items with this list for a key that has none
abbrev pub grown : {A X K : Type 0} → (K → K → Ordering) → (X → K) → (K → List A → X) → K → List A → List X → List X
grown cmp key make k [] xs = xs
grown cmp key make k (a ∷ rest) xs = put cmp key (make k (a ∷ rest)) xs

-- `make` gives the item of a key and a list, and `at` its list, which is empty where there is no item; `set` puts a list that
-- isn't empty
module _ {A X K J : Type 0} {cmp : K → K → Ordering} (o : TotalOrder cmp) (key : X → K) {ord : J → J → Ordering} (p : TotalOrder ord) (rank : A → J)
    (make : K → List A → X) (at : Option X → List A) (set : K → List A → List X → List X)
    (keeps : (k : K) (list : List A) → key (make k list) ≡ k) (none : at None ≡ []) (some : (k : K) (list : List A) → at (Some (make k list)) ≡ list)
    (sets : (k : K) (a : A) (rest : List A) (xs : List X) → set k (a ∷ rest) xs ≡ put cmp key (make k (a ∷ rest)) xs) where
  list_of_grown : (k : K) (done : List A) (xs : List X) → find cmp key k xs ≡ None → at (find cmp key k (grown cmp key make k done xs)) ≡ done
  list_of_grown k [] xs absent = ap at absent ∙ none
  list_of_grown k (a ∷ rest) xs absent =
      ap (λ q. at (find cmp key q (put cmp key (make k (a ∷ rest)) xs))) (sym (keeps k (a ∷ rest)))
      ∙ ap at (find-put_same o key (make k (a ∷ rest)) xs) ∙ some k (a ∷ rest)

  one_more : (k : K) (done : List A) (a : A) (xs : List X) → set k (done ++ a ∷ []) (grown cmp key make k done xs) ≡ grown cmp key make k (done ++ a ∷ []) xs
  one_more k [] a xs = sets k a [] xs
  one_more k (b ∷ bs) a xs = sets k b (bs ++ a ∷ []) (put cmp key (make k (b ∷ bs)) xs) ∙ put_over o key (make k (b ∷ (bs ++ a ∷ []))) (make k (b ∷ bs)) xs (keeps k (b ∷ (bs ++ a ∷ [])) ∙ sym (keeps k (b ∷ bs)))

  pub grows : (k : K) (done : List A) (a : A) (xs : List X) → find cmp key k xs ≡ None → AllBelow ord rank done (rank a)
      → set k (put ord rank a (at (find cmp key k (grown cmp key make k done xs)))) (grown cmp key make k done xs) ≡ grown cmp key make k (done ++ a ∷ []) xs
  grows k done a xs absent under =
      ap (λ list. set k (put ord rank a list) (grown cmp key make k done xs)) (list_of_grown k done xs absent)
      ∙ ap (λ list. set k list (grown cmp key make k done xs)) (put_last p rank a done under)
      ∙ one_more k done a xs
