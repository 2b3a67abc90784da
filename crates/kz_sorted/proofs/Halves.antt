-- What an item of a list that rises says of the items on each side of it.
use Rattle.std.proofs.Common.{◌≡◌, ℕ, ◌+◌, ◌<◌, List, Ordering, Less, Greater, Equal, length, get_or, HoldsAt, sym, ap, ◌∙◌, subst, arith, eq-or-lt_of_le, ⊎_elim}
use Rattle.std.proofs.lemmas.List.{get_or_default}
use Rattle.std.specs.Ordering.{ordering_reverse}
use Rattle.std.specs.List.{AllWithin}
use Rattle.kz_types.specs.Order.{TotalOrder}
use Rattle.kz_types.specs.Ordered.{Rises}
use Rattle.kz_types.proofs.Lookup.{less_by_place}

module _ {A K : Type 0} {cmp : K → K → Ordering} (o : TotalOrder cmp) (key : A → K) where
  at_default : (xs : List A) (i : ℕ) (x d : A) → x ≡ get_or xs i x → i < length xs → x ≡ get_or xs i d
  at_default xs i x d is within = is ∙ get_or_default xs i x d within

  -- all items up to one below the key are below it
  pub under_more : (k : K) (xs : List A) (i : ℕ) (x : A) → Rises cmp key xs → i < length xs → x ≡ get_or xs i x → cmp (key x) k ≡ Less → AllWithin (λ y. cmp (key y) k ≡ Less) xs 0 (i + 1)
  under_more k xs i x h within is less = λ j d from to. ⊎_elim
      (λ (same : j ≡ i). subst (λ n. cmp (key (get_or xs n d)) k ≡ Less) (sym same) (subst (λ y. cmp (key y) k ≡ Less) (at_default xs i x d is within) less))
      (λ (before : j < i). o.chain (key (get_or xs j d)) (key (get_or xs i d)) k (less_by_place o key xs j i d h before within) (subst (λ y. cmp (key y) k ≡ Less) (at_default xs i x d is within) less))
      (eq-or-lt_of_le (omega arith))

  -- all items from one above the key on are above it
  pub over_more : (k : K) (xs : List A) (i : ℕ) (x : A) → Rises cmp key xs → i < length xs → x ≡ get_or xs i x → cmp (key x) k ≡ Greater → AllWithin (λ y. cmp k (key y) ≡ Less) xs i (length xs)
  over_more k xs i x h within is greater = λ j d from to.
      let less : cmp k (key (get_or xs i d)) ≡ Less = subst (λ y. cmp k (key y) ≡ Less) (at_default xs i x d is within) (o.mirror k (key x) ∙ ap ordering_reverse greater) in
      ⊎_elim
      (λ (same : i ≡ j). subst (λ n. cmp k (key (get_or xs n d)) ≡ Less) same less)
      (λ (before : i < j). o.chain k (key (get_or xs i d)) (key (get_or xs j d)) less (less_by_place o key xs i j d h before to))
      (eq-or-lt_of_le from)

  -- an item with the key holds it at its place
  pub holds_here : (k : K) (xs : List A) (i : ℕ) (x : A) → i < length xs → x ≡ get_or xs i x → cmp (key x) k ≡ Equal → HoldsAt (λ y. key y ≡ k) xs i
  holds_here k xs i x within is equal = λ d. subst (λ y. key y ≡ k) (at_default xs i x d is within) (o.same (key x) k equal)
