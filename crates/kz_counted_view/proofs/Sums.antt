-- Sums over two lists that differ under known keys alone. `cmp` orders the keys, and `key` gives the key of an item.
use Rattle.std.proofs.Common.{◌≡◌, ◌≢◌, ℕ, ◌+◌, List, [], ◌∷◌, ◌++◌, option_to_list, Ordering, Less, refl, sym, ap, ◌∙◌, subst, arith, inl, inr}
use Rattle.std.specs.List.{sum_by}
use Rattle.std.proofs.lemmas.List.Sums.{sum_by-append, sum_by-cons}
use Rattle.kz_types.specs.Order.{TotalOrder}
use Rattle.kz_types.specs.Ordered.{find, without, RisesAbove, Rises}
use Rattle.kz_types.specs.Covering.{at_keys, Covers}
use Rattle.kz_types.proofs.Order.{below, equal, above, place, less_differs, less_differs_back}
use Rattle.kz_types.proofs.Lookup.{Contains-cons_cases, Contains-nil, find_here, find_skip, without_here, without_skip, Rises-without, find-without_same, find-without_other, same_items, rises_from_above, rises_above_smaller}

module _ {A K : Type 0} {cmp : K → K → Ordering} (o : TotalOrder cmp) (key : A → K) (f : A → ℕ) where
  -- the item of a key, and the rest
  sum_without : (k : K) (xs : List A) → sum_by f xs ≡ sum_by f (option_to_list (find cmp key k xs)) + sum_by f (without cmp key k xs)
  sum_without k [] = refl
  sum_without k (x ∷ xs) = elim (place o k (key x)) [
    | below p ↦ skipped (less_differs o k (key x) p) (sum_without k xs)
    | equal p ↦
        let found : sum_by f (option_to_list (find cmp key k (x ∷ xs))) ≡ 0 + f x = ap (λ r. sum_by f (option_to_list r)) (find_here o key k x xs p) in
        let left = ap (sum_by f) (without_here o key k x xs p) in
        omega (arith, found, left, sum_by-cons f x xs)
    | above p ↦ skipped (less_differs_back o k (key x) p) (sum_without k xs)
  ]
    where
      skipped : k ≢ key x → sum_by f xs ≡ sum_by f (option_to_list (find cmp key k xs)) + sum_by f (without cmp key k xs) → sum_by f (x ∷ xs) ≡ sum_by f (option_to_list (find cmp key k (x ∷ xs))) + sum_by f (without cmp key k (x ∷ xs))
      skipped ne later =
          let found = ap (λ r. sum_by f (option_to_list r)) (find_skip o key k x xs ne) in
          let left = ap (sum_by f) (without_skip o key k x xs ne) in
          omega (arith, later, found, left, sum_by-cons f x xs, sum_by-cons f x (without cmp key k xs))

  -- an item that is taken out isn't asked for by other keys
  at_keys_without : (k : K) (ks : List K) (xs : List A) → RisesAbove cmp (λ q. q) k ks → at_keys cmp key ks (without cmp key k xs) ≡ at_keys cmp key ks xs
  at_keys_without k [] xs h = refl
  at_keys_without k (j ∷ ks) xs h =
      let ne : j ≢ k = less_differs_back o j k h.0 in
      ap (λ r. option_to_list r ++ at_keys cmp key ks (without cmp key k xs)) (find-without_other o key k xs j ne)
      ∙ ap (λ rest. option_to_list (find cmp key j xs) ++ rest) (at_keys_without k ks xs (above_both j ks h.0 h.1))
    where
      above_both : (j : K) (ks : List K) → cmp k j ≡ Less → RisesAbove cmp (λ q. q) j ks → RisesAbove cmp (λ q. q) k ks
      above_both j ks lt rises = rises_above_smaller o (λ q. q) k j ks lt rises

  -- the sums of two lists differ by those of the items under the keys
  pub covered_sums : (ks : List K) (a b : List A) → Rises cmp (λ q. q) ks → Rises cmp key a → Rises cmp key b → Covers cmp key ks a b → sum_by f b + sum_by f (at_keys cmp key ks a) ≡ sum_by f a + sum_by f (at_keys cmp key ks b)
  covered_sums [] a b hk ha hb covers = ap (λ xs. sum_by f xs + 0) (sym (same_items o key a b ha hb (λ k. covers k (Contains-nil k))))
  covered_sums (k ∷ ks) a b hk ha hb covers =
      let later = covered_sums ks (without cmp key k a) (without cmp key k b) (rises_from_above o (λ q. q) k ks hk) (Rises-without o key k a ha) (Rises-without o key k b hb) rest in
      let of_a = sum_without k a in
      let of_b = sum_without k b in
      let at_a = sum_by-append f (option_to_list (find cmp key k a)) (at_keys cmp key ks a) in
      let at_b = sum_by-append f (option_to_list (find cmp key k b)) (at_keys cmp key ks b) in
      let same_a = ap (sum_by f) (at_keys_without k ks a hk) in
      let same_b = ap (sum_by f) (at_keys_without k ks b hk) in
      omega (arith, later, of_a, of_b, at_a, at_b, same_a, same_b)
    where
      rest : Covers cmp key ks (without cmp key k a) (without cmp key k b)
      rest j outside = elim (place o j k) [
        | below p ↦ other (less_differs o j k p)
        | equal p ↦ subst (λ q. find cmp key q (without cmp key k a) ≡ find cmp key q (without cmp key k b)) (sym p) (find-without_same o key k a ha ∙ sym (find-without_same o key k b hb))
        | above p ↦ other (less_differs_back o j k p)
      ]
        where
          other : j ≢ k → find cmp key j (without cmp key k a) ≡ find cmp key j (without cmp key k b)
          other ne = find-without_other o key k a j ne ∙ covers j (λ has. elim (Contains-cons_cases k ks j has) [ inl is ↦ ne (sym is) | inr later ↦ outside later ]) ∙ sym (find-without_other o key k b j ne)
