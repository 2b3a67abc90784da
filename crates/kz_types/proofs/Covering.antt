-- A difference is known from the look-ups in its two lists, so keys that cover it suffice.
use Rattle.std.proofs.Common.{◌≡◌, ◌≢◌, Bool, true, false, cond, List, [], ◌∷◌, ◌++◌, Option, Some, None, option_to_list, Ordering, Less, Contains, refl, sym, ap, ◌∙◌, subst}
use Rattle.std.specs.Option.{option_or}
use Rattle.std.specs.Ordering.{flip_args}
use Rattle.kz_types.specs.Order.{TotalOrder}
use Rattle.kz_types.specs.Ordered.{find, RisesAbove, Rises}
use Rattle.kz_types.specs.Difference.{DecidesEqual, Edit, drop_key, make, alter, drop_unless, drops, make_or_alter, makes, difference}
use Rattle.kz_types.specs.Edits.{edit_key}
use Rattle.kz_types.specs.Covering.{at_keys, Covers}
use Rattle.kz_types.proofs.Order.{below, equal, above, place, less_differs, less_differs_back, flipped}
use Rattle.kz_types.proofs.Lookup.{some_is_none, find_here, find_skip, key_of_found, find_at_bound, rest_rises, rises_from_above, rises_above_smaller, same_items, contained_is_found}
use Rattle.kz_types.proofs.Append.{find-append}
use Rattle.kz_types.proofs.Edits.{drops_fall, makes_rise}

-- the drop at a key, from what the two lists find there
abbrev pub drop_at : {A K : Type 0} → K → Option A → Option A → Option (Edit A K)
drop_at k None s = None
drop_at k (Some y) None = Some (drop_key k)
drop_at k (Some y) (Some x) = None

-- what is made or altered at a key, from what the two lists find there
abbrev pub made_at : {A K : Type 0} → (A → A → Bool) → A → Option A → Option (Edit A K)
made_at same x None = Some (make x)
made_at same x (Some y) = cond (same y x) None (Some (alter x))

abbrev pub make_at : {A K : Type 0} → (A → A → Bool) → Option A → Option A → Option (Edit A K)
make_at same r None = None
make_at same r (Some x) = made_at same x r

or_none : {X : Type 0} (r : Option X) → option_or r None ≡ r
or_none None = refl
or_none (Some x) = refl

module _ {A K : Type 0} {cmp : K → K → Ordering} (o : TotalOrder cmp) (key : A → K) where
  -- ---- look-ups in the drops

  own_drop : (k : K) (x : A) (r : Option A) → k ≡ key x → find (flip_args cmp) (edit_key key) k (drop_unless (key x) r) ≡ drop_at k (Some x) r
  own_drop k x (Some y) e = refl
  own_drop k x None e = find_here (flipped o) (edit_key key) k (drop_key (key x)) [] e ∙ ap (λ j. Some (drop_key j)) (sym e)

  other_drop : (k : K) (x : A) (r : Option A) → k ≢ key x → ◌≡◌ {A = Option (Edit A K)} (find (flip_args cmp) (edit_key key) k (drop_unless (key x) r)) None
  other_drop k x (Some y) ne = refl
  other_drop k x None ne = find_skip (flipped o) (edit_key key) k (drop_key (key x)) [] ne

  joined_drops : (k : K) (x : A) (a b : List A) (r s : Option (Edit A K)) → find (flip_args cmp) (edit_key key) k (drops cmp key a b) ≡ r → find (flip_args cmp) (edit_key key) k (drop_unless (key x) (find cmp key (key x) b)) ≡ s → find (flip_args cmp) (edit_key key) k (drops cmp key (x ∷ a) b) ≡ option_or r s
  joined_drops k x a b r s e f = find-append (flip_args cmp) (edit_key key) k (drops cmp key a b) (drop_unless (key x) (find cmp key (key x) b)) ∙ rw (e, f)

  skipped_drop : (k : K) (x : A) (a b : List A) → k ≢ key x → find (flip_args cmp) (edit_key key) k (drops cmp key a b) ≡ drop_at k (find cmp key k a) (find cmp key k b) → find (flip_args cmp) (edit_key key) k (drops cmp key (x ∷ a) b) ≡ drop_at k (find cmp key k (x ∷ a)) (find cmp key k b)
  skipped_drop k x a b ne later = joined_drops k x a b (drop_at k (find cmp key k a) (find cmp key k b)) None later (other_drop k x (find cmp key (key x) b) ne) ∙ or_none (drop_at k (find cmp key k a) (find cmp key k b)) ∙ ap (λ r. drop_at k r (find cmp key k b)) (sym (find_skip o key k x a ne))

  pub find-drops : (k : K) (a b : List A) → Rises cmp key a → find (flip_args cmp) (edit_key key) k (drops cmp key a b) ≡ drop_at k (find cmp key k a) (find cmp key k b)
  find-drops k [] b h = refl
  find-drops k (x ∷ a) b h = elim (place o k (key x)) [
    | below p ↦ skipped_drop k x a b (less_differs o k (key x) p) (find-drops k a b (rest_rises o key x a h))
    | equal p ↦
        let gone : find cmp key k a ≡ None = ap (λ j. find cmp key j a) p ∙ find_at_bound o key (key x) a h in
        let later = find-drops k a b (rest_rises o key x a h) ∙ ap (λ r. drop_at k r (find cmp key k b)) gone in
        let own = own_drop k x (find cmp key (key x) b) p ∙ ap (λ j. drop_at k (Some x) (find cmp key j b)) (sym p) in
        joined_drops k x a b None (drop_at k (Some x) (find cmp key k b)) later own ∙ ap (λ r. drop_at k r (find cmp key k b)) (sym (find_here o key k x a p))
    | above p ↦ skipped_drop k x a b (less_differs_back o k (key x) p) (find-drops k a b (rest_rises o key x a h))
  ]

  -- ---- look-ups in what is made and altered

  module _ (same : A → A → Bool) where
    own_alter : (k : K) (x : A) (t : Bool) → k ≡ key x → find cmp (edit_key key) k (cond t [] (alter x ∷ [])) ≡ cond t None (Some (alter x))
    own_alter k x true e = refl
    own_alter k x false e = find_here o (edit_key key) k (alter x) [] e

    own_make : (k : K) (x : A) (r : Option A) → k ≡ key x → find cmp (edit_key key) k (make_or_alter same x r) ≡ made_at same x r
    own_make k x None e = find_here o (edit_key key) k (make x) [] e
    own_make k x (Some y) e = own_alter k x (same y x) e

    other_alter : (k : K) (x : A) (t : Bool) → k ≢ key x → ◌≡◌ {A = Option (Edit A K)} (find cmp (edit_key key) k (cond t [] (alter x ∷ []))) None
    other_alter k x true ne = refl
    other_alter k x false ne = find_skip o (edit_key key) k (alter x) [] ne

    other_make : (k : K) (x : A) (r : Option A) → k ≢ key x → ◌≡◌ {A = Option (Edit A K)} (find cmp (edit_key key) k (make_or_alter same x r)) None
    other_make k x None ne = find_skip o (edit_key key) k (make x) [] ne
    other_make k x (Some y) ne = other_alter k x (same y x) ne

    joined_makes : (k : K) (x : A) (a b : List A) (r s : Option (Edit A K)) → find cmp (edit_key key) k (make_or_alter same x (find cmp key (key x) a)) ≡ r → find cmp (edit_key key) k (makes cmp key same a b) ≡ s → find cmp (edit_key key) k (makes cmp key same a (x ∷ b)) ≡ option_or r s
    joined_makes k x a b r s e f = find-append cmp (edit_key key) k (make_or_alter same x (find cmp key (key x) a)) (makes cmp key same a b) ∙ rw (e, f)

    skipped_make : (k : K) (x : A) (a b : List A) → k ≢ key x → find cmp (edit_key key) k (makes cmp key same a b) ≡ make_at same (find cmp key k a) (find cmp key k b) → find cmp (edit_key key) k (makes cmp key same a (x ∷ b)) ≡ make_at same (find cmp key k a) (find cmp key k (x ∷ b))
    skipped_make k x a b ne later = joined_makes k x a b None (make_at same (find cmp key k a) (find cmp key k b)) (other_make k x (find cmp key (key x) a) ne) later ∙ ap (make_at same (find cmp key k a)) (sym (find_skip o key k x b ne))

    pub find-makes : (k : K) (a b : List A) → Rises cmp key b → find cmp (edit_key key) k (makes cmp key same a b) ≡ make_at same (find cmp key k a) (find cmp key k b)
    find-makes k a [] h = refl
    find-makes k a (x ∷ b) h = elim (place o k (key x)) [
      | below p ↦ skipped_make k x a b (less_differs o k (key x) p) (find-makes k a b (rest_rises o key x b h))
      | equal p ↦
          let gone : find cmp key k b ≡ None = ap (λ j. find cmp key j b) p ∙ find_at_bound o key (key x) b h in
          let later = find-makes k a b (rest_rises o key x b h) ∙ ap (make_at same (find cmp key k a)) gone in
          let own = own_make k x (find cmp key (key x) a) p ∙ ap (λ j. made_at same x (find cmp key j a)) (sym p) in
          joined_makes k x a b (made_at same x (find cmp key k a)) None own later ∙ or_none (made_at same x (find cmp key k a)) ∙ ap (make_at same (find cmp key k a)) (sym (find_here o key k x b p))
      | above p ↦ skipped_make k x a b (less_differs_back o k (key x) p) (find-makes k a b (rest_rises o key x b h))
    ]

    -- two differences are equal where the look-ups call for the same edit at each key
    pub same_differences : (a b c d : List A) → Rises cmp key a → Rises cmp key b → Rises cmp key c → Rises cmp key d
        → ((k : K) → drop_at k (find cmp key k a) (find cmp key k b) ≡ drop_at k (find cmp key k c) (find cmp key k d))
        → ((k : K) → ◌≡◌ {A = Option (Edit A K)} (make_at same (find cmp key k a) (find cmp key k b)) (make_at same (find cmp key k c) (find cmp key k d)))
        → difference cmp key same a b ≡ difference cmp key same c d
    same_differences a b c d ha hb hc hd dropped made =
        let first = same_items (flipped o) (edit_key key) (drops cmp key a b) (drops cmp key c d) (drops_fall o key same a b ha) (drops_fall o key same c d hc) (λ k. find-drops k a b ha ∙ dropped k ∙ sym (find-drops k c d hc)) in
        let others = same_items o (edit_key key) (makes cmp key same a b) (makes cmp key same c d) (makes_rise o key same a b hb) (makes_rise o key same c d hd) (λ k. find-makes k a b hb ∙ made k ∙ sym (find-makes k c d hd)) in
        ap (λ es. es ++ makes cmp key same a b) first ∙ ap (λ es. drops cmp key c d ++ es) others

  -- ---- the items under some keys

  above_or_none : (j k : K) (r : Option A) (xs : List A) → ((y : A) → r ≡ Some y → key y ≡ k) → cmp j k ≡ Less → RisesAbove cmp key k xs → RisesAbove cmp key j (option_to_list r ++ xs)
  above_or_none j k None xs keys lt h = rises_above_smaller o key j k xs lt h
  above_or_none j k (Some y) xs keys lt h = (subst (λ q. cmp j q ≡ Less) (sym (keys y refl)) lt, subst (λ q. RisesAbove cmp key q xs) (sym (keys y refl)) h)

  RisesAbove-at_keys : (j : K) (ks : List K) (xs : List A) → RisesAbove cmp (λ q. q) j ks → RisesAbove cmp key j (at_keys cmp key ks xs)
  RisesAbove-at_keys j [] xs h = tt
  RisesAbove-at_keys j (k ∷ ks) xs h = above_or_none j k (find cmp key k xs) (at_keys cmp key ks xs) (λ y e. key_of_found o key k xs y e) h.0 (RisesAbove-at_keys k ks xs h.1)

  first_or_none : (k : K) (r : Option A) (xs : List A) → ((y : A) → r ≡ Some y → key y ≡ k) → RisesAbove cmp key k xs → Rises cmp key (option_to_list r ++ xs)
  first_or_none k None xs keys h = rises_from_above o key k xs h
  first_or_none k (Some y) xs keys h = subst (λ q. RisesAbove cmp key q xs) (sym (keys y refl)) h

  pub Rises-at_keys : (ks : List K) (xs : List A) → Rises cmp (λ q. q) ks → Rises cmp key (at_keys cmp key ks xs)
  Rises-at_keys [] xs h = tt
  Rises-at_keys (k ∷ ks) xs h = first_or_none k (find cmp key k xs) (at_keys cmp key ks xs) (λ y e. key_of_found o key k xs y e) (RisesAbove-at_keys k ks xs h)

  own_or_later : (k : K) (r s : Option A) (xs : List A) → r ≡ s → ((y : A) → r ≡ Some y → key y ≡ k) → (s ≡ None → find cmp key k xs ≡ None) → find cmp key k (option_to_list r ++ xs) ≡ s
  own_or_later k None s xs e keys later = later (sym e) ∙ e
  own_or_later k (Some y) s xs e keys later = find_here o key k y xs (sym (keys y refl)) ∙ e

  passed_over : (k j : K) (r : Option A) (xs : List A) → ((y : A) → r ≡ Some y → key y ≡ j) → k ≢ j → find cmp key k (option_to_list r ++ xs) ≡ find cmp key k xs
  passed_over k j None xs keys ne = refl
  passed_over k j (Some y) xs keys ne = find_skip o key k y xs (λ e. ne (e ∙ keys y refl))

  absent_at_keys : (k : K) (ks : List K) (xs : List A) → find cmp key k xs ≡ None → find cmp key k (at_keys cmp key ks xs) ≡ None
  absent_at_keys k [] xs e = refl
  absent_at_keys k (j ∷ ks) xs e = elim (place o k j) [
    | below p ↦ passed_over k j (find cmp key j xs) (at_keys cmp key ks xs) (λ y f. key_of_found o key j xs y f) (less_differs o k j p) ∙ absent_at_keys k ks xs e
    | equal p ↦ own_or_later k (find cmp key j xs) None (at_keys cmp key ks xs) (ap (λ q. find cmp key q xs) (sym p) ∙ e) (λ y f. key_of_found o key j xs y f ∙ sym p) (λ none. absent_at_keys k ks xs e)
    | above p ↦ passed_over k j (find cmp key j xs) (at_keys cmp key ks xs) (λ y f. key_of_found o key j xs y f) (less_differs_back o k j p) ∙ absent_at_keys k ks xs e
  ]

  -- under one of the keys, what the list finds
  pub find-at_keys_in : (k : K) (ks : List K) (xs : List A) (j : K) → find cmp (λ q. q) k ks ≡ Some j → find cmp key k (at_keys cmp key ks xs) ≡ find cmp key k xs
  find-at_keys_in k [] xs i e = absurd (some_is_none (sym e))
  find-at_keys_in k (j ∷ ks) xs i e = elim (place o k j) [
    | below p ↦ passed_over k j (find cmp key j xs) (at_keys cmp key ks xs) (λ y f. key_of_found o key j xs y f) (less_differs o k j p) ∙ find-at_keys_in k ks xs i (sym (find_skip o (λ q. q) k j ks (less_differs o k j p)) ∙ e)
    | equal p ↦ own_or_later k (find cmp key j xs) (find cmp key k xs) (at_keys cmp key ks xs) (ap (λ q. find cmp key q xs) (sym p)) (λ y f. key_of_found o key j xs y f ∙ sym p) (λ none. absent_at_keys k ks xs none)
    | above p ↦ passed_over k j (find cmp key j xs) (at_keys cmp key ks xs) (λ y f. key_of_found o key j xs y f) (less_differs_back o k j p) ∙ find-at_keys_in k ks xs i (sym (find_skip o (λ q. q) k j ks (less_differs_back o k j p)) ∙ e)
  ]

  -- under another key, nothing
  pub find-at_keys_other : (k : K) (ks : List K) (xs : List A) → find cmp (λ q. q) k ks ≡ None → find cmp key k (at_keys cmp key ks xs) ≡ None
  find-at_keys_other k [] xs e = refl
  find-at_keys_other k (j ∷ ks) xs e = elim (place o k j) [
    | below p ↦ passed_over k j (find cmp key j xs) (at_keys cmp key ks xs) (λ y f. key_of_found o key j xs y f) (less_differs o k j p) ∙ find-at_keys_other k ks xs (sym (find_skip o (λ q. q) k j ks (less_differs o k j p)) ∙ e)
    | equal p ↦ absurd (some_is_none (sym (find_here o (λ q. q) k j ks p) ∙ e))
    | above p ↦ passed_over k j (find cmp key j xs) (at_keys cmp key ks xs) (λ y f. key_of_found o key j xs y f) (less_differs_back o k j p) ∙ find-at_keys_other k ks xs (sym (find_skip o (λ q. q) k j ks (less_differs_back o k j p)) ∙ e)
  ]

  -- ---- keys that cover a difference

  not_contained : (k : K) (ks : List K) → Rises cmp (λ q. q) ks → find cmp (λ q. q) k ks ≡ None → Contains ks k → ⊥
  not_contained k ks h e has = some_is_none (sym (contained_is_found o (λ q. q) ks k h has) ∙ e)

  module _ (same : A → A → Bool) (d : DecidesEqual key same) where
    nothing_dropped : (k : K) (r : Option A) → drop_at k r r ≡ None
    nothing_dropped k None = refl
    nothing_dropped k (Some x) = refl

    nothing_made : (r : Option A) → ◌≡◌ {A = Option (Edit A K)} (make_at same r r) None
    nothing_made None = refl
    nothing_made (Some x) = rw (d.itself x)

    module _ (ks : List K) (a b : List A) (hk : Rises cmp (λ q. q) ks) (covers : Covers cmp key ks a b) where
      drop_covered : (k : K) (r : Option K) → find cmp (λ q. q) k ks ≡ r → drop_at k (find cmp key k a) (find cmp key k b) ≡ drop_at k (find cmp key k (at_keys cmp key ks a)) (find cmp key k (at_keys cmp key ks b))
      drop_covered k (Some j) e = rw (find-at_keys_in k ks a j e, find-at_keys_in k ks b j e)
      drop_covered k None e = ap (λ r. drop_at k r (find cmp key k b)) (covers k (not_contained k ks hk e)) ∙ nothing_dropped k (find cmp key k b) ∙ rw (find-at_keys_other k ks a e)

      make_covered : (k : K) (r : Option K) → find cmp (λ q. q) k ks ≡ r → ◌≡◌ {A = Option (Edit A K)} (make_at same (find cmp key k a) (find cmp key k b)) (make_at same (find cmp key k (at_keys cmp key ks a)) (find cmp key k (at_keys cmp key ks b)))
      make_covered k (Some j) e = rw (find-at_keys_in k ks a j e, find-at_keys_in k ks b j e)
      make_covered k None e = ap (λ r. make_at same r (find cmp key k b)) (covers k (not_contained k ks hk e)) ∙ nothing_made (find cmp key k b) ∙ rw (find-at_keys_other k ks a e, find-at_keys_other k ks b e)

    pub covered_difference : (ks : List K) (a b : List A) → Rises cmp (λ q. q) ks → Rises cmp key a → Rises cmp key b → Covers cmp key ks a b → difference cmp key same a b ≡ difference cmp key same (at_keys cmp key ks a) (at_keys cmp key ks b)
    covered_difference ks a b hk ha hb covers = same_differences same a b (at_keys cmp key ks a) (at_keys cmp key ks b) ha hb (Rises-at_keys ks a hk) (Rises-at_keys ks b hk) (λ k. drop_covered ks a b hk covers k (find cmp (λ q. q) k ks) refl) (λ k. make_covered ks a b hk covers k (find cmp (λ q. q) k ks) refl)
