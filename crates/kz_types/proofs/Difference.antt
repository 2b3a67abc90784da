-- The difference of two lists that rise: it leads from the first to the second, also in parts.
use Rattle.std.proofs.Common.{◌≡◌, ◌≢◌, ◌⊎◌, ◌↔◌, ℕ, zero, suc, Bool, true, false, cond, List, [], ◌∷◌, ◌++◌, Option, Some, None, Ordering, Less, Contains, take, drop, refl, sym, ap, ◌∙◌, subst, inl, inr}
use Rattle.kz_types.specs.Order.{TotalOrder}
use Rattle.kz_types.specs.Ordered.{find, put, without, Rises}
use Rattle.kz_types.specs.Difference.{DecidesEqual, Edit, drop_key, make, alter, after_edit, all_edited, drop_unless, drops, make_or_alter, makes, difference}
use Rattle.kz_types.proofs.Order.{less_differs, less_differs_back}
use Rattle.kz_types.proofs.Lookup.{some_is_none, find_head, find_skip, key_of_found, find-put_same, find-put_other, rest_rises, found_above, Rises-put, without_here, without_skip, Rises-without, find-without_other, same_items, found_is_contained, contained_is_above, contained_is_found, Contains-head, Contains-tail, Contains-nil, Contains-cons_cases, Contains-put_cases}

empty_left : {X : Type 0} (xs ys : List X) → xs ++ ys ≡ [] → xs ≡ []
empty_left [] ys e = refl
empty_left (x ∷ xs) ys e = absurd (let no : x ∷ (xs ++ ys) ≡ [] = e in cc)

empty_right : {X : Type 0} (xs ys : List X) → xs ++ ys ≡ [] → ys ≡ []
empty_right [] ys e = e
empty_right (x ∷ xs) ys e = absurd (let no : x ∷ (xs ++ ys) ≡ [] = e in cc)

module _ {A K : Type 0} {cmp : K → K → Ordering} (o : TotalOrder cmp) (key : A → K) where
  -- ---- edits keep a list in order

  pub Rises-edited : (e : Edit A K) (xs : List A) → Rises cmp key xs → Rises cmp key (after_edit cmp key e xs)
  Rises-edited (drop_key k) xs h = Rises-without o key k xs h
  Rises-edited (make x) xs h = Rises-put o key x xs h
  Rises-edited (alter x) xs h = Rises-put o key x xs h

  pub Rises-all_edited : (es : List (Edit A K)) (xs : List A) → Rises cmp key xs → Rises cmp key (all_edited cmp key es xs)
  Rises-all_edited [] xs h = h
  Rises-all_edited (e ∷ es) xs h = Rises-all_edited es (after_edit cmp key e xs) (Rises-edited e xs h)

  pub all_edited-append : (es fs : List (Edit A K)) (xs : List A) → all_edited cmp key (es ++ fs) xs ≡ all_edited cmp key fs (all_edited cmp key es xs)
  all_edited-append [] fs xs = refl
  all_edited-append (e ∷ es) fs xs = all_edited-append es fs (after_edit cmp key e xs)

  -- ---- where there are no drops

  pub drops_agree : (a b c : List A) → ((z : A) → Contains a z → find cmp key (key z) c ≡ find cmp key (key z) b) → drops cmp key a c ≡ drops cmp key a b
  drops_agree [] b c h = refl
  drops_agree (x ∷ a) b c h = rw (h x (Contains-head x a)) (ap (λ es. es ++ drop_unless (key x) (find cmp key (key x) b)) (drops_agree a b c (λ z has. h z (Contains-tail x a z has))))

  none_dropped : (k : K) (r : Option A) → drop_unless k r ≡ [] → r ≢ None
  none_dropped k (Some y) e none = some_is_none none
  none_dropped k None e none = absurd (let no : ◌≡◌ {A = List (Edit A K)} (drop_key k ∷ []) [] = e in cc)

  -- then each key of the first list is in the second
  no_drops : (a b : List A) (z : A) → drops cmp key a b ≡ [] → Contains a z → find cmp key (key z) b ≢ None
  no_drops [] b z e has = absurd (Contains-nil z has)
  no_drops (x ∷ a) b z e has = elim (Contains-cons_cases x a z has) [
    | inl is ↦ subst (λ y. find cmp key (key y) b ≢ None) is (none_dropped (key x) (find cmp key (key x) b) (empty_right (drops cmp key a b) (drop_unless (key x) (find cmp key (key x) b)) e))
    | inr later ↦ no_drops a b z (empty_left (drops cmp key a b) (drop_unless (key x) (find cmp key (key x) b)) e) later
  ]

  kept : (k : K) (r : Option A) → r ≢ None → ◌≡◌ {A = List (Edit A K)} (drop_unless k r) []
  kept k (Some y) some = refl
  kept k None some = absurd (some refl)

  no_drops_from : (a b : List A) → ((z : A) → Contains a z → find cmp key (key z) b ≢ None) → drops cmp key a b ≡ []
  no_drops_from [] b h = refl
  no_drops_from (x ∷ a) b h = rw (kept (key x) (find cmp key (key x) b) (h x (Contains-head x a)), no_drops_from a b (λ z has. h z (Contains-tail x a z has)))

  -- ---- the first drop

  record FirstDrop (a b : List A) (e : Edit A K) (es : List (Edit A K)) : Type 0 where
    k : K
    is : e ≡ drop_key k
    y : A
    here : find cmp key k a ≡ Some y
    absent : find cmp key k b ≡ None
    rest : drops cmp key (without cmp key k a) b ≡ es

  last_dropped : (x : A) (a b : List A) (e : Edit A K) (es : List (Edit A K)) (r : Option A) → find cmp key (key x) b ≡ r → drops cmp key a b ≡ [] → drop_unless (key x) r ≡ e ∷ es → FirstDrop (x ∷ a) b e es
  last_dropped x a b e es (Some y) at none d = absurd (let no : [] ≡ e ∷ es = d in cc)
  last_dropped x a b e es None at none d =
      let whole : drop_key (key x) ∷ [] ≡ e ∷ es = d in
      record {
        k = key x;
        is = cc;
        y = x;
        here = find_head o key x a;
        absent = at;
        rest = ap (λ zs. drops cmp key zs b) (without_here o key (key x) x a refl) ∙ none ∙ cc;
      }

  first_drop_by : (x : A) (a b : List A) (e : Edit A K) (es : List (Edit A K)) → Rises cmp key (x ∷ a) → (fs : List (Edit A K)) → drops cmp key a b ≡ fs → fs ++ drop_unless (key x) (find cmp key (key x) b) ≡ e ∷ es → ((g : Edit A K) (gs : List (Edit A K)) → drops cmp key a b ≡ g ∷ gs → FirstDrop a b g gs) → FirstDrop (x ∷ a) b e es
  first_drop_by x a b e es h [] eq d after = last_dropped x a b e es (find cmp key (key x) b) refl eq d
  first_drop_by x a b e es h (f ∷ fs) eq d after =
      let own = drop_unless (key x) (find cmp key (key x) b) in
      let whole : f ∷ (fs ++ own) ≡ e ∷ es = d in
      let head : f ≡ e = cc in
      let tail : fs ++ own ≡ es = cc in
      let r = after f fs eq in
      let ne : r.k ≢ key x = less_differs_back o r.k (key x) (found_above o key (key x) r.k a r.y h r.here) in
      record {
        k = r.k;
        is = sym head ∙ r.is;
        y = r.y;
        here = find_skip o key r.k x a ne ∙ r.here;
        absent = r.absent;
        rest = ap (λ zs. drops cmp key zs b) (without_skip o key r.k x a ne) ∙ ap (λ gs. gs ++ own) r.rest ∙ tail;
      }

  first_drop : (a b : List A) (e : Edit A K) (es : List (Edit A K)) → Rises cmp key a → drops cmp key a b ≡ e ∷ es → FirstDrop a b e es
  first_drop [] b e es h d = absurd (let no : [] ≡ e ∷ es = d in cc)
  first_drop (x ∷ a) b e es h d = first_drop_by x a b e es h (drops cmp key a b) refl d (λ g gs eq. first_drop a b g gs (rest_rises o key x a h) eq)

  -- ---- what is made and altered

  module _ (same : A → A → Bool) where
    pub makes_agree : (a c b : List A) → ((z : A) → Contains b z → find cmp key (key z) c ≡ find cmp key (key z) a) → makes cmp key same c b ≡ makes cmp key same a b
    makes_agree a c [] h = refl
    makes_agree a c (x ∷ b) h = rw (h x (Contains-head x b)) (ap (λ es. make_or_alter same x (find cmp key (key x) a) ++ es) (makes_agree a c b (λ z has. h z (Contains-tail x b z has))))

    -- an item of the second list is put, or there is nothing to do
    pub data Made (x : A) (r : Option A) : Type 0 where
      as_it_is : make_or_alter {K = K} same x r ≡ [] → Made x r
      is_put : (e : Edit A K) → make_or_alter same x r ≡ e ∷ [] → ((ys : List A) → after_edit cmp key e ys ≡ put cmp key x ys) → Made x r

    made_by : (x y : A) (b : Bool) → same y x ≡ b → Made x (Some y)
    made_by x y true e = as_it_is (rw e)
    made_by x y false e = is_put (alter x) (rw e) (λ ys. refl)

    pub made : (x : A) (r : Option A) → Made x r
    made x None = is_put (make x) refl (λ ys. refl)
    made x (Some y) = made_by x y (same y x) refl

    module _ (d : DecidesEqual key same) where
      found_equal : (x y : A) (b : Bool) → same y x ≡ b → key y ≡ key x → ◌≡◌ {A = List (Edit A K)} (cond b [] (alter x ∷ [])) [] → y ≡ x
      found_equal x y true e keys none = d.equal y x keys e
      found_equal x y false e keys none = absurd (let no : ◌≡◌ {A = List (Edit A K)} (alter x ∷ []) [] = none in cc)

      found_as_it_is : (x : A) (r : Option A) → ((y : A) → r ≡ Some y → key y ≡ key x) → make_or_alter {K = K} same x r ≡ [] → r ≡ Some x
      found_as_it_is x None keys e = absurd (let no : ◌≡◌ {A = List (Edit A K)} (make x ∷ []) [] = e in cc)
      found_as_it_is x (Some y) keys e = ap Some (found_equal x y (same y x) refl (keys y refl) e)

      no_makes : (a b : List A) (z : A) → makes cmp key same a b ≡ [] → Contains b z → find cmp key (key z) a ≡ Some z
      no_makes a [] z e has = absurd (Contains-nil z has)
      no_makes a (x ∷ b) z e has = elim (Contains-cons_cases x b z has) [
        | inl is ↦ subst (λ y. find cmp key (key y) a ≡ Some y) is (found_as_it_is x (find cmp key (key x) a) (λ y f. key_of_found o key (key x) a y f) (empty_left (make_or_alter same x (find cmp key (key x) a)) (makes cmp key same a b) e))
        | inr later ↦ no_makes a b z (empty_right (make_or_alter same x (find cmp key (key x) a)) (makes cmp key same a b) e) later
      ]

      unmade : (x : A) → make_or_alter {K = K} same x (Some x) ≡ []
      unmade x = rw (d.itself x)

      no_makes_from : (a b : List A) → ((z : A) → Contains b z → find cmp key (key z) a ≡ Some z) → makes cmp key same a b ≡ []
      no_makes_from a [] h = refl
      no_makes_from a (x ∷ b) h = rw (h x (Contains-head x b), unmade x) (no_makes_from a b (λ z has. h z (Contains-tail x b z has)))

      -- ---- the first that is made or altered, where there are no drops

      record FirstMake (a b : List A) (e : Edit A K) (es : List (Edit A K)) : Type 0 where
        x : A
        acts : (ys : List A) → after_edit cmp key e ys ≡ put cmp key x ys
        here : find cmp key (key x) b ≡ Some x
        rest : makes cmp key same (put cmp key x a) b ≡ es

      first_make_by : (a : List A) (x : A) (b : List A) (e : Edit A K) (es : List (Edit A K)) → Rises cmp key (x ∷ b) → Made x (find cmp key (key x) a) → make_or_alter same x (find cmp key (key x) a) ++ makes cmp key same a b ≡ e ∷ es → (makes cmp key same a b ≡ e ∷ es → FirstMake a b e es) → FirstMake a (x ∷ b) e es
      first_make_by a x b e es h (as_it_is none) whole after =
          let r = after (rw none at whole) in
          let lt : cmp (key x) (key r.x) ≡ Less = found_above o key (key x) (key r.x) b r.x h r.here in
          let first = ap (make_or_alter same x) (find-put_other o key r.x a (key x) (less_differs o (key x) (key r.x) lt)) ∙ none in
          record {
            x = r.x;
            acts = r.acts;
            here = find_skip o key (key r.x) x b (less_differs_back o (key r.x) (key x) lt) ∙ r.here;
            rest = rw first r.rest;
          }
      first_make_by a x b e es h (is_put f one acts) whole after =
          let both : f ∷ makes cmp key same a b ≡ e ∷ es = rw one at whole in
          let head : f ≡ e = cc in
          let tail : makes cmp key same a b ≡ es = cc in
          let first = ap (make_or_alter same x) (find-put_same o key x a) ∙ unmade x in
          let apart = makes_agree a (put cmp key x a) b (λ z has. find-put_other o key x a (key z) (less_differs_back o (key z) (key x) (contained_is_above o key (key x) b z h has))) in
          record {
            x = x;
            acts = λ ys. ap (λ g. after_edit cmp key g ys) (sym head) ∙ acts ys;
            here = find_head o key x b;
            rest = rw first (apart ∙ tail);
          }

      first_make : (a b : List A) (e : Edit A K) (es : List (Edit A K)) → Rises cmp key b → makes cmp key same a b ≡ e ∷ es → FirstMake a b e es
      first_make a [] e es h d' = absurd (let no : [] ≡ e ∷ es = d' in cc)
      first_make a (x ∷ b) e es h d' = first_make_by a x b e es h (made x (find cmp key (key x) a)) d' (λ eq. first_make a b e es (rest_rises o key x b h) eq)

      -- ---- one edit applied

      has_key : (a b : List A) (x z : A) → drops cmp key a b ≡ [] → find cmp key (key x) b ≡ Some x → (x ≡ z) ⊎ Contains a z → find cmp key (key z) b ≢ None
      has_key a b x z none here (inl is) = subst (λ y. find cmp key (key y) b ≢ None) is (λ gone. some_is_none (sym here ∙ gone))
      has_key a b x z none here (inr has) = no_drops a b z none has

      after_make : (a b : List A) (e : Edit A K) (es : List (Edit A K)) → drops cmp key a b ≡ [] → FirstMake a b e es → difference cmp key same (after_edit cmp key e a) b ≡ es
      after_make a b e es none r =
          let undropped = no_drops_from (put cmp key r.x a) b (λ z has. has_key a b r.x z none r.here (Contains-put_cases o key r.x a z has)) in
          ap (λ zs. difference cmp key same zs b) (r.acts a) ∙ ap (λ fs. fs ++ makes cmp key same (put cmp key r.x a) b) undropped ∙ r.rest

      after_drop : (a b : List A) (e : Edit A K) (es : List (Edit A K)) → Rises cmp key b → FirstDrop a b e es → difference cmp key same (after_edit cmp key e a) b ≡ es ++ makes cmp key same a b
      after_drop a b e es h r =
          let apart = makes_agree a (without cmp key r.k a) b (λ z has. find-without_other o key r.k a (key z) (λ is. some_is_none (sym (contained_is_found o key b z h has) ∙ ap (λ q. find cmp key q b) is ∙ r.absent))) in
          ap (λ f. difference cmp key same (after_edit cmp key f a) b) r.is ∙ ap (λ fs. fs ++ makes cmp key same (without cmp key r.k a) b) r.rest ∙ ap (λ fs. es ++ fs) apart

      one_edit_by : (a b : List A) (e : Edit A K) (es fs : List (Edit A K)) → Rises cmp key a → Rises cmp key b → drops cmp key a b ≡ fs → fs ++ makes cmp key same a b ≡ e ∷ es → difference cmp key same (after_edit cmp key e a) b ≡ es
      one_edit_by a b e es [] ha hb none whole = after_make a b e es none (first_make a b e es hb whole)
      one_edit_by a b e es (f ∷ fs) ha hb eq whole =
          let both : f ∷ (fs ++ makes cmp key same a b) ≡ e ∷ es = whole in
          let head : f ≡ e = cc in
          let tail : fs ++ makes cmp key same a b ≡ es = cc in
          ap (λ g. difference cmp key same (after_edit cmp key g a) b) (sym head) ∙ after_drop a b f fs hb (first_drop a b f fs ha eq) ∙ tail

      -- once its first edit is applied, the difference is what is left of it
      pub one_edit : (a b : List A) (e : Edit A K) (es : List (Edit A K)) → Rises cmp key a → Rises cmp key b → difference cmp key same a b ≡ e ∷ es → difference cmp key same (after_edit cmp key e a) b ≡ es
      one_edit a b e es ha hb whole = one_edit_by a b e es (drops cmp key a b) ha hb refl whole

      part_applied : (n : ℕ) (a b : List A) (es : List (Edit A K)) → Rises cmp key a → Rises cmp key b → difference cmp key same a b ≡ es → difference cmp key same (all_edited cmp key (take n es) a) b ≡ drop n es
      part_applied zero a b es ha hb whole = whole
      part_applied (suc n) a b [] ha hb whole = whole
      part_applied (suc n) a b (e ∷ es) ha hb whole = part_applied n (after_edit cmp key e a) b es (Rises-edited e a ha) hb (one_edit a b e es ha hb whole)

      -- once the first n edits are applied, the difference is what is left of it
      pub prefix_leaves_rest : (n : ℕ) (a b : List A) → Rises cmp key a → Rises cmp key b → difference cmp key same (all_edited cmp key (take n (difference cmp key same a b)) a) b ≡ drop n (difference cmp key same a b)
      prefix_leaves_rest n a b ha hb = part_applied n a b (difference cmp key same a b) ha hb refl

      -- ---- no difference

      alike_by : (a b : List A) → Rises cmp key a → Rises cmp key b → drops cmp key a b ≡ [] → makes cmp key same a b ≡ [] → (k : K) (r s : Option A) → find cmp key k a ≡ r → find cmp key k b ≡ s → r ≡ s
      alike_by a b ha hb nd nm k r (Some z) ea eb =
          let keys : key z ≡ k = key_of_found o key k b z eb in
          sym ea ∙ ap (λ q. find cmp key q a) (sym keys) ∙ no_makes a b z nm (found_is_contained o key k b z eb)
      alike_by a b ha hb nd nm k None None ea eb = refl
      alike_by a b ha hb nd nm k (Some y) None ea eb =
          let keys : key y ≡ k = key_of_found o key k a y ea in
          absurd (no_drops a b y nd (found_is_contained o key k a y ea) (ap (λ q. find cmp key q b) keys ∙ eb))

      pub equal_from_no_difference : (a b : List A) → Rises cmp key a → Rises cmp key b → difference cmp key same a b ≡ [] → a ≡ b
      equal_from_no_difference a b ha hb none =
          let nd = empty_left (drops cmp key a b) (makes cmp key same a b) none in
          let nm = empty_right (drops cmp key a b) (makes cmp key same a b) none in
          same_items o key a b ha hb (λ k. alike_by a b ha hb nd nm k (find cmp key k a) (find cmp key k b) refl refl)

      pub no_difference_to_itself : (a : List A) → Rises cmp key a → difference cmp key same a a ≡ []
      no_difference_to_itself a h =
          let nd = no_drops_from a a (λ z has gone. some_is_none (sym (contained_is_found o key a z h has) ∙ gone)) in
          let nm = no_makes_from a a (λ z has. contained_is_found o key a z h has) in
          rw (nd, nm)

      pub no_difference : (a b : List A) → Rises cmp key a → Rises cmp key b → (difference cmp key same a b ≡ []) ↔ (a ≡ b)
      no_difference a b ha hb = (equal_from_no_difference a b ha hb, λ e. subst (λ c. difference cmp key same a c ≡ []) e (no_difference_to_itself a ha))

      -- ---- the whole difference applied

      all_applied : (es : List (Edit A K)) (a b : List A) → Rises cmp key a → Rises cmp key b → difference cmp key same a b ≡ es → all_edited cmp key es a ≡ b
      all_applied [] a b ha hb none = equal_from_no_difference a b ha hb none
      all_applied (e ∷ es) a b ha hb whole = all_applied es (after_edit cmp key e a) b (Rises-edited e a ha) hb (one_edit a b e es ha hb whole)

      pub difference_leads : (a b : List A) → Rises cmp key a → Rises cmp key b → all_edited cmp key (difference cmp key same a b) a ≡ b
      difference_leads a b ha hb = all_applied (difference cmp key same a b) a b ha hb refl
