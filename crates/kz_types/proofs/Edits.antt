-- What the edits of a difference are, and in which order they stand.
use Rattle.std.proofs.Common.{◌≡◌, ◌↔◌, Bool, true, false, cond, List, [], ◌∷◌, ◌++◌, Option, Some, None, Ordering, Less, All, Contains, refl, sym, ap, ◌∙◌, subst, append-nil}
use Rattle.std.specs.Ordering.{flip_args}
use Rattle.std.proofs.lemmas.List.Elements.{All-nil, All-cons, All-append, All-contains, Contains-append_left, Contains-append_right}
use Rattle.kz_types.specs.Order.{TotalOrder}
use Rattle.kz_types.specs.Ordered.{find, RisesAbove, Rises, AllBelow}
use Rattle.kz_types.specs.Difference.{Edit, drop_key, make, alter, drop_unless, drops, make_or_alter, makes, difference}
use Rattle.kz_types.specs.Edits.{IsDue, edit_key, IsDrop, IsNoDrop, DropsFallOthersRise}
use Rattle.kz_types.proofs.Order.{below, equal, above, place, less_differs, less_differs_back, flipped}
use Rattle.kz_types.proofs.Lookup.{some_is_none, same_some, find_here, find_skip, rest_rises, rises_above_smaller, contained_is_above, contained_is_found, Contains-head, Contains-tail, rises_from_above}
use Rattle.kz_types.proofs.Append.{Rises-push}

module _ {A K : Type 0} {cmp : K → K → Ordering} (o : TotalOrder cmp) (key : A → K) where
  -- ---- what holds of each edit

  dropped_one : (P : Edit A K → Type 0) (x : A) (b : List A) (r : Option A) → find cmp key (key x) b ≡ r → (find cmp key (key x) b ≡ None → P (drop_key (key x))) → All P (drop_unless (key x) r)
  dropped_one P x b (Some y) e h = All-nil P
  dropped_one P x b None e h = All-cons P (drop_key (key x)) [] (h e) (All-nil P)

  -- of each drop, where it holds of a drop of each key that the second list hasn't
  pub All-drops : (P : Edit A K → Type 0) (a b : List A) → ((z : A) → Contains a z → find cmp key (key z) b ≡ None → P (drop_key (key z))) → All P (drops cmp key a b)
  All-drops P [] b h = All-nil P
  All-drops P (x ∷ a) b h = All-append P (drops cmp key a b) (drop_unless (key x) (find cmp key (key x) b)) (All-drops P a b (λ z has. h z (Contains-tail x a z has))) (dropped_one P x b (find cmp key (key x) b) refl (h x (Contains-head x a)))

  pub drops_are_drops : (a b : List A) → All IsDrop (drops cmp key a b)
  drops_are_drops a b = All-drops IsDrop a b (λ z has absent. tt)

  module _ (same : A → A → Bool) where
    altered_one : (P : Edit A K → Type 0) (x y : A) (t : Bool) → same y x ≡ t → (same y x ≡ false → P (alter x)) → All P (cond t [] (alter x ∷ []))
    altered_one P x y true e h = All-nil P
    altered_one P x y false e h = All-cons P (alter x) [] (h e) (All-nil P)

    made_one : (P : Edit A K → Type 0) (a : List A) (x : A) (r : Option A) → find cmp key (key x) a ≡ r → (find cmp key (key x) a ≡ None → P (make x)) → ((y : A) → find cmp key (key x) a ≡ Some y → same y x ≡ false → P (alter x)) → All P (make_or_alter same x r)
    made_one P a x None e new old = All-cons P (make x) [] (new e) (All-nil P)
    made_one P a x (Some y) e new old = altered_one P x y (same y x) refl (old y e)

    -- of each that is made or altered, where it holds of each item of the second list that is new or differs
    pub All-makes : (P : Edit A K → Type 0) (a b : List A) → ((z : A) → Contains b z → find cmp key (key z) a ≡ None → P (make z)) → ((z : A) → Contains b z → (y : A) → find cmp key (key z) a ≡ Some y → same y z ≡ false → P (alter z)) → All P (makes cmp key same a b)
    All-makes P a [] new old = All-nil P
    All-makes P a (x ∷ b) new old = All-append P (make_or_alter same x (find cmp key (key x) a)) (makes cmp key same a b) (made_one P a x (find cmp key (key x) a) refl (new x (Contains-head x b)) (old x (Contains-head x b))) (All-makes P a b (λ z has. new z (Contains-tail x b z has)) (λ z has. old z (Contains-tail x b z has)))

    pub makes_are_no_drops : (a b : List A) → All IsNoDrop (makes cmp key same a b)
    makes_are_no_drops a b = All-makes IsNoDrop a b (λ z has new. tt) (λ z has y old differs. tt)

    -- ---- each edit is due

    pub each_is_due : (a b : List A) → Rises cmp key a → Rises cmp key b → All (IsDue cmp key same a b) (difference cmp key same a b)
    each_is_due a b ha hb = All-append (IsDue cmp key same a b) (drops cmp key a b) (makes cmp key same a b)
        (All-drops (IsDue cmp key same a b) a b (λ z has absent. (z, contained_is_found o key a z ha has, absent)))
        (All-makes (IsDue cmp key same a b) a b (λ z has new. (new, contained_is_found o key b z hb has)) (λ z has y old differs. (y, old, contained_is_found o key b z hb has, differs)))

    -- ---- each edit that is due is there

    due_drop : (k : K) (a b : List A) (y : A) → find cmp key k a ≡ Some y → find cmp key k b ≡ None → Contains (drops cmp key a b) (drop_key k)
    due_drop k [] b y at gone = absurd (some_is_none (sym at))
    due_drop k (x ∷ a) b y at gone = elim (place o k (key x)) [
      | below h ↦ Contains-append_left (drops cmp key a b) (drop_unless (key x) (find cmp key (key x) b)) (drop_key k) (due_drop k a b y (sym (find_skip o key k x a (less_differs o k (key x) h)) ∙ at) gone)
      | equal h ↦ Contains-append_right (drops cmp key a b) (drop_unless (key x) (find cmp key (key x) b)) (drop_key k) (rw (ap (λ q. find cmp key q b) (sym h) ∙ gone, h) (Contains-head (drop_key (key x)) []))
      | above h ↦ Contains-append_left (drops cmp key a b) (drop_unless (key x) (find cmp key (key x) b)) (drop_key k) (due_drop k a b y (sym (find_skip o key k x a (less_differs_back o k (key x) h)) ∙ at) gone)
    ]

    due_make : (x : A) (a b : List A) (e : Edit A K) → Contains (make_or_alter same x (find cmp key (key x) a)) e → find cmp key (key x) b ≡ Some x → Contains (makes cmp key same a b) e
    due_make x a [] e own at = absurd (some_is_none (sym at))
    due_make x a (z ∷ b) e own at = elim (place o (key x) (key z)) [
      | below h ↦ Contains-append_right (make_or_alter same z (find cmp key (key z) a)) (makes cmp key same a b) e (due_make x a b e own (sym (find_skip o key (key x) z b (less_differs o (key x) (key z) h)) ∙ at))
      | equal h ↦ Contains-append_left (make_or_alter same z (find cmp key (key z) a)) (makes cmp key same a b) e (subst (λ w. Contains (make_or_alter same w (find cmp key (key w) a)) e) (same_some x z (sym at ∙ find_here o key (key x) z b h)) own)
      | above h ↦ Contains-append_right (make_or_alter same z (find cmp key (key z) a)) (makes cmp key same a b) e (due_make x a b e own (sym (find_skip o key (key x) z b (less_differs_back o (key x) (key z) h)) ∙ at))
    ]

    pub due_is_there : (a b : List A) (e : Edit A K) → IsDue cmp key same a b e → Contains (difference cmp key same a b) e
    due_is_there a b (drop_key k) due = Contains-append_left (drops cmp key a b) (makes cmp key same a b) (drop_key k) (due_drop k a b due.0 due.1 due.2)
    due_is_there a b (make x) due = Contains-append_right (drops cmp key a b) (makes cmp key same a b) (make x) (due_make x a b (make x) (rw due.0 (Contains-head (make x) [])) due.1)
    due_is_there a b (alter x) due = Contains-append_right (drops cmp key a b) (makes cmp key same a b) (alter x) (due_make x a b (alter x) (rw (due.1, due.3) (Contains-head (alter x) [])) due.2)

    -- the difference has just the edits that are due
    pub due_exactly : (a b : List A) (e : Edit A K) → Rises cmp key a → Rises cmp key b → Contains (difference cmp key same a b) e ↔ IsDue cmp key same a b e
    due_exactly a b e ha hb = (λ has. All-contains (IsDue cmp key same a b) (difference cmp key same a b) e (each_is_due a b ha hb) has, due_is_there a b e)

    -- at most one edit is due at a key
    pub due_once : (a b : List A) (e f : Edit A K) → IsDue cmp key same a b e → IsDue cmp key same a b f → edit_key key e ≡ edit_key key f → e ≡ f
    due_once a b (drop_key k) (drop_key j) p q keys = ap drop_key keys
    due_once a b (drop_key k) (make x) p q keys = absurd (some_is_none (sym q.1 ∙ ap (λ z. find cmp key z b) (sym keys) ∙ p.2))
    due_once a b (drop_key k) (alter x) p q keys = absurd (some_is_none (sym q.2 ∙ ap (λ z. find cmp key z b) (sym keys) ∙ p.2))
    due_once a b (make x) (drop_key k) p q keys = absurd (some_is_none (sym p.1 ∙ ap (λ z. find cmp key z b) keys ∙ q.2))
    due_once a b (make x) (make y) p q keys = ap make (same_some x y (sym p.1 ∙ ap (λ z. find cmp key z b) keys ∙ q.1))
    due_once a b (make x) (alter y) p q keys = absurd (some_is_none (sym q.1 ∙ ap (λ z. find cmp key z a) (sym keys) ∙ p.0))
    due_once a b (alter x) (drop_key k) p q keys = absurd (some_is_none (sym p.2 ∙ ap (λ z. find cmp key z b) keys ∙ q.2))
    due_once a b (alter x) (make y) p q keys = absurd (some_is_none (sym p.1 ∙ ap (λ z. find cmp key z a) keys ∙ q.0))
    due_once a b (alter x) (alter y) p q keys = ap alter (same_some x y (sym p.2 ∙ ap (λ z. find cmp key z b) keys ∙ q.2))

    -- ---- their order

    fall_by : (x : A) (es : List (Edit A K)) (r : Option A) → Rises (flip_args cmp) (edit_key key) es → AllBelow (flip_args cmp) (edit_key key) es (key x) → Rises (flip_args cmp) (edit_key key) (es ++ drop_unless (key x) r)
    fall_by x es (Some y) h under = subst (Rises (flip_args cmp) (edit_key key)) (sym (append-nil es)) h
    fall_by x es None h under = Rises-push (flipped o) (edit_key key) es (drop_key (key x)) h under

    pub drops_fall : (a b : List A) → Rises cmp key a → Rises (flip_args cmp) (edit_key key) (drops cmp key a b)
    drops_fall [] b h = tt
    drops_fall (x ∷ a) b h = fall_by x (drops cmp key a b) (find cmp key (key x) b) (drops_fall a b (rest_rises o key x a h)) (All-drops (λ e. cmp (key x) (edit_key key e) ≡ Less) a b (λ z has absent. contained_is_above o key (key x) a z h has))

    altered_rises : (k : K) (x y : A) (t : Bool) (es : List (Edit A K)) → cmp k (key x) ≡ Less → RisesAbove cmp (edit_key key) (key x) es → RisesAbove cmp (edit_key key) k (cond t [] (alter x ∷ []) ++ es)
    altered_rises k x y true es lt h = rises_above_smaller o (edit_key key) k (key x) es lt h
    altered_rises k x y false es lt h = (lt, h)

    made_rises : (k : K) (x : A) (r : Option A) (es : List (Edit A K)) → cmp k (key x) ≡ Less → RisesAbove cmp (edit_key key) (key x) es → RisesAbove cmp (edit_key key) k (make_or_alter same x r ++ es)
    made_rises k x None es lt h = (lt, h)
    made_rises k x (Some y) es lt h = altered_rises k x y (same y x) es lt h

    makes_rise_above : (k : K) (a b : List A) → RisesAbove cmp key k b → RisesAbove cmp (edit_key key) k (makes cmp key same a b)
    makes_rise_above k a [] h = tt
    makes_rise_above k a (x ∷ b) h = made_rises k x (find cmp key (key x) a) (makes cmp key same a b) h.0 (makes_rise_above (key x) a b h.1)

    first_altered_rises : (x y : A) (t : Bool) (es : List (Edit A K)) → RisesAbove cmp (edit_key key) (key x) es → Rises cmp (edit_key key) (cond t [] (alter x ∷ []) ++ es)
    first_altered_rises x y true es h = rises_from_above o (edit_key key) (key x) es h
    first_altered_rises x y false es h = h

    first_made_rises : (x : A) (r : Option A) (es : List (Edit A K)) → RisesAbove cmp (edit_key key) (key x) es → Rises cmp (edit_key key) (make_or_alter same x r ++ es)
    first_made_rises x None es h = h
    first_made_rises x (Some y) es h = first_altered_rises x y (same y x) es h

    pub makes_rise : (a b : List A) → Rises cmp key b → Rises cmp (edit_key key) (makes cmp key same a b)
    makes_rise a [] h = tt
    makes_rise a (x ∷ b) h = first_made_rises x (find cmp key (key x) a) (makes cmp key same a b) (makes_rise_above (key x) a b h)

    pub edits_in_order : (a b : List A) → Rises cmp key a → Rises cmp key b → DropsFallOthersRise cmp key (difference cmp key same a b)
    edits_in_order a b ha hb = record {
      first = drops cmp key a b;
      others = makes cmp key same a b;
      joined = refl;
      drops = drops_are_drops a b;
      fall = drops_fall a b ha;
      no_drops = makes_are_no_drops a b;
      rise = makes_rise a b hb;
    }
