-- The paths of two lists that rise, one after another.
use Rattle.std.proofs.Common.{◌≡◌, ℕ, zero, suc, ◌+◌, ◌<◌, ◌≤◌, List, [], ◌∷◌, length, map, drop, get_or, Ordering, Less, Equal, Greater, refl, sym, ap, ◌∙◌}
use Rattle.std.specs.Ordering.{ordering_reverse}
use Rattle.std.proofs.lemmas.List.{drop_all}
use Rattle.kz_types.specs.declared.tree.Rendered.{Rendered}
use Rattle.kz_types.specs.Order.{TotalOrder, bytes_cmp}
use Rattle.kz_types.specs.Ordered.{put, all_put, RisesAbove, Rises}
use Rattle.kz_types.proofs.Order.{bytes_order, cmp_equal, cmp_greater}
use Rattle.kz_types.proofs.Lookup.{rest_rises, rises_above_smaller}
use Rattle.kz_spec_data.specs.Tree.{path_of_rendered}
use Rattle.kz_verdict.specs.Agreement.{paths_from}
use Rattle.kz_verdict.proofs.Agreements.{cut_at}

module _ {A K : Type 0} {cmp : K → K → Ordering} (o : TotalOrder cmp) (key : A → K) where
  pub Rises-drop : (i : ℕ) (xs : List A) → Rises cmp key xs → Rises cmp key (drop i xs)
  Rises-drop zero xs h = h
  Rises-drop (suc i) [] h = tt
  Rises-drop (suc i) (x ∷ xs) h = Rises-drop i xs (rest_rises o key x xs h)

  -- an item that is below all that are put stays the first
  stays_first : (x : A) (zs xs : List A) → RisesAbove cmp key (key x) zs → all_put cmp key zs (x ∷ xs) ≡ x ∷ all_put cmp key zs xs
  stays_first x [] xs h = refl
  stays_first x (z ∷ zs) xs h = rw (cmp_greater o (key z) (key x) h.0) (stays_first x zs (put cmp key z xs) (rises_above_smaller o key (key x) (key z) zs h.0 h.1))

  pub less_first : (x y : A) (xs ys : List A) → Rises cmp key (y ∷ ys) → cmp (key x) (key y) ≡ Less → map key (all_put cmp key (y ∷ ys) (x ∷ xs)) ≡ key x ∷ map key (all_put cmp key (y ∷ ys) xs)
  less_first x y xs ys h lt = ap (map key) (stays_first x (y ∷ ys) xs (lt, h))

  pub both_first : (x y : A) (xs ys : List A) → Rises cmp key (y ∷ ys) → cmp (key x) (key y) ≡ Equal → map key (all_put cmp key (y ∷ ys) (x ∷ xs)) ≡ key x ∷ map key (all_put cmp key ys xs)
  both_first x y xs ys h tied =
      let is : key x ≡ key y = o.same (key x) (key y) tied in
      rw (cmp_equal o (key y) (key x) (sym is)) (ap (map key) (stays_first y ys xs h) ∙ ap (λ k. k ∷ map key (all_put cmp key ys xs)) (sym is))

  pub greater_first : (x y : A) (xs ys : List A) → Rises cmp key (y ∷ ys) → cmp (key x) (key y) ≡ Greater → map key (all_put cmp key (y ∷ ys) (x ∷ xs)) ≡ key y ∷ map key (all_put cmp key ys (x ∷ xs))
  greater_first x y xs ys h gt =
      let lt : cmp (key y) (key x) ≡ Less = o.mirror (key y) (key x) ∙ ap ordering_reverse gt in
      rw lt (ap (map key) (stays_first y ys (x ∷ xs) h))

  pub alone_first : (y : A) (ys : List A) → Rises cmp key (y ∷ ys) → map key (all_put cmp key (y ∷ ys) []) ≡ key y ∷ map key (all_put cmp key ys [])
  alone_first y ys h = ap (map key) (stays_first y ys [] h)

-- ---- from these places on

rest_rises_from : (ys : List Rendered) (j : ℕ) (y : Rendered) → drop j ys ≡ y ∷ drop (j + 1) ys → Rises bytes_cmp path_of_rendered ys → Rises bytes_cmp path_of_rendered (y ∷ drop (j + 1) ys)
rest_rises_from ys j y e h = rw e at (Rises-drop bytes_order path_of_rendered j ys h)

pub none_next : (xs ys : List Rendered) (i j : ℕ) → length xs ≤ i → length ys ≤ j → [] ≡ paths_from xs ys (record { area = i; rendering = j })
none_next xs ys i j hi hj = rw (drop_all i xs hi, drop_all j ys hj) refl

pub left_next : (xs ys : List Rendered) (i j : ℕ) (x : Rendered) → i < length xs → x ≡ get_or xs i x → length ys ≤ j
    → x.path ∷ paths_from xs ys (record { area = i + 1; rendering = j }) ≡ paths_from xs ys (record { area = i; rendering = j })
left_next xs ys i j x hi is hj = rw (drop_all j ys hj, cut_at xs i x hi is) refl

pub right_next : (xs ys : List Rendered) (i j : ℕ) (y : Rendered) → length xs ≤ i → j < length ys → y ≡ get_or ys j y → Rises bytes_cmp path_of_rendered ys
    → y.path ∷ paths_from xs ys (record { area = i; rendering = j + 1 }) ≡ paths_from xs ys (record { area = i; rendering = j })
right_next xs ys i j y hi hj is h =
    let e = cut_at ys j y hj is in
    rw (drop_all i xs hi, e) (sym (alone_first bytes_order path_of_rendered y (drop (j + 1) ys) (rest_rises_from ys j y e h)))

pub less_next : (xs ys : List Rendered) (i j : ℕ) (x y : Rendered) → i < length xs → x ≡ get_or xs i x → j < length ys → y ≡ get_or ys j y → Rises bytes_cmp path_of_rendered ys → bytes_cmp x.path y.path ≡ Less
    → x.path ∷ paths_from xs ys (record { area = i + 1; rendering = j }) ≡ paths_from xs ys (record { area = i; rendering = j })
less_next xs ys i j x y hi isx hj isy h lt =
    let e = cut_at ys j y hj isy in
    rw (cut_at xs i x hi isx, e) (sym (less_first bytes_order path_of_rendered x y (drop (i + 1) xs) (drop (j + 1) ys) (rest_rises_from ys j y e h) lt))

pub both_next : (xs ys : List Rendered) (i j : ℕ) (x y : Rendered) → i < length xs → x ≡ get_or xs i x → j < length ys → y ≡ get_or ys j y → Rises bytes_cmp path_of_rendered ys → bytes_cmp x.path y.path ≡ Equal
    → x.path ∷ paths_from xs ys (record { area = i + 1; rendering = j + 1 }) ≡ paths_from xs ys (record { area = i; rendering = j })
both_next xs ys i j x y hi isx hj isy h tied =
    let e = cut_at ys j y hj isy in
    rw (cut_at xs i x hi isx, e) (sym (both_first bytes_order path_of_rendered x y (drop (i + 1) xs) (drop (j + 1) ys) (rest_rises_from ys j y e h) tied))

pub greater_next : (xs ys : List Rendered) (i j : ℕ) (x y : Rendered) → i < length xs → x ≡ get_or xs i x → j < length ys → y ≡ get_or ys j y → Rises bytes_cmp path_of_rendered ys → bytes_cmp x.path y.path ≡ Greater
    → y.path ∷ paths_from xs ys (record { area = i; rendering = j + 1 }) ≡ paths_from xs ys (record { area = i; rendering = j })
greater_next xs ys i j x y hi isx hj isy h gt =
    let e = cut_at ys j y hj isy in
    rw (cut_at xs i x hi isx, e) (sym (greater_first bytes_order path_of_rendered x y (drop (i + 1) xs) (drop (j + 1) ys) (rest_rises_from ys j y e h) gt))
