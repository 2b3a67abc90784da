-- How many items and znodes there are after a change.
use Rattle.std.proofs.Common.{◌≡◌, ◌≢◌, ℕ, ◌+◌, List, [], ◌∷◌, length, Option, Some, None, Ordering, refl, sym, ap, ◌∙◌, arith}
use Rattle.std.specs.List.{sum_by}
use Rattle.std.proofs.lemmas.List.Sums.{sum_by-cons}
use Rattle.kz_types.specs.declared.tree.Row.{Row}
use Rattle.kz_types.specs.Order.{TotalOrder}
use Rattle.kz_types.specs.Ordered.{find, put, without, Rises}
use Rattle.kz_types.proofs.Order.{below, equal, above, place, cmp_equal, cmp_greater, less_differs, less_differs_back, bytes_order}
use Rattle.kz_types.proofs.Lookup.{some_is_none, same_some, find_here, find_skip, find_below_first, rest_rises, without_here, without_skip}
use Rattle.kz_spec_data.specs.Tree.{path_of_row, row_at, put_row, without_row}
use Rattle.kz_row_parts.specs.Kept.{AreRows}

module _ {A K : Type 0} {cmp : K → K → Ordering} (o : TotalOrder cmp) (key : A → K) (w : A → ℕ) where
  pub sum_by-put_new : (x : A) (ys : List A) → find cmp key (key x) ys ≡ None → sum_by w (put cmp key x ys) ≡ w x + sum_by w ys
  sum_by-put_new x [] e = sum_by-cons w x []
  sum_by-put_new x (y ∷ ys) e = elim (place o (key x) (key y)) [
    | below h ↦ rw h (sum_by-cons w x (y ∷ ys))
    | equal h ↦ absurd (some_is_none (sym (find_here o key (key x) y ys h) ∙ e))
    | above h ↦
        let rest : sum_by w (put cmp key x ys) ≡ w x + sum_by w ys = sum_by-put_new x ys (sym (find_skip o key (key x) y ys (less_differs_back o (key x) (key y) h)) ∙ e) in
        rw (cmp_greater o (key x) (key y) h) (omega (arith, sum_by-cons w y (put cmp key x ys), sum_by-cons w y ys, rest))
  ]

  pub sum_by-put_found : (x : A) (ys : List A) (y : A) → Rises cmp key ys → find cmp key (key x) ys ≡ Some y → w x ≡ w y → sum_by w (put cmp key x ys) ≡ sum_by w ys
  sum_by-put_found x [] y rises e same = absurd (some_is_none (sym e))
  sum_by-put_found x (z ∷ zs) y rises e same = elim (place o (key x) (key z)) [
    | below h ↦ absurd (some_is_none (sym e ∙ find_below_first o key (key x) z zs rises h))
    | equal h ↦
        let is : w x ≡ w z = same ∙ ap w (sym (same_some z y (sym (find_here o key (key x) z zs h) ∙ e))) in
        rw (cmp_equal o (key x) (key z) h) (sum_by-cons w x zs ∙ ap (λ n. n + sum_by w zs) is ∙ sym (sum_by-cons w z zs))
    | above h ↦
        let rest : sum_by w (put cmp key x zs) ≡ sum_by w zs = sum_by-put_found x zs y (rest_rises o key z zs rises) (sym (find_skip o key (key x) z zs (less_differs_back o (key x) (key z) h)) ∙ e) same in
        rw (cmp_greater o (key x) (key z) h) (sum_by-cons w z (put cmp key x zs) ∙ ap (λ n. w z + n) rest ∙ sym (sum_by-cons w z zs))
  ]

  skipped : (k : K) (z : A) (zs : List A) (y : A) → k ≢ key z → w y + sum_by w (without cmp key k zs) ≡ sum_by w zs → w y + sum_by w (without cmp key k (z ∷ zs)) ≡ sum_by w (z ∷ zs)
  skipped k z zs y ne rest = ap (λ l. w y + sum_by w l) (without_skip o key k z zs ne) ∙ omega (arith, sum_by-cons w z (without cmp key k zs), sum_by-cons w z zs, rest)

  pub sum_by-without : (k : K) (ys : List A) (y : A) → find cmp key k ys ≡ Some y → w y + sum_by w (without cmp key k ys) ≡ sum_by w ys
  sum_by-without k [] y e = absurd (some_is_none (sym e))
  sum_by-without k (z ∷ zs) y e = elim (place o k (key z)) [
    | below h ↦ skipped k z zs y (less_differs o k (key z) h) (sum_by-without k zs y (sym (find_skip o key k z zs (less_differs o k (key z) h)) ∙ e))
    | equal h ↦ ap (λ l. w y + sum_by w l) (without_here o key k z zs h) ∙ ap (λ x. w x + sum_by w zs) (sym (same_some z y (sym (find_here o key k z zs h) ∙ e))) ∙ sym (sum_by-cons w z zs)
    | above h ↦ skipped k z zs y (less_differs_back o k (key z) h) (sum_by-without k zs y (sym (find_skip o key k z zs (less_differs_back o k (key z) h)) ∙ e))
  ]

-- ---- the znodes

pub ones : (rows : List Row) → length rows ≡ sum_by (λ (r : Row). 1) rows
ones [] = refl
ones (r ∷ rs) = omega (arith, ones rs, sum_by-cons (λ (x : Row). 1) r rs)

pub there : (o : Option Row) → o ≢ None → (r : Row) × (o ≡ Some r)
there None h = absurd (h refl)
there (Some r) h = (r, refl)

pub length_found : (rows : List Row) (r s : Row) → AreRows rows → row_at r.path rows ≡ Some s → length (put_row r rows) ≡ length rows
length_found rows r s rise is = ones (put_row r rows) ∙ sum_by-put_found bytes_order path_of_row (λ (x : Row). 1) r rows s rise is refl ∙ sym (ones rows)

pub length_without : (path : List ℕ) (rows : List Row) → row_at path rows ≢ None → 1 + length (without_row path rows) ≡ length rows
length_without path rows known =
    let old = there (row_at path rows) known in
    omega (arith, ones rows, ones (without_row path rows), sum_by-without bytes_order path_of_row (λ (x : Row). 1) path rows old.0 old.1)
