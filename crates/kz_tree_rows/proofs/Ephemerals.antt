-- The items that pass a test, after a change of the list.
use Rattle.std.proofs.Common.{◌≡◌, ◌≢◌, Bool, true, false, cond, List, filter, ℕ, Option, Some, None, Ordering, refl, sym, ap, ◌∙◌}
use Rattle.kz_types.specs.declared.tree.Row.{Row}
use Rattle.kz_types.specs.Order.{TotalOrder}
use Rattle.kz_types.specs.Ordered.{find, put, without, Rises}
use Rattle.kz_types.proofs.Order.{below, equal, above, place, less_differs, less_differs_back, bytes_order}
use Rattle.kz_types.proofs.Lookup.{find-put_same, find-put_other, find-without_same, find-without_other, Rises-put, Rises-without, same_items}
use Rattle.kz_types.proofs.Maps.{Rises-filter, find-filter_absent, find-filter_found}
use Rattle.kz_types.proofs.Append.{without_absent}
use Rattle.kz_spec_data.specs.Tree.{path_of_row, row_at, put_row, without_row}
use Rattle.kz_tree_rows.specs.Kept.{AreRows, has_owner, ephemeral_rows, ephemeral_with}

module _ {A K : Type 0} {cmp : K → K → Ordering} (o : TotalOrder cmp) (key : A → K) (p : A → Bool) where
  abbrev kept : Option A → Option A
  kept None = None
  kept (Some x) = cond (p x) (Some x) None

  found_kept : (k : K) (xs : List A) (found : Option A) → Rises cmp key xs → find cmp key k xs ≡ found → find cmp key k (filter p xs) ≡ kept found
  found_kept k xs None h e = find-filter_absent o key p k xs e
  found_kept k xs (Some y) h e = find-filter_found o key p k xs y h e

  find_kept : (k : K) (xs : List A) → Rises cmp key xs → find cmp key k (filter p xs) ≡ kept (find cmp key k xs)
  find_kept k xs h = found_kept k xs (find cmp key k xs) h refl

  abbrev with_item : A → List A → Bool → List A
  with_item x ys true = put cmp key x ys
  with_item x ys false = without cmp key (key x) ys

  own_item : (x : A) (ys : List A) (b : Bool) → Rises cmp key ys → cond b (Some x) None ≡ find cmp key (key x) (with_item x ys b)
  own_item x ys true h = sym (find-put_same o key x ys)
  own_item x ys false h = sym (find-without_same o key (key x) ys h)

  other_item : (x : A) (ys : List A) (b : Bool) (k : K) → k ≢ key x → find cmp key k ys ≡ find cmp key k (with_item x ys b)
  other_item x ys true k ne = sym (find-put_other o key x ys k ne)
  other_item x ys false k ne = sym (find-without_other o key (key x) ys k ne)

  with_rises : (x : A) (ys : List A) (b : Bool) → Rises cmp key ys → Rises cmp key (with_item x ys b)
  with_rises x ys true h = Rises-put o key x ys h
  with_rises x ys false h = Rises-without o key (key x) ys h

  put_found : (x : A) (ys : List A) (k : K) → Rises cmp key ys → kept (find cmp key k (put cmp key x ys)) ≡ find cmp key k (with_item x (filter p ys) (p x))
  put_found x ys k h = elim (place o k (key x)) [
    | below lt ↦ other (less_differs o k (key x) lt)
    | equal is ↦ ap kept (ap (λ j. find cmp key j (put cmp key x ys)) is ∙ find-put_same o key x ys) ∙ own_item x (filter p ys) (p x) (Rises-filter o key p ys h) ∙ ap (λ j. find cmp key j (with_item x (filter p ys) (p x))) (sym is)
    | above gt ↦ other (less_differs_back o k (key x) gt)
  ]
    where
      other : k ≢ key x → kept (find cmp key k (put cmp key x ys)) ≡ find cmp key k (with_item x (filter p ys) (p x))
      other ne = ap kept (find-put_other o key x ys k ne) ∙ sym (find_kept k ys h) ∙ other_item x (filter p ys) (p x) k ne

  -- after an item is put
  pub filter-put : (x : A) (ys : List A) → Rises cmp key ys → filter p (put cmp key x ys) ≡ with_item x (filter p ys) (p x)
  filter-put x ys h =
      let rises = Rises-put o key x ys h in
      same_items o key (filter p (put cmp key x ys)) (with_item x (filter p ys) (p x)) (Rises-filter o key p (put cmp key x ys) rises) (with_rises x (filter p ys) (p x) (Rises-filter o key p ys h))
      (λ k. find_kept k (put cmp key x ys) rises ∙ put_found x ys k h)

  -- after one is put whose key no other has
  pub filter-put_new : (x : A) (ys : List A) → Rises cmp key ys → find cmp key (key x) ys ≡ None → filter p (put cmp key x ys) ≡ cond (p x) (put cmp key x (filter p ys)) (filter p ys)
  filter-put_new x ys h none = filter-put x ys h ∙ either (p x)
    where
      either : (b : Bool) → with_item x (filter p ys) b ≡ cond b (put cmp key x (filter p ys)) (filter p ys)
      either true = refl
      either false = without_absent o key (key x) (filter p ys) (find-filter_absent o key p (key x) ys none)

  without_found : (j k : K) (ys : List A) → Rises cmp key ys → kept (find cmp key k (without cmp key j ys)) ≡ find cmp key k (without cmp key j (filter p ys))
  without_found j k ys h = elim (place o k j) [
    | below lt ↦ other (less_differs o k j lt)
    | equal is ↦ ap kept (ap (λ i. find cmp key i (without cmp key j ys)) is ∙ find-without_same o key j ys h) ∙ sym (ap (λ i. find cmp key i (without cmp key j (filter p ys))) is ∙ find-without_same o key j (filter p ys) (Rises-filter o key p ys h))
    | above gt ↦ other (less_differs_back o k j gt)
  ]
    where
      other : k ≢ j → kept (find cmp key k (without cmp key j ys)) ≡ find cmp key k (without cmp key j (filter p ys))
      other ne = ap kept (find-without_other o key j ys k ne) ∙ sym (find_kept k ys h) ∙ sym (find-without_other o key j (filter p ys) k ne)

  -- after the item of a key is taken out
  pub filter-without : (j : K) (ys : List A) → Rises cmp key ys → filter p (without cmp key j ys) ≡ without cmp key j (filter p ys)
  filter-without j ys h =
      let rises = Rises-without o key j ys h in
      same_items o key (filter p (without cmp key j ys)) (without cmp key j (filter p ys)) (Rises-filter o key p (without cmp key j ys) rises) (Rises-without o key j (filter p ys) (Rises-filter o key p ys h))
      (λ k. find_kept k (without cmp key j ys) rises ∙ without_found j k ys h)

-- ---- the ephemeral znodes

-- after a znode is put
pub ephemeral_put : (r : Row) (rows next before after : List Row) → AreRows rows → before ≡ ephemeral_rows rows → after ≡ ephemeral_with r before → next ≡ put_row r rows → after ≡ ephemeral_rows next
ephemeral_put r rows next before after h were are is = are ∙ ap (ephemeral_with r) were ∙ either (has_owner r) ∙ sym (ap ephemeral_rows is ∙ filter-put bytes_order path_of_row has_owner r rows h)
  where
    either : (b : Bool) → cond b (put_row r (ephemeral_rows rows)) (without_row r.path (ephemeral_rows rows)) ≡ with_item bytes_order path_of_row has_owner r (ephemeral_rows rows) b
    either true = refl
    either false = refl

-- after one is put whose path no other has
pub ephemeral_put_new : (r : Row) (rows next before after : List Row) → AreRows rows → row_at r.path rows ≡ None → before ≡ ephemeral_rows rows → after ≡ cond (has_owner r) (put_row r before) before → next ≡ put_row r rows → after ≡ ephemeral_rows next
ephemeral_put_new r rows next before after h none were are is =
    are ∙ ap (λ (l : List Row). cond (has_owner r) (put_row r l) l) were ∙ sym (ap ephemeral_rows is ∙ filter-put_new bytes_order path_of_row has_owner r rows h none)

-- after one is taken out
pub ephemeral_without : (path : List ℕ) (rows next before after : List Row) → AreRows rows → before ≡ ephemeral_rows rows → after ≡ without_row path before → next ≡ without_row path rows → after ≡ ephemeral_rows next
ephemeral_without path rows next before after h were are is = are ∙ ap (without_row path) were ∙ sym (ap ephemeral_rows is ∙ filter-without bytes_order path_of_row has_owner path rows h)
