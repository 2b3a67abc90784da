-- What counts at an offset is decided by the records that stand at or before it.
use Rattle.std.proofs.Common.{◌≡◌, Bool, true, false, cond, ℤ, ◌≤ℤ◌, int_le, int_cmp, List, [], ◌∷◌, ◌++◌, Some, refl, sym, ap, ◌∙◌, arith}
use Rattle.std.proofs.lemmas.Int.{ints}
use Rattle.std.specs.List.{filter, find, All}
use Rattle.std.proofs.lemmas.List.Elements.{All-head, All-tail}
use Rattle.kz_types.specs.declared.log.Entry.{Entry}
use Rattle.kz_types.specs.Ordered.{Rises}
use Rattle.kz_types.proofs.Order.{int_order}
use Rattle.kz_types.proofs.Append.{Rises_left}
use Rattle.kz_spec_data.specs.Settlement.{closes, is_end, is_ended_by, counting_records}
use Rattle.kz_settle.specs.Settling.{offset_of, closes_entry, is_open_after, ends_by, records_of_pass}
use Rattle.kz_settle.specs.Stands.{AllBy}
use Rattle.kz_settle.proofs.Passing.{counted_is_pass, and_false}

-- Every entry stands after an offset.
abbrev pub AllLater : ℤ → List Entry → Type 0
AllLater at es = All (λ (e : Entry). int_le e.offset at ≡ false) es

le_true : (x y : ℤ) → x ≤ℤ y → int_le x y ≡ true
le_true x y h = grind (arith, ints)

module _ (at : ℤ) where
  skipped_by : (c : Bool) (e : Entry) (es : List Entry) → int_le e.offset at ≡ false → ends_by at es ≡ false → is_ended_by at (cond c (Some e) (find closes_entry es)) ≡ false
  skipped_by true e es h rest = and_false (is_end e.item) (int_le e.offset at) h
  skipped_by false e es h rest = rest

  ends_after : (es : List Entry) → AllLater at es → ends_by at es ≡ false
  ends_after [] h = refl
  ends_after (e ∷ es) h =
      skipped_by (closes e.item) e es (All-head (λ (x : Entry). int_le x.offset at ≡ false) e es h) (ends_after es (All-tail (λ (x : Entry). int_le x.offset at ≡ false) e es h))

  found_by : (c : Bool) (x : Entry) (xs ys : List Entry) → ends_by at (xs ++ ys) ≡ ends_by at xs
      → is_ended_by at (cond c (Some x) (find closes_entry (xs ++ ys))) ≡ is_ended_by at (cond c (Some x) (find closes_entry xs))
  found_by true x xs ys h = refl
  found_by false x xs ys h = h

  ends_before : (xs ys : List Entry) → AllLater at ys → ends_by at (xs ++ ys) ≡ ends_by at xs
  ends_before [] ys h = ends_after ys h
  ends_before (x ∷ xs) ys h = found_by (closes x.item) x xs ys (ends_before xs ys h)

  pass_after : (inside : Bool) (es : List Entry) → AllLater at es → records_of_pass at inside es ≡ []
  pass_after inside [] h = refl
  pass_after inside (e ∷ es) h =
      rw (All-head (λ (x : Entry). int_le x.offset at ≡ false) e es h) (pass_after (is_open_after inside e.item) es (All-tail (λ (x : Entry). int_le x.offset at ≡ false) e es h))

  pass_before : (inside : Bool) (xs ys : List Entry) → AllLater at ys → records_of_pass at inside (xs ++ ys) ≡ records_of_pass at inside xs
  pass_before inside [] ys h = pass_after inside ys h
  pass_before inside (x ∷ xs) ys h = rw (ends_before xs ys h, pass_before (is_open_after inside x.item) xs ys h) refl

  -- the records after an offset don't change what counts at it
  pub counted_before : (xs ys : List Entry) → Rises int_cmp offset_of (xs ++ ys) → AllLater at ys → counting_records (xs ++ ys) at ≡ counting_records xs at
  counted_before xs ys rises h =
      counted_is_pass (xs ++ ys) at rises ∙ pass_before false xs ys h ∙ sym (counted_is_pass xs at (Rises_left int_order offset_of xs ys rises))

  none_kept : (ys : List Entry) → AllLater at ys → filter (λ (e : Entry). int_le e.offset at) ys ≡ []
  none_kept [] h = refl
  none_kept (y ∷ ys) h =
      rw (All-head (λ (x : Entry). int_le x.offset at ≡ false) y ys h) (none_kept ys (All-tail (λ (x : Entry). int_le x.offset at ≡ false) y ys h))

  -- the records at or before an offset are those before the ones after it
  pub by_split : (xs ys : List Entry) → AllBy at xs → AllLater at ys → filter (λ (e : Entry). int_le e.offset at) (xs ++ ys) ≡ xs
  by_split [] ys by h = none_kept ys h
  by_split (x ∷ xs) ys by h =
      rw (le_true x.offset at (All-head (λ (e : Entry). e.offset ≤ℤ at) x xs by)) (ap (λ es. x ∷ es) (by_split xs ys (All-tail (λ (e : Entry). e.offset ≤ℤ at) x xs by) h))

-- ---- two offsets that no record is after

module _ (at to : ℤ) where
  ended_same : (c : Bool) (e : Entry) (es : List Entry) → e.offset ≤ℤ at → e.offset ≤ℤ to → ends_by at es ≡ ends_by to es
      → is_ended_by at (cond c (Some e) (find closes_entry es)) ≡ is_ended_by to (cond c (Some e) (find closes_entry es))
  ended_same true e es h k rest = rw (le_true e.offset at h, le_true e.offset to k) refl
  ended_same false e es h k rest = rest

  ends_same : (es : List Entry) → AllBy at es → AllBy to es → ends_by at es ≡ ends_by to es
  ends_same [] h k = refl
  ends_same (e ∷ es) h k =
      ended_same (closes e.item) e es (All-head (λ (x : Entry). x.offset ≤ℤ at) e es h) (All-head (λ (x : Entry). x.offset ≤ℤ to) e es k)
      (ends_same es (All-tail (λ (x : Entry). x.offset ≤ℤ at) e es h) (All-tail (λ (x : Entry). x.offset ≤ℤ to) e es k))

  pass_same : (inside : Bool) (es : List Entry) → AllBy at es → AllBy to es → records_of_pass at inside es ≡ records_of_pass to inside es
  pass_same inside [] h k = refl
  pass_same inside (e ∷ es) h k =
      let later = All-tail (λ (x : Entry). x.offset ≤ℤ at) e es h in
      let after = All-tail (λ (x : Entry). x.offset ≤ℤ to) e es k in
      rw (le_true e.offset at (All-head (λ (x : Entry). x.offset ≤ℤ at) e es h), le_true e.offset to (All-head (λ (x : Entry). x.offset ≤ℤ to) e es k), ends_same es later after, pass_same (is_open_after inside e.item) es later after) refl

  -- at all offsets that no record is after, the same count
  pub counted_same : (es : List Entry) → Rises int_cmp offset_of es → AllBy at es → AllBy to es → counting_records es at ≡ counting_records es to
  counted_same es rises h k = counted_is_pass es at rises ∙ pass_same false es h k ∙ sym (counted_is_pass es to rises)
