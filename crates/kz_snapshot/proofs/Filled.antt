-- Batches that are filled one record after another.
use Rattle.std.proofs.Common.{◌≡◌, ◌==◌, ◌||◌, Bool, true, false, cond, ℤ, pos, ◌+ℤ◌, List, [], ◌∷◌, ◌++◌, length, refl, sym, ap, ◌∙◌, subst, append_assoc, ℕ, ◌+◌, arith}
use Rattle.std.specs.Ordering.{int_eq}
use Rattle.std.proofs.lemmas.Int.{ints}
use Rattle.std.proofs.lemmas.Bool.Decides.{nat_tests}
use Rattle.kz_types.specs.declared.log.BatchRow.{BatchRow}
use Rattle.kz_types.specs.declared.log.EpochRecord.{EpochRecord}
use Rattle.kz_types.specs.declared.record.MetaRecord.{MetaRecord}
use Rattle.kz_spec_data.specs.SnapshotRecords.{in_epoch}
use Rattle.kz_spec_data.specs.SnapshotBatches.{record_before, batches_from}
use Rattle.kz_snapshot.specs.Filling.{batch_at, filled, joins, filled_or_none}

same_number : (x y : ℤ) → x ≡ y → int_eq x y ≡ true
same_number x y h = grind (arith, ints)

number_of : (x y : ℤ) → int_eq x y ≡ true → x ≡ y
number_of x y h = grind (arith, ints)

turned : (x y : ℤ) → int_eq x y ≡ false → int_eq y x ≡ false
turned x y h = grind (arith, ints)

-- a record before a batch of its epoch
joins_batch : (first next epoch : ℤ) (x : MetaRecord) (items : List MetaRecord) (bs : List BatchRow) → record_before first (in_epoch epoch x) (batch_at next epoch items ∷ bs) ≡ batch_at first epoch (x ∷ items) ∷ bs
joins_batch first next epoch x items bs = rw (same_number epoch epoch refl) refl

-- a record before a batch of another epoch
stands : (first : ℤ) (r q : EpochRecord) (next : ℤ) (bs : List BatchRow) → int_eq q.epoch r.epoch ≡ false → record_before first r (record_before next q bs) ≡ batch_at first r.epoch (r.item ∷ []) ∷ record_before next q bs
stands first r q next [] other = rw other refl
stands first r q next (b ∷ bs) other = by (int_eq b.epoch q.epoch) refl
  where
    head : (t : Bool) → List BatchRow
    head t = cond t (batch_at next q.epoch (q.item ∷ b.items) ∷ bs) (batch_at next q.epoch (q.item ∷ []) ∷ b ∷ bs)

    each : (t : Bool) → record_before first r (head t) ≡ batch_at first r.epoch (r.item ∷ []) ∷ head t
    each true = rw other refl
    each false = rw other refl

    by : (t : Bool) → int_eq b.epoch q.epoch ≡ t → record_before first r (head (int_eq b.epoch q.epoch)) ≡ batch_at first r.epoch (r.item ∷ []) ∷ head (int_eq b.epoch q.epoch)
    by t is = each (int_eq b.epoch q.epoch)

-- a record in front of a batch that takes records
in_front : (first epoch : ℤ) (x y : MetaRecord) (items : List MetaRecord) (rs : List EpochRecord)
    → filled first epoch (x ∷ y ∷ items) rs ≡ record_before first (in_epoch epoch x) (filled (first +ℤ pos 1) epoch (y ∷ items) rs)
in_front first epoch x y items [] = sym (joins_batch first (first +ℤ pos 1) epoch x (y ∷ items) [])
in_front first epoch x y items (r ∷ rs) = by (int_eq r.epoch epoch) (in_front first epoch x y (items ++ r.item ∷ []) rs)
  where
    offsets : first +ℤ pos (length (x ∷ y ∷ items)) ≡ (first +ℤ pos 1) +ℤ pos (length (y ∷ items))
    offsets = omega (arith, ints)

    by : (t : Bool) → filled first epoch (x ∷ y ∷ (items ++ r.item ∷ [])) rs ≡ record_before first (in_epoch epoch x) (filled (first +ℤ pos 1) epoch (y ∷ (items ++ r.item ∷ [])) rs)
        → cond t (filled first epoch (x ∷ y ∷ (items ++ r.item ∷ [])) rs) (batch_at first epoch (x ∷ y ∷ items) ∷ filled (first +ℤ pos (length (x ∷ y ∷ items))) r.epoch (r.item ∷ []) rs)
        ≡ record_before first (in_epoch epoch x) (cond t (filled (first +ℤ pos 1) epoch (y ∷ (items ++ r.item ∷ [])) rs) (batch_at (first +ℤ pos 1) epoch (y ∷ items) ∷ filled ((first +ℤ pos 1) +ℤ pos (length (y ∷ items))) r.epoch (r.item ∷ []) rs))
    by true go = go
    by false go =
        ap (λ o. batch_at first epoch (x ∷ y ∷ items) ∷ filled o r.epoch (r.item ∷ []) rs) offsets
        ∙ sym (joins_batch first (first +ℤ pos 1) epoch x (y ∷ items) (filled ((first +ℤ pos 1) +ℤ pos (length (y ∷ items))) r.epoch (r.item ∷ []) rs))

-- a batch of one record that takes the (first +ℤ pos 1) ones
pub begins : (first : ℤ) (r : EpochRecord) (rs : List EpochRecord) → filled first r.epoch (r.item ∷ []) rs ≡ batches_from first (r ∷ rs)
begins first r [] = refl
begins first r (q ∷ qs) = by (int_eq q.epoch r.epoch) refl (begins (first +ℤ pos 1) q qs)
  where
    by : (t : Bool) → int_eq q.epoch r.epoch ≡ t → filled (first +ℤ pos 1) q.epoch (q.item ∷ []) qs ≡ batches_from (first +ℤ pos 1) (q ∷ qs)
        → cond t (filled first r.epoch (r.item ∷ q.item ∷ []) qs) (batch_at first r.epoch (r.item ∷ []) ∷ filled (first +ℤ pos 1) q.epoch (q.item ∷ []) qs) ≡ record_before first r (batches_from (first +ℤ pos 1) (q ∷ qs))
    by true is go =
        in_front first r.epoch r.item q.item [] qs
        ∙ ap (λ e. record_before first r (filled (first +ℤ pos 1) e (q.item ∷ []) qs)) (sym (number_of q.epoch r.epoch is))
        ∙ ap (record_before first r) go
    by false is go = ap (λ bs. batch_at first r.epoch (r.item ∷ []) ∷ bs) go ∙ sym (stands first r q (first +ℤ pos 1) (batches_from ((first +ℤ pos 1) +ℤ pos 1) qs) is)

-- ---- the next record

joined : (first epoch : ℤ) (x : MetaRecord) (items : List MetaRecord) (r : EpochRecord) (rs : List EpochRecord) → int_eq r.epoch epoch ≡ true → filled first epoch (x ∷ items) (r ∷ rs) ≡ filled first r.epoch (x ∷ (items ++ r.item ∷ [])) rs
joined first epoch x items r rs is =
    ap (λ t. cond t (filled first epoch (x ∷ (items ++ r.item ∷ [])) rs) (batch_at first epoch (x ∷ items) ∷ filled (first +ℤ pos (length (x ∷ items))) r.epoch (r.item ∷ []) rs)) is
    ∙ ap (λ e. filled first e (x ∷ (items ++ r.item ∷ [])) rs) (sym (number_of r.epoch epoch is))

some_length : (x : MetaRecord) (items : List MetaRecord) → (length (x ∷ items) == 0) ≡ false
some_length x items = grind (arith, nat_tests)

in_epoch_too : (x : MetaRecord) (items : List MetaRecord) (epoch next : ℤ) → joins (x ∷ items) epoch next ≡ int_eq next epoch
in_epoch_too x items epoch next = ap (λ t. t || int_eq next epoch) (some_length x items)

pub taken : (first epoch : ℤ) (items : List MetaRecord) (r : EpochRecord) (rs : List EpochRecord) → joins items epoch r.epoch ≡ true → filled_or_none first r.epoch (items ++ r.item ∷ []) rs ≡ filled_or_none first epoch items (r ∷ rs)
taken first epoch [] r rs h = begins first r rs
taken first epoch (x ∷ items) r rs h = sym (joined first epoch x items r rs (sym (in_epoch_too x items epoch r.epoch) ∙ h))

pub cut_off : (first epoch : ℤ) (items : List MetaRecord) (r : EpochRecord) (rs : List EpochRecord) → joins items epoch r.epoch ≡ false
    → batch_at first epoch items ∷ filled_or_none (first +ℤ pos (length items)) r.epoch (r.item ∷ []) rs ≡ filled_or_none first epoch items (r ∷ rs)
cut_off first epoch [] r rs h = absurd (cc)
cut_off first epoch (x ∷ items) r rs h =
    sym (ap (λ t. cond t (filled first epoch (x ∷ (items ++ r.item ∷ [])) rs) (batch_at first epoch (x ∷ items) ∷ filled (first +ℤ pos (length (x ∷ items))) r.epoch (r.item ∷ []) rs)) (sym (in_epoch_too x items epoch r.epoch) ∙ h))

-- the last batch
pub ended : (first epoch : ℤ) (items : List MetaRecord) → (length items == 0) ≡ false → filled_or_none first epoch items [] ≡ batch_at first epoch items ∷ []
ended first epoch [] h = absurd (cc)
ended first epoch (x ∷ items) h = refl

-- ---- by numbers of a fixed size

pub joins_by : (items xs : List MetaRecord) (epoch e next n : ℤ) (t : Bool) → t ≡ joins xs e n → xs ≡ items → e ≡ epoch → n ≡ next → joins items epoch next ≡ t
joins_by items xs epoch e next n t is items_are epoch_is next_is = sym (is ∙ ap (λ l. joins l e n) items_are ∙ ap (λ x. joins items x n) epoch_is ∙ ap (joins items epoch) next_is)

pub taken_by : (first : ℤ) (items xs : List MetaRecord) (epoch n : ℤ) (r : EpochRecord) (left : List EpochRecord) → xs ≡ items ++ r.item ∷ [] → n ≡ r.epoch → joins items epoch r.epoch ≡ true
    → filled_or_none first n xs left ≡ filled_or_none first epoch items (r ∷ left)
taken_by first items xs epoch n r left items_are epoch_is test =
    ap (λ l. filled_or_none first n l left) items_are ∙ ap (λ e. filled_or_none first e (items ++ r.item ∷ []) left) epoch_is ∙ taken first epoch items r left test

pub cut_by : (old new : List BatchRow) (b : BatchRow) (first count : ℕ) (items xs : List MetaRecord) (epoch e n : ℤ) (r : EpochRecord) (left : List EpochRecord) → new ≡ old ++ b ∷ [] → b ≡ batch_at (pos first) e items → e ≡ epoch
    → count ≡ length items → xs ≡ r.item ∷ [] → n ≡ r.epoch → joins items epoch r.epoch ≡ false → new ++ filled_or_none (pos (first + count)) n xs left ≡ old ++ filled_or_none (pos first) epoch items (r ∷ left)
cut_by old new b first count items xs epoch e n r left more row epoch_is count_is items_are next_is test =
    let offset : pos (first + count) ≡ pos first +ℤ pos (length items) = omega (arith, ints, count_is) in
    ap (λ bs. bs ++ filled_or_none (pos (first + count)) n xs left) (more ∙ ap (λ x. old ++ x ∷ []) (row ∙ ap (λ x. batch_at (pos first) x items) epoch_is))
    ∙ append_assoc old (batch_at (pos first) epoch items ∷ []) (filled_or_none (pos (first + count)) n xs left)
    ∙ ap (λ o. old ++ batch_at (pos first) epoch items ∷ filled_or_none o n xs left) offset
    ∙ ap (λ x. old ++ batch_at (pos first) epoch items ∷ filled_or_none (pos first +ℤ pos (length items)) x xs left) next_is
    ∙ ap (λ l. old ++ batch_at (pos first) epoch items ∷ filled_or_none (pos first +ℤ pos (length items)) r.epoch l left) items_are
    ∙ ap (λ bs. old ++ bs) (cut_off (pos first) epoch items r left test)
