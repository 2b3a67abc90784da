-- The batches of a snapshot follow each other from the offset 0 on, and have its records.
use Rattle.std.proofs.Common.{◌≡◌, ℕ, suc, ◌+◌, ◌<◌, ℤ, pos, Bool, true, false, cond, List, [], ◌∷◌, ◌++◌, length, map, refl, subst, arith, w32, FitsSigned}
use Rattle.std.specs.Prelude.{⊤}
use Rattle.std.specs.List.{All}
use Rattle.std.specs.Ordering.{int_eq}
use Rattle.std.proofs.lemmas.List.Elements.{All-nil, All-cons, All-head, All-tail}
use Rattle.kz_types.specs.declared.log.BatchRow.{BatchRow}
use Rattle.kz_types.specs.declared.log.EpochRecord.{EpochRecord}
use Rattle.kz_types.specs.declared.record.MetaRecord.{MetaRecord}
use Rattle.kz_spec_data.specs.SnapshotRecords.{in_epoch}
use Rattle.kz_spec_data.specs.SnapshotBatches.{record_before, batches_from, records_of_batches}
use Rattle.kz_laws_znodes.specs.ReadBack.{IsReadBack, IsEpochReadBack, IsBatchReadBack}

-- Batches of the time 0 follow each other from this offset on, and none is empty.
abbrev pub FollowFrom : ℕ → List BatchRow → Type 0
FollowFrom n [] = ⊤
FollowFrom n (b ∷ bs) = (b.first ≡ pos n) × (b.time ≡ pos 0) × (0 < length b.items) × FollowFrom (n + length b.items) bs

follow_before : (n : ℕ) (r : EpochRecord) (bs : List BatchRow) → FollowFrom (n + 1) bs → FollowFrom n (record_before (pos n) r bs)
follow_before n r [] follow = (refl, refl, omega arith, tt)
follow_before n r (b ∷ bs) follow = by (int_eq b.epoch r.epoch)
  where
    joined : (n m : ℕ) → n + 1 + m ≡ n + suc m
    joined n m = omega arith

    by : (t : Bool) → FollowFrom n (cond t (record { first = pos n; epoch = r.epoch; time = pos 0; items = r.item ∷ b.items } ∷ bs) (record { first = pos n; epoch = r.epoch; time = pos 0; items = r.item ∷ [] } ∷ b ∷ bs))
    by true = (refl, refl, omega arith, subst (λ k. FollowFrom k bs) (joined n (length b.items)) follow.3)
    by false = (refl, refl, omega arith, follow)

pub follow_from : (n : ℕ) (rs : List EpochRecord) → FollowFrom n (batches_from (pos n) rs)
follow_from n [] = tt
follow_from n (r ∷ rs) = follow_before n r (batches_from (pos (n + 1)) rs) (follow_from (n + 1) rs)

-- ---- what each record has

each_of : {A B : Type 0} (P : B → Type 0) (f : A → B) (Q : A → Type 0) → ((a : A) → P (f a) → Q a) → (xs : List A) (ys : List B) → All P (map f xs ++ ys) → All Q xs × All P ys
each_of P f Q has [] ys all = (All-nil Q, all)
each_of P f Q has (x ∷ xs) ys all =
    let rest = each_of P f Q has xs ys (All-tail P (f x) (map f xs ++ ys) all) in
    (All-cons Q x xs (has x (All-head P (f x) (map f xs ++ ys) all)) rest.0, rest.1)

first_of : (epoch : ℤ) (rs : List MetaRecord) (ys : List EpochRecord) → 0 < length rs → All IsEpochReadBack (map (in_epoch epoch) rs ++ ys) → FitsSigned w32 epoch
first_of epoch [] ys some all = absurd (omega (arith, some))
first_of epoch (r ∷ rs) ys some all = (All-head IsEpochReadBack (in_epoch epoch r) (map (in_epoch epoch) rs ++ ys) all).epoch

-- Batches are read back where all their records are.
pub each_batch : (n : ℕ) (bs : List BatchRow) → FollowFrom n bs → All IsEpochReadBack (records_of_batches bs) → All IsBatchReadBack bs
each_batch n [] follow all = All-nil IsBatchReadBack
each_batch n (b ∷ bs) follow all =
    let parts = each_of IsEpochReadBack (in_epoch b.epoch) IsReadBack (λ r h. h.item) b.items (records_of_batches bs) all in
    All-cons IsBatchReadBack b bs (record { epoch = first_of b.epoch b.items (records_of_batches bs) follow.2 all; items = parts.0 }) (each_batch (n + length b.items) bs follow.3 parts.1)
