-- The batches of a snapshot have its records.
use Rattle.std.proofs.Common.{◌≡◌, ℤ, pos, ◌+ℤ◌, Bool, true, false, cond, List, [], ◌∷◌, ◌++◌, map, refl, sym, ap, ◌∙◌}
use Rattle.std.specs.Ordering.{int_eq}
use Rattle.std.proofs.lemmas.Bool.Decides.{Decides-int_eq}
use Rattle.kz_types.specs.declared.log.BatchRow.{BatchRow}
use Rattle.kz_types.specs.declared.log.EpochRecord.{EpochRecord}
use Rattle.kz_spec_data.specs.Metadata.{Image, empty_image}
use Rattle.kz_spec_data.specs.InOrder.{IsInOrder}
use Rattle.kz_laws_znodes.specs.RoundTrip.{IsWritable}
use Rattle.kz_spec_data.specs.SnapshotRecords.{in_epoch, image_after, snapshot_records}
use Rattle.kz_spec_data.specs.SnapshotBatches.{record_before, batches_from, snapshot_batches, records_of_batches}
use Rattle.kz_laws_znodes.proofs.WholeSnapshotRecords.{records_return}

records_before : (first : ℤ) (r : EpochRecord) (bs : List BatchRow) → records_of_batches (record_before first r bs) ≡ r ∷ records_of_batches bs
records_before first r [] = refl
records_before first r (b ∷ bs) = by (int_eq b.epoch r.epoch) refl
  where
    by : (t : Bool) → int_eq b.epoch r.epoch ≡ t
        → records_of_batches (cond t (record { first = first; epoch = r.epoch; time = pos 0; items = r.item ∷ b.items } ∷ bs) (record { first = first; epoch = r.epoch; time = pos 0; items = r.item ∷ [] } ∷ b ∷ bs)) ≡ r ∷ records_of_batches (b ∷ bs)
    by true same = ap (λ (e : ℤ). r ∷ (map (in_epoch e) b.items ++ records_of_batches bs)) (sym ((Decides-int_eq b.epoch r.epoch).0 same))
    by false other = refl

pub records_from : (first : ℤ) (rs : List EpochRecord) → records_of_batches (batches_from first rs) ≡ rs
records_from first [] = refl
records_from first (r ∷ rs) = records_before first r (batches_from (first +ℤ pos 1) rs) ∙ ap (λ xs. r ∷ xs) (records_from (first +ℤ pos 1) rs)

-- so they make the metadata again
pub batches_return : (i : Image) → IsInOrder i → IsWritable i → (epoch : ℤ) → image_after (records_of_batches (snapshot_batches epoch i)) empty_image ≡ i
batches_return i order writable epoch = ap (λ (rs : List EpochRecord). image_after rs empty_image) (records_from (pos 0) (snapshot_records epoch i)) ∙ records_return i order writable epoch
