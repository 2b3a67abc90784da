-- What records make of metadata.
use Rattle.std.proofs.Common.{◌≡◌, ℕ, ◌+◌, ◌<◌, ℤ, List, [], ◌∷◌, ◌++◌, map, take, get_or, length, refl, append-nil, append_assoc, sym, ap, ◌∙◌}
use Rattle.std.proofs.lemmas.List.{take_more}
use Rattle.std.proofs.lemmas.List.Concat.{flat_map-append}
use Rattle.std.specs.List.{flat_map}
use Rattle.kz_types.specs.declared.log.BatchRow.{BatchRow}
use Rattle.kz_types.specs.declared.log.EpochRecord.{EpochRecord}
use Rattle.kz_types.specs.declared.record.MetaRecord.{MetaRecord}
use Rattle.kz_spec_data.specs.Metadata.{Image}
use Rattle.std.proofs.lemmas.List.{map-append}
use Rattle.kz_spec_data.specs.Image.{image_with, all_applied}
use Rattle.kz_spec_data.specs.SnapshotRecords.{in_epoch, image_after}
use Rattle.kz_spec_data.specs.SnapshotBatches.{records_of_batches}

pub after_append : (rs qs : List EpochRecord) (i : Image) → image_after (rs ++ qs) i ≡ image_after qs (image_after rs i)
after_append [] qs i = refl
after_append (r ∷ rs) qs i = after_append rs qs (image_with r.epoch r.item i)

pub applied_is : (epoch : ℤ) (items : List MetaRecord) (i : Image) → all_applied epoch items i ≡ image_after (map (in_epoch epoch) items) i
applied_is epoch [] i = refl
applied_is epoch (r ∷ rs) i = applied_is epoch rs (image_with epoch r i)

abbrev pub records_of_batch : BatchRow → List EpochRecord
records_of_batch b = map (in_epoch b.epoch) b.items

-- the metadata after one batch more
pub more_applied : (bs : List BatchRow) (n : ℕ) (b : BatchRow) (i : Image) → n < length bs → b ≡ get_or bs n b
    → image_after (records_of_batch b) (image_after (records_of_batches (take n bs)) i) ≡ image_after (records_of_batches (take (n + 1) bs)) i
more_applied bs n b i less is =
    sym (after_append (records_of_batches (take n bs)) (records_of_batch b) i)
    ∙ ap (λ rs. image_after (records_of_batches (take n bs) ++ rs) i) (sym (one_batch b))
    ∙ ap (λ rs. image_after rs i) (sym (flat_map-append records_of_batch (take n bs) (b ∷ [])))
    ∙ ap (λ xs. image_after (records_of_batches xs) i) (sym (take_more bs n b less ∙ ap (λ x. take n bs ++ x ∷ []) (sym is)))
  where
    one_batch : (x : BatchRow) → flat_map records_of_batch (x ∷ []) ≡ records_of_batch x
    one_batch x = append-nil (records_of_batch x)

-- further records behind those that were added
pub more_added : {A : Type 0} (f : A → EpochRecord) (old mid new : List EpochRecord) (xs ys : List A) → mid ≡ old ++ map f xs → new ≡ mid ++ map f ys → new ≡ old ++ map f (xs ++ ys)
more_added f old mid new xs ys first second =
    second ∙ ap (λ rs. rs ++ map f ys) first ∙ append_assoc old (map f xs) (map f ys) ∙ ap (λ rs. old ++ rs) (sym (map-append f xs ys))
