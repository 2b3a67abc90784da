-- Batches from which the last still takes records.
use Rattle.std.specs.Prelude.{Bool, ◌||◌, ◌==◌, ℤ, pos, ◌+ℤ◌, List, [], ◌∷◌, ◌++◌, length, if◌then◌else◌}
use Rattle.std.specs.Ordering.{int_eq}
use Rattle.kz_types.specs.declared.log.BatchRow.{BatchRow}
use Rattle.kz_types.specs.declared.log.EpochRecord.{EpochRecord}
use Rattle.kz_types.specs.declared.record.MetaRecord.{MetaRecord}
use Rattle.kz_spec_data.specs.SnapshotBatches.{batches_from}

abbrev pub batch_at : ℤ → ℤ → List MetaRecord → BatchRow
batch_at first epoch items = record { first = first; epoch = epoch; time = pos 0; items = items }

-- a batch that begins at an offset and has these records, with the further ones that are in its epoch, and the batches of the rest
abbrev pub filled : ℤ → ℤ → List MetaRecord → List EpochRecord → List BatchRow
filled first epoch items [] = batch_at first epoch items ∷ []
filled first epoch items (r ∷ rs) =
    if int_eq r.epoch epoch then filled first epoch (items ++ r.item ∷ []) rs
    else batch_at first epoch items ∷ filled (first +ℤ pos (length items)) r.epoch (r.item ∷ []) rs

-- whether a record of the next epoch goes into a batch of this epoch and these records
abbrev pub joins : List MetaRecord → ℤ → ℤ → Bool
joins items epoch next = (length items == 0) || int_eq next epoch

-- the same, where a batch without records is none
abbrev pub filled_or_none : ℤ → ℤ → List MetaRecord → List EpochRecord → List BatchRow
filled_or_none first epoch [] rs = batches_from first rs
filled_or_none first epoch (x ∷ items) rs = filled first epoch (x ∷ items) rs
