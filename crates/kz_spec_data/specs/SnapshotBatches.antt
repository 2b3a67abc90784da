-- The batches of a snapshot.
use Rattle.std.specs.Prelude.{ℤ, pos, ◌+ℤ◌, List, [], ◌∷◌, map, if◌then◌else◌}
use Rattle.std.specs.List.{flat_map}
use Rattle.std.specs.Ordering.{int_eq}
use Rattle.kz_types.specs.declared.log.BatchRow.{BatchRow}
use Rattle.kz_spec_data.specs.Metadata.{Image}
use Rattle.kz_types.specs.declared.log.EpochRecord.{EpochRecord}
use Rattle.kz_spec_data.specs.SnapshotRecords.{in_epoch, snapshot_records}

-- a record before these batches: in the first of them, where that has its epoch, and else in one of its own
abbrev pub record_before : ℤ → EpochRecord → List BatchRow → List BatchRow
record_before first r [] = record { first = first; epoch = r.epoch; time = pos 0; items = r.item ∷ [] } ∷ []
record_before first r (b ∷ bs) =
    if int_eq b.epoch r.epoch then record { first = first; epoch = r.epoch; time = pos 0; items = r.item ∷ b.items } ∷ bs
    else record { first = first; epoch = r.epoch; time = pos 0; items = r.item ∷ [] } ∷ b ∷ bs

-- Records as batches of the time 0, at the offsets from this one on: a batch ends exactly where the next record has another epoch.
abbrev pub batches_from : ℤ → List EpochRecord → List BatchRow
batches_from first [] = []
batches_from first (r ∷ rs) = record_before first r (batches_from (first +ℤ pos 1) rs)

-- the batches of a snapshot in this epoch
abbrev pub snapshot_batches : ℤ → Image → List BatchRow
snapshot_batches epoch i = batches_from (pos 0) (snapshot_records epoch i)

-- the records of batches, each with its batch's epoch
abbrev pub records_of_batches : List BatchRow → List EpochRecord
records_of_batches bs = flat_map (λ (b : BatchRow). map (in_epoch b.epoch) b.items) bs
