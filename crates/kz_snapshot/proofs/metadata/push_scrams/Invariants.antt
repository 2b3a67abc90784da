use Rattle.std.proofs.Common.{◌≡◌, ◌++◌, map}
use Rattle.std.specs.List.{flat_map}
use Rattle.kz_spec_data.specs.SnapshotRecords.{in_epoch, scrams_of_entry}
use Rattle.kz_snapshot.proofs.metadata.push_scrams.Given as goal

abbrev pub invariant-loop-user : goal.invariant-loop-user
invariant-loop-user l = l.records.items ++ map (in_epoch l.epoch) (flat_map scrams_of_entry l.user-iterator) ≡ l.fn.records.items ++ map (in_epoch l.epoch) (flat_map scrams_of_entry l.fn.users)
