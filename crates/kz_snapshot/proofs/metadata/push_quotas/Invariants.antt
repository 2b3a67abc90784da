use Rattle.std.proofs.Common.{◌≡◌, ◌++◌, map}
use Rattle.std.specs.List.{flat_map}
use Rattle.kz_spec_data.specs.SnapshotRecords.{in_epoch, quotas_of_entry}
use Rattle.kz_snapshot.proofs.metadata.push_quotas.Given as goal

abbrev pub invariant-loop-entry : goal.invariant-loop-entry
invariant-loop-entry l = l.records.items ++ map (in_epoch l.epoch) (flat_map quotas_of_entry l.entry-iterator) ≡ l.fn.records.items ++ map (in_epoch l.epoch) (flat_map quotas_of_entry l.fn.entries)
