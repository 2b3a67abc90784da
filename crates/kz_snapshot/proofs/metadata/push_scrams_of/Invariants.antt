use Rattle.std.proofs.Common.{◌≡◌, ◌++◌, map, take}
use Rattle.kz_spec_data.specs.Translation.{scram_record}
use Rattle.kz_spec_data.specs.SnapshotRecords.{in_epoch}
use Rattle.kz_snapshot.proofs.metadata.push_scrams_of.Given as goal

abbrev pub invariant-loop-scram : goal.invariant-loop-scram
invariant-loop-scram l = l.records.items ≡ l.fn.records.items ++ map (in_epoch l.epoch) (map (scram_record l.name) (take l.scram-index l.scrams))
