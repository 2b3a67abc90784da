use Rattle.std.proofs.Common.{◌≡◌, ◌++◌, map, take}
use Rattle.kz_spec_data.specs.Translation.{config_record}
use Rattle.kz_spec_data.specs.SnapshotRecords.{in_epoch}
use Rattle.kz_snapshot.proofs.metadata.push_members.Given as goal

abbrev pub invariant-loop-pair : goal.invariant-loop-pair
invariant-loop-pair l = l.records.items ≡ l.fn.records.items ++ map (in_epoch l.epoch) (map (config_record l.resource l.name) (take l.pair-index l.pairs))
