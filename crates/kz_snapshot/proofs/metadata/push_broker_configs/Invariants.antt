use Rattle.std.proofs.Common.{◌≡◌, ◌++◌, map}
use Rattle.std.specs.List.{flat_map}
use Rattle.kz_spec_data.specs.SnapshotRecords.{in_epoch, members_of_brokers}
use Rattle.kz_snapshot.proofs.metadata.push_broker_configs.Given as goal

abbrev pub invariant-loop-config : goal.invariant-loop-config
invariant-loop-config l = l.records.items ++ map (in_epoch l.epoch) (flat_map members_of_brokers l.config-iterator) ≡ l.fn.records.items ++ map (in_epoch l.epoch) (flat_map members_of_brokers l.fn.configs)
