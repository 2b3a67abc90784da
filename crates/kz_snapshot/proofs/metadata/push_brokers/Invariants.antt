use Rattle.std.proofs.Common.{◌≡◌, ◌++◌, map, take}
use Rattle.kz_types.specs.declared.record.MetaRecord.TheVariants as meta
use Rattle.kz_spec_data.specs.SnapshotRecords.{in_epoch}
use Rattle.kz_snapshot.proofs.metadata.push_brokers.Given as goal

abbrev pub invariant-loop-broker : goal.invariant-loop-broker
invariant-loop-broker l = l.records.items ≡ l.fn.records.items ++ map (λ b. in_epoch l.epoch (meta.RegisterBroker b)) (take l.broker-index l.brokers)
