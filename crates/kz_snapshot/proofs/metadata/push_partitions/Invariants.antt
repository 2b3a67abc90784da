use Rattle.std.proofs.Common.{◌≡◌, ◌++◌, map, take}
use Rattle.kz_spec_data.specs.SnapshotRecords.{partition_of_topic}
use Rattle.kz_snapshot.proofs.metadata.push_partitions.Given as goal

abbrev pub invariant-loop-partition : goal.invariant-loop-partition
invariant-loop-partition l = l.records.items ≡ l.fn.records.items ++ map (partition_of_topic l.id) (take l.partition-index l.partitions)
