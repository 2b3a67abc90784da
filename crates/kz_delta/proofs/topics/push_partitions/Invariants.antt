use Rattle.std.proofs.Common.{◌≡◌, ◌++◌, drop, map}
use Rattle.kz_types.specs.declared.image.PartitionEntry.{PartitionEntry}
use Rattle.kz_types.specs.declared.key.EntityKey.TheVariants as key
use Rattle.kz_delta.proofs.topics.push_partitions.Given as goal

abbrev pub invariant-loop-partition : goal.invariant-loop-partition
invariant-loop-partition l =
    l.keys.items ++ map (λ (p : PartitionEntry). key.Partition l.name p.number) (drop l.partition-index l.partitions) ≡ l.fn.keys.items ++ map (λ (p : PartitionEntry). key.Partition l.name p.number) l.partitions
