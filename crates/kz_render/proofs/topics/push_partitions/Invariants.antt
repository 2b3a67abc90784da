use Rattle.std.proofs.Common.{◌≡◌, ◌++◌, take}
use Rattle.std.specs.List.{flat_map}
use Rattle.kz_spec_data.specs.Rendering.{partition_znodes}
use Rattle.kz_render.proofs.topics.push_partitions.Given as goal

abbrev pub invariant-loop-partition : goal.invariant-loop-partition
invariant-loop-partition l = l.znodes.items ≡ l.fn.znodes.items ++ flat_map (partition_znodes l.name) (take l.partition-index l.partitions)
