use Rattle.std.proofs.Common.{◌≡◌, map, take}
use Rattle.kz_spec_data.specs.Rendering.{assignment_of}
use Rattle.kz_render.proofs.topics.assignments_of.Given as goal

abbrev pub invariant-loop-partition : goal.invariant-loop-partition
invariant-loop-partition l = l.rows.items ≡ map assignment_of (take l.partition-index l.partitions)
