use Rattle.std.proofs.Common.{◌≡◌, ◌++◌, drop}
use Rattle.kz_spec_machine.specs.Driver.{base_ops}
use Rattle.kz_types.specs.Paths.{base_paths}
use Rattle.kz_fence.proofs.claims.push_bases.Given as goal

abbrev pub invariant-loop-place : goal.invariant-loop-place
invariant-loop-place l = l.ops.items ++ base_ops (drop l.place l.bases) (drop l.place base_paths) ≡ l.fn.ops.items ++ base_ops l.bases base_paths
