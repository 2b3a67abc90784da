use Rattle.std.proofs.Common.{◌≡◌, ◌+◌, length}
use Rattle.std.specs.Prelude.{slice_get}
use Rattle.kz_batch.proofs.batch.Batch.value.Given as goal

abbrev pub invariant-loop-value : goal.invariant-loop-value
invariant-loop-value l = slice_get l.values l.left ≡ slice_get l.fn.self.values l.index

abbrev pub decreases-loop-value : goal.decreases-loop-value
decreases-loop-value l = length l.values
