use Rattle.std.proofs.Common.{◌≡◌, take}
use Rattle.kz_spec_data.specs.Log.{record_count}
use Rattle.kz_log.proofs.ends.count_of.Given as goal

abbrev pub invariant-loop-batch : goal.invariant-loop-batch
invariant-loop-batch l = l.count ≡ record_count (take l.batch-index l.batches)
