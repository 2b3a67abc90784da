use Rattle.std.proofs.Common.{◌≡◌, ◌∷◌, take, map}
use Rattle.kz_spec_data.specs.Log.{last_of, record_count}
use Rattle.kz_log.proofs.ends.all_ends.Given as goal

abbrev pub invariant-loop-batch : goal.invariant-loop-batch
invariant-loop-batch l = record {
  ends : l.ends.items ≡ l.base ∷ map last_of (take l.batch-index l.batches);
  count : l.count ≡ record_count (take l.batch-index l.batches);
}
