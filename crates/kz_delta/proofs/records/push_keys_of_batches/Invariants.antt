use Rattle.std.proofs.Common.{◌≡◌, ◌++◌, drop}
use Rattle.std.specs.List.{flat_map}
use Rattle.kz_types.specs.declared.log.BatchRow.{BatchRow}
use Rattle.kz_spec_data.specs.Touched.{touched_keys}
use Rattle.kz_delta.proofs.records.push_keys_of_batches.Given as goal

abbrev pub invariant-loop-batch : goal.invariant-loop-batch
invariant-loop-batch l = l.keys.items ++ touched_keys l.old l.new (flat_map (λ (b : BatchRow). b.items) (drop l.batch-index l.batches)) ≡ l.fn.keys.items ++ touched_keys l.old l.new (flat_map (λ (b : BatchRow). b.items) l.batches)
