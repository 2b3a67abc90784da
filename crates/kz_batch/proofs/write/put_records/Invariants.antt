use Rattle.std.proofs.Common.{◌≡◌, ◌+◌, ◌*◌, ◌^◌, ◌≤◌, ◌++◌, length, map, take}
use Rattle.kz_spec_data.specs.Batches.{records_written}
use Rattle.kz_batch.proofs.write.put_records.Given as goal

abbrev pub invariant-loop-value : goal.invariant-loop-value
invariant-loop-value l = record { index : l.index ≡ l.value-index; out : l.out.items ≡ l.fn.out.items ++ records_written 0 (map (λ v. v.items) (take l.value-index l.values)) }
