use Rattle.std.proofs.Common.{◌≡◌, ◌+◌, drop, map, sum}
use Rattle.kz_spec_data.specs.Difference.{op_size}
use Rattle.kz_world_parts.proofs.amount.amount_of_ops.Given as goal

abbrev pub invariant-loop-op : goal.invariant-loop-op
invariant-loop-op l = record { count : l.amount.count ≡ l.op-index; bytes : l.amount.bytes + sum (map op_size (drop l.op-index l.ops)) ≡ sum (map op_size l.ops) }
