use Rattle.std.proofs.Common.{◌≡◌, ◌+◌, drop, map, sum}
use Rattle.kz_spec_machine.specs.Machine.{znode_size}
use Rattle.kz_world_parts.proofs.amount.amount_of_znodes.Given as goal

abbrev pub invariant-loop-znode : goal.invariant-loop-znode
invariant-loop-znode l = record { count : l.amount.count ≡ l.znode-index; bytes : l.amount.bytes + sum (map znode_size (drop l.znode-index l.znodes)) ≡ sum (map znode_size l.znodes) }
