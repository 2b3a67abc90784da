use Rattle.std.proofs.Common.{◌≡◌, drop}
use Rattle.kz_spec_machine.specs.Machine.{first_told, is_held}
use Rattle.kz_world.proofs.client.first_held.Given as goal

abbrev pub invariant-loop-op : goal.invariant-loop-op
invariant-loop-op l = first_told is_held (drop l.op-index l.ops) ≡ first_told is_held l.ops
