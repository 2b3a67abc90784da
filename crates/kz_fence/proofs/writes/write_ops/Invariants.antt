use Rattle.std.proofs.Common.{◌≡◌, ◌∷◌, take}
use Rattle.kz_types.specs.declared.tree.Op.TheVariants as op
use Rattle.kz_spec_data.specs.Control.{epoch_path}
use Rattle.kz_fence.proofs.writes.write_ops.Given as goal

abbrev pub invariant-loop-op : goal.invariant-loop-op
invariant-loop-op l = l.made.items ≡ op.Check epoch_path l.claim ∷ take l.op-index l.ops
