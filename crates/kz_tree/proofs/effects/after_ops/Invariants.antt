use Rattle.kz_tree.proofs.Steps.{GoesOn}
use Rattle.kz_tree.proofs.effects.after_ops.Given as goal

abbrev pub invariant-loop-index : goal.invariant-loop-index
invariant-loop-index l = GoesOn l.sessions l.fn.zxid l.ops l.fn.rows l.index l.rows
