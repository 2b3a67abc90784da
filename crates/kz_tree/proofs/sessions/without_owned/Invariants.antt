use Rattle.kz_tree.proofs.Owned.{IsTouched}
use Rattle.kz_tree.proofs.sessions.without_owned.Given as goal

abbrev pub invariant-loop-row : goal.invariant-loop-row
invariant-loop-row l = IsTouched l.zxid l.session l.fn.rows l.row-iterator l.made
