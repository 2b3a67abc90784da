use Rattle.kz_tree.proofs.Owned.{IsLeft}
use Rattle.kz_tree.proofs.sessions.without_ended.Given as goal

abbrev pub invariant-loop-row : goal.invariant-loop-row
invariant-loop-row l = IsLeft l.session l.fn.rows l.row-iterator l.made
