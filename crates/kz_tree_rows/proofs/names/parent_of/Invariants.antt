use Rattle.kz_tree_rows.proofs.LastSlash.{EndsAt}
use Rattle.kz_tree_rows.proofs.names.parent_of.Given as goal

abbrev pub invariant-loop-at : goal.invariant-loop-at
invariant-loop-at l = EndsAt l.path l.at l.end
