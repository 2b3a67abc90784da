use Rattle.kz_tree_rows.proofs.LastSlash.{BeginsAt}
use Rattle.kz_tree_rows.proofs.names.name_of.Given as goal

abbrev pub invariant-loop-at : goal.invariant-loop-at
invariant-loop-at l = BeginsAt l.path l.at l.start
