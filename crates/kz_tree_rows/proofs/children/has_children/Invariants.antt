use Rattle.std.proofs.Common.{◌≡◌}
use Rattle.kz_spec_data.specs.Tree.{has_children}
use Rattle.kz_tree_rows.specs.Kept.{AreRows}
use Rattle.kz_tree_rows.proofs.children.has_children.Given as goal

abbrev pub invariant-loop-row : goal.invariant-loop-row
invariant-loop-row l = (has_children l.path l.row-iterator ≡ has_children l.path l.fn.rows) × AreRows l.row-iterator
