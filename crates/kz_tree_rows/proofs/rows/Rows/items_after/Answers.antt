use Rattle.std.proofs.Common.{sym, ◌∙◌}
use Rattle.kz_types.specs.Order.{bytes_cmp}
use Rattle.kz_sorted.proofs.AfterLemmas.{items_after-none}
use Rattle.kz_spec_data.specs.Tree.{path_of_row}
use Rattle.kz_tree_rows.proofs.rows.Rows.items_after.Goals as goal

pub returns-in-None-clause-items : goal.returns-in-None-clause-items
returns-in-None-clause-items c = rw c.in-None.is (c.items.ensures.items ∙ c.self.view_is ∙ sym (items_after-none bytes_cmp path_of_row c.args.self.now))
