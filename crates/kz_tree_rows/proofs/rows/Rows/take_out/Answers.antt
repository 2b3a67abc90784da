use Rattle.std.proofs.Common.{◌≡◌, None, false, is_some, sym, rules}
use Rattle.kz_types.proofs.Order.{bytes_order}
use Rattle.kz_types.proofs.Append.{without_absent}
use Rattle.kz_spec_data.specs.Tree.{path_of_row, row_at}
use Rattle.kz_tree_rows.proofs.ChildPaths.{none_there}
use Rattle.kz_tree_rows.proofs.rows.Rows.take_out.Goals as goal

pub returns-then-is_none-clause-ok : goal.returns-then-is_none-clause-ok
returns-then-is_none-clause-ok c =
    let absent : is_some c.find.result ≡ false = search rules in
    let none : row_at c.args.path.now c.args.self.now ≡ None = none_there _ c.find.result _ absent c.find.ensures in
    sym (without_absent bytes_order path_of_row c.args.path.now c.args.self.now none)
