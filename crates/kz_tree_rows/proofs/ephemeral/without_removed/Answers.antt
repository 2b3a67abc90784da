use Rattle.std.proofs.Common.{◌≡◌, None, false, is_some, sym, rules}
use Rattle.kz_types.proofs.Order.{bytes_order}
use Rattle.kz_types.proofs.Append.{without_absent}
use Rattle.kz_spec_data.specs.Tree.{path_of_row, row_at}
use Rattle.kz_tree_rows.proofs.ChildPaths.{none_there}
use Rattle.kz_tree_rows.proofs.ephemeral.without_removed.Goals as goal

pub returns-then-is_none : goal.returns-then-is_none
returns-then-is_none c =
    let absent : is_some c.find.result ≡ false = search rules in
    let none : row_at c.args.path.now c.args.ephemeral.now ≡ None = none_there _ c.find.result _ absent c.find.ensures in
    sym (without_absent bytes_order path_of_row c.args.path.now c.args.ephemeral.now none)
