use Rattle.std.proofs.Common.{◌∙◌}
use Rattle.kz_tree_store.proofs.Fits.{load_rows_fit, rows_fit_as}
use Rattle.kz_tree_store.proofs.txns.load_rows_txn.Goals as goal

pub returns-clause-fits : goal.returns-clause-fits
returns-clause-fits c =
    let rows = c.args.rows.now in
    let rules = c.requires.1 in
    rows_fit_as c.args.first _ rows (c.from_vec.ensures ∙ c.in_ok-copies.ensures) (load_rows_fit rules.0 rules.1 c.requires.0 rows c.args.first rules.2 c.are_rows_held.ensures)
