use Rattle.std.proofs.Common.{◌≡◌, ◌++◌}
use Rattle.kz_spec_data.specs.Forms.{AllFit, items_written}
use Rattle.kz_spec_data.specs.Transactions.{row}
use Rattle.kz_tree_store.proofs.all_rows.push_rows.Given as goal

abbrev pub invariant-loop-row : goal.invariant-loop-row
invariant-loop-row l = record {
  written : l.out.items ++ items_written row.written l.row-iterator ≡ l.fn.out.items ++ items_written row.written l.fn.check.rows;
  fits : AllFit row.fits l.row-iterator;
}
