use Rattle.std.proofs.Common.{◌≡◌, ◌+◌, ◌^◌, ◌<◌, length}
use Rattle.kz_spec_data.specs.Forms.{items_written}
use Rattle.kz_spec_data.specs.Transactions.{row}
use Rattle.kz_tree_store.proofs.all_rows.rows_size.Given as goal

abbrev pub invariant-loop-row : goal.invariant-loop-row
invariant-loop-row l = record {
  size : l.size + length (items_written row.written l.row-iterator) ≡ l.fn.before + length (items_written row.written l.fn.check.rows);
  bound : l.size < 2 ^ 64;
}
