use Rattle.std.proofs.Common.{◌≡◌, ◌+◌, ◌*◌, ◌^◌, ◌≤◌, length, take}
use Rattle.kz_spec_data.specs.Forms.{items_written}
use Rattle.kz_spec_data.specs.Transactions.{row}
use Rattle.kz_txn.proofs.size.all_rows_size.Given as goal

abbrev pub invariant-loop-item : goal.invariant-loop-item
invariant-loop-item l = record { size : l.size ≡ length (items_written row.written (take l.item-index l.items)); bound : l.size ≤ l.item-index * (2 ^ 64 + 44) }
