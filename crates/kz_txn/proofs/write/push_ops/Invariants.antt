use Rattle.std.proofs.Common.{◌≡◌, ◌++◌, take}
use Rattle.kz_spec_data.specs.Forms.{items_written}
use Rattle.kz_spec_data.specs.Transactions.{op}
use Rattle.kz_txn.proofs.write.push_ops.Given as goal

abbrev pub invariant-loop-item : goal.invariant-loop-item
invariant-loop-item l = l.out.items ≡ l.fn.out.items ++ items_written op.written (take l.item-index l.items)
