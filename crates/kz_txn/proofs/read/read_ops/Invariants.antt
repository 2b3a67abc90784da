use Rattle.std.proofs.Common.{◌≡◌, ◌-◌}
use Rattle.kz_spec_data.specs.Forms.{items_at}
use Rattle.kz_spec_data.specs.Transactions.{op}
use Rattle.kz_txn.proofs.Loops.{with_front}
use Rattle.kz_txn.proofs.read.read_ops.Given as goal

abbrev pub invariant-loop : goal.invariant-loop
invariant-loop l = with_front l.items.items (items_at op.read (l.count - l.counter) l.reader) ≡ items_at op.read l.count l.fn.reader
