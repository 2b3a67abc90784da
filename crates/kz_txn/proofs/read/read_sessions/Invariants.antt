use Rattle.std.proofs.Common.{◌≡◌, ◌-◌}
use Rattle.kz_spec_data.specs.Transactions.{sessions_at}
use Rattle.kz_txn.proofs.Loops.{with_front}
use Rattle.kz_txn.proofs.read.read_sessions.Given as goal

abbrev pub invariant-loop-i : goal.invariant-loop-i
invariant-loop-i l = with_front l.items.items (sessions_at (l.count - l.i) l.least l.reader) ≡ sessions_at l.count 1 l.fn.reader
