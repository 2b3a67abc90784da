use Rattle.std.proofs.Common.{◌≡◌, ◌-◌, ◌*◌, ◌^◌, ◌≤◌}
use Rattle.kz_spec_data.specs.Transactions.{digits_at}
use Rattle.kz_txn.proofs.fields.within.Given as goal

abbrev pub invariant-loop-i : goal.invariant-loop-i
invariant-loop-i l = record {
  read : digits_at (l.size - l.i) l.number l.least l.most l.reader.at l.reader.left ≡ digits_at l.size 0 l.least l.most l.fn.reader.at l.fn.reader.left;
  room : l.number * 256 ^ (l.size - l.i) ≤ l.most;
  end : l.size - l.i ≡ 0 → l.least ≤ l.number;
}
