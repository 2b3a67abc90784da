use Rattle.kz_txn.proofs.Loops.{more_left}
use Rattle.kz_txn.proofs.read.read_txn.Goals as goal

pub returns-in-Some : goal.returns-in-Some
returns-in-Some c = more_left c.args.bytes.now c.new-reader.result c.read_next.new.reader c.in_ok-txn.txn c.in-Some.field-0 c.next_byte.new.reader.left c.at-at.result c.new-reader.ensures c.in_ok-txn.ensures c.in-Some.ensures.0 c.at-at.ensures
