use Rattle.std.proofs.Common.{arith}
use Rattle.kz_tree_store.proofs.Written.{written_for}
use Rattle.kz_tree_store.proofs.payload.txn_bytes.Goals as goal

pub write_txn-requires : goal.write_txn-requires
write_txn-requires c = c.requires (omega (arith, c.txn_size-size.ensures))

pub returns : goal.returns
returns c = written_for c.args.txn.now c.in_ok-payload-2.payload.items c.in_ok-payload-2.ensures (c.requires (omega (arith, c.txn_size-size.ensures))) c.written_is_read.ensures
