use Rattle.std.proofs.Common.{arith}
use Rattle.kz_txn.proofs.Appends.{sessions_length}
use Rattle.kz_txn.proofs.size.sessions_size.Goals as goal

pub returns-clause-size : goal.returns-clause-size
returns-clause-size c = let n = sessions_length c.args.items.now in omega (arith, n)
