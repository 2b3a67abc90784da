use Rattle.kz_txn.proofs.ReadBack.{read_back}
use Rattle.kz_txn.proofs.laws.written_is_read.Goals as goal

pub returns : goal.returns
returns c = read_back
