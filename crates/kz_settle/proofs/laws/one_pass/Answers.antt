use Rattle.kz_settle.proofs.Passing.{counted_is_pass}
use Rattle.kz_settle.proofs.laws.one_pass.Goals as goal

pub returns : goal.returns
returns c = counted_is_pass
