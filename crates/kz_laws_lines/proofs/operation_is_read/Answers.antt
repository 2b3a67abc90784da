use Rattle.kz_laws_lines.proofs.Read.{op_is_read}
use Rattle.kz_laws_lines.proofs.operation_is_read.Goals as goal

pub returns : goal.returns
returns c = op_is_read
