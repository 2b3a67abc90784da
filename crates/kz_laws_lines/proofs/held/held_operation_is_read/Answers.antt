use Rattle.kz_laws_lines.proofs.Read.{op_is_read}
use Rattle.kz_laws_lines.proofs.held.held_operation_is_read.Goals as goal

pub returns : goal.returns
returns c = op_is_read c.args.o.now c.operation.ensures
