use Rattle.kz_laws_machine.proofs.Growth.{batch_shape, append_appends, plain_lengthens, read_view_at_end}
use Rattle.kz_laws_machine.proofs.Ends.{end_is_batch_end, batch_end_within}
use Rattle.kz_laws_machine.proofs.trees.log_keeps.Goals as goal

pub returns-clause-batch : goal.returns-clause-batch
returns-clause-batch c = batch_shape

pub returns-clause-append : goal.returns-clause-append
returns-clause-append c = λ l new epoch now items shape high some is. (append_appends l epoch now items new is high some shape).shape

pub returns-clause-end : goal.returns-clause-end
returns-clause-end c = λ l shape. (end_is_batch_end l, λ at e. batch_end_within l at shape e)

pub returns-clause-longer : goal.returns-clause-longer
returns-clause-longer c = plain_lengthens

pub returns-clause-view : goal.returns-clause-view
returns-clause-view c = read_view_at_end
