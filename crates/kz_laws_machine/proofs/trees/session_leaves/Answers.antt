use Rattle.kz_laws_machine.proofs.Sessions.{begin_leaves, end_leaves}
use Rattle.kz_laws_machine.proofs.trees.session_leaves.Goals as goal

pub returns-clause-begin : goal.returns-clause-begin
returns-clause-begin c = begin_leaves

pub returns-clause-end : goal.returns-clause-end
returns-clause-end c = end_leaves
