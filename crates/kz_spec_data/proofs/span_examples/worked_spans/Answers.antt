use Rattle.std.proofs.Common.{refl}
use Rattle.kz_spec_data.proofs.ZnodesOnLiterals.{znodes_on_literals}
use Rattle.kz_spec_data.proofs.span_examples.worked_spans.Goals as goal

pub returns-clause-partition : goal.returns-clause-partition
unfolding znodes_on_literals
returns-clause-partition c = refl

pub returns-clause-client : goal.returns-clause-client
unfolding znodes_on_literals
returns-clause-client c = refl
