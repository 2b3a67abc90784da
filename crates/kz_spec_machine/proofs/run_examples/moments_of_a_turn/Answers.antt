use Rattle.std.proofs.Common.{refl}
use Rattle.kz_spec_machine.proofs.RunsOnLiterals.{runs_on_literals}
use Rattle.kz_spec_machine.proofs.run_examples.moments_of_a_turn.Goals as goal

pub returns : goal.returns
unfolding runs_on_literals
returns c = refl
