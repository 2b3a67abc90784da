use Rattle.kz_laws_bounds.proofs.Worlds.{turn_ends, more_are_none, run_turn_ends, run_turn_told}
use Rattle.kz_laws_bounds.proofs.turns_end.Goals as goal

pub returns-clause-ends : goal.returns-clause-ends
returns-clause-ends c = turn_ends

pub returns-clause-same : goal.returns-clause-same
returns-clause-same c = more_are_none

pub returns-clause-run : goal.returns-clause-run
returns-clause-run c = run_turn_ends

pub returns-clause-told : goal.returns-clause-told
returns-clause-told c = run_turn_told
