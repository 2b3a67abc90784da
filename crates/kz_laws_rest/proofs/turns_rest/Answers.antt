use Rattle.kz_laws_rest.proofs.Told.{closed_told}
use Rattle.kz_laws_rest.proofs.Rest.{rests_in_step, stays_in_step, rest_is_told}
use Rattle.kz_laws_rest.proofs.turns_rest.Goals as goal

pub returns-clause-turn : goal.returns-clause-turn
returns-clause-turn c = rests_in_step

pub returns-clause-run : goal.returns-clause-run
returns-clause-run c = stays_in_step

pub returns-clause-closed : goal.returns-clause-closed
returns-clause-closed c = closed_told

pub returns-clause-told : goal.returns-clause-told
returns-clause-told c = rest_is_told
