use Rattle.kz_laws_values.proofs.Ranges.{state_in_range}
use Rattle.kz_laws_values.proofs.States.{state_is_read}
use Rattle.kz_laws_values.proofs.bodies.state_is_read.Goals as goal

pub returns-clause-read : goal.returns-clause-read
returns-clause-read c = state_is_read

pub returns-clause-only : goal.returns-clause-only
returns-clause-only c = state_in_range
