use Rattle.kz_laws_values.proofs.Fronts.{front_goes_on, front_ends}
use Rattle.kz_laws_values.proofs.files.fronts_stay.Goals as goal

pub returns-clause-goes_on : goal.returns-clause-goes_on
returns-clause-goes_on c = front_goes_on

pub returns-clause-ends : goal.returns-clause-ends
returns-clause-ends c = front_ends
