use Rattle.kz_laws_events.proofs.StepCases.{all_steps}
use Rattle.kz_laws_events.proofs.appends.all_steps_keep.Goals as goal

pub returns : goal.returns
returns c = all_steps
