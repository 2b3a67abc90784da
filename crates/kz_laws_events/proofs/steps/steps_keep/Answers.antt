use Rattle.kz_laws_events.proofs.Stepped.{step_keeps}
use Rattle.kz_laws_events.proofs.steps.steps_keep.Goals as goal

pub returns : goal.returns
returns c = step_keeps
