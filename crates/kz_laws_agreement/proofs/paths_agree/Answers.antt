use Rattle.kz_laws_agreement.proofs.Steps.{step_agrees}
use Rattle.kz_laws_agreement.proofs.paths_agree.Goals as goal

pub returns : goal.returns
returns c = step_agrees
