use Rattle.kz_laws_events.proofs.Heard.{reading_step}
use Rattle.kz_laws_events.proofs.Unheard.{unheard_step}
use Rattle.kz_laws_events.proofs.steps.reading_keeps.Goals as goal

pub returns-clause-heard : goal.returns-clause-heard
returns-clause-heard c = reading_step

pub returns-clause-unheard : goal.returns-clause-unheard
returns-clause-unheard c = unheard_step
