use Rattle.kz_laws_events.proofs.Worlds.{step_sound, quorum_sound, stop_sound}
use Rattle.kz_laws_events.proofs.EventCases.{start_sound}
use Rattle.kz_laws_events.proofs.steps.worlds_stay_sound.Goals as goal

pub returns-clause-step : goal.returns-clause-step
returns-clause-step c = step_sound

pub returns-clause-quorum : goal.returns-clause-quorum
returns-clause-quorum c = quorum_sound

pub returns-clause-stop : goal.returns-clause-stop
returns-clause-stop c = stop_sound

pub returns-clause-start : goal.returns-clause-start
returns-clause-start c = start_sound
