use Rattle.kz_laws_scripts.proofs.Lawful.{script_lawful}
use Rattle.kz_laws_scripts.proofs.Scripts.{script_sound, script_in_step}
use Rattle.kz_laws_scripts.proofs.scripts_stay_in_step.Goals as goal

pub returns-clause-lawful : goal.returns-clause-lawful
returns-clause-lawful c = script_lawful

pub returns-clause-sound : goal.returns-clause-sound
returns-clause-sound c = script_sound

pub returns-clause-step : goal.returns-clause-step
returns-clause-step c = script_in_step
