use Rattle.kz_laws_events.proofs.Runs.{empty_sound, run_sound}
use Rattle.kz_laws_events.proofs.events.runs_keep_sound.Goals as goal

pub returns-clause-empty : goal.returns-clause-empty
returns-clause-empty c = empty_sound

pub returns-clause-run : goal.returns-clause-run
returns-clause-run c = run_sound
