use Rattle.kz_laws_events.proofs.Turned.{turn_keeps, step_event}
use Rattle.kz_laws_events.proofs.Elections.{election_sound}
use Rattle.kz_laws_events.proofs.Changed.{change_sound, registration_sound}
use Rattle.kz_laws_events.proofs.Unheld.{clients_sound}
use Rattle.kz_laws_events.proofs.Exits.{finalise_sound, rollback_sound, reset_world_sound}
use Rattle.kz_laws_events.proofs.Every.{event_sound}
use Rattle.kz_laws_events.proofs.events.events_keep_sound.Goals as goal

pub returns-clause-turn : goal.returns-clause-turn
returns-clause-turn c = turn_keeps

pub returns-clause-step : goal.returns-clause-step
returns-clause-step c = step_event

pub returns-clause-election : goal.returns-clause-election
returns-clause-election c = election_sound

pub returns-clause-change : goal.returns-clause-change
returns-clause-change c = change_sound

pub returns-clause-registration : goal.returns-clause-registration
returns-clause-registration c = registration_sound

pub returns-clause-client : goal.returns-clause-client
returns-clause-client c = clients_sound

pub returns-clause-finalisation : goal.returns-clause-finalisation
returns-clause-finalisation c = finalise_sound

pub returns-clause-rollback : goal.returns-clause-rollback
returns-clause-rollback c = λ w sound. (rollback_sound w sound, reset_world_sound w sound)

pub returns-clause-all : goal.returns-clause-all
returns-clause-all c = event_sound
