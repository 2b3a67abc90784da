use Rattle.kz_laws_events.proofs.EventCases.{open_sound, expire_sound, client_sound}
use Rattle.kz_laws_events.proofs.steps.clients_keep_sound.Goals as goal

pub returns-clause-session : goal.returns-clause-session
returns-clause-session c = λ w session range sound. (open_sound w session range sound, expire_sound w session sound)

pub returns-clause-held : goal.returns-clause-held
returns-clause-held c = client_sound
