-- Every event.
use Rattle.kz_types.specs.declared.machine.Event.{Event}
use Rattle.kz_types.specs.declared.machine.Event.TheVariants as event
use Rattle.kz_spec_machine.specs.Machine.{World, next}
use Rattle.kz_spec_machine.specs.Sound.{Sound, IsLawful}
use Rattle.kz_laws_events.proofs.Worlds.{quorum_sound, stop_sound}
use Rattle.kz_laws_events.proofs.EventCases.{start_sound, open_sound, expire_sound}
use Rattle.kz_laws_events.proofs.Changed.{change_sound, registration_sound}
use Rattle.kz_laws_events.proofs.Elections.{election_sound}
use Rattle.kz_laws_events.proofs.Turned.{step_event, turn_event}
use Rattle.kz_laws_events.proofs.Unheld.{clients_sound}
use Rattle.kz_laws_events.proofs.Exits.{finalise_sound, rollback_sound}
use Rattle.kz_laws_events.proofs.Snapshots.{snapshot_sound}

check_sound : (w : World) → Sound w → Sound (next w event.Check).0
unfolding next
check_sound w sound = sound

pub event_sound : (w : World) (e : Event) → IsLawful e → Sound w → Sound (next w e).0
event_sound w (event.Quorum ids) lawful sound = quorum_sound w ids sound
event_sound w (event.Start id) lawful sound = start_sound w id lawful sound
event_sound w (event.Stop controller) lawful sound = stop_sound w controller sound
event_sound w (event.Elect id now) lawful sound = election_sound w id now sound
event_sound w (event.Step id now p) lawful sound = step_event w id now p lawful.1 sound
event_sound w (event.Turn id now) lawful sound = turn_event w id now lawful.1 sound
event_sound w (event.Change id records now) lawful sound = change_sound w id now records lawful.2 sound
event_sound w (event.Register id broker migrating now) lawful sound = registration_sound w id broker migrating now sound
event_sound w (event.Finalise id now) lawful sound = finalise_sound w id now sound
event_sound w event.Rollback lawful sound = rollback_sound w sound
event_sound w event.Snapshot lawful sound = snapshot_sound w sound
event_sound w event.Check lawful sound = check_sound w sound
event_sound w (event.ZkOpen session) lawful sound = open_sound w session lawful sound
event_sound w (event.ZkExpire session) lawful sound = expire_sound w session sound
event_sound w (event.Zk ops) lawful sound = clients_sound w ops lawful.0 sound
