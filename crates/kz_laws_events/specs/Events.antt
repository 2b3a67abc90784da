-- Every event keeps a world sound, and so does every run.
use Rattle.std.specs.Prelude.{◌≡◌, ℕ, ◌≤◌, ℤ, Bool, List, length, None, All}
use Rattle.kz_types.specs.declared.tree.Op.{Op}
use Rattle.kz_types.specs.declared.machine.Event.{Event}
use Rattle.kz_types.specs.declared.machine.Event.TheVariants as event
use Rattle.kz_types.specs.declared.plan.Plan.{Plan}
use Rattle.kz_types.specs.declared.record.MetaRecord.{MetaRecord}
use Rattle.kz_spec_machine.specs.Driver.{Shared, Driver}
use Rattle.kz_spec_machine.specs.Machine.{World, empty_world, turn, rollback_refusal, reset_world, next, after_events}
use Rattle.kz_spec_machine.specs.Sound.{IsTime, IsSharedSound, IsSoundDriver, IsBelowShown, shown_in, Sound, IsLawfulOp, IsLawful}
use Rattle.kz_laws_events.specs.Steps.{StepKeeps}

-- A turn keeps what is shared sound, and all that is true of its driver and of each other one.
abbrev pub TurnsKeep : Type 0
TurnsKeep = (n : ℕ) (s : Shared) (running : List ℤ) (now : ℤ) (d : Driver) → IsTime now → IsSharedSound s → IsSoundDriver s d → StepKeeps s d (turn n s running now d).shared (turn n s running now d).driver

-- No turn of a driver whose epoch is below the shown one changes what is shared.
abbrev pub FencedTurnsLeave : Type 0
FencedTurnsLeave = (n : ℕ) (s : Shared) (running : List ℤ) (now : ℤ) (d : Driver) → IsTime now → IsSharedSound s → IsSoundDriver s d → IsBelowShown (shown_in s.tree) d.epoch → (turn n s running now d).shared ≡ s

-- A step keeps a world sound, under every plan.
abbrev pub StepsKeepSound : Type 0
StepsKeepSound = (w : World) (id now : ℤ) (p : Plan) → IsTime now → Sound w → Sound (next w (event.Step id now p)).0

-- So does an election.
abbrev pub ElectionsKeepSound : Type 0
ElectionsKeepSound = (w : World) (id now : ℤ) → Sound w → Sound (next w (event.Elect id now)).0

-- So does a change of the metadata.
abbrev pub ChangesKeepSound : Type 0
ChangesKeepSound = (w : World) (id now : ℤ) (records : List MetaRecord) → 1 ≤ length records → Sound w → Sound (next w (event.Change id records now)).0

-- So does the registration of a broker.
abbrev pub RegistrationsKeepSound : Type 0
RegistrationsKeepSound = (w : World) (id broker : ℤ) (migrating : Bool) (now : ℤ) → Sound w → Sound (next w (event.Register id broker migrating now)).0

-- So does a client's multi, whether a KRaft controller holds the tree or none does.
abbrev pub ClientsKeepSound : Type 0
ClientsKeepSound = (w : World) (ops : List Op) → All IsLawfulOp ops → Sound w → Sound (next w (event.Zk ops)).0

-- So does a finalisation.
abbrev pub FinalisationsKeepSound : Type 0
FinalisationsKeepSound = (w : World) (id now : ℤ) → Sound w → Sound (next w (event.Finalise id now)).0

-- So does a rollback, also one that stops before it has given the tree back.
abbrev pub RollbacksKeepSound : Type 0
RollbacksKeepSound = (w : World) → Sound w → Sound (next w event.Rollback).0 × (rollback_refusal w ≡ None → Sound (reset_world w))

-- So does each event that a line of a script gives.
abbrev pub EventsKeepSound : Type 0
EventsKeepSound = (w : World) (e : Event) → IsLawful e → Sound w → Sound (next w e).0

-- The empty world is sound.
abbrev pub EmptyIsSound : Type 0
EmptyIsSound = Sound empty_world

-- A run of such events keeps a world sound.
abbrev pub RunsKeepSound : Type 0
RunsKeepSound = (es : List Event) (w : World) → All IsLawful es → Sound w → Sound (after_events w es)
