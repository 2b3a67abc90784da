-- After a migration is finalised no controller writes to ZooKeeper.
use Rattle.std.specs.Prelude.{◌≡◌, ◌≢◌, ◌⊎◌, ⊤, ℤ, ◌<ℤ◌, true, List, Option, Some, None, All}
use Rattle.kz_types.specs.declared.driver.Stage.{Stage}
use Rattle.kz_types.specs.declared.driver.Stage.TheVariants as stage
use Rattle.kz_types.specs.declared.machine.Answer.TheVariants as answer
use Rattle.kz_types.specs.declared.machine.Event.{Event}
use Rattle.kz_types.specs.declared.machine.Event.TheVariants as event
use Rattle.kz_types.specs.declared.machine.Recorded.{Recorded}
use Rattle.kz_types.specs.declared.plan.Plan.{Plan}
use Rattle.kz_spec_data.specs.Tree.{Tree, migration_record, unclosed_path}
use Rattle.kz_spec_machine.specs.Driver.{Shared, Driver, planned_step}
use Rattle.kz_spec_machine.specs.Machine.{World, empty_world, is_finalised_log, next, after_events}
use Rattle.kz_spec_machine.specs.Sound.{IsTime, IsCurrent, IsBelowShown, shown_in, IsSharedSound, IsSoundDriver, Each, Sound, IsLawful}
use Rattle.kz_laws_events.specs.Steps.{IsApartFrom}

-- ---- what a driver does on a log whose migration is finalised

-- A driver that was elected hasn't looked at the log yet, or rests in dual write under a claim that is current, or another
-- controller of a higher epoch holds the tree.
abbrev pub RestsAtStage : Tree → Driver → Stage → Type 0
RestsAtStage t d stage.WaitForControllerQuorum = ⊤
RestsAtStage t d stage.DualWrite = IsCurrent t d.claim ⊎ IsBelowShown (shown_in t) d.epoch
RestsAtStage t d s = IsBelowShown (shown_in t) d.epoch

-- A current driver that writes in dual write will record a later offset than the tree records.
abbrev pub IsAhead : Tree → Option ℤ → Stage → Type 0
IsAhead t claim (stage.WriteDelta target ops) = IsCurrent t claim → (r : Recorded) → migration_record t ≡ Some r → r.offset <ℤ target.offset
IsAhead t claim s = ⊤

pub record HasEnded (s : Shared) (d : Driver) : Type 0 where
  pub rests : is_finalised_log s.log ≡ true → d.epoch ≢ None → RestsAtStage s.tree d d.stage
  pub ahead : IsAhead s.tree d.claim d.stage

-- On such a log the tree is closed, and so an offset is recorded.
abbrev pub IsClosedAtEnd : Shared → Type 0
IsClosedAtEnd s = is_finalised_log s.log ≡ true → unclosed_path s.tree ≡ None

-- a world in which all of this is so
pub record EndHolds (w : World) : Type 0 where
  pub closed : IsClosedAtEnd w.shared
  pub each : Each (HasEnded w.shared) w.drivers

-- ---- laws

-- What a step leaves of it: of what is shared, of its own driver, and of each other one.
pub record StepEnds (s : Shared) (d : Driver) (new : Shared) (after : Driver) : Type 0 where
  pub closed : IsClosedAtEnd s → IsClosedAtEnd new
  pub driver : HasEnded new after
  pub others : (f : Driver) → IsApartFrom d f → IsSoundDriver s f → HasEnded s f → HasEnded new f

-- Every step keeps it, under every plan.
abbrev pub StepsKeepEnd : Type 0
StepsKeepEnd = (p : Plan) (s : Shared) (running : List ℤ) (now : ℤ) (d : Driver) → IsTime now → IsSharedSound s → IsSoundDriver s d → HasEnded s d → StepEnds s d (planned_step p s running now d).shared (planned_step p s running now d).driver

-- On a log whose migration is finalised no driver's step changes the tree or the log, under any plan.
abbrev pub FinalStepsLeave : Type 0
FinalStepsLeave = (p : Plan) (s : Shared) (running : List ℤ) (now : ℤ) (d : Driver) → IsSoundDriver s d → HasEnded s d → is_finalised_log s.log ≡ true → (planned_step p s running now d).shared ≡ s

-- No rollback takes such a migration back.
abbrev pub FinalRollbacksRefuse : Type 0
FinalRollbacksRefuse = (w : World) → is_finalised_log w.shared.log ≡ true → ((next w event.Rollback).0 ≡ w) × (((next w event.Rollback).1 ≡ answer.Finalised) ⊎ ((id : ℤ) × ((next w event.Rollback).1 ≡ answer.Running id)))

-- Every event keeps it in a sound world.
abbrev pub EventsKeepEnd : Type 0
EventsKeepEnd = (w : World) (e : Event) → IsLawful e → Sound w → EndHolds w → EndHolds (next w e).0

-- So does every run.
abbrev pub RunsKeepEnd : Type 0
RunsKeepEnd = (es : List Event) (w : World) → All IsLawful es → Sound w → EndHolds w → EndHolds (after_events w es)

-- It holds in the empty world, and so after every run from there.
abbrev pub BeginsWithEnd : Type 0
BeginsWithEnd = EndHolds empty_world

abbrev pub FirstRunsKeepEnd : Type 0
FirstRunsKeepEnd = (es : List Event) → All IsLawful es → EndHolds (after_events empty_world es)

-- A migration that is finalised stays so at every event.
abbrev pub FinalStays : Type 0
FinalStays = (w : World) (e : Event) → IsLawful e → Sound w → EndHolds w → is_finalised_log w.shared.log ≡ true → is_finalised_log (next w e).0.shared.log ≡ true

-- So it does through every run.
abbrev pub FinalRunsStay : Type 0
FinalRunsStay = (w : World) (es : List Event) → All IsLawful es → Sound w → EndHolds w → is_finalised_log w.shared.log ≡ true → is_finalised_log (after_events w es).shared.log ≡ true
