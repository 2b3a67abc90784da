-- A turn ends by itself.
use Rattle.std.specs.Prelude.{◌≡◌, ◌≢◌, ◌≤◌, ℕ, ℤ, true, List, Some, None, option_map}
use Rattle.kz_types.specs.declared.machine.Reply.{Reply}
use Rattle.kz_spec_machine.specs.Driver.{Shared, Driver}
use Rattle.kz_spec_machine.specs.Machine.{World, running_ids, driver_of, running_refusal, ends, turn, work}
use Rattle.kz_spec_machine.specs.Sound.{IsTime, HasBases, BasesAtStage, Sound, Based}
use Rattle.kz_spec_machine.specs.InStep.{last_reply}
use Rattle.kz_laws_commits.specs.Commits.{Copies}

-- The last of these replies ends a turn.
abbrev pub EndsByItself : List Reply → Type 0
EndsByItself replies = option_map ends (last_reply replies) ≡ Some true

-- What a based world says of one driver: where it has a claim, the base znodes stand; and those that it saw at its look still
-- stand, if it saw what is there.
pub record IsBasedDriver (s : Shared) (d : Driver) : Type 0 where
  pub claimed : d.claim ≢ None → HasBases s.tree
  pub looked : BasesAtStage s.tree d.stage

-- A turn in a sound and based world ends by itself, within the steps that it may have. What its driver has appended of a migration,
-- and what it has still to append, is the translation of the migrated area.
abbrev pub TurnsEnd : Type 0
TurnsEnd = (w : World) (id now : ℤ) (d : Driver) → IsTime now → Sound w → Based w → Copies w.shared d → running_refusal w id ≡ None → driver_of id w.drivers ≡ Some d
    → EndsByItself (turn (work w.shared d) w.shared (running_ids w.drivers) now d).replies

-- So more steps make no difference.
abbrev pub MoreStepsAreNone : Type 0
MoreStepsAreNone = (w : World) (id now : ℤ) (d : Driver) (n : ℕ) → IsTime now → Sound w → Based w → Copies w.shared d → running_refusal w id ≡ None → driver_of id w.drivers ≡ Some d
    → work w.shared d ≤ n → turn n w.shared (running_ids w.drivers) now d ≡ turn (work w.shared d) w.shared (running_ids w.drivers) now d
