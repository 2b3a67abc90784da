-- What a step and a turn of a sound driver tell and leave: they end as the definitions say, or a failure cuts them off.
use Rattle.std.specs.Prelude.{◌≡◌, ◌⊎◌, ℕ, true, false, ℤ, List}
use Rattle.std.specs.List.{list_any}
use Rattle.kz_types.specs.declared.plan.Plan.{Plan}
use Rattle.kz_types.specs.declared.machine.Reply.{Reply}
use Rattle.kz_spec_machine.specs.Driver.{Shared, Driver, planned_step}
use Rattle.kz_spec_machine.specs.Machine.{turn}
use Rattle.kz_spec_machine.specs.Failures.{is_failed_step, IsCutOff}

-- A step that doesn't fail is the machine's. One that fails leaves the tree, the log and the driver.
pub record StepEnds (p : Plan) (s : Shared) (running : List ℤ) (now : ℤ) (d : Driver) (told : Reply) (new : Shared) (after : Driver) : Type 0 where
  pub done : is_failed_step told ≡ false → planned_step p s running now d ≡ record { shared = new; driver = after; reply = told }
  pub failed : is_failed_step told ≡ true → (new ≡ s) × (after ≡ d)

-- at most so many steps of a driver
abbrev pub TurnEnds : ℕ → Shared → List ℤ → ℤ → Driver → List Reply → Shared → Driver → Type 0
TurnEnds most s running now d replies shared driver =
    ((turn most s running now d ≡ record { shared = shared; driver = driver; replies = replies }) × (list_any is_failed_step replies ≡ false))
    ⊎ IsCutOff most s running now d replies shared driver
