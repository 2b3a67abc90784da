-- What a step and a turn of a driver tell and leave of a world.
use Rattle.std.specs.Prelude.{◌≡◌, ◌⊎◌, true, false, ℤ, List, Some}
use Rattle.std.specs.List.{list_any}
use Rattle.kz_types.specs.declared.plan.Plan.{Plan}
use Rattle.kz_types.specs.declared.machine.Reply.{Reply}
use Rattle.kz_types.specs.declared.machine.Answer.{Answer}
use Rattle.kz_types.specs.declared.machine.Answer.TheVariants as answer
use Rattle.kz_spec_machine.specs.Driver.{Driver}
use Rattle.kz_spec_machine.specs.Machine.{World, running_ids, step_result, turn_result, with_driver, work}
use Rattle.kz_spec_machine.specs.Failures.{is_failed_step, IsCutOff}

-- A step of this driver, whose request fares by this plan, told this reply and left this world.
pub record IsStepped (p : Plan) (w : World) (now : ℤ) (d : Driver) (new : World) (told : Reply) : Type 0 where
  pub done : is_failed_step told ≡ false → step_result w p now (Some d) ≡ (new, answer.Step told)
  pub failed : is_failed_step told ≡ true → new ≡ w

-- a failure cut a turn of this driver off, which left this world
pub record IsTurnCutOff (w : World) (now : ℤ) (d : Driver) (replies : List Reply) (new : World) : Type 0 where
  pub after : Driver
  pub cut_off : IsCutOff (work w.shared d) w.shared (running_ids w.drivers) now d replies new.shared after
  pub drivers : new.drivers ≡ with_driver after w.drivers

-- a turn of this driver answered so, and left this world
abbrev pub IsTurned : World → ℤ → Driver → World → Answer → Type 0
IsTurned w now d new (answer.Turn replies) =
    ((turn_result w now (Some d) ≡ (new, answer.Turn replies)) × (list_any is_failed_step replies ≡ false))
    ⊎ IsTurnCutOff w now d replies new
IsTurned w now d new a = ⊥
