-- Events of a controller that another one has taken over from.
use Rattle.std.specs.Prelude.{◌≢◌, Option, Some, None}
use Rattle.kz_types.specs.declared.machine.Event.{Event}
use Rattle.kz_types.specs.declared.machine.Event.TheVariants as event
use Rattle.kz_types.specs.declared.machine.Answer.{Answer}
use Rattle.kz_types.specs.declared.machine.Answer.TheVariants as answer
use Rattle.kz_spec_machine.specs.Driver.{Shared, Driver}
use Rattle.kz_spec_machine.specs.Machine.{World, driver_of, leader_refusal}
use Rattle.kz_spec_machine.specs.Sound.{IsBelowShown, shown_in}
use Rattle.kz_laws_machine.specs.Fence.{IsOfFence}

-- the epoch of a driver that runs is below the one that `/controller` shows
abbrev pub IsFencedDriver : Shared → Option Driver → Type 0
IsFencedDriver s None = ⊥
IsFencedDriver s (Some d) = IsBelowShown (shown_in s.tree) d.epoch

-- A step or a turn of a fenced driver, or a change, a registration or a finalisation by a controller that doesn't lead the log.
abbrev pub IsOfFenced : World → Event → Type 0
IsOfFenced w (event.Step id now p) = IsFencedDriver w.shared (driver_of id w.drivers)
IsOfFenced w (event.Turn id now) = IsFencedDriver w.shared (driver_of id w.drivers)
IsOfFenced w (event.Change id records now) = leader_refusal w id ≢ None
IsOfFenced w (event.Register id broker migrating now) = leader_refusal w id ≢ None
IsOfFenced w (event.Finalise id now) = leader_refusal w id ≢ None
IsOfFenced w e = ⊥

-- a step by whose reply its driver learns that another controller has taken over
abbrev pub TellsFence : Answer → Type 0
TellsFence (answer.Step r) = IsOfFence r
TellsFence a = ⊥
