-- What the steps of a turn do to the disks below the tree and the log.
use Rattle.std.specs.Prelude.{◌≡◌, ℤ, List, [], ◌∷◌}
use Rattle.kz_types.specs.declared.plan.Plan.{Plan}
use Rattle.kz_types.specs.declared.plan.Plan.TheVariants as plan
use Rattle.kz_types.specs.declared.machine.Reply.{Reply}
use Rattle.kz_spec_machine.specs.Driver.{Shared, Driver, epoch_or_zero, step}
use Rattle.kz_driver.specs.Disks.{Disks, Payloads, RequestDisks}
pub use Rattle.kz_driver.specs.Steps.{made_request, outcome_of}

-- what the one request of a step does to the disks
abbrev pub StepRequestDisks : Plan → Shared → ℤ → Driver → Payloads → Reply → Disks → Disks → Type 0
StepRequestDisks p s now d payloads told old new = RequestDisks s (epoch_or_zero d.epoch) now payloads p (made_request s now d d.stage) (outcome_of told) old new

-- What the steps of a turn do to the disks, one after another, each by its one request. A step may be out of memory at every
-- stage, since its reply takes memory.
abbrev pub TurnDisks : Shared → List ℤ → ℤ → Driver → Payloads → List Reply → Disks → Disks → Type 0
TurnDisks s running now d payloads [] old new = new ≡ old
TurnDisks s running now d payloads (r ∷ rs) old new =
    (mid : Disks)
    × StepRequestDisks plan.Deliver s now d payloads r old mid
    × TurnDisks (step s running now d).shared running now (step s running now d).driver payloads rs mid new
