-- Which replies tell of a failure.
use Rattle.std.proofs.Common.{◌≡◌, Bool, true, false, Result, Ok, Err, if◌then◌else◌, refl}
use Rattle.kz_types.specs.declared.fault.TreeFault.{TreeFault}
use Rattle.kz_types.specs.declared.fault.LogFault.{LogFault}
use Rattle.kz_types.specs.declared.machine.Reply.{Reply}
use Rattle.kz_types.specs.declared.machine.Reply.TheVariants as reply
use Rattle.kz_spec_machine.specs.Machine.{ends}
use Rattle.kz_spec_machine.specs.Failures.{is_tree_failure, is_log_failure, is_failed_step}
use Rattle.kz_requests.specs.declared.fault.StepFault.{StepFault}
use Rattle.kz_requests.specs.declared.fault.StepFault.TheVariants as step_fault
use Rattle.kz_driver.specs.Steps.{outcome_of, OnMachine, OnFailure}

-- A request that is lost isn't a failure.
abbrev pub is_failed_outcome : Result Reply StepFault → Bool
is_failed_outcome (Ok told) = false
is_failed_outcome (Err step_fault.Lost) = false
is_failed_outcome (Err step_fault.Expired) = false
is_failed_outcome (Err fault) = true

tree_outcome : (b : Bool) (f : TreeFault) → is_failed_outcome (if b then Err (step_fault.Tree f) else Ok (reply.TreeFailed f)) ≡ b
tree_outcome true f = refl
tree_outcome false f = refl

log_outcome : (b : Bool) (f : LogFault) → is_failed_outcome (if b then Err (step_fault.Log f) else Ok (reply.LogFailed f)) ≡ b
log_outcome true f = refl
log_outcome false f = refl

-- a reply tells of a failure where its outcome is one
pub failed_by_outcome : (r : Reply) → is_failed_outcome (outcome_of r) ≡ is_failed_step r
failed_by_outcome (reply.TreeFailed f) = tree_outcome (is_tree_failure f) f
failed_by_outcome (reply.LogFailed f) = log_outcome (is_log_failure f) f
failed_by_outcome r = refl

-- what a step says of an outcome that is no failure
pub on_machine : (outcome : Result Reply StepFault) (holds : Type 0) → is_failed_outcome outcome ≡ false → OnMachine outcome holds → holds
on_machine (Ok told) holds is h = h
on_machine (Err step_fault.Lost) holds is h = h
on_machine (Err step_fault.Expired) holds is h = h
on_machine (Err fault) holds is h = absurd (cc)

-- and of one that is
pub on_failure : (outcome : Result Reply StepFault) (holds : Type 0) → is_failed_outcome outcome ≡ true → OnFailure outcome holds → holds
on_failure (Ok told) holds is h = absurd (cc)
on_failure (Err step_fault.Lost) holds is h = absurd (cc)
on_failure (Err step_fault.Expired) holds is h = absurd (cc)
on_failure (Err (step_fault.Tree f)) holds is h = h
on_failure (Err (step_fault.Log f)) holds is h = h
on_failure (Err step_fault.NoMemory) holds is h = h

-- a failure ends a turn
pub goes_on : (r : Reply) → ends r ≡ false → is_failed_step r ≡ false
goes_on (reply.TreeFailed f) on = absurd (cc)
goes_on (reply.LogFailed f) on = absurd (cc)
goes_on reply.NoMemory on = absurd (cc)
goes_on r on = refl
