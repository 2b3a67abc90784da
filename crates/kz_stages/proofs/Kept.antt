-- A driver whose stage asks for an epoch alone holds what it has to hold.
use Rattle.std.proofs.Common.{ℤ, Option, Some, None}
use Rattle.kz_types.specs.declared.driver.Stage.{Stage}
use Rattle.kz_types.specs.declared.driver.Stage.TheVariants as stage
use Rattle.kz_types.specs.declared.machine.Reply.{Reply}
use Rattle.kz_spec_data.specs.Log.{View}
use Rattle.kz_spec_machine.specs.Driver.{Driver, resigned_driver}
use Rattle.kz_stages.specs.Checks.{StageCanClaim}
use Rattle.kz_stages.specs.Drivers.{IsElected, IsElectedOrNone, HasEpoch, HasRisen, IsKept}

-- the driver after a step keeps what it has to hold
abbrev pub Keeps : Driver × Reply → Type 0
Keeps x = IsKept x.0.epoch x.0.view x.0.stage

-- a stage that asks for an epoch alone
abbrev pub IsFree : Option ℤ → View → Stage → Type 0
IsFree e v s = StageCanClaim e v s × HasRisen s

elected_or_none : (e : Option ℤ) → IsElected e → IsElectedOrNone e
elected_or_none None h = tt
elected_or_none (Some e) h = h

elected_at : (e : Option ℤ) (s : Stage) → IsElected e → HasEpoch e s
elected_at e stage.Uninitialized h = elected_or_none e h
elected_at e stage.Inactive h = elected_or_none e h
elected_at e stage.WaitForControllerQuorum h = h
elected_at e stage.WaitForBrokers h = h
elected_at e stage.ListBrokers h = h
elected_at e stage.ReadControlZnodes h = h
elected_at e (stage.ClaimLeadership seen) h = h
elected_at e (stage.ScanForMigration rows) h = h
elected_at e (stage.BeginMigration rows) h = h
elected_at e (stage.AppendRecords records) h = h
elected_at e stage.ReadLogForResync h = h
elected_at e (stage.ScanForResync target rows) h = h
elected_at e (stage.WriteResync target ops) h = h
elected_at e stage.KraftControllerToBrokerComm h = h
elected_at e stage.DualWrite h = h
elected_at e (stage.WriteDelta target ops) h = h

pub free_kept : (e : Option ℤ) (v : View) (s : Stage) → IsElected e → IsFree e v s → IsKept e v s
free_kept e v s h free = record { elected = elected_at e s h; can_claim = free.0; risen = free.1 }

pub resigned_kept : (d : Driver) (told : Reply) → Keeps (resigned_driver d, told)
resigned_kept d told = record { elected = tt; can_claim = tt; risen = tt }
