-- What the appends of a driver leave true, and so every step.
use Rattle.std.specs.Prelude.{◌≡◌, ℤ, List, [], Some, Ok}
use Rattle.kz_types.specs.declared.tree.Row.{Row}
use Rattle.kz_types.specs.declared.driver.Stage.TheVariants as stage
use Rattle.kz_types.specs.declared.plan.Plan.{Plan}
use Rattle.kz_types.specs.declared.record.MetaRecord.{MetaRecord}
use Rattle.kz_spec_data.specs.Log.{Log, append, end_of, commit_of}
use Rattle.kz_spec_machine.specs.Driver.{Shared, Driver, epoch_or_zero, commit_records, planned_step}
use Rattle.kz_spec_machine.specs.Sound.{IsTime, Agreement, IsSharedSound, IsSoundDriver}
use Rattle.kz_laws_events.specs.Steps.{StepKeeps}

-- A step that begins the migration keeps what is shared sound, and all that is true of its driver and of each other one, under
-- every plan.
abbrev pub BeginningStepsKeep : Type 0
BeginningStepsKeep = (p : Plan) (s : Shared) (running : List ℤ) (now : ℤ) (d : Driver) (rows : List Row) → IsSharedSound s → IsSoundDriver s d → d.stage ≡ stage.BeginMigration rows → StepKeeps s d (planned_step p s running now d).shared (planned_step p s running now d).driver

-- So does one that appends the next records of the migration, or its commit.
abbrev pub AppendingStepsKeep : Type 0
AppendingStepsKeep = (p : Plan) (s : Shared) (running : List ℤ) (now : ℤ) (d : Driver) (records : List MetaRecord) → IsSharedSound s → IsSoundDriver s d → d.stage ≡ stage.AppendRecords records → StepKeeps s d (planned_step p s running now d).shared (planned_step p s running now d).driver

-- The commit makes the tree and the log agree, and is the last record of the log.
abbrev pub CommitsAgree : Type 0
CommitsAgree = (s : Shared) (now : ℤ) (d : Driver) (new : Log) → IsSharedSound s → IsSoundDriver s d → d.stage ≡ stage.AppendRecords [] → append s.log (epoch_or_zero d.epoch) now commit_records ≡ Ok new → (commit_of new ≡ Some (end_of new)) × Agreement s.tree new

-- Every step keeps what is shared sound, and all that is true of its driver and of each other one, under every plan.
abbrev pub AllStepsKeep : Type 0
AllStepsKeep = (p : Plan) (s : Shared) (running : List ℤ) (now : ℤ) (d : Driver) → IsTime now → IsSharedSound s → IsSoundDriver s d → StepKeeps s d (planned_step p s running now d).shared (planned_step p s running now d).driver
