-- A driver as the code holds it, as the definitions have it.
use Rattle.std.specs.Prelude.{◌≡◌}
use Rattle.kz_types.specs.declared.driver.Stage.{Stage}
use Rattle.kz_types.specs.declared.driver.Stage.TheVariants as stage
use Rattle.kz_spec_machine.specs.Driver.{Driver}
use Rattle.kz_stages.specs.declared.row.Stage.{Stage as HeldStage}
use Rattle.kz_stages.specs.declared.row.Stage.TheVariants as held
use Rattle.kz_stages.specs.declared.row.DriverRow.{DriverRow}

abbrev pub stage_of : HeldStage → Stage
stage_of held.Uninitialized = stage.Uninitialized
stage_of held.Inactive = stage.Inactive
stage_of held.WaitForControllerQuorum = stage.WaitForControllerQuorum
stage_of held.WaitForBrokers = stage.WaitForBrokers
stage_of held.ListBrokers = stage.ListBrokers
stage_of held.ReadControlZnodes = stage.ReadControlZnodes
stage_of (held.ClaimLeadership seen) = stage.ClaimLeadership seen
stage_of (held.ScanForMigration rows) = stage.ScanForMigration rows
stage_of (held.BeginMigration rows) = stage.BeginMigration rows
stage_of (held.AppendRecords records) = stage.AppendRecords records
stage_of held.ReadLogForResync = stage.ReadLogForResync
stage_of (held.ScanForResync target rows) = stage.ScanForResync target rows
stage_of (held.WriteResync r) = stage.WriteResync r.target r.ops
stage_of held.KraftControllerToBrokerComm = stage.KraftControllerToBrokerComm
stage_of held.DualWrite = stage.DualWrite
stage_of (held.WriteDelta r) = stage.WriteDelta r.target r.ops

abbrev pub driver_of : DriverRow → Driver
driver_of r = record { id = r.id; epoch = r.epoch; claim = r.claim; stage = stage_of r.stage; view = r.view; recorded = r.recorded }

-- the driver of the same controller, which knows the same of the metadata
abbrev pub KnowsSame : DriverRow → DriverRow → Type 0
KnowsSame new old = (new.id ≡ old.id) × (new.view ≡ old.view)
