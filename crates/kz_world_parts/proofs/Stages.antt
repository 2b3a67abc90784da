-- What may remain to be written, by what a driver tells of its stage.
use Rattle.std.proofs.Common.{◌≡◌, [], ◌∷◌, refl}
use Rattle.kz_types.specs.declared.driver.Stage.{Stage}
use Rattle.kz_types.specs.declared.driver.Stage.TheVariants as stage
use Rattle.kz_spec_data.specs.Log.{Log}
use Rattle.kz_spec_machine.specs.Driver.{state_of}
use Rattle.kz_spec_machine.specs.Machine.{remaining_amount}
use Rattle.kz_driver.specs.Steps.{target_offset, remaining_ops}
use Rattle.kz_world_parts.specs.Amounts.{remaining_by}

pub remaining_told : (l : Log) (s : Stage) → remaining_by l (state_of s) (target_offset s) (remaining_ops s) ≡ remaining_amount l s
remaining_told l stage.Uninitialized = refl
remaining_told l stage.Inactive = refl
remaining_told l stage.WaitForControllerQuorum = refl
remaining_told l stage.WaitForBrokers = refl
remaining_told l stage.ListBrokers = refl
remaining_told l stage.ReadControlZnodes = refl
remaining_told l (stage.ClaimLeadership seen) = refl
remaining_told l (stage.ScanForMigration rows) = refl
remaining_told l (stage.BeginMigration rows) = refl
remaining_told l (stage.AppendRecords records) = refl
remaining_told l stage.ReadLogForResync = refl
remaining_told l (stage.ScanForResync target rows) = refl
remaining_told l (stage.WriteResync target []) = refl
remaining_told l (stage.WriteResync target (o ∷ os)) = refl
remaining_told l stage.KraftControllerToBrokerComm = refl
remaining_told l stage.DualWrite = refl
remaining_told l (stage.WriteDelta target ops) = refl
