-- Whether a driver may not know of the migration, where another epoch is shown.
use Rattle.std.proofs.Common.{ℤ, Option}
use Rattle.kz_types.specs.declared.driver.Stage.{Stage}
use Rattle.kz_types.specs.declared.driver.Stage.TheVariants as stage
use Rattle.kz_spec_data.specs.Log.{Log, View}
use Rattle.kz_spec_machine.specs.Sound.{IsBelowShown, MayNotKnow, Views}

pub still_not_know : (shown new epoch : Option ℤ) (x : Stage) → (IsBelowShown shown epoch → IsBelowShown new epoch) → MayNotKnow shown epoch x → MayNotKnow new epoch x
still_not_know shown new epoch stage.Uninitialized below old = below old
still_not_know shown new epoch stage.Inactive below old = below old
still_not_know shown new epoch stage.WaitForControllerQuorum below old = tt
still_not_know shown new epoch stage.WaitForBrokers below old = below old
still_not_know shown new epoch stage.ListBrokers below old = below old
still_not_know shown new epoch stage.ReadControlZnodes below old = below old
still_not_know shown new epoch (stage.ClaimLeadership seen) below old = below old
still_not_know shown new epoch (stage.ScanForMigration rows) below old = below old
still_not_know shown new epoch (stage.BeginMigration rows) below old = below old
still_not_know shown new epoch (stage.AppendRecords records) below old = below old
still_not_know shown new epoch stage.ReadLogForResync below old = tt
still_not_know shown new epoch (stage.ScanForResync target rows) below old = below old
still_not_know shown new epoch (stage.WriteResync target ops) below old = below old
still_not_know shown new epoch stage.KraftControllerToBrokerComm below old = below old
still_not_know shown new epoch stage.DualWrite below old = below old
still_not_know shown new epoch (stage.WriteDelta target ops) below old = below old

-- a driver below the shown epoch may not know of it at any stage
pub fenced_may_not_know : (shown epoch : Option ℤ) (x : Stage) → IsBelowShown shown epoch → MayNotKnow shown epoch x
fenced_may_not_know shown epoch stage.Uninitialized below = below
fenced_may_not_know shown epoch stage.Inactive below = below
fenced_may_not_know shown epoch stage.WaitForControllerQuorum below = tt
fenced_may_not_know shown epoch stage.WaitForBrokers below = below
fenced_may_not_know shown epoch stage.ListBrokers below = below
fenced_may_not_know shown epoch stage.ReadControlZnodes below = below
fenced_may_not_know shown epoch (stage.ClaimLeadership seen) below = below
fenced_may_not_know shown epoch (stage.ScanForMigration rows) below = below
fenced_may_not_know shown epoch (stage.BeginMigration rows) below = below
fenced_may_not_know shown epoch (stage.AppendRecords records) below = below
fenced_may_not_know shown epoch stage.ReadLogForResync below = tt
fenced_may_not_know shown epoch (stage.ScanForResync target rows) below = below
fenced_may_not_know shown epoch (stage.WriteResync target ops) below = below
fenced_may_not_know shown epoch stage.KraftControllerToBrokerComm below = below
fenced_may_not_know shown epoch stage.DualWrite below = below
fenced_may_not_know shown epoch (stage.WriteDelta target ops) below = below

-- what a driver knows of the log, where another epoch is shown
pub views_shown : (l : Log) (shown new epoch : Option ℤ) (x : Stage) (v : View) → (IsBelowShown shown epoch → IsBelowShown new epoch) → Views l shown epoch x v → Views l new epoch x v
views_shown l shown new epoch x v below old = record {
  view = old.view;
  epoch_range = old.epoch_range;
  migrated = old.migrated;
  unknown = λ migrated none some. still_not_know shown new epoch x below (old.unknown migrated none some);
}
