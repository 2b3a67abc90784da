-- A driver as the code holds it.
use Rattle.std.specs.Prelude.{Bool, true, false, ℤ, pos, ◌≤ℤ◌, ⊤, List, Option, Some, None}
use Rattle.kz_types.specs.declared.driver.Stage.{Stage}
use Rattle.kz_types.specs.declared.driver.Stage.TheVariants as stage
use Rattle.kz_types.specs.Order.{bytes_cmp}
use Rattle.kz_types.specs.Ordered.{Rises}
use Rattle.kz_spec_data.specs.Tree.{Tree, path_of_row}
use Rattle.kz_spec_data.specs.Log.{Log, View}
use Rattle.kz_types.specs.declared.machine.DriverState.TheVariants as state
use Rattle.kz_types.specs.declared.machine.Reply.{Reply}
use Rattle.kz_types.specs.declared.machine.Reply.TheVariants as reply
use Rattle.kz_spec_machine.specs.Driver.{Shared, Driver, at_stage}
use Rattle.kz_stages.specs.Checks.{StageCanClaim}

-- what all drivers share
abbrev pub shared_of : Tree → Log → List ℤ → Shared
shared_of t l ids = record { tree = t; log = l; declared = ids }

-- an epoch of at least 1
abbrev pub IsElected : Option ℤ → Type 0
IsElected None = ⊥
IsElected (Some e) = pos 1 ≤ℤ e

-- an epoch of at least 1, where there is one
abbrev pub IsElectedOrNone : Option ℤ → Type 0
IsElectedOrNone None = ⊤
IsElectedOrNone (Some e) = pos 1 ≤ℤ e

-- a driver that does anything was elected and hasn't resigned
abbrev pub HasEpoch : Option ℤ → Stage → Type 0
HasEpoch epoch stage.Uninitialized = IsElectedOrNone epoch
HasEpoch epoch stage.Inactive = IsElectedOrNone epoch
HasEpoch epoch s = IsElected epoch

-- the znodes of the migrated area that a driver has read rise by path
abbrev pub HasRisen : Stage → Type 0
HasRisen (stage.ScanForMigration rows) = Rises bytes_cmp path_of_row rows
HasRisen (stage.BeginMigration rows) = Rises bytes_cmp path_of_row rows
HasRisen (stage.ScanForResync target rows) = Rises bytes_cmp path_of_row rows
HasRisen s = ⊤

-- whether a driver at this stage asks the tree
abbrev pub asks_tree : Stage → Bool
asks_tree stage.ListBrokers = true
asks_tree stage.ReadControlZnodes = true
asks_tree (stage.ClaimLeadership seen) = true
asks_tree (stage.ScanForMigration rows) = true
asks_tree (stage.ScanForResync target rows) = true
asks_tree (stage.WriteResync target ops) = true
asks_tree (stage.WriteDelta target ops) = true
asks_tree s = false

-- what a driver with this epoch and this view holds at a stage
pub record IsKept (epoch : Option ℤ) (view : View) (s : Stage) : Type 0 where
  pub elected : HasEpoch epoch s
  pub can_claim : StageCanClaim epoch view s
  pub risen : HasRisen s

-- the driver after UNINITIALIZED
abbrev pub after_uninitialized : Driver → Driver × Reply
after_uninitialized d = (at_stage stage.Inactive d, reply.Moved state.Inactive)

-- the driver after KRAFT_CONTROLLER_TO_BROKER_COMM
abbrev pub after_broker_comm : Driver → Driver × Reply
after_broker_comm d = (at_stage stage.DualWrite d, reply.Moved state.DualWrite)
