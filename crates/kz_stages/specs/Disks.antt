-- What a step of a driver does to the disks below the tree and the log, and what a stop in it may leave.
use Rattle.std.specs.Prelude.{◌≡◌, ⊤, ℕ, ℤ, Bool, true, false, Option, Result, Ok, Err}
use Rattle.kz_types.specs.declared.plan.Plan.{Plan}
use Rattle.kz_types.specs.declared.driver.Stage.{Stage}
use Rattle.kz_types.specs.declared.driver.Stage.TheVariants as stage
use Rattle.kz_types.specs.declared.fault.TreeFault.TheVariants as tree_fault
use Rattle.kz_types.specs.declared.fault.LogFault.TheVariants as log_fault
use Rattle.kz_spec_data.specs.Tree.{Tree, multi}
use Rattle.kz_spec_data.specs.Log.{Log, append}
use Rattle.kz_spec_data.specs.Requests.{Disk, TreeChange, Multi, LogChange, Append, Done, IsTaken, ChangesDisk, ReadsDisk, Either}
use Rattle.kz_spec_machine.specs.Driver.{Shared, Request, nothing, read_log, list_brokers, look_up, read_page, write, add}
use Rattle.kz_requests.specs.declared.fault.StepFault.{StepFault}
use Rattle.kz_requests.specs.declared.fault.StepFault.TheVariants as step_fault
use Rattle.kz_requests.specs.Disks.{answer_of_made, TreeDisk, LogDisk}

-- the disks below the two stores
pub record Disks : Type 0 where
  pub tree : Disk
  pub log : Disk

abbrev pub disks_of : Disk → Disk → Disks
disks_of tree log = record { tree = tree; log = log }

-- the bytes of the payload of the frame that each store's file gets for a change
pub record Payloads : Type 0 where
  pub tree : Tree → TreeChange → ℕ
  pub log : Log → LogChange → ℕ

abbrev pub payloads_of : (Tree → TreeChange → ℕ) → (Log → LogChange → ℕ) → Payloads
payloads_of tree log = record { tree = tree; log = log }

-- ---- one request

-- no store is asked, so none is lost and none fails
abbrev pub AsksNothing : {A : Type 0} → Result A StepFault → Type 0
AsksNothing (Ok told) = ⊤
AsksNothing (Err step_fault.NoMemory) = ⊤
AsksNothing (Err fault) = ⊥

-- What a request of a driver, which fares by this plan, does to the disks: it is of one store, and the other isn't touched.
abbrev pub RequestDisks : {A : Type 0} → Shared → ℤ → ℤ → Payloads → Plan → Request → Result A StepFault → Disks → Disks → Type 0
RequestDisks s epoch now payloads p nothing result old new = AsksNothing result × (new ≡ old)
RequestDisks s epoch now payloads p read_log result old new = LogDisk ReadsDisk Done p result old.log new.log × (new.tree ≡ old.tree)
RequestDisks s epoch now payloads p list_brokers result old new = TreeDisk ReadsDisk Done p result old.tree new.tree × (new.log ≡ old.log)
RequestDisks s epoch now payloads p look_up result old new = TreeDisk ReadsDisk Done p result old.tree new.tree × (new.log ≡ old.log)
RequestDisks s epoch now payloads p (read_page after) result old new = TreeDisk ReadsDisk Done p result old.tree new.tree × (new.log ≡ old.log)
RequestDisks s epoch now payloads p (write ops) result old new =
    TreeDisk (ChangesDisk (IsTaken (multi s.tree ops)) (payloads.tree s.tree (Multi ops))) (answer_of_made (multi s.tree ops)) p result old.tree new.tree × (new.log ≡ old.log)
RequestDisks s epoch now payloads p (add records) result old new =
    LogDisk (ChangesDisk (IsTaken (append s.log epoch now records)) (payloads.log s.log (Append epoch now records))) (answer_of_made (append s.log epoch now records)) p result old.log new.log × (new.tree ≡ old.tree)

-- ---- a step

-- the stages in which a step takes no memory
abbrev pub takes_nothing : Stage → Bool
takes_nothing stage.Uninitialized = true
takes_nothing stage.Inactive = true
takes_nothing stage.KraftControllerToBrokerComm = true
takes_nothing s = false

abbrev pub IsAnswered : {A : Type 0} → Result A StepFault → Type 0
IsAnswered (Ok told) = ⊤
IsAnswered (Err fault) = ⊥

-- What a stop may leave of the two stores where a disk failed in this step: the value from before it, or the one that the
-- step would have made.
abbrev pub StepLeaves : {A : Type 0} → Result A StepFault → Shared → Shared → (Option Tree → Type 0) → (Option Log → Type 0) → Type 0
StepLeaves (Err (step_fault.Tree tree_fault.Device)) before after tree_left log_left = Either before.tree after.tree tree_left
StepLeaves (Err (step_fault.Log log_fault.Failed)) before after tree_left log_left = Either before.log after.log log_left
StepLeaves result before after tree_left log_left = ⊤
