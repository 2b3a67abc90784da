-- What loading a tree does with the file of a tree that was just made.
use Rattle.std.specs.Prelude.{◌≡◌, ◌≢◌, ◌⊎◌, ◌<◌, ⊤, ℕ, true, List, length, Some, IfSome, Result, Ok, Err}
use Rattle.std.specs.Io.KnownBytes.{IsAtEnd}
use Rattle.kz_types.specs.declared.fault.TreeFault.{TreeFault}
use Rattle.kz_types.specs.declared.fault.TreeFault.TheVariants as tree_fault
use Rattle.kz_types.specs.declared.limits.Limit.TheVariants as limits
use Rattle.kz_types.specs.Limits.{number_of_limit}
use Rattle.kz_types.specs.declared.limits.TheConstants.{MAX_FILE_BYTES}
use Rattle.kz_types.specs.declared.outside.Status.{Status}
use Rattle.kz_types.specs.declared.outside.Status.TheVariants as status
use Rattle.kz_spec_data.specs.Tree.{Tree, empty_tree}
use Rattle.kz_spec_data.specs.Frames.{Journal, tree_letter, journal_of}
use Rattle.kz_spec_data.specs.TreeFile.{stored_in, tree_of}
use Rattle.kz_spec_machine.specs.Loading.{loaded}
use Rattle.kz_spec_machine.specs.Endings.{EndsAtFailure}
use Rattle.kz_spec_machine.specs.Files.{EndsAtDisk}
use Rattle.kz_spec_machine.specs.Load.{file_with_load}
use Rattle.kz_tree_store.specs.Stores.{is_fresh_file}
use Rattle.kz_tree_store.specs.declared.fault.TreeOpenFault.{TreeOpenFault}
use Rattle.kz_tree_store.specs.declared.fault.TreeOpenFault.TheVariants as open_fault
use Rattle.kz_commands.specs.Outside.{Outside}

-- A tree's file that was just made: it stands for an empty tree, and has no frame but those of a load that hasn't ended.
pub record IsNewTree (file : List ℕ) : Type 0 where
  pub empty : tree_of file ≡ Ok empty_tree
  pub fresh : is_fresh_file (stored_in (journal_of tree_letter file)) ≡ true

-- ---- opening it

-- the status of a load whose tree's file isn't opened
abbrev pub status_of_open_fault : TreeOpenFault → Status
status_of_open_fault open_fault.DiskFault = status.TreeFault
status_of_open_fault (open_fault.Damaged at) = status.TreeDamaged at
status_of_open_fault open_fault.NoMemory = status.NoMemory

-- What is left of a new file that isn't opened: it stands for an empty tree, unless its disk failed. It isn't refused.
abbrev pub LeavesNewTree : List ℕ → Status → Type 0
LeavesNewTree new status.TreeFault = ⊤
LeavesNewTree new status.NoMemory = tree_of new ≡ Ok empty_tree
LeavesNewTree new s = ⊥

-- the statuses of a file that isn't opened
abbrev pub IsUnopenedStatus : Status → Type 0
IsUnopenedStatus status.TreeFault = ⊤
IsUnopenedStatus (status.TreeDamaged at) = ⊤
IsUnopenedStatus status.NoMemory = ⊤
IsUnopenedStatus status.NotEmpty = ⊤
IsUnopenedStatus s = ⊥

-- A file isn't opened, for this reason.
pub record IsUnopenedTree (tree tree_now : Outside) (result : Status) : Type 0 where
  pub told : IsUnopenedStatus result
  pub left : (file new : List ℕ) → tree.bytes ≡ Some file → tree_now.bytes ≡ Some new → IsNewTree file → LeavesNewTree new result
  pub tree_disk : EndsAtDisk status.TreeFault result tree.faults tree_now.faults

-- ---- loading

-- a load can end with this fault of a store that is up
abbrev pub CanFailLoad : TreeFault → Type 0
CanFailLoad (tree_fault.Refused index code) = ⊥
CanFailLoad (tree_fault.Limit index number) = ⊥
CanFailLoad tree_fault.NoMemory = ⊤
CanFailLoad tree_fault.Device = ⊤
CanFailLoad tree_fault.Down = ⊥
CanFailLoad (tree_fault.Full length) = ⊤

-- the status of a load that ends so
abbrev pub status_of_load_fault : TreeFault → Status
status_of_load_fault tree_fault.NoMemory = status.NoMemory
status_of_load_fault (tree_fault.Full length) = status.Limit (number_of_limit limits.TreeFileBytes) MAX_FILE_BYTES
status_of_load_fault fault = status.TreeFault

-- An input is a tree whose frames would make this file too long, of which these bytes are left.
abbrev pub HasNoRoomForLoad : Result Tree Status → Journal → List ℕ → Type 0
HasNoRoomForLoad load file new = (root : Tree) × (load ≡ Ok root) × (MAX_FILE_BYTES < (file_with_load root file (length new)).length)

-- Why an input isn't loaded at a limit: it passes the limit, or the file would be too long.
abbrev pub IsAtLimit : Result Tree Status → Journal → List ℕ → ℕ → ℕ → Type 0
IsAtLimit load file new which number =
    (load ≡ Err (status.Limit which number)) ⊎ ((which ≡ number_of_limit limits.TreeFileBytes) × (number ≡ MAX_FILE_BYTES) × HasNoRoomForLoad load file new)

-- What loading makes of a file that had these frames and stood for this tree before, by its status.
abbrev pub Fills : Tree → Result Tree Status → Journal → List ℕ → Status → Type 0
Fills before load file new status.Done = (root : Tree) × (load ≡ Ok root) × (tree_of new ≡ Ok root)
Fills before load file new (status.Script line) = (load ≡ Err (status.Script line)) × (tree_of new ≡ Ok before)
Fills before load file new status.ReadFault = tree_of new ≡ Ok before
Fills before load file new status.TreeFault = ⊤
Fills before load file new status.NoMemory = tree_of new ≡ Ok before
Fills before load file new (status.Limit which number) = IsAtLimit load file new which number × (tree_of new ≡ Ok before)
Fills before load file new s = ⊥

-- the statuses of a load into a file that was opened
abbrev pub IsFilledStatus : Status → Type 0
IsFilledStatus status.Done = ⊤
IsFilledStatus (status.Script line) = ⊤
IsFilledStatus status.ReadFault = ⊤
IsFilledStatus status.TreeFault = ⊤
IsFilledStatus status.NoMemory = ⊤
IsFilledStatus (status.Limit which number) = ⊤
IsFilledStatus s = ⊥

-- What loading the tree of an input makes of an open store that held this tree.
pub record FillsStore (before : Tree) (input input_now tree tree_now : Outside) (result : Status) : Type 0 where
  pub told : IsFilledStatus result
  pub filled : IfSome input.bytes (λ script. (file new : List ℕ) → tree.bytes ≡ Some file → tree_now.bytes ≡ Some new → Fills before (loaded script) (journal_of tree_letter file) new result)
  pub whole : result ≡ status.Done → IsAtEnd input_now.bytes
  pub tree_disk : EndsAtDisk status.TreeFault result tree.faults tree_now.faults
  pub source : EndsAtFailure status.ReadFault result input.faults input_now.faults input.last_failed input_now.last_failed

-- What loading the tree of an input makes of a new file.
pub record LoadsTree (input input_now tree tree_now : Outside) (result : Status) : Type 0 where
  pub ran : result ≢ status.Usage
  pub other : result ≢ status.LogFault
  pub filled : IfSome input.bytes (λ script. (file new : List ℕ) → tree.bytes ≡ Some file → tree_now.bytes ≡ Some new → IsNewTree file
      → Fills empty_tree (loaded script) (journal_of tree_letter file) new result)
  pub whole : result ≡ status.Done → IsAtEnd input_now.bytes
  pub tree_disk : EndsAtDisk status.TreeFault result tree.faults tree_now.faults
  pub source : EndsAtFailure status.ReadFault result input.faults input_now.faults input.last_failed input_now.last_failed
