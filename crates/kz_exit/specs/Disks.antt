-- What a rollback does to the disks below the tree and the log. The log is read, and where nothing refuses the rollback it is
-- reset; then the tree is asked for the multi, where there is something to delete.
use Rattle.std.specs.Prelude.{◌≡◌, ◌⊎◌, ⊤, ℕ, List, [], ◌∷◌, Result, Ok, Err}
use Rattle.kz_types.specs.declared.tree.Op.{Op}
use Rattle.kz_spec_data.specs.Tree.{Tree as TreeValue, multi}
use Rattle.kz_spec_data.specs.Requests.{Disk, TreeChange, Multi, StoreAnswer, Done, answer_of_tree_fault, answer_of_log_fault, IsTaken, ChangesDisk, ReadsDisk}
use Rattle.kz_exit.specs.declared.faults.ExitFault.{ExitFault}
use Rattle.kz_exit.specs.declared.faults.ExitFault.TheVariants.{Finalised, Unclosed, Behind, Log, Tree, NoMemory}

-- ---- the log's disk

-- the log's disk is asked for a reset, for which the file gets a frame whose payload has so many bytes
abbrev pub ResetsDisk : ℕ → StoreAnswer → Disk → Disk → Type 0
ResetsDisk payload answer old new = ChangesDisk ⊤ payload answer old new

-- What a rollback does to the log's disk, by its result. A store that is down answers its read as it would answer its reset.
abbrev pub LogDisk : ℕ → Result (Unit {0}) ExitFault → Disk → Disk → Type 0
LogDisk payload (Ok told) old new = ResetsDisk payload Done old new
LogDisk payload (Err Finalised) old new = ReadsDisk Done old new
LogDisk payload (Err (Unclosed path)) old new = ReadsDisk Done old new
LogDisk payload (Err (Behind recorded end)) old new = ReadsDisk Done old new
LogDisk payload (Err (Log f)) old new = ResetsDisk payload (answer_of_log_fault f) old new
LogDisk payload (Err (Tree f)) old new = ResetsDisk payload Done old new
LogDisk payload (Err NoMemory) old new = (new ≡ old) ⊎ ResetsDisk payload Done old new

-- ---- the tree's disk

-- The tree is asked for these operations, and answers so; where there are none it isn't asked.
abbrev pub MakesOps : TreeValue → (TreeValue → TreeChange → ℕ) → List Op → StoreAnswer → Disk → Disk → Type 0
MakesOps t payload_bytes [] answer old new = (answer ≡ Done) × (new ≡ old)
MakesOps t payload_bytes (o ∷ os) answer old new = ChangesDisk (IsTaken (multi t (o ∷ os))) (payload_bytes t (Multi (o ∷ os))) answer old new

-- What a rollback that sends these operations does to the tree's disk, by its result.
abbrev pub TreeDisk : TreeValue → (TreeValue → TreeChange → ℕ) → List Op → Result (Unit {0}) ExitFault → Disk → Disk → Type 0
TreeDisk t payload_bytes ops (Ok told) old new = MakesOps t payload_bytes ops Done old new
TreeDisk t payload_bytes ops (Err (Tree f)) old new = MakesOps t payload_bytes ops (answer_of_tree_fault f) old new
TreeDisk t payload_bytes ops (Err Finalised) old new = new ≡ old
TreeDisk t payload_bytes ops (Err (Unclosed path)) old new = new ≡ old
TreeDisk t payload_bytes ops (Err (Behind recorded end)) old new = new ≡ old
TreeDisk t payload_bytes ops (Err (Log f)) old new = new ≡ old
TreeDisk t payload_bytes ops (Err NoMemory) old new = new ≡ old
