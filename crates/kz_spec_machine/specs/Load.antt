-- The command `load`: both files are made journals that stand for the tree of an input and an empty log.
use Rattle.std.specs.Prelude.{◌≡◌, ◌⊎◌, ⊤, ℕ, ◌+◌, ◌<◌, true, List, length, Option, Some, None, Result, Ok, Err}
use Rattle.kz_types.specs.declared.limits.Limit.TheVariants as limits
use Rattle.kz_types.specs.Limits.{number_of_limit}
use Rattle.kz_types.specs.declared.limits.TheConstants.{MAX_FILE_BYTES}
use Rattle.kz_types.specs.declared.outside.Status.{Status}
use Rattle.kz_types.specs.declared.outside.Status.TheVariants as status
use Rattle.kz_spec_data.specs.Tree.{Tree, empty_tree}
use Rattle.kz_spec_data.specs.Log.{empty_log}
use Rattle.kz_spec_data.specs.Requests.{StoreFile, with_frame}
use Rattle.kz_spec_data.specs.Frames.{Journal, tree_letter, log_letter, size_before, journal_of}
use Rattle.kz_spec_data.specs.declared.files.Txn.TheVariants.{LoadRows, LoadEnd}
use Rattle.kz_spec_data.specs.Transactions.{txn_written}
use Rattle.kz_spec_data.specs.TreeFile.{tree_of}
use Rattle.kz_spec_data.specs.LogFile.{log_of}
use Rattle.kz_spec_machine.specs.Loading.{loaded}
use Rattle.kz_spec_machine.specs.Files.{StandFor}
use Rattle.kz_spec_machine.specs.Init.{init_refusal, IsMade, AreRefused, IsUnmade}

-- The files stand for the tree of the input.
pub record AreLoaded (input tree log new_tree new_log : List ℕ) : Type 0 where
  pub taken : init_refusal tree log ≡ None
  pub root : Tree
  pub loaded_is : loaded input ≡ Ok root
  pub stand : StandFor new_tree new_log root empty_log

-- They stand for an empty tree and an empty log: no znode was loaded.
pub record AreEmpty (tree log new_tree new_log : List ℕ) : Type 0 where
  pub taken : init_refusal tree log ≡ None
  pub stand : StandFor new_tree new_log empty_tree empty_log

-- The same, since the input is no tree, for this reason.
abbrev pub AreUnloaded : Status → List ℕ → List ℕ → List ℕ → List ℕ → List ℕ → Type 0
AreUnloaded reason input tree log new_tree new_log = (loaded input ≡ Err reason) × AreEmpty tree log new_tree new_log

-- a tree's file is as it was, but for the bytes after its last frame, or stands for an empty tree
abbrev pub HoldsNoTree : List ℕ → List ℕ → Type 0
HoldsNoTree file new = IsUnmade tree_letter file new ⊎ (tree_of new ≡ Ok empty_tree)

-- and a log's file
abbrev pub HoldsNoLog : List ℕ → List ℕ → Type 0
HoldsNoLog file new = IsUnmade log_letter file new ⊎ (log_of new ≡ Ok empty_log)

-- A tree's file that has these frames, and so many bytes, after the two frames that a load writes: the znodes, and the end.
abbrev pub file_with_load : Tree → Journal → ℕ → StoreFile
file_with_load root j size =
    with_frame (length (txn_written (LoadEnd root.zxid root.sessions)))
    (with_frame (length (txn_written (LoadRows true root.rows))) (record { length = size; end = j.end + 1; around = size_before j.summed }))

-- The frames of the tree would make its file, as it was made, too long. The file's bytes are those that are left. Then, too, no znode
-- is loaded.
pub record TreeIsTooLong (which number : ℕ) (input tree log new_tree new_log : List ℕ) : Type 0 where
  pub which_is : which ≡ number_of_limit limits.TreeFileBytes
  pub number_is : number ≡ MAX_FILE_BYTES
  pub root : Tree
  pub loaded_is : loaded input ≡ Ok root
  pub made : List ℕ
  pub is_made : IsMade tree_letter tree made
  pub too_long : MAX_FILE_BYTES < (file_with_load root (journal_of tree_letter made) (length new_tree)).length
  pub empty : AreEmpty tree log new_tree new_log

-- What `load` makes of two files, by its status. Files that hold a tree or a log, or are damaged, are refused as by `init`. Where a
-- disk fails nothing is said here.
abbrev pub Loads : List ℕ → List ℕ → List ℕ → List ℕ → List ℕ → Status → Type 0
Loads input tree log new_tree new_log status.Done = AreLoaded input tree log new_tree new_log
Loads input tree log new_tree new_log status.Usage = ⊥
Loads input tree log new_tree new_log (status.Script line) = AreUnloaded (status.Script line) input tree log new_tree new_log
Loads input tree log new_tree new_log status.ReadFault = AreEmpty tree log new_tree new_log
Loads input tree log new_tree new_log status.WriteFault = ⊥
Loads input tree log new_tree new_log status.TreeFault = ⊤
Loads input tree log new_tree new_log status.LogFault = ⊤
Loads input tree log new_tree new_log (status.TreeDamaged at) = AreRefused (status.TreeDamaged at) tree log new_tree new_log
Loads input tree log new_tree new_log (status.LogDamaged at why) = AreRefused (status.LogDamaged at why) tree log new_tree new_log
Loads input tree log new_tree new_log (status.Disagrees path) = ⊥
Loads input tree log new_tree new_log status.NoMemory = HoldsNoTree tree new_tree × HoldsNoLog log new_log
Loads input tree log new_tree new_log (status.Limit which number) =
    AreUnloaded (status.Limit which number) input tree log new_tree new_log ⊎ TreeIsTooLong which number input tree log new_tree new_log
Loads input tree log new_tree new_log status.NotEmpty = AreRefused status.NotEmpty tree log new_tree new_log
Loads input tree log new_tree new_log (status.NoOffset base end) = ⊥
