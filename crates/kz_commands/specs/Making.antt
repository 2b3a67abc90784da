-- What `init` finds in a file.
use Rattle.std.specs.Prelude.{◌≡◌, ⊤, ◌||◌, ℕ, Bool, true, false, List, bytes_eq, Option, Some, None, option_map, Ok}
use Rattle.kz_types.specs.declared.outside.Status.{Status}
use Rattle.kz_types.specs.declared.outside.Status.TheVariants as status
use Rattle.kz_spec_data.specs.Tree.{empty_tree}
use Rattle.kz_spec_data.specs.Log.{empty_log}
use Rattle.kz_disk.specs.Disks.{with_piece, LeavesNoMore, LeavesTorn}
use Rattle.kz_spec_data.specs.Frames.{tree_letter, log_letter, new_file}
use Rattle.kz_spec_data.specs.TreeFile.{tree_of}
use Rattle.kz_spec_data.specs.LogFile.{log_of}
use Rattle.kz_spec_machine.specs.Init.{is_short, is_whole_and_empty, tree_refusal, has_tree, log_refusal, has_log, IsMade, IsUnmade}
use Rattle.kz_commands.specs.declared.making.Found.{Found}
use Rattle.kz_commands.specs.declared.making.Found.TheVariants as found

-- What stands in a short file: nothing, or one of these two whole journals without a frame. A longer file isn't looked at.
abbrev pub IsShortFound : List ℕ → List ℕ → List ℕ → Option Found → Type 0
IsShortFound plain summed file None = is_short file ≡ false
IsShortFound plain summed file (Some found.Unmade) = (is_short file ≡ true) × ((bytes_eq file summed || bytes_eq file plain) ≡ false)
IsShortFound plain summed file (Some found.Empty) = (is_short file ≡ true) × ((bytes_eq file summed || bytes_eq file plain) ≡ true)
IsShortFound plain summed file (Some found.Taken) = ⊥

-- What stands in a file by its letter, by why it is refused, by whether it holds a tree or a log, and by when a file stands for
-- none. The file may have been changed after its last frame, and says the same.
abbrev pub IsFound : ℕ → (List ℕ → Option Status) → (List ℕ → Bool) → (List ℕ → Type 0) → List ℕ → List ℕ → Found → Type 0
IsFound letter refusal has empty file new found.Unmade = (refusal file ≡ None) × (has file ≡ false) × IsUnmade letter file new × (is_short file ≡ true) × (is_whole_and_empty letter file ≡ false)
IsFound letter refusal has empty file new found.Empty = (refusal file ≡ None) × (has file ≡ false) × IsUnmade letter file new × IsMade letter file new × empty new
IsFound letter refusal has empty file new found.Taken = (refusal file ≡ None) × (has file ≡ true) × IsUnmade letter file new

abbrev pub IsTreeFound : List ℕ → List ℕ → Found → Type 0
IsTreeFound file new f = IsFound tree_letter tree_refusal has_tree (λ bytes. tree_of bytes ≡ Ok empty_tree) file new f

abbrev pub IsLogFound : List ℕ → List ℕ → Found → Type 0
IsLogFound file new f = IsFound log_letter log_refusal has_log (λ bytes. log_of bytes ≡ Ok empty_log) file new f

-- Why a file isn't looked through: it is refused for this reason, unless its disk failed or memory ran out. Unless its disk failed
-- it is left.
abbrev pub IsRefusedFor : ℕ → (List ℕ → Option Status) → List ℕ → List ℕ → Status → Type 0
IsRefusedFor letter refusal file new status.TreeFault = ⊤
IsRefusedFor letter refusal file new status.LogFault = ⊤
IsRefusedFor letter refusal file new status.NoMemory = IsUnmade letter file new
IsRefusedFor letter refusal file new s = (refusal file ≡ Some s) × IsUnmade letter file new

-- What was found holds of what the disk tells before and now.
abbrev pub OfFile : {A : Type 0} → Option (List ℕ) → Option (List ℕ) → (List ℕ → List ℕ → A → Type 0) → A → Type 0
OfFile before now holds a = (file new : List ℕ) → before ≡ Some file → now ≡ Some new → holds file new a

-- What making a file does, by what was found in it: a file without a journal is made anew, and each other one is left.
abbrev pub MakesFile : ℕ → Found → Option (List ℕ) → Option (List ℕ) → Type 0
MakesFile letter found.Unmade before now = now ≡ option_map (with_piece 0 (new_file letter)) before
MakesFile letter found.Empty before now = now ≡ before
MakesFile letter found.Taken before now = now ≡ before

-- and what a stop leaves of it
abbrev pub MakingLeaves : Found → (List ℕ → Type 0) → (List ℕ → Type 0) → Type 0
MakingLeaves found.Unmade before now = LeavesTorn 0 17 before now
MakingLeaves found.Empty before now = LeavesNoMore before now
MakingLeaves found.Taken before now = LeavesNoMore before now

abbrev pub is_taken : Found → Bool
is_taken found.Unmade = false
is_taken found.Empty = false
is_taken found.Taken = true

-- what stands in a journal, by whether it holds no tree and no log
abbrev pub found_by : Bool → Found
found_by true = found.Empty
found_by false = found.Taken
