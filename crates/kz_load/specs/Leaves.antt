-- What a stop leaves of the two files of a load.
use Rattle.std.specs.Prelude.{◌≡◌, ◌⊎◌, ◌+◌, ◌<◌, ◌^◌, ℕ, true, List, length, Option, Some, is_some, IfSome, Result, Ok}
use Rattle.kz_types.specs.declared.outside.Status.{Status}
use Rattle.kz_types.specs.declared.outside.Status.TheVariants as status
use Rattle.kz_disk.specs.Disks.{NothingPends}
use Rattle.kz_spec_data.specs.Tree.{Tree, empty_tree}
use Rattle.kz_spec_data.specs.Log.{empty_log}
use Rattle.kz_spec_data.specs.Frames.{tree_letter, log_letter}
use Rattle.kz_spec_data.specs.TreeFile.{tree_of}
use Rattle.kz_spec_data.specs.LogFile.{log_of}
use Rattle.kz_spec_machine.specs.Loading.{loaded}
use Rattle.kz_spec_machine.specs.Files.{SayTheSame}
use Rattle.kz_commands.specs.Stops.{Contents, LeftByInit}
use Rattle.kz_load.specs.LoadsTrees.{IsNewTree}

-- What is left of a tree's file stands for this tree, or for that of the input.
abbrev pub StandsForEither : Result Tree Status → Tree → List ℕ → Type 0
StandsForEither load before left = (tree_of left ≡ Ok before) ⊎ ((root : Tree) × (load ≡ Ok root) × (tree_of left ≡ Ok root))

-- Where a disk tells its contents, and an input is told, this is what a stop leaves of an open store that held this tree.
abbrev pub LeavesEither : Option (List ℕ) → Tree → Option (List ℕ) → (List ℕ → Type 0) → Type 0
LeavesEither input before now left = IfSome input (λ script. is_some now ≡ true → (bytes : List ℕ) → left bytes → StandsForEither (loaded script) before bytes)

-- Where no write was pending before, a stop leaves of a file that isn't opened what it said. It has fewer than 2^32 bytes.
abbrev pub LeavesUnopened : Option (List ℕ) → (List ℕ → Type 0) → (List ℕ → Type 0) → Type 0
LeavesUnopened told leaves left = NothingPends told leaves → (file : List ℕ) → told ≡ Some file → length file < 2 ^ 32 → (bytes : List ℕ) → left bytes → SayTheSame tree_letter file bytes

-- Where no write was pending before, a stop leaves of the file of a new tree that, or the tree of the input.
abbrev pub LeavesNewOrLoaded : Option (List ℕ) → Option (List ℕ) → (List ℕ → Type 0) → Option (List ℕ) → (List ℕ → Type 0) → Type 0
LeavesNewOrLoaded input told leaves now left = NothingPends told leaves → (file : List ℕ) → told ≡ Some file → length file < 2 ^ 32 → IsNewTree file → LeavesEither input empty_tree now left

-- What is left of two files is what `init` leaves, or an empty log beside an empty tree or that of the input.
abbrev pub AreLeftByLoad : List ℕ → List ℕ → List ℕ → List ℕ → List ℕ → Type 0
AreLeftByLoad script t l x y = (LeftByInit tree_letter t x × LeftByInit log_letter l y) ⊎ (StandsForEither (loaded script) empty_tree x × (log_of y ≡ Ok empty_log))

-- Whatever a stop leaves of both files, it is that, where no write was pending on their disks before; the tree's file has fewer than
-- 2^32 - 1 bytes, the log's fewer than 2^32. Once the load is done, no write is pending.
pub record LoadStops (input : Option (List ℕ)) (tree tree_now log log_now : Contents) (result : Status) : Type 0 where
  pub left : NothingPends tree.told tree.leaves → NothingPends log.told log.leaves → (t l : List ℕ) → tree.told ≡ Some t → log.told ≡ Some l → length t + 1 < 2 ^ 32 → length l < 2 ^ 32
      → is_some tree_now.told ≡ true → is_some log_now.told ≡ true → IfSome input (λ script. (x y : List ℕ) → tree_now.leaves x → log_now.leaves y → AreLeftByLoad script t l x y)
  pub settled : result ≡ status.Done → NothingPends tree.told tree.leaves → NothingPends log.told log.leaves → NothingPends tree_now.told tree_now.leaves × NothingPends log_now.told log_now.leaves
