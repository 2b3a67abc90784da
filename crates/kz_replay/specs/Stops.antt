-- What a stop leaves of both files after a run.
use Rattle.std.specs.Prelude.{◌≡◌, ◌⊎◌, ◌<◌, ◌^◌, true, ℕ, List, length, Option, Some, IfSome, is_some}
use Rattle.std.specs.Io.KnownBytes.{Appends}
use Rattle.kz_types.specs.declared.outside.Status.{Status}
use Rattle.kz_types.specs.declared.outside.Status.TheVariants as status
use Rattle.kz_disk.specs.Disks.{NothingPends}
use Rattle.kz_spec_data.specs.Frames.{tree_letter, log_letter}
use Rattle.kz_spec_data.specs.Tree.{Tree}
use Rattle.kz_spec_data.specs.Log.{Log}
use Rattle.kz_spec_data.specs.TreeFile.{tree_of}
use Rattle.kz_spec_data.specs.LogFile.{log_of}
use Rattle.kz_spec_machine.specs.Files.{StandFor}
use Rattle.kz_spec_machine.specs.Moments.{Moment, StandsAt, replayed_moments}
use Rattle.kz_spec_machine.specs.Openings.{opened_world, IsSoundPair}
use Rattle.kz_commands.specs.Stops.{Contents, StandsAtStop, LeavesByInit, StaysSettled}

-- With this much written, two files stand for the tree and the log of a moment that keeps up with it.
pub record StandAtMoment (ms : List Moment) (sent t l : List ℕ) : Type 0 where
  pub tree : Tree
  pub log : Log
  pub stand : StandFor t l tree log
  pub moment : StandsAt ms sent (Some tree) (Some log)

-- Before a run no write was pending on a disk, or a sync succeeded in the run; and the file had fewer than 2^32 bytes.
abbrev pub IsStable : List ℕ → Contents → Contents → Type 0
IsStable file disk now = (NothingPends disk.told disk.leaves ⊎ (disk.syncs < now.syncs)) × (length file < 2 ^ 32)

-- Whatever a stop leaves of both files, they stand for a moment that keeps up with what is written.
abbrev pub FilesKeepUp : List Moment → List ℕ → Contents → Contents → Type 0
FilesKeepUp ms sent tree log = (t l : List ℕ) → is_some tree.told ≡ true → is_some log.told ≡ true → tree.leaves t → log.leaves l → StandAtMoment ms sent t l

-- They do after a replay that opened files of a sound pair.
abbrev pub ReplayStops : Option (List ℕ) → Option (List ℕ) → Option (List ℕ) → Contents → Contents → Contents → Contents → Type 0
ReplayStops input out out_now tree tree_now log log_now = (t l : List ℕ) (opened_tree : Tree) (opened_log : Log) → tree.told ≡ Some t → log.told ≡ Some l → StandFor t l opened_tree opened_log → IsSoundPair opened_tree opened_log
    → IsStable t tree tree_now → IsStable l log log_now
    → IfSome input (λ script. (sent : List ℕ) × Appends out out_now sent × FilesKeepUp (replayed_moments (opened_world opened_tree opened_log) script) sent tree_now log_now)

-- Whatever a stop leaves of both files, each stands for what it stood for.
abbrev pub StandAsBefore : Contents → Contents → Contents → Contents → Type 0
StandAsBefore tree tree_now log log_now = StandsAtStop tree_of tree.told tree.leaves tree.syncs tree_now.syncs tree_now.leaves × StandsAtStop log_of log.told log.leaves log.syncs log_now.syncs log_now.leaves

-- A stop leaves of a disk what it would have left before.
abbrev pub IsUntouched : Contents → Contents → Type 0
IsUntouched disk now = (now.told ≡ disk.told) × ((bytes : List ℕ) → now.leaves bytes → disk.leaves bytes)

-- Whatever a stop leaves of both files after `init`: a short file is short, and a longer one says the same. Once both are made, no
-- write is pending, so that they stand for an empty tree and an empty log.
pub record InitStops (tree tree_now log log_now : Contents) (result : Status) : Type 0 where
  pub tree_left : LeavesByInit tree_letter tree.told tree.leaves tree_now.leaves
  pub log_left : LeavesByInit log_letter log.told log.leaves log_now.leaves
  pub settled : result ≡ status.Done → StaysSettled tree.told tree.leaves tree_now.told tree_now.leaves × StaysSettled log.told log.leaves log_now.told log_now.leaves
