-- What the program's two files stand for, why they stand for nothing, and how a command ends where a disk fails.
use Rattle.std.specs.Prelude.{◌≡◌, ◌≢◌, ℕ, Bool, List, Option, Some, None, Result, Ok, Err}
use Rattle.kz_types.specs.declared.fault.LogWhy.{LogWhy}
use Rattle.kz_types.specs.declared.outside.Status.{Status}
use Rattle.kz_types.specs.declared.outside.Status.TheVariants as status
use Rattle.kz_types.specs.Causes.{Rose}
use Rattle.kz_spec_data.specs.Tree.{Tree}
use Rattle.kz_spec_data.specs.Log.{Log}
use Rattle.kz_spec_data.specs.Frames.{Journal, tree_letter, log_letter, journal_of}
use Rattle.kz_spec_data.specs.TreeFile.{tree_of}
use Rattle.kz_spec_data.specs.LogFile.{log_of}

-- the status of a run that finds the tree's file damaged
abbrev pub tree_damage : {T : Type 0} → Result T ℕ → Option Status
tree_damage (Ok t) = None
tree_damage (Err at) = Some (status.TreeDamaged at)

-- and the log's file
abbrev pub log_damage : {L : Type 0} → Result L (ℕ × LogWhy) → Option Status
log_damage (Ok l) = None
log_damage (Err fault) = Some (status.LogDamaged fault.0 fault.1)

-- the first of two reasons
abbrev pub first_reason : Option Status → Option Status → Option Status
first_reason (Some s) other = Some s
first_reason None other = other

-- The status of a run that finds one of two files damaged; the tree's file is tested first.
abbrev pub damage : List ℕ → List ℕ → Option Status
damage tree log = first_reason (tree_damage (tree_of tree)) (log_damage (log_of log))

-- Two files stand for a tree and a log.
pub record StandFor (tree log : List ℕ) (t : Tree) (l : Log) : Type 0 where
  pub tree_is : tree_of tree ≡ Ok t
  pub log_is : log_of log ≡ Ok l

-- The frames of two files of one letter are the same, and neither a frame nor the sums of further ones changed.
abbrev pub SayTheSame : ℕ → List ℕ → List ℕ → Type 0
SayTheSame letter file new = journal_of letter new ≡ journal_of letter file

-- A command ends with a disk's own status exactly where a call of that disk failed. With `WriteFault` this doesn't say that none
-- did: the replies of a turn's steps before the failure are written after it, and the sink may fail then.
pub record EndsAtDisk (own result : Status) (faults faults_now : ℕ) : Type 0 where
  pub cause : result ≡ own → Rose faults faults_now
  pub calm : result ≢ own → result ≢ status.WriteFault → faults_now ≡ faults
