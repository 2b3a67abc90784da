-- The command `init`: both files are made journals that stand for an empty tree and an empty log.
use Rattle.std.specs.Prelude.{◌≡◌, ⊤, ℕ, nat_le, Bool, true, false, not, ◌&&◌, ◌||◌, List, [], ◌∷◌, ◌++◌, length, bytes_eq, Option, Some, None, Result, Ok, Err, if◌then◌else◌}
use Rattle.kz_types.specs.declared.outside.Status.{Status}
use Rattle.kz_types.specs.declared.outside.Status.TheVariants as status
use Rattle.kz_spec_data.specs.Tree.{empty_tree}
use Rattle.kz_spec_data.specs.Log.{empty_log}
use Rattle.kz_spec_data.specs.Frames.{Framed, tree_letter, log_letter, plain_header, summed_header, closed_gate, new_file, journal_of}
use Rattle.kz_spec_data.specs.TreeFile.{Stored, Load, is_fresh, stored_in}
use Rattle.kz_spec_data.specs.LogFile.{log_of}
use Rattle.kz_spec_machine.specs.Files.{tree_damage, log_damage, first_reason, StandFor, SayTheSame}

-- ---- a file that isn't there yet

-- A file of at most 17 bytes has no room for a frame: it is new, or an earlier command was stopped while it made it.
abbrev pub is_short : List ℕ → Bool
is_short file = nat_le (length file) 17

-- a header and a closed gate: a journal without frames, all of it
abbrev pub is_whole_and_empty : ℕ → List ℕ → Bool
is_whole_and_empty letter file = bytes_eq file (new_file letter) || bytes_eq file (plain_header letter ++ closed_gate ∷ [])

-- ---- why nothing is made

abbrev pub holds_tree : {E : Type 0} → Result Stored E → Bool
holds_tree (Ok s) = not (is_fresh s.load)
holds_tree (Err e) = false

abbrev pub holds_frames : List Framed → Bool
holds_frames [] = false
holds_frames (f ∷ fs) = true

-- the tree's file is damaged, or holds a frame other than of a load that hasn't ended
abbrev pub tree_refusal : List ℕ → Option Status
tree_refusal file = if is_short file then None else tree_damage (stored_in (journal_of tree_letter file))

abbrev pub has_tree : List ℕ → Bool
has_tree file = not (is_short file) && holds_tree (stored_in (journal_of tree_letter file))

-- the log's file is damaged, or holds a frame
abbrev pub log_refusal : List ℕ → Option Status
log_refusal file = if is_short file then None else log_damage (log_of file)

abbrev pub has_log : List ℕ → Bool
has_log file = not (is_short file) && holds_frames (journal_of log_letter file).frames

-- Why nothing is made: the tree's file is damaged, the log's is, or one of them isn't empty. Both are tested before either is made.
abbrev pub init_refusal : List ℕ → List ℕ → Option Status
init_refusal tree log = first_reason (tree_refusal tree) (first_reason (log_refusal log) (if has_tree tree || has_log log then Some status.NotEmpty else None))

-- ---- what is made

-- A short file is made anew, unless it is whole already. A longer one keeps its frames.
pub record IsMade (letter : ℕ) (file new : List ℕ) : Type 0 where
  pub anew : is_short file ≡ true → is_whole_and_empty letter file ≡ false → new ≡ new_file letter
  pub left : is_short file ≡ true → is_whole_and_empty letter file ≡ true → new ≡ file
  pub kept : is_short file ≡ false → SayTheSame letter file new

-- Nothing is made: a short file is as it was, and a longer one keeps its frames.
pub record IsUnmade (letter : ℕ) (file new : List ℕ) : Type 0 where
  pub left : is_short file ≡ true → new ≡ file
  pub kept : is_short file ≡ false → SayTheSame letter file new

-- Both files stand for nothing yet.
pub record AreMade (tree log new_tree new_log : List ℕ) : Type 0 where
  pub taken : init_refusal tree log ≡ None
  pub tree_made : IsMade tree_letter tree new_tree
  pub log_made : IsMade log_letter log new_log
  pub stand : StandFor new_tree new_log empty_tree empty_log

-- Neither is made, for this reason.
pub record AreRefused (reason : Status) (tree log new_tree new_log : List ℕ) : Type 0 where
  pub refused : init_refusal tree log ≡ Some reason
  pub tree_kept : IsUnmade tree_letter tree new_tree
  pub log_kept : IsUnmade log_letter log new_log

-- What `init` makes of two files, by its status. Where memory runs out neither is made. Where a disk fails nothing is said here.
abbrev pub Inits : List ℕ → List ℕ → List ℕ → List ℕ → Status → Type 0
Inits tree log new_tree new_log status.Done = AreMade tree log new_tree new_log
Inits tree log new_tree new_log status.Usage = ⊥
Inits tree log new_tree new_log (status.Script line) = ⊥
Inits tree log new_tree new_log status.ReadFault = ⊥
Inits tree log new_tree new_log status.WriteFault = ⊥
Inits tree log new_tree new_log status.TreeFault = ⊤
Inits tree log new_tree new_log status.LogFault = ⊤
Inits tree log new_tree new_log (status.TreeDamaged at) = AreRefused (status.TreeDamaged at) tree log new_tree new_log
Inits tree log new_tree new_log (status.LogDamaged at why) = AreRefused (status.LogDamaged at why) tree log new_tree new_log
Inits tree log new_tree new_log (status.Disagrees path) = ⊥
Inits tree log new_tree new_log status.NoMemory = IsUnmade tree_letter tree new_tree × IsUnmade log_letter log new_log
Inits tree log new_tree new_log (status.Limit which number) = ⊥
Inits tree log new_tree new_log status.NotEmpty = AreRefused status.NotEmpty tree log new_tree new_log
Inits tree log new_tree new_log (status.NoOffset base end) = ⊥
