-- Which tree a tree's file stands for, or at which place it is damaged.
use Rattle.std.specs.Prelude.{◌≡◌, ℕ, Bool, true, false, ◌&&◌, ℤ, pos, ◌+ℤ◌, List, [], ◌∷◌, ◌++◌, Option, Some, None, Result, Ok, Err, if◌then◌else◌}
use Rattle.std.specs.Ordering.{int_eq}
use Rattle.kz_types.specs.declared.tree.Row.{Row}
use Rattle.kz_spec_data.specs.Tree.{Tree, empty_tree, multi, begin_session, end_session}
use Rattle.kz_spec_data.specs.declared.files.Txn.{Txn}
use Rattle.kz_spec_data.specs.declared.files.Txn.TheVariants.{Multi, LoadRows, LoadEnd, Begin, End}
use Rattle.kz_spec_data.specs.Frames.{Framed, Journal, tree_letter, journal_of}
use Rattle.kz_spec_data.specs.Transactions.{txn_of}
use Rattle.kz_spec_data.specs.Loads.{is_load}

-- A load: none has begun, these znodes have come so far, or no load frame may come any more.
pub data Load : Type 0 where
  fresh : Load
  under_way : List Row → Load
  over : Load

-- What the frames so far stand for: their tree, and the load. The znodes of a load count only once it has ended.
pub record Stored : Type 0 where
  pub tree : Tree
  pub load : Load

abbrev pub nothing_stored : Stored
nothing_stored = record { tree = empty_tree; load = fresh }

abbrev pub stored_of : {E : Type 0} → Result Tree E → Option Stored
stored_of (Ok t) = Some (record { tree = t; load = over })
stored_of (Err e) = None

-- a transaction of the tree has the next zxid
abbrev pub stored_next : {E : Type 0} → ℤ → Tree → Result Tree E → Option Stored
stored_next zxid t made = if int_eq zxid (t.zxid +ℤ pos 1) then stored_of made else None

-- The first frame of a load begins it. Later ones begin it anew, or go on with it.
abbrev pub load_with_rows : Bool → List Row → Load → Option Load
load_with_rows first rows fresh = if first then Some (under_way rows) else None
load_with_rows first rows (under_way before) = Some (under_way (if first then rows else before ++ rows))
load_with_rows first rows over = None

abbrev pub with_load : Tree → Option Load → Option Stored
with_load t None = None
with_load t (Some l) = Some (record { tree = t; load = l })

-- the tree whose znodes these are, where they keep the rules of a load
abbrev pub stored_by_load : ℤ → List ℤ → Load → Option Stored
stored_by_load zxid sessions fresh = None
stored_by_load zxid sessions (under_way rows) = if is_load zxid sessions rows then Some (record { tree = record { zxid = zxid; sessions = sessions; rows = rows }; load = over }) else None
stored_by_load zxid sessions over = None

-- what a transaction makes of what is stored, or None where it can't come here
unfoldable pub after_txn : Stored → Txn → Option Stored
after_txn s (Multi zxid ops) = stored_next zxid s.tree (multi s.tree ops)
after_txn s (LoadRows first rows) = with_load s.tree (load_with_rows first rows s.load)
after_txn s (LoadEnd zxid sessions) = stored_by_load zxid sessions s.load
after_txn s (Begin zxid session) = stored_next zxid s.tree (begin_session s.tree session)
after_txn s (End zxid session) = stored_next zxid s.tree (end_session s.tree session)

abbrev pub after_reading : {E : Type 0} → Stored → Result Txn E → Option Stored
after_reading s (Ok t) = after_txn s t
after_reading s (Err e) = None

abbrev pub or_damaged : ℕ → Option Stored → (Stored → Result Stored ℕ) → Result Stored ℕ
or_damaged at None go = Err at
or_damaged at (Some s) go = go s

-- what these frames make of what is stored, or the place of the first that is damaged
unfoldable pub after_frames : List Framed → Stored → Result Stored ℕ
after_frames [] s = Ok s
after_frames (f ∷ fs) s = or_damaged f.at (after_reading s (txn_of f.payload)) (after_frames fs)

-- the frames before the first damaged place, and that place
abbrev pub whole_or_damaged : {S E : Type 0} → Bool → E → Result S E → Result S E
whole_or_damaged damaged fault (Err e) = Err e
whole_or_damaged damaged fault (Ok s) = if damaged then Err fault else Ok s

-- what the journal of a tree's file stands for, or the first damaged place
abbrev pub stored_in : Journal → Result Stored ℕ
stored_in j = whole_or_damaged j.damaged j.end (after_frames j.frames nothing_stored)

abbrev pub tree_of_stored : Result Stored ℕ → Result Tree ℕ
tree_of_stored (Ok s) = Ok s.tree
tree_of_stored (Err at) = Err at

-- The tree that a file stands for, or the first place at which the file is damaged.
abbrev pub tree_of : List ℕ → Result Tree ℕ
tree_of file = tree_of_stored (stored_in (journal_of tree_letter file))

-- No frame but those of rows that are loaded stands in the file.
abbrev pub is_fresh : Load → Bool
is_fresh fresh = true
is_fresh (under_way rows) = true
is_fresh over = false
