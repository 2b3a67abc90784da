-- How a tree's file is read, frame after frame, and what it stands for.
use Rattle.std.specs.Prelude.{◌≡◌, ◌+◌, ◌<◌, ◌≤◌, ℕ, Bool, true, false, ⊤, List, length, Option, Some, None, is_some, Result, Ok, Err}
use Rattle.std.proofs.Common.{ap}
use Rattle.kz_types.specs.Causes.{Rose}
use Rattle.kz_types.specs.declared.tree.Row.{Row}
use Rattle.kz_disk.specs.Disks.{NothingPends}
use Rattle.kz_spec_data.specs.Tree.{Tree}
use Rattle.kz_spec_data.specs.Requests.{Disk}
use Rattle.kz_spec_data.specs.Frames.{Framed, Journal, tree_letter, after_frame, journal_of}
use Rattle.kz_spec_data.specs.Transactions.{txn_of}
use Rattle.kz_spec_data.specs.TreeFile.{Load, fresh, under_way, over, is_fresh, Stored, nothing_stored, after_reading, after_frames, whole_or_damaged, stored_in, tree_of_stored, tree_of}
use Rattle.kz_journal.specs.declared.fault.JournalFault.{JournalFault}
use Rattle.kz_journal.specs.declared.fault.JournalFault.TheVariants as journal_fault
use Rattle.kz_journal.specs.Nexts.{IsAllRead}
use Rattle.kz_journal.specs.Values.{LeavesValue, settled_value}
use Rattle.kz_tree_store.specs.declared.fault.TreeOpenFault.{TreeOpenFault}
use Rattle.kz_tree_store.specs.declared.fault.TreeOpenFault.TheVariants as fault

-- ---- what a file stands for

-- What a store knows of its file: the tree, whether no frame but those of znodes that are loaded stands in it, and the znodes of
-- the load that the store has begun, if any.
pub record Known : Type 0 where
  pub tree : Tree
  pub fresh : Bool
  pub loaded : Option (List Row)

-- the znodes of a load that this store has begun
abbrev pub rows_known : Bool → Load → Option (List Row)
rows_known false l = None
rows_known true fresh = None
rows_known true (under_way rows) = Some rows
rows_known true over = None

abbrev pub known_of : Bool → Stored → Known
known_of begun s = record { tree = s.tree; fresh = is_fresh s.load; loaded = rows_known begun s.load }

abbrev pub known_in : Bool → Result Stored ℕ → Result Known ℕ
known_in begun (Ok s) = Ok (known_of begun s)
known_in begun (Err at) = Err at

-- This is what a store knows of this file.
abbrev pub IsTreeFile : List ℕ → Known → Type 0
IsTreeFile file k = known_in (is_some k.loaded) (stored_in (journal_of tree_letter file)) ≡ Ok k

-- the tree that a file stands for, or none where it is damaged
abbrev pub tree_found : Result Tree ℕ → Option Tree
tree_found (Ok t) = Some t
tree_found (Err at) = None

abbrev pub tree_in_file : List ℕ → Option Tree
tree_in_file file = tree_found (tree_of file)

-- what a stop may leave of a disk, as a tree
abbrev pub LeavesTree : Option (List ℕ) → (List ℕ → Type 0) → Option Tree → Type 0
LeavesTree told leaves found = LeavesValue tree_in_file told leaves found

abbrev tree_in : Result Known ℕ → Result Tree ℕ
tree_in (Ok k) = Ok k.tree
tree_in (Err at) = Err at

-- what is known of a file says which tree it stands for
pub tree_known : (begun : Bool) (r : Result Stored ℕ) (k : Known) → known_in begun r ≡ Ok k → tree_of_stored r ≡ Ok k.tree
tree_known begun (Ok s) k is = ap tree_in is
tree_known begun (Err at) k is = absurd (cc)

-- where no write is pending, a stop leaves the tree of the file
pub settled_tree : (k : Known) (told : Option (List ℕ)) (leaves : List ℕ → Type 0) → NothingPends told leaves
    → ((file : List ℕ) → told ≡ Some file → IsTreeFile file k) → (found : Option Tree) → LeavesTree told leaves found → found ≡ Some k.tree
settled_tree k told leaves none same found left =
    settled_value tree_in_file k.tree told leaves none (λ file is. ap tree_found (tree_known (is_some k.loaded) (stored_in (journal_of tree_letter file)) k (same file is))) found left

-- ---- reading

-- why a file isn't opened that isn't opened as a journal
abbrev pub open_fault_of : JournalFault → TreeOpenFault
open_fault_of journal_fault.DiskFault = fault.DiskFault
open_fault_of (journal_fault.Damaged at) = fault.Damaged at
open_fault_of (journal_fault.Full length) = fault.NoMemory
open_fault_of journal_fault.NoMemory = fault.NoMemory
open_fault_of journal_fault.Down = fault.DiskFault

-- what the rest of a journal makes of what is stored
abbrev pub stored_after : Stored → Journal → Result Stored ℕ
stored_after s j = whole_or_damaged j.damaged j.end (after_frames j.frames s)

-- A file has been read up to a gate: the rest makes of this what the whole file makes of nothing.
abbrev pub HasRead : Stored → Journal → Journal → Type 0
HasRead s first now = stored_after s now ≡ stored_after nothing_stored first

-- the file that is told says what a file said
abbrev pub SaysTheSame : List ℕ → Option (List ℕ) → Type 0
SaysTheSame file told = (new : List ℕ) × (told ≡ Some new) × (journal_of tree_letter new ≡ journal_of tree_letter file)

-- The file that is told now has at most one byte more than the one that was told before.
abbrev pub GrowsByOne : Option (List ℕ) → Option (List ℕ) → Type 0
GrowsByOne before now = (file new : List ℕ) → before ≡ Some file → now ≡ Some new → length new ≤ length file + 1

-- What taking a frame at this place answers, by what its payload makes of what is stored.
abbrev pub TakesFrame : {T : Type 0} → Result T TreeOpenFault → ℕ → Option Stored → Stored → Type 0
TakesFrame (Ok done) at said new = said ≡ Some new
TakesFrame (Err fault.DiskFault) at said new = ⊥
TakesFrame (Err (fault.Damaged place)) at said new = (place ≡ at) × (said ≡ None)
TakesFrame (Err fault.NoMemory) at said new = ⊤

-- A frame was taken: the rest goes on after it, and what is stored is what its payload makes.
pub record IsFrameTaken (s new : Stored) (before after : Journal) : Type 0 where
  pub frame : Framed
  pub was : before ≡ after_frame frame after
  pub makes : after_reading s (txn_of frame.payload) ≡ Some new

-- What reading the next frame of a file answers: whether one was taken.
abbrev pub Steps : List ℕ → Result Bool TreeOpenFault → Stored → Stored → Journal → Journal → Option (List ℕ) → Type 0
Steps file (Ok true) old new before after told = (told ≡ Some file) × IsFrameTaken old new before after
Steps file (Ok false) old new before after told = SaysTheSame file told × IsAllRead before × (new ≡ old)
Steps file (Err fault.DiskFault) old new before after told = ⊤
Steps file (Err (fault.Damaged at)) old new before after told = (told ≡ Some file) × (stored_after old before ≡ Err at)
Steps file (Err fault.NoMemory) old new before after told = told ≡ Some file

-- Once there is no frame more, one can be appended; and after each frame fewer bytes are left to read.
abbrev pub EndsFrames : Result Bool TreeOpenFault → Bool → ℕ → ℕ → Type 0
EndsFrames (Ok true) ended before now = now < before
EndsFrames (Ok false) ended before now = ended ≡ true
EndsFrames (Err e) ended before now = ⊤

-- What is known of a file once it is read: the tree, and whether there is no frame but those of znodes that are loaded.
abbrev pub read_known : Tree → Bool → Known
read_known t unwritten = record { tree = t; fresh = unwritten; loaded = None }

-- What reading a whole file answers: what it stands for, or where the file is damaged.
abbrev pub Reads : List ℕ → Result (Tree × Bool) TreeOpenFault → Option (List ℕ) → Type 0
Reads file (Ok found) told = SaysTheSame file told × IsTreeFile file (read_known found.0 found.1)
Reads file (Err fault.DiskFault) told = ⊤
Reads file (Err (fault.Damaged at)) told = (told ≡ Some file) × (tree_of file ≡ Err at)
Reads file (Err fault.NoMemory) told = told ≡ Some file

-- How reading ends, by its answer: a call of the disk failed only where the count of failures rose and the last call failed.
abbrev pub EndsReading : {T : Type 0} → Result T TreeOpenFault → Disk → Disk → Bool → Type 0
EndsReading (Ok x) old new failed = (new.down ≡ false) × (new.faults ≡ old.faults)
EndsReading (Err fault.DiskFault) old new failed = Rose old.faults new.faults × (failed ≡ true)
EndsReading (Err (fault.Damaged at)) old new failed = (new.down ≡ false) × (new.faults ≡ old.faults)
EndsReading (Err fault.NoMemory) old new failed = (new.down ≡ false) × (new.faults ≡ old.faults)
