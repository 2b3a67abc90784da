-- What a tree on a disk holds, and how one is opened.
use Rattle.std.specs.Prelude.{◌≡◌, ◌⊎◌, ◌<◌, ◌^◌, ℕ, Bool, true, false, ⊤, List, length, Option, Some, None, is_some, Result, Ok, Err}
use Rattle.kz_types.specs.Causes.{Rose}
use Rattle.kz_types.specs.declared.tree.Row.{Row}
use Rattle.kz_disk.specs.Disks.{NothingPends}
use Rattle.kz_spec_data.specs.Tree.{Tree}
use Rattle.kz_spec_data.specs.Requests.{Disk}
use Rattle.kz_spec_data.specs.Frames.{tree_letter, journal_of}
use Rattle.kz_spec_data.specs.TreeFile.{Stored, stored_in, tree_of}
use Rattle.kz_spec_data.specs.TreeFile as loads
use Rattle.kz_journal.specs.Held.{disk_of, disk_state}
use Rattle.kz_tree_store.specs.declared.fault.TreeOpenFault.{TreeOpenFault}
use Rattle.kz_tree_store.specs.declared.fault.TreeOpenFault.TheVariants as fault
use Rattle.kz_tree_store.specs.declared.store.TreeStore.{TreeStore}
use Rattle.kz_tree_store.specs.Opened.{Known, SaysTheSame, GrowsByOne, LeavesTree}

-- the tree
abbrev pub held_tree : {D : Type 0} {disk : _} → TreeStore D disk → Tree
held_tree s = s.tree

-- its file has no frame but those of znodes that are loaded
abbrev pub is_fresh : {D : Type 0} {disk : _} → TreeStore D disk → Bool
is_fresh s = s.fresh

-- the znodes of the load that it has begun, while the load is under way
abbrev pub loaded : {D : Type 0} {disk : _} → TreeStore D disk → Option (List Row)
loaded s = s.loaded

-- all that it knows of its file
abbrev pub known : {D : Type 0} {disk : _} → TreeStore D disk → Known
known s = record { tree = s.tree; fresh = s.fresh; loaded = s.loaded }

-- a call of its disk has failed
abbrev pub store_down : {D : Type 0} {disk : _} → TreeStore D disk → Bool
store_down s = s.down

-- the disk below it
abbrev pub store_disk : {D : Type 0} {disk : _} → TreeStore D disk → D
store_disk s = disk_of s.journal

-- its disk, as stores tell it
abbrev pub store_state : {D : Type 0} {disk : _} → (D → ℕ) → TreeStore D disk → Disk
store_state faults s = disk_state faults s.journal

-- what a stop may leave of its disk, as a tree
abbrev pub left_of : {D : Type 0} {disk : _} → (D → Option (List ℕ)) → (D → List ℕ → Type 0) → TreeStore D disk → Option Tree → Type 0
left_of told may_leave s found = LeavesTree (told (store_disk s)) (may_leave (store_disk s)) found

-- ---- opening

-- no frame but those of znodes that are loaded stands in a file
abbrev pub is_fresh_file : Result Stored ℕ → Bool
is_fresh_file (Ok s) = loads.is_fresh s.load
is_fresh_file (Err at) = false

-- A tree was opened: where the disk tells its contents, they stood for this tree, and still do, with at most one byte more. No load
-- has begun.
pub record IsOpened {D : Type 0} {disk : _} (s : TreeStore D disk) (before now : Option (List ℕ)) : Type 0 where
  pub up : store_down s ≡ false
  pub unloaded : loaded s ≡ None
  pub told : is_some now ≡ is_some before
  pub same : (file : List ℕ) → before ≡ Some file → SaysTheSame file now
  pub grown : GrowsByOne before now
  pub tree : (file : List ℕ) → before ≡ Some file → tree_of file ≡ Ok (held_tree s)
  pub fresh_is : (file : List ℕ) → before ≡ Some file → is_fresh_file (stored_in (journal_of tree_letter file)) ≡ is_fresh s

-- Why a file isn't opened: a call of the disk failed, memory ran out, or the file is damaged first at this place. Unless a call
-- failed, the file says what it said.
abbrev pub IsUnopened : TreeOpenFault → Option (List ℕ) → Option (List ℕ) → Type 0
IsUnopened fault.DiskFault before now = ⊤
IsUnopened (fault.Damaged at) before now = (file : List ℕ) → before ≡ Some file → (tree_of file ≡ Err at) × SaysTheSame file now
IsUnopened fault.NoMemory before now = (file : List ℕ) → before ≡ Some file → SaysTheSame file now

-- The count of failures after a fault: it rose where a call of the disk failed, and its last call failed; else it stands.
abbrev pub HasOpenCause : TreeOpenFault → ℕ → ℕ → Bool → Type 0
HasOpenCause fault.DiskFault before now failed = Rose before now × (failed ≡ true)
HasOpenCause (fault.Damaged at) before now failed = now ≡ before
HasOpenCause fault.NoMemory before now failed = now ≡ before

-- Where no write was pending before, or a sync has succeeded since, a stop leaves bytes that say what the file said. The file has
-- fewer than 2^32 bytes.
abbrev pub LeftByOpening : Option (List ℕ) → (List ℕ → Type 0) → ℕ → ℕ → (List ℕ → Type 0) → Type 0
LeftByOpening before leaves syncs syncs_now left = (NothingPends before leaves ⊎ (syncs < syncs_now)) → (file : List ℕ) → before ≡ Some file → length file < 2 ^ 32
    → (bytes : List ℕ) → left bytes → journal_of tree_letter bytes ≡ journal_of tree_letter file
