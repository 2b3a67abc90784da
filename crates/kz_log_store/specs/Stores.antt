-- What a log on a disk holds, and how one is opened.
use Rattle.std.specs.Prelude.{◌≡◌, ◌⊎◌, ◌<◌, ◌^◌, ℕ, Bool, true, false, ⊤, List, length, Option, Some, is_some, Result, Ok, Err}
use Rattle.kz_types.specs.Causes.{Rose}
use Rattle.kz_types.specs.declared.fault.LogFault.{LogFault}
use Rattle.kz_types.specs.declared.fault.LogFault.TheVariants as log_fault
use Rattle.kz_disk.specs.Disks.{NothingPends}
use Rattle.kz_spec_data.specs.Log.{Log}
use Rattle.kz_spec_data.specs.Requests.{Disk, Fits, IsTooLong}
use Rattle.kz_spec_data.specs.Frames.{log_letter, journal_of, HasNoRoomForSeal}
use Rattle.kz_spec_data.specs.LogFile.{log_of}
use Rattle.kz_journal.specs.Held.{disk_of, disk_state, IsSealed}
use Rattle.kz_journal.specs.Journals.{sealed_file}
use Rattle.kz_log_store.specs.declared.fault.LogOpenFault.{LogOpenFault}
use Rattle.kz_log_store.specs.declared.fault.LogOpenFault.TheVariants as fault
use Rattle.kz_log_store.specs.declared.store.LogStore.{LogStore}
use Rattle.kz_log_store.specs.Opened.{IsLogFile, SaysTheSame, LeavesLog}

-- the log
abbrev pub held_log : {D : Type 0} {disk : _} → LogStore D disk → Log
held_log s = s.rows

-- its file has no frame
abbrev pub is_fresh : {D : Type 0} {disk : _} → LogStore D disk → Bool
is_fresh s = s.fresh

-- a call of its disk has failed
abbrev pub store_down : {D : Type 0} {disk : _} → LogStore D disk → Bool
store_down s = s.down

-- the disk below it
abbrev pub store_disk : {D : Type 0} {disk : _} → LogStore D disk → D
store_disk s = disk_of s.journal

-- its disk, as stores tell it
abbrev pub store_state : {D : Type 0} {disk : _} → (D → ℕ) → LogStore D disk → Disk
store_state faults s = disk_state faults s.journal

-- what a stop may leave of its disk, as a log
abbrev pub left_of : {D : Type 0} {disk : _} → (D → Option (List ℕ)) → (D → List ℕ → Type 0) → LogStore D disk → Option Log → Type 0
left_of told may_leave s found = LeavesLog (told (store_disk s)) (may_leave (store_disk s)) found

-- ---- opening

-- A log was opened: where the disk tells its contents, they stood for this log, and still do.
pub record IsOpened {D : Type 0} {disk : _} (s : LogStore D disk) (before now : Option (List ℕ)) : Type 0 where
  pub up : store_down s ≡ false
  pub told : is_some now ≡ is_some before
  pub same : (file : List ℕ) → before ≡ Some file → SaysTheSame file now
  pub log : (file : List ℕ) → before ≡ Some file → IsLogFile file (held_log s) (is_fresh s)

-- Why a file isn't opened: a call of the disk failed, memory ran out, or the file is damaged first at this place, and why. Unless a
-- call failed, the file says what it said.
abbrev pub IsUnopened : LogOpenFault → Option (List ℕ) → Option (List ℕ) → Type 0
IsUnopened fault.DiskFault before now = ⊤
IsUnopened (fault.Damaged at why) before now = (file : List ℕ) → before ≡ Some file → (log_of file ≡ Err (at, why)) × SaysTheSame file now
IsUnopened fault.NoMemory before now = (file : List ℕ) → before ≡ Some file → SaysTheSame file now

-- The count of failures after a fault: it rose where a call of the disk failed, and its last call failed; else it stands.
abbrev pub HasOpenCause : LogOpenFault → ℕ → ℕ → Bool → Type 0
HasOpenCause fault.DiskFault before now failed = Rose before now × (failed ≡ true)
HasOpenCause (fault.Damaged at why) before now failed = now ≡ before
HasOpenCause fault.NoMemory before now failed = now ≡ before

-- Where no write was pending before, or a sync has succeeded since, a stop leaves bytes that say what the file said. The file has
-- fewer than 2^32 bytes.
abbrev pub LeftByOpening : Option (List ℕ) → (List ℕ → Type 0) → ℕ → ℕ → (List ℕ → Type 0) → Type 0
LeftByOpening before leaves syncs syncs_now left = (NothingPends before leaves ⊎ (syncs < syncs_now)) → (file : List ℕ) → before ≡ Some file → length file < 2 ^ 32
    → (bytes : List ℕ) → left bytes → journal_of log_letter bytes ≡ journal_of log_letter file

-- ---- a seal

-- What a call for a seal made of a file, by its answer: the file has a seal more, or needed none; or it has no room for one, and is
-- the same.
abbrev pub SealsTold : ℕ → List ℕ → Result Bool LogFault → Option (List ℕ) → Type 0
SealsTold letter file (Ok done) told = IsSealed letter file done told
SealsTold letter file (Err (log_fault.Stale epoch)) told = ⊤
SealsTold letter file (Err log_fault.Failed) told = ⊤
SealsTold letter file (Err (log_fault.Limit number)) told = ⊤
SealsTold letter file (Err log_fault.NoMemory) told = ⊤
SealsTold letter file (Err log_fault.Down) told = ⊤
SealsTold letter file (Err (log_fault.Full length)) told = (told ≡ Some file) × HasNoRoomForSeal letter file

-- What a call for a seal did to the disk, by its answer: whether one was appended. The store is down from the call on in which a
-- call of the disk failed.
abbrev pub SealsDisk : Result Bool LogFault → Disk → Disk → Type 0
SealsDisk (Ok true) old new = (old.down ≡ false) × Fits (sealed_file old.file) × (new ≡ record old { file = sealed_file old.file })
SealsDisk (Ok false) old new = (old.down ≡ false) × (new ≡ old)
SealsDisk (Err (log_fault.Stale epoch)) old new = ⊥
SealsDisk (Err log_fault.Failed) old new = (old.down ≡ false) × Fits (sealed_file old.file) × Rose old.faults new.faults × (new.down ≡ true) × (is_some new.file ≡ is_some old.file)
SealsDisk (Err (log_fault.Limit number)) old new = ⊥
SealsDisk (Err log_fault.NoMemory) old new = ⊥
SealsDisk (Err log_fault.Down) old new = (old.down ≡ true) × (new ≡ old)
SealsDisk (Err (log_fault.Full length)) old new = (old.down ≡ false) × IsTooLong (sealed_file old.file) length × (new ≡ old)
