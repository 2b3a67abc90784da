-- What every store answers a request, what the request did to the store's disk, and what a stop may leave of the store:
-- the value that is left, or None where what is left stands for none.
use Rattle.std.specs.Prelude.{◌≡◌, ◌⊎◌, ◌<◌, ◌≤◌, ℕ, ◌+◌, ◌-◌, ◌^◌, min, max, ℤ, Bool, true, false, List, Option, Some, None, is_some, option_map, Result, Ok, Err, ⊤}
use Rattle.kz_types.specs.declared.limits.TheConstants.{MAX_FILE_BYTES}
use Rattle.kz_types.specs.declared.tree.Op.{Op}
use Rattle.kz_types.specs.declared.record.MetaRecord.{MetaRecord}
use Rattle.kz_types.specs.declared.fault.TreeFault.{TreeFault}
use Rattle.kz_types.specs.declared.fault.TreeFault.TheVariants as tree_fault
use Rattle.kz_types.specs.declared.fault.LogFault.{LogFault}
use Rattle.kz_types.specs.declared.fault.LogFault.TheVariants as log_fault
use Rattle.kz_types.specs.Causes.{Rose}

-- ---- a disk

-- A store's file: its bytes, the place after its last whole frame, from which the next request writes, and the bytes that a
-- request writes there beside its payload. Bytes that a failed request left may stand after that place.
pub record StoreFile : Type 0 where
  pub length : ℕ
  pub end : ℕ
  pub around : ℕ

-- What a store tells of its disk: how many of its calls have failed; whether one of the store's own calls has failed, after
-- which the store makes no call; and its file, where it has one.
pub record Disk : Type 0 where
  pub faults : ℕ
  pub down : Bool
  pub file : Option StoreFile

-- of a store in memory
abbrev pub no_disk : Disk
no_disk = record { faults = 0; down = false; file = None }

-- ---- what changes a store

pub data TreeChange : Type 0 where
  Multi : List Op → TreeChange
  BeginSession : ℤ → TreeChange
  EndSession : ℤ → TreeChange

pub data LogChange : Type 0 where
  Append : ℤ → ℤ → List MetaRecord → LogChange  -- the epoch, the time, the records
  Elect : ℤ → List MetaRecord → LogChange
  Reset : LogChange
  Snapshot : ℤ → LogChange  -- the offset

-- a file after one more frame, whose payload has so many bytes
abbrev pub with_frame : ℕ → StoreFile → StoreFile
with_frame payload file = record file { length = max file.length (file.end + (payload + file.around)); end = file.end + (payload + file.around) }

-- the file after such a frame, where there is one
abbrev pub file_with : ℕ → Disk → Option StoreFile
file_with payload disk = option_map (with_frame payload) disk.file

-- a file keeps the limit; a store without a file always does
abbrev pub Fits : Option StoreFile → Type 0
Fits None = ⊤
Fits (Some file) = file.length ≤ MAX_FILE_BYTES

-- a file would pass the limit, and this is the length that it would have, or the greatest number of 64 bits where that is less
abbrev pub IsTooLong : Option StoreFile → ℕ → Type 0
IsTooLong None told = ⊥
IsTooLong (Some file) told = (told ≡ min file.length (2 ^ 64 - 1)) × (MAX_FILE_BYTES < file.length)

-- ---- what a store answers

-- An answer by what it says of the disk.
pub data StoreAnswer : Type 0 where
  Done : StoreAnswer
  Refused : StoreAnswer
  NoMemory : StoreAnswer
  Failed : StoreAnswer  -- a call of the disk failed
  Down : StoreAnswer  -- one failed in an earlier request
  Full : ℕ → StoreAnswer  -- the file would have so many bytes

abbrev pub answer_of_tree_fault : TreeFault → StoreAnswer
answer_of_tree_fault (tree_fault.Refused index code) = Refused
answer_of_tree_fault (tree_fault.Limit index number) = Refused
answer_of_tree_fault tree_fault.NoMemory = NoMemory
answer_of_tree_fault tree_fault.Device = Failed
answer_of_tree_fault tree_fault.Down = Down
answer_of_tree_fault (tree_fault.Full length) = Full length

abbrev pub answer_of_log_fault : LogFault → StoreAnswer
answer_of_log_fault (log_fault.Stale epoch) = Refused
answer_of_log_fault log_fault.Failed = Failed
answer_of_log_fault (log_fault.Limit number) = Refused
answer_of_log_fault log_fault.NoMemory = NoMemory
answer_of_log_fault log_fault.Down = Down
answer_of_log_fault (log_fault.Full length) = Full length

abbrev pub answer_by : {A E : Type 0} → (E → StoreAnswer) → Result A E → StoreAnswer
answer_by answer_of (Ok a) = Done
answer_by answer_of (Err e) = answer_of e

-- nothing refuses the request
abbrev pub IsTaken : {A E : Type 0} → Result A E → Type 0
IsTaken (Ok a) = ⊤
IsTaken (Err e) = ⊥

-- ---- what a request did to the disk

-- A request that changes the store by a frame whose payload has so many bytes. The disk fails, and the file is full, only where
-- nothing refuses the request. The file has the frame where the request is done. The store is down from the request on whose call
-- failed; what that call leaves of the file isn't told, but that there is one.
abbrev pub ChangesDisk : Type 0 → ℕ → StoreAnswer → Disk → Disk → Type 0
ChangesDisk taken payload Done old new = (old.down ≡ false) × Fits (file_with payload old) × (new ≡ record old { file = file_with payload old })
ChangesDisk taken payload Refused old new = (old.down ≡ false) × (new ≡ old)
ChangesDisk taken payload NoMemory old new = new ≡ old
ChangesDisk taken payload Failed old new = (old.down ≡ false) × taken × Fits (file_with payload old) × Rose old.faults new.faults × (new.down ≡ true) × (is_some new.file ≡ is_some old.file)
ChangesDisk taken payload Down old new = (old.down ≡ true) × (new ≡ old)
ChangesDisk taken payload (Full length) old new = (old.down ≡ false) × taken × IsTooLong (file_with payload old) length × (new ≡ old)

-- A request that only reads: it makes no call of the disk.
abbrev pub ReadsDisk : StoreAnswer → Disk → Disk → Type 0
ReadsDisk Done old new = (old.down ≡ false) × (new ≡ old)
ReadsDisk Refused old new = ⊥
ReadsDisk NoMemory old new = new ≡ old
ReadsDisk Failed old new = ⊥
ReadsDisk Down old new = (old.down ≡ true) × (new ≡ old)
ReadsDisk (Full length) old new = ⊥

-- ---- what a stop leaves

-- a stop leaves this value and nothing else
abbrev pub Only : {V : Type 0} → V → (Option V → Type 0) → Type 0
Only value left = (found : Option _) → left found → found ≡ Some value

-- a stop leaves this value, or the one that the request in flight makes of it
abbrev pub Between : {V E : Type 0} → V → Result V E → (Option V → Type 0) → Type 0
Between {V} value made left = (found : Option V) → left found → (found ≡ Some value) ⊎ ((new : V) × (made ≡ Ok new) × (found ≡ Some new))

-- a stop leaves the value before a call, or the one that the call would have made
abbrev pub Either : {V : Type 0} → V → V → (Option V → Type 0) → Type 0
Either {V} before after left = (found : Option V) → left found → (found ≡ Some before) ⊎ (found ≡ Some after)
