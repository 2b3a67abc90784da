-- How far a journal's file has been read, and what is appended to it there.
use Rattle.std.specs.Prelude.{◌≡◌, ℕ, ◌+◌, max, Bool, true, ⊤, List, length, take, slice_index, Option, Some, None, Result, Ok, Err}
use Rattle.kz_types.specs.Causes.{Rose}
use Rattle.kz_spec_data.specs.Requests.{Disk, StoreFile, Fits, IsTooLong}
use Rattle.kz_spec_data.specs.Frames.{Journal, closed_gate, size_before, journal_from, journal_of, journal_with_frame, journal_with_seal}
use Rattle.kz_laws_values.specs.Fronts.{IsFront}
use Rattle.kz_journal.specs.Appends.{next_gate_of}
use Rattle.kz_journal.specs.Pieces.{IsMeasured}
use Rattle.kz_journal.specs.declared.append.AppendFault.{AppendFault}
use Rattle.kz_journal.specs.declared.append.AppendFault.TheVariants as append_fault
use Rattle.kz_journal.specs.declared.seal.SealFault.{SealFault}
use Rattle.kz_journal.specs.declared.seal.SealFault.TheVariants as seal_fault
use Rattle.kz_journal.specs.declared.place.Place.{Place}

-- ---- a place

-- A file has been read up to a gate: what stands before it is whole.
pub record IsReadTo (letter : ℕ) (place : Place) (file : List ℕ) : Type 0 where
  pub measured : IsMeasured place file
  pub front : IsFront letter (take place.gate file) place.summed

-- what a file says from a gate on
abbrev pub journal_at : Place → List ℕ → Journal
journal_at place file = journal_from file place.summed place.gate

-- The gate is closed.
abbrev pub HasClosedGate : Place → List ℕ → Type 0
HasClosedGate place file = slice_index file place.gate ≡ closed_gate

-- ---- the file, as stores tell it

-- A file that has been read up to a closed gate. The next frame is written after this gate: as many bytes beside its payload as
-- a frame has before it, since a frame's own gate is written already, and the next gate is written with it.
abbrev pub file_at : Place → StoreFile
file_at place = record { length = place.length; end = place.gate + 1; around = size_before place.summed }

abbrev pub disk_at : ℕ → Bool → Place → Disk
disk_at faults down place = record { faults = faults; down = down; file = Some (file_at place) }

-- a file of this letter whose frames end at a closed gate
abbrev pub file_of : ℕ → List ℕ → StoreFile
file_of letter file = record { length = length file; end = (journal_of letter file).end + 1; around = size_before (journal_of letter file).summed }

-- the file after one more seal
abbrev pub with_seal : StoreFile → StoreFile
with_seal file = record { length = max file.length (file.end + 9); end = file.end + 9; around = size_before true }

abbrev pub sealed_file : Option StoreFile → Option StoreFile
sealed_file None = None
sealed_file (Some file) = Some (with_seal file)

-- ---- one frame or seal more

-- The place of the gate after a frame with this payload.
pub record IsNext (place : Place) (payload : List ℕ) (next : Place) : Type 0 where
  pub gate_is : next.gate ≡ next_gate_of place.gate place.summed payload
  pub long : next.length ≡ max place.length (next_gate_of place.gate place.summed payload + 1)
  pub sums : next.summed ≡ place.summed

-- The file that is told now has one frame more, at this place.
pub record HasFrameMore (letter at : ℕ) (payload file : List ℕ) (told : Option (List ℕ)) : Type 0 where
  pub new : List ℕ
  pub is : told ≡ Some new
  pub journal : journal_of letter new ≡ journal_with_frame payload (journal_of letter file)
  pub at_is : at ≡ (journal_of letter file).end

-- A frame was appended: the file that is told now has it, whole, and has been read up to the next gate, which is closed.
pub record HasNewFrame (letter : ℕ) (next : Place) (payload file : List ℕ) (told : Option (List ℕ)) : Type 0 where
  pub new : List ℕ
  pub is : told ≡ Some new
  pub journal : journal_of letter new ≡ journal_with_frame payload (journal_of letter file)
  pub read : IsReadTo letter next new
  pub closed : HasClosedGate next new

-- A seal was appended.
pub record HasNewSeal (letter : ℕ) (next : Place) (file : List ℕ) (told : Option (List ℕ)) : Type 0 where
  pub new : List ℕ
  pub is : told ≡ Some new
  pub journal : journal_of letter new ≡ journal_with_seal (journal_of letter file)
  pub read : IsReadTo letter next new
  pub closed : HasClosedGate next new

-- ---- how a call ends

-- How an append ends, by its answer: whether the file that it would make keeps the limit, the disk's count of failures, and whether
-- its last call failed.
abbrev pub EndsAppend : {T : Type 0} → Option StoreFile → Result T AppendFault → ℕ → ℕ → Bool → Type 0
EndsAppend made (Ok next) before now failed = Fits made × (now ≡ before)
EndsAppend made (Err append_fault.Failed) before now failed = Fits made × Rose before now × (failed ≡ true)
EndsAppend made (Err (append_fault.Full told)) before now failed = IsTooLong made told × (now ≡ before)
EndsAppend made (Err append_fault.NoMemory) before now failed = Fits made × (now ≡ before)

-- where no call of the disk was made, this holds
abbrev pub IfNotCalled : {T : Type 0} → Result T AppendFault → Type 0 → Type 0
IfNotCalled (Ok next) same = ⊤
IfNotCalled (Err append_fault.Failed) same = ⊤
IfNotCalled (Err (append_fault.Full told)) same = same
IfNotCalled (Err append_fault.NoMemory) same = same

-- the same of a seal, which takes no memory
abbrev pub EndsSeal : {T : Type 0} → Option StoreFile → Result T SealFault → ℕ → ℕ → Bool → Type 0
EndsSeal made (Ok next) before now failed = Fits made × (now ≡ before)
EndsSeal made (Err seal_fault.Failed) before now failed = Fits made × Rose before now × (failed ≡ true)
EndsSeal made (Err (seal_fault.Full told)) before now failed = IsTooLong made told × (now ≡ before)

abbrev pub IfNotSealed : {T : Type 0} → Result T SealFault → Type 0 → Type 0
IfNotSealed (Ok next) same = ⊤
IfNotSealed (Err seal_fault.Failed) same = ⊤
IfNotSealed (Err (seal_fault.Full told)) same = same
