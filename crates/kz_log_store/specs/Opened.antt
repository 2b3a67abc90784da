-- How a log's file is read, frame after frame, and what it stands for.
use Rattle.std.specs.Prelude.{◌≡◌, ◌<◌, ℕ, Bool, true, false, ⊤, List, [], ◌∷◌, Option, Some, None, Result, Ok, Err}
use Rattle.std.proofs.Common.{ap}
use Rattle.kz_types.specs.Causes.{Rose}
use Rattle.kz_disk.specs.Disks.{NothingPends}
use Rattle.kz_spec_data.specs.Log.{Log, empty_log}
use Rattle.kz_spec_data.specs.Requests.{Disk}
use Rattle.kz_spec_data.specs.Frames.{Framed, Journal, log_letter, after_frame, journal_of}
use Rattle.kz_types.specs.declared.fault.LogWhy.{LogWhy}
use Rattle.kz_types.specs.declared.fault.LogWhy.TheVariants.{Header}
use Rattle.kz_spec_data.specs.LogFile.{whole_or_damaged, after_frames, after_payload, why_at, log_of}
use Rattle.kz_journal.specs.declared.fault.JournalFault.{JournalFault}
use Rattle.kz_journal.specs.declared.fault.JournalFault.TheVariants as journal_fault
use Rattle.kz_journal.specs.declared.journal.Frame.{Frame}
use Rattle.kz_journal.specs.Nexts.{IsAllRead}
use Rattle.kz_journal.specs.Values.{LeavesValue, settled_value}
use Rattle.kz_log_store.specs.declared.fault.LogOpenFault.{LogOpenFault}
use Rattle.kz_log_store.specs.declared.fault.LogOpenFault.TheVariants as fault

-- ---- what a file stands for

-- there is no frame
abbrev pub no_frames : List Framed → Bool
no_frames [] = true
no_frames (f ∷ fs) = false

-- A file stands for this log, and has no frame or some.
pub record IsLogFile (file : List ℕ) (l : Log) (fresh : Bool) : Type 0 where
  pub log : log_of file ≡ Ok l
  pub fresh_is : no_frames (journal_of log_letter file).frames ≡ fresh

-- the log that a file stands for, or none where it is damaged
abbrev pub log_found : Result Log (ℕ × LogWhy) → Option Log
log_found (Ok l) = Some l
log_found (Err e) = None

-- the same of a file
abbrev pub log_stands : List ℕ → Option Log
log_stands file = log_found (log_of file)

-- What a stop may leave of a disk that tells its contents: the log that the bytes stand for which are left.
abbrev pub LeavesLog : Option (List ℕ) → (List ℕ → Type 0) → Option Log → Type 0
LeavesLog told leaves found = LeavesValue log_stands told leaves found

-- where no write is pending, a stop leaves the log of the file
pub settled_log : (l : Log) (fresh : Bool) (told : Option (List ℕ)) (leaves : List ℕ → Type 0) → NothingPends told leaves
    → ((file : List ℕ) → told ≡ Some file → IsLogFile file l fresh) → (found : Option Log) → LeavesLog told leaves found → found ≡ Some l
settled_log l fresh told leaves none same found left = settled_value log_stands l told leaves none (λ file is. ap log_found (same file is).log) found left

-- ---- reading

-- Why a file isn't opened that isn't opened as a journal: a journal has a damaged place there only at its header.
abbrev pub open_fault_of : JournalFault → LogOpenFault
open_fault_of journal_fault.DiskFault = fault.DiskFault
open_fault_of (journal_fault.Damaged at) = fault.Damaged at Header
open_fault_of (journal_fault.Full length) = fault.NoMemory
open_fault_of journal_fault.NoMemory = fault.NoMemory
open_fault_of journal_fault.Down = fault.DiskFault

-- what the rest of a journal makes of a log
abbrev pub log_after : Log → Journal → Result Log (ℕ × LogWhy)
log_after l j = whole_or_damaged j (after_frames j.frames l)

-- No frame was read so far, or one was.
abbrev pub IsFreshSo : Bool → Journal → Journal → Type 0
IsFreshSo true first now = now.frames ≡ first.frames
IsFreshSo false first now = no_frames first.frames ≡ false

-- A file has been read up to a gate: the rest makes of this log what the whole file makes of the empty one.
pub record HasRead (l : Log) (fresh : Bool) (first now : Journal) : Type 0 where
  pub same : log_after l now ≡ log_after empty_log first
  pub seen : IsFreshSo fresh first now

-- the file that is told says what a file said
abbrev pub SaysTheSame : List ℕ → Option (List ℕ) → Type 0
SaysTheSame file told = (new : List ℕ) × (told ≡ Some new) × (journal_of log_letter new ≡ journal_of log_letter file)

-- What taking a frame at this place answers, by what its payload makes of the log.
abbrev pub TakesFrame : {T : Type 0} → Result T LogOpenFault → ℕ → Result Log LogWhy → Log → Type 0
TakesFrame (Ok done) at said new = said ≡ Ok new
TakesFrame (Err fault.DiskFault) at said new = ⊥
TakesFrame (Err (fault.Damaged place why)) at said new = (place ≡ at) × (said ≡ Err why)
TakesFrame (Err fault.NoMemory) at said new = ⊤

-- Why a frame isn't read that a journal doesn't answer.
abbrev pub next_fault_of : JournalFault → LogOpenFault
next_fault_of journal_fault.DiskFault = fault.DiskFault
next_fault_of (journal_fault.Damaged at) = fault.Damaged at (why_at at)
next_fault_of (journal_fault.Full length) = fault.NoMemory
next_fault_of journal_fault.NoMemory = fault.NoMemory
next_fault_of journal_fault.Down = fault.DiskFault

-- What taking the frame answers that a journal answers, if any.
abbrev pub TakesNext : Result (Option Frame) JournalFault → Result Bool LogOpenFault → Log → Log → Type 0
TakesNext (Ok (Some frame)) (Ok true) old new = after_payload old frame.payload ≡ Ok new
TakesNext (Ok (Some frame)) (Ok false) old new = ⊥
TakesNext (Ok (Some frame)) (Err e) old new = TakesFrame {T = Unit {0}} (Err e) frame.at (after_payload old frame.payload) new
TakesNext (Ok None) (Ok true) old new = ⊥
TakesNext (Ok None) (Ok false) old new = new ≡ old
TakesNext (Ok None) (Err e) old new = ⊥
TakesNext (Err e) taken old new = taken ≡ Err (next_fault_of e)

-- A frame was taken: the rest goes on after it, and the log is the one that its payload makes.
pub record IsFrameTaken (l new : Log) (before after : Journal) : Type 0 where
  pub frame : Framed
  pub was : before ≡ after_frame frame after
  pub makes : after_payload l frame.payload ≡ Ok new

-- What reading the next frame of a file answers: whether one was taken.
abbrev pub Steps : List ℕ → Result Bool LogOpenFault → Log → Log → Journal → Journal → Option (List ℕ) → Type 0
Steps file (Ok true) old new before after told = (told ≡ Some file) × IsFrameTaken old new before after
Steps file (Ok false) old new before after told = SaysTheSame file told × IsAllRead before × (new ≡ old)
Steps file (Err fault.DiskFault) old new before after told = ⊤
Steps file (Err (fault.Damaged at why)) old new before after told = (told ≡ Some file) × (log_after old before ≡ Err (at, why))
Steps file (Err fault.NoMemory) old new before after told = told ≡ Some file

-- Once there is no frame more, one can be appended; and after each frame fewer bytes are left to read.
abbrev pub EndsFrames : Result Bool LogOpenFault → Bool → ℕ → ℕ → Type 0
EndsFrames (Ok true) ended before now = now < before
EndsFrames (Ok false) ended before now = ended ≡ true
EndsFrames (Err e) ended before now = ⊤

-- What reading a whole file answers: the log and whether it has no frame, or where the file is damaged.
abbrev pub Reads : List ℕ → Result (Log × Bool) LogOpenFault → Option (List ℕ) → Type 0
Reads file (Ok found) told = SaysTheSame file told × IsLogFile file found.0 found.1
Reads file (Err fault.DiskFault) told = ⊤
Reads file (Err (fault.Damaged at why)) told = (told ≡ Some file) × (log_of file ≡ Err (at, why))
Reads file (Err fault.NoMemory) told = told ≡ Some file

-- How reading ends, by its answer: a call of the disk failed only where the count of failures rose and the last call failed.
abbrev pub EndsReading : {T : Type 0} → Result T LogOpenFault → Disk → Disk → Bool → Type 0
EndsReading (Ok x) old new failed = (new.down ≡ false) × (new.faults ≡ old.faults)
EndsReading (Err fault.DiskFault) old new failed = Rose old.faults new.faults × (failed ≡ true)
EndsReading (Err (fault.Damaged at why)) old new failed = (new.down ≡ false) × (new.faults ≡ old.faults)
EndsReading (Err fault.NoMemory) old new failed = (new.down ≡ false) × (new.faults ≡ old.faults)
