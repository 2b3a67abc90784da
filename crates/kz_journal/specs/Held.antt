-- What a journal holds, and what its calls do.
use Rattle.std.specs.Prelude.{◌≡◌, ◌<◌, ◌-◌, ℕ, Bool, true, false, ⊤, List, [], Option, Some, None, is_some, Result, Ok, Err}
use Rattle.kz_types.specs.Causes.{Rose}
use Rattle.kz_spec_data.specs.Requests.{Disk, StoreFile, Fits, IsTooLong}
use Rattle.kz_spec_data.specs.Frames.{after_frame, journal_of, journal_with_seal, HasNoRoomForSeal}
use Rattle.kz_spec_data.specs.Frames as files
use Rattle.kz_journal.specs.declared.fault.JournalFault.{JournalFault}
use Rattle.kz_journal.specs.declared.fault.JournalFault.TheVariants as fault
use Rattle.kz_journal.specs.declared.journal.Frame.{Frame}
use Rattle.kz_journal.specs.declared.journal.Journal.{Journal}
use Rattle.kz_journal.specs.Journals.{journal_at, disk_at, file_at, sealed_file}
use Rattle.kz_journal.specs.Openings.{has_header}
use Rattle.kz_journal.specs.Nexts.{IsAllRead, IsDamagedAt, SaysTheSame}

-- ---- what it holds

-- the disk below it
abbrev pub disk_of : {D : Type 0} {disk : _} → Journal D disk → D
disk_of j = j.disk

-- the letter of its file
abbrev pub letter_of : {D : Type 0} {disk : _} → Journal D disk → ℕ
letter_of j = j.letter

-- all frames of its file have been read, and a frame can be appended
abbrev pub has_ended : {D : Type 0} {disk : _} → Journal D disk → Bool
has_ended j = j.ended

-- a call of its disk has failed
abbrev pub is_down : {D : Type 0} {disk : _} → Journal D disk → Bool
is_down j = j.down

-- the next frame has a sum
abbrev pub has_sums : {D : Type 0} {disk : _} → Journal D disk → Bool
has_sums j = j.place.summed

-- its disk, as stores tell it
abbrev pub disk_state : {D : Type 0} {disk : _} → (D → ℕ) → Journal D disk → Disk
disk_state faults j = disk_at (faults j.disk) j.down j.place

-- what its file says from the gate on up to which it has been read
abbrev pub unread : {D : Type 0} {disk : _} → Journal D disk → List ℕ → files.Journal
unread j file = journal_at j.place file

-- how many bytes of its file haven't been read
abbrev pub bytes_left : {D : Type 0} {disk : _} → Journal D disk → ℕ
bytes_left j = j.place.length - j.place.gate

-- ---- a journal that was opened

-- A journal of this letter is open, whose file begins with a header of it. All that the file says is still to be read. What the disk
-- tells is the same.
pub record IsOpened {D : Type 0} {disk : _} (letter : ℕ) (j : Journal D disk) (before now : Option (List ℕ)) : Type 0 where
  pub letter_is : letter_of j ≡ letter
  pub up : is_down j ≡ false
  pub reading : has_ended j ≡ false
  pub same : now ≡ before
  pub header : (file : List ℕ) → before ≡ Some file → has_header letter file ≡ true
  pub all : (file : List ℕ) → before ≡ Some file → unread j file ≡ journal_of letter file

-- A journal of this letter is made, and a frame can be appended. Its file has none.
pub record IsMade {D : Type 0} {disk : _} (letter : ℕ) (j : Journal D disk) (now : Option (List ℕ)) : Type 0 where
  pub letter_is : letter_of j ≡ letter
  pub up : is_down j ≡ false
  pub ended : has_ended j ≡ true
  pub none : (file : List ℕ) → now ≡ Some file → journal_of letter file ≡ record { frames = []; end = 16; summed = true; damaged = false }

-- ---- the next frame

-- What the call for the next frame answers, by what was still to be read of a file. Where no frame is left, the file may have been
-- changed after the last one, and still says the same.
abbrev pub AnswersNext : {D : Type 0} {disk : _} → List ℕ → Journal D disk → Result (Option Frame) JournalFault → Journal D disk → Option (List ℕ) → Type 0
AnswersNext file old (Ok (Some frame)) new told = (told ≡ Some file) × (unread old file ≡ after_frame (record { at = frame.at; payload = frame.payload }) (unread new file))
AnswersNext file old (Ok None) new told = IsAllRead (unread old file) × SaysTheSame (letter_of old) file told (file_at new.place)
AnswersNext file old (Err fault.DiskFault) new told = ⊤
AnswersNext file old (Err (fault.Damaged at)) new told = (told ≡ Some file) × IsDamagedAt (unread old file) at
AnswersNext file old (Err (fault.Full length)) new told = ⊥
AnswersNext file old (Err fault.NoMemory) new told = (told ≡ Some file) × (unread new file ≡ unread old file)
AnswersNext file old (Err fault.Down) new told = (told ≡ Some file) × (unread new file ≡ unread old file)

-- The frames have ended once none is answered.
abbrev pub EndsAt : Result (Option Frame) JournalFault → Bool → Bool → Type 0
EndsAt (Ok (Some frame)) old new = (old ≡ false) × (new ≡ false)
EndsAt (Ok None) old new = new ≡ true
EndsAt (Err e) old new = new ≡ old

-- After a frame fewer bytes are left to read.
abbrev pub LeavesFewer : Result (Option Frame) JournalFault → ℕ → ℕ → Type 0
LeavesFewer (Ok (Some frame)) old new = new < old
LeavesFewer (Ok None) old new = ⊤
LeavesFewer (Err e) old new = ⊤

-- How a call that changes no frame ends, by its answer: the count of failures, and whether the journal was and is down. It fails
-- only where the count rose and the disk's last call failed, and is down from then on.
abbrev pub EndsCall : {T : Type 0} → Result T JournalFault → Disk → Disk → Bool → Type 0
EndsCall (Ok x) old new failed = (old.down ≡ false) × (new.down ≡ false) × (new.faults ≡ old.faults)
EndsCall (Err fault.DiskFault) old new failed = (old.down ≡ false) × (new.down ≡ true) × Rose old.faults new.faults × (failed ≡ true)
EndsCall (Err (fault.Damaged at)) old new failed = (old.down ≡ false) × (new.down ≡ false) × (new.faults ≡ old.faults)
EndsCall (Err (fault.Full length)) old new failed = ⊥
EndsCall (Err fault.NoMemory) old new failed = (old.down ≡ false) × (new.down ≡ false) × (new.faults ≡ old.faults)
EndsCall (Err fault.Down) old new failed = (old.down ≡ true) × (new ≡ old)

-- ---- one frame more

-- What an append did to the disk, by its answer: `made` is the file with the frame, as stores tell it. The journal is down from the
-- call on in which a call of the disk failed; what that leaves of the file isn't told, but that there is one.
abbrev pub Appends : {T : Type 0} → Option StoreFile → Result T JournalFault → Disk → Disk → Bool → Type 0
Appends made (Ok at) old new failed = (old.down ≡ false) × Fits made × (new ≡ record old { file = made })
Appends made (Err fault.DiskFault) old new failed = (old.down ≡ false) × Fits made × Rose old.faults new.faults × (new.down ≡ true) × (is_some new.file ≡ is_some old.file) × (failed ≡ true)
Appends made (Err (fault.Damaged at)) old new failed = ⊥
Appends made (Err (fault.Full length)) old new failed = (old.down ≡ false) × IsTooLong made length × (new ≡ old)
Appends made (Err fault.NoMemory) old new failed = (old.down ≡ false) × Fits made × (new ≡ old)
Appends made (Err fault.Down) old new failed = (old.down ≡ true) × (new ≡ old)

-- where no call of the disk was made, this holds
abbrev pub IfUncalled : {T : Type 0} → Result T JournalFault → Type 0 → Type 0
IfUncalled (Ok x) same = ⊤
IfUncalled (Err fault.DiskFault) same = ⊤
IfUncalled (Err (fault.Damaged at)) same = same
IfUncalled (Err (fault.Full length)) same = same
IfUncalled (Err fault.NoMemory) same = same
IfUncalled (Err fault.Down) same = same

-- ---- a seal

-- the same of a call for a seal, which makes none either where frames have sums
abbrev pub IfSealUncalled : Result Bool JournalFault → Type 0 → Type 0
IfSealUncalled (Ok true) same = ⊤
IfSealUncalled (Ok false) same = same
IfSealUncalled (Err e) same = IfUncalled {T = Bool} (Err e) same

-- A seal was appended to the file, or it needed none, and is the same.
abbrev pub IsSealed : ℕ → List ℕ → Bool → Option (List ℕ) → Type 0
IsSealed letter file true told = (new : List ℕ) × (told ≡ Some new) × (journal_of letter new ≡ journal_with_seal (journal_of letter file))
IsSealed letter file false told = (told ≡ Some file) × ((journal_of letter file).summed ≡ true)

-- What a call for a seal made of a file, by its answer: the file has a seal more, or needed none; or it has no room for one, and is
-- the same.
abbrev pub AnswersSeal : ℕ → List ℕ → Result Bool JournalFault → Option (List ℕ) → Type 0
AnswersSeal letter file (Ok done) told = IsSealed letter file done told
AnswersSeal letter file (Err fault.DiskFault) told = ⊤
AnswersSeal letter file (Err (fault.Damaged at)) told = ⊥
AnswersSeal letter file (Err (fault.Full length)) told = (told ≡ Some file) × HasNoRoomForSeal letter file
AnswersSeal letter file (Err fault.NoMemory) told = ⊥
AnswersSeal letter file (Err fault.Down) told = told ≡ Some file

-- What a call for a seal did to the disk, by its answer. None is appended exactly where frames have sums.
abbrev pub Seals : Bool → Result Bool JournalFault → Disk → Disk → Bool → Type 0
Seals summed (Ok true) old new failed = (summed ≡ false) × Appends {T = Bool} (sealed_file old.file) (Ok true) old new failed
Seals summed (Ok false) old new failed = (summed ≡ true) × (old.down ≡ false) × (new ≡ old)
Seals summed (Err fault.DiskFault) old new failed = (summed ≡ false) × Appends {T = Bool} (sealed_file old.file) (Err fault.DiskFault) old new failed
Seals summed (Err (fault.Damaged at)) old new failed = ⊥
Seals summed (Err (fault.Full length)) old new failed = (summed ≡ false) × Appends {T = Bool} (sealed_file old.file) (Err (fault.Full length)) old new failed
Seals summed (Err fault.NoMemory) old new failed = ⊥
Seals summed (Err fault.Down) old new failed = (old.down ≡ true) × (new ≡ old)
