-- What a change of a store did to the journal of its file.
use Rattle.std.specs.Prelude.{◌≡◌, ℕ, Bool, true, false, List, Option, Some, is_some, Result, Ok, Err, ⊤}
use Rattle.kz_types.specs.Causes.{Rose}
use Rattle.kz_spec_data.specs.Requests.{Disk, Fits, IsTooLong, StoreAnswer}
use Rattle.kz_spec_data.specs.Requests as answers
use Rattle.kz_spec_data.specs.Frames.{journal_of, journal_with_frame, HasNoRoomForSeal}
use Rattle.kz_journal.specs.Held.{IsSealed}
use Rattle.kz_journal.specs.Journals.{sealed_file}
use Rattle.kz_journal.specs.declared.change_fault.ChangeFault.{ChangeFault}
use Rattle.kz_journal.specs.declared.change_fault.ChangeFault.TheVariants as fault

abbrev pub answer_of_change_fault : ChangeFault → StoreAnswer
answer_of_change_fault fault.Failed = answers.Failed
answer_of_change_fault (fault.Full length) = answers.Full length
answer_of_change_fault fault.NoMemory = answers.NoMemory

-- where no frame was written, and so no call of the disk was made, this holds
abbrev pub IfUnwritten : {T : Type 0} → Result T ChangeFault → Type 0 → Type 0
IfUnwritten (Ok done) same = ⊤
IfUnwritten (Err fault.Failed) same = ⊤
IfUnwritten (Err (fault.Full length)) same = same
IfUnwritten (Err fault.NoMemory) same = same

-- where no seal was written, and so no call of the disk was made, this holds
abbrev pub IfUnsealed : Result Bool ChangeFault → Type 0 → Type 0
IfUnsealed (Ok true) same = ⊤
IfUnsealed (Ok false) same = same
IfUnsealed (Err fault.Failed) same = ⊤
IfUnsealed (Err (fault.Full length)) same = same
IfUnsealed (Err fault.NoMemory) same = same

-- The file that is told now has one frame more.
abbrev pub HasFrame : ℕ → List ℕ → List ℕ → Option (List ℕ) → Type 0
HasFrame letter payload file told = (new : List ℕ) × (told ≡ Some new) × (journal_of letter new ≡ journal_with_frame payload (journal_of letter file))

-- What a call for a seal made of a file, by its answer: the file has a seal more, or needed none; or it has no room for one, and is
-- the same.
abbrev pub AnswersSeal : ℕ → List ℕ → Result Bool ChangeFault → Option (List ℕ) → Type 0
AnswersSeal letter file (Ok done) told = IsSealed letter file done told
AnswersSeal letter file (Err fault.Failed) told = ⊤
AnswersSeal letter file (Err (fault.Full length)) told = (told ≡ Some file) × HasNoRoomForSeal letter file
AnswersSeal letter file (Err fault.NoMemory) told = ⊥

-- What a call for a seal did to the disk, by its answer: whether one was written. The journal is down from the call on in which a
-- call of the disk failed.
abbrev pub SealsFile : Result Bool ChangeFault → Disk → Disk → Type 0
SealsFile (Ok true) old new = Fits (sealed_file old.file) × (new ≡ record old { file = sealed_file old.file })
SealsFile (Ok false) old new = new ≡ old
SealsFile (Err fault.Failed) old new = Fits (sealed_file old.file) × Rose old.faults new.faults × (new.down ≡ true) × (is_some new.file ≡ is_some old.file)
SealsFile (Err (fault.Full length)) old new = IsTooLong (sealed_file old.file) length × (new ≡ old)
SealsFile (Err fault.NoMemory) old new = ⊥
