-- What comes next in a file that has been read up to a gate.
use Rattle.std.specs.Prelude.{◌≡◌, ◌+◌, ◌^◌, ◌<◌, ◌≤◌, ℕ, true, false, ⊤, List, [], length, Option, Some, Result, Ok, Err}
use Rattle.kz_spec_data.specs.Requests.{StoreFile}
use Rattle.kz_spec_data.specs.Frames.{Journal, after_frame, journal_of}
use Rattle.kz_journal.specs.declared.next.Next.{Next}
use Rattle.kz_journal.specs.declared.next.Next.TheVariants as next
use Rattle.kz_journal.specs.declared.place.Place.{Place}
use Rattle.kz_journal.specs.declared.read.ReadFault.{ReadFault}
use Rattle.kz_journal.specs.declared.read.ReadFault.TheVariants as fault
use Rattle.kz_journal.specs.Journals.{IsReadTo, HasClosedGate, journal_at, file_of}

-- No frame is left, and nothing is damaged.
pub record IsAllRead (left : Journal) : Type 0 where
  pub none : left.frames ≡ []
  pub whole : left.damaged ≡ false

-- No frame is left before a damaged place.
pub record IsDamagedAt (left : Journal) (at : ℕ) : Type 0 where
  pub none : left.frames ≡ []
  pub damaged : left.damaged ≡ true
  pub place : left.end ≡ at

-- The file that is told now still says what a file said, and its frames end at a closed gate, which may be one byte more.
pub record SaysTheSame (letter : ℕ) (file : List ℕ) (told : Option (List ℕ)) (held : StoreFile) : Type 0 where
  pub new : List ℕ
  pub is : told ≡ Some new
  pub journal : journal_of letter new ≡ journal_of letter file
  pub held_is : held ≡ file_of letter new
  pub grown : length new ≤ length file + 1

-- The file that is told is the same, and has been read up to a further gate, after this frame.
pub record IsReadPast (letter : ℕ) (file : List ℕ) (place : Place) (at : ℕ) (payload : List ℕ) (further : Place) (told : Option (List ℕ)) : Type 0 where
  pub same : told ≡ Some file
  pub read : IsReadTo letter further file
  pub frame : journal_at place file ≡ after_frame (record { at = at; payload = payload }) (journal_at further file)

-- No frame is left, and the file that is told now says the same. It has been read up to the gate at its end, which is closed, and
-- may be one byte more.
pub record IsReadWhole (letter : ℕ) (file : List ℕ) (place further : Place) (told : Option (List ℕ)) : Type 0 where
  pub all : IsAllRead (journal_at place file)
  pub new : List ℕ
  pub is : told ≡ Some new
  pub journal : journal_of letter new ≡ journal_of letter file
  pub read : IsReadTo letter further new
  pub closed : HasClosedGate further new
  pub grown : length new ≤ length file + 1

-- This comes next in a file that has been read up to a place.
abbrev pub ComesNext : ℕ → List ℕ → Place → Next → Option (List ℕ) → Type 0
ComesNext letter file place (next.Frame at payload further) told = IsReadPast letter file place at payload further told
ComesNext letter file place (next.End further) told = IsReadWhole letter file place further told
ComesNext letter file place (next.Damaged at) told = (told ≡ Some file) × IsDamagedAt (journal_at place file) at

-- The place after it is within the file, whose length is in range.
abbrev pub IsInRange : Next → Type 0
IsInRange (next.Frame at payload further) = (further.gate ≤ further.length) × (further.length < 2 ^ 63)
IsInRange (next.End further) = (further.gate < further.length) × (further.length ≤ 2 ^ 63)
IsInRange (next.Damaged at) = ⊤

-- A frame ends further on, in a file of the same length.
abbrev pub IsOnward : Place → Next → Type 0
IsOnward place (next.Frame at payload further) = (place.gate < further.gate) × (further.length ≡ place.length)
IsOnward place (next.End further) = ⊤
IsOnward place (next.Damaged at) = ⊤

-- where no call of the disk failed, this holds
abbrev pub UnlessFailed : {T : Type 0} → Result T ReadFault → Type 0 → Type 0
UnlessFailed (Ok x) kept = kept
UnlessFailed (Err fault.Failed) kept = ⊤
UnlessFailed (Err fault.NoMemory) kept = kept

-- where memory ran out, this holds
abbrev pub IfNoMemory : {T : Type 0} → Result T ReadFault → Type 0 → Type 0
IfNoMemory (Ok x) kept = ⊤
IfNoMemory (Err fault.Failed) kept = ⊤
IfNoMemory (Err fault.NoMemory) kept = kept
