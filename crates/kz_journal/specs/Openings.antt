-- How a file is opened as a journal, or made one.
use Rattle.std.specs.Prelude.{◌≡◌, ◌⊎◌, ◌<◌, ℕ, Bool, true, false, ◌||◌, ⊤, List, [], take, bytes_eq, Option, Some}
use Rattle.kz_types.specs.Causes.{Rose}
use Rattle.kz_disk.specs.Disks.{NothingPends}
use Rattle.kz_spec_data.specs.Frames.{Journal, summed_header, plain_header, journal_of}
use Rattle.kz_journal.specs.declared.fault.JournalFault.{JournalFault}
use Rattle.kz_journal.specs.declared.fault.JournalFault.TheVariants as fault

-- what a file says that doesn't begin with the header of its letter
abbrev pub no_journal : Journal
no_journal = record { frames = []; end = 0; summed = false; damaged = true }

-- a file begins with the header of a journal of this letter
abbrev pub has_header : ℕ → List ℕ → Bool
has_header letter file = bytes_eq (take 16 file) (summed_header letter) || bytes_eq (take 16 file) (plain_header letter)

-- A file doesn't begin with such a header, and says no more than that it is damaged at 0.
abbrev pub IsNoJournal : ℕ → List ℕ → Type 0
IsNoJournal letter file = (has_header letter file ≡ false) × (journal_of letter file ≡ no_journal)

-- Why a file isn't opened: a call of the disk failed; or the file is damaged at 0, and is the same.
abbrev pub IsRefused : ℕ → JournalFault → Option (List ℕ) → Option (List ℕ) → Type 0
IsRefused letter fault.DiskFault before now = ⊤
IsRefused letter (fault.Damaged at) before now = (at ≡ 0) × (now ≡ before) × ((file : List ℕ) → before ≡ Some file → IsNoJournal letter file)
IsRefused letter (fault.Full length) before now = ⊥
IsRefused letter fault.NoMemory before now = ⊥
IsRefused letter fault.Down before now = ⊥

-- The count of failures after a fault: it rose where a call of the disk failed, and its last call failed; else it stands.
abbrev pub HasFaultCause : JournalFault → ℕ → ℕ → Bool → Type 0
HasFaultCause fault.DiskFault before now failed = Rose before now × (failed ≡ true)
HasFaultCause (fault.Damaged at) before now failed = now ≡ before
HasFaultCause (fault.Full length) before now failed = ⊥
HasFaultCause fault.NoMemory before now failed = now ≡ before
HasFaultCause fault.Down before now failed = ⊥

-- Where no write was pending before a call, or a sync has succeeded in it, a stop leaves what was told before the call, and nothing
-- else.
abbrev pub Settles : Option (List ℕ) → (List ℕ → Type 0) → ℕ → ℕ → (List ℕ → Type 0) → Type 0
Settles told leaves before now left = (NothingPends told leaves ⊎ (before < now)) → NothingPends told left
