-- Why a file isn't opened as a log.
use Rattle.std.proofs.Common.{◌≡◌, ◌<◌, ◌^◌, ℕ, Bool, true, List, length, Option, Some, Err, refl, sym, ap, ◌∙◌, subst}
use Rattle.kz_spec_data.specs.Frames.{log_letter, journal_of}
use Rattle.kz_types.specs.declared.fault.LogWhy.TheVariants.{Header}
use Rattle.kz_spec_data.specs.LogFile.{after_frames, log_in, log_of}
use Rattle.kz_journal.specs.declared.fault.JournalFault.{JournalFault}
use Rattle.kz_journal.specs.declared.fault.JournalFault.TheVariants.{DiskFault, Damaged, Full, NoMemory, Down}
use Rattle.kz_journal.specs.Openings.{no_journal, IsRefused, HasFaultCause, Settles}
use Rattle.kz_types.specs.Causes.{Rose}
use Rattle.kz_spec_data.specs.Requests.{Disk}
use Rattle.kz_log_store.specs.declared.fault.LogOpenFault.{LogOpenFault}
use Rattle.kz_log_store.specs.declared.fault.LogOpenFault.TheVariants as open_fault
use Rattle.kz_log_store.specs.Opened.{open_fault_of, Reads, EndsReading}
use Rattle.kz_log_store.specs.Stores.{IsUnopened, HasOpenCause, LeftByOpening}

no_log : log_in no_journal ≡ Err (0, Header)
unfolding after_frames
no_log = refl

pub unopened : (fault : JournalFault) (before now : Option (List ℕ)) → IsRefused log_letter fault before now → IsUnopened (open_fault_of fault) before now
unopened DiskFault before now is = tt
unopened (Damaged at) before now is = λ file told. (ap log_in (is.2 file told).1 ∙ no_log ∙ ap (λ n. Err (n, Header)) (sym is.0), (file, is.1 ∙ told, refl))
unopened (Full length) before now is = absurd is
unopened NoMemory before now is = absurd is
unopened Down before now is = absurd is

pub open_cause : (fault : JournalFault) (before now : ℕ) (failed : Bool) → HasFaultCause fault before now failed → HasOpenCause (open_fault_of fault) before now failed
open_cause DiskFault before now failed is = is
open_cause (Damaged at) before now failed is = is
open_cause (Full length) before now failed is = absurd is
open_cause NoMemory before now failed is = is
open_cause Down before now failed is = absurd is

same_bytes : (told : Option (List ℕ)) (a b : List ℕ) → told ≡ Some a → told ≡ Some b → b ≡ a
same_bytes told a b h k = cc

-- where nothing pends, a stop leaves the file
pub settles : (told : Option (List ℕ)) (leaves left : List ℕ → Type 0) (syncs now : ℕ) → Settles told leaves syncs now left → LeftByOpening told leaves syncs now left
settles told leaves left syncs now h begun file is few bytes may = ap (journal_of log_letter) (same_bytes told file bytes is (h begun bytes may))

-- ---- after the journal is open

pub read_cause : (T : Type 0) (f : LogOpenFault) (old new : Disk) (failed : Bool) (before : ℕ) → old.faults ≡ before → EndsReading {T = T} (Err f) old new failed → HasOpenCause f before new.faults failed
read_cause T open_fault.DiskFault old new failed before is h = subst (λ n. Rose n new.faults × (failed ≡ true)) is h
read_cause T (open_fault.Damaged at why) old new failed before is h = h.1 ∙ is
read_cause T open_fault.NoMemory old new failed before is h = h.1 ∙ is

pub read_refused : (f : LogOpenFault) (before now : Option (List ℕ)) → ((file : List ℕ) → before ≡ Some file → Reads file (Err f) now) → IsUnopened f before now
read_refused open_fault.DiskFault before now h = tt
read_refused (open_fault.Damaged at why) before now h = λ file told. let read = h file told in (read.1, (file, read.0, refl))
read_refused open_fault.NoMemory before now h = λ file told. (file, h file told, refl)

pub read_left : (before : Option (List ℕ)) (leaves left : List ℕ → Type 0) (syncs now : ℕ)
    → ((file : List ℕ) → before ≡ Some file → length file < 2 ^ 32 → (bytes : List ℕ) → left bytes → journal_of log_letter bytes ≡ journal_of log_letter file) → LeftByOpening before leaves syncs now left
read_left before leaves left syncs now h = λ begun file told few bytes may. h file told few bytes may
