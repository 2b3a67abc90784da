-- Calls of a disk that only read, and why one fails.
use Rattle.std.specs.Prelude.{◌≡◌, ℕ, Bool, true, List, Option, Result, Ok, Err}
use Rattle.kz_types.specs.Causes.{Rose}
use Rattle.kz_disk.specs.Disks.{LeavesNoMore, LeavesOnly}
use Rattle.kz_journal.specs.declared.read.ReadFault.{ReadFault}
use Rattle.kz_journal.specs.declared.read.ReadFault.TheVariants as fault

-- What is told stays, and a stop at any moment leaves what it might have left before.
pub record OnlyReads {D : Type 0} (told : D → Option (List ℕ)) (may_leave : D → List ℕ → Type 0) (moment : D → ℕ) (left_since : D → ℕ → List ℕ → Type 0) (old new : D) : Type 0 where
  pub same : told new ≡ told old
  pub stop : LeavesNoMore (may_leave old) (may_leave new)
  pub moments : LeavesOnly moment left_since old new (may_leave old)

-- The disk failed only where its count of failures rose in this call, and its last call failed. Else the count stands.
abbrev pub ReadCause : {T : Type 0} → ℕ → ℕ → Bool → Result T ReadFault → Type 0
ReadCause before now failed (Ok x) = now ≡ before
ReadCause before now failed (Err fault.Failed) = Rose before now × (failed ≡ true)
ReadCause before now failed (Err fault.NoMemory) = now ≡ before
