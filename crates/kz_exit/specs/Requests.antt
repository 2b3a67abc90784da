-- What each request of a rollback answers, and what it does to its store's disk.
use Rattle.std.specs.Prelude.{◌≡◌, ⊤, ℕ, not, Option, Some, None, Result, Ok, Err, if◌then◌else◌}
use Rattle.std.specs.Ordering.{int_eq}
use Rattle.kz_types.specs.declared.codes.TheConstants.{POST_MIGRATION}
use Rattle.kz_types.specs.declared.machine.Answer.{Answer}
use Rattle.kz_types.specs.declared.machine.Answer.TheVariants as answer
use Rattle.kz_types.specs.declared.fault.TreeFault.{TreeFault}
use Rattle.kz_types.specs.declared.fault.LogFault.{LogFault}
use Rattle.kz_types.specs.declared.fault.LogFault.TheVariants as log_fault
use Rattle.kz_spec_data.specs.Image.{is_migrated_state}
use Rattle.kz_spec_data.specs.Log.{View}
use Rattle.kz_spec_data.specs.Tree.{Tree as TreeValue}
use Rattle.kz_spec_data.specs.Requests.{Disk, Done, answer_of_tree_fault, answer_of_log_fault, ChangesDisk, ReadsDisk}
use Rattle.kz_spec_machine.specs.Machine.{first_of, unless, rest_refusal}
use Rattle.kz_exit.specs.declared.faults.ExitFault.{ExitFault}
use Rattle.kz_exit.specs.declared.faults.ExitFault.TheVariants.{Finalised, Unclosed, Behind, Log, Tree, NoMemory}
use Rattle.kz_exit.specs.Disks.{ResetsDisk}
use Rattle.kz_exit.specs.Faults.{IsLogFault, IsTreeFault}

-- ---- the log is read

-- a log that wasn't read: its store was down before
abbrev pub IsReadLogFault : LogFault → Type 0
IsReadLogFault (log_fault.Stale epoch) = ⊥
IsReadLogFault log_fault.Failed = ⊥
IsReadLogFault (log_fault.Limit number) = ⊥
IsReadLogFault log_fault.NoMemory = ⊥
IsReadLogFault log_fault.Down = ⊤
IsReadLogFault (log_fault.Full length) = ⊥

abbrev pub IsReadFault : ExitFault → Type 0
IsReadFault Finalised = ⊥
IsReadFault (Unclosed path) = ⊥
IsReadFault (Behind recorded end) = ⊥
IsReadFault (Log f) = IsReadLogFault f
IsReadFault (Tree f) = ⊥
IsReadFault NoMemory = ⊤

abbrev pub ReadDisk : Result View ExitFault → Disk → Disk → Type 0
ReadDisk (Ok told) old new = ReadsDisk Done old new
ReadDisk (Err (Log f)) old new = ReadsDisk (answer_of_log_fault f) old new
ReadDisk (Err fault) old new = new ≡ old

-- ---- what refuses a rollback

-- why a log isn't taken back of which this is known at its end
abbrev pub refusal_of : TreeValue → View → Option Answer
refusal_of t v = first_of (unless (not (int_eq v.image.state POST_MIGRATION)) answer.Finalised) (if is_migrated_state v.image.state then rest_refusal t v.position else None)

-- The rollback is refused, and the fault is exactly the refusal; or memory ran out. No other fault comes.
abbrev pub IsViewFault : Option Answer → ExitFault → Type 0
IsViewFault said Finalised = said ≡ Some answer.Finalised
IsViewFault said (Unclosed path) = said ≡ Some (answer.Unclosed path)
IsViewFault said (Behind recorded end) = said ≡ Some (answer.Behind recorded end)
IsViewFault said (Log f) = ⊥
IsViewFault said (Tree f) = ⊥
IsViewFault said NoMemory = ⊤

-- the same, or the log's store was down before
abbrev pub IsCheckFault : Option Answer → ExitFault → Type 0
IsCheckFault said Finalised = said ≡ Some answer.Finalised
IsCheckFault said (Unclosed path) = said ≡ Some (answer.Unclosed path)
IsCheckFault said (Behind recorded end) = said ≡ Some (answer.Behind recorded end)
IsCheckFault said (Log f) = IsReadLogFault f
IsCheckFault said (Tree f) = ⊥
IsCheckFault said NoMemory = ⊤

-- the log is read, whether the rollback is refused or not
abbrev pub CheckDisk : Result (Unit {0}) ExitFault → Disk → Disk → Type 0
CheckDisk (Ok told) old new = ReadsDisk Done old new
CheckDisk (Err Finalised) old new = ReadsDisk Done old new
CheckDisk (Err (Unclosed path)) old new = ReadsDisk Done old new
CheckDisk (Err (Behind recorded end)) old new = ReadsDisk Done old new
CheckDisk (Err (Log f)) old new = ReadsDisk (answer_of_log_fault f) old new
CheckDisk (Err (Tree f)) old new = ⊥
CheckDisk (Err NoMemory) old new = new ≡ old

-- ---- the log is reset

abbrev pub IsResetFault : ExitFault → Type 0
IsResetFault Finalised = ⊥
IsResetFault (Unclosed path) = ⊥
IsResetFault (Behind recorded end) = ⊥
IsResetFault (Log f) = IsLogFault None f
IsResetFault (Tree f) = ⊥
IsResetFault NoMemory = ⊤

abbrev pub ResetDisk : ℕ → Result (Unit {0}) ExitFault → Disk → Disk → Type 0
ResetDisk payload (Ok told) old new = ResetsDisk payload Done old new
ResetDisk payload (Err (Log f)) old new = ResetsDisk payload (answer_of_log_fault f) old new
ResetDisk payload (Err fault) old new = new ≡ old

-- ---- the tree is given back

abbrev pub IsMultiFault : Result TreeValue TreeFault → ExitFault → Type 0
IsMultiFault made Finalised = ⊥
IsMultiFault made (Unclosed path) = ⊥
IsMultiFault made (Behind recorded end) = ⊥
IsMultiFault made (Log f) = ⊥
IsMultiFault made (Tree f) = IsTreeFault made f
IsMultiFault made NoMemory = ⊤

abbrev pub MultiDisk : Type 0 → ℕ → Result (Unit {0}) ExitFault → Disk → Disk → Type 0
MultiDisk taken payload (Ok told) old new = ChangesDisk taken payload Done old new
MultiDisk taken payload (Err (Tree f)) old new = ChangesDisk taken payload (answer_of_tree_fault f) old new
MultiDisk taken payload (Err fault) old new = new ≡ old
