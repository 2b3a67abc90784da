-- What an event that asks a store by itself does to the store's disk.
use Rattle.std.specs.Prelude.{◌≡◌, ℕ, Result, Ok, Err}
use Rattle.kz_spec_data.specs.Requests.{Disk, StoreAnswer, Done, NoMemory, answer_of_tree_fault, answer_of_log_fault, IsTaken, ChangesDisk, ReadsDisk}
use Rattle.kz_requests.specs.Disks.{IsOfStore, answer_of_made}
use Rattle.kz_driver.specs.Disks.{Disks}
use Rattle.kz_world_parts.specs.declared.faults.EventFault.{EventFault}
use Rattle.kz_world_parts.specs.declared.faults.EventFault.TheVariants as event_fault

-- This holds of the tree's answer, of which a fault of the event tells.
abbrev pub OnTreeFault : (StoreAnswer → Type 0) → EventFault → Type 0
OnTreeFault holds (event_fault.Tree f) = IsOfStore (answer_of_tree_fault f) × holds (answer_of_tree_fault f)
OnTreeFault holds (event_fault.Log f) = ⊥
OnTreeFault holds event_fault.NoMemory = holds NoMemory

-- This holds of the tree's answer, which is `said` where the event has an answer.
abbrev pub OnTree : {A : Type 0} → (StoreAnswer → Type 0) → StoreAnswer → Result A EventFault → Type 0
OnTree holds said (Ok told) = holds said
OnTree holds said (Err f) = OnTreeFault holds f

-- the same of the log
abbrev pub OnLogFault : (StoreAnswer → Type 0) → EventFault → Type 0
OnLogFault holds (event_fault.Tree f) = ⊥
OnLogFault holds (event_fault.Log f) = IsOfStore (answer_of_log_fault f) × holds (answer_of_log_fault f)
OnLogFault holds event_fault.NoMemory = holds NoMemory

abbrev pub OnLog : {A : Type 0} → (StoreAnswer → Type 0) → StoreAnswer → Result A EventFault → Type 0
OnLog holds said (Ok told) = holds said
OnLog holds said (Err f) = OnLogFault holds f

-- no store is asked
abbrev pub AsksNothing : {A : Type 0} → Result A EventFault → Disks → Disks → Type 0
AsksNothing (Ok told) old new = new ≡ old
AsksNothing (Err (event_fault.Tree f)) old new = ⊥
AsksNothing (Err (event_fault.Log f)) old new = ⊥
AsksNothing (Err event_fault.NoMemory) old new = new ≡ old

-- the log is read
abbrev pub ReadsLog : {A : Type 0} → Result A EventFault → Disks → Disks → Type 0
ReadsLog result old new = OnLog (λ answer. ReadsDisk answer old.log new.log) Done result × (new.tree ≡ old.tree)

-- The tree's disk, where the tree is asked for a change, which the definition answers with `made`, and for which its file gets a
-- frame whose payload has so many bytes.
abbrev pub IsTreeChange : {A B E : Type 0} → Result B E → ℕ → Result A EventFault → Disk → Disk → Type 0
IsTreeChange made payload result old new = OnTree (λ answer. ChangesDisk (IsTaken made) payload answer old new) (answer_of_made made) result

-- the same of the log
abbrev pub IsLogChange : {A B E : Type 0} → Result B E → ℕ → Result A EventFault → Disk → Disk → Type 0
IsLogChange made payload result old new = OnLog (λ answer. ChangesDisk (IsTaken made) payload answer old new) (answer_of_made made) result

-- the tree is asked for such a change
abbrev pub ChangesTree : {A B E : Type 0} → Result B E → ℕ → Result A EventFault → Disks → Disks → Type 0
ChangesTree made payload result old new = IsTreeChange made payload result old.tree new.tree × (new.log ≡ old.log)

-- the log is
abbrev pub ChangesLog : {A B E : Type 0} → Result B E → ℕ → Result A EventFault → Disks → Disks → Type 0
ChangesLog made payload result old new = IsLogChange made payload result old.log new.log × (new.tree ≡ old.tree)
