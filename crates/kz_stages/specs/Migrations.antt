-- The request that begins a migration: there is none where the znodes can't be translated.
use Rattle.std.specs.Prelude.{◌≡◌, ⊤, ℕ, Bool, true, ℤ, List, [], ◌∷◌, Option, Result, Ok, Err, if◌then◌else◌}
use Rattle.kz_types.specs.declared.plan.Plan.{Plan}
use Rattle.kz_types.specs.declared.record.MetaRecord.{MetaRecord}
use Rattle.kz_spec_data.specs.Log.{Log, append}
use Rattle.kz_spec_data.specs.Requests.{Disk, LogChange, Append, Either, IsTaken, ChangesDisk}
use Rattle.kz_spec_data.specs.Translation.{Unreadable}
use Rattle.kz_spec_machine.specs.Driver.{hears_answer, begin_record, is_limit}
use Rattle.kz_connection.specs.Connections.{Wired}
use Rattle.kz_requests.specs.declared.fault.StepFault.{StepFault}
use Rattle.kz_requests.specs.Fares.{IsHeard, Fares, IsAfterRequest}
use Rattle.kz_requests.specs.Appends.{log_after}
use Rattle.kz_requests.specs.Disks.{answer_of_made, LogDisk}
use Rattle.kz_stages.specs.Disks.{AsksNothing}

-- the log with the record that begins the migration
abbrev pub begun_log : Log → ℤ → ℤ → Log
begun_log l epoch now = log_after (append l epoch now (begin_record ∷ [])) l

abbrev pub IsBegun : {A : Type 0} → Bool → Log → ℤ → ℤ → Result (List MetaRecord) Unreadable → Result A StepFault → Log → Type 0
IsBegun reaches l epoch now (Ok records) result new = IsAfterRequest reaches (begun_log l epoch now) l result new
IsBegun reaches l epoch now (Err e) result new = new ≡ l

abbrev pub BeginFares : {A T : Type 0} → Log → ℤ → ℤ → Result (List MetaRecord) Unreadable → Result A StepFault → Wired T → Wired T → Type 0
BeginFares l epoch now (Ok records) result old new = Fares true (is_limit (append l epoch now (begin_record ∷ []))) result old new
BeginFares l epoch now (Err e) result old new = IsHeard hears_answer result × (new ≡ old)

abbrev pub BeginDisk : {A : Type 0} → (Log → LogChange → ℕ) → Log → ℤ → ℤ → Result (List MetaRecord) Unreadable → Plan → Result A StepFault → Disk → Disk → Type 0
BeginDisk bytes l epoch now (Ok records) p result old new =
    LogDisk (ChangesDisk (IsTaken (append l epoch now (begin_record ∷ []))) (bytes l (Append epoch now (begin_record ∷ [])))) (answer_of_made (append l epoch now (begin_record ∷ []))) p result old new
BeginDisk bytes l epoch now (Err e) p result old new = AsksNothing result × (new ≡ old)

abbrev pub BeginStop : Bool → Log → ℤ → ℤ → Result (List MetaRecord) Unreadable → (Option Log → Type 0) → Type 0
BeginStop reaches l epoch now (Ok records) left = Either l (if reaches then begun_log l epoch now else l) left
BeginStop reaches l epoch now (Err e) left = ⊤
