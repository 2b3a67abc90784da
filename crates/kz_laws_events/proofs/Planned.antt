-- An append under each plan.
use Rattle.std.proofs.Common.{◌≡◌, true, if◌then◌else◌, List, refl}
use Rattle.std.specs.Prelude.{Result, Ok, Err}
use Rattle.kz_types.specs.declared.driver.Stage.{Stage}
use Rattle.kz_types.specs.declared.fault.LogFault.{LogFault}
use Rattle.kz_types.specs.declared.fault.LogFault.TheVariants as log_fault
use Rattle.kz_types.specs.declared.plan.Plan.{Plan}
use Rattle.kz_types.specs.declared.plan.Plan.TheVariants as plan
use Rattle.kz_types.specs.declared.record.MetaRecord.{MetaRecord}
use Rattle.kz_spec_data.specs.Log.{Log}
use Rattle.kz_spec_machine.specs.Driver.{Shared, Driver, at_stage, resigned_driver, add, with_log, after_append, is_limit, reaches_store, hearing_of_request, driver_after}
use Rattle.kz_spec_machine.specs.Sound.{IsSharedSound, IsSoundDriver}
use Rattle.kz_laws_events.specs.Steps.{StepKeeps}
use Rattle.kz_laws_events.proofs.Ways.{lasts_of, resigned}
use Rattle.kz_laws_events.proofs.Uncommitted.{Both}

same_shared : (s : Shared) (d e : Driver) → IsSharedSound s → IsSoundDriver s e → StepKeeps s d s e
same_shared s d e kept own = record { shared = kept; driver = own; others = λ f apart old. old }

-- what is shared, and the driver, where the log gives this result
abbrev pub SharedOf : Plan → Shared → List MetaRecord → Result Log LogFault → Shared
SharedOf p s items r = if reaches_store p (add items) then with_log s r else s

abbrev pub DriverOf : Plan → Driver → List MetaRecord → Stage → Result Log LogFault → Driver
DriverOf p d items next r = (driver_after (hearing_of_request p true (is_limit r)) (after_append next d r) (add items) d).0

refused : (P : Shared → Driver → Type 0) (s : Shared) (d : Driver) (next : Stage) (f : LogFault) → P s d → P s (resigned_driver d) → P s (after_append next d (Err f)).0
refused P s d next (log_fault.Stale epoch) stays resigns = resigns
refused P s d next log_fault.Failed stays resigns = stays
refused P s d next (log_fault.Limit number) stays resigns = stays
refused P s d next log_fault.NoMemory stays resigns = stays
refused P s d next log_fault.Down stays resigns = stays
refused P s d next (log_fault.Full length) stays resigns = stays

lost_refused : (P : Shared → Driver → Type 0) (s : Shared) (d : Driver) (items : List MetaRecord) (next : Stage) (f : LogFault) → P s d → P s (resigned_driver d) → P s (DriverOf plan.LostAfter d items next (Err f))
lost_refused P s d items next (log_fault.Stale epoch) stays resigns = resigns
lost_refused P s d items next log_fault.Failed stays resigns = resigns
lost_refused P s d items next (log_fault.Limit number) stays resigns = stays
lost_refused P s d items next log_fault.NoMemory stays resigns = resigns
lost_refused P s d items next log_fault.Down stays resigns = resigns
lost_refused P s d items next (log_fault.Full length) stays resigns = resigns

-- What holds where the driver stays or resigns, and where its append is taken, heard of or lost, holds of an append under each plan.
pub planned_by : (P : Shared → Driver → Type 0) (p : Plan) (s : Shared) (d : Driver) (items : List MetaRecord) (next : Stage) (r : Result Log LogFault) → P s d → P s (resigned_driver d) → ((new : Log) → r ≡ Ok new → P (record s { log = new }) (at_stage next d) × P (record s { log = new }) (resigned_driver d))
    → P (SharedOf p s items r) (DriverOf p d items next r)
planned_by P plan.Deliver s d items next (Ok new) stays resigns made = (made new refl).0
planned_by P plan.Deliver s d items next (Err f) stays resigns made = refused P s d next f stays resigns
planned_by P plan.LostBefore s d items next r stays resigns made = resigns
planned_by P plan.LostAfter s d items next (Ok new) stays resigns made = (made new refl).1
planned_by P plan.LostAfter s d items next (Err f) stays resigns made = lost_refused P s d items next f stays resigns
planned_by P plan.Expired s d items next (Ok new) stays resigns made = (made new refl).0
planned_by P plan.Expired s d items next (Err f) stays resigns made = refused P s d next f stays resigns

pub planned_append : (p : Plan) (s : Shared) (d : Driver) (items : List MetaRecord) (next : Stage) (r : Result Log LogFault) → IsSharedSound s → IsSoundDriver s d → ((new : Log) → r ≡ Ok new → Both s d new (at_stage next d)) → StepKeeps s d (SharedOf p s items r) (DriverOf p d items next r)
planned_append p s d items next r kept fine made =
    planned_by (StepKeeps s d) p s d items next r (same_shared s d d kept fine) (same_shared s d (resigned_driver d) kept (resigned s d (lasts_of s d fine))) (λ new is. let both = made new is in (both.heard, both.lost))
