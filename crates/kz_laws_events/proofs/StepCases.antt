-- Every step, under each plan.
use Rattle.std.proofs.Common.{◌≡◌, ℤ, Bool, true, false, if◌then◌else◌, List, [], ◌∷◌, take, drop, refl, sym, subst}
use Rattle.std.specs.Prelude.{Result, Ok, Err}
use Rattle.kz_types.specs.declared.limits.TheConstants.{MAX_APPEND_RECORDS}
use Rattle.kz_types.specs.declared.tree.Row.{Row}
use Rattle.kz_types.specs.declared.driver.Stage.{Stage}
use Rattle.kz_types.specs.declared.driver.Stage.TheVariants as stage
use Rattle.kz_types.specs.declared.plan.Plan.{Plan}
use Rattle.kz_types.specs.declared.plan.Plan.TheVariants as plan
use Rattle.kz_types.specs.declared.record.MetaRecord.{MetaRecord}
use Rattle.kz_spec_data.specs.Log.{append}
use Rattle.kz_spec_data.specs.Translation.{Unreadable, translate}
use Rattle.kz_spec_machine.specs.Driver.{Shared, Driver, at_stage, epoch_or_zero, begin_record, commit_records, begin_request, request_at, shared_after, after_translation, after_answer, hearing, reaches_store, driver_after, planned_step}
use Rattle.kz_spec_machine.specs.Sound.{IsTime, AtStage, MayNotKnow, WasElected, shown_in, is_filling, IsSharedSound, IsSoundDriver}
use Rattle.kz_laws_events.specs.Steps.{AppendsNothing, StepKeeps}
use Rattle.kz_laws_events.proofs.Ways.{moved}
use Rattle.kz_laws_events.proofs.Stepped.{step_keeps}
use Rattle.kz_laws_events.proofs.Filling.{begun, appended}
use Rattle.kz_laws_events.proofs.Committed.{committed}
use Rattle.kz_laws_events.proofs.Planned.{planned_append}

-- what a step keeps whose driver is at this stage
abbrev Kept : Plan → Shared → List ℤ → ℤ → Driver → Stage → Type 0
Kept p s running now d x = StepKeeps s d (if reaches_store p (request_at s now d x) then shared_after s (epoch_or_zero d.epoch) now (request_at s now d x) else s)
    (driver_after (hearing p s (epoch_or_zero d.epoch) now (request_at s now d x)) (after_answer s running now d x) (request_at s now d x) d).0

-- ---- the begin

-- where the znodes can't be translated, the driver reads them anew
read_anew : (s : Shared) (d : Driver) (rows : List Row) → IsSharedSound s → IsSoundDriver s d → d.stage ≡ stage.BeginMigration rows → IsSoundDriver s (at_stage (stage.ScanForMigration []) d)
read_anew s d rows kept fine at =
    let held : AtStage s.tree s.log d (stage.BeginMigration rows) = subst (AtStage s.tree s.log d) at fine.stage in
    moved s d (stage.ScanForMigration []) fine (subst (WasElected d.epoch) at fine.elected) (Rattle.std.proofs.Common.ap is_filling at)
    (λ migrated none some. subst (MayNotKnow (shown_in s.tree) d.epoch) at (fine.views.unknown migrated none some))
    (held.0, λ c. record { rest = rows; whole = held.1 c })

begin_by : (p : Plan) (s : Shared) (running : List ℤ) (now : ℤ) (d : Driver) (rows : List Row) (t : Result (List MetaRecord) Unreadable) → translate rows ≡ t → IsSharedSound s → IsSoundDriver s d → d.stage ≡ stage.BeginMigration rows
    → StepKeeps s d (if reaches_store p (begin_request t) then shared_after s (epoch_or_zero d.epoch) now (begin_request t) else s)
    (driver_after (hearing p s (epoch_or_zero d.epoch) now (begin_request t)) (after_translation s now d t) (begin_request t) d).0
begin_by p s running now d rows (Ok records) is kept fine at =
    planned_append p s d (begin_record ∷ []) (stage.AppendRecords records) (append s.log (epoch_or_zero d.epoch) now (begin_record ∷ [])) kept fine (λ new made. begun s now d rows records new kept fine at is made)
begin_by plan.Deliver s running now d rows (Err e) is kept fine at = record { shared = kept; driver = read_anew s d rows kept fine at; others = λ f apart old. old }
begin_by plan.LostBefore s running now d rows (Err e) is kept fine at = record { shared = kept; driver = read_anew s d rows kept fine at; others = λ f apart old. old }
begin_by plan.LostAfter s running now d rows (Err e) is kept fine at = record { shared = kept; driver = read_anew s d rows kept fine at; others = λ f apart old. old }
begin_by plan.Expired s running now d rows (Err e) is kept fine at = record { shared = kept; driver = read_anew s d rows kept fine at; others = λ f apart old. old }

begin_at : (p : Plan) (s : Shared) (running : List ℤ) (now : ℤ) (d : Driver) (rows : List Row) → IsSharedSound s → IsSoundDriver s d → d.stage ≡ stage.BeginMigration rows → Kept p s running now d (stage.BeginMigration rows)
begin_at p s running now d rows kept fine at = begin_by p s running now d rows (translate rows) refl kept fine at

-- ---- the records and the commit

append_at : (p : Plan) (s : Shared) (running : List ℤ) (now : ℤ) (d : Driver) (records : List MetaRecord) → IsSharedSound s → IsSoundDriver s d → d.stage ≡ stage.AppendRecords records → Kept p s running now d (stage.AppendRecords records)
append_at p s running now d [] kept fine at =
    planned_append p s d commit_records stage.ReadLogForResync (append s.log (epoch_or_zero d.epoch) now commit_records) kept fine (λ new made. committed s now d new kept fine at made)
append_at p s running now d (r ∷ rs) kept fine at =
    planned_append p s d (take MAX_APPEND_RECORDS (r ∷ rs)) (stage.AppendRecords (drop MAX_APPEND_RECORDS (r ∷ rs))) (append s.log (epoch_or_zero d.epoch) now (take MAX_APPEND_RECORDS (r ∷ rs))) kept fine (λ new made. appended s now d r rs new kept fine at made)

-- ---- every step

at_stage_of : (p : Plan) (s : Shared) (running : List ℤ) (now : ℤ) (d : Driver) (x : Stage) → d.stage ≡ x → Kept p s running now d x → StepKeeps s d (planned_step p s running now d).shared (planned_step p s running now d).driver
unfolding planned_step
at_stage_of p s running now d x is kept = subst (Kept p s running now d) (sym is) kept

pub begin_step : (p : Plan) (s : Shared) (running : List ℤ) (now : ℤ) (d : Driver) (rows : List Row) → IsSharedSound s → IsSoundDriver s d → d.stage ≡ stage.BeginMigration rows → StepKeeps s d (planned_step p s running now d).shared (planned_step p s running now d).driver
begin_step p s running now d rows kept fine at = at_stage_of p s running now d (stage.BeginMigration rows) at (begin_at p s running now d rows kept fine at)

pub append_step : (p : Plan) (s : Shared) (running : List ℤ) (now : ℤ) (d : Driver) (records : List MetaRecord) → IsSharedSound s → IsSoundDriver s d → d.stage ≡ stage.AppendRecords records → StepKeeps s d (planned_step p s running now d).shared (planned_step p s running now d).driver
append_step p s running now d records kept fine at = at_stage_of p s running now d (stage.AppendRecords records) at (append_at p s running now d records kept fine at)

quiet_step : (p : Plan) (s : Shared) (running : List ℤ) (now : ℤ) (d : Driver) (x : Stage) → d.stage ≡ x → AppendsNothing x → IsTime now → IsSharedSound s → IsSoundDriver s d → StepKeeps s d (planned_step p s running now d).shared (planned_step p s running now d).driver
quiet_step p s running now d x is quiet time kept fine = step_keeps p s running now d time (subst AppendsNothing (sym is) quiet) kept fine

step_by : (p : Plan) (s : Shared) (running : List ℤ) (now : ℤ) (d : Driver) (x : Stage) → d.stage ≡ x → IsTime now → IsSharedSound s → IsSoundDriver s d → StepKeeps s d (planned_step p s running now d).shared (planned_step p s running now d).driver
step_by p s running now d (stage.BeginMigration rows) is time kept fine = begin_step p s running now d rows kept fine is
step_by p s running now d (stage.AppendRecords records) is time kept fine = append_step p s running now d records kept fine is
step_by p s running now d x is time kept fine = quiet_step p s running now d x is tt time kept fine

pub all_steps : (p : Plan) (s : Shared) (running : List ℤ) (now : ℤ) (d : Driver) → IsTime now → IsSharedSound s → IsSoundDriver s d → StepKeeps s d (planned_step p s running now d).shared (planned_step p s running now d).driver
all_steps p s running now d time kept fine = step_by p s running now d d.stage refl time kept fine
