-- What is copied after a step, under each plan.
use Rattle.std.proofs.Common.{◌≡◌, ℤ, Bool, true, false, if◌then◌else◌, List, [], ◌∷◌, take, drop, refl, sym, subst}
use Rattle.std.specs.Prelude.{Result, Ok, Err}
use Rattle.kz_types.specs.declared.limits.TheConstants.{MAX_APPEND_RECORDS}
use Rattle.kz_types.specs.declared.tree.Row.{Row}
use Rattle.kz_types.specs.declared.driver.Stage.{Stage}
use Rattle.kz_types.specs.declared.driver.Stage.TheVariants as stage
use Rattle.kz_types.specs.declared.plan.Plan.{Plan}
use Rattle.kz_types.specs.declared.plan.Plan.TheVariants as plan
use Rattle.kz_types.specs.declared.record.MetaRecord.{MetaRecord}
use Rattle.kz_spec_data.specs.Log.{append}
use Rattle.kz_spec_data.specs.Translation.{Unreadable, translate}
use Rattle.kz_spec_machine.specs.Driver.{Shared, Driver, epoch_or_zero, begin_record, commit_records, begin_request, request_at, shared_after, after_translation, after_answer, hearing, reaches_store, driver_after, planned_step}
use Rattle.kz_spec_machine.specs.Sound.{IsTime, IsSharedSound, IsSoundDriver}
use Rattle.kz_laws_events.specs.Steps.{AppendsNothing, IsApartFrom}
use Rattle.kz_laws_events.proofs.Planned.{planned_by}
use Rattle.kz_laws_commits.specs.Commits.{Copies, StepCopies}
use Rattle.kz_laws_commits.proofs.Quiet.{step_quiet}
use Rattle.kz_laws_commits.proofs.Own.{begin_copies, append_copies}
use Rattle.kz_laws_commits.proofs.Others.{quiet_copies, others_copy}

-- ---- the driver itself

-- what it copies after a step at this stage
abbrev OwnCopies : Plan → Shared → List ℤ → ℤ → Driver → Stage → Type 0
OwnCopies p s running now d x = Copies (if reaches_store p (request_at s now d x) then shared_after s (epoch_or_zero d.epoch) now (request_at s now d x) else s)
    (driver_after (hearing p s (epoch_or_zero d.epoch) now (request_at s now d x)) (after_answer s running now d x) (request_at s now d x) d).0

begin_by : (p : Plan) (s : Shared) (now : ℤ) (d : Driver) (rows : List Row) (t : Result (List MetaRecord) Unreadable) → translate rows ≡ t → IsSharedSound s → IsSoundDriver s d → Copies s d → d.stage ≡ stage.BeginMigration rows
    → Copies (if reaches_store p (begin_request t) then shared_after s (epoch_or_zero d.epoch) now (begin_request t) else s)
    (driver_after (hearing p s (epoch_or_zero d.epoch) now (begin_request t)) (after_translation s now d t) (begin_request t) d).0
begin_by p s now d rows (Ok records) is kept fine copies at =
    planned_by Copies p s d (begin_record ∷ []) (stage.AppendRecords records) (append s.log (epoch_or_zero d.epoch) now (begin_record ∷ [])) copies tt (λ new made. (begin_copies s now d rows records new kept fine at is made, tt))
begin_by plan.Deliver s now d rows (Err e) is kept fine copies at = tt
begin_by plan.LostBefore s now d rows (Err e) is kept fine copies at = tt
begin_by plan.LostAfter s now d rows (Err e) is kept fine copies at = tt
begin_by plan.Expired s now d rows (Err e) is kept fine copies at = tt

append_own : (p : Plan) (s : Shared) (running : List ℤ) (now : ℤ) (d : Driver) (records : List MetaRecord) → IsSharedSound s → IsSoundDriver s d → Copies s d → d.stage ≡ stage.AppendRecords records → OwnCopies p s running now d (stage.AppendRecords records)
append_own p s running now d [] kept fine copies at =
    planned_by Copies p s d commit_records stage.ReadLogForResync (append s.log (epoch_or_zero d.epoch) now commit_records) copies tt (λ new made. (tt, tt))
append_own p s running now d (r ∷ rs) kept fine copies at =
    planned_by Copies p s d (take MAX_APPEND_RECORDS (r ∷ rs)) (stage.AppendRecords (drop MAX_APPEND_RECORDS (r ∷ rs))) (append s.log (epoch_or_zero d.epoch) now (take MAX_APPEND_RECORDS (r ∷ rs))) copies tt
    (λ new made. (append_copies s now d r rs new kept fine copies at made, tt))

own_of : (p : Plan) (s : Shared) (running : List ℤ) (now : ℤ) (d : Driver) (x : Stage) → d.stage ≡ x → OwnCopies p s running now d x → Copies (planned_step p s running now d).shared (planned_step p s running now d).driver
unfolding planned_step
own_of p s running now d x is copies = subst (OwnCopies p s running now d) (sym is) copies

own_quiet : (p : Plan) (s : Shared) (running : List ℤ) (now : ℤ) (d : Driver) (x : Stage) → d.stage ≡ x → AppendsNothing x → Copies (planned_step p s running now d).shared (planned_step p s running now d).driver
own_quiet p s running now d x is quiet =
    let r = planned_step p s running now d in
    quiet_copies r.shared.tree r.shared.log r.driver r.driver.stage (step_quiet p s running now d (subst AppendsNothing (sym is) quiet))

own_by : (p : Plan) (s : Shared) (running : List ℤ) (now : ℤ) (d : Driver) (x : Stage) → d.stage ≡ x → IsSharedSound s → IsSoundDriver s d → Copies s d → Copies (planned_step p s running now d).shared (planned_step p s running now d).driver
own_by p s running now d (stage.BeginMigration rows) is kept fine copies = own_of p s running now d (stage.BeginMigration rows) is (begin_by p s now d rows (translate rows) refl kept fine copies is)
own_by p s running now d (stage.AppendRecords records) is kept fine copies = own_of p s running now d (stage.AppendRecords records) is (append_own p s running now d records kept fine copies is)
own_by p s running now d x is kept fine copies = own_quiet p s running now d x is tt

-- ---- the others

either_copies : (b : Bool) (x s : Shared) (f : Driver) → Copies x f → Copies s f → Copies (if b then x else s) f
either_copies true x s f made old = made
either_copies false x s f made old = old

others_by : (p : Plan) (s : Shared) (running : List ℤ) (now : ℤ) (d f : Driver) → IsTime now → IsSharedSound s → IsSoundDriver s d → IsApartFrom d f → IsSoundDriver s f → Copies s f → Copies (planned_step p s running now d).shared f
unfolding planned_step
others_by p s running now d f time kept fine apart other copies =
    let r = request_at s now d d.stage in
    either_copies (reaches_store p r) (shared_after s (epoch_or_zero d.epoch) now r) s f (others_copy s now d d.stage f refl time kept fine apart other copies) copies

pub step_copies : (p : Plan) (s : Shared) (running : List ℤ) (now : ℤ) (d : Driver) → IsTime now → IsSharedSound s → IsSoundDriver s d → Copies s d → StepCopies s d (planned_step p s running now d).shared (planned_step p s running now d).driver
step_copies p s running now d time kept fine copies = record {
  driver = own_by p s running now d d.stage refl kept fine copies;
  others = λ f apart other old. others_by p s running now d f time kept fine apart other old;
}
