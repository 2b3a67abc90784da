-- Steps on a log whose migration is finalised.
use Rattle.std.proofs.Common.{◌≡◌, ◌≢◌, ◌⊎◌, inl, inr, ℤ, pos, Bool, true, false, if◌then◌else◌, List, [], ◌∷◌, take, Option, Some, None, Result, Ok, Err, refl, sym, ap, ◌∙◌, subst}
use Rattle.std.specs.Ordering.{int_eq}
use Rattle.std.proofs.lemmas.Bool.Decides.{Decides-int_eq}
use Rattle.kz_types.specs.declared.codes.TheConstants.{POST_MIGRATION}
use Rattle.kz_types.specs.declared.limits.TheConstants.{MAX_APPEND_RECORDS}
use Rattle.kz_types.specs.declared.driver.Stage.{Stage}
use Rattle.kz_types.specs.declared.driver.Stage.TheVariants as stage
use Rattle.kz_types.specs.declared.fault.TreeFault.{TreeFault}
use Rattle.kz_types.specs.declared.fault.LogFault.{LogFault}
use Rattle.kz_types.specs.declared.machine.DriverState.TheVariants as state
use Rattle.kz_types.specs.declared.machine.Recorded.{Recorded}
use Rattle.kz_types.specs.declared.machine.Reply.{Reply}
use Rattle.kz_types.specs.declared.machine.Reply.TheVariants as reply
use Rattle.kz_types.specs.declared.plan.Plan.{Plan}
use Rattle.kz_types.specs.declared.record.MetaRecord.{MetaRecord}
use Rattle.kz_types.specs.declared.tree.Op.{Op}
use Rattle.kz_types.specs.declared.tree.Row.{Row}
use Rattle.kz_spec_data.specs.Tree.{Tree, multi}
use Rattle.kz_spec_data.specs.Image.{is_migrated_state}
use Rattle.kz_spec_data.specs.Log.{Log, append, image_of, is_migrated_log}
use Rattle.kz_spec_data.specs.Translation.{Unreadable, translate}
use Rattle.kz_spec_machine.specs.Driver.{Shared, Driver, epoch_or_zero, resigned_driver, claim_ops, remaining_at, write_ops, begin_record, commit_records, begin_request, write_request, Request, read_log, request_at, with_tree, with_log, shared_after, reaches_store, Hearing, hears_answer, hears_nothing, hears_expiry, hearing, driver_after, driver_at_log_end, unless_finalised, after_answer, planned_step}
use Rattle.kz_spec_machine.specs.Machine.{is_finalised_log}
use Rattle.kz_spec_machine.specs.Sound.{IsTime, IsBelowShown, shown_in, WasElected, IsSharedSound, IsSoundDriver}
use Rattle.kz_laws_machine.proofs.Migration.{commit_migrates}
use Rattle.kz_laws_machine.proofs.FenceDrivers.{fenced_driver}
use Rattle.kz_laws_events.proofs.Named.{IsOf, step_of_own}
use Rattle.kz_laws_events.proofs.Tests.{true_or_false}
use Rattle.kz_laws_events.proofs.Filling.{begun_log, appended_log}
use Rattle.kz_laws_events.proofs.Committed.{ready}
use Rattle.kz_laws_exits.specs.Ends.{RestsAtStage, IsAhead, HasEnded, IsClosedAtEnd, StepEnds}
use Rattle.kz_laws_exits.proofs.Others.{LeavesOrPasses, step_passes}
use Rattle.kz_laws_exits.proofs.Ahead.{past_ahead, own_ahead}

-- ---- which logs are finalised

final_state : (state : ℤ) → int_eq state POST_MIGRATION ≡ true → is_migrated_state state ≡ true
final_state state is = ap is_migrated_state ((Decides-int_eq state POST_MIGRATION).0 is)

-- the migration of such a log is committed
pub final_migrated : (l : Log) → is_finalised_log l ≡ true → is_migrated_log l ≡ true
final_migrated l is = final_state (image_of l).state is

pub not_final : (l : Log) → is_migrated_log l ≡ false → is_finalised_log l ≡ true → ⊥
not_final l before is = true_or_false (is_migrated_log l) (final_migrated l is) before

committed_state : (state : ℤ) → state ≡ pos 2 → int_eq state POST_MIGRATION ≡ true → ⊥
committed_state state is final = absurd (let both : pos 2 ≡ POST_MIGRATION = sym is ∙ (Decides-int_eq state POST_MIGRATION).0 final in cc)

-- a commit doesn't finalise
commit_not_final : (l new : Log) → (image_of new).state ≡ pos 2 → is_finalised_log new ≡ true → ⊥
commit_not_final l new is final = committed_state (image_of new).state is final

-- ---- no step finalises a migration

abbrev NotFinal : Log → Type 0
NotFinal l = is_finalised_log l ≡ true → ⊥

log_by : (s : Shared) (r : Result Log LogFault) → NotFinal s.log → ((new : Log) → r ≡ Ok new → NotFinal new) → NotFinal (with_log s r).log
log_by s (Ok new) old made = made new refl
log_by s (Err e) old made = old

tree_by : (s : Shared) (r : Result Tree TreeFault) → NotFinal s.log → NotFinal (with_tree s r).log
tree_by s (Ok t) old = old
tree_by s (Err e) old = old

write_by : (s : Shared) (epoch now : ℤ) (m : Option ℤ) (ops : List Op) (target : Recorded) → NotFinal s.log → NotFinal (shared_after s epoch now (write_request m ops target)).log
write_by s epoch now None ops target old = old
write_by s epoch now (Some claim) ops target old = tree_by s (multi s.tree (write_ops claim ops target)) old

begin_by : (s : Shared) (now : ℤ) (d : Driver) (rows : List Row) (t : Result (List MetaRecord) Unreadable) → translate rows ≡ t → IsSharedSound s → IsSoundDriver s d → d.stage ≡ stage.BeginMigration rows → NotFinal s.log → NotFinal (shared_after s (epoch_or_zero d.epoch) now (begin_request t)).log
begin_by s now d rows (Ok records) is kept fine at old =
    log_by s (append s.log (epoch_or_zero d.epoch) now (begin_record ∷ [])) old (λ new made. not_final new (begun_log s now d rows records new kept fine at is made).batch.still)
begin_by s now d rows (Err e) is kept fine at old = old

records_by : (s : Shared) (now : ℤ) (d : Driver) (records : List MetaRecord) → IsSharedSound s → IsSoundDriver s d → d.stage ≡ stage.AppendRecords records → NotFinal s.log → NotFinal (shared_after s (epoch_or_zero d.epoch) now (request_at s now d (stage.AppendRecords records))).log
records_by s now d [] kept fine at old =
    log_by s (append s.log (epoch_or_zero d.epoch) now commit_records) old (λ new made.
    let both = ready s now d new kept fine at made in
    commit_not_final s.log new (ap (λ (l : Log). (image_of l).state) (sym both.0.made) ∙ commit_migrates s.log (epoch_or_zero d.epoch) now kept.log))
records_by s now d (r ∷ rs) kept fine at old =
    log_by s (append s.log (epoch_or_zero d.epoch) now (take MAX_APPEND_RECORDS (r ∷ rs))) old (λ new made. not_final new (appended_log s now d r rs new kept fine at made).batch.still)

request_by : (s : Shared) (now : ℤ) (d : Driver) (x : Stage) → d.stage ≡ x → IsSharedSound s → IsSoundDriver s d → NotFinal s.log → NotFinal (shared_after s (epoch_or_zero d.epoch) now (request_at s now d x)).log
request_by s now d (stage.ClaimLeadership seen) at kept fine old = tree_by s (multi s.tree (claim_ops seen d now)) old
request_by s now d (stage.BeginMigration rows) at kept fine old = begin_by s now d rows (translate rows) refl kept fine at old
request_by s now d (stage.AppendRecords records) at kept fine old = records_by s now d records kept fine at old
request_by s now d (stage.WriteResync target ops) at kept fine old = write_by s (epoch_or_zero d.epoch) now d.claim (remaining_at s.tree s.log target.offset) target old
request_by s now d (stage.WriteDelta target ops) at kept fine old = write_by s (epoch_or_zero d.epoch) now d.claim (remaining_at s.tree s.log target.offset) target old
request_by s now d x at kept fine old = old

either_by : (b : Bool) (x s : Shared) → NotFinal x.log → NotFinal s.log → NotFinal (if b then x else s).log
either_by true x s made old = made
either_by false x s made old = old

pub step_not_final : (p : Plan) (s : Shared) (running : List ℤ) (now : ℤ) (d : Driver) → IsSharedSound s → IsSoundDriver s d → NotFinal s.log → NotFinal (planned_step p s running now d).shared.log
unfolding planned_step
step_not_final p s running now d kept fine old =
    let r = request_at s now d d.stage in
    either_by (reaches_store p r) (shared_after s (epoch_or_zero d.epoch) now r) s (request_by s now d d.stage refl kept fine old) old

-- ---- on a finalised log

either_same : (b : Bool) (x s : Shared) → x ≡ s → (if b then x else s) ≡ s
either_same true x s same = same
either_same false x s same = refl

request_leaves : (p : Plan) (s : Shared) (epoch now : ℤ) (r q : Request) → r ≡ q → shared_after s epoch now q ≡ s → (if reaches_store p r then shared_after s epoch now r else s) ≡ s
request_leaves p s epoch now r q is same = either_same (reaches_store p r) (shared_after s epoch now r) s (ap (shared_after s epoch now) is ∙ same)

leaves_at : (p : Plan) (s : Shared) (running : List ℤ) (now : ℤ) (d : Driver) (x : Stage) → d.stage ≡ x → shared_after s (epoch_or_zero d.epoch) now (request_at s now d x) ≡ s → (planned_step p s running now d).shared ≡ s
unfolding planned_step
leaves_at p s running now d x at same = request_leaves p s (epoch_or_zero d.epoch) now (request_at s now d d.stage) (request_at s now d x) (ap (request_at s now d) at) same

-- a driver that was never elected, or has resigned
unelected : (p : Plan) (s : Shared) (running : List ℤ) (now : ℤ) (d : Driver) (x : Stage) → d.stage ≡ x → d.epoch ≡ None → WasElected d.epoch x → (planned_step p s running now d).shared ≡ s
unelected p s running now d stage.Uninitialized at none was = leaves_at p s running now d stage.Uninitialized at refl
unelected p s running now d stage.Inactive at none was = leaves_at p s running now d stage.Inactive at refl
unelected p s running now d x at none was = absurd (was none)

elected : (p : Plan) (s : Shared) (running : List ℤ) (now : ℤ) (d : Driver) (x : Stage) → d.stage ≡ x → IsSoundDriver s d → RestsAtStage s.tree d x → (planned_step p s running now d).shared ≡ s
elected p s running now d stage.WaitForControllerQuorum at fine rests = leaves_at p s running now d stage.WaitForControllerQuorum at refl
elected p s running now d stage.DualWrite at fine rests = leaves_at p s running now d stage.DualWrite at refl
elected p s running now d x at fine rests = fenced_driver p s running now d fine rests

final_by : (p : Plan) (s : Shared) (running : List ℤ) (now : ℤ) (d : Driver) (m : Option ℤ) → d.epoch ≡ m → IsSoundDriver s d → (d.epoch ≢ None → RestsAtStage s.tree d d.stage) → (planned_step p s running now d).shared ≡ s
final_by p s running now d None is fine rests = unelected p s running now d d.stage refl is fine.elected
final_by p s running now d (Some e) is fine rests = elected p s running now d d.stage refl fine (rests (λ none. absurd (let both = sym is ∙ none in cc)))

-- no step changes the tree or the log
pub final_step : (p : Plan) (s : Shared) (running : List ℤ) (now : ℤ) (d : Driver) → IsSoundDriver s d → HasEnded s d → is_finalised_log s.log ≡ true → (planned_step p s running now d).shared ≡ s
final_step p s running now d fine ended final = final_by p s running now d d.epoch refl fine (ended.rests final)

-- ---- its driver

-- a driver that is fenced rests at each stage
pub fenced_rests : (t : Tree) (d : Driver) (x : Stage) → IsBelowShown (shown_in t) d.epoch → RestsAtStage t d x
fenced_rests t d stage.WaitForControllerQuorum below = tt
fenced_rests t d stage.DualWrite below = inr below
fenced_rests t d x below = below

abbrev Rests : Tree → Driver → Type 0
Rests t e = e.epoch ≢ None → RestsAtStage t e e.stage

-- one that hears of the log resigns, and one that doesn't stays
read_rests : (t : Tree) (h : Hearing) (answer : Driver × Reply) (d : Driver) → answer.0.epoch ≡ None → Rests t d → Rests t (driver_after h answer read_log d).0
read_rests t hears_answer answer d none own = λ some. absurd (some none)
read_rests t hears_nothing answer d none own = own
read_rests t hears_expiry answer d none own = own

resigns : (d : Driver) (rest : Driver × Reply) → int_eq d.view.image.state POST_MIGRATION ≡ true → (unless_finalised d rest).0.epoch ≡ None
resigns d rest over = ap (λ (b : Bool). (if b then (resigned_driver d, reply.Moved state.Inactive) else rest).0.epoch) over

-- what is so after a step at this stage
abbrev RestsAfter : Plan → Shared → List ℤ → ℤ → Driver → Stage → Type 0
RestsAfter p s running now d x = Rests s.tree (driver_after (hearing p s (epoch_or_zero d.epoch) now (request_at s now d x)) (after_answer s running now d x) (request_at s now d x) d).0

waiting_rests : (p : Plan) (s : Shared) (running : List ℤ) (now : ℤ) (d : Driver) → is_finalised_log s.log ≡ true → Rests s.tree d → RestsAfter p s running now d stage.WaitForControllerQuorum
waiting_rests p s running now d final own =
    read_rests s.tree (hearing p s (epoch_or_zero d.epoch) now read_log) (after_answer s running now d stage.WaitForControllerQuorum) d (resigns (driver_at_log_end s.log d) _ final) own

dual_rests : (p : Plan) (s : Shared) (running : List ℤ) (now : ℤ) (d : Driver) → is_finalised_log s.log ≡ true → Rests s.tree d → RestsAfter p s running now d stage.DualWrite
dual_rests p s running now d final own =
    read_rests s.tree (hearing p s (epoch_or_zero d.epoch) now read_log) (after_answer s running now d stage.DualWrite) d (resigns (driver_at_log_end s.log d) _ final) own

rests_of : (p : Plan) (s : Shared) (running : List ℤ) (now : ℤ) (d : Driver) (x : Stage) → d.stage ≡ x → RestsAfter p s running now d x → Rests s.tree (planned_step p s running now d).driver
unfolding planned_step
rests_of p s running now d x at rests = subst (RestsAfter p s running now d) (sym at) rests

-- one that is fenced stays so, or resigns
still_fenced : (t : Tree) (d e : Driver) → IsOf d e → IsBelowShown (shown_in t) d.epoch → Rests t e
still_fenced t d e own below some = by_epoch own.1
  where
    by_epoch : (e.epoch ≡ d.epoch) ⊎ (e.epoch ≡ None) → RestsAtStage t e e.stage
    by_epoch (inl same) = fenced_rests t e e.stage (subst (IsBelowShown (shown_in t)) (sym same) below)
    by_epoch (inr none) = absurd (some none)

own_by : (p : Plan) (s : Shared) (running : List ℤ) (now : ℤ) (d : Driver) (x : Stage) → d.stage ≡ x → is_finalised_log s.log ≡ true → Rests s.tree d → RestsAtStage s.tree d x → Rests s.tree (planned_step p s running now d).driver
own_by p s running now d stage.WaitForControllerQuorum at final own rests = rests_of p s running now d stage.WaitForControllerQuorum at (waiting_rests p s running now d final own)
own_by p s running now d stage.DualWrite at final own rests = rests_of p s running now d stage.DualWrite at (dual_rests p s running now d final own)
own_by p s running now d x at final own rests = still_fenced s.tree d (planned_step p s running now d).driver (step_of_own p s running now d) rests

-- the driver has an epoch after its step, and so it had it before
own_rests : (p : Plan) (s : Shared) (running : List ℤ) (now : ℤ) (d : Driver) → is_finalised_log s.log ≡ true → Rests s.tree d → Rests s.tree (planned_step p s running now d).driver
own_rests p s running now d final own some = by_epoch (step_of_own p s running now d).1
  where
    by_epoch : ((planned_step p s running now d).driver.epoch ≡ d.epoch) ⊎ ((planned_step p s running now d).driver.epoch ≡ None) → RestsAtStage s.tree (planned_step p s running now d).driver (planned_step p s running now d).driver.stage
    by_epoch (inl same) = own_by p s running now d d.stage refl final own (own (λ none. some (same ∙ none))) some
    by_epoch (inr none) = absurd (some none)

-- ---- a step

ended_tree : (s : Shared) (f : Driver) (new : Shared) → LeavesOrPasses s f new → IsAhead s.tree f.claim f.stage → IsAhead new.tree f.claim f.stage
ended_tree s f new (inl same) ahead = subst (λ (t : Tree). IsAhead t f.claim f.stage) (sym same) ahead
ended_tree s f new (inr past) ahead = past_ahead new.tree f.claim f.stage past

on_final : (p : Plan) (s : Shared) (running : List ℤ) (now : ℤ) (d : Driver) → IsSharedSound s → IsSoundDriver s d → HasEnded s d → is_finalised_log s.log ≡ true → StepEnds s d (planned_step p s running now d).shared (planned_step p s running now d).driver
on_final p s running now d kept fine ended final =
    let new = (planned_step p s running now d).shared in
    let after = (planned_step p s running now d).driver in
    let same : new ≡ s = final_step p s running now d fine ended final in
    record {
      closed = λ old. subst IsClosedAtEnd (sym same) old;
      driver = record {
        rests = subst (λ (x : Shared). is_finalised_log x.log ≡ true → Rests x.tree after) (sym same) (λ over. own_rests p s running now d over (ended.rests over));
        ahead = own_ahead p s running now d kept fine ended.ahead;
      };
      others = λ f apart other old. subst (λ (x : Shared). HasEnded x f) (sym same) old;
    }

on_other : (p : Plan) (s : Shared) (running : List ℤ) (now : ℤ) (d : Driver) → IsTime now → IsSharedSound s → IsSoundDriver s d → HasEnded s d → NotFinal (planned_step p s running now d).shared.log → StepEnds s d (planned_step p s running now d).shared (planned_step p s running now d).driver
on_other p s running now d time kept fine ended none = record {
  closed = λ old final. absurd (none final);
  driver = record { rests = λ final. absurd (none final); ahead = own_ahead p s running now d kept fine ended.ahead };
  others = λ f apart other old. record { rests = λ final. absurd (none final); ahead = ended_tree s f (planned_step p s running now d).shared (step_passes p s running now d f time kept fine apart other) old.ahead };
}

pub step_ends : (p : Plan) (s : Shared) (running : List ℤ) (now : ℤ) (d : Driver) → IsTime now → IsSharedSound s → IsSoundDriver s d → HasEnded s d → StepEnds s d (planned_step p s running now d).shared (planned_step p s running now d).driver
step_ends p s running now d time kept fine ended = by_state (is_finalised_log s.log) refl
  where
    by_state : (b : Bool) → is_finalised_log s.log ≡ b → StepEnds s d (planned_step p s running now d).shared (planned_step p s running now d).driver
    by_state true final = on_final p s running now d kept fine ended final
    by_state false early = on_other p s running now d time kept fine ended (step_not_final p s running now d kept fine (λ final. true_or_false (is_finalised_log s.log) final early))
