-- A step by its request, by what the driver hears of it, and by what follows.
use Rattle.std.proofs.Common.{◌≡◌, ◌≢◌, ℤ, Bool, true, false, cond, List, [], ◌∷◌, ◌++◌, length, Option, Some, None, Result, Ok, Err, refl, sym, ap, ◌∙◌, subst}
use Rattle.std.specs.Prelude.{IfOk, OnErr, nat_lt, if◌then◌else◌}
use Rattle.kz_types.specs.declared.limits.TheConstants.{MAX_SCAN_ROWS}
use Rattle.kz_types.specs.declared.plan.Plan.{Plan}
use Rattle.kz_types.specs.declared.plan.Plan.TheVariants as plan
use Rattle.kz_types.specs.declared.tree.Op.{Op}
use Rattle.kz_types.specs.declared.tree.Row.{Row}
use Rattle.kz_types.specs.declared.driver.ClaimSeen.{ClaimSeen}
use Rattle.kz_types.specs.declared.driver.Stage.{Stage}
use Rattle.kz_types.specs.declared.machine.Recorded.{Recorded}
use Rattle.kz_types.specs.declared.machine.Reply.{Reply}
use Rattle.kz_types.specs.declared.machine.Reply.TheVariants as reply
use Rattle.kz_types.specs.declared.record.MetaRecord.{MetaRecord}
use Rattle.kz_types.specs.declared.fault.TreeFault.{TreeFault}
use Rattle.kz_types.specs.declared.fault.TreeFault.TheVariants as fault
use Rattle.kz_types.specs.declared.fault.LogFault.{LogFault}
use Rattle.kz_spec_data.specs.Tree.{Tree, multi}
use Rattle.kz_spec_data.specs.Log.{Log, View, append}
use Rattle.kz_spec_machine.specs.Driver.{Shared, Driver, StepResult, Request, nothing, epoch_or_zero, request_at, shared_after, reaches_store, Hearing, hears_answer, hears_nothing, hears_expiry, hearing, driver_after, without_answer, after_answer, after_claim, after_page, with_tree, with_log, planned_step}
use Rattle.kz_requests.specs.declared.fault.StepFault.{StepFault}
use Rattle.kz_requests.specs.declared.fault.StepFault.TheVariants as step_fault
use Rattle.kz_requests.specs.Fares.{IsHeard, IsAfterRequest, tree_after}
use Rattle.kz_requests.specs.Appends.{log_after}
use Rattle.kz_stages.specs.declared.row.DriverRow.{DriverRow}
use Rattle.kz_stages.specs.Rows.{driver_of, stage_of}
use Rattle.kz_stages.specs.Claims.{claim_outcome, after_claim_outcome}
use Rattle.kz_stages.specs.Checks.{StageCanClaim}
use Rattle.kz_stages.specs.Drivers.{HasEpoch, HasRisen, IsKept}
use Rattle.kz_driver.specs.Steps.{IsStepBy}
use Rattle.kz_stages.proofs.Kept.{Keeps}
use Rattle.kz_driver.proofs.Keeping.{Lives, chosen_stage}

-- ---- one step

abbrev result_of : Shared → Driver × Reply → StepResult
result_of new x = record { shared = new; driver = x.0; reply = x.1 }

-- what a step is whose driver hears this of its request
pub heard_step : (p : Plan) (s new : Shared) (running : List ℤ) (now : ℤ) (d : Driver) (h : Hearing) (x : Driver × Reply)
    → hearing p s (epoch_or_zero d.epoch) now (request_at s now d d.stage) ≡ h
    → (if reaches_store p (request_at s now d d.stage) then shared_after s (epoch_or_zero d.epoch) now (request_at s now d d.stage) else s) ≡ new
    → driver_after h (after_answer s running now d d.stage) (request_at s now d d.stage) d ≡ x
    → planned_step p s running now d ≡ result_of new x
unfolding planned_step
heard_step p s new running now d h x heard shared after =
    let r = request_at s now d d.stage in
    let answer = after_answer s running now d d.stage in
    let old = if reaches_store p r then shared_after s (epoch_or_zero d.epoch) now r else s in
    ap (λ (k : Hearing). result_of old (driver_after k answer r d)) heard
    ∙ (ap (λ (t : Shared). result_of t (driver_after h answer r d)) shared
    ∙ ap (result_of new) after)

-- a step without a request loses none
asks : (p : Plan) (s : Shared) (epoch now : ℤ) (r : Request) (h : Hearing) → hearing p s epoch now r ≡ h → h ≢ hears_answer → r ≢ nothing
asks p s epoch now r h heard other is = other (sym heard ∙ ap (hearing p s epoch now) is)

-- A step is the machine's by what is heard of its request, by the answer, and by what the request makes of the stores.
pub step_by : (p : Plan) (s new : Shared) (running : List ℤ) (now : ℤ) (d e : Driver) (outcome : Result Reply StepFault)
    → IsHeard (hearing p s (epoch_or_zero d.epoch) now (request_at s now d d.stage)) outcome
    → IfOk outcome (λ told. after_answer s running now d d.stage ≡ (e, told))
    → OnErr outcome (e ≡ d)
    → IsAfterRequest (reaches_store p (request_at s now d d.stage)) (shared_after s (epoch_or_zero d.epoch) now (request_at s now d d.stage)) s outcome new
    → IsStepBy p s running now d outcome new e
step_by p s new running now d e (Ok told) heard answer same shared = heard_step p s new running now d hears_answer (e, told) heard (sym shared) answer
step_by p s new running now d e (Err step_fault.Lost) heard answer same shared =
    let r = request_at s now d d.stage in
    (same, asks p s (epoch_or_zero d.epoch) now r hears_nothing heard (λ is. absurd (cc)), heard_step p s new running now d hears_nothing (without_answer r d, reply.Lost) heard (sym shared) refl)
step_by p s new running now d e (Err step_fault.Expired) heard answer same shared =
    let r = request_at s now d d.stage in
    (same, asks p s (epoch_or_zero d.epoch) now r hears_expiry heard (λ is. absurd (cc)), heard_step p s new running now d hears_expiry (without_answer r d, reply.Expired) heard (sym shared) refl)
step_by p s new running now d e (Err (step_fault.Tree f)) heard answer same shared = (same, shared)
step_by p s new running now d e (Err (step_fault.Log f)) heard answer same shared = (same, shared)
step_by p s new running now d e (Err step_fault.NoMemory) heard answer same shared = (same, shared)

-- ---- what requests make of the stores

-- a request that leaves what is shared
pub reads : {A : Type 0} (b : Bool) (s new : Shared) (outcome : Result A StepFault) → new ≡ s → IsAfterRequest b s s outcome new
reads true s new (Ok a) same = same
reads false s new (Ok a) same = same
reads true s new (Err step_fault.Lost) same = same
reads false s new (Err step_fault.Lost) same = same
reads true s new (Err step_fault.Expired) same = same
reads false s new (Err step_fault.Expired) same = same
reads b s new (Err (step_fault.Tree f)) same = same
reads b s new (Err (step_fault.Log f)) same = same
reads b s new (Err step_fault.NoMemory) same = same

by_choice : {V W : Type 0} (f : V → W) (b : Bool) (x y : V) → f (if b then x else y) ≡ (if b then f x else f y)
by_choice f true x y = refl
by_choice f false x y = refl

-- what is shared, after a request of one store alone
pub of_store : {A V : Type 0} (with_store : V → Shared) (b : Bool) (made old : V) (outcome : Result A StepFault) (new : V) → IsAfterRequest b made old outcome new → IsAfterRequest b (with_store made) (with_store old) outcome (with_store new)
of_store with_store b made old (Ok a) new h = ap with_store h ∙ by_choice with_store b made old
of_store with_store b made old (Err step_fault.Lost) new h = ap with_store h ∙ by_choice with_store b made old
of_store with_store b made old (Err step_fault.Expired) new h = ap with_store h ∙ by_choice with_store b made old
of_store with_store b made old (Err (step_fault.Tree f)) new h = ap with_store h
of_store with_store b made old (Err (step_fault.Log f)) new h = ap with_store h
of_store with_store b made old (Err step_fault.NoMemory) new h = ap with_store h

pub tree_made : (s : Shared) (r : Result Tree TreeFault) → with_tree s r ≡ record s { tree = tree_after r s.tree }
tree_made s (Ok new) = refl
tree_made s (Err f) = refl

pub log_made : (s : Shared) (r : Result Log LogFault) → with_log s r ≡ record s { log = log_after r s.log }
log_made s (Ok new) = refl
log_made s (Err f) = refl

-- ---- what a driver keeps

-- a driver keeps what it holds through a step, and through one without an answer
pub kept_step : {E : Type 0} (r : Result Reply E) (old new : DriverRow) (x : Driver × Reply) → IfOk r (λ told. x ≡ (driver_of new, told)) → OnErr r (new ≡ old)
    → IsKept old.epoch old.view (stage_of old.stage) → Keeps x → IsKept new.epoch new.view (stage_of new.stage)
kept_step (Ok told) old new x is same k after = subst Keeps is after
kept_step (Err f) old new x is same k after = subst (λ (d : DriverRow). IsKept d.epoch d.view (stage_of d.stage)) (sym same) k

-- what holds of the view after a step, and of the one before where there is no answer
pub view_kept : {E : Type 0} (r : Result Reply E) (old new : DriverRow) (x : Driver × Reply) (P : View → Type 0) → IfOk r (λ told. x ≡ (driver_of new, told)) → OnErr r (new ≡ old)
    → P old.view → P x.0.view → P new.view
view_kept (Ok told) old new x P is same before after = subst (λ (y : Driver × Reply). P y.0.view) is after
view_kept (Err f) old new x P is same before after = subst (λ (d : DriverRow). P d.view) (sym same) before

-- after the control znodes are read, what was seen can rise where the claim comes next
pub look_kept : {E : Type 0} (r : Result Reply E) (old new : DriverRow) (x : Driver × Reply) → IfOk r (λ told. x ≡ (driver_of new, told)) → IfOk r (λ told. StageCanClaim new.epoch new.view (stage_of new.stage))
    → OnErr r (new ≡ old) → IsKept old.epoch old.view (stage_of old.stage) → Lives x → IsKept new.epoch new.view (stage_of new.stage)
look_kept (Ok told) old new x is can same k lives =
    let now : Lives (driver_of new, told) = subst Lives is lives in
    record { elected = now.0; can_claim = can; risen = now.1 }
look_kept (Err f) old new x is can same k lives = subst (λ (d : DriverRow). IsKept d.epoch d.view (stage_of d.stage)) (sym same) k

abbrev IsReady : Driver × Reply → Type 0
IsReady x = HasEpoch x.0.epoch x.0.stage × StageCanClaim x.0.epoch x.0.view x.0.stage

-- a stage that the driver may be at, but for the znodes that it has read
abbrev pub IsReadyAt : DriverRow → Stage → Type 0
IsReadyAt d s = HasEpoch d.epoch s × StageCanClaim d.epoch d.view s

-- after a page, the znodes that were read rise
pub page_kept : {E : Type 0} (r : Result Reply E) (old new : DriverRow) (rows page : List Row) (more last : List Row → Stage)
    → IfOk r (λ told. after_page rows page more last (driver_of old) ≡ (driver_of new, told)) → HasRisen (stage_of new.stage)
    → OnErr r (new ≡ old) → IsKept old.epoch old.view (stage_of old.stage) → IsReadyAt old (more (rows ++ page)) → IsReadyAt old (last (rows ++ page)) → IsKept new.epoch new.view (stage_of new.stage)
page_kept (Ok told) old new rows page more last is risen same k goes_on ends =
    let ready : IsReady (after_page rows page more last (driver_of old)) =
    chosen_stage (IsReadyAt old) (nat_lt (length page) MAX_SCAN_ROWS) (last (rows ++ page)) (more (rows ++ page)) ends goes_on in
    let now : IsReady (driver_of new, told) = subst IsReady is ready in
    record { elected = now.0; can_claim = now.1; risen = risen }
page_kept (Err f) old new rows page more last is risen same k goes_on ends = subst (λ (d : DriverRow). IsKept d.epoch d.view (stage_of d.stage)) (sym same) k

-- ---- the claim

pub claim_is : (seen : ClaimSeen) (d : Driver) (ops : List Op) (r : Result Tree TreeFault) → after_claim seen d ops r ≡ after_claim_outcome (claim_outcome seen ops r) d
claim_is seen d ops (Ok t) = refl
claim_is seen d ops (Err (fault.Refused index code)) = refl
claim_is seen d ops (Err (fault.Limit index number)) = refl
claim_is seen d ops (Err fault.NoMemory) = refl
claim_is seen d ops (Err fault.Device) = refl
claim_is seen d ops (Err fault.Down) = refl
claim_is seen d ops (Err (fault.Full length)) = refl
