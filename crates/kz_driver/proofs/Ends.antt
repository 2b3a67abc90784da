-- What a step says at its end follows from its facts.
use Rattle.std.proofs.Common.{◌≡◌, ◌≢◌, ◌⊎◌, inl, inr, ℕ, ℤ, pos, ◌≤ℤ◌, Bool, true, false, not, List, Option, Some, None, option_map, Result, Ok, Err, refl, sym, ap, ◌∙◌, subst}
use Rattle.std.specs.Prelude.{IfOk, OnErr, if◌then◌else◌}
use Rattle.kz_types.specs.declared.plan.Plan.{Plan}
use Rattle.kz_types.specs.declared.plan.Plan.TheVariants as plan
use Rattle.kz_types.specs.declared.fault.TreeFault.{TreeFault}
use Rattle.kz_types.specs.declared.fault.TreeFault.TheVariants as tree_fault
use Rattle.kz_types.specs.declared.fault.LogFault.{LogFault}
use Rattle.kz_types.specs.declared.fault.LogFault.TheVariants as log_fault
use Rattle.kz_types.specs.declared.machine.Reply.{Reply}
use Rattle.kz_types.specs.declared.machine.Reply.TheVariants as reply
use Rattle.kz_types.specs.declared.driver.Stage.{Stage}
use Rattle.kz_types.specs.declared.driver.Stage.TheVariants as stage
use Rattle.std.specs.Ordering.{int_eq}
use Rattle.std.proofs.lemmas.Bool.{false≢true}
use Rattle.std.proofs.lemmas.Bool.Decides.{Decides-int_eq}
use Rattle.kz_types.specs.declared.tree.Row.{Row}
use Rattle.kz_types.specs.declared.tree.Op.{Op}
use Rattle.kz_types.specs.declared.machine.Recorded.{Recorded}
use Rattle.kz_spec_data.specs.Control.{epoch_path}
use Rattle.kz_spec_data.specs.Tree.{Tree, row_at, check_refusal, multi}
use Rattle.kz_spec_data.specs.Log.{Log, IsViewOf}
use Rattle.kz_spec_data.specs.Requests.{Disk, answer_of_tree_fault, answer_of_log_fault}
use Rattle.kz_spec_machine.specs.Driver.{Shared, Driver, StepResult, Request, nothing, read_log, list_brokers, look_up, read_page, write, add, is_of_log, epoch_or_zero, request_at, remaining_at, write_request, write_ops, reaches, without_answer, planned_step}
use Rattle.kz_spec_machine.specs.Failures.{is_tree_failure, is_log_failure}
use Rattle.kz_spec_machine.specs.Sound.{IsBelowShown, shown_in, claim_version, IsCurrent, IsClaimOf, Claims, AtStage, IsSoundDriver}
use Rattle.kz_laws_machine.proofs.FenceDrivers.{check_refused}
use Rattle.kz_laws_machine.specs.Fence.{IsOfFence, FencedDriversLeave, FencedRepliesLeave}
use Rattle.kz_requests.specs.declared.fault.StepFault.{StepFault}
use Rattle.kz_requests.specs.declared.fault.StepFault.TheVariants as step_fault
use Rattle.kz_requests.specs.Disks.{IsOfStore, TreeDisk, LogDisk}
use Rattle.kz_stages.specs.Disks.{Disks, disks_of, Payloads, RequestDisks, takes_nothing, IsAnswered, StepLeaves}
use Rattle.kz_connection.specs.Connections.{Wired}
use Rattle.kz_driver.proofs.Held.{AreLeft, cases, trees_alike}
use Rattle.kz_driver.proofs.Steps.{tree_made}
use Rattle.kz_driver.specs.Steps.{shared_over, plan_over, AreRemaining, HoldsRemaining, made_request, shared_by_plan, outcome_of, OnMachine, OnFailure, IsStep, LeavesAll, KeepsViews, StepDisks, StopLeaves, CountsBy, Connections, IsFenced, IsUntouched, IsStepBy, StepFacts, StepEnd, reply_of_fault, GoesOnAfter}

-- ---- outcomes

-- what holds anyway holds of a machine's reply
pub on_machine : {P : Type 0} (outcome : Result Reply StepFault) → P → OnMachine outcome P
on_machine (Ok told) h = h
on_machine (Err step_fault.Lost) h = h
on_machine (Err step_fault.Expired) h = h
on_machine (Err (step_fault.Tree f)) h = tt
on_machine (Err (step_fault.Log f)) h = tt
on_machine (Err step_fault.NoMemory) h = tt

-- an answer of the store itself tells of its failure
pub tree_failure : (f : TreeFault) → IsOfStore (answer_of_tree_fault f) → outcome_of (reply.TreeFailed f) ≡ Err (step_fault.Tree f)
tree_failure tree_fault.Device of = refl
tree_failure tree_fault.Down of = refl
tree_failure (tree_fault.Full length) of = refl
tree_failure f of = absurd of

pub log_failure : (f : LogFault) → IsOfStore (answer_of_log_fault f) → outcome_of (reply.LogFailed f) ≡ Err (step_fault.Log f)
log_failure log_fault.Failed of = refl
log_failure log_fault.Down of = refl
log_failure (log_fault.Full length) of = refl
log_failure f of = absurd of

tree_fault_told : (s : Shared) (epoch now : ℤ) (payloads : Payloads) (p : Plan) (r : Request) (f : TreeFault) (old new : Disks) → RequestDisks {A = Reply} s epoch now payloads p r (Err (step_fault.Tree f)) old new → IsOfStore (answer_of_tree_fault f)
tree_fault_told s epoch now payloads p nothing f old new h = absurd h.0
tree_fault_told s epoch now payloads p read_log f old new h = absurd h.0
tree_fault_told s epoch now payloads p list_brokers f old new h = h.0.1
tree_fault_told s epoch now payloads p look_up f old new h = h.0.1
tree_fault_told s epoch now payloads p (read_page after) f old new h = h.0.1
tree_fault_told s epoch now payloads p (write ops) f old new h = h.0.1
tree_fault_told s epoch now payloads p (add records) f old new h = absurd h.0

log_fault_told : (s : Shared) (epoch now : ℤ) (payloads : Payloads) (p : Plan) (r : Request) (f : LogFault) (old new : Disks) → RequestDisks {A = Reply} s epoch now payloads p r (Err (step_fault.Log f)) old new → IsOfStore (answer_of_log_fault f)
log_fault_told s epoch now payloads p nothing f old new h = absurd h.0
log_fault_told s epoch now payloads p read_log f old new h = h.0.1
log_fault_told s epoch now payloads p list_brokers f old new h = absurd h.0
log_fault_told s epoch now payloads p look_up f old new h = absurd h.0
log_fault_told s epoch now payloads p (read_page after) f old new h = absurd h.0
log_fault_told s epoch now payloads p (write ops) f old new h = absurd h.0
log_fault_told s epoch now payloads p (add records) f old new h = h.0.1

-- ---- all that a step says

both_left : (outcome : Result Reply StepFault) (A B : Type 0) → OnFailure outcome A → OnFailure outcome B → OnFailure outcome (A × B)
both_left (Ok told) A B h k = tt
both_left (Err step_fault.Lost) A B h k = tt
both_left (Err step_fault.Expired) A B h k = tt
both_left (Err (step_fault.Tree f)) A B h k = (h, k)
both_left (Err (step_fault.Log f)) A B h k = (h, k)
both_left (Err step_fault.NoMemory) A B h k = (h, k)

-- ---- a stop

-- what a write of the operations that a driver holds makes of what is shared is what one of those that remain makes of it
write_alike : (p : Plan) (s : Shared) (epoch now : ℤ) (held : Option ℤ) (ops left : List Op) (target : Recorded) → AreLeft s.tree held ops left
    → shared_by_plan p s epoch now (write_request held ops target) ≡ shared_by_plan p s epoch now (write_request held left target)
write_alike p s epoch now None ops left target same = refl
write_alike p s epoch now (Some claim) ops left target same =
    ap (λ (x : Shared). if reaches p false then x else s)
    (tree_made s (multi s.tree (write_ops claim ops target))
    ∙ (ap (λ (t : Tree). record s { tree = t }) (trees_alike s.tree claim ops left target (cases s.tree claim ops left target same))
    ∙ sym (tree_made s (multi s.tree (write_ops claim left target)))))

-- what the request at a stage makes of what is shared is what the machine's makes of it
request_alike : (p : Plan) (s : Shared) (now : ℤ) (d : Driver) (x : Stage) → ((claim : ℤ) → d.claim ≡ Some claim → check_refusal claim (row_at epoch_path s.tree.rows) ≡ None → AreRemaining s x)
    → shared_by_plan p s (epoch_or_zero d.epoch) now (made_request s now d x) ≡ shared_by_plan p s (epoch_or_zero d.epoch) now (request_at s now d x)
request_alike p s now d (stage.WriteResync target ops) holds = write_alike p s (epoch_or_zero d.epoch) now d.claim ops (remaining_at s.tree s.log target.offset) target holds
request_alike p s now d (stage.WriteDelta target ops) holds = write_alike p s (epoch_or_zero d.epoch) now d.claim ops (remaining_at s.tree s.log target.offset) target holds
request_alike p s now d stage.Uninitialized holds = refl
request_alike p s now d stage.Inactive holds = refl
request_alike p s now d stage.WaitForControllerQuorum holds = refl
request_alike p s now d stage.WaitForBrokers holds = refl
request_alike p s now d stage.ListBrokers holds = refl
request_alike p s now d stage.ReadControlZnodes holds = refl
request_alike p s now d (stage.ClaimLeadership seen) holds = refl
request_alike p s now d (stage.ScanForMigration rows) holds = refl
request_alike p s now d (stage.BeginMigration rows) holds = refl
request_alike p s now d (stage.AppendRecords records) holds = refl
request_alike p s now d stage.ReadLogForResync holds = refl
request_alike p s now d (stage.ScanForResync target rows) holds = refl
request_alike p s now d stage.KraftControllerToBrokerComm holds = refl
request_alike p s now d stage.DualWrite holds = refl

planned_shared : (p : Plan) (s : Shared) (running : List ℤ) (now : ℤ) (d : Driver) → shared_by_plan p s (epoch_or_zero d.epoch) now (request_at s now d d.stage) ≡ (planned_step p s running now d).shared
unfolding planned_step
planned_shared p s running now d = refl

-- so a stop leaves what there was, or what the machine's step would have made of it
stop_leaves : (p : Plan) (s : Shared) (running : List ℤ) (now : ℤ) (d : Driver) (outcome : Result Reply StepFault) (told : Reply) (tree_left : Option Tree → Type 0) (log_left : Option Log → Type 0)
    → outcome ≡ outcome_of told → StepLeaves outcome s (shared_by_plan p s (epoch_or_zero d.epoch) now (made_request s now d d.stage)) tree_left log_left → StopLeaves p s running now d told tree_left log_left
stop_leaves p s running now d outcome told tree_left log_left is leaves holds =
    subst (λ (x : Result Reply StepFault). StepLeaves x s (planned_step p s running now d).shared tree_left log_left) is
    (subst (λ (x : Shared). StepLeaves outcome s x tree_left log_left) (request_alike p s now d d.stage holds ∙ planned_shared p s running now d) leaves)

-- What a step says, by its facts, and by what its reply and the driver after it are.
pub step_end : {T L : Type 0} (tree_of : T → Tree) (log_of : L → Log) (tree_disk : T → Disk) (log_disk : L → Disk) (tree_left : T → Option Tree → Type 0) (log_left : L → Option Log → Type 0)
    (payloads : Payloads) (ids running : List ℤ) (now : ℤ) (d e after : Driver) (outcome : Result Reply StepFault) (told : Reply) (p : Plan) (tree made_tree new_tree : Wired T) (log made_log new_log : Wired L)
    → new_tree ≡ record made_tree { plan = plan.Deliver } → new_log ≡ record made_log { plan = plan.Deliver }
    → StepFacts (shared_over tree_of log_of ids tree log) (shared_over tree_of log_of ids made_tree made_log) running now d e p outcome payloads (disks_of (tree_disk tree.inner) (log_disk log.inner)) (disks_of (tree_disk made_tree.inner) (log_disk made_log.inner))
    (tree_left made_tree.inner) (log_left made_log.inner) tree.faults made_tree.faults log.faults made_log.faults
    → outcome ≡ outcome_of told
    → IsStep p (shared_over tree_of log_of ids tree log) running now d told (shared_over tree_of log_of ids made_tree made_log) after
    → OnFailure outcome (after ≡ d)
    → KeepsViews (log_of log.inner) (log_of made_log.inner) d.id after
    → StepEnd tree_of log_of tree_disk log_disk tree_left log_left payloads ids running now d after told p tree new_tree log new_log
step_end {T} {L} tree_of log_of tree_disk log_disk tree_left log_left payloads ids running now d e after outcome told p tree made_tree new_tree log made_log new_log tree_is log_is facts is step same views =
    subst (λ (w : Wired T). StepEnd tree_of log_of tree_disk log_disk tree_left log_left payloads ids running now d after told p tree w log new_log) (sym tree_is)
    (subst (λ (w : Wired L). StepEnd tree_of log_of tree_disk log_disk tree_left log_left payloads ids running now d after told p tree (record made_tree { plan = plan.Deliver }) log w) (sym log_is)
    (record {
      step = step;
      failed = subst (λ (x : Result Reply StepFault). OnFailure x ((new ≡ s) × (after ≡ d))) is (both_left outcome (new ≡ s) (after ≡ d) facts.failed same);
      views = views;
      disks = record {
        request = subst (λ (x : Result Reply StepFault). RequestDisks s (epoch_or_zero d.epoch) now payloads p asked x old_disks new_disks) is facts.disks;
        answered = λ takes. subst (λ (x : Result Reply StepFault). IsAnswered x) is (facts.answered takes);
      };
      stop = stop_leaves p s running now d outcome told (tree_left made_tree.inner) (log_left made_log.inner) is facts.stop;
      connections = record {
        tree_plan = refl;
        log_plan = refl;
        counts = subst (λ (x : Result Reply StepFault). CountsBy asked x tree.faults made_tree.faults log.faults made_log.faults) is facts.counts;
      };
    }))
  where
    s : Shared
    s = shared_over tree_of log_of ids tree log

    new : Shared
    new = shared_over tree_of log_of ids made_tree made_log

    asked : Request
    asked = made_request s now d d.stage

    old_disks : Disks
    old_disks = disks_of (tree_disk tree.inner) (log_disk log.inner)

    new_disks : Disks
    new_disks = disks_of (tree_disk made_tree.inner) (log_disk made_log.inner)

-- ---- by the outcome

-- an answer is the machine's
pub answered_step : (p : Plan) (s new : Shared) (running : List ℤ) (now : ℤ) (d e : Driver) (told : Reply) → (HoldsRemaining s d → planned_step p s running now d ≡ record { shared = new; driver = e; reply = told })
    → IsStep p s running now d told new e
answered_step p s new running now d e told step holds = on_machine (outcome_of told) (step holds)

-- without an answer the driver goes on as the machine's does
pub unanswered_step : (p : Plan) (s new : Shared) (running : List ℤ) (now : ℤ) (d e after : Driver) (told : Reply)
    → (HoldsRemaining s d → (e ≡ d) × (request_at s now d d.stage ≢ nothing) × (planned_step p s running now d ≡ record { shared = new; driver = without_answer (request_at s now d d.stage) d; reply = told }))
    → (request_at s now e e.stage ≢ nothing → after ≡ without_answer (request_at s now e e.stage) e)
    → IsStep p s running now d told new after
unanswered_step p s new running now d e after told step goes_on holds =
    let made = step holds in
    let asks : request_at s now e e.stage ≢ nothing = subst (λ (x : Driver). request_at s now x x.stage ≢ nothing) (sym made.0) made.1 in
    let follows : after ≡ without_answer (request_at s now d d.stage) d = goes_on asks ∙ ap (λ (x : Driver). without_answer (request_at s now x x.stage) x) made.0 in
    on_machine (outcome_of told) (made.2 ∙ ap (λ (x : Driver). record { shared = new; driver = x; reply = told }) (sym follows))

-- the definitions say nothing of a store that failed, nor of a step without memory
pub failed_step : (f : StepFault) (p : Plan) (s new : Shared) (running : List ℤ) (now : ℤ) (d after : Driver) (told : Reply) → Err f ≡ outcome_of told → OnMachine (Err f) ⊥ → IsStep p s running now d told new after
failed_step step_fault.Lost p s new running now d after told is none holds = absurd none
failed_step step_fault.Expired p s new running now d after told is none holds = absurd none
failed_step (step_fault.Tree f) p s new running now d after told is none holds = subst (λ (x : Result Reply StepFault). OnMachine x (planned_step p s running now d ≡ record { shared = new; driver = after; reply = told })) is tt
failed_step (step_fault.Log f) p s new running now d after told is none holds = subst (λ (x : Result Reply StepFault). OnMachine x (planned_step p s running now d ≡ record { shared = new; driver = after; reply = told })) is tt
failed_step step_fault.NoMemory p s new running now d after told is none holds = subst (λ (x : Result Reply StepFault). OnMachine x (planned_step p s running now d ≡ record { shared = new; driver = after; reply = told })) is tt

-- what is so without an answer is so where a store failed
on_failure : (P : Type 0) (outcome : Result Reply StepFault) → OnErr outcome P → OnFailure outcome P
on_failure P (Ok told) h = tt
on_failure P (Err step_fault.Lost) h = tt
on_failure P (Err step_fault.Expired) h = tt
on_failure P (Err (step_fault.Tree f)) h = h
on_failure P (Err (step_fault.Log f)) h = h
on_failure P (Err step_fault.NoMemory) h = h

-- What a step says that is answered.
pub answered_end : {T L : Type 0} (tree_of : T → Tree) (log_of : L → Log) (tree_disk : T → Disk) (log_disk : L → Disk) (tree_left : T → Option Tree → Type 0) (log_left : L → Option Log → Type 0)
    (payloads : Payloads) (ids running : List ℤ) (now : ℤ) (d e : Driver) (outcome : Result Reply StepFault) (told : Reply) (p : Plan) (tree made_tree new_tree : Wired T) (log made_log new_log : Wired L)
    → new_tree ≡ record made_tree { plan = plan.Deliver } → new_log ≡ record made_log { plan = plan.Deliver }
    → StepFacts (shared_over tree_of log_of ids tree log) (shared_over tree_of log_of ids made_tree made_log) running now d e p outcome payloads (disks_of (tree_disk tree.inner) (log_disk log.inner)) (disks_of (tree_disk made_tree.inner) (log_disk made_log.inner))
    (tree_left made_tree.inner) (log_left made_log.inner) tree.faults made_tree.faults log.faults made_log.faults
    → outcome ≡ Ok told
    → KeepsViews (log_of log.inner) (log_of made_log.inner) d.id e
    → StepEnd tree_of log_of tree_disk log_disk tree_left log_left payloads ids running now d e told p tree new_tree log new_log
answered_end tree_of log_of tree_disk log_disk tree_left log_left payloads ids running now d e outcome told p tree made_tree new_tree log made_log new_log tree_is log_is facts is views =
    let s = shared_over tree_of log_of ids tree log in
    let new = shared_over tree_of log_of ids made_tree made_log in
    let of_told : outcome_of told ≡ Ok told = subst (λ (x : Result Reply StepFault). IfOk x (λ (r : Reply). outcome_of r ≡ Ok r)) is facts.told in
    step_end tree_of log_of tree_disk log_disk tree_left log_left payloads ids running now d e e outcome told p tree made_tree new_tree log made_log new_log tree_is log_is facts
    (is ∙ sym of_told)
    (answered_step p s new running now d e told (λ holds. subst (λ (x : Result Reply StepFault). IsStepBy p s running now d x new e) is (facts.step holds)))
    (on_failure (e ≡ d) outcome facts.unheard)
    views

-- What a step says whose request or its answer was lost.
pub lost_end : {T L : Type 0} (tree_of : T → Tree) (log_of : L → Log) (tree_disk : T → Disk) (log_disk : L → Disk) (tree_left : T → Option Tree → Type 0) (log_left : L → Option Log → Type 0)
    (payloads : Payloads) (ids running : List ℤ) (now : ℤ) (d e after : Driver) (outcome : Result Reply StepFault) (p : Plan) (tree made_tree new_tree : Wired T) (log made_log new_log : Wired L)
    → new_tree ≡ record made_tree { plan = plan.Deliver } → new_log ≡ record made_log { plan = plan.Deliver }
    → StepFacts (shared_over tree_of log_of ids tree log) (shared_over tree_of log_of ids made_tree made_log) running now d e p outcome payloads (disks_of (tree_disk tree.inner) (log_disk log.inner)) (disks_of (tree_disk made_tree.inner) (log_disk made_log.inner))
    (tree_left made_tree.inner) (log_left made_log.inner) tree.faults made_tree.faults log.faults made_log.faults
    → outcome ≡ Err step_fault.Lost
    → ((s : Shared) (now : ℤ) → request_at s now e e.stage ≢ nothing → after ≡ without_answer (request_at s now e e.stage) e)
    → KeepsViews (log_of log.inner) (log_of made_log.inner) d.id after
    → StepEnd tree_of log_of tree_disk log_disk tree_left log_left payloads ids running now d after reply.Lost p tree new_tree log new_log
lost_end tree_of log_of tree_disk log_disk tree_left log_left payloads ids running now d e after outcome p tree made_tree new_tree log made_log new_log tree_is log_is facts is goes_on views =
    let s = shared_over tree_of log_of ids tree log in
    let new = shared_over tree_of log_of ids made_tree made_log in
    step_end tree_of log_of tree_disk log_disk tree_left log_left payloads ids running now d e after outcome reply.Lost p tree made_tree new_tree log made_log new_log tree_is log_is facts
    is
    (unanswered_step p s new running now d e after reply.Lost (λ holds. subst (λ (x : Result Reply StepFault). IsStepBy p s running now d x new e) is (facts.step holds)) (goes_on s now))
    (subst (λ (x : Result Reply StepFault). OnFailure x (after ≡ d)) (sym is) tt)
    views

-- What a step says whose session had expired.
pub expired_end : {T L : Type 0} (tree_of : T → Tree) (log_of : L → Log) (tree_disk : T → Disk) (log_disk : L → Disk) (tree_left : T → Option Tree → Type 0) (log_left : L → Option Log → Type 0)
    (payloads : Payloads) (ids running : List ℤ) (now : ℤ) (d e after : Driver) (outcome : Result Reply StepFault) (p : Plan) (tree made_tree new_tree : Wired T) (log made_log new_log : Wired L)
    → new_tree ≡ record made_tree { plan = plan.Deliver } → new_log ≡ record made_log { plan = plan.Deliver }
    → StepFacts (shared_over tree_of log_of ids tree log) (shared_over tree_of log_of ids made_tree made_log) running now d e p outcome payloads (disks_of (tree_disk tree.inner) (log_disk log.inner)) (disks_of (tree_disk made_tree.inner) (log_disk made_log.inner))
    (tree_left made_tree.inner) (log_left made_log.inner) tree.faults made_tree.faults log.faults made_log.faults
    → outcome ≡ Err step_fault.Expired
    → ((s : Shared) (now : ℤ) → request_at s now e e.stage ≢ nothing → after ≡ without_answer (request_at s now e e.stage) e)
    → KeepsViews (log_of log.inner) (log_of made_log.inner) d.id after
    → StepEnd tree_of log_of tree_disk log_disk tree_left log_left payloads ids running now d after reply.Expired p tree new_tree log new_log
expired_end tree_of log_of tree_disk log_disk tree_left log_left payloads ids running now d e after outcome p tree made_tree new_tree log made_log new_log tree_is log_is facts is goes_on views =
    let s = shared_over tree_of log_of ids tree log in
    let new = shared_over tree_of log_of ids made_tree made_log in
    step_end tree_of log_of tree_disk log_disk tree_left log_left payloads ids running now d e after outcome reply.Expired p tree made_tree new_tree log made_log new_log tree_is log_is facts
    is
    (unanswered_step p s new running now d e after reply.Expired (λ holds. subst (λ (x : Result Reply StepFault). IsStepBy p s running now d x new e) is (facts.step holds)) (goes_on s now))
    (subst (λ (x : Result Reply StepFault). OnFailure x (after ≡ d)) (sym is) tt)
    views

-- What a step says whose store failed, or without memory.
pub failed_end : {T L : Type 0} (tree_of : T → Tree) (log_of : L → Log) (tree_disk : T → Disk) (log_disk : L → Disk) (tree_left : T → Option Tree → Type 0) (log_left : L → Option Log → Type 0)
    (payloads : Payloads) (ids running : List ℤ) (now : ℤ) (d e after : Driver) (outcome : Result Reply StepFault) (f : StepFault) (told : Reply) (p : Plan) (tree made_tree new_tree : Wired T) (log made_log new_log : Wired L)
    → new_tree ≡ record made_tree { plan = plan.Deliver } → new_log ≡ record made_log { plan = plan.Deliver }
    → StepFacts (shared_over tree_of log_of ids tree log) (shared_over tree_of log_of ids made_tree made_log) running now d e p outcome payloads (disks_of (tree_disk tree.inner) (log_disk log.inner)) (disks_of (tree_disk made_tree.inner) (log_disk made_log.inner))
    (tree_left made_tree.inner) (log_left made_log.inner) tree.faults made_tree.faults log.faults made_log.faults
    → outcome ≡ Err f → (OnMachine (Err f) ⊥) → outcome_of told ≡ Err f
    → after ≡ e → KeepsViews (log_of log.inner) (log_of made_log.inner) d.id after
    → StepEnd tree_of log_of tree_disk log_disk tree_left log_left payloads ids running now d after told p tree new_tree log new_log
failed_end tree_of log_of tree_disk log_disk tree_left log_left payloads ids running now d e after outcome f told p tree made_tree new_tree log made_log new_log tree_is log_is facts is none of_told goes_on views =
    let s = shared_over tree_of log_of ids tree log in
    let new = shared_over tree_of log_of ids made_tree made_log in
    step_end tree_of log_of tree_disk log_disk tree_left log_left payloads ids running now d e after outcome told p tree made_tree new_tree log made_log new_log tree_is log_is facts
    (is ∙ sym of_told)
    (failed_step f p s new running now d after told (sym of_told) none)
    (on_failure (after ≡ d) outcome (also outcome facts.unheard))
    views
  where
    also : (x : Result Reply StepFault) → OnErr x (e ≡ d) → OnErr x (after ≡ d)
    also (Ok told) h = tt
    also (Err fault) h = goes_on ∙ h

-- a store's fault that a request met is told by the reply
pub tree_told : (s : Shared) (epoch now : ℤ) (payloads : Payloads) (p : Plan) (r : Request) (outcome : Result Reply StepFault) (f : TreeFault) (old new : Disks) → RequestDisks s epoch now payloads p r outcome old new → outcome ≡ Err (step_fault.Tree f) → outcome_of (reply.TreeFailed f) ≡ Err (step_fault.Tree f)
tree_told s epoch now payloads p r outcome f old new h is = tree_failure f (tree_fault_told s epoch now payloads p r f old new (subst (λ (x : Result Reply StepFault). RequestDisks s epoch now payloads p r x old new) is h))

pub log_told : (s : Shared) (epoch now : ℤ) (payloads : Payloads) (p : Plan) (r : Request) (outcome : Result Reply StepFault) (f : LogFault) (old new : Disks) → RequestDisks s epoch now payloads p r outcome old new → outcome ≡ Err (step_fault.Log f) → outcome_of (reply.LogFailed f) ≡ Err (step_fault.Log f)
log_told s epoch now payloads p r outcome f old new h is = log_failure f (log_fault_told s epoch now payloads p r f old new (subst (λ (x : Result Reply StepFault). RequestDisks s epoch now payloads p r x old new) is h))

-- What a step says whose request has no answer.
pub fault_end : {T L : Type 0} (tree_of : T → Tree) (log_of : L → Log) (tree_disk : T → Disk) (log_disk : L → Disk) (tree_left : T → Option Tree → Type 0) (log_left : L → Option Log → Type 0)
    (payloads : Payloads) (ids running : List ℤ) (now : ℤ) (d e after : Driver) (outcome : Result Reply StepFault) (f : StepFault) (p : Plan) (tree made_tree new_tree : Wired T) (log made_log new_log : Wired L)
    → new_tree ≡ record made_tree { plan = plan.Deliver } → new_log ≡ record made_log { plan = plan.Deliver }
    → StepFacts (shared_over tree_of log_of ids tree log) (shared_over tree_of log_of ids made_tree made_log) running now d e p outcome payloads (disks_of (tree_disk tree.inner) (log_disk log.inner)) (disks_of (tree_disk made_tree.inner) (log_disk made_log.inner))
    (tree_left made_tree.inner) (log_left made_log.inner) tree.faults made_tree.faults log.faults made_log.faults
    → outcome ≡ Err f → GoesOnAfter f e after → KeepsViews (log_of log.inner) (log_of made_log.inner) d.id after
    → StepEnd tree_of log_of tree_disk log_disk tree_left log_left payloads ids running now d after (reply_of_fault f) p tree new_tree log new_log
fault_end tree_of log_of tree_disk log_disk tree_left log_left payloads ids running now d e after outcome step_fault.Lost p tree made_tree new_tree log made_log new_log tree_is log_is facts is goes_on views =
    lost_end tree_of log_of tree_disk log_disk tree_left log_left payloads ids running now d e after outcome p tree made_tree new_tree log made_log new_log tree_is log_is facts is goes_on views
fault_end tree_of log_of tree_disk log_disk tree_left log_left payloads ids running now d e after outcome step_fault.Expired p tree made_tree new_tree log made_log new_log tree_is log_is facts is goes_on views =
    expired_end tree_of log_of tree_disk log_disk tree_left log_left payloads ids running now d e after outcome p tree made_tree new_tree log made_log new_log tree_is log_is facts is goes_on views
fault_end tree_of log_of tree_disk log_disk tree_left log_left payloads ids running now d e after outcome (step_fault.Tree f) p tree made_tree new_tree log made_log new_log tree_is log_is facts is same views =
    let s = shared_over tree_of log_of ids tree log in
    failed_end tree_of log_of tree_disk log_disk tree_left log_left payloads ids running now d e after outcome (step_fault.Tree f) (reply.TreeFailed f) p tree made_tree new_tree log made_log new_log tree_is log_is facts is tt
    (tree_told s (epoch_or_zero d.epoch) now payloads p (made_request s now d d.stage) outcome f _ _ facts.disks is) same views
fault_end tree_of log_of tree_disk log_disk tree_left log_left payloads ids running now d e after outcome (step_fault.Log f) p tree made_tree new_tree log made_log new_log tree_is log_is facts is same views =
    let s = shared_over tree_of log_of ids tree log in
    failed_end tree_of log_of tree_disk log_disk tree_left log_left payloads ids running now d e after outcome (step_fault.Log f) (reply.LogFailed f) p tree made_tree new_tree log made_log new_log tree_is log_is facts is tt
    (log_told s (epoch_or_zero d.epoch) now payloads p (made_request s now d d.stage) outcome f _ _ facts.disks is) same views
fault_end tree_of log_of tree_disk log_disk tree_left log_left payloads ids running now d e after outcome step_fault.NoMemory p tree made_tree new_tree log made_log new_log tree_is log_is facts is same views =
    failed_end tree_of log_of tree_disk log_disk tree_left log_left payloads ids running now d e after outcome step_fault.NoMemory reply.NoMemory p tree made_tree new_tree log made_log new_log tree_is log_is facts is tt refl same views

-- what a driver knows stays right where it goes on with the same view
pub views_go_on : (l new : Log) (id : ℤ) (e after : Driver) → KeepsViews l new id e → after.id ≡ e.id → after.view ≡ e.view → KeepsViews l new id after
views_go_on l new id e after keeps same view = record { same_id = same ∙ keeps.same_id; own_view = subst (IsViewOf new) (sym view) keeps.own_view; views = keeps.views }

-- what a step says at a time it says at the same one
pub at_same_time : {T L : Type 0} (given now : ℤ) → given ≡ now → (tree_of : T → Tree) (log_of : L → Log) (tree_disk : T → Disk) (log_disk : L → Disk) (tree_left : T → Option Tree → Type 0) (log_left : L → Option Log → Type 0)
    (payloads : Payloads) (ids running : List ℤ) (d e : Driver) (told : Reply) (tree new_tree : Wired T) (log new_log : Wired L)
    → StepEnd tree_of log_of tree_disk log_disk tree_left log_left payloads ids running given d e told (plan_over tree log (made_request (shared_over tree_of log_of ids tree log) given d d.stage)) tree new_tree log new_log
    → StepEnd tree_of log_of tree_disk log_disk tree_left log_left payloads ids running now d e told (plan_over tree log (made_request (shared_over tree_of log_of ids tree log) now d d.stage)) tree new_tree log new_log
at_same_time given now same tree_of log_of tree_disk log_disk tree_left log_left payloads ids running d e told tree new_tree log new_log end =
    subst (λ (n : ℤ). StepEnd tree_of log_of tree_disk log_disk tree_left log_left payloads ids running n d e told (plan_over tree log (made_request (shared_over tree_of log_of ids tree log) n d d.stage)) tree new_tree log new_log) same end
