-- What a step of a driver is: the machine's, under the plans of its connections.
use Rattle.std.specs.Prelude.{◌≡◌, ◌≢◌, ◌⊎◌, ⊤, ℕ, ℤ, Bool, true, false, not, List, [], Option, Some, None, Result, Ok, Err, IfOk, OnErr, if◌then◌else◌}
use Rattle.kz_types.specs.declared.plan.Plan.{Plan}
use Rattle.kz_types.specs.declared.plan.Plan.TheVariants as plan
use Rattle.kz_types.specs.declared.driver.Stage.{Stage}
use Rattle.kz_types.specs.declared.driver.Stage.TheVariants as stage
use Rattle.kz_types.specs.declared.machine.Reply.{Reply}
use Rattle.kz_types.specs.declared.machine.Reply.TheVariants as reply
use Rattle.kz_types.specs.declared.tree.Op.{Op}
use Rattle.kz_spec_data.specs.Control.{epoch_path}
use Rattle.kz_spec_data.specs.Tree.{Tree, row_at, check_refusal}
use Rattle.kz_spec_data.specs.Log.{Log, View, IsViewOf}
use Rattle.kz_spec_data.specs.Requests.{Disk}
use Rattle.kz_spec_machine.specs.Driver.{Shared, Driver, Request, nothing, is_of_log, remaining_at, write_request, reaches_store, shared_after, epoch_or_zero, request_at, without_answer, planned_step}
use Rattle.kz_spec_machine.specs.Failures.{is_tree_failure, is_log_failure}
use Rattle.kz_spec_machine.specs.Sound.{IsBelowShown, shown_in, IsSoundDriver}
use Rattle.kz_laws_machine.specs.Fence.{IsOfFence}
use Rattle.kz_connection.specs.Connections.{Wired}
use Rattle.kz_requests.specs.declared.fault.StepFault.{StepFault}
use Rattle.kz_requests.specs.declared.fault.StepFault.TheVariants as step_fault
use Rattle.kz_requests.specs.Fares.{IsCounted}
use Rattle.kz_stages.specs.Disks.{Disks, disks_of, Payloads, RequestDisks, takes_nothing, IsAnswered, StepLeaves}

-- what a driver shares, over its connections to the tree and to the log
abbrev pub shared_over : {T L : Type 0} → (T → Tree) → (L → Log) → List ℤ → Wired T → Wired L → Shared
shared_over tree_of log_of ids tree log = record { tree = tree_of tree.inner; log = log_of log.inner; declared = ids }

-- the plan by which a request fares: that of the connection to its store
abbrev pub plan_over : {T L : Type 0} → Wired T → Wired L → Request → Plan
plan_over tree log request = if is_of_log request then log.plan else tree.plan

-- the offset of what a driver will record, where it has a target
abbrev pub target_offset : Stage → Option ℤ
target_offset (stage.ScanForResync target rows) = Some target.offset
target_offset (stage.WriteResync target ops) = Some target.offset
target_offset (stage.WriteDelta target ops) = Some target.offset
target_offset s = None

-- the operations that a driver has still to write
abbrev pub remaining_ops : Stage → List Op
remaining_ops (stage.WriteResync target ops) = ops
remaining_ops (stage.WriteDelta target ops) = ops
remaining_ops s = []

-- ---- what a driver holds

-- The operations that a driver holds at this stage, if it writes, are those that remain to be written.
abbrev pub AreRemaining : Shared → Stage → Type 0
AreRemaining s (stage.WriteResync target ops) = ops ≡ remaining_at s.tree s.log target.offset
AreRemaining s (stage.WriteDelta target ops) = ops ≡ remaining_at s.tree s.log target.offset
AreRemaining s x = ⊤

-- So they are, where the check of the driver's claim passes: it is then the data version of `/controller_epoch`.
abbrev pub HoldsRemaining : Shared → Driver → Type 0
HoldsRemaining s d = (claim : ℤ) → d.claim ≡ Some claim → check_refusal claim (row_at epoch_path s.tree.rows) ≡ None → AreRemaining s d.stage

-- The request that a driver makes: that of the definitions, where a write is of the operations that the driver holds.
abbrev pub made_request : Shared → ℤ → Driver → Stage → Request
made_request s now d (stage.WriteResync target ops) = write_request d.claim ops target
made_request s now d (stage.WriteDelta target ops) = write_request d.claim ops target
made_request s now d x = request_at s now d x

-- what is shared after a request that fares by this plan
abbrev pub shared_by_plan : Plan → Shared → ℤ → ℤ → Request → Shared
shared_by_plan p s epoch now request = if reaches_store p request then shared_after s epoch now request else s

-- ---- what a reply says of the request

-- the outcome of a step by its reply: a reply of the machine to an answer, or why there was no answer
abbrev pub outcome_of : Reply → Result Reply StepFault
outcome_of reply.Lost = Err step_fault.Lost
outcome_of reply.Expired = Err step_fault.Expired
outcome_of (reply.TreeFailed fault) = if is_tree_failure fault then Err (step_fault.Tree fault) else Ok (reply.TreeFailed fault)
outcome_of (reply.LogFailed fault) = if is_log_failure fault then Err (step_fault.Log fault) else Ok (reply.LogFailed fault)
outcome_of reply.NoMemory = Err step_fault.NoMemory
outcome_of told = Ok told

-- The definitions speak of a step whose store didn't fail and for which there was memory.
abbrev pub OnMachine : Result Reply StepFault → Type 0 → Type 0
OnMachine (Ok told) holds = holds
OnMachine (Err step_fault.Lost) holds = holds
OnMachine (Err step_fault.Expired) holds = holds
OnMachine (Err fault) holds = ⊤

-- And where they don't.
abbrev pub OnFailure : Result Reply StepFault → Type 0 → Type 0
OnFailure (Ok told) holds = ⊤
OnFailure (Err step_fault.Lost) holds = ⊤
OnFailure (Err step_fault.Expired) holds = ⊤
OnFailure (Err fault) holds = holds

-- ---- a step

-- A step is the machine's, where the driver holds what remains to be written.
abbrev pub IsStep : Plan → Shared → List ℤ → ℤ → Driver → Reply → Shared → Driver → Type 0
IsStep p s running now d told new e = HoldsRemaining s d → OnMachine (outcome_of told) (planned_step p s running now d ≡ record { shared = new; driver = e; reply = told })

-- A step that failed leaves the tree, the log and the driver.
abbrev pub LeavesAll : Reply → Shared → Driver → Shared → Driver → Type 0
LeavesAll told s d new e = OnFailure (outcome_of told) ((new ≡ s) × (e ≡ d))

-- The driver stays that of its controller. What it knows of the log stays right, and so does what others know of it.
pub record KeepsViews (l new : Log) (id : ℤ) (after : Driver) : Type 0 where
  pub same_id : after.id ≡ id
  pub own_view : IsViewOf new after.view
  pub views : (v : View) → IsViewOf l v → IsViewOf new v

-- What a step does to the disks: what its one request does; and it is answered where it takes nothing.
pub record StepDisks (s : Shared) (now : ℤ) (d : Driver) (payloads : Payloads) (p : Plan) (told : Reply) (old new : Disks) : Type 0 where
  pub request : RequestDisks s (epoch_or_zero d.epoch) now payloads p (made_request s now d d.stage) (outcome_of told) old new
  pub answered : takes_nothing d.stage ≡ true → IsAnswered (outcome_of told)

-- What a stop leaves of the stores where one of their disks failed in this step: what there was, or what the machine's step would
-- have made of it, where the driver holds what remains to be written.
abbrev pub StopLeaves : Plan → Shared → List ℤ → ℤ → Driver → Reply → (Option Tree → Type 0) → (Option Log → Type 0) → Type 0
StopLeaves p s running now d told tree_left log_left = HoldsRemaining s d → StepLeaves (outcome_of told) s (planned_step p s running now d).shared tree_left log_left

-- the connection that a request is made over counts it where it isn't answered
abbrev pub CountsOver : Bool → Result Reply StepFault → ℕ → ℕ → Type 0
CountsOver true outcome old new = IsCounted outcome old new
CountsOver false outcome old new = new ≡ old

-- and the other connection counts nothing
abbrev pub CountsBy : Request → Result Reply StepFault → ℕ → ℕ → ℕ → ℕ → Type 0
CountsBy request outcome tree new_tree log new_log = CountsOver (not (is_of_log request)) outcome tree new_tree × CountsOver (is_of_log request) outcome log new_log

-- The plans of both connections are spent, whether a request was made or not.
pub record Connections {T L : Type 0} (request : Request) (told : Reply) (tree new_tree : Wired T) (log new_log : Wired L) : Type 0 where
  pub tree_plan : new_tree.plan ≡ plan.Deliver
  pub log_plan : new_log.plan ≡ plan.Deliver
  pub counts : CountsBy request (outcome_of told) tree.faults new_tree.faults log.faults new_log.faults

-- A driver whose epoch is below the one that `/controller` shows changes nothing; nor does one that learns by its reply that
-- another controller has taken over.
abbrev pub IsFenced : Shared → Driver → Reply → Shared → Type 0
IsFenced s d told new = IsSoundDriver s d → IsBelowShown (shown_in s.tree) d.epoch ⊎ IsOfFence told → new ≡ s

-- ---- the step before its request is found lost

-- a store that failed left the tree and the log
abbrev pub IsUntouched : Result Reply StepFault → Shared → Shared → Type 0
IsUntouched outcome s new = OnFailure outcome (new ≡ s)

-- what a step is, by the outcome of its request
abbrev pub IsStepBy : Plan → Shared → List ℤ → ℤ → Driver → Result Reply StepFault → Shared → Driver → Type 0
IsStepBy p s running now d (Ok told) new e = planned_step p s running now d ≡ record { shared = new; driver = e; reply = told }
IsStepBy p s running now d (Err step_fault.Lost) new e =
    (e ≡ d) × (request_at s now d d.stage ≢ nothing) × (planned_step p s running now d ≡ record { shared = new; driver = without_answer (request_at s now d d.stage) d; reply = reply.Lost })
IsStepBy p s running now d (Err step_fault.Expired) new e =
    (e ≡ d) × (request_at s now d d.stage ≢ nothing) × (planned_step p s running now d ≡ record { shared = new; driver = without_answer (request_at s now d d.stage) d; reply = reply.Expired })
IsStepBy p s running now d (Err fault) new e = (e ≡ d) × (new ≡ s)

-- The facts of one step, by its outcome: its connections had these plans, and counted so many lost requests before and after it.
pub record StepFacts (s new : Shared) (running : List ℤ) (now : ℤ) (d e : Driver) (p : Plan) (outcome : Result Reply StepFault) (payloads : Payloads) (old_disks new_disks : Disks)
    (tree_left : Option Tree → Type 0) (log_left : Option Log → Type 0) (tree new_tree log new_log : ℕ) : Type 0 where
  pub step : HoldsRemaining s d → IsStepBy p s running now d outcome new e
  pub unheard : OnErr outcome (e ≡ d)
  pub failed : IsUntouched outcome s new
  pub told : IfOk outcome (λ told. outcome_of told ≡ Ok told)
  pub disks : RequestDisks s (epoch_or_zero d.epoch) now payloads p (made_request s now d d.stage) outcome old_disks new_disks
  pub answered : takes_nothing d.stage ≡ true → IsAnswered outcome
  pub stop : StepLeaves outcome s (shared_by_plan p s (epoch_or_zero d.epoch) now (made_request s now d d.stage)) tree_left log_left
  pub counts : CountsBy (made_request s now d d.stage) outcome tree new_tree log new_log

-- ---- a request without an answer

-- the reply to a request that has no answer
abbrev pub reply_of_fault : StepFault → Reply
reply_of_fault step_fault.Lost = reply.Lost
reply_of_fault step_fault.Expired = reply.Expired
reply_of_fault (step_fault.Tree fault) = reply.TreeFailed fault
reply_of_fault (step_fault.Log fault) = reply.LogFailed fault
reply_of_fault step_fault.NoMemory = reply.NoMemory

-- the driver whose request isn't answered
abbrev pub GoesOnWithoutAnswer : Driver → Driver → Type 0
GoesOnWithoutAnswer d e = (s : Shared) (now : ℤ) → request_at s now d d.stage ≢ nothing → e ≡ without_answer (request_at s now d d.stage) d

-- The driver whose request has no answer: where a store failed, or memory ran out, it is as it was.
abbrev pub GoesOnAfter : StepFault → Driver → Driver → Type 0
GoesOnAfter step_fault.Lost d e = GoesOnWithoutAnswer d e
GoesOnAfter step_fault.Expired d e = GoesOnWithoutAnswer d e
GoesOnAfter fault d e = e ≡ d

-- ---- all that a step says

-- What a step says of the stores below two connections, each store told by these functions of it.
pub record StepEnd {T L : Type 0} (tree_of : T → Tree) (log_of : L → Log) (tree_disk : T → Disk) (log_disk : L → Disk) (tree_left : T → Option Tree → Type 0) (log_left : L → Option Log → Type 0)
    (payloads : Payloads) (ids running : List ℤ) (now : ℤ) (d e : Driver) (told : Reply) (p : Plan) (tree new_tree : Wired T) (log new_log : Wired L) : Type 0 where
  pub step : IsStep p (shared_over tree_of log_of ids tree log) running now d told (shared_over tree_of log_of ids new_tree new_log) e
  pub failed : LeavesAll told (shared_over tree_of log_of ids tree log) d (shared_over tree_of log_of ids new_tree new_log) e
  pub views : KeepsViews (log_of log.inner) (log_of new_log.inner) d.id e
  pub disks : StepDisks (shared_over tree_of log_of ids tree log) now d payloads p told (disks_of (tree_disk tree.inner) (log_disk log.inner)) (disks_of (tree_disk new_tree.inner) (log_disk new_log.inner))
  pub stop : StopLeaves p (shared_over tree_of log_of ids tree log) running now d told (tree_left new_tree.inner) (log_left new_log.inner)
  pub connections : Connections (made_request (shared_over tree_of log_of ids tree log) now d d.stage) told tree new_tree log new_log
