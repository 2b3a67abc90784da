-- What a request of a driver says of the disks by the reply of its step, where neither store was down before it.
use Rattle.std.proofs.Common.{◌≡◌, ℕ, ℤ, true, false, Option, Some, None, Result, Ok, Err, refl, subst}
use Rattle.kz_types.specs.declared.fault.TreeFault.{TreeFault}
use Rattle.kz_types.specs.declared.fault.TreeFault.TheVariants as tree_fault
use Rattle.kz_types.specs.declared.fault.LogFault.{LogFault}
use Rattle.kz_types.specs.declared.fault.LogFault.TheVariants as log_fault
use Rattle.kz_types.specs.declared.plan.Plan.{Plan}
use Rattle.kz_types.specs.declared.plan.Plan.TheVariants as plan
use Rattle.kz_types.specs.declared.machine.Reply.{Reply}
use Rattle.kz_types.specs.declared.machine.Reply.TheVariants as reply
use Rattle.kz_spec_data.specs.Tree.{multi}
use Rattle.kz_spec_data.specs.Log.{append}
use Rattle.kz_spec_data.specs.Requests.{Disk, Multi, Append, StoreAnswer, Done, Refused, answer_of_tree_fault, answer_of_log_fault, IsTaken, ChangesDisk, ReadsDisk}
use Rattle.kz_spec_machine.specs.Driver.{Shared, Driver, Request, nothing, read_log, list_brokers, look_up, read_page, write, add, epoch_or_zero, reaches}
use Rattle.kz_connection.specs.Connections.{Answered, Lost, Expired, OverConnection, without_sessions}
use Rattle.kz_requests.specs.declared.fault.StepFault.{StepFault}
use Rattle.kz_requests.specs.declared.fault.StepFault.TheVariants as step_fault
use Rattle.kz_requests.specs.Disks.{answer_of_made, TreeDisk, LogDisk}
use Rattle.kz_world_parts.specs.Disks.{Disks, Payloads, AsksNothing, RequestDisks}
use Rattle.kz_world_parts.specs.TurnDisks.{made_request, outcome_of}
use Rattle.kz_world_parts.specs.TurnStops.{AreUp}
use Rattle.kz_world_parts.specs.TurnDisks.{StepRequestDisks}
use Rattle.kz_stream.specs.declared.failure.Failure.{Failure}
use Rattle.kz_stream.specs.declared.failure.Failure.TheVariants as failure
use Rattle.kz_stream.specs.Failures.{failure_of_tree, failure_of_log, failure_of_reply}
use Rattle.kz_stream.specs.FailureDisks.{IsQuiet, AreQuiet, AnswerDisks}
use Rattle.kz_stream.proofs.Answers.{differ}
use Rattle.kz_stream.proofs.Stores.{AnswerDisk, same_quiet, change_tells, read_tells, all_same, tree_fails, log_fails}

-- ---- a request of one store

-- What a request does to the disk of a store that is up, by the store's answer; with the answer `own`, which the store gives where
-- nothing fails, no call of the disk failed.
record Tells (Changes : StoreAnswer → Disk → Disk → Type 0) (own : StoreAnswer) : Type 0 where
  each : (a : StoreAnswer) (old new : Disk) → old.down ≡ false → Changes a old new → AnswerDisk a old new
  calm : (old new : Disk) → old.down ≡ false → Changes own old new → IsQuiet old new

pub made_calm : {B E : Type 0} (made : Result B E) (taken : Type 0) (payload : ℕ) (old new : Disk) → old.down ≡ false → ChangesDisk taken payload (answer_of_made made) old new → IsQuiet old new
made_calm (Ok b) taken payload old new up h = change_tells taken payload Done old new up h
made_calm (Err e) taken payload old new up h = change_tells taken payload Refused old new up h

change_told : {B E : Type 0} (made : Result B E) (payload : ℕ) → Tells (ChangesDisk (IsTaken made) payload) (answer_of_made made)
change_told made payload = record {
  each = λ a old new up h. change_tells (IsTaken made) payload a old new up h;
  calm = λ old new up h. made_calm made (IsTaken made) payload old new up h;
}

read_told : Tells ReadsDisk Done
read_told = record { each = λ a old new up h. read_tells a old new up h; calm = λ old new up h. read_tells Done old new up h }

-- ---- the same over a connection

module _ (Changes : StoreAnswer → Disk → Disk → Type 0) (own : StoreAnswer) (told : Tells Changes own) (old new : Disk) (up : old.down ≡ false) where
  answered_quiet : (p : Plan) → OverConnection Changes own p (Answered own) old new → IsQuiet old new
  answered_quiet plan.Deliver h = told.calm old new up h
  answered_quiet plan.LostBefore h = same_quiet old new up h
  answered_quiet plan.LostAfter h = told.calm old new up h
  answered_quiet plan.Expired h = same_quiet old new up h

  lost_quiet : (p : Plan) → OverConnection Changes own p Lost old new → IsQuiet old new
  lost_quiet plan.Deliver h = absurd h
  lost_quiet plan.LostBefore h = same_quiet old new up h
  lost_quiet plan.LostAfter h = told.calm old new up h
  lost_quiet plan.Expired h = same_quiet old new up h

  expired_quiet : (p : Plan) → OverConnection Changes own p Expired old new → IsQuiet old new
  expired_quiet plan.Deliver h = absurd h
  expired_quiet plan.LostBefore h = same_quiet old new up h
  expired_quiet plan.LostAfter h = absurd h
  expired_quiet plan.Expired h = same_quiet old new up h

  -- the store's answer arrived
  arrived_tells : (p : Plan) (a : StoreAnswer) → reaches p false ≡ true → OverConnection Changes own p (Answered a) old new → AnswerDisk a old new
  arrived_tells plan.Deliver a arrives h = told.each a old new up h
  arrived_tells plan.LostBefore a arrives h = absurd (differ arrives)
  arrived_tells plan.LostAfter a arrives h = told.each a old new up h
  arrived_tells plan.Expired a arrives h = absurd (differ arrives)

log_arrives : (p : Plan) → reaches p true ≡ true → reaches (without_sessions p) false ≡ true
log_arrives plan.Deliver is = refl
log_arrives plan.LostBefore is = absurd (differ is)
log_arrives plan.LostAfter is = refl
log_arrives plan.Expired is = refl

-- ---- a request of a driver

-- how a step fails by the outcome of its request
abbrev failure_of_outcome : {A : Type 0} → Result A StepFault → Option Failure
failure_of_outcome (Ok told) = None
failure_of_outcome (Err step_fault.Lost) = None
failure_of_outcome (Err step_fault.Expired) = None
failure_of_outcome (Err (step_fault.Tree f)) = failure_of_tree f
failure_of_outcome (Err (step_fault.Log f)) = failure_of_log f
failure_of_outcome (Err step_fault.NoMemory) = Some failure.NoMemory

module _ (old new : Disks) (up : AreUp old) where
  with_tree : new.log ≡ old.log → IsQuiet old.tree new.tree → AreQuiet old new
  with_tree same h = record { tree = h; log = same_quiet old.log new.log up.log same }

  with_log : new.tree ≡ old.tree → IsQuiet old.log new.log → AreQuiet old new
  with_log same h = record { tree = same_quiet old.tree new.tree up.tree same; log = h }

  nothing_tells : {A : Type 0} (r : Result A StepFault) → AsksNothing r → new ≡ old → AnswerDisks (failure_of_outcome r) old new
  nothing_tells (Ok told) h same = all_same old new up same
  nothing_tells (Err step_fault.Lost) h same = absurd h
  nothing_tells (Err step_fault.Expired) h same = absurd h
  nothing_tells (Err (step_fault.Tree f)) h same = absurd h
  nothing_tells (Err (step_fault.Log f)) h same = absurd h
  nothing_tells (Err step_fault.NoMemory) h same = all_same old new up same

  tree_tells : {A : Type 0} (Changes : StoreAnswer → Disk → Disk → Type 0) (own : StoreAnswer) (p : Plan) (r : Result A StepFault) → Tells Changes own → TreeDisk Changes own p r old.tree new.tree → new.log ≡ old.log
      → AnswerDisks (failure_of_outcome r) old new
  tree_tells Changes own p (Ok a) told h same = with_tree same (answered_quiet Changes own told old.tree new.tree up.tree p h)
  tree_tells Changes own p (Err step_fault.Lost) told h same = with_tree same (lost_quiet Changes own told old.tree new.tree up.tree p h)
  tree_tells Changes own p (Err step_fault.Expired) told h same = with_tree same (expired_quiet Changes own told old.tree new.tree up.tree p h)
  tree_tells Changes own p (Err (step_fault.Tree f)) told h same =
      tree_fails f old new (same_quiet old.log new.log up.log same) (arrived_tells Changes own told old.tree new.tree up.tree p (answer_of_tree_fault f) h.0 h.2)
  tree_tells Changes own p (Err (step_fault.Log f)) told h same = absurd h
  tree_tells Changes own p (Err step_fault.NoMemory) told h same = with_tree same (same_quiet old.tree new.tree up.tree h)

  log_tells : {A : Type 0} (Changes : StoreAnswer → Disk → Disk → Type 0) (own : StoreAnswer) (p : Plan) (r : Result A StepFault) → Tells Changes own → LogDisk Changes own p r old.log new.log → new.tree ≡ old.tree
      → AnswerDisks (failure_of_outcome r) old new
  log_tells Changes own p (Ok a) told h same = with_log same (answered_quiet Changes own told old.log new.log up.log (without_sessions p) h)
  log_tells Changes own p (Err step_fault.Lost) told h same = with_log same (lost_quiet Changes own told old.log new.log up.log (without_sessions p) h)
  log_tells Changes own p (Err step_fault.Expired) told h same = absurd h
  log_tells Changes own p (Err (step_fault.Tree f)) told h same = absurd h
  log_tells Changes own p (Err (step_fault.Log f)) told h same =
      log_fails f old new (same_quiet old.tree new.tree up.tree same) (arrived_tells Changes own told old.log new.log up.log (without_sessions p) (answer_of_log_fault f) (log_arrives p h.0) h.2)
  log_tells Changes own p (Err step_fault.NoMemory) told h same = with_log same (same_quiet old.log new.log up.log h)

  request_tells : {A : Type 0} (s : Shared) (epoch now : ℤ) (payloads : Payloads) (p : Plan) (asks : Request) (r : Result A StepFault) → RequestDisks s epoch now payloads p asks r old new → AnswerDisks (failure_of_outcome r) old new
  request_tells s epoch now payloads p nothing r h = nothing_tells r h.0 h.1
  request_tells s epoch now payloads p read_log r h = log_tells ReadsDisk Done p r read_told h.0 h.1
  request_tells s epoch now payloads p list_brokers r h = tree_tells ReadsDisk Done p r read_told h.0 h.1
  request_tells s epoch now payloads p look_up r h = tree_tells ReadsDisk Done p r read_told h.0 h.1
  request_tells s epoch now payloads p (read_page after) r h = tree_tells ReadsDisk Done p r read_told h.0 h.1
  request_tells s epoch now payloads p (write ops) r h = tree_tells _ _ p r (change_told (multi s.tree ops) (payloads.tree s.tree (Multi ops))) h.0 h.1
  request_tells s epoch now payloads p (add records) r h = log_tells _ _ p r (change_told (append s.log epoch now records) (payloads.log s.log (Append epoch now records))) h.0 h.1

-- ---- a step

tree_outcome : (f : TreeFault) → failure_of_outcome (outcome_of (reply.TreeFailed f)) ≡ failure_of_tree f
tree_outcome (tree_fault.Refused index code) = refl
tree_outcome (tree_fault.Limit index number) = refl
tree_outcome tree_fault.NoMemory = refl
tree_outcome tree_fault.Device = refl
tree_outcome tree_fault.Down = refl
tree_outcome (tree_fault.Full length) = refl

log_outcome : (f : LogFault) → failure_of_outcome (outcome_of (reply.LogFailed f)) ≡ failure_of_log f
log_outcome (log_fault.Stale epoch) = refl
log_outcome log_fault.Failed = refl
log_outcome (log_fault.Limit number) = refl
log_outcome log_fault.NoMemory = refl
log_outcome log_fault.Down = refl
log_outcome (log_fault.Full length) = refl

reply_outcome : (r : Reply) → failure_of_outcome (outcome_of r) ≡ failure_of_reply r
reply_outcome (reply.TreeFailed f) = tree_outcome f
reply_outcome (reply.LogFailed f) = log_outcome f
reply_outcome r = refl

-- the reply of a step says what its one request did to the disks
pub step_tells : (p : Plan) (s : Shared) (now : ℤ) (d : Driver) (payloads : Payloads) (r : Reply) (old new : Disks) → AreUp old → StepRequestDisks p s now d payloads r old new → AnswerDisks (failure_of_reply r) old new
step_tells p s now d payloads r old new up h =
    subst (λ (f : Option Failure). AnswerDisks f old new) (reply_outcome r) (request_tells old new up s (epoch_or_zero d.epoch) now payloads p (made_request s now d d.stage) (outcome_of r) h)
