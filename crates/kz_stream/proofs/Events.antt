-- What the answer of an event says of the disks, where neither store was down before it.
use Rattle.std.proofs.Common.{◌≡◌, ℕ, zero, suc, Bool, true, false, ◌||◌, ℤ, List, [], ◌∷◌, Option, Some, None, Result, Ok, Err, refl, sym, subst}
use Rattle.std.specs.Prelude.{⊤, option_map}
use Rattle.std.specs.List.{list_any}
use Rattle.kz_types.specs.declared.fault.TreeFault.{TreeFault}
use Rattle.kz_types.specs.declared.fault.TreeFault.TheVariants as tree_fault
use Rattle.kz_types.specs.declared.fault.LogFault.{LogFault}
use Rattle.kz_types.specs.declared.fault.LogFault.TheVariants as log_fault
use Rattle.kz_types.specs.declared.plan.Plan.{Plan}
use Rattle.kz_types.specs.declared.plan.Plan.TheVariants as plan
use Rattle.kz_types.specs.declared.machine.Reply.{Reply}
use Rattle.kz_types.specs.declared.machine.Reply.TheVariants as reply
use Rattle.kz_types.specs.declared.machine.Event.{Event}
use Rattle.kz_types.specs.declared.machine.Event.TheVariants as event
use Rattle.kz_types.specs.declared.machine.Answer.{Answer}
use Rattle.kz_types.specs.declared.machine.Answer.TheVariants as answer
use Rattle.kz_spec_data.specs.Tree.{multi, begin_session, end_session, migration_record}
use Rattle.kz_spec_data.specs.Log.{append, elect, image_of, begun_of}
use Rattle.kz_spec_data.specs.Requests.{Multi, BeginSession, EndSession, Append, Elect, Done, NoMemory, answer_of_tree_fault, answer_of_log_fault, IsTaken, Snapshot}
use Rattle.kz_spec_machine.specs.Driver.{Shared, Driver, least, step}
use Rattle.kz_spec_machine.specs.Machine.{World, ends, driver_of, running_ids, running_refusal, leader_refusal, client_refusal, election_records, registration, final_records, work, snapshot_refusal, snapshot_offset}
use Rattle.kz_spec_machine.specs.Failures.{is_failed_step, is_failure, IsCutOff, IsLeftByStep, IsLeftByTurn, IsLeft}
use Rattle.kz_world_parts.specs.Disks.{Disks, Payloads}
use Rattle.kz_world_parts.specs.TurnStops.{AreUp}
use Rattle.kz_world_parts.specs.TurnDisks.{StepRequestDisks, TurnDisks}
use Rattle.kz_world_parts.specs.declared.faults.EventFault.{EventFault}
use Rattle.kz_world_parts.specs.declared.faults.EventFault.TheVariants as event_fault
use Rattle.kz_world_parts.specs.Stores.{AsksNothing, ReadsLog, ChangesTree, ChangesLog}
use Rattle.kz_world_parts.specs.EventDisks.{DriverTurnDisks, TurnEventDisks, DriverStepDisks, UnlessRefused, TakesBack, ResultDisks, EventDisks, CutsLog}
use Rattle.kz_world_parts.specs.Refusals.{records_refusal, end_refusal}
use Rattle.kz_world_parts.specs.Faults.{result_of_answer}
use Rattle.kz_stream.specs.declared.failure.Failure.{Failure}
use Rattle.kz_stream.specs.Failures.{failure_of_tree, failure_of_log, failure_of_reply, first_failure, failure_of_replies, failure_of}
use Rattle.kz_stream.specs.FailureDisks.{AreQuiet, AnswerDisks}
use Rattle.kz_stream.proofs.Answers.{differ, reply_works, replies_work}
use Rattle.kz_stream.proofs.Stores.{same_quiet, change_tells, read_tells, all_same, tree_fails, log_fails, after_quiet, up_after}
use Rattle.kz_stream.proofs.Requests.{made_calm, step_tells}
use Rattle.kz_stream.proofs.Rollbacks.{own_failure, tree_result, log_result, rollback_tells}
use Rattle.kz_log.specs.Requests.{made_by_snapshot}

-- ---- the steps of a turn

both_false : (a b : Bool) → (a || b) ≡ false → (a ≡ false) × (b ≡ false)
both_false true b h = absurd (differ (sym h))
both_false false b h = (refl, h)

-- a step that didn't fail
quiet_step : (s : Shared) (now : ℤ) (d : Driver) (payloads : Payloads) (r : Reply) (old new : Disks) → AreUp old → failure_of_reply r ≡ None → StepRequestDisks plan.Deliver s now d payloads r old new → AreQuiet old new
quiet_step s now d payloads r old new up works h = subst (λ (f : Option Failure). AnswerDisks f old new) works (step_tells plan.Deliver s now d payloads r old new up h)

-- a turn of which no step failed
quiet_turn : (s : Shared) (running : List ℤ) (now : ℤ) (d : Driver) (payloads : Payloads) (replies : List Reply) (old new : Disks) → AreUp old → list_any is_failed_step replies ≡ false → TurnDisks s running now d payloads replies old new
    → AreQuiet old new
quiet_turn s running now d payloads [] old new up works h = all_same old new up h
quiet_turn s running now d payloads (r ∷ rs) old new up works h =
    let each = both_false (is_failed_step r) (list_any is_failed_step rs) works in
    let before : AreQuiet old h.0 = quiet_step s now d payloads r old h.0 up (reply_works r each.0) h.1 in
    after_quiet old h.0 new before None (quiet_turn (step s running now d).shared running now (step s running now d).driver payloads rs h.0 new (up_after old h.0 before) each.1 h.2)

-- a reply that doesn't end a turn tells of no failure
goes_on : (r : Reply) → ends r ≡ false → failure_of_reply r ≡ None
goes_on (reply.TreeFailed f) on = absurd (differ (sym on))
goes_on (reply.LogFailed f) on = absurd (differ (sym on))
goes_on reply.NoMemory on = absurd (differ (sym on))
goes_on r on = refl

-- the failure of one step alone
one_failure : (f : Option Failure) → first_failure f None ≡ f
one_failure None = refl
one_failure (Some f) = refl

-- A turn that a failure cut off: no step before the last one failed.
cut_turn : (n : ℕ) (s : Shared) (running : List ℤ) (now : ℤ) (d : Driver) (replies : List Reply) (shared : Shared) (driver : Driver) (payloads : Payloads) (old new : Disks) → AreUp old
    → IsCutOff n s running now d replies shared driver → TurnDisks s running now d payloads replies old new → AnswerDisks (failure_of_replies replies) old new
unfolding IsCutOff
cut_turn zero s running now d replies shared driver payloads old new up cut h = absurd cut
cut_turn (suc n) s running now d [] shared driver payloads old new up cut h = absurd cut
cut_turn (suc n) s running now d (r ∷ []) shared driver payloads old new up cut h =
    let told : AnswerDisks (failure_of_reply r) old new = subst (λ (x : Disks). AnswerDisks (failure_of_reply r) old x) (sym h.2) (step_tells plan.Deliver s now d payloads r old h.0 up h.1) in
    rw (one_failure (failure_of_reply r)) told
cut_turn (suc n) s running now d (r ∷ q ∷ rs) shared driver payloads old new up cut h =
    let works = goes_on r cut.1 in
    let before : AreQuiet old h.0 = quiet_step s now d payloads r old h.0 up works h.1 in
    rw works (after_quiet old h.0 new before (failure_of_replies (q ∷ rs))
    (cut_turn n (step s running now d).shared running now (step s running now d).driver (q ∷ rs) shared driver payloads h.0 new (up_after old h.0 before) cut.2 h.2))

-- ---- an event that asks a store by itself, or none

module _ (old new : Disks) (up : AreUp old) where
  nothing_tells : (r : Result Answer EventFault) → AsksNothing r old new → AnswerDisks (own_failure r) old new
  nothing_tells (Ok told) h = all_same old new up h
  nothing_tells (Err (event_fault.Tree f)) h = absurd h
  nothing_tells (Err (event_fault.Log f)) h = absurd h
  nothing_tells (Err event_fault.NoMemory) h = all_same old new up h

  log_read_tells : (r : Result Answer EventFault) → ReadsLog r old new → AnswerDisks (own_failure r) old new
  log_read_tells (Ok told) h = record { tree = same_quiet old.tree new.tree up.tree h.1; log = read_tells Done old.log new.log up.log h.0 }
  log_read_tells (Err (event_fault.Tree f)) h = absurd h.0
  log_read_tells (Err (event_fault.Log f)) h = log_fails f old new (same_quiet old.tree new.tree up.tree h.1) (read_tells (answer_of_log_fault f) old.log new.log up.log h.0.1)
  log_read_tells (Err event_fault.NoMemory) h = record { tree = same_quiet old.tree new.tree up.tree h.1; log = read_tells NoMemory old.log new.log up.log h.0 }

  tree_change_tells : {B E : Type 0} (made : Result B E) (payload : ℕ) (r : Result Answer EventFault) → ChangesTree made payload r old new → AnswerDisks (own_failure r) old new
  tree_change_tells made payload (Ok told) h = record { tree = made_calm made (IsTaken made) payload old.tree new.tree up.tree h.0; log = same_quiet old.log new.log up.log h.1 }
  tree_change_tells made payload (Err (event_fault.Tree f)) h =
      tree_fails f old new (same_quiet old.log new.log up.log h.1) (change_tells (IsTaken made) payload (answer_of_tree_fault f) old.tree new.tree up.tree h.0.1)
  tree_change_tells made payload (Err (event_fault.Log f)) h = absurd h.0
  tree_change_tells made payload (Err event_fault.NoMemory) h =
      record { tree = change_tells (IsTaken made) payload NoMemory old.tree new.tree up.tree h.0; log = same_quiet old.log new.log up.log h.1 }

  log_change_tells : {B E : Type 0} (made : Result B E) (payload : ℕ) (r : Result Answer EventFault) → ChangesLog made payload r old new → AnswerDisks (own_failure r) old new
  log_change_tells made payload (Ok told) h = record { tree = same_quiet old.tree new.tree up.tree h.1; log = made_calm made (IsTaken made) payload old.log new.log up.log h.0 }
  log_change_tells made payload (Err (event_fault.Tree f)) h = absurd h.0
  log_change_tells made payload (Err (event_fault.Log f)) h =
      log_fails f old new (same_quiet old.tree new.tree up.tree h.1) (change_tells (IsTaken made) payload (answer_of_log_fault f) old.log new.log up.log h.0.1)
  log_change_tells made payload (Err event_fault.NoMemory) h =
      record { tree = same_quiet old.tree new.tree up.tree h.1; log = change_tells (IsTaken made) payload NoMemory old.log new.log up.log h.0 }

-- ---- an event of which no step failed

unless : (refusal : Option Answer) (asks refused P : Type 0) → (asks → P) → (refused → P) → UnlessRefused refusal asks refused → P
unless None asks refused P a b h = a h
unless (Some x) asks refused P a b h = b h

-- no step of this result failed
abbrev Works : Result Answer EventFault → Type 0
Works (Ok (answer.Step r)) = failure_of_reply r ≡ None
Works (Ok (answer.Turn replies)) = list_any is_failed_step replies ≡ false
Works r = ⊤

module _ (w : World) (payloads : Payloads) (old new : Disks) (up : AreUp old) where
  turn_answer_tells : (now : ℤ) (d : Driver) (a : Answer) → Works (Ok a) → DriverTurnDisks w now d payloads (Ok a) old new → AreQuiet old new
  turn_answer_tells now d (answer.Turn replies) works h = quiet_turn w.shared (running_ids w.drivers) now d payloads replies old new up works h.1
  turn_answer_tells now d a works h = log_read_tells old new up (Ok a) h

  driver_turn_tells : (now : ℤ) (d : Driver) (r : Result Answer EventFault) → Works r → DriverTurnDisks w now d payloads r old new → AnswerDisks (own_failure r) old new
  driver_turn_tells now d (Ok a) works h = turn_answer_tells now d a works h
  driver_turn_tells now d (Err f) works h = log_read_tells old new up (Err f) h

  turn_tells : (now : ℤ) (m : Option Driver) (r : Result Answer EventFault) → Works r → TurnEventDisks w now m payloads r old new → AnswerDisks (own_failure r) old new
  turn_tells now None r works h = nothing_tells old new up r h
  turn_tells now (Some d) r works h = driver_turn_tells now d r works h

  step_answer_tells : (p : Plan) (now : ℤ) (d : Driver) (a : Answer) → Works (Ok a) → DriverStepDisks p w now (Some d) payloads (Ok a) old new → AreQuiet old new
  step_answer_tells p now d (answer.Step r) works h = subst (λ (f : Option Failure). AnswerDisks f old new) works (step_tells p w.shared now d payloads r old new up h)
  step_answer_tells p now d a works h = nothing_tells old new up (Ok a) h

  step_event_tells : (p : Plan) (now : ℤ) (m : Option Driver) (r : Result Answer EventFault) → Works r → DriverStepDisks p w now m payloads r old new → AnswerDisks (own_failure r) old new
  step_event_tells p now None r works h = nothing_tells old new up r h
  step_event_tells p now (Some d) (Ok a) works h = step_answer_tells p now d a works h
  step_event_tells p now (Some d) (Err f) works h = nothing_tells old new up (Err f) h

  cut_tells : (at : Option ℤ) (r : Result Answer EventFault) → CutsLog w.shared.log at payloads r old new → AnswerDisks (own_failure r) old new
  cut_tells None r h = log_read_tells old new up r h
  cut_tells (Some at) r h = log_change_tells old new up (made_by_snapshot w.shared.log at) (payloads.log w.shared.log (Snapshot at)) r h

  event_tells : (e : Event) (r : Result Answer EventFault) → Works r → ResultDisks w e payloads r old new → AnswerDisks (own_failure r) old new
  event_tells (event.Quorum ids) r works h = nothing_tells old new up r h
  event_tells (event.Start id) r works h = nothing_tells old new up r h
  event_tells (event.Stop controller) r works h = nothing_tells old new up r h
  event_tells (event.Step id now p) r works h = unless (running_refusal w id) _ _ (AnswerDisks (own_failure r) old new) (λ k. step_event_tells p now (driver_of id w.drivers) r works k) (λ k. nothing_tells old new up r k) h
  event_tells (event.Elect id now) r works h =
      unless (running_refusal w id) _ _ (AnswerDisks (own_failure r) old new)
      (λ k. log_change_tells old new up (elect w.shared.log now (election_records w.shared.log)) (payloads.log w.shared.log (Elect now (election_records w.shared.log))) r k) (λ k. nothing_tells old new up r k) h
  event_tells (event.Turn id now) r works h = unless (running_refusal w id) _ _ (AnswerDisks (own_failure r) old new) (λ k. turn_tells now (driver_of id w.drivers) r works k) (λ k. nothing_tells old new up r k) h
  event_tells (event.Change id records now) r works h =
      unless (leader_refusal w id) _ _ (AnswerDisks (own_failure r) old new)
      (λ j.
      unless (records_refusal w.shared.log.epoch (image_of w.shared.log) records) _ _ (AnswerDisks (own_failure r) old new)
      (λ k. log_change_tells old new up (append w.shared.log w.shared.log.epoch now records) (payloads.log w.shared.log (Append w.shared.log.epoch now records)) r k) (λ k. log_read_tells old new up r k) j)
      (λ k. nothing_tells old new up r k) h
  event_tells (event.Register id broker migrating now) r works h =
      unless (leader_refusal w id) _ _ (AnswerDisks (own_failure r) old new)
      (λ j.
      unless (option_map (λ offset. answer.InTransaction offset) (begun_of w.shared.log)) _ _ (AnswerDisks (own_failure r) old new)
      (λ k. log_change_tells old new up (append w.shared.log w.shared.log.epoch now (registration broker migrating)) (payloads.log w.shared.log (Append w.shared.log.epoch now (registration broker migrating))) r k)
      (λ k. log_read_tells old new up r k) j)
      (λ k. nothing_tells old new up r k) h
  event_tells (event.Finalise id now) r works h =
      unless (leader_refusal w id) _ _ (AnswerDisks (own_failure r) old new)
      (λ j.
      unless (end_refusal w id) _ _ (AnswerDisks (own_failure r) old new)
      (λ k. log_change_tells old new up (append w.shared.log w.shared.log.epoch now final_records) (payloads.log w.shared.log (Append w.shared.log.epoch now final_records)) r k) (λ k. log_read_tells old new up r k) j)
      (λ k. nothing_tells old new up r k) h
  event_tells event.Rollback r works h =
      unless (option_map (λ id. answer.Running id) (least (running_ids w.drivers))) _ _ (AnswerDisks (own_failure r) old new)
      (λ (k : TakesBack w.shared payloads r old new). rollback_tells w.shared payloads r old new up k) (λ k. nothing_tells old new up r k) h
  event_tells event.Snapshot r works h =
      unless (snapshot_refusal w) _ _ (AnswerDisks (own_failure r) old new)
      (λ k. cut_tells (snapshot_offset (migration_record w.shared.tree) w.shared.log) r k) (λ k. log_read_tells old new up r k) h
  event_tells event.Check r works h = log_read_tells old new up r h
  event_tells (event.ZkOpen session) r works h = tree_change_tells old new up (begin_session w.shared.tree session) (payloads.tree w.shared.tree (BeginSession session)) r h
  event_tells (event.ZkExpire session) r works h = tree_change_tells old new up (end_session w.shared.tree session) (payloads.tree w.shared.tree (EndSession session)) r h
  event_tells (event.Zk ops) r works h =
      unless (client_refusal w.shared.tree ops) _ _ (AnswerDisks (own_failure r) old new)
      (λ k. tree_change_tells old new up (multi w.shared.tree ops) (payloads.tree w.shared.tree (Multi ops)) r k) (λ k. nothing_tells old new up r k) h

-- ---- an event of which a step failed

-- what holds of an event of a driver that isn't refused
not_refused : (holds : Option Driver → Type 0) (refusal : Option Answer) (m : Option Driver) (d : Driver) (refused : Type 0) → refusal ≡ None → m ≡ Some d → UnlessRefused refusal (holds m) refused → holds (Some d)
not_refused holds None m d refused none found h = subst holds found h
not_refused holds (Some x) m d refused none found h = absurd (cc)

failed_step : (w left : World) (e : Event) (payloads : Payloads) (r : Reply) (old new : Disks) → AreUp old → EventDisks w e payloads (answer.Step r) old new → IsLeftByStep w e left → AnswerDisks (failure_of_reply r) old new
failed_step w left (event.Step id now p) payloads r old new up h made =
    let d = made.1.0 in
    step_tells p w.shared now d payloads r old new up
    (not_refused (λ m. DriverStepDisks p w now m payloads (Ok (answer.Step r)) old new) (running_refusal w id) (driver_of id w.drivers) d _ made.0 made.1.1 h)
failed_step w left e payloads r old new up h made = absurd made

failed_turn : (w left : World) (e : Event) (payloads : Payloads) (replies : List Reply) (old new : Disks) → AreUp old → EventDisks w e payloads (answer.Turn replies) old new → IsLeftByTurn w e replies left
    → AnswerDisks (failure_of_replies replies) old new
failed_turn w left (event.Turn id now) payloads replies old new up h c =
    cut_turn (work w.shared c.before) w.shared (running_ids w.drivers) now c.before replies left.shared c.after payloads old new up c.cut_off
    (not_refused (λ m. TurnEventDisks w now m payloads (Ok (answer.Turn replies)) old new) (running_refusal w id) (driver_of id w.drivers) c.before _ c.runs.0 c.runs.1 h).1
failed_turn w left e payloads replies old new up h c = absurd c

-- ---- an event

-- a step by its reply
single_step : (w left : World) (e : Event) (payloads : Payloads) (r : Reply) (old new : Disks) (fails : Bool) → AreUp old → EventDisks w e payloads (answer.Step r) old new → is_failed_step r ≡ fails
    → (fails ≡ true → IsLeftByStep w e left) → AnswerDisks (failure_of_reply r) old new
single_step w left e payloads r old new true up h is made = failed_step w left e payloads r old new up h (made refl)
single_step w left e payloads r old new false up h is made =
    let works = reply_works r is in
    rw works (event_tells w payloads old new up e (Ok (answer.Step r)) works h)

-- a turn by its replies
whole_turn : (w left : World) (e : Event) (payloads : Payloads) (replies : List Reply) (old new : Disks) (fails : Bool) → AreUp old → EventDisks w e payloads (answer.Turn replies) old new → list_any is_failed_step replies ≡ fails
    → (fails ≡ true → IsLeftByTurn w e replies left) → AnswerDisks (failure_of_replies replies) old new
whole_turn w left e payloads replies old new true up h is cut = failed_turn w left e payloads replies old new up h (cut refl)
whole_turn w left e payloads replies old new false up h is cut = rw (replies_work replies is) (event_tells w payloads old new up e (Ok (answer.Turn replies)) is h)

tree_works : (f : TreeFault) → Works (result_of_answer (answer.TreeFailed f))
tree_works (tree_fault.Refused index code) = tt
tree_works (tree_fault.Limit index number) = tt
tree_works f = tt

tree_failed : (w : World) (e : Event) (payloads : Payloads) (f : TreeFault) (old new : Disks) → AreUp old → EventDisks w e payloads (answer.TreeFailed f) old new → AnswerDisks (failure_of_tree f) old new
tree_failed w e payloads f old new up h =
    subst (λ (x : Option Failure). AnswerDisks x old new) (tree_result f) (event_tells w payloads old new up e (result_of_answer (answer.TreeFailed f)) (tree_works f) h)

log_works : (f : LogFault) → Works (result_of_answer (answer.LogFailed f))
log_works (log_fault.Stale epoch) = tt
log_works (log_fault.Limit number) = tt
log_works f = tt

log_failed : (w : World) (e : Event) (payloads : Payloads) (f : LogFault) (old new : Disks) → AreUp old → EventDisks w e payloads (answer.LogFailed f) old new → AnswerDisks (failure_of_log f) old new
log_failed w e payloads f old new up h =
    subst (λ (x : Option Failure). AnswerDisks x old new) (log_result f) (event_tells w payloads old new up e (result_of_answer (answer.LogFailed f)) (log_works f) h)

-- The answer of an event says which disk failed in it, if one did.
pub answer_disks : (w left : World) (e : Event) (payloads : Payloads) (a : Answer) (old new : Disks) → AreUp old → EventDisks w e payloads a old new → (is_failure a ≡ true → IsLeft w e a left) → AnswerDisks (failure_of a) old new
answer_disks w left e payloads (answer.Step r) old new up h cut = single_step w left e payloads r old new (is_failed_step r) up h refl cut
answer_disks w left e payloads (answer.Turn replies) old new up h cut = whole_turn w left e payloads replies old new (list_any is_failed_step replies) up h refl cut
answer_disks w left e payloads (answer.TreeFailed f) old new up h cut = tree_failed w e payloads f old new up h
answer_disks w left e payloads (answer.LogFailed f) old new up h cut = log_failed w e payloads f old new up h
answer_disks w left e payloads a old new up h cut = event_tells w payloads old new up e (result_of_answer a) tt h
