-- A fault that is told is one: of a disk that failed or was down, of a full file, or of memory.
use Rattle.std.proofs.Common.{◌≡◌, ℕ, ℤ, Bool, true, false, Option, Some, None, Result, Ok, Err, refl, sym, ap, cond, subst}
use Rattle.std.specs.Prelude.{IfOk, option_map, ⊤}
use Rattle.kz_types.specs.declared.fault.TreeFault.{TreeFault}
use Rattle.kz_types.specs.declared.fault.TreeFault.TheVariants as tree_fault
use Rattle.kz_types.specs.declared.fault.LogFault.{LogFault}
use Rattle.kz_types.specs.declared.fault.LogFault.TheVariants as log_fault
use Rattle.kz_types.specs.declared.plan.Plan.{Plan}
use Rattle.kz_types.specs.declared.machine.Event.{Event}
use Rattle.kz_types.specs.declared.machine.Event.TheVariants as event
use Rattle.kz_types.specs.declared.machine.Answer.{Answer}
use Rattle.kz_types.specs.declared.machine.Answer.TheVariants as answer
use Rattle.kz_types.specs.declared.move_fault.MoveFault.{MoveFault}
use Rattle.kz_spec_data.specs.Tree.{Tree, multi, begin_session, end_session, migration_record}
use Rattle.kz_spec_data.specs.Log.{Log, append, elect, begun_of, image_of}
use Rattle.kz_spec_data.specs.Requests.{Disk, StoreAnswer, Done, Multi, BeginSession, EndSession, Append, Elect, IsTaken, ChangesDisk, ReadsDisk, answer_of_tree_fault, answer_of_log_fault, Snapshot}
use Rattle.kz_spec_machine.specs.Driver.{Driver, least}
use Rattle.kz_spec_machine.specs.Machine.{World, running_refusal, leader_refusal, client_refusal, driver_of, running_ids, election_records, registration, final_records, is_rollback, snapshot_refusal, snapshot_offset}
use Rattle.kz_spec_machine.specs.Failures.{is_tree_failure, is_log_failure, is_failure, IsLeftByTree, IsLeftByLog, IsLeftOutOfMemory, IsLeft}
use Rattle.kz_requests.specs.Disks.{answer_of_made}
use Rattle.kz_driver.specs.Disks.{Disks, Payloads}
use Rattle.kz_world_parts.specs.declared.faults.EventFault.{EventFault}
use Rattle.kz_world_parts.specs.declared.faults.EventFault.TheVariants as event_fault
use Rattle.kz_world_parts.specs.Stores.{OnTreeFault, OnLogFault, IsTreeChange, IsLogChange, AsksNothing, ChangesLog}
use Rattle.kz_log.specs.Requests.{IsRefusal as IsLogRefusal, made_by_snapshot}
use Rattle.kz_tree.specs.Requests.{IsRefusal as IsTreeRefusal}
use Rattle.kz_session.specs.declared.sessions.SessionFault.{SessionFault}
use Rattle.kz_session.specs.declared.sessions.SessionFault.TheVariants as session_fault
use Rattle.kz_session.specs.Sessions.{answer_of_session_fault, IsRefusal as IsSessionRefusal}
use Rattle.kz_exit.specs.declared.faults.ExitFault.{ExitFault}
use Rattle.kz_exit.specs.declared.faults.ExitFault.TheVariants as exit
use Rattle.kz_world_parts.specs.Faults.{result_of_answer, answer_of_fault, after_log_fault, after_tree_fault, after_session_fault, after_exit}
use Rattle.kz_world_parts.specs.EventDisks.{UnlessRefused, TurnEventDisks, DriverStepDisks, TakesBack, ResultDisks, CutsLog}
use Rattle.kz_world_parts.specs.Refusals.{records_refusal, end_refusal}

-- ---- answers that tell a fault

-- a fault that is told as one
pub record IsTold (f : EventFault) : Type 0 where
  pub answer : result_of_answer (answer_of_fault f) ≡ Err f
  pub failure : is_failure (answer_of_fault f) ≡ true

no_memory_told : IsTold event_fault.NoMemory
no_memory_told = record { answer = refl; failure = refl }

tree_told : (holds : StoreAnswer → Type 0) (f : EventFault) → OnTreeFault holds f → IsTold f
tree_told holds (event_fault.Tree tree_fault.Device) h = record { answer = refl; failure = refl }
tree_told holds (event_fault.Tree tree_fault.Down) h = record { answer = refl; failure = refl }
tree_told holds (event_fault.Tree (tree_fault.Full n)) h = record { answer = refl; failure = refl }
tree_told holds (event_fault.Tree (tree_fault.Refused index code)) h = absurd h.0
tree_told holds (event_fault.Tree (tree_fault.Limit index number)) h = absurd h.0
tree_told holds (event_fault.Tree tree_fault.NoMemory) h = absurd h.0
tree_told holds (event_fault.Log f) h = absurd h
tree_told holds event_fault.NoMemory h = no_memory_told

log_told : (holds : StoreAnswer → Type 0) (f : EventFault) → OnLogFault holds f → IsTold f
log_told holds (event_fault.Log log_fault.Failed) h = record { answer = refl; failure = refl }
log_told holds (event_fault.Log log_fault.Down) h = record { answer = refl; failure = refl }
log_told holds (event_fault.Log (log_fault.Full n)) h = record { answer = refl; failure = refl }
log_told holds (event_fault.Log (log_fault.Stale epoch)) h = absurd h.0
log_told holds (event_fault.Log (log_fault.Limit number)) h = absurd h.0
log_told holds (event_fault.Log log_fault.NoMemory) h = absurd h.0
log_told holds (event_fault.Tree f) h = absurd h
log_told holds event_fault.NoMemory h = no_memory_told

nothing_told : (A : Type 0) (f : EventFault) (old new : Disks) → AsksNothing {A = A} (Err f) old new → IsTold f
nothing_told A (event_fault.Tree f) old new h = absurd h
nothing_told A (event_fault.Log f) old new h = absurd h
nothing_told A event_fault.NoMemory old new h = no_memory_told

log_read_told : (f : EventFault) (old new : Disk) → OnLogFault (λ a. ReadsDisk a old new) f → IsTold f
log_read_told f old new h = log_told (λ a. ReadsDisk a old new) f h

tree_change_told : {B E : Type 0} (made : Result B E) (payload : ℕ) (f : EventFault) (old new : Disk) → OnTreeFault (λ a. ChangesDisk (IsTaken made) payload a old new) f → IsTold f
tree_change_told made payload f old new h = tree_told (λ a. ChangesDisk (IsTaken made) payload a old new) f h

log_change_told : {B E : Type 0} (made : Result B E) (payload : ℕ) (f : EventFault) (old new : Disk) → OnLogFault (λ a. ChangesDisk (IsTaken made) payload a old new) f → IsTold f
log_change_told made payload f old new h = log_told (λ a. ChangesDisk (IsTaken made) payload a old new) f h

unless_told : (o : Option Answer) (asked refused : Type 0) (f : EventFault) → (asked → IsTold f) → (refused → IsTold f) → UnlessRefused o asked refused → IsTold f
unless_told None asked refused f a b h = a h
unless_told (Some r) asked refused f a b h = b h

turn_told : (w : World) (now : ℤ) (o : Option Driver) (payloads : Payloads) (f : EventFault) (old new : Disks) → TurnEventDisks w now o payloads (Err f) old new → IsTold f
turn_told w now None payloads f old new h = nothing_told Answer f old new h
turn_told w now (Some d) payloads f old new h = log_read_told f old.log new.log h.0

step_told : (p : Plan) (w : World) (now : ℤ) (o : Option Driver) (payloads : Payloads) (f : EventFault) (old new : Disks) → DriverStepDisks p w now o payloads (Err f) old new → IsTold f
step_told p w now None payloads f old new h = nothing_told Answer f old new h
step_told p w now (Some d) payloads f old new h = nothing_told Answer f old new h

-- the fault of an event that changes the log
log_changed_told : {B E : Type 0} (made : Result B E) (payload : ℕ) (f : EventFault) (old new : Disks) → ChangesLog {A = Answer} made payload (Err f) old new → IsTold f
log_changed_told made payload f old new h = log_change_told made payload f old.log new.log h.0

tree_by_failure : (b : Bool) (f : TreeFault) (g : EventFault) → is_tree_failure f ≡ b → cond b (Err (event_fault.Tree f)) (Ok (answer.TreeFailed f)) ≡ Err g → IsTold g
tree_by_failure true f g fails is = subst IsTold (let one : event_fault.Tree f ≡ g = cc in one) (record { answer = ap (λ (b : Bool). cond b (Err (event_fault.Tree f)) (Ok (answer.TreeFailed f))) fails; failure = fails })
tree_by_failure false f g fails is = absurd (cc)

log_by_failure : (b : Bool) (f : LogFault) (g : EventFault) → is_log_failure f ≡ b → cond b (Err (event_fault.Log f)) (Ok (answer.LogFailed f)) ≡ Err g → IsTold g
log_by_failure true f g fails is = subst IsTold (let one : event_fault.Log f ≡ g = cc in one) (record { answer = ap (λ (b : Bool). cond b (Err (event_fault.Log f)) (Ok (answer.LogFailed f))) fails; failure = fails })
log_by_failure false f g fails is = absurd (cc)

-- the fault of a rollback
exit_told : (r : Result ⊤ ExitFault) (g : EventFault) → Err g ≡ after_exit r → IsTold g
exit_told (Ok told) g is = absurd (cc)
exit_told (Err exit.Finalised) g is = absurd (cc)
exit_told (Err (exit.Unclosed path)) g is = absurd (cc)
exit_told (Err (exit.Behind recorded end)) g is = absurd (cc)
exit_told (Err (exit.Log f)) g is = log_by_failure (is_log_failure f) f g refl (sym is)
exit_told (Err (exit.Tree f)) g is = tree_by_failure (is_tree_failure f) f g refl (sym is)
exit_told (Err exit.NoMemory) g is = subst IsTold (let one : event_fault.NoMemory ≡ g = cc in one) no_memory_told

-- the fault of a snapshot that isn't refused
cut_told : (l : Log) (at : Option ℤ) (payloads : Payloads) (f : EventFault) (old new : Disks) → CutsLog l at payloads (Err f) old new → IsTold f
cut_told l None payloads f old new h = log_read_told f old.log new.log h.0
cut_told l (Some at) payloads f old new h = log_changed_told (made_by_snapshot l at) (payloads.log l (Snapshot at)) f old new h

-- the fault of an event
pub event_told : (w : World) (e : Event) (payloads : Payloads) (f : EventFault) (old new : Disks) → ResultDisks w e payloads (Err f) old new → IsTold f
event_told w (event.Quorum ids) payloads f old new h = nothing_told Answer f old new h
event_told w (event.Start id) payloads f old new h = nothing_told Answer f old new h
event_told w (event.Stop controller) payloads f old new h = nothing_told Answer f old new h
event_told w (event.Step id now p) payloads f old new h = unless_told (running_refusal w id) _ _ f (step_told p w now (driver_of id w.drivers) payloads f old new) (nothing_told Answer f old new) h
event_told w (event.Elect id now) payloads f old new h =
    unless_told (running_refusal w id) _ _ f (log_changed_told (elect w.shared.log now (election_records w.shared.log)) (payloads.log w.shared.log (Elect now (election_records w.shared.log))) f old new) (nothing_told Answer f old new) h
event_told w (event.Turn id now) payloads f old new h = unless_told (running_refusal w id) _ _ f (turn_told w now (driver_of id w.drivers) payloads f old new) (nothing_told Answer f old new) h
event_told w (event.Change id records now) payloads f old new h =
    unless_told (leader_refusal w id) _ _ f (unless_told (records_refusal w.shared.log.epoch (image_of w.shared.log) records) _ _ f (log_changed_told (append w.shared.log w.shared.log.epoch now records) (payloads.log w.shared.log (Append w.shared.log.epoch now records)) f old new) (λ k. log_read_told f old.log new.log k.0)) (nothing_told Answer f old new) h
event_told w (event.Register id broker migrating now) payloads f old new h =
    unless_told (leader_refusal w id) _ _ f (unless_told (option_map (λ offset. answer.InTransaction offset) (begun_of w.shared.log)) _ _ f (log_changed_told (append w.shared.log w.shared.log.epoch now (registration broker migrating)) (payloads.log w.shared.log (Append w.shared.log.epoch now (registration broker migrating))) f old new) (λ k. log_read_told f old.log new.log k.0))
    (nothing_told Answer f old new) h
event_told w (event.Finalise id now) payloads f old new h =
    unless_told (leader_refusal w id) _ _ f (unless_told (end_refusal w id) _ _ f (log_changed_told (append w.shared.log w.shared.log.epoch now final_records) (payloads.log w.shared.log (Append w.shared.log.epoch now final_records)) f old new) (λ k. log_read_told f old.log new.log k.0)) (nothing_told Answer f old new) h
event_told w event.Rollback payloads f old new h =
    unless_told (option_map (λ id. answer.Running id) (least (running_ids w.drivers))) _ _ f (λ (k : TakesBack w.shared payloads (Err f) old new). exit_told k.result f k.told) (nothing_told Answer f old new) h
event_told w event.Snapshot payloads f old new h =
    unless_told (snapshot_refusal w) _ _ f (cut_told w.shared.log (snapshot_offset (migration_record w.shared.tree) w.shared.log) payloads f old new) (λ k. log_read_told f old.log new.log k.0) h
event_told w event.Check payloads f old new h = log_read_told f old.log new.log h.0
event_told w (event.ZkOpen session) payloads f old new h = tree_change_told (begin_session w.shared.tree session) (payloads.tree w.shared.tree (BeginSession session)) f old.tree new.tree h.0
event_told w (event.ZkExpire session) payloads f old new h = tree_change_told (end_session w.shared.tree session) (payloads.tree w.shared.tree (EndSession session)) f old.tree new.tree h.0
event_told w (event.Zk ops) payloads f old new h =
    unless_told (client_refusal w.shared.tree ops) _ _ f (λ k. tree_change_told (multi w.shared.tree ops) (payloads.tree w.shared.tree (Multi ops)) f old.tree new.tree k.0) (nothing_told Answer f old new) h

left_by_tree : (w : World) (e : Event) (new : World) → is_rollback e ≡ false → new ≡ w → IsLeftByTree w e new
left_by_tree w event.Rollback new forward h = absurd (cc)
left_by_tree w e new forward h = h

left_by_log : (w : World) (e : Event) (f : LogFault) (new : World) → is_rollback e ≡ false → new ≡ w → IsLeftByLog w e f new
left_by_log w event.Rollback f new forward h = absurd (cc)
left_by_log w e f new forward h = h

left_out_of_memory : (w : World) (e : Event) (new : World) → is_rollback e ≡ false → new ≡ w → IsLeftOutOfMemory w e new
left_out_of_memory w event.Rollback new forward h = absurd (cc)
left_out_of_memory w e new forward h = h

-- an event other than a rollback that answers a fault leaves the world as it was
pub left_by : (w : World) (e : Event) (f : EventFault) (new : World) → is_rollback e ≡ false → new ≡ w → IsLeft w e (answer_of_fault f) new
left_by w e (event_fault.Tree f) new forward h = left_by_tree w e new forward h
left_by w e (event_fault.Log f) new forward h = left_by_log w e f new forward h
left_by w e event_fault.NoMemory new forward h = left_out_of_memory w e new forward h

-- ---- answers that tell of no failure

tree_by : (b : Bool) (f : TreeFault) → b ≡ false → cond b (Err (event_fault.Tree f)) (Ok (answer.TreeFailed f)) ≡ Ok (answer.TreeFailed f)
tree_by true f h = absurd (cc)
tree_by false f h = refl

log_by : (b : Bool) (f : LogFault) → b ≡ false → cond b (Err (event_fault.Log f)) (Ok (answer.LogFailed f)) ≡ Ok (answer.LogFailed f)
log_by true f h = absurd (cc)
log_by false f h = refl

-- an answer that tells of no failure is a result
pub told_answer : (a : Answer) → is_failure a ≡ false → result_of_answer a ≡ Ok a
told_answer answer.Done h = refl
told_answer (answer.DoneAt zxid) h = refl
told_answer (answer.Elected epoch offset) h = refl
told_answer (answer.Step r) h = refl
told_answer (answer.Turn rs) h = refl
told_answer (answer.Appended offset) h = refl
told_answer answer.RolledBack h = refl
told_answer (answer.Check v) h = refl
told_answer (answer.Running id) h = refl
told_answer answer.UnknownController h = refl
told_answer answer.AlreadyRunning h = refl
told_answer answer.NotRunning h = refl
told_answer answer.NotLeader h = refl
told_answer (answer.Stale epoch) h = refl
told_answer (answer.InTransaction offset) h = refl
told_answer answer.NotMigrated h = refl
told_answer answer.Finalised h = refl
told_answer (answer.NotDualWrite s) h = refl
told_answer (answer.Unclosed path) h = refl
told_answer (answer.Behind recorded end) h = refl
told_answer answer.TooEarly h = refl
told_answer (answer.BadRecord index why) h = refl
told_answer (answer.Over number) h = refl
told_answer answer.Known h = refl
told_answer answer.Unknown h = refl
told_answer (answer.Reserved path) h = refl
told_answer (answer.KraftHolds path) h = refl
told_answer (answer.Refused index code) h = refl
told_answer (answer.OverOp index number) h = refl
told_answer (answer.TreeFailed f) h = tree_by (is_tree_failure f) f h
told_answer (answer.LogFailed f) h = log_by (is_log_failure f) f h
told_answer answer.NoMemory h = absurd (cc)

-- ---- where a store doesn't do what is asked of it

-- what the log's answer says of its disk
pub log_disk : (made : Result Log LogFault) (f : LogFault) (payload : ℕ) (old new : Disk) → IsLogRefusal made f → ChangesDisk (IsTaken made) payload (answer_of_log_fault f) old new → IsLogChange made payload (after_log_fault f) old new
log_disk made (log_fault.Stale epoch) payload old new is h = subst (λ (x : Result Log LogFault). ChangesDisk (IsTaken made) payload (answer_of_made x) old new) (sym is) h
log_disk made (log_fault.Limit number) payload old new is h = subst (λ (x : Result Log LogFault). ChangesDisk (IsTaken made) payload (answer_of_made x) old new) (sym is) h
log_disk made log_fault.Failed payload old new is h = (tt, h)
log_disk made log_fault.NoMemory payload old new is h = h
log_disk made log_fault.Down payload old new is h = (tt, h)
log_disk made (log_fault.Full n) payload old new is h = (tt, h)

-- what the tree's answer says of its disk
pub tree_disk : (made : Result Tree TreeFault) (f : TreeFault) (payload : ℕ) (old new : Disk) → IsTreeRefusal made f → ChangesDisk (IsTaken made) payload (answer_of_tree_fault f) old new → IsTreeChange made payload (after_tree_fault f) old new
tree_disk made (tree_fault.Refused index code) payload old new is h = subst (λ (x : Result Tree TreeFault). ChangesDisk (IsTaken made) payload (answer_of_made x) old new) (sym is) h
tree_disk made (tree_fault.Limit index number) payload old new is h = subst (λ (x : Result Tree TreeFault). ChangesDisk (IsTaken made) payload (answer_of_made x) old new) (sym is) h
tree_disk made tree_fault.Device payload old new is h = (tt, h)
tree_disk made tree_fault.NoMemory payload old new is h = h
tree_disk made tree_fault.Down payload old new is h = (tt, h)
tree_disk made (tree_fault.Full n) payload old new is h = (tt, h)

-- the same of a session
pub session_disk : (made : Result Tree MoveFault) (f : SessionFault) (payload : ℕ) (old new : Disk) → IsSessionRefusal made f → ChangesDisk (IsTaken made) payload (answer_of_session_fault f) old new → IsTreeChange made payload (after_session_fault f) old new
session_disk made session_fault.Known payload old new is h = subst (λ (x : Result Tree MoveFault). ChangesDisk (IsTaken made) payload (answer_of_made x) old new) (sym is) h
session_disk made session_fault.Unknown payload old new is h = subst (λ (x : Result Tree MoveFault). ChangesDisk (IsTaken made) payload (answer_of_made x) old new) (sym is) h
session_disk made session_fault.NoMemory payload old new is h = h
session_disk made session_fault.Device payload old new is h = (tt, h)
session_disk made session_fault.Down payload old new is h = (tt, h)
session_disk made (session_fault.Full n) payload old new is h = (tt, h)
session_disk made (session_fault.Limit number) payload old new is h = subst (λ (x : Result Tree MoveFault). ChangesDisk (IsTaken made) payload (answer_of_made x) old new) (sym is) h

-- a request that is done
pub changed : {B E : Type 0} (made : Result B E) (new : B) (payload : ℕ) (old later : Disk) → made ≡ Ok new → ChangesDisk (IsTaken made) payload Done old later → ChangesDisk (IsTaken made) payload (answer_of_made made) old later
changed {B = B} {E = E} made new payload old later is h = subst (λ (x : Result B E). ChangesDisk (IsTaken made) payload (answer_of_made x) old later) (sym is) h

-- what the log refuses
pub log_refuses : (made : Result Log LogFault) (f : LogFault) (holds : Answer → Type 0) → IsLogRefusal made f → ((epoch : ℤ) → made ≡ Err (log_fault.Stale epoch) → holds (answer.Stale epoch)) → ((number : ℕ) → made ≡ Err (log_fault.Limit number) → holds (answer.Over number))
    → IfOk (after_log_fault f) holds
log_refuses made (log_fault.Stale epoch) holds is stale over = stale epoch is
log_refuses made (log_fault.Limit number) holds is stale over = over number is
log_refuses made log_fault.Failed holds is stale over = tt
log_refuses made log_fault.NoMemory holds is stale over = tt
log_refuses made log_fault.Down holds is stale over = tt
log_refuses made (log_fault.Full n) holds is stale over = tt
