-- After the commit no step appends, and no transaction is open.
use Rattle.std.proofs.Common.{◌≡◌, ℕ, zero, suc, ℤ, Bool, true, false, if◌then◌else◌, List, [], ◌∷◌, take, Option, Some, None, refl, ap, ◌∙◌}
use Rattle.std.specs.Prelude.{Result, Ok, Err}
use Rattle.kz_types.specs.declared.limits.TheConstants.{MAX_APPEND_RECORDS}
use Rattle.kz_types.specs.declared.tree.Row.{Row}
use Rattle.kz_types.specs.declared.tree.Op.{Op}
use Rattle.kz_types.specs.declared.driver.Stage.{Stage}
use Rattle.kz_types.specs.declared.driver.Stage.TheVariants as stage
use Rattle.kz_types.specs.declared.fault.TreeFault.{TreeFault}
use Rattle.kz_types.specs.declared.fault.LogFault.{LogFault}
use Rattle.kz_types.specs.declared.move_fault.MoveFault.{MoveFault}
use Rattle.kz_types.specs.declared.machine.Recorded.{Recorded}
use Rattle.kz_types.specs.declared.machine.Event.{Event}
use Rattle.kz_types.specs.declared.machine.Event.TheVariants as event
use Rattle.kz_types.specs.declared.machine.Answer.TheVariants as answer
use Rattle.kz_types.specs.declared.plan.Plan.{Plan}
use Rattle.kz_types.specs.declared.plan.Plan.TheVariants as plan
use Rattle.kz_types.specs.declared.record.MetaRecord.{MetaRecord}
use Rattle.kz_spec_data.specs.Tree.{Tree, multi, begin_session, end_session}
use Rattle.kz_spec_data.specs.Log.{Log, append, is_migrated_log, is_open_log}
use Rattle.kz_spec_data.specs.Translation.{Unreadable, translate}
use Rattle.kz_spec_machine.specs.Driver.{Shared, Driver, epoch_or_zero, claim_ops, remaining_at, write_ops, begin_record, commit_records, begin_request, write_request, request_at, with_tree, with_log, shared_after, reaches_store, planned_step, step}
use Rattle.kz_spec_machine.specs.Machine.{World, running_ids, driver_of, running_refusal, quorum_refusal, declared_world, start_refusal, started_world, stop_refusal, stopped_world, election_refusal, elected_world, election_answer, step_result, ends, TurnResult, with_reply, turn, work, turn_result, change_refusal, changed_world, registration, register_refusal, final_records, finalise_refusal, moved_world, client_refusal, client_world, next, cut_world, snapshot_refusal}
use Rattle.kz_spec_machine.specs.Sound.{IsTime, IsSharedSound, IsSoundDriver, Sound, IsLawful}
use Rattle.kz_laws_events.specs.Steps.{StepKeeps}
use Rattle.kz_laws_events.proofs.Tests.{true_or_false}
use Rattle.kz_laws_events.proofs.Worlds.{unless_made, decided}
use Rattle.kz_laws_events.proofs.Filling.{begun_log, appended_log}
use Rattle.kz_laws_events.proofs.Committed.{IsReady, ready, unmigrated}
use Rattle.kz_laws_events.proofs.Refusals.{decided_by}
use Rattle.kz_laws_events.proofs.Grown.{migrated_settled}
use Rattle.kz_laws_events.proofs.Elected.{may_elect}
use Rattle.kz_laws_events.proofs.Elected as elected
use Rattle.kz_laws_events.proofs.Changed.{may_change, change_batch, register_batch}
use Rattle.kz_laws_events.proofs.Changed as changed
use Rattle.kz_laws_events.proofs.Exits.{may_finalise, final_batch}
use Rattle.kz_laws_events.proofs.Turned.{one_step}
use Rattle.kz_laws_events.proofs.Every.{event_sound}
use Rattle.kz_laws_commits.specs.After.{TakesNothingBack}
use Rattle.kz_laws_events.proofs.Snapshots.{may_snapshot, cut_is}

-- ---- a request

with_same : (s : Shared) (r : Result Log LogFault) → ((new : Log) → r ≡ Ok new → ⊥) → (with_log s r).log ≡ s.log
with_same s (Ok new) none = absurd (none new refl)
with_same s (Err e) none = refl

tree_same : (s : Shared) (r : Result Tree TreeFault) → (with_tree s r).log ≡ s.log
tree_same s (Ok t) = refl
tree_same s (Err e) = refl

write_same : (s : Shared) (epoch now : ℤ) (m : Option ℤ) (ops : List Op) (target : Recorded) → (shared_after s epoch now (write_request m ops target)).log ≡ s.log
write_same s epoch now None ops target = refl
write_same s epoch now (Some claim) ops target = tree_same s (multi s.tree (write_ops claim ops target))

begin_same : (s : Shared) (now : ℤ) (d : Driver) (rows : List Row) (t : Result (List MetaRecord) Unreadable) → translate rows ≡ t → IsSharedSound s → IsSoundDriver s d → d.stage ≡ stage.BeginMigration rows → is_migrated_log s.log ≡ true → (shared_after s (epoch_or_zero d.epoch) now (begin_request t)).log ≡ s.log
begin_same s now d rows (Ok records) is kept fine at migrated =
    with_same s (append s.log (epoch_or_zero d.epoch) now (begin_record ∷ [])) (λ new made. true_or_false (is_migrated_log s.log) migrated (begun_log s now d rows records new kept fine at is made).batch.was)
begin_same s now d rows (Err e) is kept fine at migrated = refl

records_same : (s : Shared) (now : ℤ) (d : Driver) (records : List MetaRecord) → IsSharedSound s → IsSoundDriver s d → d.stage ≡ stage.AppendRecords records → is_migrated_log s.log ≡ true → (shared_after s (epoch_or_zero d.epoch) now (request_at s now d (stage.AppendRecords records))).log ≡ s.log
records_same s now d [] kept fine at migrated =
    with_same s (append s.log (epoch_or_zero d.epoch) now commit_records) (λ new made.
    let k : IsReady s d (epoch_or_zero d.epoch) now = (ready s now d new kept fine at made).1 in
    true_or_false (is_migrated_log s.log) migrated (unmigrated s d (epoch_or_zero d.epoch) now k))
records_same s now d (r ∷ rs) kept fine at migrated =
    with_same s (append s.log (epoch_or_zero d.epoch) now (take MAX_APPEND_RECORDS (r ∷ rs))) (λ new made. true_or_false (is_migrated_log s.log) migrated (appended_log s now d r rs new kept fine at made).batch.was)

request_same : (s : Shared) (now : ℤ) (d : Driver) (x : Stage) → d.stage ≡ x → IsSharedSound s → IsSoundDriver s d → is_migrated_log s.log ≡ true → (shared_after s (epoch_or_zero d.epoch) now (request_at s now d x)).log ≡ s.log
request_same s now d (stage.ClaimLeadership seen) at kept fine migrated = tree_same s (multi s.tree (claim_ops seen d now))
request_same s now d (stage.BeginMigration rows) at kept fine migrated = begin_same s now d rows (translate rows) refl kept fine at migrated
request_same s now d (stage.AppendRecords records) at kept fine migrated = records_same s now d records kept fine at migrated
request_same s now d (stage.WriteResync target ops) at kept fine migrated = write_same s (epoch_or_zero d.epoch) now d.claim (remaining_at s.tree s.log target.offset) target
request_same s now d (stage.WriteDelta target ops) at kept fine migrated = write_same s (epoch_or_zero d.epoch) now d.claim (remaining_at s.tree s.log target.offset) target
request_same s now d x at kept fine migrated = refl

-- ---- steps and turns

either_same : (b : Bool) (x s : Shared) → x.log ≡ s.log → (if b then x else s).log ≡ s.log
either_same true x s same = same
either_same false x s same = refl

pub step_same : (p : Plan) (s : Shared) (running : List ℤ) (now : ℤ) (d : Driver) → IsSharedSound s → IsSoundDriver s d → is_migrated_log s.log ≡ true → (planned_step p s running now d).shared.log ≡ s.log
unfolding planned_step
step_same p s running now d kept fine migrated =
    let r = request_at s now d d.stage in
    either_same (reaches_store p r) (shared_after s (epoch_or_zero d.epoch) now r) s (request_same s now d d.stage refl kept fine migrated)

one_same : (s : Shared) (running : List ℤ) (now : ℤ) (d : Driver) → IsSharedSound s → IsSoundDriver s d → is_migrated_log s.log ≡ true → (step s running now d).shared.log ≡ s.log
unfolding step
one_same s running now d kept fine migrated = step_same plan.Deliver s running now d kept fine migrated

ended_by : (l : Log) (b : Bool) (t u : TurnResult) → t.shared.log ≡ l → u.shared.log ≡ l → (if b then t else u).shared.log ≡ l
ended_by l true t u one other = one
ended_by l false t u one other = other

turn_same : (n : ℕ) (s : Shared) (running : List ℤ) (now : ℤ) (d : Driver) → IsTime now → IsSharedSound s → IsSoundDriver s d → is_migrated_log s.log ≡ true → (turn n s running now d).shared.log ≡ s.log
unfolding turn
turn_same zero s running now d time kept fine migrated = refl
turn_same (suc n) s running now d time kept fine migrated =
    let r = step s running now d in
    let k : StepKeeps s d r.shared r.driver = one_step s running now d time kept fine in
    let same = one_same s running now d kept fine migrated in
    let t : TurnResult = turn n r.shared running now r.driver in
    ended_by s.log (ends r.reply) (record { shared = r.shared; driver = r.driver; replies = r.reply ∷ [] }) (with_reply r.reply t) same
    (turn_same n r.shared running now r.driver time k.shared k.driver (ap is_migrated_log same ∙ migrated) ∙ same)

-- ---- events

abbrev IsMigrated : World → Type 0
IsMigrated w = is_migrated_log w.shared.log ≡ true

step_stays : (w : World) (id now : ℤ) (p : Plan) (m : Option Driver) → driver_of id w.drivers ≡ m → Sound w → IsMigrated w → IsMigrated (step_result w p now m).0
step_stays w id now p None found sound migrated = migrated
step_stays w id now p (Some d) found sound migrated = ap is_migrated_log (step_same p w.shared (running_ids w.drivers) now d sound.kept (sound.each id d found) migrated) ∙ migrated

turn_stays : (w : World) (id now : ℤ) (m : Option Driver) → driver_of id w.drivers ≡ m → IsTime now → Sound w → IsMigrated w → IsMigrated (turn_result w now m).0
turn_stays w id now None found time sound migrated = migrated
turn_stays w id now (Some d) found time sound migrated = ap is_migrated_log (turn_same (work w.shared d) w.shared (running_ids w.drivers) now d time sound.kept (sound.each id d found) migrated) ∙ migrated

moved_stays : (w : World) (r : Result Tree MoveFault) → IsMigrated w → IsMigrated (moved_world w r).0
moved_stays w (Ok t) migrated = migrated
moved_stays w (Err f) migrated = migrated

client_stays : (w : World) (r : Result Tree TreeFault) → IsMigrated w → IsMigrated (client_world w r).0
client_stays w (Ok t) migrated = migrated
client_stays w (Err f) migrated = migrated

event_stays : (w : World) (e : Event) → IsLawful e → TakesNothingBack e → Sound w → IsMigrated w → IsMigrated (next w e).0
unfolding next
event_stays w (event.Quorum ids) lawful forward sound migrated = decided IsMigrated w (quorum_refusal w ids) (declared_world w ids) answer.Done migrated migrated
event_stays w (event.Start id) lawful forward sound migrated = decided IsMigrated w (start_refusal w id) (started_world w id) answer.Done migrated migrated
event_stays w (event.Stop controller) lawful forward sound migrated = decided IsMigrated w (stop_refusal w controller) (stopped_world w controller) answer.Done migrated migrated
event_stays w (event.Elect id now) lawful forward sound migrated = decided_by IsMigrated w (election_refusal w id) (elected_world w id now) (election_answer w now) migrated (λ none. (elected.longer w.shared now (may_elect w id sound none)).migrated migrated)
event_stays w (event.Step id now p) lawful forward sound migrated = unless_made IsMigrated w (running_refusal w id) (step_result w p now (driver_of id w.drivers)) migrated (step_stays w id now p (driver_of id w.drivers) refl sound migrated)
event_stays w (event.Turn id now) lawful forward sound migrated = unless_made IsMigrated w (running_refusal w id) (turn_result w now (driver_of id w.drivers)) migrated (turn_stays w id now (driver_of id w.drivers) refl lawful.1 sound migrated)
event_stays w (event.Change id records now) lawful forward sound migrated = decided_by IsMigrated w (change_refusal w id records) (changed_world w records now) _ migrated
    (λ none. (changed.longer w.shared now records (change_batch w id now records lawful.2 sound (may_change w id records none))).migrated migrated)
event_stays w (event.Register id broker migrating now) lawful forward sound migrated = decided_by IsMigrated w (register_refusal w id (registration broker migrating)) (changed_world w (registration broker migrating) now) _ migrated
    (λ none. (changed.longer w.shared now (registration broker migrating) (register_batch w id broker now migrating sound none)).migrated migrated)
event_stays w (event.Finalise id now) lawful forward sound migrated = decided_by IsMigrated w (finalise_refusal w id) (changed_world w final_records now) _ migrated
    (λ none. (changed.longer w.shared now final_records (final_batch w id now sound (may_finalise w id none))).migrated migrated)
event_stays w event.Rollback lawful forward sound migrated = absurd forward
event_stays w event.Snapshot lawful forward sound migrated = decided_by IsMigrated w (snapshot_refusal w) (cut_world w) answer.Done migrated (λ none. (cut_is w sound (may_snapshot w none)).migrated)
event_stays w event.Check lawful forward sound migrated = migrated
event_stays w (event.ZkOpen session) lawful forward sound migrated = moved_stays w (begin_session w.shared.tree session) migrated
event_stays w (event.ZkExpire session) lawful forward sound migrated = moved_stays w (end_session w.shared.tree session) migrated
event_stays w (event.Zk ops) lawful forward sound migrated = unless_made IsMigrated w (client_refusal w.shared.tree ops) (client_world w (multi w.shared.tree ops)) migrated (client_stays w (multi w.shared.tree ops) migrated)

pub migrated_stays : (w : World) (e : Event) → IsLawful e → TakesNothingBack e → Sound w → is_migrated_log w.shared.log ≡ true → (is_migrated_log (next w e).0.shared.log ≡ true) × (is_open_log (next w e).0.shared.log ≡ false)
migrated_stays w e lawful forward sound migrated =
    let new : World = (next w e).0 in
    let stays : is_migrated_log new.shared.log ≡ true = event_stays w e lawful forward sound migrated in
    let kept : IsSharedSound new.shared = (event_sound w e lawful sound).kept in
    (stays, migrated_settled new.shared.tree new.shared.log kept.log (kept.agreement stays))
