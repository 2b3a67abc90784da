-- The reply to an answer is one of the machine: it tells of no loss and of no failure.
use Rattle.std.proofs.Common.{◌≡◌, ℕ, ◌+◌, ℤ, Bool, true, false, List, [], ◌∷◌, length, Option, Some, None, Result, Ok, Err, refl, ap, subst}
use Rattle.std.specs.Prelude.{◌+ℤ◌, pos, int_le, int_lt, not, ◌&&◌, ◌||◌, if◌then◌else◌, drop, IfErr, IfOk}
use Rattle.std.specs.Ordering.{int_eq}
use Rattle.kz_types.specs.declared.codes.TheConstants.{MIGRATION, POST_MIGRATION}
use Rattle.kz_types.specs.declared.limits.TheConstants.{MAX_CHUNK, MAX_LONG, MAX_VERSION}
use Rattle.kz_types.specs.declared.tree.Row.{Row}
use Rattle.kz_types.specs.declared.tree.Op.{Op}
use Rattle.kz_types.specs.declared.driver.ClaimSeen.{ClaimSeen}
use Rattle.kz_types.specs.declared.driver.Stage.{Stage}
use Rattle.kz_types.specs.declared.driver.Stage.TheVariants as stage
use Rattle.kz_types.specs.declared.machine.DriverState.TheVariants as state
use Rattle.kz_types.specs.declared.machine.Recorded.{Recorded}
use Rattle.kz_types.specs.declared.machine.Reply.{Reply}
use Rattle.kz_types.specs.declared.machine.Reply.TheVariants as reply
use Rattle.kz_types.specs.declared.fault.TreeFault.{TreeFault}
use Rattle.kz_types.specs.declared.fault.TreeFault.TheVariants as tree_fault
use Rattle.kz_types.specs.declared.fault.LogFault.{LogFault}
use Rattle.kz_types.specs.declared.fault.LogFault.TheVariants as log_fault
use Rattle.kz_types.specs.declared.fault.BodyFault.{BodyFault}
use Rattle.kz_types.specs.declared.record.MetaRecord.{MetaRecord}
use Rattle.kz_spec_data.specs.Control.{epoch_path, migration_path, read_epoch}
use Rattle.kz_spec_data.specs.Tree.{Tree, Refusal, code, limit, op_refusal, rows_unless_refused, after_op, after_ops, multi, with_zxid}
use Rattle.kz_spec_data.specs.Image.{Image}
use Rattle.kz_spec_data.specs.Log.{Log, append, log_unless_limit, full_log, with_batch}
use Rattle.kz_spec_data.specs.Difference.{diff, chunk, after_chunk}
use Rattle.kz_spec_data.specs.Rendering.{render}
use Rattle.kz_spec_data.specs.Translation.{Unreadable, translate}
use Rattle.kz_spec_machine.specs.Driver.{Shared, Driver, StepResult, epoch_or_zero, at_stage, resigned_driver, begins_again, driver_at_log_end, unless_finalised, wait_or_move, after_quorum, after_brokers, unless_fenced, unless_full_epoch, unless_bad_epoch, unless_full_record, after_look, after_claim, claim_ops, after_append, after_records, next_records, after_translation, after_rest, after_write, writes, write_ops, is_last_write, is_claim_refused, is_recorded_at, target_of, remaining_at, views_migrated, shown_by, seen_in, missing_controller, begin_record, after_answer, step}
use Rattle.kz_spec_machine.specs.Failures.{is_tree_failure, is_log_failure, is_failed_step}
use Rattle.kz_requests.specs.declared.fault.StepFault.{StepFault}
use Rattle.kz_requests.specs.declared.fault.StepFault.TheVariants as step_fault
use Rattle.kz_requests.proofs.Answers.{IsTreeAnswer, IsLogAnswer, multi_answers, append_answers}
use Rattle.kz_driver.specs.Steps.{outcome_of}
use Rattle.kz_driver.proofs.Keeping.{chosen}

-- ---- what follows an answer

abbrev pub IsTold : Driver × Reply → Type 0
IsTold x = outcome_of x.1 ≡ Ok x.1

tree_failed_told : (f : TreeFault) → is_tree_failure f ≡ false → outcome_of (reply.TreeFailed f) ≡ Ok (reply.TreeFailed f)
tree_failed_told f h = ap (λ b. if b then Err (step_fault.Tree f) else Ok (reply.TreeFailed f)) h

log_failed_told : (f : LogFault) → is_log_failure f ≡ false → outcome_of (reply.LogFailed f) ≡ Ok (reply.LogFailed f)
log_failed_told f h = ap (λ b. if b then Err (step_fault.Log f) else Ok (reply.LogFailed f)) h

finalised_told : (d : Driver) (rest : Driver × Reply) → IsTold rest → IsTold (unless_finalised d rest)
finalised_told d rest h = chosen IsTold (int_eq d.view.image.state POST_MIGRATION) (resigned_driver d, reply.Moved state.Inactive) rest refl h

wait_told : (o : Option ℤ) (d : Driver) → IsTold (wait_or_move o d)
wait_told (Some id) d = refl
wait_told None d = refl

quorum_told : (declared running : List ℤ) (d : Driver) → IsTold (after_quorum declared running d)
quorum_told declared running d =
    let later = wait_or_move (missing_controller declared running) d in
    let move : Driver × Reply = (at_stage stage.ReadControlZnodes d, reply.Moved state.BecomeController) in
    finalised_told d (if int_eq d.view.image.state MIGRATION then move else later)
    (chosen IsTold (int_eq d.view.image.state MIGRATION) move later refl (wait_told (missing_controller declared running) d))

brokers_told : (o : Option ℤ) (d : Driver) → IsTold (after_brokers o d)
brokers_told (Some id) d = refl
brokers_told None d = refl

fenced_told : (o : Option ℤ) (d : Driver) (rest : Driver × Reply) → IsTold rest → IsTold (unless_fenced o d rest)
fenced_told None d rest h = h
fenced_told (Some e) d rest h = chosen IsTold (int_lt (epoch_or_zero d.epoch) e) (resigned_driver d, reply.FencedEpoch e) rest refl h

full_epoch_told : (r : Result ℤ BodyFault) (version : ℤ) (d : Driver) (rest : Driver × Reply) → IsTold rest → IsTold (unless_full_epoch r version d rest)
full_epoch_told (Err e) version d rest h = refl
full_epoch_told (Ok number) version d rest h = chosen IsTold (int_eq number MAX_VERSION || int_eq version MAX_VERSION) (d, reply.Limit epoch_path) rest refl h

bad_epoch_told : (o : Option Row) (d : Driver) (rest : Driver × Reply) → IsTold rest → IsTold (unless_bad_epoch o d rest)
bad_epoch_told None d rest h = h
bad_epoch_told (Some r) d rest h = full_epoch_told (read_epoch r.body) r.version d rest h

full_record_told : (o : Option Row) (d : Driver) (rest : Driver × Reply) → IsTold rest → IsTold (unless_full_record o d rest)
full_record_told None d rest h = h
full_record_told (Some r) d rest h = chosen IsTold (not (views_migrated d) && int_eq r.version MAX_VERSION) (d, reply.Limit migration_path) rest refl h

look_told : (seen : ClaimSeen) (d : Driver) → IsTold (after_look seen d)
look_told seen d =
    let end : Driver × Reply = (at_stage (stage.ClaimLeadership seen) d, reply.Looked) in
    let record_checked = unless_full_record seen.migration d end in
    fenced_told (shown_by seen.control) d (unless_bad_epoch seen.epoch d record_checked) (bad_epoch_told seen.epoch d record_checked (full_record_told seen.migration d end refl))

claim_told : (seen : ClaimSeen) (d : Driver) (ops : List Op) (r : Result Tree TreeFault) → IsTreeAnswer r → IsTold (after_claim seen d ops r)
claim_told seen d ops (Ok t) h = refl
claim_told seen d ops (Err (tree_fault.Refused index c)) h = refl
claim_told seen d ops (Err (tree_fault.Limit index number)) h = refl
claim_told seen d ops (Err f) h = tree_failed_told f h

append_told : (next : Stage) (d : Driver) (r : Result Log LogFault) → IsLogAnswer r → IsTold (after_append next d r)
append_told next d (Ok l) h = refl
append_told next d (Err (log_fault.Stale epoch)) h = refl
append_told next d (Err f) h = log_failed_told f h

translation_told : (s : Shared) (now : ℤ) (d : Driver) (r : Result (List MetaRecord) Unreadable) → IsTold (after_translation s now d r)
translation_told s now d (Err e) = refl
translation_told s now d (Ok records) = append_told (stage.AppendRecords records) d (append s.log (epoch_or_zero d.epoch) now (begin_record ∷ [])) (append_answers s.log (epoch_or_zero d.epoch) now (begin_record ∷ []))

write_told : (claim : ℤ) (ops : List Op) (target : Recorded) (more : List Op → Stage) (last : Stage) (d : Driver) (r : Result Tree TreeFault) → IsTreeAnswer r → IsTold (after_write claim ops target more last d r)
write_told claim ops target more last d (Ok t) h =
    chosen IsTold (is_last_write ops) (record d { stage = last; recorded = Some target.offset }, reply.Recorded target.offset) (at_stage (more (after_chunk ops)) d, reply.Wrote (length (chunk ops))) refl refl
write_told claim ops target more last d (Err (tree_fault.Refused index c)) h =
    chosen IsTold (is_claim_refused index c) (resigned_driver d, reply.FencedWrite claim) (begins_again d, reply.Moved state.BecomeController) refl refl
write_told claim ops target more last d (Err (tree_fault.Limit index number)) h = refl
write_told claim ops target more last d (Err f) h = tree_failed_told f h

pub writes_told : (t : Tree) (held : Option ℤ) (ops : List Op) (target : Recorded) (more : List Op → Stage) (last : Stage) (d : Driver) → IsTold (writes t held ops target more last d)
writes_told t None ops target more last d = refl
writes_told t (Some claim) ops target more last d = write_told claim ops target more last d (multi t (write_ops claim ops target)) (multi_answers t (write_ops claim ops target))

dual_write_told : (before : Image) (d : Driver) → IsTold (after_rest before d)
dual_write_told before d =
    let idle : Driver × Reply = (d, reply.Idle) in
    let begins : Driver × Reply = (at_stage (stage.WriteDelta (target_of d) (diff (render before) (render d.view.image))) d, reply.Looked) in
    finalised_told d (if is_recorded_at d.recorded d.view.position then idle else begins) (chosen IsTold (is_recorded_at d.recorded d.view.position) idle begins refl refl)

-- ---- a step

pub answer_told : (s : Shared) (running : List ℤ) (now : ℤ) (d : Driver) (at : Stage) → IsTold (after_answer s running now d at)
answer_told s running now d stage.Uninitialized = refl
answer_told s running now d stage.Inactive = refl
answer_told s running now d stage.WaitForControllerQuorum = quorum_told s.declared running (driver_at_log_end s.log d)
answer_told s running now d stage.WaitForBrokers = finalised_told (driver_at_log_end s.log d) (at_stage stage.ListBrokers (driver_at_log_end s.log d), reply.Looked) refl
answer_told s running now d stage.ListBrokers = brokers_told _ d
answer_told s running now d stage.ReadControlZnodes = look_told (seen_in s.tree) d
answer_told s running now d (stage.ClaimLeadership seen) = claim_told seen d (claim_ops seen d now) (multi s.tree (claim_ops seen d now)) (multi_answers s.tree (claim_ops seen d now))
answer_told s running now d (stage.ScanForMigration rows) = refl
answer_told s running now d (stage.BeginMigration rows) = translation_told s now d (translate rows)
answer_told s running now d (stage.AppendRecords records) = append_told (after_records records) d (append s.log (epoch_or_zero d.epoch) now (next_records records)) (append_answers s.log (epoch_or_zero d.epoch) now (next_records records))
answer_told s running now d stage.ReadLogForResync = finalised_told (driver_at_log_end s.log d) (at_stage (stage.ScanForResync (target_of (driver_at_log_end s.log d)) []) (driver_at_log_end s.log d), reply.Looked) refl
answer_told s running now d (stage.ScanForResync target rows) = refl
answer_told s running now d (stage.WriteResync target ops) = writes_told s.tree d.claim (remaining_at s.tree s.log target.offset) target (λ rest. stage.WriteResync target rest) stage.KraftControllerToBrokerComm d
answer_told s running now d stage.KraftControllerToBrokerComm = refl
answer_told s running now d stage.DualWrite = dual_write_told d.view.image (driver_at_log_end s.log d)
answer_told s running now d (stage.WriteDelta target ops) = writes_told s.tree d.claim (remaining_at s.tree s.log target.offset) target (λ rest. stage.WriteDelta target rest) stage.DualWrite d

-- where there is a reply to an answer, it is one of the machine
pub told_by : (r : Result Reply StepFault) (x : Driver × Reply) (e : Driver) → IfOk r (λ told. x ≡ (e, told)) → IsTold x → IfOk r (λ told. outcome_of told ≡ Ok told)
told_by (Ok told) x e is h = subst (λ (y : Driver × Reply). outcome_of y.1 ≡ Ok y.1) is h
told_by (Err f) x e is h = tt
