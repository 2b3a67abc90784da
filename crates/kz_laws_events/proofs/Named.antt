-- A step leaves its driver's id, and its epoch unless the driver resigns.
use Rattle.std.proofs.Common.{◌≡◌, ◌⊎◌, inl, inr, ℤ, not, ◌&&◌, List, [], ◌∷◌, Option, Some, None, refl}
use Rattle.std.specs.Prelude.{Result, Ok, Err, int_lt}
use Rattle.std.specs.Ordering.{int_eq}
use Rattle.kz_types.specs.declared.codes.TheConstants.{MIGRATION, POST_MIGRATION}
use Rattle.kz_types.specs.declared.limits.TheConstants.{MAX_VERSION}
use Rattle.kz_types.specs.declared.tree.Row.{Row}
use Rattle.kz_types.specs.declared.tree.Op.{Op}
use Rattle.kz_types.specs.declared.driver.ClaimSeen.{ClaimSeen}
use Rattle.kz_types.specs.declared.driver.Stage.{Stage}
use Rattle.kz_types.specs.declared.driver.Stage.TheVariants as stage
use Rattle.kz_types.specs.declared.machine.DriverState.TheVariants as state
use Rattle.kz_types.specs.declared.machine.Recorded.{Recorded}
use Rattle.kz_types.specs.declared.machine.Reply.{Reply}
use Rattle.kz_types.specs.declared.machine.Reply.TheVariants as reply
use Rattle.kz_types.specs.declared.fault.BodyFault.{BodyFault}
use Rattle.kz_types.specs.declared.fault.TreeFault.{TreeFault}
use Rattle.kz_types.specs.declared.fault.TreeFault.TheVariants as tree_fault
use Rattle.kz_types.specs.declared.fault.LogFault.{LogFault}
use Rattle.kz_types.specs.declared.fault.LogFault.TheVariants as log_fault
use Rattle.kz_types.specs.declared.plan.Plan.{Plan}
use Rattle.kz_types.specs.declared.record.MetaRecord.{MetaRecord}
use Rattle.kz_spec_data.specs.Control.{epoch_path, migration_path, read_epoch}
use Rattle.kz_spec_data.specs.Tree.{Tree, multi, broker_ids}
use Rattle.kz_spec_data.specs.Log.{Log, append}
use Rattle.kz_spec_data.specs.Rendering.{render}
use Rattle.kz_spec_data.specs.Translation.{Unreadable, translate}
use Rattle.kz_spec_data.specs.Difference.{diff}
use Rattle.kz_spec_machine.specs.Driver.{Shared, Driver, at_stage, resigned_driver, begins_again, epoch_or_zero, views_migrated, seen_in, shown_by, unless_fenced, unless_full_epoch, unless_bad_epoch, unless_full_record, claim_ops, remaining_at, is_last_write, write_ops, target_of, begin_record, next_records, Request, nothing, read_log, list_brokers, look_up, read_page, write, add, request_at, missing_controller, missing_broker, driver_at_log_end, unless_finalised, wait_or_move, after_quorum, after_brokers, after_claim, after_append, after_translation, after_records, is_claim_refused, after_write, writes, is_recorded_at, after_answer, without_answer, Hearing, hears_answer, hears_nothing, hears_expiry, hearing, driver_after, planned_step}
use Rattle.kz_laws_events.proofs.Ways.{either}

abbrev pub IsOf : Driver → Driver → Type 0
IsOf d e = (e.id ≡ d.id) × ((e.epoch ≡ d.epoch) ⊎ (e.epoch ≡ None))

finalised : (d e : Driver) (rest : Driver × Reply) → IsOf d e → IsOf d rest.0 → IsOf d (unless_finalised e rest).0
finalised d e rest own on = either (IsOf d) (int_eq e.view.image.state POST_MIGRATION) (resigned_driver e, reply.Moved state.Inactive) rest (λ over. (own.0, inr refl)) (λ more. on)

waits : (d e : Driver) (m : Option ℤ) → IsOf d e → IsOf d (wait_or_move m e).0
waits d e (Some id) own = own
waits d e None own = own

quorum : (d e : Driver) (declared running : List ℤ) → IsOf d e → IsOf d (after_quorum declared running e).0
quorum d e declared running own = finalised d e _ own
    (either (IsOf d) (int_eq e.view.image.state MIGRATION) (at_stage stage.ReadControlZnodes e, reply.Moved state.BecomeController) (wait_or_move (missing_controller declared running) e) (λ over. own) (λ more. waits d e (missing_controller declared running) own))

brokers : (d : Driver) (m : Option ℤ) → IsOf d (after_brokers m d).0
brokers d (Some id) = (refl, inl refl)
brokers d None = (refl, inl refl)

fenced : (d : Driver) (m : Option ℤ) (rest : Driver × Reply) → IsOf d rest.0 → IsOf d (unless_fenced m d rest).0
fenced d None rest on = on
fenced d (Some e) rest on = either (IsOf d) (int_lt (epoch_or_zero d.epoch) e) (resigned_driver d, reply.FencedEpoch e) rest (λ above. (refl, inr refl)) (λ low. on)

full_epoch : (d : Driver) (r : Result ℤ BodyFault) (version : ℤ) (rest : Driver × Reply) → IsOf d rest.0 → IsOf d (unless_full_epoch r version d rest).0
full_epoch d (Err e) version rest on = (refl, inl refl)
full_epoch d (Ok number) version rest on = either (IsOf d) (Rattle.std.specs.Prelude.◌||◌ (int_eq number MAX_VERSION) (int_eq version MAX_VERSION)) (d, reply.Limit epoch_path) rest (λ full. (refl, inl refl)) (λ room. on)

bad_epoch : (d : Driver) (m : Option Row) (rest : Driver × Reply) → IsOf d rest.0 → IsOf d (unless_bad_epoch m d rest).0
bad_epoch d None rest on = on
bad_epoch d (Some r) rest on = full_epoch d (read_epoch r.body) r.version rest on

full_record : (d : Driver) (m : Option Row) (rest : Driver × Reply) → IsOf d rest.0 → IsOf d (unless_full_record m d rest).0
full_record d None rest on = on
full_record d (Some r) rest on = either (IsOf d) (not (views_migrated d) && int_eq r.version MAX_VERSION) (d, reply.Limit migration_path) rest (λ full. (refl, inl refl)) (λ room. on)

claims : (d : Driver) (seen : ClaimSeen) (ops : List Op) (r : Result Tree TreeFault) → IsOf d (after_claim seen d ops r).0
claims d seen ops (Ok t) = (refl, inl refl)
claims d seen ops (Err (tree_fault.Refused index code)) = (refl, inl refl)
claims d seen ops (Err (tree_fault.Limit index number)) = (refl, inl refl)
claims d seen ops (Err tree_fault.NoMemory) = (refl, inl refl)
claims d seen ops (Err tree_fault.Device) = (refl, inl refl)
claims d seen ops (Err tree_fault.Down) = (refl, inl refl)
claims d seen ops (Err (tree_fault.Full length)) = (refl, inl refl)

appends : (d : Driver) (next : Stage) (r : Result Log LogFault) → IsOf d (after_append next d r).0
appends d next (Ok l) = (refl, inl refl)
appends d next (Err (log_fault.Stale epoch)) = (refl, inr refl)
appends d next (Err log_fault.Failed) = (refl, inl refl)
appends d next (Err (log_fault.Limit number)) = (refl, inl refl)
appends d next (Err log_fault.NoMemory) = (refl, inl refl)
appends d next (Err log_fault.Down) = (refl, inl refl)
appends d next (Err (log_fault.Full length)) = (refl, inl refl)

begins : (s : Shared) (now : ℤ) (d : Driver) (r : Result (List MetaRecord) Unreadable) → IsOf d (after_translation s now d r).0
begins s now d (Ok records) = appends d (stage.AppendRecords records) (append s.log (epoch_or_zero d.epoch) now (begin_record ∷ []))
begins s now d (Err e) = (refl, inl refl)

written : (d : Driver) (claim : ℤ) (ops : List Op) (target : Recorded) (more : List Op → Stage) (last : Stage) (r : Result Tree TreeFault) → IsOf d (after_write claim ops target more last d r).0
written d claim ops target more last (Ok t) = either (IsOf d) (is_last_write ops) _ _ (λ is. (refl, inl refl)) (λ is. (refl, inl refl))
written d claim ops target more last (Err (tree_fault.Refused index code)) = either (IsOf d) (is_claim_refused index code) (resigned_driver d, reply.FencedWrite claim) (begins_again d, reply.Moved state.BecomeController) (λ is. (refl, inr refl)) (λ is. (refl, inl refl))
written d claim ops target more last (Err (tree_fault.Limit index number)) = (refl, inl refl)
written d claim ops target more last (Err tree_fault.NoMemory) = (refl, inl refl)
written d claim ops target more last (Err tree_fault.Device) = (refl, inl refl)
written d claim ops target more last (Err tree_fault.Down) = (refl, inl refl)
written d claim ops target more last (Err (tree_fault.Full length)) = (refl, inl refl)

write_under : (t : Tree) (d : Driver) (m : Option ℤ) (ops : List Op) (target : Recorded) (more : List Op → Stage) (last : Stage) → IsOf d (writes t m ops target more last d).0
write_under t d None ops target more last = (refl, inl refl)
write_under t d (Some claim) ops target more last = written d claim ops target more last (multi t (write_ops claim ops target))

answer_of : (s : Shared) (running : List ℤ) (now : ℤ) (d : Driver) (x : Stage) → IsOf d (after_answer s running now d x).0
answer_of s running now d stage.Uninitialized = (refl, inl refl)
answer_of s running now d stage.Inactive = (refl, inl refl)
answer_of s running now d stage.WaitForControllerQuorum = quorum d (driver_at_log_end s.log d) s.declared running (refl, inl refl)
answer_of s running now d stage.WaitForBrokers = finalised d (driver_at_log_end s.log d) (at_stage stage.ListBrokers (driver_at_log_end s.log d), reply.Looked) (refl, inl refl) (refl, inl refl)
answer_of s running now d stage.ListBrokers = brokers d (missing_broker (broker_ids s.tree) d.view.image)
answer_of s running now d stage.ReadControlZnodes =
    let seen = seen_in s.tree in
    fenced d (shown_by seen.control) _ (bad_epoch d seen.epoch _ (full_record d seen.migration (at_stage (stage.ClaimLeadership seen) d, reply.Looked) (refl, inl refl)))
answer_of s running now d (stage.ClaimLeadership seen) = claims d seen (claim_ops seen d now) (multi s.tree (claim_ops seen d now))
answer_of s running now d (stage.ScanForMigration rows) = (refl, inl refl)
answer_of s running now d (stage.BeginMigration rows) = begins s now d (translate rows)
answer_of s running now d (stage.AppendRecords records) = appends d (after_records records) (append s.log (epoch_or_zero d.epoch) now (next_records records))
answer_of s running now d stage.ReadLogForResync =
    let e : Driver = driver_at_log_end s.log d in
    finalised d e (at_stage (stage.ScanForResync (target_of e) []) e, reply.Looked) (refl, inl refl) (refl, inl refl)
answer_of s running now d (stage.ScanForResync target rows) = (refl, inl refl)
answer_of s running now d (stage.WriteResync target ops) = write_under s.tree d d.claim (remaining_at s.tree s.log target.offset) target (λ rest. stage.WriteResync target rest) stage.KraftControllerToBrokerComm
answer_of s running now d stage.KraftControllerToBrokerComm = (refl, inl refl)
answer_of s running now d stage.DualWrite =
    let e : Driver = driver_at_log_end s.log d in
    finalised d e _ (refl, inl refl) (either (IsOf d) (is_recorded_at e.recorded e.view.position) (e, reply.Idle) (at_stage (stage.WriteDelta (target_of e) (diff (render d.view.image) (render e.view.image))) e, reply.Looked) (λ same. (refl, inl refl)) (λ new. (refl, inl refl)))
answer_of s running now d (stage.WriteDelta target ops) = write_under s.tree d d.claim (remaining_at s.tree s.log target.offset) target (λ rest. stage.WriteDelta target rest) stage.DualWrite

unheard_of : (r : Request) (d : Driver) → IsOf d (without_answer r d)
unheard_of nothing d = (refl, inl refl)
unheard_of read_log d = (refl, inl refl)
unheard_of list_brokers d = (refl, inl refl)
unheard_of look_up d = (refl, inl refl)
unheard_of (read_page after) d = (refl, inl refl)
unheard_of (write ops) d = (refl, inl refl)
unheard_of (add records) d = (refl, inr refl)

after_of : (h : Hearing) (answer : Driver × Reply) (r : Request) (d : Driver) → IsOf d answer.0 → IsOf d (driver_after h answer r d).0
after_of hears_answer answer r d own = own
after_of hears_nothing answer r d own = unheard_of r d
after_of hears_expiry answer r d own = unheard_of r d

pub step_of_own : (p : Plan) (s : Shared) (running : List ℤ) (now : ℤ) (d : Driver) → IsOf d (planned_step p s running now d).driver
unfolding planned_step
step_of_own p s running now d =
    let r = request_at s now d d.stage in
    after_of (hearing p s (epoch_or_zero d.epoch) now r) (after_answer s running now d d.stage) r d (answer_of s running now d d.stage)
