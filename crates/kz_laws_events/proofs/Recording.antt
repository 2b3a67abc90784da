-- A step that replies that an offset is recorded.
use Rattle.std.proofs.Common.{◌≡◌, ℤ, pos, ◌≤ℤ◌, Bool, true, false, not, ◌&&◌, if◌then◌else◌, List, [], ◌∷◌, Option, Some, None, refl, ap, ◌∙◌, subst, length}
use Rattle.std.specs.Prelude.{Result, Ok, Err, int_lt}
use Rattle.std.specs.Ordering.{int_eq}
use Rattle.kz_types.specs.declared.codes.TheConstants.{MIGRATION, POST_MIGRATION}
use Rattle.kz_types.specs.declared.limits.TheConstants.{MAX_VERSION}
use Rattle.kz_types.specs.declared.tree.Row.{Row}
use Rattle.kz_types.specs.declared.tree.Op.{Op}
use Rattle.kz_types.specs.declared.driver.ClaimSeen.{ClaimSeen}
use Rattle.kz_types.specs.declared.driver.Stage.{Stage}
use Rattle.kz_types.specs.declared.driver.Stage.TheVariants as stage
use Rattle.kz_types.specs.declared.machine.DriverState.TheVariants as state
use Rattle.kz_types.specs.declared.machine.Recorded.{Recorded}
use Rattle.kz_types.specs.declared.machine.Reply.{Reply}
use Rattle.kz_types.specs.declared.machine.Reply.TheVariants as reply
use Rattle.kz_types.specs.declared.fault.BodyFault.{BodyFault}
use Rattle.kz_types.specs.declared.fault.TreeFault.{TreeFault}
use Rattle.kz_types.specs.declared.fault.TreeFault.TheVariants as tree_fault
use Rattle.kz_types.specs.declared.fault.LogFault.{LogFault}
use Rattle.kz_types.specs.declared.fault.LogFault.TheVariants as log_fault
use Rattle.kz_types.specs.declared.plan.Plan.{Plan}
use Rattle.kz_types.specs.declared.plan.Plan.TheVariants as plan
use Rattle.kz_types.specs.declared.record.MetaRecord.{MetaRecord}
use Rattle.kz_spec_data.specs.Control.{epoch_path, migration_path, read_epoch, recorded_of, written_recorded}
use Rattle.kz_spec_data.specs.Tree.{Tree, multi, broker_ids, has_offset}
use Rattle.kz_spec_data.specs.Log.{Log, append, image_at}
use Rattle.kz_spec_data.specs.Rendering.{render}
use Rattle.kz_spec_data.specs.Translation.{Unreadable, translate}
use Rattle.kz_spec_data.specs.Difference.{diff, chunk, after_chunk}
use Rattle.kz_spec_machine.specs.Driver.{Shared, Driver, at_stage, resigned_driver, begins_again, epoch_or_zero, views_migrated, seen_in, shown_by, unless_fenced, unless_full_epoch, unless_bad_epoch, unless_full_record, after_look, claim_ops, remaining_at, is_last_write, write_ops, target_of, begin_record, next_records, Request, write_request, request_at, with_tree, shared_after, missing_controller, missing_broker, driver_at_log_end, unless_finalised, wait_or_move, after_quorum, after_brokers, after_claim, after_append, after_translation, after_records, is_claim_refused, after_write, writes, is_recorded_at, after_answer, Hearing, hears_answer, hears_nothing, hears_expiry, hearing, reaches_store, driver_after, planned_step}
use Rattle.kz_spec_machine.specs.Sound.{IsSharedSound, AtStage, IsSoundDriver}
use Rattle.kz_laws_machine.proofs.Multi.{last_write}
use Rattle.kz_laws_events.specs.Steps.{IsResynced}
use Rattle.kz_laws_events.proofs.Tests.{not_below_zero}
use Rattle.kz_laws_events.proofs.Targets.{target_read}

-- ---- answers that record nothing

abbrev RecordsNothing : Driver × Reply → Type 0
RecordsNothing x = (o : ℤ) → x.1 ≡ reply.Recorded o → ⊥

either : (b : Bool) (x y : Driver × Reply) → RecordsNothing x → RecordsNothing y → RecordsNothing (if b then x else y)
either true x y first second = first
either false x y first second = second

finalised : (d : Driver) (rest : Driver × Reply) → RecordsNothing rest → RecordsNothing (unless_finalised d rest)
finalised d rest silent = either (int_eq d.view.image.state POST_MIGRATION) (resigned_driver d, reply.Moved state.Inactive) rest (λ o is. cc) silent

waits : (m : Option ℤ) (d : Driver) → RecordsNothing (wait_or_move m d)
waits (Some id) d o is = cc
waits None d o is = cc

quorum : (declared running : List ℤ) (d : Driver) → RecordsNothing (after_quorum declared running d)
quorum declared running d = finalised d _
    (either (int_eq d.view.image.state MIGRATION) (at_stage stage.ReadControlZnodes d, reply.Moved state.BecomeController) (wait_or_move (missing_controller declared running) d) (λ o is. cc) (waits (missing_controller declared running) d))

brokers : (m : Option ℤ) (d : Driver) → RecordsNothing (after_brokers m d)
brokers (Some id) d o is = cc
brokers None d o is = cc

fenced : (m : Option ℤ) (d : Driver) (rest : Driver × Reply) → RecordsNothing rest → RecordsNothing (unless_fenced m d rest)
fenced None d rest silent = silent
fenced (Some e) d rest silent = either (int_lt (epoch_or_zero d.epoch) e) (resigned_driver d, reply.FencedEpoch e) rest (λ o is. cc) silent

full_epoch : (r : Result ℤ BodyFault) (version : ℤ) (d : Driver) (rest : Driver × Reply) → RecordsNothing rest → RecordsNothing (unless_full_epoch r version d rest)
full_epoch (Err e) version d rest silent = λ o is. cc
full_epoch (Ok number) version d rest silent = either (Rattle.std.specs.Prelude.◌||◌ (int_eq number MAX_VERSION) (int_eq version MAX_VERSION)) (d, reply.Limit epoch_path) rest (λ o is. cc) silent

bad_epoch : (m : Option Row) (d : Driver) (rest : Driver × Reply) → RecordsNothing rest → RecordsNothing (unless_bad_epoch m d rest)
bad_epoch None d rest silent = silent
bad_epoch (Some r) d rest silent = full_epoch (read_epoch r.body) r.version d rest silent

full_record : (m : Option Row) (d : Driver) (rest : Driver × Reply) → RecordsNothing rest → RecordsNothing (unless_full_record m d rest)
full_record None d rest silent = silent
full_record (Some r) d rest silent = either (not (views_migrated d) && int_eq r.version MAX_VERSION) (d, reply.Limit migration_path) rest (λ o is. cc) silent

looks : (seen : ClaimSeen) (d : Driver) → RecordsNothing (after_look seen d)
looks seen d = fenced (shown_by seen.control) d _ (bad_epoch seen.epoch d _ (full_record seen.migration d (at_stage (stage.ClaimLeadership seen) d, reply.Looked) (λ o is. cc)))

claims : (seen : ClaimSeen) (d : Driver) (ops : List Op) (r : Result Tree TreeFault) → RecordsNothing (after_claim seen d ops r)
claims seen d ops (Ok t) o is = cc
claims seen d ops (Err (tree_fault.Refused index code)) o is = cc
claims seen d ops (Err (tree_fault.Limit index number)) o is = cc
claims seen d ops (Err tree_fault.NoMemory) o is = cc
claims seen d ops (Err tree_fault.Device) o is = cc
claims seen d ops (Err tree_fault.Down) o is = cc
claims seen d ops (Err (tree_fault.Full length)) o is = cc

appends : (next : Stage) (d : Driver) (r : Result Log LogFault) → RecordsNothing (after_append next d r)
appends next d (Ok l) o is = cc
appends next d (Err (log_fault.Stale epoch)) o is = cc
appends next d (Err log_fault.Failed) o is = cc
appends next d (Err (log_fault.Limit number)) o is = cc
appends next d (Err log_fault.NoMemory) o is = cc
appends next d (Err log_fault.Down) o is = cc
appends next d (Err (log_fault.Full length)) o is = cc

begins : (s : Shared) (now : ℤ) (d : Driver) (r : Result (List MetaRecord) Unreadable) → RecordsNothing (after_translation s now d r)
begins s now d (Ok records) = appends (stage.AppendRecords records) d (append s.log (epoch_or_zero d.epoch) now (begin_record ∷ []))
begins s now d (Err e) = λ o is. cc

-- ---- a write

same_offset : (a b : ℤ) → ◌≡◌ {A = Reply} (reply.Recorded a) (reply.Recorded b) → a ≡ b
same_offset a b is = cc

done_by : (s : Shared) (d : Driver) (claim : ℤ) (target : Recorded) (more : List Op → Stage) (last : Stage) (t : Tree) (o : ℤ) (b : Bool) → is_last_write (remaining_at s.tree s.log target.offset) ≡ b → IsSharedSound s → recorded_of (written_recorded target) ≡ Some target → pos 0 ≤ℤ target.offset
    → multi s.tree (write_ops claim (remaining_at s.tree s.log target.offset) target) ≡ Ok t
    → (if◌then◌else◌ {A = Driver × Reply} b (record d { stage = last; recorded = Some target.offset }, reply.Recorded target.offset) (at_stage (more (after_chunk (remaining_at s.tree s.log target.offset))) d, reply.Wrote (length (chunk (remaining_at s.tree s.log target.offset))))).1 ≡ reply.Recorded o
    → IsResynced (record s { tree = t }) o
done_by s d claim target more last t o true is kept read low made said =
    let all = last_write s.tree t (image_at s.log target.offset) claim target kept.tree is made in
    subst (IsResynced (record s { tree = t })) (same_offset target.offset o said) (record {
      closed = all.closed (ap has_offset read ∙ not_below_zero target.offset low);
      recorded = (target, all.recorded ∙ read, refl);
      same = all.area;
    })
done_by s d claim target more last t o false is kept read low made said = absurd (cc)

refused : (claim : ℤ) (d : Driver) (b : Bool) (o : ℤ) → (if◌then◌else◌ {A = Driver × Reply} b (resigned_driver d, reply.FencedWrite claim) (begins_again d, reply.Moved state.BecomeController)).1 ≡ reply.Recorded o → ⊥
refused claim d true o is = cc
refused claim d false o is = cc

written : (s : Shared) (d : Driver) (claim : ℤ) (target : Recorded) (more : List Op → Stage) (last : Stage) (r : Result Tree TreeFault) (o : ℤ) → multi s.tree (write_ops claim (remaining_at s.tree s.log target.offset) target) ≡ r → IsSharedSound s
    → recorded_of (written_recorded target) ≡ Some target → pos 0 ≤ℤ target.offset → (after_write claim (remaining_at s.tree s.log target.offset) target more last d r).1 ≡ reply.Recorded o → IsResynced (with_tree s r) o
written s d claim target more last (Ok t) o made kept read low said = done_by s d claim target more last t o (is_last_write (remaining_at s.tree s.log target.offset)) refl kept read low made said
written s d claim target more last (Err (tree_fault.Refused index code)) o made kept read low said = absurd (refused claim d (is_claim_refused index code) o said)
written s d claim target more last (Err (tree_fault.Limit index number)) o made kept read low said = absurd (cc)
written s d claim target more last (Err tree_fault.NoMemory) o made kept read low said = absurd (cc)
written s d claim target more last (Err tree_fault.Device) o made kept read low said = absurd (cc)
written s d claim target more last (Err tree_fault.Down) o made kept read low said = absurd (cc)
written s d claim target more last (Err (tree_fault.Full length)) o made kept read low said = absurd (cc)

-- what is shared after a request that reaches its store, or doesn't
abbrev after_request : Plan → Shared → ℤ → ℤ → Request → Shared
after_request p s epoch now r = if reaches_store p r then shared_after s epoch now r else s

planned_write : (p : Plan) (s : Shared) (now : ℤ) (d : Driver) (m : Option ℤ) (target : Recorded) (more : List Op → Stage) (last : Stage) (o : ℤ) → IsSharedSound s → recorded_of (written_recorded target) ≡ Some target → pos 0 ≤ℤ target.offset
    → (driver_after (hearing p s (epoch_or_zero d.epoch) now (write_request m (remaining_at s.tree s.log target.offset) target)) (writes s.tree m (remaining_at s.tree s.log target.offset) target more last d) (write_request m (remaining_at s.tree s.log target.offset) target) d).1 ≡ reply.Recorded o
    → IsResynced (after_request p s (epoch_or_zero d.epoch) now (write_request m (remaining_at s.tree s.log target.offset) target)) o
planned_write p s now d None target more last o kept read low said = absurd (cc)
planned_write plan.Deliver s now d (Some claim) target more last o kept read low said =
    written s d claim target more last (multi s.tree (write_ops claim (remaining_at s.tree s.log target.offset) target)) o refl kept read low said
planned_write plan.LostBefore s now d (Some claim) target more last o kept read low said = absurd (cc)
planned_write plan.LostAfter s now d (Some claim) target more last o kept read low said = absurd (cc)
planned_write plan.Expired s now d (Some claim) target more last o kept read low said = absurd (cc)

-- ---- every stage

heard : (h : Hearing) (answer : Driver × Reply) (r : Request) (d : Driver) (o : ℤ) → (driver_after h answer r d).1 ≡ reply.Recorded o → answer.1 ≡ reply.Recorded o
heard hears_answer answer r d o said = said
heard hears_nothing answer r d o said = absurd (cc)
heard hears_expiry answer r d o said = absurd (cc)

abbrev Says : Plan → Shared → List ℤ → ℤ → Driver → Stage → ℤ → Type 0
Says p s running now d x o = (driver_after (hearing p s (epoch_or_zero d.epoch) now (request_at s now d x)) (after_answer s running now d x) (request_at s now d x) d).1 ≡ reply.Recorded o

not_said : (p : Plan) (s : Shared) (running : List ℤ) (now : ℤ) (d : Driver) (x : Stage) (o : ℤ) → RecordsNothing (after_answer s running now d x) → Says p s running now d x o → ⊥
not_said p s running now d x o silent said = silent o (heard (hearing p s (epoch_or_zero d.epoch) now (request_at s now d x)) (after_answer s running now d x) (request_at s now d x) d o said)

at_each : (p : Plan) (s : Shared) (running : List ℤ) (now : ℤ) (d : Driver) (x : Stage) (o : ℤ) → IsSharedSound s → IsSoundDriver s d → AtStage s.tree s.log d x → Says p s running now d x o → IsResynced (after_request p s (epoch_or_zero d.epoch) now (request_at s now d x)) o
at_each p s running now d stage.Uninitialized o kept fine at said = absurd (not_said p s running now d stage.Uninitialized o (λ q is. cc) said)
at_each p s running now d stage.Inactive o kept fine at said = absurd (not_said p s running now d stage.Inactive o (λ q is. cc) said)
at_each p s running now d stage.WaitForControllerQuorum o kept fine at said = absurd (not_said p s running now d stage.WaitForControllerQuorum o (quorum s.declared running (driver_at_log_end s.log d)) said)
at_each p s running now d stage.WaitForBrokers o kept fine at said =
    absurd (not_said p s running now d stage.WaitForBrokers o (finalised (driver_at_log_end s.log d) (at_stage stage.ListBrokers (driver_at_log_end s.log d), reply.Looked) (λ q is. cc)) said)
at_each p s running now d stage.ListBrokers o kept fine at said = absurd (not_said p s running now d stage.ListBrokers o (brokers (missing_broker (broker_ids s.tree) d.view.image) d) said)
at_each p s running now d stage.ReadControlZnodes o kept fine at said = absurd (not_said p s running now d stage.ReadControlZnodes o (looks (seen_in s.tree) d) said)
at_each p s running now d (stage.ClaimLeadership seen) o kept fine at said =
    absurd (not_said p s running now d (stage.ClaimLeadership seen) o (claims seen d (claim_ops seen d now) (multi s.tree (claim_ops seen d now))) said)
at_each p s running now d (stage.ScanForMigration rows) o kept fine at said = absurd (not_said p s running now d (stage.ScanForMigration rows) o (λ q is. cc) said)
at_each p s running now d (stage.BeginMigration rows) o kept fine at said = absurd (not_said p s running now d (stage.BeginMigration rows) o (begins s now d (translate rows)) said)
at_each p s running now d (stage.AppendRecords records) o kept fine at said =
    absurd (not_said p s running now d (stage.AppendRecords records) o (appends (after_records records) d (append s.log (epoch_or_zero d.epoch) now (next_records records))) said)
at_each p s running now d stage.ReadLogForResync o kept fine at said =
    let e : Driver = driver_at_log_end s.log d in
    absurd (not_said p s running now d stage.ReadLogForResync o (finalised e (at_stage (stage.ScanForResync (target_of e) []) e, reply.Looked) (λ q is. cc)) said)
at_each p s running now d (stage.ScanForResync target rows) o kept fine at said = absurd (not_said p s running now d (stage.ScanForResync target rows) o (λ q is. cc) said)
at_each p s running now d (stage.WriteResync target ops) o kept fine at said =
    planned_write p s now d d.claim target (λ rest. stage.WriteResync target rest) stage.KraftControllerToBrokerComm o kept (target_read s d target kept.log fine at.1) at.1.not_negative said
at_each p s running now d stage.KraftControllerToBrokerComm o kept fine at said = absurd (not_said p s running now d stage.KraftControllerToBrokerComm o (λ q is. cc) said)
at_each p s running now d stage.DualWrite o kept fine at said =
    let e : Driver = driver_at_log_end s.log d in
    let ops = diff (render d.view.image) (render e.view.image) in
    absurd (not_said p s running now d stage.DualWrite o (finalised e _ (either (is_recorded_at e.recorded e.view.position) (e, reply.Idle) (at_stage (stage.WriteDelta (target_of e) ops) e, reply.Looked) (λ q is. cc) (λ q is. cc))) said)
at_each p s running now d (stage.WriteDelta target ops) o kept fine at said =
    planned_write p s now d d.claim target (λ rest. stage.WriteDelta target rest) stage.DualWrite o kept (target_read s d target kept.log fine at.1) at.1.not_negative said

pub recording_step : (p : Plan) (s : Shared) (running : List ℤ) (now : ℤ) (d : Driver) (o : ℤ) → IsSharedSound s → IsSoundDriver s d → (planned_step p s running now d).reply ≡ reply.Recorded o → IsResynced (planned_step p s running now d).shared o
unfolding planned_step
recording_step p s running now d o kept fine said = at_each p s running now d d.stage o kept fine fine.stage said
