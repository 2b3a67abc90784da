-- A step that answers idle, and leaves its driver in dual write, was one of a driver in dual write.
use Rattle.std.proofs.Common.{◌≡◌, ◌≢◌, ℤ, Bool, true, false, not, ◌&&◌, ◌||◌, if◌then◌else◌, length, List, [], ◌∷◌, Option, Some, None, refl, sym, ap, ◌∙◌}
use Rattle.std.specs.Prelude.{Result, Ok, Err, int_lt}
use Rattle.std.specs.Ordering.{int_eq}
use Rattle.kz_types.specs.declared.codes.TheConstants.{MIGRATION, POST_MIGRATION}
use Rattle.kz_types.specs.declared.limits.TheConstants.{MAX_VERSION}
use Rattle.kz_types.specs.declared.tree.Row.{Row}
use Rattle.kz_types.specs.declared.tree.Op.{Op}
use Rattle.kz_types.specs.declared.driver.ClaimSeen.{ClaimSeen}
use Rattle.kz_types.specs.declared.driver.Stage.{Stage}
use Rattle.kz_types.specs.declared.driver.Stage.TheVariants as stage
use Rattle.kz_types.specs.declared.machine.DriverState.TheVariants as state
use Rattle.kz_types.specs.declared.machine.Recorded.{Recorded}
use Rattle.kz_types.specs.declared.machine.Reply.{Reply}
use Rattle.kz_types.specs.declared.machine.Reply.TheVariants as reply
use Rattle.kz_types.specs.declared.fault.BodyFault.{BodyFault}
use Rattle.kz_types.specs.declared.fault.TreeFault.{TreeFault}
use Rattle.kz_types.specs.declared.fault.TreeFault.TheVariants as tree_fault
use Rattle.kz_types.specs.declared.fault.LogFault.{LogFault}
use Rattle.kz_types.specs.declared.fault.LogFault.TheVariants as log_fault
use Rattle.kz_types.specs.declared.record.MetaRecord.{MetaRecord}
use Rattle.kz_spec_data.specs.Control.{epoch_path, migration_path, read_epoch}
use Rattle.kz_spec_data.specs.Tree.{Tree, multi, broker_ids}
use Rattle.kz_spec_data.specs.Log.{Log, append}
use Rattle.kz_spec_data.specs.Translation.{Unreadable, translate}
use Rattle.kz_spec_data.specs.Difference.{after_chunk, chunk}
use Rattle.kz_spec_machine.specs.Driver.{Shared, Driver, state_of, at_stage, resigned_driver, begins_again, epoch_or_zero, views_migrated, seen_in, shown_by, unless_fenced, unless_full_epoch, unless_bad_epoch, unless_full_record, claim_ops, remaining_at, is_last_write, write_ops, target_of, begin_record, next_records, missing_controller, missing_broker, driver_at_log_end, unless_finalised, wait_or_move, after_quorum, after_brokers, after_claim, after_append, after_translation, after_records, written_driver, is_claim_refused, after_write, writes, after_answer}

-- the driver and its reply aren't those of a driver that has nothing to do
abbrev IsBusy : Driver × Reply → Type 0
IsBusy x = x.1 ≢ reply.Idle

busy_if : (b : Bool) (x y : Driver × Reply) → IsBusy x → IsBusy y → IsBusy (if b then x else y)
busy_if true x y one other = one
busy_if false x y one other = other

finalised : (d : Driver) (rest : Driver × Reply) → IsBusy rest → IsBusy (unless_finalised d rest)
finalised d rest on = busy_if (int_eq d.view.image.state POST_MIGRATION) (resigned_driver d, reply.Moved state.Inactive) rest (λ is. absurd (cc)) on

waits : (m : Option ℤ) (d : Driver) → IsBusy (wait_or_move m d)
waits (Some id) d = λ is. absurd (cc)
waits None d = λ is. absurd (cc)

quorum : (declared running : List ℤ) (d : Driver) → IsBusy (after_quorum declared running d)
quorum declared running d = finalised d _
    (busy_if (int_eq d.view.image.state MIGRATION) (at_stage stage.ReadControlZnodes d, reply.Moved state.BecomeController) (wait_or_move (missing_controller declared running) d) (λ is. absurd (cc)) (waits (missing_controller declared running) d))

brokers : (m : Option ℤ) (d : Driver) → IsBusy (after_brokers m d)
brokers (Some id) d = λ is. absurd (cc)
brokers None d = λ is. absurd (cc)

fenced : (m : Option ℤ) (d : Driver) (rest : Driver × Reply) → IsBusy rest → IsBusy (unless_fenced m d rest)
fenced None d rest on = on
fenced (Some e) d rest on = busy_if (int_lt (epoch_or_zero d.epoch) e) (resigned_driver d, reply.FencedEpoch e) rest (λ is. absurd (cc)) on

full_epoch : (r : Result ℤ BodyFault) (version : ℤ) (d : Driver) (rest : Driver × Reply) → IsBusy rest → IsBusy (unless_full_epoch r version d rest)
full_epoch (Err e) version d rest on = λ is. absurd (cc)
full_epoch (Ok number) version d rest on = busy_if (int_eq number MAX_VERSION || int_eq version MAX_VERSION) (d, reply.Limit epoch_path) rest (λ is. absurd (cc)) on

bad_epoch : (m : Option Row) (d : Driver) (rest : Driver × Reply) → IsBusy rest → IsBusy (unless_bad_epoch m d rest)
bad_epoch None d rest on = on
bad_epoch (Some r) d rest on = full_epoch (read_epoch r.body) r.version d rest on

full_record : (m : Option Row) (d : Driver) (rest : Driver × Reply) → IsBusy rest → IsBusy (unless_full_record m d rest)
full_record None d rest on = on
full_record (Some r) d rest on = busy_if (not (views_migrated d) && int_eq r.version MAX_VERSION) (d, reply.Limit migration_path) rest (λ is. absurd (cc)) on

looked : (seen : ClaimSeen) (d : Driver) → IsBusy (at_stage (stage.ClaimLeadership seen) d, reply.Looked)
looked seen d = λ is. absurd (cc)

claims : (seen : ClaimSeen) (d : Driver) (ops : List Op) (r : Result Tree TreeFault) → IsBusy (after_claim seen d ops r)
claims seen d ops (Ok t) = λ is. absurd (cc)
claims seen d ops (Err (tree_fault.Refused index code)) = λ is. absurd (cc)
claims seen d ops (Err (tree_fault.Limit index number)) = λ is. absurd (cc)
claims seen d ops (Err tree_fault.NoMemory) = λ is. absurd (cc)
claims seen d ops (Err tree_fault.Device) = λ is. absurd (cc)
claims seen d ops (Err tree_fault.Down) = λ is. absurd (cc)
claims seen d ops (Err (tree_fault.Full length)) = λ is. absurd (cc)

appends : (next : Stage) (d : Driver) (r : Result Log LogFault) → IsBusy (after_append next d r)
appends next d (Ok l) = λ is. absurd (cc)
appends next d (Err (log_fault.Stale epoch)) = λ is. absurd (cc)
appends next d (Err log_fault.Failed) = λ is. absurd (cc)
appends next d (Err (log_fault.Limit number)) = λ is. absurd (cc)
appends next d (Err log_fault.NoMemory) = λ is. absurd (cc)
appends next d (Err log_fault.Down) = λ is. absurd (cc)
appends next d (Err (log_fault.Full length)) = λ is. absurd (cc)

begins : (s : Shared) (now : ℤ) (d : Driver) (r : Result (List MetaRecord) Unreadable) → IsBusy (after_translation s now d r)
begins s now d (Err e) = λ is. absurd (cc)
begins s now d (Ok records) = appends (stage.AppendRecords records) d (append s.log (epoch_or_zero d.epoch) now (begin_record ∷ []))

wrote : (ops : List Op) (target : Recorded) (more : List Op → Stage) (last : Stage) (d : Driver) → IsBusy (written_driver ops target more last d)
wrote ops target more last d =
    busy_if (is_last_write ops) (record d { stage = last; recorded = Some target.offset }, reply.Recorded target.offset) (at_stage (more (after_chunk ops)) d, reply.Wrote (length (chunk ops))) (λ is. absurd (cc)) (λ is. absurd (cc))

written : (claim : ℤ) (ops : List Op) (target : Recorded) (more : List Op → Stage) (last : Stage) (d : Driver) (r : Result Tree TreeFault) → IsBusy (after_write claim ops target more last d r)
written claim ops target more last d (Ok t) = wrote ops target more last d
written claim ops target more last d (Err (tree_fault.Refused index code)) =
    busy_if (is_claim_refused index code) (resigned_driver d, reply.FencedWrite claim) (begins_again d, reply.Moved state.BecomeController) (λ is. absurd (cc)) (λ is. absurd (cc))
written claim ops target more last d (Err (tree_fault.Limit index number)) = λ is. absurd (cc)
written claim ops target more last d (Err tree_fault.NoMemory) = λ is. absurd (cc)
written claim ops target more last d (Err tree_fault.Device) = λ is. absurd (cc)
written claim ops target more last d (Err tree_fault.Down) = λ is. absurd (cc)
written claim ops target more last d (Err (tree_fault.Full length)) = λ is. absurd (cc)

write_under : (t : Tree) (m : Option ℤ) (ops : List Op) (target : Recorded) (more : List Op → Stage) (last : Stage) (d : Driver) → IsBusy (writes t m ops target more last d)
write_under t None ops target more last d = λ is. absurd (cc)
write_under t (Some claim) ops target more last d = written claim ops target more last d (multi t (write_ops claim ops target))

not_inactive : (x : Stage) → x ≡ stage.Inactive → state_of x ≡ state.DualWrite → ⊥
not_inactive x is dual = absurd (let inactive : state_of x ≡ state.Inactive = ap state_of is in let same : state.Inactive ≡ state.DualWrite = sym inactive ∙ dual in cc)

pub idle_at : (s : Shared) (running : List ℤ) (now : ℤ) (d : Driver) (x : Stage) → d.stage ≡ x → (after_answer s running now d x).1 ≡ reply.Idle → state_of (after_answer s running now d x).0.stage ≡ state.DualWrite → x ≡ stage.DualWrite
idle_at s running now d stage.Uninitialized at said dual = absurd (cc)
idle_at s running now d stage.Inactive at said dual = absurd (not_inactive d.stage at dual)
idle_at s running now d stage.WaitForControllerQuorum at said dual = absurd (quorum s.declared running (driver_at_log_end s.log d) said)
idle_at s running now d stage.WaitForBrokers at said dual =
    let e : Driver = driver_at_log_end s.log d in
    absurd (finalised e (at_stage stage.ListBrokers e, reply.Looked) (λ is. absurd (cc)) said)
idle_at s running now d stage.ListBrokers at said dual = absurd (brokers (missing_broker (broker_ids s.tree) d.view.image) d said)
idle_at s running now d stage.ReadControlZnodes at said dual =
    let seen = seen_in s.tree in
    absurd (fenced (shown_by seen.control) d _ (bad_epoch seen.epoch d _ (full_record seen.migration d (at_stage (stage.ClaimLeadership seen) d, reply.Looked) (looked seen d))) said)
idle_at s running now d (stage.ClaimLeadership seen) at said dual = absurd (claims seen d (claim_ops seen d now) (multi s.tree (claim_ops seen d now)) said)
idle_at s running now d (stage.ScanForMigration rows) at said dual = absurd (cc)
idle_at s running now d (stage.BeginMigration rows) at said dual = absurd (begins s now d (translate rows) said)
idle_at s running now d (stage.AppendRecords records) at said dual = absurd (appends (after_records records) d (append s.log (epoch_or_zero d.epoch) now (next_records records)) said)
idle_at s running now d stage.ReadLogForResync at said dual =
    let e : Driver = driver_at_log_end s.log d in
    absurd (finalised e (at_stage (stage.ScanForResync (target_of e) []) e, reply.Looked) (λ is. absurd (cc)) said)
idle_at s running now d (stage.ScanForResync target rows) at said dual = absurd (cc)
idle_at s running now d (stage.WriteResync target ops) at said dual = absurd (write_under s.tree d.claim (remaining_at s.tree s.log target.offset) target (λ rest. stage.WriteResync target rest) stage.KraftControllerToBrokerComm d said)
idle_at s running now d stage.KraftControllerToBrokerComm at said dual = absurd (cc)
idle_at s running now d stage.DualWrite at said dual = refl
idle_at s running now d (stage.WriteDelta target ops) at said dual = absurd (write_under s.tree d.claim (remaining_at s.tree s.log target.offset) target (λ rest. stage.WriteDelta target rest) stage.DualWrite d said)
