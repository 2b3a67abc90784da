-- What a driver holds at its stage it holds at the next one.
use Rattle.std.proofs.Common.{Bool, true, false, ℤ, List, [], ◌∷◌, length, Option, Some, None, Result, Ok, Err}
use Rattle.std.specs.Prelude.{if◌then◌else◌, int_lt, not, ◌&&◌, ◌||◌}
use Rattle.std.specs.Ordering.{int_eq}
use Rattle.kz_types.specs.declared.codes.TheConstants.{MIGRATION, POST_MIGRATION}
use Rattle.kz_types.specs.declared.limits.TheConstants.{MAX_VERSION}
use Rattle.kz_types.specs.declared.tree.Row.{Row}
use Rattle.kz_types.specs.declared.driver.ClaimSeen.{ClaimSeen}
use Rattle.kz_types.specs.declared.driver.Stage.{Stage}
use Rattle.kz_types.specs.declared.driver.Stage.TheVariants as stage
use Rattle.kz_types.specs.declared.machine.DriverState.TheVariants as state
use Rattle.kz_types.specs.declared.machine.Reply.{Reply}
use Rattle.kz_types.specs.declared.machine.Reply.TheVariants as reply
use Rattle.kz_types.specs.declared.tree.Op.{Op}
use Rattle.kz_types.specs.declared.machine.Recorded.{Recorded}
use Rattle.kz_types.specs.declared.fault.TreeFault.{TreeFault}
use Rattle.kz_types.specs.declared.fault.TreeFault.TheVariants as tree_fault
use Rattle.kz_types.specs.declared.fault.LogFault.{LogFault}
use Rattle.kz_types.specs.declared.fault.LogFault.TheVariants as log_fault
use Rattle.kz_types.specs.declared.fault.BodyFault.{BodyFault}
use Rattle.kz_types.specs.declared.record.MetaRecord.{MetaRecord}
use Rattle.kz_spec_data.specs.Control.{epoch_path, migration_path, read_epoch}
use Rattle.kz_spec_data.specs.Tree.{Tree, multi}
use Rattle.kz_spec_data.specs.Log.{Log, View, append}
use Rattle.kz_spec_data.specs.Difference.{chunk, after_chunk}
use Rattle.kz_spec_data.specs.Translation.{Unreadable}
use Rattle.kz_spec_machine.specs.Driver.{Shared, Driver, epoch_or_zero, at_stage, resigned_driver, unless_finalised, wait_or_move, after_quorum, after_brokers, unless_fenced, unless_full_epoch, unless_bad_epoch, unless_full_record, after_look, after_append, after_records, after_translation, views_migrated, shown_by, missing_controller, begin_record, is_last_write, is_claim_refused, begins_again, write_ops, after_write, writes}
use Rattle.kz_stages.specs.declared.become_controller.ClaimOutcome.{ClaimOutcome}
use Rattle.kz_stages.specs.declared.become_controller.ClaimOutcome.TheVariants.{Done, Refused, Stopped}
use Rattle.kz_stages.specs.Claims.{after_claim_outcome}
use Rattle.kz_stages.specs.Checks.{StageCanClaim}
use Rattle.kz_stages.specs.Drivers.{IsElected, HasEpoch, HasRisen, IsKept}
use Rattle.kz_stages.proofs.Kept.{Keeps, IsFree, free_kept, resigned_kept}

pub chosen : (P : Driver × Reply → Type 0) (b : Bool) (x y : Driver × Reply) → P x → P y → P (if b then x else y)
chosen P true x y h k = h
chosen P false x y h k = k

pub chosen_stage : (P : Stage → Type 0) (b : Bool) (x y : Stage) → P x → P y → P (if b then x else y)
chosen_stage P true x y h k = h
chosen_stage P false x y h k = k

pub finalised_keeps : (d : Driver) (rest : Driver × Reply) → Keeps rest → Keeps (unless_finalised d rest)
finalised_keeps d rest k = chosen Keeps (int_eq d.view.image.state POST_MIGRATION) (resigned_driver d, reply.Moved state.Inactive) rest (resigned_kept d (reply.Moved state.Inactive)) k

wait_keeps : (o : Option ℤ) (d : Driver) → IsElected d.epoch → IsKept d.epoch d.view d.stage → Keeps (wait_or_move o d)
wait_keeps (Some id) d h k = k
wait_keeps None d h k = free_kept d.epoch d.view stage.WaitForBrokers h (tt, tt)

pub quorum_keeps : (declared running : List ℤ) (d : Driver) → IsElected d.epoch → IsKept d.epoch d.view d.stage → Keeps (after_quorum declared running d)
quorum_keeps declared running d h k =
    let later = wait_or_move (missing_controller declared running) d in
    let move : Driver × Reply = (at_stage stage.ReadControlZnodes d, reply.Moved state.BecomeController) in
    finalised_keeps d (if int_eq d.view.image.state MIGRATION then move else later)
    (chosen Keeps (int_eq d.view.image.state MIGRATION) move later (free_kept d.epoch d.view stage.ReadControlZnodes h (tt, tt)) (wait_keeps (missing_controller declared running) d h k))

pub brokers_keep : (o : Option ℤ) (d : Driver) → IsElected d.epoch → Keeps (after_brokers o d)
brokers_keep (Some id) d h = free_kept d.epoch d.view stage.WaitForBrokers h (tt, tt)
brokers_keep None d h = free_kept d.epoch d.view stage.ReadControlZnodes h (tt, tt)

-- ---- the control znodes

-- a driver has its epoch, and the znodes that it has read rise
abbrev pub IsAlive : Driver → Type 0
IsAlive d = HasEpoch d.epoch d.stage × HasRisen d.stage

abbrev pub Lives : Driver × Reply → Type 0
Lives x = IsAlive x.0

fenced_lives : (o : Option ℤ) (d : Driver) (rest : Driver × Reply) → Lives rest → Lives (unless_fenced o d rest)
fenced_lives None d rest h = h
fenced_lives (Some e) d rest h = chosen Lives (int_lt (epoch_or_zero d.epoch) e) (resigned_driver d, reply.FencedEpoch e) rest (tt, tt) h

full_epoch_lives : (r : Result ℤ BodyFault) (version : ℤ) (d : Driver) (rest : Driver × Reply) → IsAlive d → Lives rest → Lives (unless_full_epoch r version d rest)
full_epoch_lives (Err e) version d rest here h = here
full_epoch_lives (Ok number) version d rest here h = chosen Lives (int_eq number MAX_VERSION || int_eq version MAX_VERSION) (d, reply.Limit epoch_path) rest here h

bad_epoch_lives : (o : Option Row) (d : Driver) (rest : Driver × Reply) → IsAlive d → Lives rest → Lives (unless_bad_epoch o d rest)
bad_epoch_lives None d rest here h = h
bad_epoch_lives (Some r) d rest here h = full_epoch_lives (read_epoch r.body) r.version d rest here h

full_record_lives : (o : Option Row) (d : Driver) (rest : Driver × Reply) → IsAlive d → Lives rest → Lives (unless_full_record o d rest)
full_record_lives None d rest here h = h
full_record_lives (Some r) d rest here h = chosen Lives (not (views_migrated d) && int_eq r.version MAX_VERSION) (d, reply.Limit migration_path) rest here h

pub look_lives : (seen : ClaimSeen) (d : Driver) → IsElected d.epoch → IsKept d.epoch d.view d.stage → Lives (after_look seen d)
look_lives seen d h k =
    let here : IsAlive d = (k.elected, k.risen) in
    let end : Driver × Reply = (at_stage (stage.ClaimLeadership seen) d, reply.Looked) in
    let record_checked = unless_full_record seen.migration d end in
    let epoch_checked = unless_bad_epoch seen.epoch d record_checked in
    fenced_lives (shown_by seen.control) d epoch_checked (bad_epoch_lives seen.epoch d record_checked here (full_record_lives seen.migration d end here (h, tt)))

-- ---- the claim

pub claimed_keeps : (c : ClaimOutcome) (d : Driver) → IsElected d.epoch → IsKept d.epoch d.view d.stage → Keeps (after_claim_outcome c d)
claimed_keeps (Done number version) d h k = free_kept d.epoch d.view (if views_migrated d then stage.ReadLogForResync else stage.ScanForMigration []) h (chosen_stage (IsFree d.epoch d.view) (views_migrated d) stage.ReadLogForResync (stage.ScanForMigration []) (tt, tt) (tt, tt))
claimed_keeps Refused d h k = free_kept d.epoch d.view stage.ReadControlZnodes h (tt, tt)
claimed_keeps (Stopped told) d h k = k

-- ---- appends

pub append_keeps : (next : Stage) (d : Driver) (r : Result Log LogFault) → IsElected d.epoch → IsFree d.epoch d.view next → IsKept d.epoch d.view d.stage → Keeps (after_append next d r)
append_keeps next d (Ok l) h free k = free_kept d.epoch d.view next h free
append_keeps next d (Err (log_fault.Stale epoch)) h free k = resigned_kept d (reply.Stale epoch)
append_keeps next d (Err (log_fault.Limit number)) h free k = k
append_keeps next d (Err log_fault.Failed) h free k = k
append_keeps next d (Err log_fault.NoMemory) h free k = k
append_keeps next d (Err log_fault.Down) h free k = k
append_keeps next d (Err (log_fault.Full length)) h free k = k

pub translation_keeps : (s : Shared) (now : ℤ) (d : Driver) (r : Result (List MetaRecord) Unreadable) → IsElected d.epoch → IsKept d.epoch d.view d.stage → Keeps (after_translation s now d r)
translation_keeps s now d (Err e) h k = free_kept d.epoch d.view (stage.ScanForMigration []) h (tt, tt)
translation_keeps s now d (Ok records) h k = append_keeps (stage.AppendRecords records) d (append s.log (epoch_or_zero d.epoch) now (begin_record ∷ [])) h (tt, tt) k

pub records_free : (e : Option ℤ) (v : View) (records : List MetaRecord) → IsFree e v (after_records records)
records_free e v [] = (tt, tt)
records_free e v (r ∷ rs) = (tt, tt)

-- ---- writes

write_keeps : (claim : ℤ) (ops : List Op) (target : Recorded) (more : List Op → Stage) (last : Stage) (d : Driver) (r : Result Tree TreeFault) → IsElected d.epoch → IsKept d.epoch d.view d.stage → ((rest : List Op) → IsFree d.epoch d.view (more rest)) → IsFree d.epoch d.view last
    → Keeps (after_write claim ops target more last d r)
write_keeps claim ops target more last d (Ok t) h k goes_on ends =
    chosen Keeps (is_last_write ops) (record d { stage = last; recorded = Some target.offset }, reply.Recorded target.offset) (at_stage (more (after_chunk ops)) d, reply.Wrote (length (chunk ops)))
    (free_kept d.epoch d.view last h ends) (free_kept d.epoch d.view (more (after_chunk ops)) h (goes_on (after_chunk ops)))
write_keeps claim ops target more last d (Err (tree_fault.Refused index code)) h k goes_on ends =
    chosen Keeps (is_claim_refused index code) (resigned_driver d, reply.FencedWrite claim) (begins_again d, reply.Moved state.BecomeController)
    (resigned_kept d (reply.FencedWrite claim)) (free_kept d.epoch d.view stage.ReadControlZnodes h (tt, tt))
write_keeps claim ops target more last d (Err (tree_fault.Limit index number)) h k goes_on ends = k
write_keeps claim ops target more last d (Err tree_fault.NoMemory) h k goes_on ends = k
write_keeps claim ops target more last d (Err tree_fault.Device) h k goes_on ends = k
write_keeps claim ops target more last d (Err tree_fault.Down) h k goes_on ends = k
write_keeps claim ops target more last d (Err (tree_fault.Full len)) h k goes_on ends = k

pub writes_keep : (t : Tree) (held : Option ℤ) (ops : List Op) (target : Recorded) (more : List Op → Stage) (last : Stage) (d : Driver) → IsElected d.epoch → IsKept d.epoch d.view d.stage → ((rest : List Op) → IsFree d.epoch d.view (more rest)) → IsFree d.epoch d.view last
    → Keeps (writes t held ops target more last d)
writes_keep t None ops target more last d h k goes_on ends = free_kept d.epoch d.view stage.ReadControlZnodes h (tt, tt)
writes_keep t (Some claim) ops target more last d h k goes_on ends = write_keeps claim ops target more last d (multi t (write_ops claim ops target)) h k goes_on ends
