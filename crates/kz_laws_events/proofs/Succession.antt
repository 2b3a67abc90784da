-- The stages to which a step leads, over what holds at each of them.
use Rattle.std.proofs.Common.{◌≡◌, ℤ, nat_lt, map, length, ◌++◌, Bool, true, false, not, ◌&&◌, ◌||◌, if◌then◌else◌, List, [], ◌∷◌, drop, Option, Some, None}
use Rattle.std.specs.Prelude.{Result, Ok, Err, int_lt, ⊤}
use Rattle.std.specs.Ordering.{int_eq}
use Rattle.kz_types.specs.declared.codes.TheConstants.{MIGRATION, POST_MIGRATION}
use Rattle.kz_types.specs.declared.limits.TheConstants.{MAX_APPEND_RECORDS, MAX_SCAN_ROWS, MAX_VERSION}
use Rattle.kz_types.specs.declared.tree.Row.{Row}
use Rattle.kz_types.specs.declared.tree.Op.{Op}
use Rattle.kz_types.specs.declared.driver.ClaimSeen.{ClaimSeen}
use Rattle.kz_types.specs.declared.driver.Stage.{Stage}
use Rattle.kz_types.specs.declared.driver.Stage.TheVariants as stage
use Rattle.kz_types.specs.declared.machine.DriverState.TheVariants as state
use Rattle.kz_types.specs.declared.machine.Recorded.{Recorded}
use Rattle.kz_types.specs.declared.machine.Reply.{Reply}
use Rattle.kz_types.specs.declared.machine.Reply.TheVariants as reply
use Rattle.kz_types.specs.declared.fault.BodyFault.{BodyFault}
use Rattle.kz_types.specs.declared.fault.TreeFault.{TreeFault}
use Rattle.kz_types.specs.declared.fault.TreeFault.TheVariants as tree_fault
use Rattle.kz_types.specs.declared.fault.LogFault.{LogFault}
use Rattle.kz_types.specs.declared.fault.LogFault.TheVariants as log_fault
use Rattle.kz_types.specs.declared.plan.Plan.{Plan}
use Rattle.kz_types.specs.declared.record.MetaRecord.{MetaRecord}
use Rattle.kz_spec_data.specs.Control.{epoch_path, migration_path, read_epoch}
use Rattle.kz_spec_data.specs.Tree.{Tree, multi, scan, broker_ids, rendered_row}
use Rattle.kz_spec_data.specs.Image.{Image}
use Rattle.kz_spec_data.specs.Log.{Log, append, end_of, image_of}
use Rattle.kz_spec_data.specs.Translation.{Unreadable, translate}
use Rattle.kz_spec_data.specs.Rendering.{render}
use Rattle.kz_spec_data.specs.Difference.{diff, after_chunk}
use Rattle.kz_spec_machine.specs.Driver.{Shared, Driver, at_stage, resigned_driver, begins_again, epoch_or_zero, views_migrated, seen_in, shown_by, unless_fenced, unless_full_epoch, unless_bad_epoch, unless_full_record, claim_ops, remaining_at, is_last_write, write_ops, target_of, last_path, Request, nothing, read_log, list_brokers, look_up, read_page, write, add, request_at, missing_controller, missing_broker, driver_at_log_end, unless_finalised, wait_or_move, after_quorum, after_brokers, claimed_version, after_claim, begin_record, next_records, after_append, after_translation, after_records, is_claim_refused, after_write, writes, is_recorded_at, after_rest, after_answer, without_answer, Hearing, hears_answer, hears_nothing, hears_expiry, hearing, driver_after, planned_step}
use Rattle.kz_laws_events.proofs.Ways.{either}

-- ---- stages

-- a driver has no records left to append, and no operations left to write
abbrev pub HasNothingLeft : Stage → Type 0
HasNothingLeft (stage.AppendRecords records) = ⊥
HasNothingLeft (stage.WriteResync target ops) = ⊥
HasNothingLeft (stage.WriteDelta target ops) = ⊥
HasNothingLeft x = ⊤

-- What is said of a driver by its claim and its stage.
abbrev pub ByStage : Type 1
ByStage = Option ℤ → Stage → Type 0

abbrev pub At : ByStage → Driver → Type 0
At P d = P d.claim d.stage

-- it holds of a driver that has nothing left
abbrev pub HoldsOfNothing : ByStage → Type 0
HoldsOfNothing P = (claim : Option ℤ) (x : Stage) → HasNothingLeft x → P claim x

stage_if : (P : ByStage) (claim : Option ℤ) (b : Bool) (x y : Stage) → P claim x → P claim y → P claim (if b then x else y)
stage_if P claim true x y one other = one
stage_if P claim false x y one other = other

pub finalised : (P : ByStage) (d : Driver) (rest : Driver × Reply) → HoldsOfNothing P → At P rest.0 → At P (unless_finalised d rest).0
finalised P d rest h on = either (At P) (int_eq d.view.image.state POST_MIGRATION) (resigned_driver d, reply.Moved state.Inactive) rest (λ over. h None stage.Inactive tt) (λ more. on)

waits : (P : ByStage) (d : Driver) (m : Option ℤ) → HoldsOfNothing P → At P d → At P (wait_or_move m d).0
waits P d (Some id) h own = own
waits P d None h own = h d.claim stage.WaitForBrokers tt

quorum : (P : ByStage) (d : Driver) (declared running : List ℤ) → HoldsOfNothing P → At P d → At P (after_quorum declared running d).0
quorum P d declared running h own = finalised P d _ h
    (either (At P) (int_eq d.view.image.state MIGRATION) (at_stage stage.ReadControlZnodes d, reply.Moved state.BecomeController) (wait_or_move (missing_controller declared running) d) (λ over. h d.claim stage.ReadControlZnodes tt) (λ more. waits P d (missing_controller declared running) h own))

brokers : (P : ByStage) (d : Driver) (m : Option ℤ) → HoldsOfNothing P → At P (after_brokers m d).0
brokers P d (Some id) h = h d.claim stage.WaitForBrokers tt
brokers P d None h = h d.claim stage.ReadControlZnodes tt

fenced : (P : ByStage) (d : Driver) (m : Option ℤ) (rest : Driver × Reply) → HoldsOfNothing P → At P rest.0 → At P (unless_fenced m d rest).0
fenced P d None rest h on = on
fenced P d (Some e) rest h on = either (At P) (int_lt (epoch_or_zero d.epoch) e) (resigned_driver d, reply.FencedEpoch e) rest (λ above. h None stage.Inactive tt) (λ low. on)

full_epoch : (P : ByStage) (d : Driver) (r : Result ℤ BodyFault) (version : ℤ) (rest : Driver × Reply) → At P d → At P rest.0 → At P (unless_full_epoch r version d rest).0
full_epoch P d (Err e) version rest own on = own
full_epoch P d (Ok number) version rest own on = either (At P) (int_eq number MAX_VERSION || int_eq version MAX_VERSION) (d, reply.Limit epoch_path) rest (λ full. own) (λ room. on)

bad_epoch : (P : ByStage) (d : Driver) (m : Option Row) (rest : Driver × Reply) → At P d → At P rest.0 → At P (unless_bad_epoch m d rest).0
bad_epoch P d None rest own on = on
bad_epoch P d (Some r) rest own on = full_epoch P d (read_epoch r.body) r.version rest own on

full_record : (P : ByStage) (d : Driver) (m : Option Row) (rest : Driver × Reply) → At P d → At P rest.0 → At P (unless_full_record m d rest).0
full_record P d None rest own on = on
full_record P d (Some r) rest own on = either (At P) (not (views_migrated d) && int_eq r.version MAX_VERSION) (d, reply.Limit migration_path) rest (λ full. own) (λ room. on)

claims : (P : ByStage) (d : Driver) (seen : ClaimSeen) (ops : List Op) (r : Result Tree TreeFault) → HoldsOfNothing P → At P d → At P (after_claim seen d ops r).0
claims P d seen ops (Ok t) h own = stage_if P (Some (claimed_version seen.epoch)) (views_migrated d) stage.ReadLogForResync (stage.ScanForMigration []) (h _ stage.ReadLogForResync tt) (h _ (stage.ScanForMigration []) tt)
claims P d seen ops (Err (tree_fault.Refused index code)) h own = h None stage.ReadControlZnodes tt
claims P d seen ops (Err (tree_fault.Limit index number)) h own = own
claims P d seen ops (Err tree_fault.NoMemory) h own = own
claims P d seen ops (Err tree_fault.Device) h own = own
claims P d seen ops (Err tree_fault.Down) h own = own
claims P d seen ops (Err (tree_fault.Full length)) h own = own

written : (P : ByStage) (d : Driver) (claim : ℤ) (ops : List Op) (target : Recorded) (more : List Op → Stage) (last : Stage) (r : Result Tree TreeFault) → HoldsOfNothing P → ((rest : List Op) → P d.claim (more rest)) → P d.claim last → At P d → At P (after_write claim ops target more last d r).0
written P d claim ops target more last (Ok t) h goes ends own = either (At P) (is_last_write ops) _ _ (λ is. ends) (λ is. goes (after_chunk ops))
written P d claim ops target more last (Err (tree_fault.Refused index code)) h goes ends own = either (At P) (is_claim_refused index code) (resigned_driver d, reply.FencedWrite claim) (begins_again d, reply.Moved state.BecomeController) (λ is. h None stage.Inactive tt) (λ is. h None stage.ReadControlZnodes tt)
written P d claim ops target more last (Err (tree_fault.Limit index number)) h goes ends own = own
written P d claim ops target more last (Err tree_fault.NoMemory) h goes ends own = own
written P d claim ops target more last (Err tree_fault.Device) h goes ends own = own
written P d claim ops target more last (Err tree_fault.Down) h goes ends own = own
written P d claim ops target more last (Err (tree_fault.Full length)) h goes ends own = own

pub write_under : (P : ByStage) (t : Tree) (d : Driver) (m : Option ℤ) (ops : List Op) (target : Recorded) (more : List Op → Stage) (last : Stage) → HoldsOfNothing P → ((rest : List Op) → P d.claim (more rest)) → P d.claim last → At P d → At P (writes t m ops target more last d).0
write_under P t d None ops target more last h goes ends own = h None stage.ReadControlZnodes tt
write_under P t d (Some claim) ops target more last h goes ends own = written P d claim ops target more last (multi t (write_ops claim ops target)) h goes ends own

-- a driver that appends, and goes to a stage where its records are in the log
appended : (P : ByStage) (d : Driver) (next : Stage) (r : Result Log LogFault) → HoldsOfNothing P → P d.claim next → At P d → At P (after_append next d r).0
appended P d next (Ok l) h on own = on
appended P d next (Err (log_fault.Stale epoch)) h on own = h None stage.Inactive tt
appended P d next (Err log_fault.Failed) h on own = own
appended P d next (Err (log_fault.Limit number)) h on own = own
appended P d next (Err log_fault.NoMemory) h on own = own
appended P d next (Err log_fault.Down) h on own = own
appended P d next (Err (log_fault.Full length)) h on own = own

translated : (P : ByStage) (s : Shared) (now : ℤ) (d : Driver) (t : Result (List MetaRecord) Unreadable) → HoldsOfNothing P → ((records : List MetaRecord) → P d.claim (stage.AppendRecords records)) → At P d → At P (after_translation s now d t).0
translated P s now d (Ok records) h fills own = appended P d (stage.AppendRecords records) (append s.log (epoch_or_zero d.epoch) now (begin_record ∷ [])) h (fills records) own
translated P s now d (Err e) h fills own = h d.claim (stage.ScanForMigration []) tt

filled : (P : ByStage) (claim : Option ℤ) (records : List MetaRecord) → HoldsOfNothing P → ((rest : List MetaRecord) → P claim (stage.AppendRecords rest)) → P claim (after_records records)
filled P claim [] h fills = h claim stage.ReadLogForResync tt
filled P claim (r ∷ rs) h fills = fills (drop MAX_APPEND_RECORDS (r ∷ rs))

-- a driver at rest in dual write: at rest again, or with what is new to write
pub rested : (P : ByStage) (d : Driver) (i : Image) → HoldsOfNothing P → (is_recorded_at d.recorded d.view.position ≡ false → P d.claim (stage.WriteDelta (target_of d) (diff (render i) (render d.view.image)))) → At P d → At P (after_rest i d).0
rested P d i h new own = finalised P d _ h
    (either (At P) (is_recorded_at d.recorded d.view.position) (d, reply.Idle) (at_stage (stage.WriteDelta (target_of d) (diff (render i) (render d.view.image))) d, reply.Looked) (λ same. own) (λ more. new more))

-- ---- a step

-- what is to be known of the stages with records or operations left, for a step from this one
abbrev pub Leads : ByStage → Shared → Driver → Stage → Type 0
Leads P s d (stage.BeginMigration rows) = (records : List MetaRecord) → P d.claim (stage.AppendRecords records)
Leads P s d (stage.AppendRecords records) = (rest : List MetaRecord) → P d.claim (stage.AppendRecords rest)
Leads P s d (stage.ScanForResync target rows) = (ops : List Op) → P d.claim (stage.WriteResync target ops)
Leads P s d (stage.WriteResync target ops) = (rest : List Op) → P d.claim (stage.WriteResync target rest)
Leads P s d stage.DualWrite = is_recorded_at d.recorded (end_of s.log) ≡ false → P d.claim (stage.WriteDelta (target_of (driver_at_log_end s.log d)) (diff (render d.view.image) (render (image_of s.log))))
Leads P s d (stage.WriteDelta target ops) = (rest : List Op) → P d.claim (stage.WriteDelta target rest)
Leads P s d x = ⊤

pub answer_leads : (P : ByStage) (s : Shared) (running : List ℤ) (now : ℤ) (d : Driver) (x : Stage) → HoldsOfNothing P → Leads P s d x → At P d → At P (after_answer s running now d x).0
answer_leads P s running now d stage.Uninitialized h on own = h d.claim stage.Inactive tt
answer_leads P s running now d stage.Inactive h on own = own
answer_leads P s running now d stage.WaitForControllerQuorum h on own = quorum P (driver_at_log_end s.log d) s.declared running h own
answer_leads P s running now d stage.WaitForBrokers h on own = finalised P (driver_at_log_end s.log d) (at_stage stage.ListBrokers (driver_at_log_end s.log d), reply.Looked) h (h d.claim stage.ListBrokers tt)
answer_leads P s running now d stage.ListBrokers h on own = brokers P d (missing_broker (broker_ids s.tree) d.view.image) h
answer_leads P s running now d stage.ReadControlZnodes h on own =
    let seen = seen_in s.tree in
    fenced P d (shown_by seen.control) _ h (bad_epoch P d seen.epoch _ own (full_record P d seen.migration (at_stage (stage.ClaimLeadership seen) d, reply.Looked) own (h d.claim (stage.ClaimLeadership seen) tt)))
answer_leads P s running now d (stage.ClaimLeadership seen) h on own = claims P d seen (claim_ops seen d now) (multi s.tree (claim_ops seen d now)) h own
answer_leads P s running now d (stage.ScanForMigration rows) h on own =
    let page = scan s.tree (last_path rows) MAX_SCAN_ROWS in
    stage_if P d.claim (nat_lt (length page) MAX_SCAN_ROWS) (stage.BeginMigration (rows ++ page)) (stage.ScanForMigration (rows ++ page)) (h d.claim (stage.BeginMigration (rows ++ page)) tt) (h d.claim (stage.ScanForMigration (rows ++ page)) tt)
answer_leads P s running now d (stage.BeginMigration rows) h on own = translated P s now d (translate rows) h on own
answer_leads P s running now d (stage.AppendRecords records) h on own = appended P d (after_records records) (append s.log (epoch_or_zero d.epoch) now (next_records records)) h (filled P d.claim records h on) own
answer_leads P s running now d stage.ReadLogForResync h on own =
    let e : Driver = driver_at_log_end s.log d in
    finalised P e (at_stage (stage.ScanForResync (target_of e) []) e, reply.Looked) h (h d.claim (stage.ScanForResync (target_of e) []) tt)
answer_leads P s running now d (stage.ScanForResync target rows) h on own =
    let page = scan s.tree (last_path rows) MAX_SCAN_ROWS in
    let ops = diff (map rendered_row (rows ++ page)) (render d.view.image) in
    stage_if P d.claim (nat_lt (length page) MAX_SCAN_ROWS) (stage.WriteResync target ops) (stage.ScanForResync target (rows ++ page)) (on ops) (h d.claim (stage.ScanForResync target (rows ++ page)) tt)
answer_leads P s running now d (stage.WriteResync target ops) h on own =
    write_under P s.tree d d.claim (remaining_at s.tree s.log target.offset) target (λ rest. stage.WriteResync target rest) stage.KraftControllerToBrokerComm h on (h d.claim stage.KraftControllerToBrokerComm tt) own
answer_leads P s running now d stage.KraftControllerToBrokerComm h on own = h d.claim stage.DualWrite tt
answer_leads P s running now d stage.DualWrite h on own = rested P (driver_at_log_end s.log d) d.view.image h on own
answer_leads P s running now d (stage.WriteDelta target ops) h on own = write_under P s.tree d d.claim (remaining_at s.tree s.log target.offset) target (λ rest. stage.WriteDelta target rest) stage.DualWrite h on (h d.claim stage.DualWrite tt) own

unheard_leads : (P : ByStage) (r : Request) (d : Driver) → HoldsOfNothing P → At P d → At P (without_answer r d)
unheard_leads P nothing d h own = own
unheard_leads P read_log d h own = own
unheard_leads P list_brokers d h own = h d.claim stage.WaitForBrokers tt
unheard_leads P look_up d h own = h None stage.ReadControlZnodes tt
unheard_leads P (read_page after) d h own = h None stage.ReadControlZnodes tt
unheard_leads P (write ops) d h own = h None stage.ReadControlZnodes tt
unheard_leads P (add records) d h own = h None stage.Inactive tt

after_leads : (P : ByStage) (e : Hearing) (answer : Driver × Reply) (r : Request) (d : Driver) → HoldsOfNothing P → At P d → At P answer.0 → At P (driver_after e answer r d).0
after_leads P hears_answer answer r d h own on = on
after_leads P hears_nothing answer r d h own on = unheard_leads P r d h own
after_leads P hears_expiry answer r d h own on = unheard_leads P r d h own

-- What holds of a driver, and at each stage to which its step may lead, holds of it after the step.
pub step_leads : (P : ByStage) (p : Plan) (s : Shared) (running : List ℤ) (now : ℤ) (d : Driver) → HoldsOfNothing P → Leads P s d d.stage → At P d → At P (planned_step p s running now d).driver
unfolding planned_step
step_leads P p s running now d h on own =
    let r = request_at s now d d.stage in
    after_leads P (hearing p s (epoch_or_zero d.epoch) now r) (after_answer s running now d d.stage) r d h own (answer_leads P s running now d d.stage h on own)
