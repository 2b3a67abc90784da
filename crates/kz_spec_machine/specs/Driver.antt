-- A migration driver (KIP-866): its state, the one request of a step, and what follows its answer or its loss.
use Rattle.std.specs.Prelude.{ℕ, ◌+◌, ◌*◌, ◌/◌, Bool, true, false, not, ◌&&◌, ◌||◌, nat_lt, nat_le, ℤ, pos, negsuc, ◌+ℤ◌, int_lt, List, [], ◌∷◌, ◌++◌, length, map, take, drop, Option, Some, None, is_some, option_and_then, slice_get, Result, Ok, Err, if◌then◌else◌, codes}
use Rattle.std.specs.Ordering.{int_eq}
use Rattle.std.specs.Result.{result_unwrap_or}
use Rattle.std.specs.List.{filter, list_any, zip, filter_map}
use Rattle.kz_types.specs.declared.codes.TheConstants.{BAD_VERSION, MIGRATION, NO_NODE, POST_MIGRATION}
use Rattle.kz_types.specs.declared.limits.TheConstants.{MAX_APPEND_RECORDS, MAX_CHUNK, MAX_SCAN_ROWS, MAX_VERSION}
use Rattle.kz_types.specs.declared.tree.Row.{Row}
use Rattle.kz_types.specs.declared.tree.Op.{Op}
use Rattle.kz_types.specs.declared.tree.Op.TheVariants as op
use Rattle.kz_types.specs.declared.driver.ClaimSeen.{ClaimSeen}
use Rattle.kz_types.specs.declared.driver.Stage.{Stage}
use Rattle.kz_types.specs.declared.driver.Stage.TheVariants as stage
use Rattle.kz_types.specs.declared.machine.DriverState.{DriverState}
use Rattle.kz_types.specs.declared.machine.DriverState.TheVariants as state
use Rattle.kz_types.specs.declared.machine.Recorded.{Recorded}
use Rattle.kz_types.specs.declared.machine.Reply.{Reply}
use Rattle.kz_types.specs.declared.machine.Reply.TheVariants as reply
use Rattle.kz_types.specs.declared.fault.TreeFault.{TreeFault}
use Rattle.kz_types.specs.declared.fault.TreeFault.TheVariants as tree_fault
use Rattle.kz_types.specs.declared.fault.LogFault.{LogFault}
use Rattle.kz_types.specs.declared.fault.LogFault.TheVariants as log_fault
use Rattle.kz_types.specs.declared.fault.BodyFault.{BodyFault}
use Rattle.kz_types.specs.declared.fault.ReadWhy.TheVariants as why
use Rattle.kz_types.specs.declared.plan.Plan.{Plan}
use Rattle.kz_types.specs.declared.plan.Plan.TheVariants as plan
use Rattle.kz_types.specs.declared.record.MetaRecord.{MetaRecord}
use Rattle.kz_types.specs.declared.record.MetaRecord.TheVariants as meta
use Rattle.kz_types.specs.declared.record.RegisterBrokerRecord.{RegisterBrokerRecord}
use Rattle.kz_types.specs.Paths.{base_paths}
use Rattle.kz_spec_data.specs.Control.{control_path, epoch_path, migration_path, read_epoch, written_epoch, shown_epoch, written_control, written_recorded}
use Rattle.kz_spec_data.specs.Tree.{path_of_op, Tree, row_at, multi, scan, look, broker_ids, area, rendered_row}
use Rattle.kz_spec_data.specs.Image.{Image, is_migrated_state}
use Rattle.kz_spec_data.specs.Log.{Log, View, new_view, append, end_of, image_at, read_view}
use Rattle.kz_spec_data.specs.Rendering.{render}
use Rattle.kz_spec_data.specs.Translation.{Unreadable, translate}
use Rattle.kz_spec_data.specs.Difference.{diff, chunk, after_chunk}

-- ---- what there is

-- What all drivers share: the tree, the log, and the ids of the declared controllers.
pub record Shared : Type 0 where
  pub tree : Tree
  pub log : Log
  pub declared : List ℤ

-- One driver: its controller's id; its epoch, where it was elected and hasn't resigned; its claim, the data version of
-- `/controller_epoch` that it made; its state with its part; what it knows of the log; and the offset that it recorded
-- last.
pub record Driver : Type 0 where
  pub id : ℤ
  pub epoch : Option ℤ
  pub claim : Option ℤ
  pub stage : Stage
  pub view : View
  pub recorded : Option ℤ

abbrev pub new_driver : ℤ → Driver
new_driver id = record { id = id; epoch = None; claim = None; stage = stage.Uninitialized; view = new_view; recorded = None }

-- the state that a driver is in
abbrev pub state_of : Stage → DriverState
state_of stage.Uninitialized = state.Uninitialized
state_of stage.Inactive = state.Inactive
state_of stage.WaitForControllerQuorum = state.WaitForControllerQuorum
state_of stage.WaitForBrokers = state.WaitForBrokers
state_of stage.ListBrokers = state.WaitForBrokers
state_of stage.ReadControlZnodes = state.BecomeController
state_of (stage.ClaimLeadership seen) = state.BecomeController
state_of (stage.ScanForMigration rows) = state.ZkMigration
state_of (stage.BeginMigration rows) = state.ZkMigration
state_of (stage.AppendRecords records) = state.ZkMigration
state_of stage.ReadLogForResync = state.SyncKraftToZk
state_of (stage.ScanForResync target rows) = state.SyncKraftToZk
state_of (stage.WriteResync target ops) = state.SyncKraftToZk
state_of stage.KraftControllerToBrokerComm = state.KraftControllerToBrokerComm
state_of stage.DualWrite = state.DualWrite
state_of (stage.WriteDelta target ops) = state.DualWrite

-- the epoch of a driver, 0 where it has none
abbrev pub epoch_or_zero : Option ℤ → ℤ
epoch_or_zero None = pos 0
epoch_or_zero (Some e) = e

abbrev pub views_migrated : Driver → Bool
views_migrated d = is_migrated_state d.view.image.state

-- ---- where a driver goes

abbrev pub at_stage : Stage → Driver → Driver
at_stage s d = record d { stage = s }

-- it has no epoch and no claim, and does nothing until it is elected anew
abbrev pub resigned_driver : Driver → Driver
resigned_driver d = record d { epoch = None; claim = None; stage = stage.Inactive }

-- it looks at the tree anew, without a claim
abbrev pub begins_again : Driver → Driver
begins_again d = record d { claim = None; stage = stage.ReadControlZnodes }

-- a driver that is elected with an epoch
abbrev pub elected_driver : ℤ → Driver → Driver
elected_driver epoch d = record d { epoch = Some epoch; claim = None; stage = stage.WaitForControllerQuorum }

-- ---- the claim

-- what a look at the control and base znodes sees
abbrev pub seen_in : Tree → ClaimSeen
seen_in t = record {
  control = row_at control_path t.rows;
  epoch = row_at epoch_path t.rows;
  migration = row_at migration_path t.rows;
  bases = map is_some (look t base_paths);
}

-- the epoch that `/controller` shows
abbrev pub shown_by : Option Row → Option ℤ
shown_by row = option_and_then (λ (r : Row). shown_epoch r.body) row

abbrev pub unless_fenced : Option ℤ → Driver → Driver × Reply → Driver × Reply
unless_fenced None d rest = rest
unless_fenced (Some e) d rest = if int_lt (epoch_or_zero d.epoch) e then (resigned_driver d, reply.FencedEpoch e) else rest

abbrev pub unless_full_epoch : Result ℤ BodyFault → ℤ → Driver → Driver × Reply → Driver × Reply
unless_full_epoch (Err e) version d rest = (d, reply.Untranslatable epoch_path (why.Body e))
unless_full_epoch (Ok number) version d rest = if int_eq number MAX_VERSION || int_eq version MAX_VERSION then (d, reply.Limit epoch_path) else rest

abbrev pub unless_bad_epoch : Option Row → Driver → Driver × Reply → Driver × Reply
unless_bad_epoch None d rest = rest
unless_bad_epoch (Some r) d rest = unless_full_epoch (read_epoch r.body) r.version d rest

abbrev pub unless_full_record : Option Row → Driver → Driver × Reply → Driver × Reply
unless_full_record None d rest = rest
unless_full_record (Some r) d rest = if not (views_migrated d) && int_eq r.version MAX_VERSION then (d, reply.Limit migration_path) else rest

-- the driver after its look: another controller of a higher epoch fences it off; a number of `/controller_epoch` that can't
-- be read or can't rise, or a znode that it couldn't set, stops it
abbrev pub after_look : ClaimSeen → Driver → Driver × Reply
after_look seen d =
    unless_fenced (shown_by seen.control) d (
    unless_bad_epoch seen.epoch d (
    unless_full_record seen.migration d (at_stage (stage.ClaimLeadership seen) d, reply.Looked)))

abbrev pub epoch_number : Row → ℤ
epoch_number r = result_unwrap_or (read_epoch r.body) (pos 0)

-- the number that a claim writes to `/controller_epoch`, and the data version that this gives
abbrev pub claimed_number : Option Row → ℤ
claimed_number None = pos 1
claimed_number (Some r) = epoch_number r +ℤ pos 1

abbrev pub claimed_version : Option Row → ℤ
claimed_version None = pos 0
claimed_version (Some r) = r.version +ℤ pos 1

abbrev pub epoch_op : Option Row → Op
epoch_op None = op.Create epoch_path (written_epoch (pos 1)) None
epoch_op (Some r) = op.Set epoch_path (written_epoch (epoch_number r +ℤ pos 1)) r.version

abbrev pub control_ops : Option Row → List ℕ → List Op
control_ops None body = op.Create control_path body None ∷ []
control_ops (Some r) body = op.Delete control_path r.version ∷ op.Create control_path body None ∷ []

-- before the first offset
abbrev pub record_before_offsets : Driver → Recorded
record_before_offsets d = record { id = d.id; controller_epoch = epoch_or_zero d.epoch; offset = negsuc 0; epoch = negsuc 0 }

abbrev pub migration_ops : Bool → Option Row → List ℕ → List Op
migration_ops true row body = []
migration_ops false None body = op.Create migration_path body None ∷ []
migration_ops false (Some r) body = op.Set migration_path body (negsuc 0) ∷ []

abbrev pub base_op : Bool → List ℕ → List Op
base_op true path = []
base_op false path = op.Create path [] None ∷ []

-- the base znodes that are missing
abbrev pub base_ops : List Bool → List (List ℕ) → List Op
base_ops [] paths = []
base_ops (b ∷ bs) [] = []
base_ops (b ∷ bs) (p ∷ ps) = base_op b p ++ base_ops bs ps

-- The multi of a claim: the number of `/controller_epoch` rises, at the version that was seen; `/controller` is this
-- controller's; nothing is recorded yet, where the driver knows of no migration; and the base znodes stand.
abbrev pub claim_ops : ClaimSeen → Driver → ℤ → List Op
claim_ops seen d now =
    epoch_op seen.epoch
    ∷ (control_ops seen.control (written_control d.id (epoch_or_zero d.epoch) now)
    ++ (migration_ops (views_migrated d) seen.migration (written_recorded (record_before_offsets d))
    ++ base_ops seen.bases base_paths))

-- ---- the write

-- what remains to be written of the metadata at an offset
abbrev pub remaining_at : Tree → Log → ℤ → List Op
remaining_at t l offset = diff (area t) (render (image_at l offset))

abbrev pub is_last_write : List Op → Bool
is_last_write ops = nat_le (length ops) (length (chunk ops))

abbrev pub record_ops : Bool → Recorded → List Op
record_ops true target = op.Set migration_path (written_recorded target) (negsuc 0) ∷ []
record_ops false target = []

-- The multi of a write: the claim still stands; the next operations; and with the last of them the offset is recorded.
abbrev pub write_ops : ℤ → List Op → Recorded → List Op
write_ops claim ops target = op.Check epoch_path claim ∷ (chunk ops ++ record_ops (is_last_write ops) target)

-- what will be recorded after a read of the log: its end, and the epoch of the last batch that was read, or the driver's
-- own where none was
abbrev pub target_of : Driver → Recorded
target_of d = record {
  id = d.id;
  controller_epoch = epoch_or_zero d.epoch;
  offset = d.view.position;
  epoch = if int_eq d.view.epoch (pos 0) then epoch_or_zero d.epoch else d.view.epoch;
}

-- ---- the one request of a step

pub data Request : Type 0 where
  nothing : Request
  read_log : Request
  list_brokers : Request
  look_up : Request  -- the control and base znodes
  read_page : Option (List ℕ) → Request  -- the znodes of the migrated area after a path
  write : List Op → Request
  add : List MetaRecord → Request

-- the last path of these znodes
abbrev pub last_path : List Row → Option (List ℕ)
last_path [] = None
last_path (r ∷ []) = Some r.path
last_path (r ∷ s ∷ rs) = last_path (s ∷ rs)

-- the name of the migration's transaction
abbrev pub begin_record : MetaRecord
begin_record = meta.BeginTransaction (Some (codes "ZK Migration"))

-- the records that commit the migration
abbrev pub commit_records : List MetaRecord
commit_records = meta.ZkMigrationState MIGRATION ∷ meta.EndTransaction ∷ []

abbrev pub begin_request : Result (List MetaRecord) Unreadable → Request
begin_request (Ok records) = add (begin_record ∷ [])
begin_request (Err e) = nothing

-- the records of the next batch of the migration
abbrev pub next_records : List MetaRecord → List MetaRecord
next_records [] = commit_records
next_records (r ∷ rs) = take MAX_APPEND_RECORDS (r ∷ rs)

abbrev pub write_request : Option ℤ → List Op → Recorded → Request
write_request None ops target = nothing
write_request (Some claim) ops target = write (write_ops claim ops target)

-- what a driver asks for, by its stage
abbrev pub request_at : Shared → ℤ → Driver → Stage → Request
request_at s now d stage.Uninitialized = nothing
request_at s now d stage.Inactive = nothing
request_at s now d stage.WaitForControllerQuorum = read_log
request_at s now d stage.WaitForBrokers = read_log
request_at s now d stage.ListBrokers = list_brokers
request_at s now d stage.ReadControlZnodes = look_up
request_at s now d (stage.ClaimLeadership seen) = write (claim_ops seen d now)
request_at s now d (stage.ScanForMigration rows) = read_page (last_path rows)
request_at s now d (stage.BeginMigration rows) = begin_request (translate rows)
request_at s now d (stage.AppendRecords records) = add (next_records records)
request_at s now d stage.ReadLogForResync = read_log
request_at s now d (stage.ScanForResync target rows) = read_page (last_path rows)
request_at s now d (stage.WriteResync target ops) = write_request d.claim (remaining_at s.tree s.log target.offset) target
request_at s now d stage.KraftControllerToBrokerComm = nothing
request_at s now d stage.DualWrite = read_log
request_at s now d (stage.WriteDelta target ops) = write_request d.claim (remaining_at s.tree s.log target.offset) target

-- ---- what a request makes of the tree and the log

abbrev pub with_tree : Shared → Result Tree TreeFault → Shared
with_tree s (Ok t) = record s { tree = t }
with_tree s (Err e) = s

abbrev pub with_log : Shared → Result Log LogFault → Shared
with_log s (Ok l) = record s { log = l }
with_log s (Err e) = s

-- what is shared after a request of a driver of this epoch
abbrev pub shared_after : Shared → ℤ → ℤ → Request → Shared
shared_after s epoch now nothing = s
shared_after s epoch now read_log = s
shared_after s epoch now list_brokers = s
shared_after s epoch now look_up = s
shared_after s epoch now (read_page after) = s
shared_after s epoch now (write ops) = with_tree s (multi s.tree ops)
shared_after s epoch now (add records) = with_log s (append s.log epoch now records)

-- ---- the driver that gets its answer

-- the less of a number and another, where there is one
abbrev pub less_of : ℤ → Option ℤ → Option ℤ
less_of i None = Some i
less_of i (Some j) = if int_lt j i then Some j else Some i

-- the least of these numbers
abbrev pub least : List ℤ → Option ℤ
least [] = None
least (i ∷ is) = less_of i (least is)

abbrev pub is_one_of : List ℤ → ℤ → Bool
is_one_of ids id = list_any (λ i. int_eq i id) ids

-- the least declared controller that doesn't run
abbrev pub missing_controller : List ℤ → List ℤ → Option ℤ
missing_controller declared running = least (filter (λ i. not (is_one_of running i)) declared)

-- whether a broker is registered as ready to migrate
abbrev pub is_migrating : Image → ℤ → Bool
is_migrating i id = list_any (λ (b : RegisterBrokerRecord). int_eq b.broker_id id && b.migrating) i.brokers

-- the least of these brokers that isn't registered as ready to migrate
abbrev pub missing_broker : List ℤ → Image → Option ℤ
missing_broker ids i = least (filter (λ id. not (is_migrating i id)) ids)

-- the driver that has read the log to its end
abbrev pub driver_at_log_end : Log → Driver → Driver
driver_at_log_end l d = record d { view = read_view l d.view }

-- a driver that sees that the migration is over resigns
abbrev pub unless_finalised : Driver → Driver × Reply → Driver × Reply
unless_finalised d rest = if int_eq d.view.image.state POST_MIGRATION then (resigned_driver d, reply.Moved state.Inactive) else rest

abbrev pub wait_or_move : Option ℤ → Driver → Driver × Reply
wait_or_move (Some id) d = (d, reply.WaitQuorum id)
wait_or_move None d = (at_stage stage.WaitForBrokers d, reply.Moved state.WaitForBrokers)

abbrev pub after_quorum : List ℤ → List ℤ → Driver → Driver × Reply
after_quorum declared running d = unless_finalised d (
    if int_eq d.view.image.state MIGRATION then (at_stage stage.ReadControlZnodes d, reply.Moved state.BecomeController)
    else wait_or_move (missing_controller declared running) d)

abbrev pub after_brokers : Option ℤ → Driver → Driver × Reply
after_brokers (Some id) d = (at_stage stage.WaitForBrokers d, reply.WaitBroker id)
after_brokers None d = (at_stage stage.ReadControlZnodes d, reply.Moved state.BecomeController)

abbrev pub path_or_empty : Option Op → List ℕ
path_or_empty None = []
path_or_empty (Some o) = path_of_op o

-- the path of the operation at an index
abbrev pub path_at : List Op → ℕ → List ℕ
path_at ops index = path_or_empty (slice_get ops index)

abbrev pub after_claim : ClaimSeen → Driver → List Op → Result Tree TreeFault → Driver × Reply
after_claim seen d ops (Ok t) = (record d { claim = Some (claimed_version seen.epoch); stage = if views_migrated d then stage.ReadLogForResync else stage.ScanForMigration [] }, reply.Claimed (claimed_number seen.epoch))
after_claim seen d ops (Err (tree_fault.Refused index code)) = (begins_again d, reply.Moved state.BecomeController)
after_claim seen d ops (Err (tree_fault.Limit index number)) = (d, reply.Limit (path_at ops index))
after_claim seen d ops (Err f) = (d, reply.TreeFailed f)

abbrev pub after_page : List Row → List Row → (List Row → Stage) → (List Row → Stage) → Driver → Driver × Reply
after_page rows page more last d = (at_stage (if nat_lt (length page) MAX_SCAN_ROWS then last (rows ++ page) else more (rows ++ page)) d, reply.Read (length page))

-- a driver that appends, and goes to a stage where its records are in the log
abbrev pub after_append : Stage → Driver → Result Log LogFault → Driver × Reply
after_append next d (Ok l) = (at_stage next d, reply.Appended (end_of l))
after_append next d (Err (log_fault.Stale epoch)) = (resigned_driver d, reply.Stale epoch)
after_append next d (Err f) = (d, reply.LogFailed f)

abbrev pub after_translation : Shared → ℤ → Driver → Result (List MetaRecord) Unreadable → Driver × Reply
after_translation s now d (Err e) = (at_stage (stage.ScanForMigration []) d, reply.Untranslatable e.path e.why)
after_translation s now d (Ok records) = after_append (stage.AppendRecords records) d (append s.log (epoch_or_zero d.epoch) now (begin_record ∷ []))

abbrev pub after_records : List MetaRecord → Stage
after_records [] = stage.ReadLogForResync
after_records (r ∷ rs) = stage.AppendRecords (drop MAX_APPEND_RECORDS (r ∷ rs))

-- the stage after a write: the last one records the offset
abbrev pub written_driver : List Op → Recorded → (List Op → Stage) → Stage → Driver → Driver × Reply
written_driver ops target more last d =
    if is_last_write ops then (record d { stage = last; recorded = Some target.offset }, reply.Recorded target.offset)
    else (at_stage (more (after_chunk ops)) d, reply.Wrote (length (chunk ops)))

-- the check of the claim fails: `/controller_epoch` has another version, or isn't there
abbrev pub is_claim_refused : ℕ → ℤ → Bool
is_claim_refused index code = nat_lt index 1 && (int_eq code BAD_VERSION || int_eq code NO_NODE)

abbrev pub after_write : ℤ → List Op → Recorded → (List Op → Stage) → Stage → Driver → Result Tree TreeFault → Driver × Reply
after_write claim ops target more last d (Ok t) = written_driver ops target more last d
after_write claim ops target more last d (Err (tree_fault.Refused index code)) =
    if is_claim_refused index code then (resigned_driver d, reply.FencedWrite claim) else (begins_again d, reply.Moved state.BecomeController)
after_write claim ops target more last d (Err (tree_fault.Limit index number)) = (d, reply.Limit (path_at (write_ops claim ops target) index))
after_write claim ops target more last d (Err f) = (d, reply.TreeFailed f)

-- a driver that writes under its claim
abbrev pub writes : Tree → Option ℤ → List Op → Recorded → (List Op → Stage) → Stage → Driver → Driver × Reply
writes t None ops target more last d = (begins_again d, reply.Moved state.BecomeController)
writes t (Some claim) ops target more last d = after_write claim ops target more last d (multi t (write_ops claim ops target))

-- the driver that has read the log before it reads the migrated area
abbrev pub after_log : Driver → Driver × Reply
after_log d = unless_finalised d (at_stage (stage.ScanForResync (target_of d) []) d, reply.Looked)

abbrev pub is_recorded_at : Option ℤ → ℤ → Bool
is_recorded_at None offset = false
is_recorded_at (Some o) offset = int_eq o offset

-- the driver that has read the log in dual write: at rest where nothing is new
abbrev pub after_rest : Image → Driver → Driver × Reply
after_rest before d = unless_finalised d (
    if is_recorded_at d.recorded d.view.position then (d, reply.Idle)
    else (at_stage (stage.WriteDelta (target_of d) (diff (render before) (render d.view.image))) d, reply.Looked))

-- The driver after the answer to its request, and what it replies, by its stage.
abbrev pub after_answer : Shared → List ℤ → ℤ → Driver → Stage → Driver × Reply
after_answer s running now d stage.Uninitialized = (at_stage stage.Inactive d, reply.Moved state.Inactive)
after_answer s running now d stage.Inactive = (d, reply.Idle)
after_answer s running now d stage.WaitForControllerQuorum = after_quorum s.declared running (driver_at_log_end s.log d)
after_answer s running now d stage.WaitForBrokers = unless_finalised (driver_at_log_end s.log d) (at_stage stage.ListBrokers (driver_at_log_end s.log d), reply.Looked)
after_answer s running now d stage.ListBrokers = after_brokers (missing_broker (broker_ids s.tree) d.view.image) d
after_answer s running now d stage.ReadControlZnodes = after_look (seen_in s.tree) d
after_answer s running now d (stage.ClaimLeadership seen) = after_claim seen d (claim_ops seen d now) (multi s.tree (claim_ops seen d now))
after_answer s running now d (stage.ScanForMigration rows) = after_page rows (scan s.tree (last_path rows) MAX_SCAN_ROWS) (λ all. stage.ScanForMigration all) (λ all. stage.BeginMigration all) d
after_answer s running now d (stage.BeginMigration rows) = after_translation s now d (translate rows)
after_answer s running now d (stage.AppendRecords records) = after_append (after_records records) d (append s.log (epoch_or_zero d.epoch) now (next_records records))
after_answer s running now d stage.ReadLogForResync = after_log (driver_at_log_end s.log d)
after_answer s running now d (stage.ScanForResync target rows) = after_page rows (scan s.tree (last_path rows) MAX_SCAN_ROWS) (λ all. stage.ScanForResync target all) (λ all. stage.WriteResync target (diff (map rendered_row all) (render d.view.image))) d
after_answer s running now d (stage.WriteResync target ops) = writes s.tree d.claim (remaining_at s.tree s.log target.offset) target (λ rest. stage.WriteResync target rest) stage.KraftControllerToBrokerComm d
after_answer s running now d stage.KraftControllerToBrokerComm = (at_stage stage.DualWrite d, reply.Moved state.DualWrite)
after_answer s running now d stage.DualWrite = after_rest d.view.image (driver_at_log_end s.log d)
after_answer s running now d (stage.WriteDelta target ops) = writes s.tree d.claim (remaining_at s.tree s.log target.offset) target (λ rest. stage.WriteDelta target rest) stage.DualWrite d

-- ---- the driver that gets no answer

-- The driver that gets no answer: its request or the answer was lost, or its session had expired. It can't rely on whether
-- the tree or the log took it.
abbrev pub without_answer : Request → Driver → Driver
without_answer nothing d = d
without_answer read_log d = d
without_answer list_brokers d = at_stage stage.WaitForBrokers d
without_answer look_up d = begins_again d
without_answer (read_page after) d = begins_again d
without_answer (write ops) d = begins_again d
without_answer (add records) d = resigned_driver d

-- ---- how a request fares

-- What a driver hears of its request.
pub data Hearing : Type 0 where
  hears_answer : Hearing  -- the store's answer, or that no request was made
  hears_nothing : Hearing  -- the request or its answer was lost
  hears_expiry : Hearing  -- its session had expired

-- whether a request is one of the log, which knows no sessions
abbrev pub is_of_log : Request → Bool
is_of_log read_log = true
is_of_log (add records) = true
is_of_log request = false

-- whether a request of the log, or of the tree, reaches its store
abbrev pub reaches : Plan → Bool → Bool
reaches plan.Deliver of_log = true
reaches plan.LostBefore of_log = false
reaches plan.LostAfter of_log = true
reaches plan.Expired of_log = of_log

abbrev pub reaches_store : Plan → Request → Bool
reaches_store p request = reaches p (is_of_log request)

abbrev pub is_limit : {A : Type 0} → Result A LogFault → Bool
is_limit (Err (log_fault.Limit number)) = true
is_limit result = false

-- A log that can't take an append for a limit says so, even where the answer is to be lost.
abbrev pub tells_limit : Shared → ℤ → ℤ → Request → Bool
tells_limit s epoch now (add records) = is_limit (append s.log epoch now records)
tells_limit s epoch now request = false

-- what a driver hears of a request that is made
abbrev pub hearing_of_request : Plan → Bool → Bool → Hearing
hearing_of_request plan.Deliver of_log limit = hears_answer
hearing_of_request plan.LostBefore of_log limit = hears_nothing
hearing_of_request plan.LostAfter of_log limit = if limit then hears_answer else hears_nothing
hearing_of_request plan.Expired of_log limit = if of_log then hears_answer else hears_expiry

-- A step that makes no request can lose none.
abbrev pub hearing : Plan → Shared → ℤ → ℤ → Request → Hearing
hearing p s epoch now nothing = hears_answer
hearing p s epoch now request = hearing_of_request p (is_of_log request) (tells_limit s epoch now request)

-- ---- one step

-- What is shared, the driver, and its reply.
pub record StepResult : Type 0 where
  pub shared : Shared
  pub driver : Driver
  pub reply : Reply

-- the driver after its request, and what it replies, by what it hears
abbrev pub driver_after : Hearing → Driver × Reply → Request → Driver → Driver × Reply
driver_after hears_answer answer request d = answer
driver_after hears_nothing answer request d = (without_answer request d, reply.Lost)
driver_after hears_expiry answer request d = (without_answer request d, reply.Expired)

-- a step whose request is this one
abbrev pub step_of_request : Plan → Shared → List ℤ → ℤ → Driver → Request → StepResult
step_of_request p s running now d request = record {
  shared = if reaches_store p request then shared_after s (epoch_or_zero d.epoch) now request else s;
  driver = (driver_after (hearing p s (epoch_or_zero d.epoch) now request) (after_answer s running now d d.stage) request d).0;
  reply = (driver_after (hearing p s (epoch_or_zero d.epoch) now request) (after_answer s running now d d.stage) request d).1;
}

-- One step: at most one request, which fares by the plan, and what the driver makes of what it hears.
unfoldable pub planned_step : Plan → Shared → List ℤ → ℤ → Driver → StepResult
planned_step p s running now d = step_of_request p s running now d (request_at s now d d.stage)

-- A step whose request is delivered.
unfoldable pub step : Shared → List ℤ → ℤ → Driver → StepResult
step s running now d = planned_step plan.Deliver s running now d
