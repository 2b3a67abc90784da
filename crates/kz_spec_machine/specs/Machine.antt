-- The machine: worlds, events, and what each event makes of a world.
use Rattle.std.specs.Prelude.{ℕ, zero, suc, ◌+◌, ◌*◌, ◌/◌, Bool, true, false, not, ◌&&◌, ◌||◌, nat_lt, nat_le, ℤ, pos, negsuc, ◌+ℤ◌, int_le, int_lt, List, [], ◌∷◌, ◌++◌, length, map, sum, Option, Some, None, is_some, option_map, Result, Ok, Err, if◌then◌else◌}
use Rattle.std.specs.Str.{bytes_eq}
use Rattle.std.specs.Ordering.{int_eq}
use Rattle.std.specs.List.{filter, find, list_any}
use Rattle.kz_types.specs.declared.codes.TheConstants.{NO_MIGRATION, POST_MIGRATION, PRE_MIGRATION}
use Rattle.kz_types.specs.declared.limits.Limit.TheVariants as limits
use Rattle.kz_types.specs.Limits.{number_of_limit}
use Rattle.kz_types.specs.declared.limits.TheConstants.{MAX_APPEND_RECORDS, MAX_CHANGE_RECORDS, MAX_CHUNK, MAX_CHUNK_BYTES, MAX_CONTROLLERS, MAX_EPOCH, MAX_SCAN_ROWS, OP_BYTES}
use Rattle.kz_types.specs.declared.tree.Op.{Op}
use Rattle.kz_types.specs.declared.tree.Op.TheVariants as op
use Rattle.kz_types.specs.declared.tree.Rendered.{Rendered}
use Rattle.kz_types.specs.declared.fault.TreeFault.{TreeFault}
use Rattle.kz_types.specs.declared.fault.TreeFault.TheVariants as tree_fault
use Rattle.kz_types.specs.declared.move_fault.MoveFault.{MoveFault}
use Rattle.kz_types.specs.declared.move_fault.MoveFault.TheVariants as move_fault
use Rattle.kz_types.specs.Ids.{zero_id}
use Rattle.kz_types.specs.Paths.{base_paths, control_paths, is_among, is_below, is_migrated}
use Rattle.kz_spec_data.specs.Control.{control_path, epoch_path, migration_path, shown_epoch}
use Rattle.kz_types.specs.declared.driver.Stage.{Stage}
use Rattle.kz_types.specs.declared.driver.Stage.TheVariants as stage
use Rattle.kz_types.specs.declared.machine.DriverState.{DriverState}
use Rattle.kz_types.specs.declared.machine.DriverState.TheVariants as state
use Rattle.kz_types.specs.declared.machine.Recorded.{Recorded}
use Rattle.kz_types.specs.declared.machine.Reply.{Reply}
use Rattle.kz_types.specs.declared.machine.Reply.TheVariants as reply
use Rattle.kz_types.specs.declared.machine.Event.{Event}
use Rattle.kz_types.specs.declared.machine.Event.TheVariants as event
use Rattle.kz_types.specs.declared.machine.Answer.{Answer}
use Rattle.kz_types.specs.declared.machine.Answer.TheVariants as answer
use Rattle.kz_types.specs.declared.plan.Plan.{Plan}
use Rattle.kz_types.specs.declared.plan.Plan.TheVariants as plan
use Rattle.kz_types.specs.declared.record.MetaRecord.{MetaRecord}
use Rattle.kz_types.specs.declared.record.MetaRecord.TheVariants as meta
use Rattle.kz_spec_data.specs.Tree.{path_of_op, Tree, empty_tree, row_at, multi, begin_session, end_session, area, migrated_rows, migration_record, unclosed_path}
use Rattle.kz_spec_data.specs.Image.{empty_image, all_applied, is_migrated_state, Bad, first_bad, rule_number}
use Rattle.kz_spec_data.specs.Log.{Log, empty_log, end_of, begun_of, image_at, image_of, is_migrated_log, is_open_log, batch_ends, may_be_base, reset, snapshot, with_batch, with_next_epoch, full_log}
use Rattle.kz_spec_data.specs.Rendering.{Excess, render, excess}
use Rattle.kz_spec_data.specs.Translation.{Unreadable, translate}
use Rattle.kz_spec_data.specs.Difference.{op_size}
use Rattle.kz_spec_machine.specs.Driver.{Shared, Driver, new_driver, elected_driver, epoch_or_zero, is_one_of, least, shown_by, state_of, Request, nothing, request_at, StepResult, planned_step, step}
use Rattle.kz_spec_machine.specs.Verdicts.{verdict}

-- ---- worlds

pub record World : Type 0 where
  pub shared : Shared
  pub drivers : List Driver

abbrev pub empty_world : World
empty_world = record { shared = record { tree = empty_tree; log = empty_log; declared = [] }; drivers = [] }

-- the ids of the controllers that run
abbrev pub running_ids : List Driver → List ℤ
running_ids drivers = map (λ (d : Driver). d.id) drivers

abbrev pub is_running : ℤ → List Driver → Bool
is_running id drivers = is_one_of (running_ids drivers) id

-- the driver of a controller
abbrev pub driver_of : ℤ → List Driver → Option Driver
driver_of id drivers = find (λ (d : Driver). int_eq d.id id) drivers

-- the drivers with this one in place of that of its controller
abbrev pub with_driver : Driver → List Driver → List Driver
with_driver d drivers = map (λ (e : Driver). if int_eq e.id d.id then d else e) drivers

-- ---- what a stop may leave

-- A tree and a log at one moment.
pub record Pair : Type 0 where
  pub tree : Tree
  pub log : Log

abbrev pub pair_of : Shared → Pair
pair_of s = record { tree = s.tree; log = s.log }

abbrev pub pairs_after : Request → Shared → List Pair
pairs_after nothing s = []
pairs_after request s = pair_of s ∷ []

-- the tree and the log after the request of a step, where it makes one
abbrev pub step_pairs : Plan → Shared → List ℤ → ℤ → Driver → List Pair
step_pairs p s running now d = pairs_after (request_at s now d d.stage) (planned_step p s running now d).shared

-- ---- a turn

-- whether a turn ends with this reply
abbrev pub ends : Reply → Bool
ends reply.Idle = true
ends (reply.WaitQuorum id) = true
ends (reply.WaitBroker id) = true
ends (reply.Moved s) = false
ends reply.Looked = false
ends (reply.Claimed number) = false
ends (reply.Read rows) = false
ends (reply.Appended offset) = false
ends (reply.Wrote ops) = false
ends (reply.Recorded offset) = false
ends (reply.FencedEpoch epoch) = true
ends (reply.FencedWrite claim) = true
ends (reply.Stale epoch) = true
ends (reply.Untranslatable path why) = true
ends (reply.Limit path) = true
ends reply.Lost = false
ends reply.Expired = false
ends (reply.TreeFailed fault) = true
ends (reply.LogFailed fault) = true
ends reply.NoMemory = true

-- What is shared, the driver, and the replies of its steps.
pub record TurnResult : Type 0 where
  pub shared : Shared
  pub driver : Driver
  pub replies : List Reply

abbrev pub with_reply : Reply → TurnResult → TurnResult
with_reply r t = record t { replies = r ∷ t.replies }

-- At most so many steps, up to and with the first whose reply ends the turn.
unfoldable pub turn : ℕ → Shared → List ℤ → ℤ → Driver → TurnResult
turn zero s running now d = record { shared = s; driver = d; replies = [] }
turn (suc n) s running now d =
    if ends (step s running now d).reply
    then record { shared = (step s running now d).shared; driver = (step s running now d).driver; replies = (step s running now d).reply ∷ [] }
    else with_reply (step s running now d).reply (turn n (step s running now d).shared running now (step s running now d).driver)

-- the tree and the log after each request of a turn
unfoldable pub turn_pairs : ℕ → Shared → List ℤ → ℤ → Driver → List Pair
turn_pairs zero s running now d = []
turn_pairs (suc n) s running now d = step_pairs plan.Deliver s running now d
    ++ (if ends (step s running now d).reply then [] else turn_pairs n (step s running now d).shared running now (step s running now d).driver)

-- ---- how many steps a turn may have

-- How many znodes or operations there are, and their bytes as operations of a write.
pub record Amount : Type 0 where
  pub count : ℕ
  pub bytes : ℕ

-- the size of the operation that creates a znode
abbrev pub znode_size : Rendered → ℕ
znode_size z = OP_BYTES + length z.path + length z.body

abbrev pub amount_of_znodes : List Rendered → Amount
amount_of_znodes znodes = record { count = length znodes; bytes = sum (map znode_size znodes) }

abbrev pub amount_of_ops : List Op → Amount
amount_of_ops ops = record { count = length ops; bytes = sum (map op_size ops) }

abbrev pub no_amount : Amount
no_amount = record { count = 0; bytes = 0 }

abbrev pub translated_count : Result (List MetaRecord) Unreadable → ℕ
translated_count (Ok records) = length records
translated_count (Err e) = 0

-- the znodes that a turn ends with: of the log's end, or, before the migration, of what the tree translates to, if it does
abbrev pub final_znodes : Bool → Log → ℤ → Result (List MetaRecord) Unreadable → List Rendered
final_znodes true l epoch translation = render (image_of l)
final_znodes false l epoch (Ok records) = render (all_applied epoch records empty_image)
final_znodes false l epoch (Err e) = render (image_of l)

abbrev pub amount_at : Log → Recorded → Amount
amount_at l target = if is_one_of (batch_ends l) target.offset then amount_of_znodes (render (image_at l target.offset)) else no_amount

-- what may remain to be written
abbrev pub remaining_amount : Log → Stage → Amount
remaining_amount l (stage.ScanForResync target rows) = amount_at l target
remaining_amount l (stage.WriteResync target []) = amount_at l target
remaining_amount l (stage.WriteResync target (o ∷ os)) = amount_of_ops (o ∷ os)
remaining_amount l (stage.WriteDelta target ops) = amount_of_ops ops
remaining_amount l s = no_amount

abbrev pub most_steps : Amount → ℕ → Amount → Amount → ℕ
most_steps znodes records rendered remaining =
    20 + 2 * (znodes.count / MAX_SCAN_ROWS) + records / MAX_APPEND_RECORDS
    + (znodes.count + rendered.count + 2 * remaining.count) / MAX_CHUNK
    + (2 * (znodes.bytes + rendered.bytes + 2 * remaining.bytes)) / MAX_CHUNK_BYTES

-- the most steps of a turn
abbrev pub work : Shared → Driver → ℕ
work s d = most_steps
    (amount_of_znodes (area s.tree))
    (if is_migrated_log s.log then 0 else translated_count (translate (migrated_rows s.tree)))
    (amount_of_znodes (final_znodes (is_migrated_log s.log) s.log (epoch_or_zero d.epoch) (translate (migrated_rows s.tree))))
    (remaining_amount s.log d.stage)

-- ---- events

-- a refusal leaves the world as it was
abbrev pub outcome_unless : World → Option Answer → World → Answer → World × Answer
outcome_unless w (Some refusal) new reply = (w, refusal)
outcome_unless w None new reply = (new, reply)

abbrev pub first_of : Option Answer → Option Answer → Option Answer
first_of (Some a) rest = Some a
first_of None rest = rest

abbrev pub unless : Bool → Answer → Option Answer
unless true a = None
unless false a = Some a

abbrev pub over : ℕ → Answer
over number = answer.Over number

-- why a log can't take these records
abbrev pub full : Log → List MetaRecord → Option Answer
full l items = option_map over (full_log l items)

-- why an event of a controller is refused that has to be declared and to run
abbrev pub running_refusal : World → ℤ → Option Answer
running_refusal w id = first_of (unless (is_one_of w.shared.declared id) answer.UnknownController) (unless (is_running id w.drivers) answer.NotRunning)

abbrev pub epoch_refusal : ℤ → Option ℤ → Option Answer
epoch_refusal epoch None = Some answer.NotLeader
epoch_refusal epoch (Some e) = unless (int_eq e epoch) (answer.Stale epoch)

abbrev pub driver_refusal : ℤ → Option Driver → Option Answer
driver_refusal epoch None = Some answer.NotLeader
driver_refusal epoch (Some d) = epoch_refusal epoch d.epoch

-- and that has to lead the log, too
abbrev pub leader_refusal : World → ℤ → Option Answer
leader_refusal w id = first_of (running_refusal w id) (driver_refusal w.shared.log.epoch (driver_of id w.drivers))

-- ---- quorum

-- why no quorum is declared: a controller runs, or these are too many
abbrev pub quorum_refusal : World → List ℤ → Option Answer
quorum_refusal w ids = first_of (option_map (λ id. answer.Running id) (least (running_ids w.drivers))) (unless (nat_le (length ids) MAX_CONTROLLERS) (over (number_of_limit limits.Controllers)))

abbrev pub declared_world : World → List ℤ → World
declared_world w ids = record { shared = record w.shared { declared = ids }; drivers = w.drivers }

-- ---- start

abbrev pub start_refusal : World → ℤ → Option Answer
start_refusal w id = first_of (unless (is_one_of w.shared.declared id) answer.UnknownController) (unless (not (is_running id w.drivers)) answer.AlreadyRunning)

abbrev pub started_world : World → ℤ → World
started_world w id = record { shared = w.shared; drivers = w.drivers ++ new_driver id ∷ [] }

-- ---- stop

abbrev pub stop_refusal : World → Option ℤ → Option Answer
stop_refusal w None = None
stop_refusal w (Some id) = running_refusal w id

-- the drivers without that of this controller, or none
abbrev pub drivers_without : Option ℤ → List Driver → List Driver
drivers_without None drivers = []
drivers_without (Some id) drivers = filter (λ (d : Driver). not (int_eq d.id id)) drivers

abbrev pub stopped_world : World → Option ℤ → World
stopped_world w controller = record { shared = w.shared; drivers = drivers_without controller w.drivers }

-- ---- elect

-- what an election writes: a record of nothing; the end of a transaction that is open; and the first state of the migration,
-- where it has none
abbrev pub election_records : Log → List MetaRecord
election_records l = meta.NoOp
    ∷ ((if is_open_log l then meta.AbortTransaction None ∷ [] else [])
    ++ (if int_eq (image_of l).state NO_MIGRATION then meta.ZkMigrationState PRE_MIGRATION ∷ [] else []))

abbrev pub next_epoch : Log → ℤ
next_epoch l = l.epoch +ℤ pos 1

abbrev pub elected_log : Log → ℤ → Log
elected_log l now = with_batch (with_next_epoch l) (next_epoch l) now (election_records l)

abbrev pub election_refusal : World → ℤ → Option Answer
election_refusal w id = first_of (running_refusal w id) (first_of (unless (int_lt w.shared.log.epoch MAX_EPOCH) (over (number_of_limit limits.Epoch))) (full w.shared.log (election_records w.shared.log)))

abbrev pub elected_world : World → ℤ → ℤ → World
elected_world w id now = record {
  shared = record w.shared { log = elected_log w.shared.log now };
  drivers = map (λ (d : Driver). if int_eq d.id id then elected_driver (next_epoch w.shared.log) d else d) w.drivers;
}

abbrev pub election_answer : World → ℤ → Answer
election_answer w now = answer.Elected (next_epoch w.shared.log) (end_of (elected_log w.shared.log now))

-- ---- step

-- the world after a step of one driver, and its reply
abbrev pub stepped_world : World → StepResult → World × Answer
stepped_world w s = (record { shared = s.shared; drivers = with_driver s.driver w.drivers }, answer.Step s.reply)

abbrev pub step_result : World → Plan → ℤ → Option Driver → World × Answer
step_result w p now None = (w, answer.NotRunning)
step_result w p now (Some d) = stepped_world w (planned_step p w.shared (running_ids w.drivers) now d)

abbrev pub event_step_pairs : World → Plan → ℤ → Option Driver → List Pair
event_step_pairs w p now None = []
event_step_pairs w p now (Some d) = step_pairs p w.shared (running_ids w.drivers) now d

-- ---- turn

-- the world after a turn of one driver, and its replies
abbrev pub turned_world : World → TurnResult → World × Answer
turned_world w t = (record { shared = t.shared; drivers = with_driver t.driver w.drivers }, answer.Turn t.replies)

abbrev pub turn_result : World → ℤ → Option Driver → World × Answer
turn_result w now None = (w, answer.NotRunning)
turn_result w now (Some d) = turned_world w (turn (work w.shared d) w.shared (running_ids w.drivers) now d)

abbrev pub event_turn_pairs : World → ℤ → Option Driver → List Pair
event_turn_pairs w now None = []
event_turn_pairs w now (Some d) = turn_pairs (work w.shared d) w.shared (running_ids w.drivers) now d

-- ---- change

abbrev pub over_excess : Option Excess → Option Answer
over_excess e = option_map (λ (x : Excess). over x.number) e

abbrev pub bad_record : Option Bad → Option Answer
bad_record b = option_map (λ (bad : Bad). answer.BadRecord bad.index (rule_number bad.why)) b

abbrev pub change_refusal : World → ℤ → List MetaRecord → Option Answer
change_refusal w id records = first_of (leader_refusal w id) (
    first_of (unless (is_migrated_log w.shared.log) answer.NotMigrated) (
    first_of (unless (nat_le (length records) MAX_CHANGE_RECORDS) (over (number_of_limit limits.ChangeRecords))) (
    first_of (bad_record (first_bad 0 records (image_of w.shared.log))) (
    first_of (over_excess (excess (all_applied w.shared.log.epoch records (image_of w.shared.log)))) (
    full w.shared.log records)))))

abbrev pub changed_log : Log → List MetaRecord → ℤ → Log
changed_log l records now = with_batch l l.epoch now records

abbrev pub changed_world : World → List MetaRecord → ℤ → World
changed_world w records now = record { shared = record w.shared { log = changed_log w.shared.log records now }; drivers = w.drivers }

-- ---- registrations of brokers

-- the record that registers a broker
abbrev pub registration : ℤ → Bool → List MetaRecord
registration broker migrating = meta.RegisterBroker (record { broker_id = broker; migrating = migrating; incarnation = record { bytes = zero_id }; broker_epoch = pos 0; endpoints = []; features = []; rack = None; fenced = true; in_shutdown = false }) ∷ []

abbrev pub register_refusal : World → ℤ → List MetaRecord → Option Answer
register_refusal w id records = first_of (leader_refusal w id) (
    first_of (option_map (λ offset. answer.InTransaction offset) (begun_of w.shared.log)) (
    full w.shared.log records))

-- ---- sessions of ZooKeeper clients

abbrev pub with_tree : World → Tree → World
with_tree w t = record { shared = record w.shared { tree = t }; drivers = w.drivers }

-- why a session doesn't begin or end
abbrev pub move_refusal : MoveFault → Answer
move_refusal move_fault.Known = answer.Known
move_refusal move_fault.Unknown = answer.Unknown
move_refusal (move_fault.Limit number) = over number
move_refusal move_fault.NoMemory = answer.NoMemory

-- the world with the tree of a session that began or ended
abbrev pub moved_world : World → Result Tree MoveFault → World × Answer
moved_world w (Ok t) = (with_tree w t, answer.DoneAt t.zxid)
moved_world w (Err f) = (w, move_refusal f)

-- ---- a multi of a ZooKeeper client

-- What no client may do: write `/migration`; delete `/controller_epoch`, or make it end with a session; make a znode below
-- these or `/controller`; make a migrated or base znode end with a session; and give `/controller` the body of a KRaft
-- controller.
abbrev pub is_reserved : Op → Bool
is_reserved (op.Create path body owner) =
    bytes_eq path migration_path
    || (is_some owner && (bytes_eq path epoch_path || is_migrated path || is_among base_paths path))
    || list_any (λ control. is_below control path) control_paths
    || (bytes_eq path control_path && is_some (shown_epoch body))
is_reserved (op.Set path body version) = bytes_eq path migration_path || (bytes_eq path control_path && is_some (shown_epoch body))
is_reserved (op.Delete path version) = bytes_eq path migration_path || bytes_eq path epoch_path
is_reserved (op.Check path version) = false

-- the znodes that are kept from clients while a KRaft controller holds the tree
abbrev pub is_held_path : List ℕ → Bool
is_held_path path = is_migrated path || is_among base_paths path || bytes_eq path control_path || bytes_eq path epoch_path

abbrev pub is_held : Op → Bool
is_held (op.Create path body owner) = is_held_path path
is_held (op.Set path body version) = is_held_path path
is_held (op.Delete path version) = is_held_path path
is_held (op.Check path version) = false

-- whether `/controller` has the body of a KRaft controller
abbrev pub is_held_tree : Tree → Bool
is_held_tree t = is_some (shown_by (row_at control_path t.rows))

-- the path of the first of these operations that is told by the test
abbrev pub first_told : (Op → Bool) → List Op → Option (List ℕ)
first_told test ops = option_map path_of_op (find test ops)

abbrev pub client_refusal : Tree → List Op → Option Answer
client_refusal t ops = first_of (option_map (λ path. answer.Reserved path) (first_told is_reserved ops))
    (if is_held_tree t then option_map (λ path. answer.KraftHolds path) (first_told is_held ops) else None)

abbrev pub client_fault : TreeFault → Answer
client_fault (tree_fault.Refused index code) = answer.Refused index code
client_fault (tree_fault.Limit index number) = answer.OverOp index number
client_fault f = answer.TreeFailed f

abbrev pub client_world : World → Result Tree TreeFault → World × Answer
client_world w (Ok t) = (with_tree w t, answer.DoneAt t.zxid)
client_world w (Err f) = (w, client_fault f)

-- the tree and the log after a change of the tree, where it was made
abbrev pub tree_pairs : {E : Type 0} → World → Result Tree E → List Pair
tree_pairs w (Ok t) = pair_of (with_tree w t).shared ∷ []
tree_pairs w (Err f) = []

-- ---- the end of a migration

-- whether the migration of a log is finalised
abbrev pub is_finalised_log : Log → Bool
is_finalised_log l = int_eq (image_of l).state POST_MIGRATION

abbrev pub is_dual_write : DriverState → Bool
is_dual_write state.DualWrite = true
is_dual_write other = false

-- why a migration isn't finalised by this driver: it doesn't write each change of the metadata to ZooKeeper, too
abbrev pub dual_write_refusal : Option Driver → Option Answer
dual_write_refusal None = None
dual_write_refusal (Some d) = unless (is_dual_write (state_of d.stage)) (answer.NotDualWrite (state_of d.stage))

abbrev pub behind_refusal : Option Recorded → ℤ → Option Answer
behind_refusal None end = None
behind_refusal (Some r) end = unless (int_eq r.offset end) (answer.Behind r.offset end)

-- why a migration isn't ended yet: the tree isn't closed, or doesn't record the offset at which the log ends
abbrev pub rest_refusal : Tree → ℤ → Option Answer
rest_refusal t end = first_of (option_map (λ path. answer.Unclosed path) (unclosed_path t)) (behind_refusal (migration_record t) end)

-- what finalises the migration
abbrev pub final_records : List MetaRecord
final_records = meta.ZkMigrationState POST_MIGRATION ∷ []

abbrev pub finalise_refusal : World → ℤ → Option Answer
finalise_refusal w id = first_of (leader_refusal w id) (
    first_of (unless (is_migrated_log w.shared.log) answer.NotMigrated) (
    first_of (unless (not (is_finalised_log w.shared.log)) answer.Finalised) (
    first_of (dual_write_refusal (driver_of id w.drivers)) (
    first_of (rest_refusal w.shared.tree (end_of w.shared.log)) (
    full w.shared.log final_records)))))

-- ---- a migration that is taken back

-- Why a migration isn't taken back: it is finalised, or it is committed and ZooKeeper doesn't have all of the metadata.
abbrev pub exit_refusal : Tree → Log → Option Answer
exit_refusal t l = first_of (unless (not (is_finalised_log l)) answer.Finalised) (if is_migrated_log l then rest_refusal t (end_of l) else None)

-- and why a rollback is refused: by a controller that runs, too
abbrev pub rollback_refusal : World → Option Answer
rollback_refusal w = first_of (option_map (λ id. answer.Running id) (least (running_ids w.drivers))) (exit_refusal w.shared.tree w.shared.log)

abbrev pub deleted_if : Bool → List ℕ → List Op
deleted_if true path = op.Delete path (negsuc 0) ∷ []
deleted_if false path = []

-- what gives ZooKeeper back: `/controller` goes where a KRaft controller holds it, and `/migration` where it is there
abbrev pub exit_ops : Tree → List Op
exit_ops t = deleted_if (is_held_tree t) control_path ++ deleted_if (is_some (row_at migration_path t.rows)) migration_path

-- the tree after these operations, of which there may be none
abbrev pub tree_after_ops : Tree → List Op → Result Tree TreeFault
tree_after_ops t [] = Ok t
tree_after_ops t (o ∷ os) = multi t (o ∷ os)

abbrev pub is_rollback : Event → Bool
is_rollback event.Rollback = true
is_rollback e = false

-- the log is reset first
abbrev pub reset_world : World → World
reset_world w = record { shared = record w.shared { log = reset w.shared.log }; drivers = w.drivers }

-- and then the tree is given back
abbrev pub given_back : World → Result Tree TreeFault → World × Answer
given_back w (Ok t) = (with_tree w t, answer.RolledBack)
given_back w (Err f) = (w, answer.TreeFailed f)

abbrev pub exit_pairs : World → List Op → List Pair
exit_pairs w [] = []
exit_pairs w (o ∷ os) = tree_pairs w (multi w.shared.tree (o ∷ os))

-- ---- a snapshot of the log

-- the recorded offset, where the log may be cut at it
abbrev pub snapshot_offset : Option Recorded → Log → Option ℤ
snapshot_offset None l = None
snapshot_offset (Some r) l = if int_le (pos 0) r.offset && may_be_base l r.offset then Some r.offset else None

-- Why the log isn't cut: it isn't migrated, or it can't be cut at what is recorded.
abbrev pub snapshot_refusal : World → Option Answer
snapshot_refusal w = unless (is_migrated_log w.shared.log && is_some (snapshot_offset (migration_record w.shared.tree) w.shared.log)) answer.TooEarly

abbrev pub cut_log : Log → Option ℤ → Log
cut_log l None = l
cut_log l (Some at) = snapshot l at

abbrev pub cut_world : World → World
cut_world w = record { shared = record w.shared { log = cut_log w.shared.log (snapshot_offset (migration_record w.shared.tree) w.shared.log) }; drivers = w.drivers }

-- ---- the machine

abbrev pub unless_refused : World → Option Answer → World × Answer → World × Answer
unless_refused w (Some refusal) rest = (w, refusal)
unless_refused w None rest = rest

-- The world after an event, and the answer.
unfoldable pub next : World → Event → World × Answer
next w (event.Quorum ids) = outcome_unless w (quorum_refusal w ids) (declared_world w ids) answer.Done
next w (event.Start id) = outcome_unless w (start_refusal w id) (started_world w id) answer.Done
next w (event.Stop controller) = outcome_unless w (stop_refusal w controller) (stopped_world w controller) answer.Done
next w (event.Elect id now) = outcome_unless w (election_refusal w id) (elected_world w id now) (election_answer w now)
next w (event.Step id now p) = unless_refused w (running_refusal w id) (step_result w p now (driver_of id w.drivers))
next w (event.Turn id now) = unless_refused w (running_refusal w id) (turn_result w now (driver_of id w.drivers))
next w (event.Change id records now) = outcome_unless w (change_refusal w id records) (changed_world w records now) (answer.Appended (end_of (changed_log w.shared.log records now)))
next w (event.Register id broker migrating now) = outcome_unless w (register_refusal w id (registration broker migrating)) (changed_world w (registration broker migrating) now) (answer.Appended (end_of (changed_log w.shared.log (registration broker migrating) now)))
next w (event.Finalise id now) = outcome_unless w (finalise_refusal w id) (changed_world w final_records now) (answer.Appended (end_of (changed_log w.shared.log final_records now)))
next w event.Rollback = unless_refused w (rollback_refusal w) (given_back (reset_world w) (tree_after_ops w.shared.tree (exit_ops w.shared.tree)))
next w event.Snapshot = outcome_unless w (snapshot_refusal w) (cut_world w) answer.Done
next w event.Check = (w, answer.Check (verdict w.shared.tree w.shared.log))
next w (event.ZkOpen session) = moved_world w (begin_session w.shared.tree session)
next w (event.ZkExpire session) = moved_world w (end_session w.shared.tree session)
next w (event.Zk ops) = unless_refused w (client_refusal w.shared.tree ops) (client_world w (multi w.shared.tree ops))

abbrev pub pairs_unless : Option Answer → List Pair → List Pair
pairs_unless (Some refusal) ps = []
pairs_unless None ps = ps

-- the tree and the log after each request of an event
unfoldable pub event_pairs : World → Event → List Pair
event_pairs w (event.Quorum ids) = []
event_pairs w (event.Start id) = []
event_pairs w (event.Stop controller) = []
event_pairs w (event.Elect id now) = pairs_unless (election_refusal w id) (pair_of (elected_world w id now).shared ∷ [])
event_pairs w (event.Step id now p) = pairs_unless (running_refusal w id) (event_step_pairs w p now (driver_of id w.drivers))
event_pairs w (event.Turn id now) = pairs_unless (running_refusal w id) (event_turn_pairs w now (driver_of id w.drivers))
event_pairs w (event.Change id records now) = pairs_unless (change_refusal w id records) (pair_of (changed_world w records now).shared ∷ [])
event_pairs w (event.Register id broker migrating now) = pairs_unless (register_refusal w id (registration broker migrating)) (pair_of (changed_world w (registration broker migrating) now).shared ∷ [])
event_pairs w (event.Finalise id now) = pairs_unless (finalise_refusal w id) (pair_of (changed_world w final_records now).shared ∷ [])
event_pairs w event.Rollback = pairs_unless (rollback_refusal w) (pair_of (reset_world w).shared ∷ exit_pairs (reset_world w) (exit_ops w.shared.tree))
event_pairs w event.Snapshot = pairs_unless (snapshot_refusal w) (pair_of (cut_world w).shared ∷ [])
event_pairs w event.Check = []
event_pairs w (event.ZkOpen session) = tree_pairs w (begin_session w.shared.tree session)
event_pairs w (event.ZkExpire session) = tree_pairs w (end_session w.shared.tree session)
event_pairs w (event.Zk ops) = pairs_unless (client_refusal w.shared.tree ops) (tree_pairs w (multi w.shared.tree ops))

-- ---- a run

-- the world after these events
unfoldable pub after_events : World → List Event → World
after_events w [] = w
after_events w (e ∷ es) = after_events (next w e).0 es

-- the answers to these events
unfoldable pub answers : World → List Event → List Answer
answers w [] = []
answers w (e ∷ es) = (next w e).1 ∷ answers (next w e).0 es

-- the tree and the log after each request of these events
unfoldable pub request_pairs : World → List Event → List Pair
request_pairs w [] = []
request_pairs w (e ∷ es) = event_pairs w e ++ request_pairs (next w e).0 es

-- the tree and the log at the beginning of a run, and after each request of it
abbrev pub pairs : World → List Event → List Pair
pairs w es = pair_of w.shared ∷ request_pairs w es
