-- Which event a line of a script is: a JSON object with the event's name as `event`, and exactly its members.
use Rattle.std.specs.Prelude.{ℕ, ◌==◌, ℤ, pos, List, [], ◌∷◌, Option, Some, None, option_map, option_and_then, if◌then◌else◌, codes}
use Rattle.std.specs.Str.{bytes_eq}
use Rattle.std.specs.List.{find}
use Rattle.serde_json.specs.Data.{Data, Items, no_items, item}
use Rattle.serde_json.specs.Find.{get, as_array, as_bool, as_str}
use Rattle.kz_types.specs.Numbers.{are_distinct}
use Rattle.kz_types.specs.declared.limits.TheConstants.{MAX_NUMBER}
use Rattle.kz_types.specs.declared.machine.Event.{Event}
use Rattle.kz_types.specs.declared.machine.Event.TheVariants.{Quorum, Start, Stop, Elect, Step, Turn, Register, Change, Finalise, Rollback, Snapshot, Check, ZkOpen, ZkExpire, Zk}
use Rattle.kz_types.specs.declared.plan.Plan.{Plan}
use Rattle.kz_types.specs.declared.plan.Plan.TheVariants as plan
use Rattle.kz_types.specs.declared.record.MetaRecord.{MetaRecord}
use Rattle.kz_types.specs.declared.tree.Op.{Op}
use Rattle.kz_spec_data.specs.Ops.{session_in, op_of}
use Rattle.kz_spec_data.specs.Json.{json_of, member_count, count_with, whole_up_to, text_member, by_name}
use Rattle.kz_spec_data.specs.RecordLines.{record_of}

-- ---- members

-- the id of a controller or a broker: a whole number from 0 to the greatest of 32 bits
abbrev pub id_of : Data → Option ℤ
id_of d = whole_up_to MAX_NUMBER d

-- a time: a whole number from 0 to the greatest of 64 bits; where it is absent, 0
abbrev pub time_of : Option Data → Option ℤ
time_of None = Some (pos 0)
time_of (Some d) = whole_up_to 9223372036854775807 d

-- the member `controller`
abbrev pub controller_of : Data → Option ℤ
controller_of d = option_and_then id_of (get (codes "controller") d)

-- the member `now`
abbrev pub now_of : Data → Option ℤ
now_of d = time_of (get (codes "now") d)

-- how many members an object has that has `others` members beside `now`, which may be absent
abbrev pub timed_count : ℕ → Data → ℕ
timed_count others d = count_with (get (codes "now") d) others

-- ---- events

-- the ids in a list
abbrev pub ids_in : Items → Option (List ℤ)
ids_in no_items = Some []
ids_in (item d ds) = option_and_then (λ i. option_map (λ is. i ∷ is) (ids_in ds)) (id_of d)

-- where no two of them are the same
abbrev pub distinct_ids : List ℤ → Option (List ℤ)
distinct_ids ids = if are_distinct ids then Some ids else None

-- `quorum`, with a list of distinct ids
abbrev pub quorum_of : Data → Option Event
quorum_of d = if member_count d == 2
    then option_map (λ ids. Quorum ids) (option_and_then distinct_ids (option_and_then ids_in (option_and_then as_array (get (codes "ids") d))))
    else None

abbrev pub start_of : Data → Option Event
start_of d = if member_count d == 2 then option_map (λ c. Start c) (controller_of d) else None

-- `stop`, of one controller or of all
abbrev pub stop_by : Option Data → Option Event
stop_by None = Some (Stop None)
stop_by (Some d) = option_map (λ c. Stop (Some c)) (id_of d)

abbrev pub stop_of : Data → Option Event
stop_of d = if member_count d == count_with (get (codes "controller") d) 1 then stop_by (get (codes "controller") d) else None

abbrev pub elect_of : Data → Option Event
elect_of d = if member_count d == timed_count 2 d
    then option_and_then (λ c. option_map (λ t. Elect c t) (now_of d)) (controller_of d)
    else None

abbrev pub turn_of : Data → Option Event
turn_of d = if member_count d == timed_count 2 d
    then option_and_then (λ c. option_map (λ t. Turn c t) (now_of d)) (controller_of d)
    else None

-- the plans by their names
abbrev pub plan_names : List (List ℕ × Plan)
plan_names =
    (codes "deliver", plan.Deliver)
    ∷ (codes "lost-before", plan.LostBefore)
    ∷ (codes "lost-after", plan.LostAfter)
    ∷ (codes "expired", plan.Expired)
    ∷ []

abbrev pub plan_named : List ℕ → Option Plan
plan_named name = option_map (λ p. p.1) (find (λ p. bytes_eq name p.0) plan_names)

-- the plan of a step; where it is absent, the request is delivered
abbrev pub plan_by : Option Data → Option Plan
plan_by None = Some plan.Deliver
plan_by (Some d) = option_and_then plan_named (as_str d)

abbrev pub step_of : Data → Option Event
step_of d = if member_count d == count_with (get (codes "plan") d) (timed_count 2 d)
    then option_and_then (λ c. option_and_then (λ t. option_map (λ p. Step c t p) (plan_by (get (codes "plan") d))) (now_of d)) (controller_of d)
    else None

-- the records in a list
abbrev pub records_in : Items → Option (List MetaRecord)
records_in no_items = Some []
records_in (item d ds) = option_and_then (λ r. option_map (λ rs. r ∷ rs) (records_in ds)) (record_of d)

-- at least one
abbrev pub some_records : List MetaRecord → Option (List MetaRecord)
some_records [] = None
some_records (r ∷ rs) = Some (r ∷ rs)

-- `change`, with a list of records that isn't empty
abbrev pub change_of : Data → Option Event
change_of d = if member_count d == timed_count 3 d
    then option_and_then (λ c. option_and_then (λ rs. option_map (λ t. Change c rs t) (now_of d))
    (option_and_then some_records (option_and_then records_in (option_and_then as_array (get (codes "records") d)))))
    (controller_of d)
    else None

-- `register`, with a broker, and whether it is ready to migrate
abbrev pub register_of : Data → Option Event
register_of d = if member_count d == timed_count 4 d
    then option_and_then (λ c. option_and_then (λ b. option_and_then (λ m. option_map (λ t. Register c b m t) (now_of d))
    (option_and_then as_bool (get (codes "migrating") d)))
    (option_and_then id_of (get (codes "broker") d)))
    (controller_of d)
    else None

abbrev pub finalise_of : Data → Option Event
finalise_of d = if member_count d == timed_count 2 d
    then option_and_then (λ c. option_map (λ t. Finalise c t) (now_of d)) (controller_of d)
    else None

abbrev pub rollback_of : Data → Option Event
rollback_of d = if member_count d == 1 then Some Rollback else None

abbrev pub snapshot_of : Data → Option Event
snapshot_of d = if member_count d == 1 then Some Snapshot else None

abbrev pub check_of : Data → Option Event
check_of d = if member_count d == 1 then Some Check else None

-- ---- sessions and multis of ZooKeeper clients

-- a session: a whole number from 1 to the greatest of 64 bits
abbrev pub session_of : Data → Option ℤ
session_of d = option_and_then session_in (get (codes "session") d)

abbrev pub open_of : Data → Option Event
open_of d = if member_count d == 2 then option_map (λ s. ZkOpen s) (session_of d) else None

abbrev pub expire_of : Data → Option Event
expire_of d = if member_count d == 2 then option_map (λ s. ZkExpire s) (session_of d) else None

-- the operations in a list
abbrev pub ops_in : Items → Option (List Op)
ops_in no_items = Some []
ops_in (item d ds) = option_and_then (λ o. option_map (λ os. o ∷ os) (ops_in ds)) (op_of d)

-- at least one
abbrev pub some_ops : List Op → Option Event
some_ops [] = None
some_ops (o ∷ os) = Some (Zk (o ∷ os))

abbrev pub zk_of : Data → Option Event
zk_of d = if member_count d == 2
    then option_and_then some_ops (option_and_then ops_in (option_and_then as_array (get (codes "ops") d)))
    else None

-- ---- lines

-- the events by their names
abbrev pub event_forms : List (List ℕ × (Data → Option Event))
event_forms =
    (codes "quorum", quorum_of)
    ∷ (codes "start", start_of)
    ∷ (codes "stop", stop_of)
    ∷ (codes "elect", elect_of)
    ∷ (codes "step", step_of)
    ∷ (codes "turn", turn_of)
    ∷ (codes "register", register_of)
    ∷ (codes "change", change_of)
    ∷ (codes "finalise", finalise_of)
    ∷ (codes "rollback", rollback_of)
    ∷ (codes "snapshot", snapshot_of)
    ∷ (codes "check", check_of)
    ∷ (codes "zk-open", open_of)
    ∷ (codes "zk-expire", expire_of)
    ∷ (codes "zk", zk_of)
    ∷ []

-- the event that a JSON value is
abbrev pub event_of : Data → Option Event
event_of d = option_and_then (λ name. by_name event_forms name d) (text_member (codes "event") d)

-- the event that a line is
unfoldable pub line_event : List ℕ → Option Event
line_event bytes = option_and_then event_of (json_of bytes)
