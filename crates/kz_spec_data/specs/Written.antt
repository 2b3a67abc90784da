-- Events as lines: compact JSON, with the members of an object in the order of their names' bytes.
use Rattle.std.specs.Prelude.{ℕ, ◌==◌, ℤ, pos, List, length, map, Option, Some, None, if◌then◌else◌, codes}
use Rattle.std.specs.Ordering.{int_eq}
use Rattle.std.specs.Str.{is_utf8}
use Rattle.serde_json.specs.Data.{boolean, Data, array, object, Members, no_members, put}
use Rattle.serde_json.specs.View.{items_of}
use Rattle.serde_json.specs.Written.{compact_text}
use Rattle.kz_types.specs.declared.plan.Plan.{Plan}
use Rattle.kz_types.specs.declared.plan.Plan.TheVariants as plan
use Rattle.kz_types.specs.declared.machine.Event.{Event}
use Rattle.kz_types.specs.declared.machine.Event.TheVariants.{Quorum, Start, Stop, Elect, Step, Turn, Register, Change, Finalise, Rollback, Snapshot, Check, ZkOpen, ZkExpire, Zk}
use Rattle.kz_types.specs.declared.tree.Op.{Op}
use Rattle.kz_types.specs.declared.tree.Op.TheVariants as op
use Rattle.kz_spec_data.specs.Members.{whole_data, with_text, with_whole, with_bytes}
use Rattle.kz_spec_data.specs.WrittenRecords.{record_data}

-- ---- members

-- the members of an event of this name, before others are put
abbrev pub event_members : List ℕ → Members
event_members name = with_text (codes "event") name no_members

-- those of an event of a controller
abbrev pub controller_members : List ℕ → ℤ → Members
controller_members name controller = with_whole (codes "controller") controller (event_members name)

-- members and `now`, which is left out where it is 0
abbrev pub with_now : ℤ → Members → Members
with_now now ms = if int_eq now (pos 0) then ms else with_whole (codes "now") now ms

-- ---- operations

-- members and a body: as `text` where it is UTF-8, else in base64 as `bytes`; an empty one is left out
abbrev pub with_body : List ℕ → Members → Members
with_body body ms =
    if length body == 0 then ms
    else if is_utf8 body then with_text (codes "text") body ms
    else with_bytes (codes "bytes") body ms

-- members and an owner, if there is one
abbrev pub with_owner : Option ℤ → Members → Members
with_owner None ms = ms
with_owner (Some session) ms = with_whole (codes "owner") session ms

-- the members of an operation of this name at this path, before others are put
abbrev pub op_members : List ℕ → List ℕ → Members
op_members name path = with_text (codes "path") path (with_text (codes "op") name no_members)

-- an operation as a JSON value
abbrev pub op_data : Op → Data
op_data (op.Create path body owner) = object (with_owner owner (with_body body (op_members (codes "create") path)))
op_data (op.Set path body version) = object (with_whole (codes "version") version (with_body body (op_members (codes "set") path)))
op_data (op.Delete path version) = object (with_whole (codes "version") version (op_members (codes "delete") path))
op_data (op.Check path version) = object (with_whole (codes "version") version (op_members (codes "check") path))

-- ---- events

-- the plan of a step, which is left out where the request is delivered
abbrev pub with_plan : Plan → Members → Members
with_plan plan.Deliver ms = ms
with_plan plan.LostBefore ms = with_text (codes "plan") (codes "lost-before") ms
with_plan plan.LostAfter ms = with_text (codes "plan") (codes "lost-after") ms
with_plan plan.Expired ms = with_text (codes "plan") (codes "expired") ms

-- an event's members
abbrev pub members_of_event : Event → Members
members_of_event (Quorum ids) = put (codes "ids") (array (items_of (map whole_data ids))) (event_members (codes "quorum"))
members_of_event (Start controller) = controller_members (codes "start") controller
members_of_event (Stop None) = event_members (codes "stop")
members_of_event (Stop (Some controller)) = controller_members (codes "stop") controller
members_of_event (Elect controller now) = with_now now (controller_members (codes "elect") controller)
members_of_event (Step controller now p) = with_plan p (with_now now (controller_members (codes "step") controller))
members_of_event (Turn controller now) = with_now now (controller_members (codes "turn") controller)
members_of_event (Change controller records now) =
    put (codes "records") (array (items_of (map record_data records))) (with_now now (controller_members (codes "change") controller))
members_of_event (Register controller broker migrating now) =
    put (codes "migrating") (boolean migrating) (with_whole (codes "broker") broker (with_now now (controller_members (codes "register") controller)))
members_of_event (Finalise controller now) = with_now now (controller_members (codes "finalise") controller)
members_of_event Rollback = event_members (codes "rollback")
members_of_event Snapshot = event_members (codes "snapshot")
members_of_event Check = event_members (codes "check")
members_of_event (ZkOpen session) = with_whole (codes "session") session (event_members (codes "zk-open"))
members_of_event (ZkExpire session) = with_whole (codes "session") session (event_members (codes "zk-expire"))
members_of_event (Zk ops) = put (codes "ops") (array (items_of (map op_data ops))) (event_members (codes "zk"))

-- the line of an event, without its end
unfoldable pub written_event : Event → List ℕ
written_event e = compact_text (object (members_of_event e))
