-- What is written of an event has no floats.
use Rattle.std.proofs.Common.{◌≡◌, ℕ, ◌==◌, false, List, length, Option, Some, None, codes, ℤ, pos}
use Rattle.std.specs.Prelude.{map}
use Rattle.std.specs.Ordering.{int_eq}
use Rattle.std.specs.Str.{is_utf8}
use Rattle.serde_json.specs.Data.{Members, no_members, array, object}
use Rattle.serde_json.specs.View.{items_of}
use Rattle.serde_json.specs.Written.{has_float}
use Rattle.kz_types.specs.declared.plan.Plan.{Plan}
use Rattle.kz_types.specs.declared.plan.Plan.TheVariants as plan
use Rattle.kz_types.specs.declared.machine.Event.{Event}
use Rattle.kz_types.specs.declared.machine.Event.TheVariants.{Quorum, Start, Stop, Elect, Step, Turn, Register, Change, Finalise, Rollback, Snapshot, Check, ZkOpen, ZkExpire, Zk}
use Rattle.kz_types.specs.declared.tree.Op.{Op}
use Rattle.kz_types.specs.declared.tree.Op.TheVariants as op
use Rattle.kz_spec_data.specs.Members.{with_text, with_whole, with_bytes}
use Rattle.kz_spec_data.specs.WrittenRecords.{record_data}
use Rattle.kz_spec_data.specs.Written.{event_members, controller_members, with_now, with_plan, with_body, with_owner, op_members, op_data, members_of_event}
use Rattle.kz_record_fields.proofs.Floats.{Calm, no_members_calm, put_calm, text_no_float, whole_no_float, one_of, flag_no_float, bytes_no_float, each_no_float, ints_no_float}
use Rattle.kz_record_json.proofs.PlainRecords.{record_no_float}

now_no_float : (now : ℤ) (ms : Members) → Calm ms → Calm (with_now now ms)
now_no_float now ms all = one_of (int_eq now (pos 0)) ms (with_whole (codes "now") now ms) all (whole_no_float (codes "now") now ms all)

event_members_no_float : (name : List ℕ) → Calm (event_members name)
event_members_no_float name = text_no_float (codes "event") name no_members no_members_calm

controller_no_float : (name : List ℕ) (controller : ℤ) → Calm (controller_members name controller)
controller_no_float name controller = whole_no_float (codes "controller") controller (event_members name) (event_members_no_float name)

plan_no_float : (p : Plan) (ms : Members) → Calm ms → Calm (with_plan p ms)
plan_no_float plan.Deliver ms all = all
plan_no_float plan.LostBefore ms all = text_no_float (codes "plan") (codes "lost-before") ms all
plan_no_float plan.LostAfter ms all = text_no_float (codes "plan") (codes "lost-after") ms all
plan_no_float plan.Expired ms all = text_no_float (codes "plan") (codes "expired") ms all

session_no_float : (name : List ℕ) (session : ℤ) → Calm (with_whole (codes "session") session (event_members name))
session_no_float name session = whole_no_float (codes "session") session (event_members name) (event_members_no_float name)

-- ---- operations

body_no_float : (body : List ℕ) (ms : Members) → Calm ms → Calm (with_body body ms)
body_no_float body ms all =
    one_of (length body == 0) ms _ all
    (one_of (is_utf8 body) (with_text (codes "text") body ms) (with_bytes (codes "bytes") body ms)
    (text_no_float (codes "text") body ms all) (bytes_no_float (codes "bytes") body ms all))

owner_no_float : (owner : Option ℤ) (ms : Members) → Calm ms → Calm (with_owner owner ms)
owner_no_float None ms all = all
owner_no_float (Some session) ms all = whole_no_float (codes "owner") session ms all

op_members_no_float : (name path : List ℕ) → Calm (op_members name path)
op_members_no_float name path = text_no_float (codes "path") path _ (text_no_float (codes "op") name no_members no_members_calm)

versioned_no_float : (version : ℤ) (ms : Members) → Calm ms → Calm (with_whole (codes "version") version ms)
versioned_no_float version ms all = whole_no_float (codes "version") version ms all

op_no_float : (o : Op) → has_float (op_data o) ≡ false
op_no_float (op.Create path body owner) = (owner_no_float owner _ (body_no_float body _ (op_members_no_float (codes "create") path))).none
op_no_float (op.Set path body version) = (versioned_no_float version _ (body_no_float body _ (op_members_no_float (codes "set") path))).none
op_no_float (op.Delete path version) = (versioned_no_float version _ (op_members_no_float (codes "delete") path)).none
op_no_float (op.Check path version) = (versioned_no_float version _ (op_members_no_float (codes "check") path)).none

-- ---- events

members_no_float : (e : Event) → Calm (members_of_event e)
members_no_float (Quorum ids) = ints_no_float (codes "ids") ids _ (event_members_no_float (codes "quorum"))
members_no_float (Start controller) = controller_no_float (codes "start") controller
members_no_float (Stop None) = event_members_no_float (codes "stop")
members_no_float (Stop (Some controller)) = controller_no_float (codes "stop") controller
members_no_float (Elect controller now) = now_no_float now _ (controller_no_float (codes "elect") controller)
members_no_float (Step controller now p) = plan_no_float p _ (now_no_float now _ (controller_no_float (codes "step") controller))
members_no_float (Turn controller now) = now_no_float now _ (controller_no_float (codes "turn") controller)
members_no_float (Change controller records now) =
    put_calm (codes "records") (array (items_of (map record_data records))) _ (each_no_float record_data record_no_float records) (now_no_float now _ (controller_no_float (codes "change") controller))
members_no_float (Register controller broker migrating now) =
    flag_no_float (codes "migrating") migrating _ (whole_no_float (codes "broker") broker _ (now_no_float now _ (controller_no_float (codes "register") controller)))
members_no_float (Finalise controller now) = now_no_float now _ (controller_no_float (codes "finalise") controller)
members_no_float Rollback = event_members_no_float (codes "rollback")
members_no_float Snapshot = event_members_no_float (codes "snapshot")
members_no_float Check = event_members_no_float (codes "check")
members_no_float (ZkOpen session) = session_no_float (codes "zk-open") session
members_no_float (ZkExpire session) = session_no_float (codes "zk-expire") session
members_no_float (Zk ops) = put_calm (codes "ops") (array (items_of (map op_data ops))) _ (each_no_float op_data op_no_float ops) (event_members_no_float (codes "zk"))

pub event_no_float : (e : Event) → has_float (object (members_of_event e)) ≡ false
event_no_float e = (members_no_float e).none
