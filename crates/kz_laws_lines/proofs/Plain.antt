-- What is written of an event is plain data.
use Rattle.std.proofs.Common.{◌≡◌, ℕ, suc, ◌==◌, ℤ, pos, Bool, true, false, cond, List, [], ◌∷◌, length, Option, Some, None, refl, codes}
use Rattle.std.specs.Prelude.{map}
use Rattle.std.specs.Ordering.{int_eq}
use Rattle.std.specs.Str.{is_utf8}
use Rattle.json.proofs.Printed.Utf8.{are_ascii}
use Rattle.serde_json.specs.Data.{Data, object, array, Members, no_members, put}
use Rattle.serde_json.specs.View.{items_of}
use Rattle.kz_types.specs.declared.plan.Plan.{Plan}
use Rattle.kz_types.specs.declared.plan.Plan.TheVariants as plan
use Rattle.kz_types.specs.declared.machine.Event.{Event}
use Rattle.kz_types.specs.declared.machine.Event.TheVariants.{Quorum, Start, Stop, Elect, Step, Turn, Register, Change, Finalise, Rollback, Snapshot, Check, ZkOpen, ZkExpire, Zk}
use Rattle.kz_types.specs.declared.record.MetaRecord.{MetaRecord}
use Rattle.kz_types.specs.declared.tree.Op.{Op}
use Rattle.kz_types.specs.declared.tree.Op.TheVariants as op
use Rattle.kz_spec_data.specs.Members.{whole_data, with_text, with_whole, with_bytes}
use Rattle.kz_spec_data.specs.WrittenRecords.{record_data}
use Rattle.kz_spec_data.specs.Written.{event_members, controller_members, with_now, with_plan, with_body, with_owner, op_members, op_data, members_of_event}
use Rattle.kz_laws_values.proofs.Plain.{IsPlain, whole_is_plain, word}
use Rattle.kz_laws_lines.specs.Writable.{IsId, IsTime, IsSession, IsVersion, IsRecord, AreSomeRecords, IsPath, IsOwner, IsOp, AreSomeOps, IsEvent}
use Rattle.kz_laws_lines.proofs.Values.{long_id, long_time, long_session, long_version, path_is_text}
use Rattle.kz_laws_lines.proofs.Fits.{Fits, fits_object, none_fits, one_of, with_data, with_a_text, with_a_whole, with_a_flag, with_some_bytes, each_is_plain}
use Rattle.kz_laws_lines.proofs.PlainRecords.{record_is_plain}

event_fits : (n : ℕ) (name : List ℕ) → are_ascii name ≡ true → Fits n (event_members name)
event_fits n name h = with_a_text n (codes "event") name no_members refl (word name h) (none_fits n)

controller_fits : (n : ℕ) (name : List ℕ) (c : ℤ) → are_ascii name ≡ true → IsId c → Fits n (controller_members name c)
controller_fits n name c h id = with_a_whole n (codes "controller") c (event_members name) refl (long_id c id) (event_fits n name h)

now_fits : (n : ℕ) (now : ℤ) (ms : Members) → IsTime now → Fits n ms → Fits n (with_now now ms)
now_fits n now ms time h = one_of n (int_eq now (pos 0)) ms (with_whole (codes "now") now ms) h (with_a_whole n (codes "now") now ms refl (long_time now time) h)

plan_fits : (n : ℕ) (p : Plan) (ms : Members) → Fits n ms → Fits n (with_plan p ms)
plan_fits n plan.Deliver ms h = h
plan_fits n plan.LostBefore ms h = with_a_text n (codes "plan") (codes "lost-before") ms refl (word (codes "lost-before") refl) h
plan_fits n plan.LostAfter ms h = with_a_text n (codes "plan") (codes "lost-after") ms refl (word (codes "lost-after") refl) h
plan_fits n plan.Expired ms h = with_a_text n (codes "plan") (codes "expired") ms refl (word (codes "expired") refl) h

session_fits : (n : ℕ) (name : List ℕ) (s : ℤ) → are_ascii name ≡ true → IsSession s → Fits n (with_whole (codes "session") s (event_members name))
session_fits n name s h is = with_a_whole n (codes "session") s (event_members name) refl (long_session s is) (event_fits n name h)

-- ---- operations

body_fits : (n : ℕ) (body : List ℕ) (ms : Members) → Fits n ms → Fits n (with_body body ms)
body_fits n body ms h = one_of n (length body == 0) ms _ h (by (is_utf8 body) refl)
  where
    by : (t : Bool) → is_utf8 body ≡ t → Fits n (cond t (with_text (codes "text") body ms) (with_bytes (codes "bytes") body ms))
    by true e = with_a_text n (codes "text") body ms refl e h
    by false e = with_some_bytes n (codes "bytes") body ms refl h

owner_fits : (n : ℕ) (owner : Option ℤ) (ms : Members) → IsOwner owner → Fits n ms → Fits n (with_owner owner ms)
owner_fits n None ms is h = h
owner_fits n (Some s) ms is h = with_a_whole n (codes "owner") s ms refl (long_session s is) h

op_members_fit : (n : ℕ) (name path : List ℕ) → are_ascii name ≡ true → IsPath path → Fits n (op_members name path)
op_members_fit n name path h is = with_a_text n (codes "path") path _ refl (path_is_text path is) (with_a_text n (codes "op") name no_members refl (word name h) (none_fits n))

version_fits : (n : ℕ) (v : ℤ) (ms : Members) → IsVersion v → Fits n ms → Fits n (with_whole (codes "version") v ms)
version_fits n v ms is h = with_a_whole n (codes "version") v ms refl (long_version v is) h

op_fits : (n : ℕ) (o : Op) → IsOp o → IsPlain (suc n) (op_data o)
op_fits n (op.Create path body owner) h = fits_object n _ (owner_fits n owner _ h.2 (body_fits n body _ (op_members_fit n (codes "create") path refl h.0)))
op_fits n (op.Set path body version) h = fits_object n _ (version_fits n version _ h.2 (body_fits n body _ (op_members_fit n (codes "set") path refl h.0)))
op_fits n (op.Delete path version) h = fits_object n _ (version_fits n version _ h.1 (op_members_fit n (codes "delete") path refl h.0))
op_fits n (op.Check path version) h = fits_object n _ (version_fits n version _ h.1 (op_members_fit n (codes "check") path refl h.0))

-- ---- events

list_fits : (name k : List ℕ) (d : Data) → are_ascii name ≡ true → are_ascii k ≡ true → IsPlain 4 d → Fits 4 (put k d (event_members name))
list_fits name k d h g plain = with_data 4 k d (event_members name) g plain (event_fits 4 name h)

changes_fit : (c now : ℤ) (records : List MetaRecord) → IsId c → AreSomeRecords records → IsTime now → Fits 4 (members_of_event (Change c records now))
changes_fit c now [] id h time = absurd h
changes_fit c now (r ∷ rs) id h time =
    with_data 4 (codes "records") (array (items_of (map record_data (r ∷ rs)))) _ refl (each_is_plain 3 IsRecord record_data (record_is_plain 0) (r ∷ rs) h)
    (now_fits 4 now _ time (controller_fits 4 (codes "change") c refl id))

zk_fits : (os : List Op) → AreSomeOps os → Fits 4 (members_of_event (Zk os))
zk_fits [] h = absurd h
zk_fits (o ∷ os) h = list_fits (codes "zk") (codes "ops") (array (items_of (map op_data (o ∷ os)))) refl refl (each_is_plain 3 IsOp op_data (op_fits 2) (o ∷ os) h)

members_fit : (e : Event) → IsEvent e → Fits 4 (members_of_event e)
members_fit (Quorum ids) h =
    list_fits (codes "quorum") (codes "ids") (array (items_of (map whole_data ids))) refl refl (each_is_plain 3 IsId whole_data (λ id is. whole_is_plain 3 id (long_id id is)) ids h.0)
members_fit (Start c) h = controller_fits 4 (codes "start") c refl h
members_fit (Stop None) h = event_fits 4 (codes "stop") refl
members_fit (Stop (Some c)) h = controller_fits 4 (codes "stop") c refl h
members_fit (Elect c now) h = now_fits 4 now _ h.1 (controller_fits 4 (codes "elect") c refl h.0)
members_fit (Step c now p) h = plan_fits 4 p _ (now_fits 4 now _ h.1 (controller_fits 4 (codes "step") c refl h.0))
members_fit (Turn c now) h = now_fits 4 now _ h.1 (controller_fits 4 (codes "turn") c refl h.0)
members_fit (Register c broker migrating now) h =
    with_a_flag 4 (codes "migrating") migrating _ refl
    (with_a_whole 4 (codes "broker") broker _ refl (long_id broker h.1) (now_fits 4 now _ h.2 (controller_fits 4 (codes "register") c refl h.0)))
members_fit (Change c records now) h = changes_fit c now records h.0 h.1 h.2
members_fit (Finalise c now) h = now_fits 4 now _ h.1 (controller_fits 4 (codes "finalise") c refl h.0)
members_fit Rollback h = event_fits 4 (codes "rollback") refl
members_fit Snapshot h = event_fits 4 (codes "snapshot") refl
members_fit Check h = event_fits 4 (codes "check") refl
members_fit (ZkOpen s) h = session_fits 4 (codes "zk-open") s refl h
members_fit (ZkExpire s) h = session_fits 4 (codes "zk-expire") s refl h
members_fit (Zk os) h = zk_fits os h

pub event_is_plain : (e : Event) → IsEvent e → IsPlain 5 (object (members_of_event e))
event_is_plain e h = fits_object 4 (members_of_event e) (members_fit e h)
