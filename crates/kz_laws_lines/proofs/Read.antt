-- What is written of an event is read as that event.
use Rattle.std.proofs.Common.{◌≡◌, ℕ, ◌==◌, ℤ, pos, negsuc, Bool, true, false, cond, List, [], ◌∷◌, length, Option, Some, None, refl, sym, ap, ◌∙◌, codes, arith}
use Rattle.std.specs.Prelude.{map, option_map, option_and_then}
use Rattle.std.specs.Ordering.{int_eq}
use Rattle.std.specs.Str.{is_utf8}
use Rattle.std.proofs.lemmas.Bool.Decides.{Decides-int_eq}
use Rattle.base64.specs.Engines.{standard}
use Rattle.base64.specs.GeneralPurpose.{IsBytes, encode_of}
use Rattle.serde_json.specs.Data.{boolean, object, array, put}
use Rattle.serde_json.specs.View.{items_of}
use Rattle.kz_types.specs.Numbers.{are_distinct}
use Rattle.kz_types.specs.declared.plan.Plan.{Plan}
use Rattle.kz_types.specs.declared.plan.Plan.TheVariants as plan
use Rattle.kz_types.specs.declared.machine.Event.{Event}
use Rattle.kz_types.specs.declared.machine.Event.TheVariants.{Quorum, Start, Stop, Elect, Step, Turn, Register, Change, Finalise, Rollback, Snapshot, Check, ZkOpen, ZkExpire, Zk}
use Rattle.kz_types.specs.declared.record.MetaRecord.{MetaRecord}
use Rattle.kz_types.specs.declared.tree.Op.{Op}
use Rattle.kz_types.specs.declared.tree.Op.TheVariants as op
use Rattle.kz_spec_data.specs.Json.{whole_up_to, whole_within}
use Rattle.kz_spec_data.specs.Ops.{op_of}
use Rattle.kz_spec_data.specs.Events.{id_of, ids_in, distinct_ids, records_in, some_records, ops_in, some_ops, event_of, line_event}
use Rattle.kz_spec_data.specs.Members.{whole_data, with_text, with_whole}
use Rattle.kz_spec_data.specs.WrittenRecords.{record_data}
use Rattle.kz_spec_data.specs.Written.{controller_members, with_plan, with_owner, op_members, op_data, members_of_event, written_event}
use Rattle.kz_laws_lines.specs.Writable.{IsId, IsTime, IsVersion, Each, IsRecord, AreSomeRecords, IsPath, IsOwner, IsOp, AreSomeOps, IsEvent}
use Rattle.kz_laws_lines.proofs.Values.{up_to_is, session_is, within_is, long_version, decoded_is, no_bytes}
use Rattle.kz_laws_lines.proofs.Records.{record_is_read}
use Rattle.kz_laws_lines.proofs.Deep.{plain_within}
use Rattle.kz_laws_lines.proofs.Plain.{event_is_plain}

-- ---- records

records_are_read : (rs : List MetaRecord) → Each IsRecord rs → records_in (items_of (map record_data rs)) ≡ Some rs
records_are_read [] h = refl
records_are_read (r ∷ rs) h =
    ap (option_and_then (λ s. option_map (λ ss. s ∷ ss) (records_in (items_of (map record_data rs))))) (record_is_read r h.0)
    ∙ ap (option_map (λ ss. r ∷ ss)) (records_are_read rs h.1)

some_are_read : (rs : List MetaRecord) → AreSomeRecords rs → option_and_then some_records (records_in (items_of (map record_data rs))) ≡ Some rs
some_are_read [] h = absurd h
some_are_read (r ∷ rs) h = ap (option_and_then some_records) (records_are_read (r ∷ rs) h)

-- ---- operations

version_is : (v : ℤ) → IsVersion v → whole_within (negsuc 0) (pos 2147483647) (whole_data v) ≡ Some v
version_is v h = within_is (negsuc 0) (pos 2147483647) v (long_version v h) h

create_by : (path body : List ℕ) (owner : Option ℤ) (no_body text : Bool) → (length body == 0) ≡ no_body → is_utf8 body ≡ text → IsPath path → IsBytes body → IsOwner owner
    → op_of (object (with_owner owner (cond no_body (op_members (codes "create") path) (cond text (with_text (codes "text") body (op_members (codes "create") path)) (with_text (codes "bytes") (encode_of standard body) (op_members (codes "create") path))))))
    ≡ Some (op.Create path body owner)
unfolding op_of
create_by path body None true text none utf8 is bytes owner = rw is (ap (λ b. Some (op.Create path b None)) (no_bytes body none))
create_by path body (Some s) true text none utf8 is bytes owner = rw (is, session_is s owner) (ap (λ b. Some (op.Create path b (Some s))) (no_bytes body none))
create_by path body None false true none utf8 is bytes owner = rw is refl
create_by path body (Some s) false true none utf8 is bytes owner = rw (is, session_is s owner) refl
create_by path body None false false none utf8 is bytes owner = rw (is, decoded_is body bytes) refl
create_by path body (Some s) false false none utf8 is bytes owner = rw (is, decoded_is body bytes, session_is s owner) refl

set_by : (path body : List ℕ) (version : ℤ) (no_body text : Bool) → (length body == 0) ≡ no_body → is_utf8 body ≡ text → IsPath path → IsBytes body → IsVersion version
    → op_of (object (with_whole (codes "version") version (cond no_body (op_members (codes "set") path) (cond text (with_text (codes "text") body (op_members (codes "set") path)) (with_text (codes "bytes") (encode_of standard body) (op_members (codes "set") path))))))
    ≡ Some (op.Set path body version)
unfolding op_of
set_by path body v true text none utf8 is bytes h = rw (is, version_is v h) (ap (λ b. Some (op.Set path b v)) (no_bytes body none))
set_by path body v false true none utf8 is bytes h = rw (is, version_is v h) refl
set_by path body v false false none utf8 is bytes h = rw (is, decoded_is body bytes, version_is v h) refl

pub op_is_read : (o : Op) → IsOp o → op_of (op_data o) ≡ Some o
unfolding op_of
op_is_read (op.Create path body owner) h = create_by path body owner _ _ refl refl h.0 h.1 h.2
op_is_read (op.Set path body version) h = set_by path body version _ _ refl refl h.0 h.1 h.2
op_is_read (op.Delete path version) h = rw (h.0, version_is version h.1) refl
op_is_read (op.Check path version) h = rw (h.0, version_is version h.1) refl

ops_are_read : (os : List Op) → Each IsOp os → ops_in (items_of (map op_data os)) ≡ Some os
ops_are_read [] h = refl
ops_are_read (o ∷ os) h =
    ap (option_and_then (λ p. option_map (λ ps. p ∷ ps) (ops_in (items_of (map op_data os))))) (op_is_read o h.0)
    ∙ ap (option_map (λ ps. o ∷ ps)) (ops_are_read os h.1)

-- ---- events

id_is : (c : ℤ) → IsId c → id_of (whole_data c) ≡ Some c
id_is c h = up_to_is 2147483647 c h

ids_are_read : (ids : List ℤ) → Each IsId ids → ids_in (items_of (map whole_data ids)) ≡ Some ids
ids_are_read [] h = refl
ids_are_read (id ∷ ids) h =
    ap (option_and_then (λ c. option_map (λ cs. c ∷ cs) (ids_in (items_of (map whole_data ids))))) (id_is id h.0)
    ∙ ap (option_map (λ cs. id ∷ cs)) (ids_are_read ids h.1)

distinct_are_read : (ids : List ℤ) → Each IsId ids → are_distinct ids ≡ true → option_and_then distinct_ids (ids_in (items_of (map whole_data ids))) ≡ Some ids
distinct_are_read ids h distinct = ap (option_and_then distinct_ids) (ids_are_read ids h) ∙ ap (λ b. cond b (Some ids) None) distinct

time_is : (t : ℤ) → IsTime t → whole_up_to 9223372036854775807 (whole_data t) ≡ Some t
time_is t h = up_to_is 9223372036854775807 t h

is_zero : (now : ℤ) → int_eq now (pos 0) ≡ true → pos 0 ≡ now
is_zero now h = sym ((Decides-int_eq now (pos 0)).0 h)

elect_by : (c now : ℤ) (zero : Bool) → int_eq now (pos 0) ≡ zero → IsId c → IsTime now
    → event_of (object (cond zero (controller_members (codes "elect") c) (with_whole (codes "now") now (controller_members (codes "elect") c)))) ≡ Some (Elect c now)
elect_by c now true is id time = rw (id_is c id) (ap (λ t. Some (Elect c t)) (is_zero now is))
elect_by c now false is id time = rw (id_is c id, time_is now time) refl

turn_by : (c now : ℤ) (zero : Bool) → int_eq now (pos 0) ≡ zero → IsId c → IsTime now
    → event_of (object (cond zero (controller_members (codes "turn") c) (with_whole (codes "now") now (controller_members (codes "turn") c)))) ≡ Some (Turn c now)
turn_by c now true is id time = rw (id_is c id) (ap (λ t. Some (Turn c t)) (is_zero now is))
turn_by c now false is id time = rw (id_is c id, time_is now time) refl

step_by : (c now : ℤ) (p : Plan) (zero : Bool) → int_eq now (pos 0) ≡ zero → IsId c → IsTime now
    → event_of (object (with_plan p (cond zero (controller_members (codes "step") c) (with_whole (codes "now") now (controller_members (codes "step") c))))) ≡ Some (Step c now p)
step_by c now plan.Deliver true is id time = rw (id_is c id) (ap (λ t. Some (Step c t plan.Deliver)) (is_zero now is))
step_by c now plan.Deliver false is id time = rw (id_is c id, time_is now time) refl
step_by c now plan.LostBefore true is id time = rw (id_is c id) (ap (λ t. Some (Step c t plan.LostBefore)) (is_zero now is))
step_by c now plan.LostBefore false is id time = rw (id_is c id, time_is now time) refl
step_by c now plan.LostAfter true is id time = rw (id_is c id) (ap (λ t. Some (Step c t plan.LostAfter)) (is_zero now is))
step_by c now plan.LostAfter false is id time = rw (id_is c id, time_is now time) refl
step_by c now plan.Expired true is id time = rw (id_is c id) (ap (λ t. Some (Step c t plan.Expired)) (is_zero now is))
step_by c now plan.Expired false is id time = rw (id_is c id, time_is now time) refl

finalise_by : (c now : ℤ) (zero : Bool) → int_eq now (pos 0) ≡ zero → IsId c → IsTime now
    → event_of (object (cond zero (controller_members (codes "finalise") c) (with_whole (codes "now") now (controller_members (codes "finalise") c)))) ≡ Some (Finalise c now)
finalise_by c now true is id time = rw (id_is c id) (ap (λ t. Some (Finalise c t)) (is_zero now is))
finalise_by c now false is id time = rw (id_is c id, time_is now time) refl

register_by : (c b now : ℤ) (m : Bool) (zero : Bool) → int_eq now (pos 0) ≡ zero → IsId c → IsId b → IsTime now
    → event_of (object (put (codes "migrating") (boolean m) (with_whole (codes "broker") b (cond zero (controller_members (codes "register") c) (with_whole (codes "now") now (controller_members (codes "register") c))))))
    ≡ Some (Register c b m now)
register_by c b now m true is id broker time = rw (id_is c id, id_is b broker) (ap (λ t. Some (Register c b m t)) (is_zero now is))
register_by c b now m false is id broker time = rw (id_is c id, id_is b broker, time_is now time) refl

change_by : (c now : ℤ) (rs : List MetaRecord) (zero : Bool) → int_eq now (pos 0) ≡ zero → IsId c → AreSomeRecords rs → IsTime now
    → event_of (object (put (codes "records") (array (items_of (map record_data rs))) (cond zero (controller_members (codes "change") c) (with_whole (codes "now") now (controller_members (codes "change") c)))))
    ≡ Some (Change c rs now)
change_by c now rs true is id changes time = rw (id_is c id, some_are_read rs changes) (ap (λ t. Some (Change c rs t)) (is_zero now is))
change_by c now rs false is id changes time = rw (id_is c id, some_are_read rs changes, time_is now time) refl

zk_says : (os : List Op) → AreSomeOps os → event_of (object (members_of_event (Zk os))) ≡ Some (Zk os)
zk_says [] h = absurd h
zk_says (o ∷ os) h = ap (option_and_then some_ops) (ops_are_read (o ∷ os) h)

event_says : (e : Event) → IsEvent e → event_of (object (members_of_event e)) ≡ Some e
event_says (Quorum ids) h = ap (option_map (λ is. Quorum is)) (distinct_are_read ids h.0 h.1)
event_says (Start c) h = rw (id_is c h) refl
event_says (Stop None) h = refl
event_says (Stop (Some c)) h = rw (id_is c h) refl
event_says (Elect c now) h = elect_by c now _ refl h.0 h.1
event_says (Step c now p) h = step_by c now p _ refl h.0 h.1
event_says (Turn c now) h = turn_by c now _ refl h.0 h.1
event_says (Register c b m now) h = register_by c b now m _ refl h.0 h.1 h.2
event_says (Change c records now) h = change_by c now records _ refl h.0 h.1 h.2
event_says (Finalise c now) h = finalise_by c now _ refl h.0 h.1
event_says Rollback h = refl
event_says Snapshot h = refl
event_says Check h = refl
event_says (ZkOpen s) h = rw (session_is s h) refl
event_says (ZkExpire s) h = rw (session_is s h) refl
event_says (Zk os) h = zk_says os h

pub event_is_read : (e : Event) → IsEvent e → line_event (written_event e) ≡ Some e
unfolding line_event written_event
event_is_read e h = ap (option_and_then event_of) (plain_within 5 (object (members_of_event e)) (omega arith) (event_is_plain e h)) ∙ event_says e h
