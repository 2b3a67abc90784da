-- The events that lines give are lawful.
use Rattle.std.proofs.Common.{◌≡◌, ℕ, ◌==◌, ◌≤◌, ℤ, Bool, true, false, if◌then◌else◌, List, [], ◌∷◌, length, Option, Some, None, option_map, All, subst, arith}
use Rattle.std.specs.Prelude.{⊤, option_and_then, codes}
use Rattle.std.proofs.lemmas.List.Elements.{All-nil, All-cons}
use Rattle.serde_json.specs.Data.{Data, Items, no_items, item}
use Rattle.serde_json.specs.Find.{get, as_bool}
use Rattle.kz_types.specs.declared.machine.Event.{Event}
use Rattle.kz_types.specs.declared.machine.Event.TheVariants as event
use Rattle.kz_types.specs.declared.record.MetaRecord.{MetaRecord}
use Rattle.kz_spec_data.specs.Json.{json_of, member_count, text_member, by_name, count_with}
use Rattle.kz_spec_data.specs.Lines.{Item, line, long, much, items, is_passed_over}
use Rattle.kz_spec_data.specs.Events.{id_of, controller_of, now_of, timed_count, quorum_of, start_of, elect_of, turn_of, records_in, some_records, change_of, register_of, finalise_of, rollback_of, check_of, event_forms, event_of, line_event, ids_in, distinct_ids, stop_by, stop_of, plan_by, step_of, snapshot_of}
use Rattle.kz_spec_machine.specs.Sound.{IsId, IsTime, IsLawful}
use Rattle.kz_spec_machine.specs.InStep.{events_on, events_of, script_events}
use Rattle.kz_types.specs.Numbers.{are_distinct}
use Rattle.kz_types.specs.declared.plan.Plan.{Plan}
use Rattle.kz_laws_scripts.proofs.Given.{OfSome, after, mapped, anything, where_true, id_is, time_is, id_at, controller_is, items_at, one_more, by_name_gives}
use Rattle.kz_laws_scripts.proofs.Clients.{open_lawful, expire_lawful, zk_lawful}

-- ---- events

ids_are : (ds : Items) → OfSome (All IsId) (ids_in ds)
ids_are no_items = All-nil IsId
ids_are (item d ds) = one_more IsId (id_of d) (ids_in ds) (id_is d) (ids_are ds)

-- what is declared
abbrev IsDeclared : List ℤ → Type 0
IsDeclared ids = All IsId ids × (are_distinct ids ≡ true)

distinct_are : (ids : List ℤ) → All IsId ids → OfSome IsDeclared (distinct_ids ids)
distinct_are ids all = where_true IsDeclared (are_distinct ids) (Some ids) (λ is. (all, is))

quorum_lawful : (d : Data) → OfSome IsLawful (quorum_of d)
quorum_lawful d = where_true IsLawful (member_count d == 2) _ (λ two. mapped IsDeclared IsLawful (λ ids. event.Quorum ids) (option_and_then distinct_ids (option_and_then ids_in (items_at (codes "ids") d)))
    (after (All IsId) IsDeclared distinct_ids (option_and_then ids_in (items_at (codes "ids") d)) (after (λ (x : Items). ⊤) (All IsId) ids_in (items_at (codes "ids") d) (anything (items_at (codes "ids") d)) (λ ds t. ids_are ds)) distinct_are) (λ ids both. both))

start_lawful : (d : Data) → OfSome IsLawful (start_of d)
start_lawful d = where_true IsLawful (member_count d == 2) _ (λ two. mapped IsId IsLawful (λ c. event.Start c) (controller_of d) (controller_is d) (λ c is. is))

stop_is : (o : Option Data) → OfSome IsLawful (stop_by o)
stop_is None = tt
stop_is (Some d) = mapped IsId IsLawful (λ c. event.Stop (Some c)) (id_of d) (id_is d) (λ c is. is)

stop_lawful : (d : Data) → OfSome IsLawful (stop_of d)
stop_lawful d = where_true IsLawful (member_count d == count_with (get (codes "controller") d) 1) _ (λ few. stop_is (get (codes "controller") d))

elect_lawful : (d : Data) → OfSome IsLawful (elect_of d)
elect_lawful d = where_true IsLawful (member_count d == timed_count 2 d) _ (λ few. after IsId IsLawful (λ c. option_map (λ t. event.Elect c t) (now_of d)) (controller_of d) (controller_is d)
    (λ c is. mapped IsTime IsLawful (λ t. event.Elect c t) (now_of d) (time_is (get (codes "now") d)) (λ t low. (is, low))))

step_lawful : (d : Data) → OfSome IsLawful (step_of d)
step_lawful d = where_true IsLawful (member_count d == count_with (get (codes "plan") d) (timed_count 2 d)) _ (λ few. after IsId IsLawful _ (controller_of d) (controller_is d)
    (λ c is. after IsTime IsLawful (λ t. option_map (λ p. event.Step c t p) (plan_by (get (codes "plan") d))) (now_of d) (time_is (get (codes "now") d))
    (λ t low. mapped (λ (p : Plan). ⊤) IsLawful (λ p. event.Step c t p) (plan_by (get (codes "plan") d)) (anything (plan_by (get (codes "plan") d))) (λ p u. (is, low)))))

turn_lawful : (d : Data) → OfSome IsLawful (turn_of d)
turn_lawful d = where_true IsLawful (member_count d == timed_count 2 d) _ (λ few. after IsId IsLawful (λ c. option_map (λ t. event.Turn c t) (now_of d)) (controller_of d) (controller_is d)
    (λ c is. mapped IsTime IsLawful (λ t. event.Turn c t) (now_of d) (time_is (get (codes "now") d)) (λ t low. (is, low))))

finalise_lawful : (d : Data) → OfSome IsLawful (finalise_of d)
finalise_lawful d = where_true IsLawful (member_count d == timed_count 2 d) _ (λ few. after IsId IsLawful (λ c. option_map (λ t. event.Finalise c t) (now_of d)) (controller_of d) (controller_is d)
    (λ c is. mapped IsTime IsLawful (λ t. event.Finalise c t) (now_of d) (time_is (get (codes "now") d)) (λ t low. (is, low))))

-- a change has a record
abbrev HasRecord : List MetaRecord → Type 0
HasRecord records = 1 ≤ length records

some_are : (records : List MetaRecord) → OfSome HasRecord (some_records records)
some_are [] = tt
some_are (r ∷ rs) = omega arith

change_lawful : (d : Data) → OfSome IsLawful (change_of d)
change_lawful d = where_true IsLawful (member_count d == timed_count 3 d) _ (λ few. after IsId IsLawful _ (controller_of d) (controller_is d)
    (λ c is. after HasRecord IsLawful (λ rs. option_map (λ t. event.Change c rs t) (now_of d)) (option_and_then some_records (option_and_then records_in (items_at (codes "records") d)))
    (after (λ (rs : List MetaRecord). ⊤) HasRecord some_records (option_and_then records_in (items_at (codes "records") d)) (anything (option_and_then records_in (items_at (codes "records") d))) (λ rs t. some_are rs))
    (λ rs some. mapped IsTime IsLawful (λ t. event.Change c rs t) (now_of d) (time_is (get (codes "now") d)) (λ t low. (is, low, some)))))

register_lawful : (d : Data) → OfSome IsLawful (register_of d)
register_lawful d = where_true IsLawful (member_count d == timed_count 4 d) _ (λ few. after IsId IsLawful _ (controller_of d) (controller_is d)
    (λ c is. after IsId IsLawful _ (option_and_then id_of (get (codes "broker") d)) (id_at (codes "broker") d)
    (λ b broker. after (λ (m : Bool). ⊤) IsLawful (λ m. option_map (λ t. event.Register c b m t) (now_of d)) (option_and_then as_bool (get (codes "migrating") d)) (anything (option_and_then as_bool (get (codes "migrating") d)))
    (λ m u. mapped IsTime IsLawful (λ t. event.Register c b m t) (now_of d) (time_is (get (codes "now") d)) (λ t low. (is, broker, low))))))

rollback_lawful : (d : Data) → OfSome IsLawful (rollback_of d)
rollback_lawful d = where_true IsLawful (member_count d == 1) (Some event.Rollback) (λ one. tt)

snapshot_lawful : (d : Data) → OfSome IsLawful (snapshot_of d)
snapshot_lawful d = where_true IsLawful (member_count d == 1) (Some event.Snapshot) (λ one. tt)

check_lawful : (d : Data) → OfSome IsLawful (check_of d)
check_lawful d = where_true IsLawful (member_count d == 1) (Some event.Check) (λ one. tt)

-- ---- every event

form_lawful : (name : List ℕ) (d : Data) → OfSome IsLawful (by_name event_forms name d)
form_lawful name d = by_name_gives IsLawful event_forms name d (quorum_lawful, (start_lawful, (stop_lawful, (elect_lawful, (step_lawful, (turn_lawful, (register_lawful, (change_lawful, (finalise_lawful, (rollback_lawful, (snapshot_lawful, (check_lawful, (open_lawful, (expire_lawful, (zk_lawful, tt)))))))))))))))

event_lawful : (d : Data) → OfSome IsLawful (event_of d)
event_lawful d = after (λ (x : List ℕ). ⊤) IsLawful (λ name. by_name event_forms name d) (text_member (codes "event") d) (anything (text_member (codes "event") d)) (λ name t. form_lawful name d)

-- the event that a line is
line_lawful : (bytes : List ℕ) → OfSome IsLawful (line_event bytes)
unfolding line_event
line_lawful bytes = after (λ (x : Data). ⊤) IsLawful event_of (json_of bytes) (anything (json_of bytes)) (λ d t. event_lawful d)

pub lawful_line : (bytes : List ℕ) (e : Event) → line_event bytes ≡ Some e → IsLawful e
lawful_line bytes e is = subst (OfSome IsLawful) is (line_lawful bytes)

-- ---- scripts

on_lawful : (o : Option Event) (rest : List Event) → OfSome IsLawful o → All IsLawful rest → All IsLawful (events_on o rest)
on_lawful None rest is all = All-nil IsLawful
on_lawful (Some e) rest is all = All-cons IsLawful e rest is all

passed_over : (b : Bool) (rest more : List Event) → All IsLawful rest → All IsLawful more → All IsLawful (if b then rest else more)
passed_over true rest more first second = first
passed_over false rest more first second = second

events_lawful : (is : List Item) → All IsLawful (events_of is)
events_lawful [] = All-nil IsLawful
events_lawful (long ∷ is) = All-nil IsLawful
events_lawful (much ∷ is) = All-nil IsLawful
events_lawful (line l ∷ is) = passed_over (is_passed_over l) (events_of is) (events_on (line_event l) (events_of is)) (events_lawful is) (on_lawful (line_event l) (events_of is) (line_lawful l) (events_lawful is))

-- the events of a script
pub script_lawful : (bytes : List ℕ) → All IsLawful (script_events bytes)
script_lawful bytes = events_lawful (items bytes)
