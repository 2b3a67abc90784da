-- Every event keeps the end of a migration, and so does every run.
use Rattle.std.proofs.Common.{◌≡◌, inl, inr, ℤ, Bool, true, false, if◌then◌else◌, List, [], ◌∷◌, Option, Some, None, All, refl, sym, ap, ◌∙◌, subst}
use Rattle.std.specs.Prelude.{Result, Ok, Err}
use Rattle.std.specs.Ordering.{int_eq}
use Rattle.std.proofs.lemmas.List.Elements.{All-nil, All-cons, All-head, All-tail}
use Rattle.kz_types.specs.declared.codes.TheConstants.{POST_MIGRATION}
use Rattle.kz_types.specs.declared.driver.Stage.{Stage}
use Rattle.kz_types.specs.declared.driver.Stage.TheVariants as stage
use Rattle.kz_types.specs.declared.fault.TreeFault.{TreeFault}
use Rattle.kz_types.specs.declared.move_fault.MoveFault.{MoveFault}
use Rattle.kz_types.specs.declared.machine.Answer.TheVariants as answer
use Rattle.kz_types.specs.declared.machine.Event.{Event}
use Rattle.kz_types.specs.declared.machine.Event.TheVariants as event
use Rattle.kz_types.specs.declared.record.MetaRecord.{MetaRecord}
use Rattle.kz_types.specs.declared.tree.Op.{Op}
use Rattle.kz_spec_data.specs.Tree.{Tree, multi, begin_session, end_session}
use Rattle.kz_spec_data.specs.Log.{Log, empty_log, image_at, image_of, with_batch, is_open_log, reset}
use Rattle.kz_spec_machine.specs.Driver.{Shared, Driver, new_driver, elected_driver}
use Rattle.kz_spec_machine.specs.Machine.{World, empty_world, driver_of, quorum_refusal, declared_world, start_refusal, started_world, stop_refusal, stopped_world, next_epoch, election_refusal, elected_world, election_answer, change_refusal, changed_world, registration, register_refusal, is_finalised_log, exit_ops, tree_after_ops, reset_world, given_back, rollback_refusal, with_tree, moved_world, is_held_tree, client_refusal, client_world, next, after_events, cut_world, snapshot_refusal}
use Rattle.kz_spec_machine.specs.Sound.{LogShape, IsBelowShown, claim_version, shown_in, Sound, IsLawful}
use Rattle.kz_laws_machine.specs.Effects.{IsUnchanged}
use Rattle.kz_laws_machine.specs.LogLaws.{IsPlain}
use Rattle.kz_laws_machine.proofs.Asked.{asked_plain}
use Rattle.kz_laws_machine.proofs.Migration.{plain_keeps_state}
use Rattle.kz_laws_machine.proofs.Sessions.{begin_leaves, end_leaves}
use Rattle.kz_laws_machine.proofs.Clients.{client_leaves_held}
use Rattle.kz_laws_machine.proofs.Opened.{elected_records}
use Rattle.kz_laws_machine.proofs.Batches.{elected_plain}
use Rattle.kz_laws_events.proofs.Tests.{true_or_false}
use Rattle.kz_laws_events.proofs.Worlds.{decided, left_was_there}
use Rattle.kz_laws_events.proofs.EventCases.{each_more, unless_taken}
use Rattle.kz_laws_events.proofs.Refusals.{decided_by}
use Rattle.kz_laws_events.proofs.Elected.{MayElect, may_elect, elected_of, stateless, was}
use Rattle.kz_laws_events.proofs.Elections.{WasFound, was_found}
use Rattle.kz_laws_events.proofs.Changed.{may_change, more_of}
use Rattle.kz_laws_events.proofs.Unheld.{unmigrated, none_claimed}
use Rattle.kz_laws_events.proofs.Exits.{may_roll_back}
use Rattle.kz_laws_events.proofs.Every.{event_sound}
use Rattle.kz_laws_events.proofs.Runs.{empty_sound}
use Rattle.kz_laws_exits.specs.Ends.{RestsAtStage, HasEnded, EndHolds}
use Rattle.kz_laws_exits.proofs.GivenBack.{reset_unfinished}
use Rattle.kz_laws_exits.proofs.Ahead.{same_ahead, past_ahead}
use Rattle.kz_laws_exits.proofs.Final.{final_migrated, not_final}
use Rattle.kz_laws_exits.proofs.Turns.{stepped_ends, turned_ends}
use Rattle.kz_laws_exits.proofs.Finalised.{finalise_ends}
use Rattle.kz_laws_events.proofs.Snapshots.{may_snapshot, cut_is}

-- ---- a longer log that isn't finalised by what is new

pub plain_final : (l : Log) (epoch now : ℤ) (items : List MetaRecord) → LogShape l → All IsPlain items → is_finalised_log (with_batch l epoch now items) ≡ is_finalised_log l
plain_final l epoch now items shape plain = ap (λ (s : ℤ). int_eq s POST_MIGRATION) (plain_keeps_state l epoch now items shape plain)

longer_ends : (w : World) (now : ℤ) (items : List MetaRecord) → (is_finalised_log (more_of w.shared now items) ≡ true → is_finalised_log w.shared.log ≡ true) → EndHolds w → EndHolds (changed_world w items now)
longer_ends w now items back old = record {
  closed = λ final. old.closed (back final);
  each = λ j f found. record { rests = λ final. (old.each j f found).rests (back final); ahead = (old.each j f found).ahead };
}

change_ends : (w : World) (id now : ℤ) (records : List MetaRecord) → Sound w → EndHolds w → EndHolds (next w (event.Change id records now)).0
unfolding next
change_ends w id now records sound old = decided_by EndHolds w (change_refusal w id records) (changed_world w records now) _ old (λ none.
    longer_ends w now records (λ final. sym (plain_final w.shared.log w.shared.log.epoch now records sound.kept.log (asked_plain 0 records (image_of w.shared.log) (may_change w id records none).lawful)) ∙ final) old)

pub registration_plain : (broker : ℤ) (migrating : Bool) → All IsPlain (registration broker migrating)
registration_plain broker migrating = All-cons IsPlain _ [] tt (All-nil IsPlain)

register_ends : (w : World) (id broker now : ℤ) (migrating : Bool) → Sound w → EndHolds w → EndHolds (next w (event.Register id broker migrating now)).0
unfolding next
register_ends w id broker now migrating sound old = decided_by EndHolds w (register_refusal w id (registration broker migrating)) (changed_world w (registration broker migrating) now) _ old (λ none.
    longer_ends w now (registration broker migrating) (λ final. sym (plain_final w.shared.log w.shared.log.epoch now (registration broker migrating) sound.kept.log (registration_plain broker migrating)) ∙ final) old)

-- ---- an election

elected_was_final : (s : Shared) (now : ℤ) → MayElect s → is_finalised_log (elected_of s.log now) ≡ true → is_finalised_log s.log ≡ true
elected_was_final s now m final =
    let l = s.log in
    let first = stateless l (was s now m (final_migrated (elected_of l now) final)) in
    let plain : is_finalised_log (with_batch l (next_epoch l) now (elected_records (is_open_log l) false)) ≡ is_finalised_log l = plain_final l (next_epoch l) now (elected_records (is_open_log l) false) m.kept.log (elected_plain (is_open_log l)) in
    sym plain ∙ (sym (ap (λ (b : Bool). is_finalised_log (with_batch l (next_epoch l) now (elected_records (is_open_log l) b))) first) ∙ final)

elected_ended : (w : World) (id now epoch : ℤ) (d : Driver) (b : Bool) → MayElect w.shared → HasEnded w.shared d → HasEnded (record w.shared { log = elected_of w.shared.log now }) (if b then elected_driver epoch d else d)
elected_ended w id now epoch d true m old = record { rests = λ final some. tt; ahead = tt }
elected_ended w id now epoch d false m old = record { rests = λ final. old.rests (elected_was_final w.shared now m final); ahead = old.ahead }

elected_ends : (w : World) (id now : ℤ) → MayElect w.shared → EndHolds w → EndHolds (elected_world w id now)
elected_ends w id now m old = record {
  closed = λ final. old.closed (elected_was_final w.shared now m final);
  each = λ j f found.
      let k : WasFound w.drivers id (next_epoch w.shared.log) j f = was_found w.drivers id (next_epoch w.shared.log) j f found in
      subst (HasEnded (record w.shared { log = elected_of w.shared.log now })) (sym k.is) (elected_ended w id now (next_epoch w.shared.log) k.old (int_eq k.old.id id) m (old.each j k.old k.found));
}

election_ends : (w : World) (id now : ℤ) → Sound w → EndHolds w → EndHolds (next w (event.Elect id now)).0
unfolding next
election_ends w id now sound old = decided_by EndHolds w (election_refusal w id) (elected_world w id now) (election_answer w now) old (λ none. elected_ends w id now (may_elect w id sound none) old)

-- ---- clients

rests_unchanged : (t new : Tree) (d : Driver) (x : Stage) → IsUnchanged t new → RestsAtStage t d x → RestsAtStage new d x
rests_unchanged t new d stage.WaitForControllerQuorum u rests = tt
rests_unchanged t new d stage.DualWrite u (inl current) = inl (current.0 ∙ sym u.version, current.1)
rests_unchanged t new d stage.DualWrite u (inr below) = inr (subst (λ (m : Option ℤ). IsBelowShown m d.epoch) (sym u.shown) below)
rests_unchanged t new d x u below = subst (λ (m : Option ℤ). IsBelowShown m d.epoch) (sym u.shown) below

unchanged_ends : (w : World) (new : Tree) → IsUnchanged w.shared.tree new → EndHolds w → EndHolds (with_tree w new)
unchanged_ends w new u old = record {
  closed = λ final. u.unclosed ∙ old.closed final;
  each = λ j f found. record {
    rests = λ final some. rests_unchanged w.shared.tree new f f.stage u ((old.each j f found).rests final some);
    ahead = same_ahead w.shared.tree new f.claim f.stage u.version u.recorded (old.each j f found).ahead;
  };
}

moved_ends : (w : World) (r : Result Tree MoveFault) → ((new : Tree) → r ≡ Ok new → IsUnchanged w.shared.tree new) → EndHolds w → EndHolds (moved_world w r).0
moved_ends w (Ok new) unchanged old = unchanged_ends w new (unchanged new refl) old
moved_ends w (Err f) unchanged old = old

open_ends : (w : World) (session : ℤ) → Sound w → EndHolds w → EndHolds (next w (event.ZkOpen session)).0
unfolding next
open_ends w session sound old = moved_ends w (begin_session w.shared.tree session) (λ new is. (begin_leaves w.shared.tree new session is sound.kept.tree).1) old

expire_ends : (w : World) (session : ℤ) → Sound w → EndHolds w → EndHolds (next w (event.ZkExpire session)).0
unfolding next
expire_ends w session sound old = moved_ends w (end_session w.shared.tree session) (λ new is. (end_leaves w.shared.tree new session is sound.kept.tree).1) old

-- a tree that no KRaft controller holds stands beside a log that isn't migrated, and no driver has a claim on it
unheld_ends : (w : World) (new : Tree) → is_held_tree w.shared.tree ≡ false → Sound w → EndHolds (with_tree w new)
unheld_ends w new none sound =
    let early : is_finalised_log w.shared.log ≡ true → ⊥ = not_final w.shared.log (unmigrated w.shared sound.kept none) in
    record {
      closed = λ final. absurd (early final);
      each = λ j f found. record {
        rests = λ final. absurd (early final);
        ahead = past_ahead new f.claim f.stage (λ current. current.1 (none_claimed w.shared.log.epoch (claim_version w.shared.tree) (shown_in w.shared.tree) f.epoch f.claim (sound.each j f found).claims none));
      };
    }

client_made : (w : World) (ops : List Op) (new : Tree) (b : Bool) → is_held_tree w.shared.tree ≡ b → multi w.shared.tree ops ≡ Ok new → client_refusal w.shared.tree ops ≡ None → Sound w → EndHolds w → EndHolds (with_tree w new)
client_made w ops new true held is none sound old = unchanged_ends w new (client_leaves_held w.shared.tree new ops is none held sound.kept.tree) old
client_made w ops new false held is none sound old = unheld_ends w new held sound

client_by : (w : World) (ops : List Op) (r : Result Tree TreeFault) → multi w.shared.tree ops ≡ r → client_refusal w.shared.tree ops ≡ None → Sound w → EndHolds w → EndHolds (client_world w r).0
client_by w ops (Ok new) is none sound old = client_made w ops new (is_held_tree w.shared.tree) refl is none sound old
client_by w ops (Err f) is none sound old = old

client_ends : (w : World) (ops : List Op) → Sound w → EndHolds w → EndHolds (next w (event.Zk ops)).0
unfolding next
client_ends w ops sound old = unless_taken EndHolds w (client_refusal w.shared.tree ops) (client_world w (multi w.shared.tree ops)) old (λ none. client_by w ops (multi w.shared.tree ops) refl none sound old)

-- ---- controllers

quorum_ends : (w : World) (ids : List ℤ) → EndHolds w → EndHolds (next w (event.Quorum ids)).0
unfolding next
quorum_ends w ids old = decided EndHolds w (quorum_refusal w ids) (declared_world w ids) answer.Done old (record {
  closed = old.closed;
  each = λ j f found. record { rests = (old.each j f found).rests; ahead = (old.each j f found).ahead };
})

start_ends : (w : World) (id : ℤ) → EndHolds w → EndHolds (next w (event.Start id)).0
unfolding next
start_ends w id old = decided EndHolds w (start_refusal w id) (started_world w id) answer.Done old (record {
  closed = old.closed;
  each = each_more (HasEnded w.shared) w.drivers (new_driver id) old.each (record { rests = λ final some. absurd (some refl); ahead = tt });
})

stopped : (w : World) (controller : Option ℤ) → EndHolds w → EndHolds (stopped_world w controller)
stopped w None old = record { closed = old.closed; each = λ j f found. absurd (cc) }
stopped w (Some gone) old = record { closed = old.closed; each = λ j f found. old.each j f (left_was_there w.drivers gone j f found).1 }

stop_ends : (w : World) (controller : Option ℤ) → EndHolds w → EndHolds (next w (event.Stop controller)).0
unfolding next
stop_ends w controller old = decided EndHolds w (stop_refusal w controller) (stopped_world w controller) answer.Done old (stopped w controller old)

snapshot_ends : (w : World) → Sound w → EndHolds w → EndHolds (next w event.Snapshot).0
unfolding next
snapshot_ends w sound old = decided_by EndHolds w (snapshot_refusal w) (cut_world w) answer.Done old (λ none.
    let c = cut_is w sound (may_snapshot w none) in
    record {
      closed = λ final. old.closed (sym c.finalised ∙ final);
      each = λ j f found. record { rests = λ final elected. (old.each j f found).rests (sym c.finalised ∙ final) elected; ahead = (old.each j f found).ahead };
    })

check_ends : (w : World) → EndHolds w → EndHolds (next w event.Check).0
unfolding next
check_ends w old = old

-- ---- a rollback

reset_ends : (w : World) (s : Shared) → s.log ≡ reset w.shared.log → w.drivers ≡ [] → EndHolds (record { shared = s; drivers = w.drivers })
reset_ends w s log none = record {
  closed = λ final. absurd (true_or_false (is_finalised_log s.log) final (ap is_finalised_log log ∙ reset_unfinished w.shared.log));
  each = λ j f found. absurd (let nobody : driver_of j [] ≡ Some f = subst (λ (ds : List Driver). driver_of j ds ≡ Some f) none found in cc);
}

given_back_ends : (w : World) (r : Result Tree TreeFault) → w.drivers ≡ [] → EndHolds (given_back (reset_world w) r).0
given_back_ends w (Ok t) none = reset_ends w (record w.shared { log = reset w.shared.log; tree = t }) refl none
given_back_ends w (Err f) none = reset_ends w (record w.shared { log = reset w.shared.log }) refl none

rollback_ends : (w : World) → EndHolds w → EndHolds (next w event.Rollback).0
unfolding next
rollback_ends w old = unless_taken EndHolds w (rollback_refusal w) (given_back (reset_world w) (tree_after_ops w.shared.tree (exit_ops w.shared.tree))) old
    (λ none. given_back_ends w (tree_after_ops w.shared.tree (exit_ops w.shared.tree)) (may_roll_back w none).alone)

-- ---- every event

pub event_ends : (w : World) (e : Event) → IsLawful e → Sound w → EndHolds w → EndHolds (next w e).0
event_ends w (event.Quorum ids) lawful sound old = quorum_ends w ids old
event_ends w (event.Start id) lawful sound old = start_ends w id old
event_ends w (event.Stop controller) lawful sound old = stop_ends w controller old
event_ends w (event.Elect id now) lawful sound old = election_ends w id now sound old
event_ends w (event.Step id now p) lawful sound old = stepped_ends w id now p lawful.1 sound old
event_ends w (event.Turn id now) lawful sound old = turned_ends w id now lawful.1 sound old
event_ends w (event.Change id records now) lawful sound old = change_ends w id now records sound old
event_ends w (event.Register id broker migrating now) lawful sound old = register_ends w id broker now migrating sound old
event_ends w (event.Finalise id now) lawful sound old = finalise_ends w id now sound old
event_ends w event.Rollback lawful sound old = rollback_ends w old
event_ends w event.Snapshot lawful sound old = snapshot_ends w sound old
event_ends w event.Check lawful sound old = check_ends w old
event_ends w (event.ZkOpen session) lawful sound old = open_ends w session sound old
event_ends w (event.ZkExpire session) lawful sound old = expire_ends w session sound old
event_ends w (event.Zk ops) lawful sound old = client_ends w ops sound old

pub run_ends : (es : List Event) (w : World) → All IsLawful es → Sound w → EndHolds w → EndHolds (after_events w es)
unfolding after_events
run_ends [] w lawful sound old = old
run_ends (e ∷ es) w lawful sound old =
    let own = All-head IsLawful e es lawful in
    run_ends es (next w e).0 (All-tail IsLawful e es lawful) (event_sound w e own sound) (event_ends w e own sound old)

-- ---- from the empty world

early : is_finalised_log empty_log ≡ true → ⊥
unfolding image_at
early final = cc

pub empty_ends : EndHolds empty_world
empty_ends = record { closed = λ final. absurd (early final); each = λ id d found. absurd (cc) }

pub first_run_ends : (es : List Event) → All IsLawful es → EndHolds (after_events empty_world es)
first_run_ends es lawful = run_ends es empty_world lawful empty_sound empty_ends
