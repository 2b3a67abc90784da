-- What is copied after an event and a run.
use Rattle.std.proofs.Common.{◌≡◌, ℤ, Bool, true, false, List, [], ◌∷◌, Option, Some, None, All, refl, ◌∙◌, subst}
use Rattle.std.specs.Prelude.{◌≤◌, length, Result, Ok, Err}
use Rattle.std.proofs.lemmas.List.Elements.{All-head, All-tail}
use Rattle.kz_types.specs.declared.tree.Op.{Op}
use Rattle.kz_types.specs.declared.fault.TreeFault.{TreeFault}
use Rattle.kz_types.specs.declared.move_fault.MoveFault.{MoveFault}
use Rattle.kz_types.specs.declared.driver.Stage.{Stage}
use Rattle.kz_types.specs.declared.driver.Stage.TheVariants as stage
use Rattle.kz_types.specs.declared.machine.Event.{Event}
use Rattle.kz_types.specs.declared.machine.Event.TheVariants as event
use Rattle.kz_types.specs.declared.machine.Answer.TheVariants as answer
use Rattle.kz_types.specs.declared.record.MetaRecord.{MetaRecord}
use Rattle.kz_spec_data.specs.Tree.{Tree, multi, begin_session, end_session}
use Rattle.kz_spec_data.specs.Log.{Log, is_open_log, begun_of}
use Rattle.kz_spec_machine.specs.Driver.{Shared, Driver, new_driver}
use Rattle.kz_spec_machine.specs.Machine.{World, quorum_refusal, declared_world, start_refusal, started_world, stop_refusal, stopped_world, election_refusal, elected_world, election_answer, change_refusal, changed_world, registration, register_refusal, driver_of, final_records, finalise_refusal, exit_ops, tree_after_ops, reset_world, given_back, rollback_refusal, with_tree, moved_world, is_held_tree, client_refusal, client_world, next, after_events, cut_world, snapshot_refusal}
use Rattle.kz_spec_machine.specs.Sound.{LogShape, claim_version, shown_in, Sound, IsLawful}
use Rattle.kz_laws_machine.specs.Effects.{IsUnchanged}
use Rattle.kz_laws_machine.proofs.Sessions.{begin_leaves, end_leaves}
use Rattle.kz_laws_machine.proofs.Clients.{client_leaves_held}
use Rattle.kz_laws_machine.proofs.Begun.{none_begun}
use Rattle.kz_laws_events.proofs.Worlds.{decided, left_was_there}
use Rattle.kz_laws_events.proofs.EventCases.{each_more, unless_taken}
use Rattle.kz_laws_events.proofs.Refusals.{decided_by}
use Rattle.kz_laws_events.proofs.Elected.{may_elect, elected_of, shape_elected, elected_closed}
use Rattle.kz_laws_events.proofs.Changed.{IsLeaderBatch, may_change, change_batch, register_batch, more_of, shape_more, more_closed}
use Rattle.kz_laws_events.proofs.Exits.{may_finalise, final_batch, may_roll_back}
use Rattle.kz_laws_events.proofs.Unheld.{none_claimed}
use Rattle.kz_laws_events.proofs.Every.{event_sound}
use Rattle.kz_laws_commits.specs.Commits.{CopiesAtStage, Copies}
use Rattle.kz_laws_commits.proofs.Others.{past_copies, same_copies}
use Rattle.kz_laws_commits.proofs.Turns.{EachCopies, stepped_copies, turned_copies}
use Rattle.kz_laws_events.proofs.Snapshots.{may_snapshot, cut_is}
use Rattle.kz_laws_events.proofs.Grown.{migrated_settled}

-- ---- logs in which no transaction is open

not_begun : (m : Option ℤ) (from : ℤ) → m ≡ None → m ≡ Some from → ⊥
not_begun m from none some = cc

settled_copies : (t : Tree) (l : Log) (f : Driver) (x : Stage) → LogShape l → is_open_log l ≡ false → CopiesAtStage t l f x
settled_copies t l f (stage.AppendRecords rest) shape settled = λ current leads from records begun so_far. absurd (not_begun (begun_of l) from (none_begun l shape settled) begun)
settled_copies t l f x shape settled = tt

election_copies : (w : World) (id now : ℤ) → Sound w → EachCopies w → EachCopies (next w (event.Elect id now)).0
unfolding next
election_copies w id now sound copies = decided_by EachCopies w (election_refusal w id) (elected_world w id now) (election_answer w now) copies (λ none j f found.
    let m = may_elect w id sound none in
    settled_copies w.shared.tree (elected_of w.shared.log now) f f.stage (shape_elected w.shared now m) (elected_closed w.shared now m))

batch_copies : (s : Shared) (now : ℤ) (items : List MetaRecord) (f : Driver) → IsLeaderBatch s now items → Copies (record s { log = more_of s now items }) f
batch_copies s now items f b = settled_copies s.tree (more_of s now items) f f.stage (shape_more s now items b) (more_closed s now items b)

change_copies : (w : World) (id now : ℤ) (records : List MetaRecord) → 1 ≤ length records → Sound w → EachCopies w → EachCopies (next w (event.Change id records now)).0
unfolding next
change_copies w id now records some sound copies = decided_by EachCopies w (change_refusal w id records) (changed_world w records now) _ copies (λ none j f found.
    batch_copies w.shared now records f (change_batch w id now records some sound (may_change w id records none)))

register_copies : (w : World) (id broker now : ℤ) (migrating : Bool) → Sound w → EachCopies w → EachCopies (next w (event.Register id broker migrating now)).0
unfolding next
register_copies w id broker now migrating sound copies = decided_by EachCopies w (register_refusal w id (registration broker migrating)) (changed_world w (registration broker migrating) now) _ copies (λ none j f found.
    batch_copies w.shared now (registration broker migrating) f (register_batch w id broker now migrating sound none))

finalise_copies : (w : World) (id now : ℤ) → Sound w → EachCopies w → EachCopies (next w (event.Finalise id now)).0
unfolding next
finalise_copies w id now sound copies = decided_by EachCopies w (finalise_refusal w id) (changed_world w final_records now) _ copies (λ none j f found.
    batch_copies w.shared now final_records f (final_batch w id now sound (may_finalise w id none)))

-- a rollback is of a world without drivers
none_copies : (w : World) → w.drivers ≡ [] → EachCopies w
none_copies w none j f found = absurd (let nobody : driver_of j [] ≡ Some f = subst (λ (ds : List Driver). driver_of j ds ≡ Some f) none found in cc)

given_back_copies : (w : World) (r : Result Tree TreeFault) → w.drivers ≡ [] → EachCopies (given_back (reset_world w) r).0
given_back_copies w (Ok t) none = none_copies (with_tree (reset_world w) t) none
given_back_copies w (Err f) none = none_copies (reset_world w) none

rollback_copies : (w : World) → EachCopies w → EachCopies (next w event.Rollback).0
unfolding next
rollback_copies w copies = unless_taken EachCopies w (rollback_refusal w) (given_back (reset_world w) (tree_after_ops w.shared.tree (exit_ops w.shared.tree))) copies
    (λ none. given_back_copies w (tree_after_ops w.shared.tree (exit_ops w.shared.tree)) (may_roll_back w none).alone)

-- ---- clients

unchanged_copies : (w : World) (new : Tree) → IsUnchanged w.shared.tree new → EachCopies w → EachCopies (with_tree w new)
unchanged_copies w new u copies j f found = same_copies w.shared.tree new w.shared.log f f.stage u.rows (λ current. (current.0 ∙ u.version, current.1)) (copies j f found)

moved_copies : (w : World) (r : Result Tree MoveFault) → ((new : Tree) → r ≡ Ok new → IsUnchanged w.shared.tree new) → EachCopies w → EachCopies (moved_world w r).0
moved_copies w (Ok new) unchanged copies = unchanged_copies w new (unchanged new refl) copies
moved_copies w (Err f) unchanged copies = copies

open_copies : (w : World) (session : ℤ) → Sound w → EachCopies w → EachCopies (next w (event.ZkOpen session)).0
unfolding next
open_copies w session sound copies = moved_copies w (begin_session w.shared.tree session) (λ new is. (begin_leaves w.shared.tree new session is sound.kept.tree).1) copies

expire_copies : (w : World) (session : ℤ) → Sound w → EachCopies w → EachCopies (next w (event.ZkExpire session)).0
unfolding next
expire_copies w session sound copies = moved_copies w (end_session w.shared.tree session) (λ new is. (end_leaves w.shared.tree new session is sound.kept.tree).1) copies

-- no driver has a claim on a tree that none holds
unheld_copies : (w : World) (new : Tree) → is_held_tree w.shared.tree ≡ false → Sound w → EachCopies (with_tree w new)
unheld_copies w new none sound j f found =
    past_copies new w.shared.log f f.stage (λ current. current.1 (none_claimed w.shared.log.epoch (claim_version w.shared.tree) (shown_in w.shared.tree) f.epoch f.claim (sound.each j f found).claims none))

client_made : (w : World) (ops : List Op) (new : Tree) (b : Bool) → is_held_tree w.shared.tree ≡ b → multi w.shared.tree ops ≡ Ok new → client_refusal w.shared.tree ops ≡ None → Sound w → EachCopies w → EachCopies (with_tree w new)
client_made w ops new true held is none sound copies = unchanged_copies w new (client_leaves_held w.shared.tree new ops is none held sound.kept.tree) copies
client_made w ops new false held is none sound copies = unheld_copies w new held sound

client_by : (w : World) (ops : List Op) (r : Result Tree TreeFault) → multi w.shared.tree ops ≡ r → client_refusal w.shared.tree ops ≡ None → Sound w → EachCopies w → EachCopies (client_world w r).0
client_by w ops (Ok new) is none sound copies = client_made w ops new (is_held_tree w.shared.tree) refl is none sound copies
client_by w ops (Err f) is none sound copies = copies

client_copies : (w : World) (ops : List Op) → Sound w → EachCopies w → EachCopies (next w (event.Zk ops)).0
unfolding next
client_copies w ops sound copies = unless_taken EachCopies w (client_refusal w.shared.tree ops) (client_world w (multi w.shared.tree ops)) copies (λ none. client_by w ops (multi w.shared.tree ops) refl none sound copies)

-- ---- controllers

quorum_copies : (w : World) (ids : List ℤ) → EachCopies w → EachCopies (next w (event.Quorum ids)).0
unfolding next
quorum_copies w ids copies = decided EachCopies w (quorum_refusal w ids) (declared_world w ids) answer.Done copies (λ j f found. copies j f found)

start_copies : (w : World) (id : ℤ) → EachCopies w → EachCopies (next w (event.Start id)).0
unfolding next
start_copies w id copies = decided EachCopies w (start_refusal w id) (started_world w id) answer.Done copies (each_more (Copies w.shared) w.drivers (new_driver id) copies tt)

stopped : (w : World) (controller : Option ℤ) → EachCopies w → EachCopies (stopped_world w controller)
stopped w None copies j f found = absurd (cc)
stopped w (Some gone) copies j f found = copies j f (left_was_there w.drivers gone j f found).1

stop_copies : (w : World) (controller : Option ℤ) → EachCopies w → EachCopies (next w (event.Stop controller)).0
unfolding next
stop_copies w controller copies = decided EachCopies w (stop_refusal w controller) (stopped_world w controller) answer.Done copies (stopped w controller copies)

snapshot_copies : (w : World) → Sound w → EachCopies w → EachCopies (next w event.Snapshot).0
unfolding next
snapshot_copies w sound copies = decided_by EachCopies w (snapshot_refusal w) (cut_world w) answer.Done copies (λ none j f found.
    let m = may_snapshot w none in
    let c = cut_is w sound m in
    settled_copies w.shared.tree (cut_world w).shared.log f f.stage c.sound.kept.log (c.settled ∙ migrated_settled w.shared.tree w.shared.log sound.kept.log (sound.kept.agreement m.migrated)))

check_copies : (w : World) → EachCopies w → EachCopies (next w event.Check).0
unfolding next
check_copies w copies = copies

-- ---- every event

pub event_copies : (w : World) (e : Event) → IsLawful e → Sound w → EachCopies w → EachCopies (next w e).0
event_copies w (event.Quorum ids) lawful sound copies = quorum_copies w ids copies
event_copies w (event.Start id) lawful sound copies = start_copies w id copies
event_copies w (event.Stop controller) lawful sound copies = stop_copies w controller copies
event_copies w (event.Elect id now) lawful sound copies = election_copies w id now sound copies
event_copies w (event.Step id now p) lawful sound copies = stepped_copies w id now p lawful.1 sound copies
event_copies w (event.Turn id now) lawful sound copies = turned_copies w id now lawful.1 sound copies
event_copies w (event.Change id records now) lawful sound copies = change_copies w id now records lawful.2 sound copies
event_copies w (event.Register id broker migrating now) lawful sound copies = register_copies w id broker now migrating sound copies
event_copies w (event.Finalise id now) lawful sound copies = finalise_copies w id now sound copies
event_copies w event.Rollback lawful sound copies = rollback_copies w copies
event_copies w event.Snapshot lawful sound copies = snapshot_copies w sound copies
event_copies w event.Check lawful sound copies = check_copies w copies
event_copies w (event.ZkOpen session) lawful sound copies = open_copies w session sound copies
event_copies w (event.ZkExpire session) lawful sound copies = expire_copies w session sound copies
event_copies w (event.Zk ops) lawful sound copies = client_copies w ops sound copies

pub run_copies : (es : List Event) (w : World) → All IsLawful es → Sound w → EachCopies w → EachCopies (after_events w es)
unfolding after_events
run_copies [] w lawful sound copies = copies
run_copies (e ∷ es) w lawful sound copies =
    let own = All-head IsLawful e es lawful in
    run_copies es (next w e).0 (All-tail IsLawful e es lawful) (event_sound w e own sound) (event_copies w e own sound copies)
