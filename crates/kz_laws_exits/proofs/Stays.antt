-- A migration that is finalised stays so: no step and no turn changes the tree or the log, and no event takes it back.
use Rattle.std.proofs.Common.{◌≡◌, ℕ, ℤ, Bool, true, false, not, List, [], ◌∷◌, Option, Some, None, Result, Ok, Err, All, refl, sym, ap, ◌∙◌, subst}
use Rattle.std.proofs.lemmas.List.Elements.{All-head, All-tail}
use Rattle.kz_types.specs.declared.fault.TreeFault.{TreeFault}
use Rattle.kz_types.specs.declared.move_fault.MoveFault.{MoveFault}
use Rattle.kz_types.specs.declared.machine.Answer.TheVariants as answer
use Rattle.kz_types.specs.declared.machine.Event.{Event}
use Rattle.kz_types.specs.declared.machine.Event.TheVariants as event
use Rattle.kz_types.specs.declared.plan.Plan.{Plan}
use Rattle.kz_types.specs.declared.plan.Plan.TheVariants as plan
use Rattle.kz_spec_data.specs.Tree.{Tree, multi, begin_session, end_session}
use Rattle.kz_spec_data.specs.Log.{end_of, image_of, is_migrated_log, is_open_log, with_batch}
use Rattle.kz_spec_machine.specs.Driver.{Shared, Driver, step}
use Rattle.kz_spec_machine.specs.Machine.{World, running_ids, driver_of, running_refusal, leader_refusal, dual_write_refusal, rest_refusal, unless, full, step_result, turn, work, turn_result, quorum_refusal, declared_world, start_refusal, started_world, stop_refusal, stopped_world, next_epoch, election_refusal, elected_world, election_answer, change_refusal, changed_world, registration, register_refusal, final_records, finalise_refusal, client_refusal, client_world, moved_world, is_finalised_log, next, after_events, cut_world, snapshot_refusal}
use Rattle.kz_spec_machine.specs.Sound.{IsTime, IsSharedSound, IsSoundDriver, Sound, IsLawful}
use Rattle.kz_laws_machine.proofs.Asked.{asked_plain}
use Rattle.kz_laws_machine.proofs.Opened.{elected_records}
use Rattle.kz_laws_machine.proofs.Batches.{elected_plain}
use Rattle.kz_laws_events.proofs.Tests.{true_or_false}
use Rattle.kz_laws_events.proofs.Worlds.{decided, unless_made}
use Rattle.kz_laws_events.proofs.EventCases.{unless_taken}
use Rattle.kz_laws_events.proofs.Refusals.{six_none, unless_none, decided_by}
use Rattle.kz_laws_events.proofs.Elected.{MayElect, may_elect, elected_of, stateless}
use Rattle.kz_laws_events.proofs.Changed.{may_change}
use Rattle.kz_laws_events.proofs.Every.{event_sound}
use Rattle.kz_laws_events.proofs.Turned.{GoesOn, turn_leaves}
use Rattle.kz_laws_exits.specs.Ends.{HasEnded, EndHolds}
use Rattle.kz_laws_exits.proofs.Final.{final_migrated, final_step, step_ends}
use Rattle.kz_laws_exits.proofs.Finalised.{final_rollback_refused}
use Rattle.kz_laws_exits.proofs.Events.{plain_final, registration_plain, event_ends}
use Rattle.kz_laws_events.proofs.Snapshots.{may_snapshot, cut_is}

-- ---- a turn

-- What a step leaves on a log whose migration is finalised.
abbrev pub Rests : Shared → Driver → Shared → Driver → Type 0
Rests s d t e = is_finalised_log s.log ≡ true → HasEnded s d → (t ≡ s) × HasEnded t e

rests_on : GoesOn Rests
rests_on s d t e u f own keeps one two final ended =
    let first = one final ended in
    let second = two (ap (λ (x : Shared). is_finalised_log x.log) first.0 ∙ final) first.1 in
    (second.0 ∙ first.0, second.1)

pub one_rests : (s : Shared) (running : List ℤ) (now : ℤ) (d : Driver) → IsTime now → IsSharedSound s → IsSoundDriver s d → Rests s d (step s running now d).shared (step s running now d).driver
unfolding step
one_rests s running now d time kept fine final ended = (final_step plan.Deliver s running now d fine ended final, (step_ends plan.Deliver s running now d time kept fine ended).driver)

turn_rests : (n : ℕ) (s : Shared) (running : List ℤ) (now : ℤ) (d : Driver) → IsTime now → IsSharedSound s → IsSoundDriver s d → Rests s d (turn n s running now d).shared (turn n s running now d).driver
turn_rests n s running now d time kept fine = turn_leaves Rests (λ t e final ended. (refl, ended)) rests_on one_rests n s running now d time kept fine

-- ---- steps and turns

abbrev Stays : World → World → Type 0
Stays w new = new.shared ≡ w.shared

stepped : (w : World) (id now : ℤ) (p : Plan) (m : Option Driver) → driver_of id w.drivers ≡ m → Sound w → EndHolds w → is_finalised_log w.shared.log ≡ true → Stays w (step_result w p now m).0
stepped w id now p None found sound ends final = refl
stepped w id now p (Some d) found sound ends final = final_step p w.shared (running_ids w.drivers) now d (sound.each id d found) (ends.each id d found) final

turned : (w : World) (id now : ℤ) (m : Option Driver) → driver_of id w.drivers ≡ m → IsTime now → Sound w → EndHolds w → is_finalised_log w.shared.log ≡ true → Stays w (turn_result w now m).0
turned w id now None found time sound ends final = refl
turned w id now (Some d) found time sound ends final = (turn_rests (work w.shared d) w.shared (running_ids w.drivers) now d time sound.kept (sound.each id d found) final (ends.each id d found)).0

pub step_event : (w : World) (id now : ℤ) (p : Plan) → Sound w → EndHolds w → is_finalised_log w.shared.log ≡ true → Stays w (next w (event.Step id now p)).0
unfolding next
step_event w id now p sound ends final = unless_made (Stays w) w (running_refusal w id) (step_result w p now (driver_of id w.drivers)) refl (stepped w id now p (driver_of id w.drivers) refl sound ends final)

pub turn_event : (w : World) (id now : ℤ) → IsTime now → Sound w → EndHolds w → is_finalised_log w.shared.log ≡ true → Stays w (next w (event.Turn id now)).0
unfolding next
turn_event w id now time sound ends final = unless_made (Stays w) w (running_refusal w id) (turn_result w now (driver_of id w.drivers)) refl (turned w id now (driver_of id w.drivers) refl time sound ends final)

-- ---- every event, and every run

abbrev IsFinal : World → Type 0
IsFinal w = is_finalised_log w.shared.log ≡ true

same_final : (s new : Shared) → new ≡ s → is_finalised_log s.log ≡ true → is_finalised_log new.log ≡ true
same_final s new same final = ap (λ (x : Shared). is_finalised_log x.log) same ∙ final

elected_final : (s : Shared) (now : ℤ) → MayElect s → is_finalised_log s.log ≡ true → is_finalised_log (elected_of s.log now) ≡ true
elected_final s now m final =
    let l = s.log in
    let first = stateless l (final_migrated l final) in
    ap (λ (b : Bool). is_finalised_log (with_batch l (next_epoch l) now (elected_records (is_open_log l) b))) first
    ∙ plain_final l (next_epoch l) now (elected_records (is_open_log l) false) m.kept.log (elected_plain (is_open_log l)) ∙ final

not_false : (b : Bool) → not b ≡ true → b ≡ false
not_false true is = absurd (cc)
not_false false is = refl

-- it isn't finalised once more
once : (w : World) (id : ℤ) → finalise_refusal w id ≡ None → is_finalised_log w.shared.log ≡ false
once w id none =
    let l = w.shared.log in
    let all = six_none (leader_refusal w id) (unless (is_migrated_log l) answer.NotMigrated) (unless (not (is_finalised_log l)) answer.Finalised)
    (dual_write_refusal (driver_of id w.drivers)) (rest_refusal w.shared.tree (end_of l)) (full l final_records) none in
    not_false (is_finalised_log l) (unless_none (not (is_finalised_log l)) answer.Finalised all.three)

moved_final : (w : World) (r : Result Tree MoveFault) → IsFinal w → IsFinal (moved_world w r).0
moved_final w (Ok t) final = final
moved_final w (Err f) final = final

client_final : (w : World) (r : Result Tree TreeFault) → IsFinal w → IsFinal (client_world w r).0
client_final w (Ok t) final = final
client_final w (Err f) final = final

pub stays_final : (w : World) (e : Event) → IsLawful e → Sound w → EndHolds w → IsFinal w → IsFinal (next w e).0
unfolding next
stays_final w (event.Quorum ids) lawful sound ends final = decided IsFinal w (quorum_refusal w ids) (declared_world w ids) answer.Done final final
stays_final w (event.Start id) lawful sound ends final = decided IsFinal w (start_refusal w id) (started_world w id) answer.Done final final
stays_final w (event.Stop controller) lawful sound ends final = decided IsFinal w (stop_refusal w controller) (stopped_world w controller) answer.Done final final
stays_final w (event.Elect id now) lawful sound ends final = decided_by IsFinal w (election_refusal w id) (elected_world w id now) (election_answer w now) final (λ none. elected_final w.shared now (may_elect w id sound none) final)
stays_final w (event.Step id now p) lawful sound ends final = same_final w.shared (next w (event.Step id now p)).0.shared (step_event w id now p sound ends final) final
stays_final w (event.Turn id now) lawful sound ends final = same_final w.shared (next w (event.Turn id now)).0.shared (turn_event w id now lawful.1 sound ends final) final
stays_final w (event.Change id records now) lawful sound ends final = decided_by IsFinal w (change_refusal w id records) (changed_world w records now) _ final (λ none.
    plain_final w.shared.log w.shared.log.epoch now records sound.kept.log (asked_plain 0 records (image_of w.shared.log) (may_change w id records none).lawful) ∙ final)
stays_final w (event.Register id broker migrating now) lawful sound ends final = decided_by IsFinal w (register_refusal w id (registration broker migrating)) (changed_world w (registration broker migrating) now) _ final (λ none.
    plain_final w.shared.log w.shared.log.epoch now (registration broker migrating) sound.kept.log (registration_plain broker migrating) ∙ final)
stays_final w (event.Finalise id now) lawful sound ends final = decided_by IsFinal w (finalise_refusal w id) (changed_world w final_records now) _ final (λ none. absurd (true_or_false (is_finalised_log w.shared.log) final (once w id none)))
stays_final w event.Rollback lawful sound ends final = subst IsFinal (sym (final_rollback_refused w final).0) final
stays_final w event.Snapshot lawful sound ends final = decided_by IsFinal w (snapshot_refusal w) (cut_world w) answer.Done final (λ none. (cut_is w sound (may_snapshot w none)).finalised ∙ final)
stays_final w event.Check lawful sound ends final = final
stays_final w (event.ZkOpen session) lawful sound ends final = moved_final w (begin_session w.shared.tree session) final
stays_final w (event.ZkExpire session) lawful sound ends final = moved_final w (end_session w.shared.tree session) final
stays_final w (event.Zk ops) lawful sound ends final = unless_taken IsFinal w (client_refusal w.shared.tree ops) (client_world w (multi w.shared.tree ops)) final (λ none. client_final w (multi w.shared.tree ops) final)

pub run_stays_final : (w : World) (es : List Event) → All IsLawful es → Sound w → EndHolds w → IsFinal w → IsFinal (after_events w es)
unfolding after_events
run_stays_final w [] lawful sound ends final = final
run_stays_final w (e ∷ es) lawful sound ends final =
    let own = All-head IsLawful e es lawful in
    run_stays_final (next w e).0 es (All-tail IsLawful e es lawful) (event_sound w e own sound) (event_ends w e own sound ends) (stays_final w e own sound ends final)
