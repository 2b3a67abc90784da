-- At every moment of a run a migrated log and its tree are in agreement, and `/migration` can be read.
use Rattle.std.proofs.Common.{◌≡◌, ◌≢◌, ℕ, zero, suc, ℤ, Bool, true, false, if◌then◌else◌, List, [], ◌∷◌, Option, Some, None, Result, Ok, Err, All, refl}
use Rattle.std.proofs.lemmas.List.Elements.{All-nil, All-cons, All-append, All-head, All-tail}
use Rattle.kz_types.specs.declared.fault.TreeFault.{TreeFault}
use Rattle.kz_types.specs.declared.move_fault.MoveFault.{MoveFault}
use Rattle.kz_types.specs.declared.machine.Answer.{Answer}
use Rattle.kz_types.specs.declared.machine.Answer.TheVariants as answer
use Rattle.kz_types.specs.declared.machine.Event.{Event}
use Rattle.kz_types.specs.declared.machine.Event.TheVariants as event
use Rattle.kz_types.specs.declared.machine.Recorded.{Recorded}
use Rattle.kz_types.specs.declared.plan.Plan.{Plan}
use Rattle.kz_types.specs.declared.plan.Plan.TheVariants as plan
use Rattle.kz_types.specs.declared.tree.Op.{Op}
use Rattle.kz_spec_data.specs.Tree.{Tree, multi, begin_session, end_session, migration_record}
use Rattle.kz_spec_data.specs.Log.{Log, is_migrated_log}
use Rattle.kz_spec_machine.specs.Driver.{Shared, Driver, Request, nothing, request_at, planned_step, step}
use Rattle.kz_spec_machine.specs.Machine.{World, Pair, pair_of, pairs_after, step_pairs, ends, turn_pairs, work, running_ids, driver_of, running_refusal, event_step_pairs, event_turn_pairs, outcome_unless, unless_refused, pairs_unless, tree_pairs, election_refusal, elected_world, election_answer, change_refusal, changed_world, registration, register_refusal, final_records, finalise_refusal, rollback_refusal, reset_world, exit_ops, exit_pairs, client_refusal, client_world, moved_world, with_tree, next, event_pairs, request_pairs, cut_world, snapshot_refusal}
use Rattle.kz_spec_machine.specs.Sound.{IsTime, Agreement, IsSharedSound, IsSoundDriver, Sound, IsLawful}
use Rattle.kz_spec_machine.specs.Openings.{opened_world, IsSoundPair}
use Rattle.kz_spec_machine.specs.Promises.{IsAgreed, IsInAgreement, StayingInAgreement}
use Rattle.kz_laws_events.specs.Steps.{StepKeeps}
use Rattle.kz_laws_events.proofs.Tests.{true_or_false}
use Rattle.kz_laws_events.proofs.StepCases.{all_steps}
use Rattle.kz_laws_events.proofs.Turned.{one_step}
use Rattle.kz_laws_events.proofs.Exits.{reset_unmigrated}
use Rattle.kz_laws_events.proofs.Every.{event_sound}

-- ---- a sound tree and log

agreed_by : (t : Tree) (l : Log) (m : Option Recorded) → migration_record t ≡ m → m ≢ None → Agreement t l → IsAgreed t l
agreed_by t l None is some old = absurd (some refl)
agreed_by t l (Some r) is some old = record { record_is = r; found = is; agreement = old }

sound_agreed : (s : Shared) → IsSharedSound s → IsInAgreement (pair_of s)
sound_agreed s kept migrated = let old = kept.agreement migrated in agreed_by s.tree s.log (migration_record s.tree) refl old.record_there old

one_agreed : (s : Shared) → IsInAgreement (pair_of s) → All IsInAgreement (pair_of s ∷ [])
one_agreed s own = All-cons IsInAgreement (pair_of s) [] own (All-nil IsInAgreement)

-- ---- a step

request_agreed : (s : Shared) (r : Request) → IsInAgreement (pair_of s) → All IsInAgreement (pairs_after r s)
request_agreed s nothing own = All-nil IsInAgreement
request_agreed s r own = one_agreed s own

step_agreed : (p : Plan) (s : Shared) (running : List ℤ) (now : ℤ) (d : Driver) → IsTime now → IsSharedSound s → IsSoundDriver s d → All IsInAgreement (step_pairs p s running now d)
step_agreed p s running now d time kept fine =
    let new = (planned_step p s running now d).shared in
    request_agreed new (request_at s now d d.stage) (sound_agreed new (all_steps p s running now d time kept fine).shared)

-- ---- a turn

unless_ended : (b : Bool) (ps : List Pair) → All IsInAgreement ps → All IsInAgreement (if b then [] else ps)
unless_ended true ps all = All-nil IsInAgreement
unless_ended false ps all = all

turn_agreed : (n : ℕ) (s : Shared) (running : List ℤ) (now : ℤ) (d : Driver) → IsTime now → IsSharedSound s → IsSoundDriver s d → All IsInAgreement (turn_pairs n s running now d)
unfolding turn_pairs
turn_agreed zero s running now d time kept fine = All-nil IsInAgreement
turn_agreed (suc n) s running now d time kept fine =
    let r = step s running now d in
    let k : StepKeeps s d r.shared r.driver = one_step s running now d time kept fine in
    let rest = turn_pairs n r.shared running now r.driver in
    All-append IsInAgreement (step_pairs plan.Deliver s running now d) (if ends r.reply then [] else rest) (step_agreed plan.Deliver s running now d time kept fine)
    (unless_ended (ends r.reply) rest (turn_agreed n r.shared running now r.driver time k.shared k.driver))

-- ---- events

-- an event of one request, unless it is refused
outcome_agreed : (w : World) (refusal : Option Answer) (new : World) (a : Answer) → Sound (outcome_unless w refusal new a).0 → All IsInAgreement (pairs_unless refusal (pair_of new.shared ∷ []))
outcome_agreed w (Some r) new a sound = All-nil IsInAgreement
outcome_agreed w None new a sound = one_agreed new.shared (sound_agreed new.shared sound.kept)

unless_refused_agreed : (refusal : Option Answer) (ps : List Pair) → All IsInAgreement ps → All IsInAgreement (pairs_unless refusal ps)
unless_refused_agreed (Some a) ps all = All-nil IsInAgreement
unless_refused_agreed None ps all = all

stepped : (w : World) (id now : ℤ) (p : Plan) (m : Option Driver) → driver_of id w.drivers ≡ m → IsTime now → Sound w → All IsInAgreement (event_step_pairs w p now m)
stepped w id now p None found time sound = All-nil IsInAgreement
stepped w id now p (Some d) found time sound = step_agreed p w.shared (running_ids w.drivers) now d time sound.kept (sound.each id d found)

turned : (w : World) (id now : ℤ) (m : Option Driver) → driver_of id w.drivers ≡ m → IsTime now → Sound w → All IsInAgreement (event_turn_pairs w now m)
turned w id now None found time sound = All-nil IsInAgreement
turned w id now (Some d) found time sound = turn_agreed (work w.shared d) w.shared (running_ids w.drivers) now d time sound.kept (sound.each id d found)

moved : (w : World) (r : Result Tree MoveFault) → Sound (moved_world w r).0 → All IsInAgreement (tree_pairs w r)
moved w (Ok t) sound = one_agreed (with_tree w t).shared (sound_agreed (with_tree w t).shared sound.kept)
moved w (Err f) sound = All-nil IsInAgreement

client : (w : World) (refusal : Option Answer) (r : Result Tree TreeFault) → Sound (unless_refused w refusal (client_world w r)).0 → All IsInAgreement (pairs_unless refusal (tree_pairs w r))
client w (Some a) r sound = All-nil IsInAgreement
client w None (Ok t) sound = one_agreed (with_tree w t).shared (sound_agreed (with_tree w t).shared sound.kept)
client w None (Err f) sound = All-nil IsInAgreement

-- a log that was reset isn't migrated
early : (s : Shared) → is_migrated_log s.log ≡ false → IsInAgreement (pair_of s)
early s before migrated = absurd (true_or_false (is_migrated_log s.log) migrated before)

given : (w : World) (ops : List Op) → is_migrated_log w.shared.log ≡ false → All IsInAgreement (exit_pairs w ops)
given w [] before = All-nil IsInAgreement
given w (o ∷ os) before = by_result (multi w.shared.tree (o ∷ os))
  where
    by_result : (r : Result Tree TreeFault) → All IsInAgreement (tree_pairs w r)
    by_result (Ok t) = one_agreed (with_tree w t).shared (early (with_tree w t).shared before)
    by_result (Err f) = All-nil IsInAgreement

rolled_back : (w : World) → All IsInAgreement (pair_of (reset_world w).shared ∷ exit_pairs (reset_world w) (exit_ops w.shared.tree))
rolled_back w =
    let before = reset_unmigrated w.shared.log in
    All-cons IsInAgreement (pair_of (reset_world w).shared) (exit_pairs (reset_world w) (exit_ops w.shared.tree)) (early (reset_world w).shared before) (given (reset_world w) (exit_ops w.shared.tree) before)

event_agreed : (w : World) (e : Event) → IsLawful e → Sound w → Sound (next w e).0 → All IsInAgreement (event_pairs w e)
unfolding next event_pairs
event_agreed w (event.Quorum ids) lawful sound new = All-nil IsInAgreement
event_agreed w (event.Start id) lawful sound new = All-nil IsInAgreement
event_agreed w (event.Stop controller) lawful sound new = All-nil IsInAgreement
event_agreed w (event.Elect id now) lawful sound new = outcome_agreed w (election_refusal w id) (elected_world w id now) (election_answer w now) new
event_agreed w (event.Step id now p) lawful sound new = unless_refused_agreed (running_refusal w id) (event_step_pairs w p now (driver_of id w.drivers)) (stepped w id now p (driver_of id w.drivers) refl lawful.1 sound)
event_agreed w (event.Turn id now) lawful sound new = unless_refused_agreed (running_refusal w id) (event_turn_pairs w now (driver_of id w.drivers)) (turned w id now (driver_of id w.drivers) refl lawful.1 sound)
event_agreed w (event.Change id records now) lawful sound new = outcome_agreed w (change_refusal w id records) (changed_world w records now) _ new
event_agreed w (event.Register id broker migrating now) lawful sound new = outcome_agreed w (register_refusal w id (registration broker migrating)) (changed_world w (registration broker migrating) now) _ new
event_agreed w (event.Finalise id now) lawful sound new = outcome_agreed w (finalise_refusal w id) (changed_world w final_records now) _ new
event_agreed w event.Rollback lawful sound new = unless_refused_agreed (rollback_refusal w) (pair_of (reset_world w).shared ∷ exit_pairs (reset_world w) (exit_ops w.shared.tree)) (rolled_back w)
event_agreed w event.Snapshot lawful sound new = outcome_agreed w (snapshot_refusal w) (cut_world w) answer.Done new
event_agreed w event.Check lawful sound new = All-nil IsInAgreement
event_agreed w (event.ZkOpen session) lawful sound new = moved w (begin_session w.shared.tree session) new
event_agreed w (event.ZkExpire session) lawful sound new = moved w (end_session w.shared.tree session) new
event_agreed w (event.Zk ops) lawful sound new = client w (client_refusal w.shared.tree ops) (multi w.shared.tree ops) new

-- ---- runs

further_agreed : (es : List Event) (w : World) → All IsLawful es → Sound w → All IsInAgreement (request_pairs w es)
unfolding request_pairs
further_agreed [] w lawful sound = All-nil IsInAgreement
further_agreed (e ∷ es) w lawful sound =
    let own = All-head IsLawful e es lawful in
    let new : Sound (next w e).0 = event_sound w e own sound in
    All-append IsInAgreement (event_pairs w e) (request_pairs (next w e).0 es) (event_agreed w e own sound new) (further_agreed es (next w e).0 (All-tail IsLawful e es lawful) new)

-- from every sound world on
pub pairs_agreed : (es : List Event) (w : World) → All IsLawful es → Sound w → All IsInAgreement (pair_of w.shared ∷ request_pairs w es)
pairs_agreed es w lawful sound = All-cons IsInAgreement (pair_of w.shared) (request_pairs w es) (sound_agreed w.shared sound.kept) (further_agreed es w lawful sound)

pub run_agreed : (t : Tree) (l : Log) (es : List Event) → IsSoundPair t l → All IsLawful es → StayingInAgreement (opened_world t l) es
run_agreed t l es pair lawful = pairs_agreed es (opened_world t l) lawful pair.sound
