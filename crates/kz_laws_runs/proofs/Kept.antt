-- At every moment of a run the tree and the log are sound, and the tree is closed where the migration is finalised.
use Rattle.std.proofs.Common.{◌≡◌, ℕ, zero, suc, ℤ, Bool, true, false, if◌then◌else◌, List, [], ◌∷◌, Option, Some, None, Result, Ok, Err, All, refl}
use Rattle.std.proofs.lemmas.List.Elements.{All-nil, All-cons, All-append, All-head, All-tail}
use Rattle.kz_types.specs.declared.fault.TreeFault.{TreeFault}
use Rattle.kz_types.specs.declared.move_fault.MoveFault.{MoveFault}
use Rattle.kz_types.specs.declared.machine.Answer.{Answer}
use Rattle.kz_types.specs.declared.machine.Answer.TheVariants as answer
use Rattle.kz_types.specs.declared.machine.Event.{Event}
use Rattle.kz_types.specs.declared.machine.Event.TheVariants as event
use Rattle.kz_types.specs.declared.plan.Plan.{Plan}
use Rattle.kz_types.specs.declared.plan.Plan.TheVariants as plan
use Rattle.kz_types.specs.declared.tree.Op.{Op}
use Rattle.kz_spec_data.specs.Tree.{Tree, multi, begin_session, end_session, unclosed_path}
use Rattle.kz_spec_data.specs.Log.{reset}
use Rattle.kz_spec_machine.specs.Driver.{Shared, Driver, Request, nothing, request_at, planned_step, step}
use Rattle.kz_spec_machine.specs.Machine.{World, Pair, pair_of, pairs_after, step_pairs, ends, turn_pairs, work, running_ids, driver_of, running_refusal, event_step_pairs, event_turn_pairs, outcome_unless, unless_refused, pairs_unless, tree_pairs, election_refusal, elected_world, election_answer, change_refusal, changed_world, registration, register_refusal, final_records, finalise_refusal, rollback_refusal, reset_world, is_finalised_log, exit_ops, tree_after_ops, given_back, exit_pairs, client_refusal, client_world, moved_world, with_tree, next, event_pairs, request_pairs, cut_world, snapshot_refusal}
use Rattle.kz_spec_machine.specs.Sound.{IsTime, IsSharedSound, IsSoundDriver, Sound, IsLawful}
use Rattle.kz_laws_events.specs.Steps.{StepKeeps}
use Rattle.kz_laws_events.proofs.Tests.{true_or_false}
use Rattle.kz_laws_events.proofs.StepCases.{all_steps}
use Rattle.kz_laws_events.proofs.Turned.{one_step}
use Rattle.kz_laws_events.proofs.Exits.{reset_sound}
use Rattle.kz_laws_events.proofs.Every.{event_sound}
use Rattle.kz_laws_exits.specs.Ends.{HasEnded, IsClosedAtEnd, EndHolds, StepEnds}
use Rattle.kz_laws_exits.proofs.Final.{step_ends}
use Rattle.kz_laws_exits.proofs.Turns.{one_ends}
use Rattle.kz_laws_exits.proofs.GivenBack.{reset_unfinished}
use Rattle.kz_laws_exits.proofs.Events.{event_ends}

-- what is kept of a moment, whatever controllers are declared and run
pub record IsKept (p : Pair) : Type 0 where
  pub kept : IsSharedSound (record { tree = p.tree; log = p.log; declared = [] })
  pub closed : is_finalised_log p.log ≡ true → unclosed_path p.tree ≡ None

pub shared_kept : (s : Shared) → IsSharedSound s → IsClosedAtEnd s → IsKept (pair_of s)
shared_kept s sound end = record { kept = record { tree = sound.tree; log = sound.log; before = sound.before; agreement = sound.agreement }; closed = end }

-- the moment of a world
abbrev pub WorldKept : World → Type 0
WorldKept w = IsKept (pair_of w.shared)

pub world_kept : (w : World) → Sound w → EndHolds w → WorldKept w
world_kept w sound old = shared_kept w.shared sound.kept old.closed

one_kept : (s : Shared) → IsKept (pair_of s) → All IsKept (pair_of s ∷ [])
one_kept s own = All-cons IsKept (pair_of s) [] own (All-nil IsKept)

-- ---- a step

request_kept : (s : Shared) (r : Request) → IsKept (pair_of s) → All IsKept (pairs_after r s)
request_kept s nothing own = All-nil IsKept
request_kept s r own = one_kept s own

step_kept : (p : Plan) (s : Shared) (running : List ℤ) (now : ℤ) (d : Driver) → IsTime now → IsSharedSound s → IsSoundDriver s d → HasEnded s d → IsClosedAtEnd s → All IsKept (step_pairs p s running now d)
step_kept p s running now d time sound fine ended end =
    let new = (planned_step p s running now d).shared in
    request_kept new (request_at s now d d.stage)
    (shared_kept new (all_steps p s running now d time sound fine).shared ((step_ends p s running now d time sound fine ended).closed end))

-- ---- a turn

unless_ended : (b : Bool) (ps : List Pair) → All IsKept ps → All IsKept (if b then [] else ps)
unless_ended true ps all = All-nil IsKept
unless_ended false ps all = all

turn_kept : (n : ℕ) (s : Shared) (running : List ℤ) (now : ℤ) (d : Driver) → IsTime now → IsSharedSound s → IsSoundDriver s d → HasEnded s d → IsClosedAtEnd s → All IsKept (turn_pairs n s running now d)
unfolding turn_pairs
turn_kept zero s running now d time sound fine ended end = All-nil IsKept
turn_kept (suc n) s running now d time sound fine ended end =
    let r = step s running now d in
    let k : StepKeeps s d r.shared r.driver = one_step s running now d time sound fine in
    let e : StepEnds s d r.shared r.driver = one_ends s running now d time sound fine ended in
    let rest = turn_pairs n r.shared running now r.driver in
    All-append IsKept (step_pairs plan.Deliver s running now d) (if ends r.reply then [] else rest) (step_kept plan.Deliver s running now d time sound fine ended end)
    (unless_ended (ends r.reply) rest (turn_kept n r.shared running now r.driver time k.shared k.driver e.driver (e.closed end)))

-- ---- events

-- an event of one request, unless it is refused
outcome_kept : (w : World) (refusal : Option Answer) (new : World) (a : Answer) → WorldKept (outcome_unless w refusal new a).0 → All IsKept (pairs_unless refusal (pair_of new.shared ∷ []))
outcome_kept w (Some r) new a own = All-nil IsKept
outcome_kept w None new a own = one_kept new.shared own

unless_refused_kept : (refusal : Option Answer) (ps : List Pair) → All IsKept ps → All IsKept (pairs_unless refusal ps)
unless_refused_kept (Some a) ps all = All-nil IsKept
unless_refused_kept None ps all = all

stepped : (w : World) (id now : ℤ) (p : Plan) (m : Option Driver) → driver_of id w.drivers ≡ m → IsTime now → Sound w → EndHolds w → All IsKept (event_step_pairs w p now m)
stepped w id now p None found time sound old = All-nil IsKept
stepped w id now p (Some d) found time sound old = step_kept p w.shared (running_ids w.drivers) now d time sound.kept (sound.each id d found) (old.each id d found) old.closed

turned : (w : World) (id now : ℤ) (m : Option Driver) → driver_of id w.drivers ≡ m → IsTime now → Sound w → EndHolds w → All IsKept (event_turn_pairs w now m)
turned w id now None found time sound old = All-nil IsKept
turned w id now (Some d) found time sound old = turn_kept (work w.shared d) w.shared (running_ids w.drivers) now d time sound.kept (sound.each id d found) (old.each id d found) old.closed

moved : (w : World) (r : Result Tree MoveFault) → WorldKept (moved_world w r).0 → All IsKept (tree_pairs w r)
moved w (Ok t) own = one_kept (with_tree w t).shared own
moved w (Err f) own = All-nil IsKept

client : (w : World) (refusal : Option Answer) (r : Result Tree TreeFault) → WorldKept (unless_refused w refusal (client_world w r)).0 → All IsKept (pairs_unless refusal (tree_pairs w r))
client w (Some a) r own = All-nil IsKept
client w None (Ok t) own = one_kept (with_tree w t).shared own
client w None (Err f) own = All-nil IsKept

-- ---- a rollback

reset_kept : (w : World) → Sound w → WorldKept (reset_world w)
reset_kept w sound =
    shared_kept (reset_world w).shared (reset_sound w.shared sound.kept) (λ final. absurd (true_or_false (is_finalised_log (reset w.shared.log)) final (reset_unfinished w.shared.log)))

by_result : (w : World) (r : Result Tree TreeFault) → WorldKept (given_back w r).0 → All IsKept (tree_pairs w r)
by_result w (Ok t) own = one_kept (with_tree w t).shared own
by_result w (Err f) own = All-nil IsKept

given : (w : World) (ops : List Op) → WorldKept (given_back w (tree_after_ops w.shared.tree ops)).0 → All IsKept (exit_pairs w ops)
given w [] own = All-nil IsKept
given w (o ∷ os) own = by_result w (multi w.shared.tree (o ∷ os)) own

rolled_back : (w : World) (refusal : Option Answer) → Sound w → WorldKept (unless_refused w refusal (given_back (reset_world w) (tree_after_ops w.shared.tree (exit_ops w.shared.tree)))).0 → All IsKept (pairs_unless refusal (pair_of (reset_world w).shared ∷ exit_pairs (reset_world w) (exit_ops w.shared.tree)))
rolled_back w (Some a) sound own = All-nil IsKept
rolled_back w None sound own =
    All-cons IsKept (pair_of (reset_world w).shared) (exit_pairs (reset_world w) (exit_ops w.shared.tree)) (reset_kept w sound) (given (reset_world w) (exit_ops w.shared.tree) own)

-- ---- every event

event_kept : (w : World) (e : Event) → IsLawful e → Sound w → EndHolds w → WorldKept (next w e).0 → All IsKept (event_pairs w e)
unfolding next event_pairs
event_kept w (event.Quorum ids) lawful sound old new = All-nil IsKept
event_kept w (event.Start id) lawful sound old new = All-nil IsKept
event_kept w (event.Stop controller) lawful sound old new = All-nil IsKept
event_kept w (event.Elect id now) lawful sound old new = outcome_kept w (election_refusal w id) (elected_world w id now) (election_answer w now) new
event_kept w (event.Step id now p) lawful sound old new = unless_refused_kept (running_refusal w id) (event_step_pairs w p now (driver_of id w.drivers)) (stepped w id now p (driver_of id w.drivers) refl lawful.1 sound old)
event_kept w (event.Turn id now) lawful sound old new = unless_refused_kept (running_refusal w id) (event_turn_pairs w now (driver_of id w.drivers)) (turned w id now (driver_of id w.drivers) refl lawful.1 sound old)
event_kept w (event.Change id records now) lawful sound old new = outcome_kept w (change_refusal w id records) (changed_world w records now) _ new
event_kept w (event.Register id broker migrating now) lawful sound old new = outcome_kept w (register_refusal w id (registration broker migrating)) (changed_world w (registration broker migrating) now) _ new
event_kept w (event.Finalise id now) lawful sound old new = outcome_kept w (finalise_refusal w id) (changed_world w final_records now) _ new
event_kept w event.Rollback lawful sound old new = rolled_back w (rollback_refusal w) sound new
event_kept w event.Snapshot lawful sound old new = outcome_kept w (snapshot_refusal w) (cut_world w) answer.Done new
event_kept w event.Check lawful sound old new = All-nil IsKept
event_kept w (event.ZkOpen session) lawful sound old new = moved w (begin_session w.shared.tree session) new
event_kept w (event.ZkExpire session) lawful sound old new = moved w (end_session w.shared.tree session) new
event_kept w (event.Zk ops) lawful sound old new = client w (client_refusal w.shared.tree ops) (multi w.shared.tree ops) new

-- ---- runs

further_kept : (es : List Event) (w : World) → All IsLawful es → Sound w → EndHolds w → All IsKept (request_pairs w es)
unfolding request_pairs
further_kept [] w lawful sound old = All-nil IsKept
further_kept (e ∷ es) w lawful sound old =
    let own = All-head IsLawful e es lawful in
    let new : Sound (next w e).0 = event_sound w e own sound in
    let end : EndHolds (next w e).0 = event_ends w e own sound old in
    All-append IsKept (event_pairs w e) (request_pairs (next w e).0 es) (event_kept w e own sound old (world_kept (next w e).0 new end)) (further_kept es (next w e).0 (All-tail IsLawful e es lawful) new end)

pub moments_kept : (es : List Event) (w : World) → All IsLawful es → Sound w → EndHolds w → All IsKept (pair_of w.shared ∷ request_pairs w es)
moments_kept es w lawful sound old = All-cons IsKept (pair_of w.shared) (request_pairs w es) (world_kept w sound old) (further_kept es w lawful sound old)
