-- What each request does holds of each two moments of a run, one after the other.
use Rattle.std.proofs.Common.{◌≡◌, ℕ, zero, suc, ℤ, Bool, true, false, if◌then◌else◌, List, [], ◌∷◌, ◌++◌, Option, Some, None, Result, Ok, Err, All, refl, sym, subst}
use Rattle.std.proofs.lemmas.List.Elements.{All-head, All-tail}
use Rattle.kz_types.specs.declared.fault.TreeFault.{TreeFault}
use Rattle.kz_types.specs.declared.move_fault.MoveFault.{MoveFault}
use Rattle.kz_types.specs.declared.machine.Answer.{Answer}
use Rattle.kz_types.specs.declared.machine.Event.{Event}
use Rattle.kz_types.specs.declared.machine.Event.TheVariants as event
use Rattle.kz_types.specs.declared.plan.Plan.{Plan}
use Rattle.kz_types.specs.declared.plan.Plan.TheVariants as plan
use Rattle.kz_types.specs.declared.record.MetaRecord.{MetaRecord}
use Rattle.kz_types.specs.declared.tree.Op.{Op}
use Rattle.kz_spec_data.specs.Tree.{Tree, multi, begin_session, end_session}
use Rattle.kz_spec_data.specs.Log.{is_migrated_log, reset}
use Rattle.kz_spec_machine.specs.Driver.{Shared, Driver, epoch_or_zero, Request, nothing, request_at, shared_after, reaches_store, planned_step, step}
use Rattle.kz_spec_machine.specs.Machine.{World, Pair, pair_of, pairs_after, step_pairs, ends, TurnResult, with_reply, turn, turn_pairs, work, running_ids, driver_of, running_refusal, step_result, event_step_pairs, turn_result, event_turn_pairs, outcome_unless, unless_refused, pairs_unless, quorum_refusal, declared_world, start_refusal, started_world, stop_refusal, stopped_world, election_refusal, elected_world, change_refusal, changed_world, registration, register_refusal, final_records, finalise_refusal, exit_ops, tree_after_ops, reset_world, given_back, rollback_refusal, exit_pairs, is_held_tree, client_refusal, client_world, moved_world, tree_pairs, next, event_pairs, after_events, request_pairs, cut_world, snapshot_refusal}
use Rattle.kz_spec_machine.specs.Sound.{IsTime, IsSharedSound, IsSoundDriver, Each, Sound, IsLawful}
use Rattle.kz_spec_machine.specs.Promises.{Linked}
use Rattle.kz_laws_machine.specs.Effects.{IsUnchanged}
use Rattle.kz_laws_machine.proofs.Sessions.{begin_leaves, end_leaves}
use Rattle.kz_laws_machine.proofs.Clients.{client_leaves_held}
use Rattle.kz_laws_events.specs.Steps.{StepKeeps}
use Rattle.kz_laws_events.proofs.Tests.{true_or_false}
use Rattle.kz_laws_events.proofs.Elected.{MayElect, may_elect, elected_of}
use Rattle.kz_laws_events.proofs.Changed.{IsLeaderBatch, more_of, may_change, change_batch, register_batch}
use Rattle.kz_laws_events.proofs.Exits.{may_finalise, final_batch, reset_unmigrated, reset_sound}
use Rattle.kz_laws_events.proofs.Turned.{one_step}
use Rattle.kz_laws_events.proofs.Unheld.{unmigrated}
use Rattle.kz_laws_events.proofs.Every.{event_sound}
use Rattle.kz_laws_events.proofs.Snapshots.{MaySnapshot, may_snapshot}

-- ---- lists of moments

-- these moments follow, and the last of them is this one
abbrev pub LinkedTo : (Pair → Pair → Type 0) → Pair → List Pair → Pair → Type 0
LinkedTo R p [] q = p ≡ q
LinkedTo R p (x ∷ xs) q = R p x × LinkedTo R x xs q

linked_append : (R : Pair → Pair → Type 0) (p : Pair) (xs : List Pair) (q : Pair) (ys : List Pair) (r : Pair) → LinkedTo R p xs q → LinkedTo R q ys r → LinkedTo R p (xs ++ ys) r
linked_append R p [] q ys r one two = subst (λ (x : Pair). LinkedTo R x ys r) (sym one) two
linked_append R p (x ∷ xs) q ys r one two = (one.0, linked_append R x xs q ys r one.1 two)

pub linked_of : (R : Pair → Pair → Type 0) (p : Pair) (xs : List Pair) (q : Pair) → LinkedTo R p xs q → Linked R p xs
linked_of R p [] q h = tt
linked_of R p (x ∷ xs) q h = (h.0, linked_of R x xs q h.1)

-- ---- what is to be known

-- What each request does, and what each driver keeps for it.
pub record Promised (J : Shared → Driver → Type 0) (R : Pair → Pair → Type 0) : Type 0 where
  pub on_step : (p : Plan) (s : Shared) (running : List ℤ) (now : ℤ) (d : Driver) → IsTime now → IsSharedSound s → IsSoundDriver s d → J s d → R (pair_of s) (pair_of (planned_step p s running now d).shared)
  pub keeps : (s : Shared) (running : List ℤ) (now : ℤ) (d : Driver) → IsTime now → IsSharedSound s → IsSoundDriver s d → J s d → J (step s running now d).shared (step s running now d).driver
  pub each_event : (w : World) (e : Event) → IsLawful e → Sound w → Each (J w.shared) w.drivers → Each (J (next w e).0.shared) (next w e).0.drivers
  pub on_election : (s : Shared) (now : ℤ) → MayElect s → R (pair_of s) (pair_of (record s { log = elected_of s.log now }))
  pub on_batch : (s : Shared) (now : ℤ) (items : List MetaRecord) → IsLeaderBatch s now items → R (pair_of s) (pair_of (record s { log = more_of s now items }))
  pub on_tree : (s : Shared) (new : Tree) → IsSharedSound s → (is_migrated_log s.log ≡ true → IsUnchanged s.tree new) → R (pair_of s) (pair_of (record s { tree = new }))
  pub on_reset : (s : Shared) → IsSharedSound s → R (pair_of s) (pair_of (record s { log = reset s.log }))
  pub on_snapshot : (w : World) → Sound w → MaySnapshot w → R (pair_of w.shared) (pair_of (cut_world w).shared)

-- ---- a step

same_pair : (b : Bool) (s : Shared) → pair_of s ≡ pair_of (if b then s else s)
same_pair true s = refl
same_pair false s = refl

by_request : (R : Pair → Pair → Type 0) (p : Plan) (s : Shared) (epoch now : ℤ) (r : Request) → R (pair_of s) (pair_of (if reaches_store p r then shared_after s epoch now r else s))
    → LinkedTo R (pair_of s) (pairs_after r (if reaches_store p r then shared_after s epoch now r else s)) (pair_of (if reaches_store p r then shared_after s epoch now r else s))
by_request R p s epoch now nothing h = same_pair (reaches_store p nothing) s
by_request R p s epoch now r h = (h, refl)

pub step_linked : (R : Pair → Pair → Type 0) (p : Plan) (s : Shared) (running : List ℤ) (now : ℤ) (d : Driver) → R (pair_of s) (pair_of (planned_step p s running now d).shared) → LinkedTo R (pair_of s) (step_pairs p s running now d) (pair_of (planned_step p s running now d).shared)
unfolding planned_step
step_linked R p s running now d h = by_request R p s (epoch_or_zero d.epoch) now (request_at s now d d.stage) h

one_linked : (J : Shared → Driver → Type 0) (R : Pair → Pair → Type 0) (s : Shared) (running : List ℤ) (now : ℤ) (d : Driver) → Promised J R → IsTime now → IsSharedSound s → IsSoundDriver s d → J s d → LinkedTo R (pair_of s) (step_pairs plan.Deliver s running now d) (pair_of (step s running now d).shared)
unfolding step
one_linked J R s running now d h time kept fine own = step_linked R plan.Deliver s running now d (h.on_step plan.Deliver s running now d time kept fine own)

-- ---- a turn

ended : (R : Pair → Pair → Type 0) (p : Pair) (b : Bool) (t u : TurnResult) (xs : List Pair) → p ≡ pair_of t.shared → LinkedTo R p xs (pair_of u.shared) → LinkedTo R p (if b then [] else xs) (pair_of (if b then t else u).shared)
ended R p true t u xs same more = same
ended R p false t u xs same more = more

turn_linked : (J : Shared → Driver → Type 0) (R : Pair → Pair → Type 0) (n : ℕ) (s : Shared) (running : List ℤ) (now : ℤ) (d : Driver) → Promised J R → IsTime now → IsSharedSound s → IsSoundDriver s d → J s d → LinkedTo R (pair_of s) (turn_pairs n s running now d) (pair_of (turn n s running now d).shared)
unfolding turn turn_pairs
turn_linked J R zero s running now d h time kept fine own = refl
turn_linked J R (suc n) s running now d h time kept fine own =
    let r = step s running now d in
    let k : StepKeeps s d r.shared r.driver = one_step s running now d time kept fine in
    let t : TurnResult = turn n r.shared running now r.driver in
    let all : TurnResult = if ends r.reply then record { shared = r.shared; driver = r.driver; replies = r.reply ∷ [] } else with_reply r.reply t in
    linked_append R (pair_of s) (step_pairs plan.Deliver s running now d) (pair_of r.shared) (if ends r.reply then [] else turn_pairs n r.shared running now r.driver) (pair_of all.shared)
    (one_linked J R s running now d h time kept fine own)
    (ended R (pair_of r.shared) (ends r.reply) (record { shared = r.shared; driver = r.driver; replies = r.reply ∷ [] }) (with_reply r.reply t) (turn_pairs n r.shared running now r.driver) refl
    (turn_linked J R n r.shared running now r.driver h time k.shared k.driver (h.keeps s running now d time kept fine own)))

-- ---- events

abbrev LinkedBy : (Pair → Pair → Type 0) → World → List Pair → World → Type 0
LinkedBy R w ps new = LinkedTo R (pair_of w.shared) ps (pair_of new.shared)

-- an event that asks no store
quiet : (R : Pair → Pair → Type 0) (w : World) (refusal : Option Answer) (new : World) (a : Answer) → pair_of new.shared ≡ pair_of w.shared → LinkedBy R w [] (outcome_unless w refusal new a).0
quiet R w (Some r) new a same = refl
quiet R w None new a same = sym same

-- an event of one request, unless it is refused
one : (R : Pair → Pair → Type 0) (w : World) (refusal : Option Answer) (new : World) (a : Answer) → (refusal ≡ None → R (pair_of w.shared) (pair_of new.shared)) → LinkedBy R w (pairs_unless refusal (pair_of new.shared ∷ [])) (outcome_unless w refusal new a).0
one R w (Some r) new a h = refl
one R w None new a h = (h refl, refl)

more : (R : Pair → Pair → Type 0) (w : World) (refusal : Option Answer) (ps : List Pair) (rest : World × Answer) → (refusal ≡ None → LinkedBy R w ps rest.0) → LinkedBy R w (pairs_unless refusal ps) (unless_refused w refusal rest).0
more R w (Some r) ps rest h = refl
more R w None ps rest h = h refl

moved : (J : Shared → Driver → Type 0) (R : Pair → Pair → Type 0) (w : World) (r : Result Tree MoveFault) → Promised J R → Sound w → ((new : Tree) → r ≡ Ok new → IsUnchanged w.shared.tree new) → LinkedBy R w (tree_pairs w r) (moved_world w r).0
moved J R w (Ok t) h sound unchanged = (h.on_tree w.shared t sound.kept (λ migrated. unchanged t refl), refl)
moved J R w (Err f) h sound unchanged = refl

client_leaves : (w : World) (ops : List Op) (new : Tree) (b : Bool) → is_held_tree w.shared.tree ≡ b → multi w.shared.tree ops ≡ Ok new → client_refusal w.shared.tree ops ≡ None → Sound w → is_migrated_log w.shared.log ≡ true → IsUnchanged w.shared.tree new
client_leaves w ops new true held is none sound migrated = client_leaves_held w.shared.tree new ops is none held sound.kept.tree
client_leaves w ops new false held is none sound migrated = absurd (true_or_false (is_migrated_log w.shared.log) migrated (unmigrated w.shared sound.kept held))

client : (J : Shared → Driver → Type 0) (R : Pair → Pair → Type 0) (w : World) (ops : List Op) (r : Result Tree TreeFault) → multi w.shared.tree ops ≡ r → client_refusal w.shared.tree ops ≡ None → Promised J R → Sound w → LinkedBy R w (tree_pairs w r) (client_world w r).0
client J R w ops (Ok t) is none h sound = (h.on_tree w.shared t sound.kept (client_leaves w ops t (is_held_tree w.shared.tree) refl is none sound), refl)
client J R w ops (Err f) is none h sound = refl

-- the tree is given back, on a log that was reset
given : (J : Shared → Driver → Type 0) (R : Pair → Pair → Type 0) (w : World) (ops : List Op) → Promised J R → IsSharedSound w.shared → is_migrated_log w.shared.log ≡ false → LinkedBy R w (exit_pairs w ops) (given_back w (tree_after_ops w.shared.tree ops)).0
given J R w [] h kept before = refl
given J R w (o ∷ os) h kept before = by_result (multi w.shared.tree (o ∷ os))
  where
    by_result : (r : Result Tree TreeFault) → LinkedBy R w (tree_pairs w r) (given_back w r).0
    by_result (Ok t) = (h.on_tree w.shared t kept (λ migrated. absurd (true_or_false (is_migrated_log w.shared.log) migrated before)), refl)
    by_result (Err f) = refl

rolled_back : (J : Shared → Driver → Type 0) (R : Pair → Pair → Type 0) (w : World) → Promised J R → Sound w → LinkedBy R w (pair_of (reset_world w).shared ∷ exit_pairs (reset_world w) (exit_ops w.shared.tree)) (given_back (reset_world w) (tree_after_ops w.shared.tree (exit_ops w.shared.tree))).0
rolled_back J R w h sound = (h.on_reset w.shared sound.kept, given J R (reset_world w) (exit_ops w.shared.tree) h (reset_sound w.shared sound.kept) (reset_unmigrated w.shared.log))

stepped : (J : Shared → Driver → Type 0) (R : Pair → Pair → Type 0) (w : World) (id now : ℤ) (p : Plan) (m : Option Driver) → driver_of id w.drivers ≡ m → Promised J R → IsTime now → Sound w → Each (J w.shared) w.drivers → LinkedBy R w (event_step_pairs w p now m) (step_result w p now m).0
stepped J R w id now p None found h time sound each = refl
stepped J R w id now p (Some d) found h time sound each =
    step_linked R p w.shared (running_ids w.drivers) now d (h.on_step p w.shared (running_ids w.drivers) now d time sound.kept (sound.each id d found) (each id d found))

turned : (J : Shared → Driver → Type 0) (R : Pair → Pair → Type 0) (w : World) (id now : ℤ) (m : Option Driver) → driver_of id w.drivers ≡ m → Promised J R → IsTime now → Sound w → Each (J w.shared) w.drivers → LinkedBy R w (event_turn_pairs w now m) (turn_result w now m).0
turned J R w id now None found h time sound each = refl
turned J R w id now (Some d) found h time sound each = turn_linked J R (work w.shared d) w.shared (running_ids w.drivers) now d h time sound.kept (sound.each id d found) (each id d found)

pub event_linked : (J : Shared → Driver → Type 0) (R : Pair → Pair → Type 0) (w : World) (e : Event) → Promised J R → IsLawful e → Sound w → Each (J w.shared) w.drivers → LinkedBy R w (event_pairs w e) (next w e).0
unfolding next event_pairs
event_linked J R w (event.Quorum ids) h lawful sound each = quiet R w (quorum_refusal w ids) (declared_world w ids) _ refl
event_linked J R w (event.Start id) h lawful sound each = quiet R w (start_refusal w id) (started_world w id) _ refl
event_linked J R w (event.Stop controller) h lawful sound each = quiet R w (stop_refusal w controller) (stopped_world w controller) _ refl
event_linked J R w (event.Elect id now) h lawful sound each = one R w (election_refusal w id) (elected_world w id now) _ (λ none. h.on_election w.shared now (may_elect w id sound none))
event_linked J R w (event.Step id now p) h lawful sound each = more R w (running_refusal w id) (event_step_pairs w p now (driver_of id w.drivers)) (step_result w p now (driver_of id w.drivers)) (λ none. stepped J R w id now p (driver_of id w.drivers) refl h lawful.1 sound each)
event_linked J R w (event.Turn id now) h lawful sound each = more R w (running_refusal w id) (event_turn_pairs w now (driver_of id w.drivers)) (turn_result w now (driver_of id w.drivers)) (λ none. turned J R w id now (driver_of id w.drivers) refl h lawful.1 sound each)
event_linked J R w (event.Change id records now) h lawful sound each = one R w (change_refusal w id records) (changed_world w records now) _ (λ none. h.on_batch w.shared now records (change_batch w id now records lawful.2 sound (may_change w id records none)))
event_linked J R w (event.Register id broker migrating now) h lawful sound each =
    one R w (register_refusal w id (registration broker migrating)) (changed_world w (registration broker migrating) now) _ (λ none. h.on_batch w.shared now (registration broker migrating) (register_batch w id broker now migrating sound none))
event_linked J R w (event.Finalise id now) h lawful sound each = one R w (finalise_refusal w id) (changed_world w final_records now) _ (λ none. h.on_batch w.shared now final_records (final_batch w id now sound (may_finalise w id none)))
event_linked J R w event.Rollback h lawful sound each =
    more R w (rollback_refusal w) (pair_of (reset_world w).shared ∷ exit_pairs (reset_world w) (exit_ops w.shared.tree)) (given_back (reset_world w) (tree_after_ops w.shared.tree (exit_ops w.shared.tree))) (λ none. rolled_back J R w h sound)
event_linked J R w event.Snapshot h lawful sound each = one R w (snapshot_refusal w) (cut_world w) _ (λ none. h.on_snapshot w sound (may_snapshot w none))
event_linked J R w event.Check h lawful sound each = refl
event_linked J R w (event.ZkOpen session) h lawful sound each = moved J R w (begin_session w.shared.tree session) h sound (λ new is. (begin_leaves w.shared.tree new session is sound.kept.tree).1)
event_linked J R w (event.ZkExpire session) h lawful sound each = moved J R w (end_session w.shared.tree session) h sound (λ new is. (end_leaves w.shared.tree new session is sound.kept.tree).1)
event_linked J R w (event.Zk ops) h lawful sound each = more R w (client_refusal w.shared.tree ops) (tree_pairs w (multi w.shared.tree ops)) (client_world w (multi w.shared.tree ops)) (λ none. client J R w ops (multi w.shared.tree ops) refl none h sound)

-- ---- runs

pub run_linked : (J : Shared → Driver → Type 0) (R : Pair → Pair → Type 0) (es : List Event) (w : World) → Promised J R → All IsLawful es → Sound w → Each (J w.shared) w.drivers → LinkedTo R (pair_of w.shared) (request_pairs w es) (pair_of (after_events w es).shared)
unfolding after_events request_pairs
run_linked J R [] w h lawful sound each = refl
run_linked J R (e ∷ es) w h lawful sound each =
    let own = All-head IsLawful e es lawful in
    let new : World = (next w e).0 in
    linked_append R (pair_of w.shared) (event_pairs w e) (pair_of new.shared) (request_pairs new es) (pair_of (after_events new es).shared)
    (event_linked J R w e h own sound each)
    (run_linked J R es new h (All-tail IsLawful e es lawful) (event_sound w e own sound) (h.each_event w e own sound each))
