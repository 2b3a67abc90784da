-- What holds of each pair of a run holds at each moment of its replay.
use Rattle.std.proofs.Common.{◌≡◌, ℕ, zero, suc, ◌+◌, ℤ, Bool, true, false, if◌then◌else◌, List, [], ◌∷◌, ◌++◌, Option, Some, None, All, Contains, sym, subst}
use Rattle.std.specs.Prelude.{⊤}
use Rattle.std.proofs.lemmas.List.Elements.{All-nil, All-cons, All-head, All-tail, Contains-push, Contains-append_left, Contains-append_right}
use Rattle.kz_types.specs.declared.machine.Answer.{Answer}
use Rattle.kz_types.specs.declared.machine.Event.{Event}
use Rattle.kz_types.specs.declared.machine.Event.TheVariants as event
use Rattle.kz_types.specs.declared.outside.Status.{Status}
use Rattle.kz_types.specs.declared.plan.Plan.TheVariants as plan
use Rattle.kz_spec_data.specs.Lines.{Item, line, long, much, items, is_passed_over}
use Rattle.kz_spec_data.specs.Events.{line_event}
use Rattle.kz_spec_data.specs.Replies.{reply_line, reply_text}
use Rattle.kz_spec_data.specs.Tree.{Tree}
use Rattle.kz_spec_data.specs.Log.{Log}
use Rattle.kz_spec_machine.specs.Driver.{Shared, Driver, step}
use Rattle.kz_spec_machine.specs.Machine.{World, Pair, pair_of, step_pairs, turn_pairs, event_turn_pairs, pairs_unless, ends, work, running_ids, running_refusal, driver_of, next, event_pairs, request_pairs}
use Rattle.kz_spec_machine.specs.Sound.{Sound, IsLawful}
use Rattle.kz_spec_machine.specs.InStep.{events_on, events_of, script_events}
use Rattle.kz_spec_machine.specs.Moments.{Moment, moment_at, moments_at, moment_after, later, turn_moments, driver_moments, moments_of_turn, request_moments, moments_unless, moments_on, moments, replayed_moments}
use Rattle.kz_spec_machine.specs.Openings.{opened_world, IsSoundPair}
use Rattle.kz_spec_machine.specs.Output.{Place, place_of, place_after_line, place_after_event, written_for, ending, summary}
use Rattle.kz_laws_events.proofs.Every.{event_sound}
use Rattle.kz_laws_runs.specs.Pairs.{IsSoundMoment}
use Rattle.kz_laws_runs.proofs.Linked.{LinkedTo, Promised, step_linked, event_linked}
use Rattle.kz_laws_runs.proofs.Pairs.{moments_sound}

-- ---- lists

first_part : {X : Type 0} (P : X → Type 0) (xs ys : List X) → All P (xs ++ ys) → All P xs
first_part P [] ys h = All-nil P
first_part P (x ∷ xs) ys h = All-cons P x xs (All-head P x (xs ++ ys) h) (first_part P xs ys (All-tail P x (xs ++ ys) h))

second_part : {X : Type 0} (P : X → Type 0) (xs ys : List X) → All P (xs ++ ys) → All P ys
second_part P [] ys h = h
second_part P (x ∷ xs) ys h = second_part P xs ys (All-tail P x (xs ++ ys) h)

both_parts : {X : Type 0} (P : X → Type 0) (xs ys : List X) → All P xs → All P ys → All P (xs ++ ys)
both_parts P [] ys h k = k
both_parts P (x ∷ xs) ys h k = All-cons P x (xs ++ ys) (All-head P x xs h) (both_parts P xs ys (All-tail P x xs h) k)

weaker : {X : Type 0} (P Q : X → Type 0) (ys : List X) → ((y : X) → P y → Q y) → All P ys → All Q ys
weaker P Q [] f h = All-nil Q
weaker P Q (y ∷ ys) f h = All-cons Q y ys (f y (All-head P y ys h)) (weaker P Q ys f (All-tail P y ys h))

-- each element of a list stands in it
all_stand : {X : Type 0} (xs : List X) → All (Contains xs) xs
all_stand [] = All-nil (Contains [])
all_stand (x ∷ xs) = All-cons (Contains (x ∷ xs)) x xs (Contains-append_left (x ∷ []) xs x (Contains-push [] x)) (weaker (Contains xs) (Contains (x ∷ xs)) xs (λ y h. Contains-append_right (x ∷ []) xs y h) (all_stand xs))

-- ---- moments

abbrev AtPair : (Pair → Type 0) → Moment → Type 0
AtPair P m = P m.pair

all_moments_at : (P : Pair → Type 0) (reply : List ℕ) (ps : List Pair) → All P ps → All (AtPair P) (moments_at reply ps)
all_moments_at P reply [] h = All-nil (AtPair P)
all_moments_at P reply (p ∷ ps) h = All-cons (AtPair P) (moment_at reply p) (moments_at reply ps) (All-head P p ps h) (all_moments_at P reply ps (All-tail P p ps h))

all_later : (P : Pair → Type 0) (text : List ℕ) (ms : List Moment) → All (AtPair P) ms → All (AtPair P) (later text ms)
all_later P text [] h = All-nil (AtPair P)
all_later P text (m ∷ ms) h = All-cons (AtPair P) (moment_after text m) (later text ms) (All-head (AtPair P) m ms h) (all_later P text ms (All-tail (AtPair P) m ms h))

one_moment : (P : Pair → Type 0) (reply : List ℕ) (p : Pair) → P p → All (AtPair P) (moment_at reply p ∷ [])
one_moment P reply p h = All-cons (AtPair P) (moment_at reply p) [] h (All-nil (AtPair P))

-- ---- the last of some pairs

abbrev Always : Pair → Pair → Type 0
Always p q = ⊤

nothing_asked : Promised (λ s d. ⊤) Always
nothing_asked = record {
  on_step = λ p s running now d time kept fine own. tt;
  keeps = λ s running now d time kept fine own. tt;
  each_event = λ w e lawful sound each id d found. tt;
  on_election = λ s now may. tt;
  on_batch = λ s now batch may. tt;
  on_tree = λ s new kept may. tt;
  on_reset = λ s kept. tt;
  on_snapshot = λ w sound may. tt;
}

linked_last : (P : Pair → Type 0) (p : Pair) (xs : List Pair) (q : Pair) → LinkedTo Always p xs q → All P (p ∷ xs) → P q
linked_last P p [] q same all = subst P same (All-head P p [] all)
linked_last P p (x ∷ xs) q h all = linked_last P x xs q h.1 (All-tail P p (x ∷ xs) all)

step_to : (s : Shared) (running : List ℤ) (now : ℤ) (d : Driver) → LinkedTo Always (pair_of s) (step_pairs plan.Deliver s running now d) (pair_of (step s running now d).shared)
unfolding step
step_to s running now d = step_linked Always plan.Deliver s running now d tt

-- ---- an event

unless_over : (P : Pair → Type 0) (b : Bool) (ps : List Pair) (ms : List Moment) → All P (if b then [] else ps) → (All P ps → All (AtPair P) ms) → All (AtPair P) (if b then [] else ms)
unless_over P true ps ms h f = All-nil (AtPair P)
unless_over P false ps ms h f = f h

turn_within : (P : Pair → Type 0) (number : ℕ) (before : List ℕ) (n : ℕ) (s : Shared) (running : List ℤ) (now : ℤ) (d : Driver) → All P (pair_of s ∷ turn_pairs n s running now d) → All (AtPair P) (turn_moments number before n s running now d)
unfolding turn_pairs turn_moments
turn_within P number before zero s running now d all = All-nil (AtPair P)
turn_within P number before (suc n) s running now d all =
    let ps = pair_of s ∷ step_pairs plan.Deliver s running now d in
    let x = step s running now d in
    let further = turn_pairs n x.shared running now x.driver in
    let text = before ++ reply_line number (reply_text x.reply) in
    let rest = if ends x.reply then [] else further in
    let own = first_part P ps rest all in
    let reached = linked_last P (pair_of s) (step_pairs plan.Deliver s running now d) (pair_of x.shared) (step_to s running now d) own in
    both_parts (AtPair P) (moments_at before ps) (if ends x.reply then [] else turn_moments number text n x.shared running now x.driver) (all_moments_at P before ps own)
    (unless_over P (ends x.reply) further (turn_moments number text n x.shared running now x.driver) (second_part P ps rest all)
    (λ h. turn_within P number text n x.shared running now x.driver (All-cons P (pair_of x.shared) further reached h)))

turn_by : (P : Pair → Type 0) (p : Place) (now : ℤ) (r : Option Answer) (o : Option Driver) → All P (pair_of p.world.shared ∷ pairs_unless r (event_turn_pairs p.world now o)) → All (AtPair P) (moments_of_turn r (driver_moments p now o))
turn_by P p now (Some r) o h = All-nil (AtPair P)
turn_by P p now None None h = All-nil (AtPair P)
turn_by P p now None (Some d) h = turn_within P (p.lines + 1) [] (work p.world.shared d) p.world.shared (running_ids p.world.drivers) now d h

requests_within : (P : Pair → Type 0) (p : Place) (e : Event) → All P (pair_of p.world.shared ∷ event_pairs p.world e) → All (AtPair P) (request_moments p e)
unfolding event_pairs
requests_within P p (event.Turn id now) h = turn_by P p now (running_refusal p.world id) (driver_of id p.world.drivers) h
requests_within P p e h = all_moments_at P [] (event_pairs p.world e) (All-tail P (pair_of p.world.shared) (event_pairs p.world e) h)

-- ---- a run

ended_within : (P : Pair → Type 0) (end : Option Status) (q : Place) (ms : List Moment) → P (pair_of q.world.shared) → All (AtPair P) ms → All (AtPair P) (moments_unless end q ms)
ended_within P (Some s) q ms here all = one_moment P [] (pair_of q.world.shared) here
ended_within P None q ms here all = all

abbrev Within : (Pair → Type 0) → List Event → List Item → Type 0
Within P es is = (q : Place) → Sound q.world → All IsLawful es → All P (pair_of q.world.shared ∷ request_pairs q.world es) → All (AtPair P) (moments q is)

event_within : (P : Pair → Type 0) (p : Place) (e : Event) (es : List Event) (is : List Item) → Within P es is → Sound p.world → All IsLawful (e ∷ es) → All P (pair_of p.world.shared ∷ request_pairs p.world (e ∷ es)) → All (AtPair P) (moments_on p (Some e) (λ q. moments q is))
unfolding request_pairs
event_within P p e es is rest sound lawful all =
    let w = p.world in
    let new : World = (next w e).0 in
    let own = All-head IsLawful e es lawful in
    let here = first_part P (pair_of w.shared ∷ event_pairs w e) (request_pairs new es) all in
    let reached = linked_last P (pair_of w.shared) (event_pairs w e) (pair_of new.shared) (event_linked (λ s d. ⊤) Always w e nothing_asked own sound (λ id d found. tt)) here in
    let q = place_after_event p e in
    let on = ended_within P (ending (next w e).1) q (moments q is) reached (rest q (event_sound w e own sound) (All-tail IsLawful e es lawful) (All-cons P (pair_of new.shared) (request_pairs new es) reached (second_part P (pair_of w.shared ∷ event_pairs w e) (request_pairs new es) all))) in
    All-cons (AtPair P) (moment_at [] (pair_of w.shared)) _ (All-head P (pair_of w.shared) (event_pairs w e) here)
    (both_parts (AtPair P) (request_moments p e) _ (requests_within P p e here)
    (All-cons (AtPair P) (moment_at (written_for p e) (pair_of new.shared)) _ reached (all_later P (written_for p e) (moments_unless (ending (next w e).1) q (moments q is)) on)))

line_within : (P : Pair → Type 0) (b : Bool) (o : Option Event) (p : Place) (es : List Event) (is : List Item) → Within P es is → Sound p.world → All IsLawful (if b then es else events_on o es) → All P (pair_of p.world.shared ∷ request_pairs p.world (if b then es else events_on o es))
    → All (AtPair P) (if b then moments (place_after_line p) is else moments_on p o (λ q. moments q is))
line_within P true o p es is rest sound lawful all = rest (place_after_line p) sound lawful all
line_within P false None p es is rest sound lawful all = one_moment P [] (pair_of p.world.shared) (All-head P (pair_of p.world.shared) (request_pairs p.world []) all)
line_within P false (Some e) p es is rest sound lawful all = event_within P p e es is rest sound lawful all

items_within : (P : Pair → Type 0) (is : List Item) → Within P (events_of is) is
unfolding moments
items_within P [] p sound lawful all = one_moment P (summary p) (pair_of p.world.shared) (All-head P (pair_of p.world.shared) (request_pairs p.world []) all)
items_within P (long ∷ is) p sound lawful all = one_moment P [] (pair_of p.world.shared) (All-head P (pair_of p.world.shared) (request_pairs p.world []) all)
items_within P (much ∷ is) p sound lawful all = one_moment P [] (pair_of p.world.shared) (All-head P (pair_of p.world.shared) (request_pairs p.world []) all)
items_within P (line l ∷ is) p sound lawful all = line_within P (is_passed_over l) (line_event l) p (events_of is) is (items_within P is) sound lawful all

-- ---- a replay

pub replay_moments_are_pairs : (t : Tree) (l : Log) (script : List ℕ) → IsSoundPair t l → All IsLawful (script_events script) → All (λ (m : Moment). Contains (pair_of (opened_world t l).shared ∷ request_pairs (opened_world t l) (script_events script)) m.pair) (replayed_moments (opened_world t l) script)
replay_moments_are_pairs t l script pair lawful =
    let w = opened_world t l in
    let ps = pair_of w.shared ∷ request_pairs w (script_events script) in
    items_within (Contains ps) (items script) (place_of w) pair.sound lawful (all_stand ps)

pub replay_moments_sound : (t : Tree) (l : Log) (script : List ℕ) → IsSoundPair t l → All IsLawful (script_events script) → All (λ (m : Moment). IsSoundMoment m.pair) (replayed_moments (opened_world t l) script)
replay_moments_sound t l script pair lawful = items_within IsSoundMoment (items script) (place_of (opened_world t l)) pair.sound lawful (moments_sound t l (script_events script) pair lawful)
