-- What a stop leaves of a run, by the moments of the run.
use Rattle.std.proofs.Common.{◌≡◌, ◌⊎◌, inl, inr, ℕ, zero, suc, ◌+◌, ℤ, Bool, true, false, if◌then◌else◌, List, [], ◌∷◌, ◌++◌, All, Contains, Option, Some, None, Result, Ok, Err, IfOk, refl, sym, ap, ◌∙◌, subst, append_assoc, append-nil, arith}
use Rattle.std.proofs.lemmas.List.Elements.{All-nil, All-cons, All-head, All-tail, All-contains, Contains-push, Contains-append_left, Contains-append_right}
use Rattle.kz_types.specs.declared.machine.Answer.{Answer}
use Rattle.kz_types.specs.declared.machine.Answer.TheVariants as answer
use Rattle.kz_types.specs.declared.machine.Event.{Event}
use Rattle.kz_types.specs.declared.machine.Event.TheVariants as event
use Rattle.kz_types.specs.declared.machine.Reply.{Reply}
use Rattle.kz_types.specs.declared.memory.NoMemory.{NoMemory}
use Rattle.kz_types.specs.declared.outside.Status.{Status}
use Rattle.kz_types.specs.declared.plan.Plan.TheVariants as plan
use Rattle.kz_spec_data.specs.Lines.{Item, line, long, much, is_passed_over}
use Rattle.kz_spec_data.specs.Events.{line_event}
use Rattle.kz_spec_data.specs.Replies.{reply_text, reply_line, reply_lines}
use Rattle.kz_spec_data.specs.Tree.{Tree}
use Rattle.kz_spec_data.specs.Log.{Log}
use Rattle.kz_spec_data.specs.Requests.{Only}
use Rattle.kz_spec_machine.specs.Driver.{Shared, Driver, step}
use Rattle.kz_spec_machine.specs.Machine.{World, Pair, pair_of, step_pairs, ends, work, running_ids, driver_of, next, event_pairs}
use Rattle.kz_spec_machine.specs.Failures.{is_failure, IsCutOff, CutOffTurn, IsLeft}
use Rattle.kz_spec_machine.specs.Output.{Place, place_after_line, place_after_event, written_for, ending, summary}
use Rattle.kz_spec_machine.specs.Endings.{IsFront}
use Rattle.kz_spec_machine.specs.Moments.{Moment, moment_at, moments_at, moment_after, later, turn_moments, driver_moments, moments_of_turn, request_moments, moments_unless, moments_on, moments, StandsAt, LeavesMoment}
use Rattle.kz_world_parts.specs.TurnStops.{LeavesOneOf, last_step_pairs, turn_failure_pairs, failure_pairs}
use Rattle.kz_stream.specs.declared.failure.Failure.{Failure}
use Rattle.kz_stream.specs.Failures.{failure_of}
use Rattle.kz_stream.proofs.Answers.{is_failed, is_done}
use Rattle.kz_stream.specs.declared.ending.Next.{Next}
use Rattle.kz_stream.specs.declared.ending.Next.TheVariants as next_is
use Rattle.kz_stream.specs.declared.ending.Printed.{Printed}
use Rattle.kz_stream.specs.Lines.{effect_by, effect_of_line, Prints}
use Rattle.kz_stream.specs.Machines.{printed_lines, out_of_memory, IsPrinted}
use Rattle.kz_stream.specs.Moments.{KeepsUp, EventKeepsUp, LineKeepsUp, text_of, summarised}
use Rattle.kz_stream.proofs.CutOff.{lines, no_line, no_reply_line, calm_lines}
use Rattle.kz_stream.proofs.Outcomes.{front_more, no_text}

-- ---- lists

first_of : {X : Type 0} (x : X) (xs : List X) → Contains (x ∷ xs) x
first_of x xs = Contains-append_left (x ∷ []) xs x (Contains-push [] x)

tail_of : {X : Type 0} (x : X) (xs : List X) (y : X) → Contains xs y → Contains (x ∷ xs) y
tail_of x xs y h = Contains-append_right (x ∷ []) xs y h

all_weaker : {X : Type 0} (P Q : X → Type 0) (xs : List X) → ((x : X) → P x → Q x) → All P xs → All Q xs
all_weaker P Q [] f h = All-nil Q
all_weaker P Q (x ∷ xs) f h = All-cons Q x xs (f x (All-head P x xs h)) (all_weaker P Q xs f (All-tail P x xs h))

all_later : (text : List ℕ) (ms : List Moment) → All (λ (m : Moment). Contains (later text ms) (moment_after text m)) ms
all_later text [] = All-nil (λ (x : Moment). Contains (later text []) (moment_after text x))
all_later text (m ∷ ms) = All-cons (λ (x : Moment). Contains (later text (m ∷ ms)) (moment_after text x)) m ms (first_of (moment_after text m) (later text ms))
    (all_weaker (λ (x : Moment). Contains (later text ms) (moment_after text x)) (λ (x : Moment). Contains (later text (m ∷ ms)) (moment_after text x)) ms (λ x h. tail_of (moment_after text m) (later text ms) (moment_after text x) h) (all_later text ms))

in_later : (text : List ℕ) (ms : List Moment) (m : Moment) → Contains ms m → Contains (later text ms) (moment_after text m)
in_later text ms m h = All-contains (λ (x : Moment). Contains (later text ms) (moment_after text x)) ms m (all_later text ms) h

all_at : (reply : List ℕ) (ps : List Pair) → All (λ (p : Pair). Contains (moments_at reply ps) (moment_at reply p)) ps
all_at reply [] = All-nil (λ (x : Pair). Contains (moments_at reply []) (moment_at reply x))
all_at reply (p ∷ ps) = All-cons (λ (x : Pair). Contains (moments_at reply (p ∷ ps)) (moment_at reply x)) p ps (first_of (moment_at reply p) (moments_at reply ps))
    (all_weaker (λ (x : Pair). Contains (moments_at reply ps) (moment_at reply x)) (λ (x : Pair). Contains (moments_at reply (p ∷ ps)) (moment_at reply x)) ps (λ x h. tail_of (moment_at reply p) (moments_at reply ps) (moment_at reply x) h) (all_at reply ps))

in_moments_at : (reply : List ℕ) (ps : List Pair) (p : Pair) → Contains ps p → Contains (moments_at reply ps) (moment_at reply p)
in_moments_at reply ps p h = All-contains (λ (x : Pair). Contains (moments_at reply ps) (moment_at reply x)) ps p (all_at reply ps) h

-- what holds of a pair and of those after it
one_of : (P : Pair → Type 0) (first pair : Pair) (rest : List Pair) → P first → ((p : Pair) → Contains rest p → P p) → Contains (first ∷ rest) pair → P pair
one_of P first pair rest head tail h = All-contains P (first ∷ rest) pair (All-cons P first rest head (all_of rest tail)) h
  where
    all_of : (ps : List Pair) → ((p : Pair) → Contains ps p → P p) → All P ps
    all_of [] f = All-nil P
    all_of (p ∷ ps) f = All-cons P p ps (f p (first_of p ps)) (all_of ps (λ q among. f q (tail_of p ps q among)))

-- ---- fronts

front_of_none : (sent : List ℕ) → IsFront sent [] → sent ≡ []
front_of_none [] h = refl
front_of_none (x ∷ xs) h = absurd (let clash = h.1 in cc)

-- what keeps up with a text keeps up with each front of it
pub fewer : (ms : List Moment) (text all : List ℕ) (tree_left : Option Tree → Type 0) (log_left : Option Log → Type 0) → IsFront text all → KeepsUp ms all tree_left log_left → KeepsUp ms text tree_left log_left
fewer ms text all tree_left log_left front h = λ sent part. h sent (front_more sent text all front.0 part front.1)

-- a moment at which any front of a text may stand
at_front : (ms : List Moment) (reply : List ℕ) (tree_left : Option Tree → Type 0) (log_left : Option Log → Type 0)
    → ((t : Option Tree) (l : Option Log) → tree_left t → log_left l → (pair : Pair) × Contains ms (moment_at reply pair) × (t ≡ Some pair.tree) × (l ≡ Some pair.log)) → KeepsUp ms reply tree_left log_left
at_front ms reply tree_left log_left h = λ sent front t l in_tree in_log.
    let found = h t l in_tree in_log in
    record { moment = moment_at reply found.0; among = found.1; part = sent; rest = front.0; front = front.1; written = refl; tree_is = found.2; log_is = found.3 }

-- ---- a place, and whatever follows it

-- Some moment has the tree and the log of the place, and nothing is written by then.
record Here (q : Place) (ms : List Moment) : Type 0 where
  moment : Moment
  among : Contains ms moment
  text : moment.text ≡ []
  pair : moment.pair ≡ pair_of q.world.shared

here_first : (q : Place) (reply : List ℕ) (ms : List Moment) → Here q (moment_at reply (pair_of q.world.shared) ∷ ms)
here_first q reply ms = record { moment = moment_at reply (pair_of q.world.shared); among = first_of (moment_at reply (pair_of q.world.shared)) ms; text = refl; pair = refl }

here_on : (q : Place) (o : Option Event) (go : Place → List Moment) → Here q (moments_on q o go)
here_on q None go = here_first q [] []
here_on q (Some e) go = here_first q [] _

here_by : (b : Bool) (q : Place) (ms : List Moment) (o : Option Event) (go : Place → List Moment) → Here (place_after_line q) ms → Here q (if b then ms else moments_on q o go)
here_by true q ms o go h = record { moment = h.moment; among = h.among; text = h.text; pair = h.pair }
here_by false q ms o go h = here_on q o go

here : (q : Place) (is : List Item) → Here q (moments q is)
unfolding moments
here q [] = here_first q (summary q) []
here q (long ∷ is) = here_first q [] []
here q (much ∷ is) = here_first q [] []
here q (line l ∷ is) = here_by (is_passed_over l) q (moments (place_after_line q) is) (line_event l) (λ r. moments r is) (here (place_after_line q) is)

stands_here : (q : Place) (ms : List Moment) (t : Option Tree) (l : Option Log) → Here q ms → t ≡ Some q.world.shared.tree → l ≡ Some q.world.shared.log → StandsAt ms [] t l
stands_here q ms t l h is_t is_l = record {
  moment = h.moment;
  among = h.among;
  part = [];
  rest = h.moment.reply;
  front = refl;
  written = sym (ap (λ x. x ++ []) h.text);
  tree_is = is_t ∙ ap (λ (p : Pair). Some p.tree) (sym h.pair);
  log_is = is_l ∙ ap (λ (p : Pair). Some p.log) (sym h.pair);
}

-- Stores of which neither is down keep up with what is written before the run goes on.
pub leaves_here : (q : Place) (is : List Item) (tree_left : Option Tree → Type 0) (log_left : Option Log → Type 0) → Only q.world.shared.tree tree_left × Only q.world.shared.log log_left → LeavesMoment (moments q is) [] tree_left log_left
leaves_here q is tree_left log_left settled = λ t l in_tree in_log. stands_here q (moments q is) t l (here q is) (settled.0 t in_tree) (settled.1 l in_log)

pub keeps_up_here : (q : Place) (is : List Item) (text : List ℕ) (tree_left : Option Tree → Type 0) (log_left : Option Log → Type 0) → text ≡ [] → Only q.world.shared.tree tree_left × Only q.world.shared.log log_left → KeepsUp (moments q is) text tree_left log_left
keeps_up_here q is text tree_left log_left none settled = λ sent front.
    subst (λ (s : List ℕ). LeavesMoment (moments q is) s tree_left log_left) (sym (front_of_none sent (subst (IsFront sent) none front))) (leaves_here q is tree_left log_left settled)

-- ---- after a text

stands_later : (text : List ℕ) (ms more : List Moment) (sent : List ℕ) (t : Option Tree) (l : Option Log) → ((m : Moment) → Contains ms m → Contains more (moment_after text m)) → StandsAt ms sent t l → StandsAt more (text ++ sent) t l
stands_later text ms more sent t l among s = record {
  moment = moment_after text s.moment;
  among = among s.moment s.among;
  part = s.part;
  rest = s.rest;
  front = s.front;
  written = ap (λ x. text ++ x) s.written ∙ sym (append_assoc text s.moment.text s.part);
  tree_is = s.tree_is;
  log_is = s.log_is;
}

pub leaves_later : (text : List ℕ) (ms more : List Moment) (sent : List ℕ) (tree_left : Option Tree → Type 0) (log_left : Option Log → Type 0) → ((m : Moment) → Contains ms m → Contains more (moment_after text m))
    → LeavesMoment ms sent tree_left log_left → LeavesMoment more (text ++ sent) tree_left log_left
leaves_later text ms more sent tree_left log_left among h = λ t l in_tree in_log. stands_later text ms more sent t l among (h t l in_tree in_log)

-- a front of a text and of what follows it
front_cases : (sent text more : List ℕ) → IsFront sent (text ++ more) → IsFront sent text ⊎ ((part : List ℕ) × (sent ≡ text ++ part) × IsFront part more)
front_cases sent [] more h = inr (sent, refl, h)
front_cases [] (x ∷ text) more h = inl (x ∷ text, refl)
front_cases (y ∷ sent) (x ∷ text) more h =
    let same : x ≡ y = let is = h.1 in cc in
    let rest : text ++ more ≡ sent ++ h.0 = let is = h.1 in cc in
    further y sent x text more same (front_cases sent text more (h.0, rest))
  where
    further : (y : ℕ) (sent : List ℕ) (x : ℕ) (text more : List ℕ) → x ≡ y → IsFront sent text ⊎ ((part : List ℕ) × (sent ≡ text ++ part) × IsFront part more) → IsFront (y ∷ sent) (x ∷ text) ⊎ ((part : List ℕ) × (y ∷ sent ≡ (x ∷ text) ++ part) × IsFront part more)
    further y sent x text more same (inl f) = inl (f.0, ap (λ z. z ∷ text) same ∙ ap (λ t. y ∷ t) f.1)
    further y sent x text more same (inr f) = inr (f.0, ap (λ z. z ∷ sent) (sym same) ∙ ap (λ t. x ∷ t) f.1, f.2)

-- What keeps up with a text, and with what follows it from the moments after it, keeps up with both.
pub keeps_up_on : (ms after : List Moment) (text more : List ℕ) (tree_left : Option Tree → Type 0) (log_left : Option Log → Type 0) → KeepsUp ms text tree_left log_left → ((m : Moment) → Contains after m → Contains ms (moment_after text m)) → KeepsUp after more tree_left log_left
    → KeepsUp ms (text ++ more) tree_left log_left
keeps_up_on ms after text more tree_left log_left first among second = λ sent front. by_part sent (front_cases sent text more front)
  where
    by_part : (sent : List ℕ) → IsFront sent text ⊎ ((part : List ℕ) × (sent ≡ text ++ part) × IsFront part more) → LeavesMoment ms sent tree_left log_left
    by_part sent (inl f) = first sent f
    by_part sent (inr f) = subst (λ (s : List ℕ). LeavesMoment ms s tree_left log_left) (sym f.1) (leaves_later text after ms f.0 tree_left log_left among (second f.0 f.2))

-- at the end of the input, the summary is written
pub summary_keeps_up : (q : Place) (tree_left : Option Tree → Type 0) (log_left : Option Log → Type 0) → Only q.world.shared.tree tree_left × Only q.world.shared.log log_left → KeepsUp (moments q []) (summary q) tree_left log_left
unfolding moments
summary_keeps_up q tree_left log_left settled = at_front (moments q []) (summary q) tree_left log_left
    (λ t l in_tree in_log. (pair_of q.world.shared, first_of (moment_at (summary q) (pair_of q.world.shared)) [], settled.0 t in_tree, settled.1 l in_log))

-- what keeps up at the end of the input, where the run goes on or ends before
pub closing_keeps_up : (what : Next) (r : Result Printed NoMemory) (p q : Place) (is : List Item) (text : List ℕ) (tree_left : Option Tree → Type 0) (log_left : Option Log → Type 0) → KeepsUp (moments p is) text tree_left log_left
    → (what ≡ next_is.GoesOn → (m : Moment) → Contains (moments q []) m → Contains (moments p is) (moment_after text m)) → (what ≡ next_is.GoesOn → Only q.world.shared.tree tree_left × Only q.world.shared.log log_left)
    → IfOk r (λ (z : Printed). z.text.items ≡ summarised what text q) → KeepsUp (moments p is) (text_of r) tree_left log_left
closing_keeps_up what (Err none) p q is text tree_left log_left first among settled made = fewer (moments p is) [] text tree_left log_left (text, refl) first
closing_keeps_up next_is.GoesOn (Ok z) p q is text tree_left log_left first among settled made =
    subst (λ (t : List ℕ). KeepsUp (moments p is) t tree_left log_left) (sym made) (keeps_up_on (moments p is) (moments q []) text (summary q) tree_left log_left first (among refl) (summary_keeps_up q tree_left log_left (settled refl)))
closing_keeps_up (next_is.Ends e) (Ok z) p q is text tree_left log_left first among settled made = subst (λ (t : List ℕ). KeepsUp (moments p is) t tree_left log_left) (sym made) first
closing_keeps_up (next_is.Fails f) (Ok z) p q is text tree_left log_left first among settled made = subst (λ (t : List ℕ). KeepsUp (moments p is) t tree_left log_left) (sym made) first

-- ---- an event that failed

-- The pairs of the step that failed stand among the moments of the turn, after the lines of the steps before it.
steps_among : (n : ℕ) (before : List ℕ) (most : ℕ) (s : Shared) (running : List ℤ) (now : ℤ) (d : Driver) (replies : List Reply) (t : Shared) (e : Driver) → IsCutOff most s running now d replies t e → (pair : Pair) → Contains (last_step_pairs replies s running now d) pair
    → Contains (turn_moments n before most s running now d) (moment_at (before ++ lines n replies) pair)
unfolding IsCutOff last_step_pairs turn_moments
steps_among n before zero s running now d replies t e cut pair h = absurd cut
steps_among n before (suc most) s running now d [] t e cut pair h = absurd cut
steps_among n before (suc most) s running now d (r ∷ []) t e cut pair h =
    let ps = pair_of s ∷ step_pairs plan.Deliver s running now d in
    let x = step s running now d in
    let rest = if ends x.reply then [] else turn_moments n (before ++ reply_line n (reply_text x.reply)) most x.shared running now x.driver in
    let none : before ≡ before ++ lines n (r ∷ []) = sym (append-nil before) ∙ ap (λ text. before ++ text) (sym (no_line n r cut.0)) in
    subst (λ (text : List ℕ). Contains (moments_at before ps ++ rest) (moment_at text pair)) none (Contains-append_left (moments_at before ps) rest (moment_at before pair) (in_moments_at before ps pair h))
steps_among n before (suc most) s running now d (r ∷ q ∷ rs) t e cut pair h =
    let at = moments_at before (pair_of s ∷ step_pairs plan.Deliver s running now d) in
    let x = step s running now d in
    let here = reply_line n (reply_text x.reply) in
    let rest = turn_moments n (before ++ here) most x.shared running now x.driver in
    let on : ends x.reply ≡ false = ap ends (sym cut.0) ∙ cut.1 in
    let text : (before ++ here) ++ lines n (q ∷ rs) ≡ before ++ lines n (r ∷ q ∷ rs) = append_assoc before here (lines n (q ∷ rs)) ∙ ap (λ (z : Reply). before ++ (reply_line n (reply_text z) ++ lines n (q ∷ rs))) (sym cut.0) in
    let deeper = steps_among n (before ++ here) most x.shared running now x.driver (q ∷ rs) t e cut.2 pair h in
    subst (λ (b : Bool). Contains (at ++ (if b then [] else rest)) (moment_at (before ++ lines n (r ∷ q ∷ rs)) pair)) (sym on)
    (subst (λ (y : List ℕ). Contains (at ++ rest) (moment_at y pair)) text (Contains-append_right at rest (moment_at ((before ++ here) ++ lines n (q ∷ rs)) pair) deeper))

turn_among : (p : Place) (id now : ℤ) (replies : List Reply) (new : World) → CutOffTurn p.world id now replies new → (pair : Pair) → Contains (turn_failure_pairs p.world now (answer.Turn replies) (driver_of id p.world.drivers)) pair
    → Contains (request_moments p (event.Turn id now)) (moment_at (lines (p.lines + 1) replies) pair)
turn_among p id now replies new cut pair h =
    let w = p.world in
    let d = cut.before in
    let m = moment_at (lines (p.lines + 1) replies) pair in
    let there = subst (λ (o : Option Driver). Contains (turn_failure_pairs w now (answer.Turn replies) o) pair) cut.runs.1 h in
    subst (λ (r : Option Answer). Contains (moments_of_turn r (driver_moments p now (driver_of id w.drivers))) m) (sym cut.runs.0)
    (subst (λ (o : Option Driver). Contains (driver_moments p now o) m) (sym cut.runs.1)
    (steps_among (p.lines + 1) [] (work w.shared d) w.shared (running_ids w.drivers) now d replies new.shared cut.after cut.cut_off pair there))

first_among : (p : Place) (e : Event) (go : Place → List Moment) (pair : Pair) → Contains (pair_of p.world.shared ∷ []) pair → Contains (moments_on p (Some e) go) (moment_at [] pair)
first_among p e go pair h = one_of (λ (x : Pair). Contains (moments_on p (Some e) go) (moment_at [] x)) (pair_of p.world.shared) pair [] (first_of (moment_at [] (pair_of p.world.shared)) _) (λ x none. absurd (no_pair x none)) h
  where
    no_pair : (x : Pair) → Contains [] x → ⊥
    no_pair x none = omega (arith, none.1)

requests_among : (p : Place) (e : Event) (go : Place → List Moment) (m : Moment) → Contains (request_moments p e) m → Contains (moments_on p (Some e) go) m
requests_among p e go m h = tail_of (moment_at [] (pair_of p.world.shared)) _ m (Contains-append_left (request_moments p e) _ m h)

-- what a stop may leave in an event of one or more requests that isn't a turn
event_among : (p : Place) (e : Event) (go : Place → List Moment) (pair : Pair) → request_moments p e ≡ moments_at [] (event_pairs p.world e) → Contains (pair_of p.world.shared ∷ event_pairs p.world e) pair → Contains (moments_on p (Some e) go) (moment_at [] pair)
event_among p e go pair is h =
    one_of (λ (x : Pair). Contains (moments_on p (Some e) go) (moment_at [] x)) (pair_of p.world.shared) pair (event_pairs p.world e) (first_of (moment_at [] (pair_of p.world.shared)) _)
    (λ x among. requests_among p e go (moment_at [] x) (subst (λ (ms : List Moment). Contains ms (moment_at [] x)) (sym is) (in_moments_at [] (event_pairs p.world e) x among))) h

-- where nothing is printed
at_none : (ms : List Moment) (text : List ℕ) (pair : Pair) → text ≡ [] → Contains ms (moment_at [] pair) → Contains ms (moment_at text pair)
at_none ms text pair none h = subst (λ (t : List ℕ). Contains ms (moment_at t pair)) (sym none) h

failed_turn_among : (p : Place) (id now : ℤ) (a : Answer) (new : World) (go : Place → List Moment) → is_failure a ≡ true → IsLeft p.world (event.Turn id now) a new → (pair : Pair) → Contains (failure_pairs p.world (event.Turn id now) a) pair
    → Contains (moments_on p (Some (event.Turn id now)) go) (moment_at (reply_lines (p.lines + 1) a) pair)
unfolding reply_lines
failed_turn_among p id now (answer.Turn replies) new go failed left pair h = requests_among p (event.Turn id now) go (moment_at (lines (p.lines + 1) replies) pair) (turn_among p id now replies new left pair h)
failed_turn_among p id now (answer.Step r) new go failed left pair h = at_none (moments_on p (Some (event.Turn id now)) go) (reply_line (p.lines + 1) (reply_text r)) pair (no_reply_line (p.lines + 1) r failed) (first_among p (event.Turn id now) go pair h)
failed_turn_among p id now (answer.TreeFailed f) new go failed left pair h = first_among p (event.Turn id now) go pair h
failed_turn_among p id now (answer.LogFailed f) new go failed left pair h = first_among p (event.Turn id now) go pair h
failed_turn_among p id now answer.NoMemory new go failed left pair h = first_among p (event.Turn id now) go pair h
failed_turn_among p id now a new go failed left pair h = absurd (cc)

failed_among : (p : Place) (e : Event) (a : Answer) (f : Failure) (new : World) (go : Place → List Moment) → failure_of a ≡ Some f → IsLeft p.world e a new → (pair : Pair) → Contains (failure_pairs p.world e a) pair
    → Contains (moments_on p (Some e) go) (moment_at (printed_lines (p.lines + 1) e a) pair)
failed_among p (event.Turn id now) a f new go is left pair h = failed_turn_among p id now a new go (is_failed a f is) left pair h
failed_among p e a f new go is left pair h = at_none (moments_on p (Some e) go) (printed_lines (p.lines + 1) e a) pair (rw is refl) (event_among p e go pair refl h)

-- ---- an event

-- an event that is done, and whose lines are to be written
done_keeps_up : (p : Place) (e : Event) (a : Answer) (new : World) (go : Place → List Moment) (tree_left : Option Tree → Type 0) (log_left : Option Log → Type 0) → failure_of a ≡ None → next p.world e ≡ (new, a)
    → Only new.shared.tree tree_left × Only new.shared.log log_left → KeepsUp (moments_on p (Some e) go) (printed_lines (p.lines + 1) e a) tree_left log_left
done_keeps_up p e a new go tree_left log_left calm made settled =
    let ms = moments_on p (Some e) go in
    let after = moment_at (written_for p e) (pair_of (next p.world e).0.shared) in
    let text : written_for p e ≡ printed_lines (p.lines + 1) e a = ap (λ (r : World × Answer). reply_lines (p.lines + 1) r.1) made ∙ sym (calm_lines (p.lines + 1) e a calm) in
    subst (λ (x : List ℕ). KeepsUp ms x tree_left log_left) text
    (at_front ms (written_for p e) tree_left log_left (λ t l in_tree in_log. (
      pair_of (next p.world e).0.shared,
      tail_of (moment_at [] (pair_of p.world.shared)) _ after (Contains-append_right (request_moments p e) _ after (first_of after _)),
      settled.0 t in_tree ∙ ap (λ (r : World × Answer). Some r.0.shared.tree) (sym made),
      settled.1 l in_log ∙ ap (λ (r : World × Answer). Some r.0.shared.log) (sym made),
    )))

failed_keeps_up : (p : Place) (e : Event) (a : Answer) (f : Failure) (new : World) (go : Place → List Moment) (tree_left : Option Tree → Type 0) (log_left : Option Log → Type 0) → failure_of a ≡ Some f → IsLeft p.world e a new
    → LeavesOneOf (failure_pairs p.world e a) tree_left log_left → KeepsUp (moments_on p (Some e) go) (printed_lines (p.lines + 1) e a) tree_left log_left
failed_keeps_up p e a f new go tree_left log_left is left leaves =
    at_front (moments_on p (Some e) go) (printed_lines (p.lines + 1) e a) tree_left log_left (λ t l in_tree in_log.
    let found = leaves t l in_tree in_log in
    (found.0, failed_among p e a f new go is left found.0 found.1, found.2, found.3))

answer_keeps_up : (m : Option Failure) (p : Place) (e : Event) (a : Answer) (new : World) (go : Place → List Moment) (tree_left : Option Tree → Type 0) (log_left : Option Log → Type 0) → failure_of a ≡ m
    → (is_failure a ≡ false → next p.world e ≡ (new, a)) → (is_failure a ≡ true → IsLeft p.world e a new)
    → (is_failure a ≡ true → LeavesOneOf (failure_pairs p.world e a) tree_left log_left) → (failure_of a ≡ None → Only new.shared.tree tree_left × Only new.shared.log log_left)
    → KeepsUp (moments_on p (Some e) go) (printed_lines (p.lines + 1) e a) tree_left log_left
answer_keeps_up (Some f) p e a new go tree_left log_left is made left leaves settled = failed_keeps_up p e a f new go tree_left log_left is (left (is_failed a f is)) (leaves (is_failed a f is))
answer_keeps_up None p e a new go tree_left log_left is made left leaves settled = done_keeps_up p e a new go tree_left log_left is (made (is_done a is)) (settled is)

-- all lines of an answer are printed, or none where there is no memory for them
printed_front : (text all : List ℕ) (what after : Next) → ((text ≡ all) × (what ≡ after)) ⊎ ((text ≡ []) × (what ≡ out_of_memory after)) → IsFront text all
printed_front text all what after (inl h) = ([], sym h.0 ∙ sym (append-nil text))
printed_front text all what after (inr h) = no_text text all h.0

pub event_keeps_up : (p : Place) (e : Event) (a : Answer) (new : World) (text : List ℕ) (what : Next) (tree_left : Option Tree → Type 0) (log_left : Option Log → Type 0) → IsPrinted (p.lines + 1) e a text what
    → (is_failure a ≡ false → next p.world e ≡ (new, a)) → (is_failure a ≡ true → IsLeft p.world e a new)
    → (is_failure a ≡ true → LeavesOneOf (failure_pairs p.world e a) tree_left log_left) → (failure_of a ≡ None → Only new.shared.tree tree_left × Only new.shared.log log_left)
    → EventKeepsUp p e text tree_left log_left
event_keeps_up p e a new text what tree_left log_left printed made left leaves settled = λ is.
    fewer (moments_on p (Some e) (λ q. moments q is)) text (printed_lines (p.lines + 1) e a) tree_left log_left (printed_front text (printed_lines (p.lines + 1) e a) what printed.0 printed.2)
    (answer_keeps_up (failure_of a) p e a new (λ q. moments q is) tree_left log_left refl made left leaves settled)

-- ---- a line

-- the moments of a line that is this event
event_line : (p : Place) (l : List ℕ) (e : Event) (is : List Item) → is_passed_over l ≡ false → line_event l ≡ Some e → moments p (line l ∷ is) ≡ moments_on p (Some e) (λ q. moments q is)
unfolding moments
event_line p l e is not_passed found =
    ap (λ (b : Bool). if b then moments (place_after_line p) is else moments_on p (line_event l) (λ q. moments q is)) not_passed ∙ ap (λ (o : Option Event). moments_on p o (λ q. moments q is)) found

pub event_line_keeps_up : (p : Place) (l : List ℕ) (e : Event) (text : List ℕ) (tree_left : Option Tree → Type 0) (log_left : Option Log → Type 0) → is_passed_over l ≡ false → line_event l ≡ Some e → EventKeepsUp p e text tree_left log_left → LineKeepsUp p l text tree_left log_left
event_line_keeps_up p l e text tree_left log_left not_passed found h = λ is. subst (λ (ms : List Moment). KeepsUp ms text tree_left log_left) (sym (event_line p l e is not_passed found)) (h is)

-- Where the run goes on after a line, its moments are those after the line's text.
goes_by : (b : Bool) (o : Option Event) (p q : Place) (text : List ℕ) (go : Place → List Moment) → Prints (effect_by p b o) text next_is.GoesOn q → (m : Moment) → Contains (go q) m → Contains (if b then go (place_after_line p) else moments_on p o go) (moment_after text m)
goes_by true o p q text go h m among = subst (λ (t : List ℕ). Contains (go (place_after_line p)) (moment_after t m)) (sym h.0) (subst (λ (r : Place). Contains (go r) m) h.2 among)
goes_by false None p q text go h m among = absurd (let clash = h.1 in cc)
goes_by false (Some e) p q text go h m among =
    let r = place_after_event p e in
    let end = ending (next p.world e).1 in
    let after = moment_at (written_for p e) (pair_of (next p.world e).0.shared) in
    let there = subst (λ (s : Option Status). Contains (moments_unless s r (go r)) m) (sym h.1) (subst (λ (x : Place). Contains (go x) m) h.2 among) in
    subst (λ (t : List ℕ). Contains (moments_on p (Some e) go) (moment_after t m)) (sym h.0)
    (tail_of (moment_at [] (pair_of p.world.shared)) _ (moment_after (written_for p e) m)
    (Contains-append_right (request_moments p e) _ (moment_after (written_for p e) m)
    (tail_of after (later (written_for p e) (moments_unless end r (go r))) (moment_after (written_for p e) m)
    (in_later (written_for p e) (moments_unless end r (go r)) m there))))

pub line_goes : (p q : Place) (l text : List ℕ) (what : Next) (is : List Item) → Prints (effect_of_line p l) text what q → what ≡ next_is.GoesOn → (m : Moment) → Contains (moments q is) m → Contains (moments p (line l ∷ is)) (moment_after text m)
unfolding moments
line_goes p q l text what is h goes m among = goes_by (is_passed_over l) (line_event l) p q text (λ r. moments r is) (subst (λ (n : Next). Prints (effect_of_line p l) text n q) goes h) m among
