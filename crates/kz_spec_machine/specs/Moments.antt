-- What a stop may find at each moment of a run: what is written by then, and the tree and the log.
use Rattle.std.specs.Prelude.{◌≡◌, ℕ, zero, suc, ◌+◌, ℤ, List, [], ◌∷◌, ◌++◌, Option, Some, None, Contains, if◌then◌else◌}
use Rattle.kz_types.specs.declared.machine.Answer.{Answer}
use Rattle.kz_types.specs.declared.machine.Event.{Event}
use Rattle.kz_types.specs.declared.machine.Event.TheVariants as event
use Rattle.kz_types.specs.declared.outside.Status.{Status}
use Rattle.kz_types.specs.declared.plan.Plan.TheVariants as plan
use Rattle.kz_spec_data.specs.Lines.{Item, line, long, much, items, is_passed_over}
use Rattle.kz_spec_data.specs.Events.{line_event}
use Rattle.kz_spec_data.specs.Replies.{reply_line, reply_text}
use Rattle.kz_spec_data.specs.Tree.{Tree}
use Rattle.kz_spec_data.specs.Log.{Log}
use Rattle.kz_spec_machine.specs.Driver.{Shared, Driver, step}
use Rattle.kz_spec_machine.specs.Machine.{World, Pair, pair_of, step_pairs, ends, work, running_ids, running_refusal, driver_of, next, event_pairs}
use Rattle.kz_spec_machine.specs.Output.{Place, place_of, place_after_line, place_after_event, written_for, ending, summary}

-- The lines that stand whole, the lines that are being written, of which some front may stand, and the tree and the log.
pub record Moment : Type 0 where
  pub text : List ℕ
  pub reply : List ℕ
  pub pair : Pair

-- a moment at which any front of these bytes may stand
abbrev pub moment_at : List ℕ → Pair → Moment
moment_at reply pair = record { text = []; reply = reply; pair = pair }

-- the moments with these pairs
abbrev pub moments_at : List ℕ → List Pair → List Moment
moments_at reply [] = []
moments_at reply (p ∷ ps) = moment_at reply p ∷ moments_at reply ps

abbrev pub moment_after : List ℕ → Moment → Moment
moment_after text m = record { text = text ++ m.text; reply = m.reply; pair = m.pair }

-- these moments, after a text
abbrev pub later : List ℕ → List Moment → List Moment
later text [] = []
later text (m ∷ ms) = moment_after text m ∷ later text ms

-- ---- the moments of an event

-- The moments of at most so many steps of a driver's turn, which is the event of the line of this number. Where a step fails, the
-- lines of the steps before it are written, and a stop finds the tree and the log from before its request, or after it.
unfoldable pub turn_moments : ℕ → List ℕ → ℕ → Shared → List ℤ → ℤ → Driver → List Moment
turn_moments number before zero s running now d = []
turn_moments number before (suc n) s running now d = moments_at before (pair_of s ∷ step_pairs plan.Deliver s running now d)
    ++ (if ends (step s running now d).reply then [] else turn_moments number (before ++ reply_line number (reply_text (step s running now d).reply)) n (step s running now d).shared running now (step s running now d).driver)

abbrev pub driver_moments : Place → ℤ → Option Driver → List Moment
driver_moments p now None = []
driver_moments p now (Some d) = turn_moments (p.lines + 1) [] (work p.world.shared d) p.world.shared (running_ids p.world.drivers) now d

-- those of a turn that isn't refused
abbrev pub moments_of_turn : Option Answer → List Moment → List Moment
moments_of_turn (Some refusal) ms = []
moments_of_turn None ms = ms

-- The moments of the requests of an event. Until the event is done, none of its lines is written, but for those of a turn's steps.
abbrev pub request_moments : Place → Event → List Moment
request_moments p (event.Turn id now) = moments_of_turn (running_refusal p.world id) (driver_moments p now (driver_of id p.world.drivers))
request_moments p e = moments_at [] (event_pairs p.world e)

-- ---- the moments of a run

abbrev pub moments_unless : Option Status → Place → List Moment → List Moment
moments_unless (Some s) p rest = moment_at [] (pair_of p.world.shared) ∷ []
moments_unless None p rest = rest

-- Before an event, at its requests, while its lines are written, and after it.
abbrev pub moments_on : Place → Option Event → (Place → List Moment) → List Moment
moments_on p None go = moment_at [] (pair_of p.world.shared) ∷ []
moments_on p (Some e) go = moment_at [] (pair_of p.world.shared)
    ∷ (request_moments p e
    ++ (moment_at (written_for p e) (pair_of (next p.world e).0.shared)
    ∷ later (written_for p e) (moments_unless (ending (next p.world e).1) (place_after_event p e) (go (place_after_event p e)))))

-- The moments of these lines from a place on.
unfoldable pub moments : Place → List Item → List Moment
moments p [] = moment_at (summary p) (pair_of p.world.shared) ∷ []
moments p (long ∷ is) = moment_at [] (pair_of p.world.shared) ∷ []
moments p (much ∷ is) = moment_at [] (pair_of p.world.shared) ∷ []
moments p (line l ∷ is) = if is_passed_over l then moments (place_after_line p) is else moments_on p (line_event l) (λ q. moments q is)

-- The moments of a replay of these bytes that begins in this world.
abbrev pub replayed_moments : World → List ℕ → List Moment
replayed_moments w bytes = moments (place_of w) (items bytes)

-- With this much written, a tree and a log that a stop leaves are those of a moment that keeps up with it: the lines that stand
-- whole are written, and of those under way at most a front.
pub record StandsAt (ms : List Moment) (sent : List ℕ) (tree : Option Tree) (log : Option Log) : Type 0 where
  pub moment : Moment
  pub among : Contains ms moment
  pub part : List ℕ
  pub rest : List ℕ
  pub front : moment.reply ≡ part ++ rest
  pub written : sent ≡ moment.text ++ part
  pub tree_is : tree ≡ Some moment.pair.tree
  pub log_is : log ≡ Some moment.pair.log

-- Whatever a stop leaves of both, it is such a pair.
abbrev pub LeavesMoment : List Moment → List ℕ → (Option Tree → Type 0) → (Option Log → Type 0) → Type 0
LeavesMoment ms sent tree_left log_left = (t : Option Tree) (l : Option Log) → tree_left t → log_left l → StandsAt ms sent t l
