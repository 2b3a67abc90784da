-- What a line does to the outcome of a run, and to what it has written.
use Rattle.std.proofs.Common.{◌≡◌, ℕ, Bool, true, false, if◌then◌else◌, List, [], ◌∷◌, ◌++◌, append-nil, append_assoc, Option, Some, None, refl, sym, ◌∙◌, ap, subst}
use Rattle.kz_types.specs.declared.limits.TheConstants.{MAX_INPUT_BYTES, MAX_LINE_BYTES}
use Rattle.kz_types.specs.declared.limits.Limit.TheVariants as limits
use Rattle.kz_types.specs.Limits.{number_of_limit}
use Rattle.kz_types.specs.declared.machine.Event.{Event}
use Rattle.kz_types.specs.declared.outside.Status.{Status}
use Rattle.kz_types.specs.declared.outside.Status.TheVariants as status
use Rattle.kz_spec_data.specs.Lines.{Item, line, long, much, is_passed_over}
use Rattle.kz_spec_data.specs.Events.{line_event}
use Rattle.kz_spec_machine.specs.Output.{Outcome, Place, outcome, after, end_of_run, unless_ended, on_event, place_after_line, summary, Progress, no_further, progress_after, unless_over, progress_on_event, progress_of}
use Rattle.kz_spec_machine.specs.Machine.{World}
use Rattle.kz_spec_machine.specs.Endings.{IsFront}
use Rattle.kz_stream.specs.declared.ending.Next.{Next}
use Rattle.kz_stream.specs.declared.ending.Next.TheVariants as next_is
use Rattle.kz_stream.specs.Endings.{status_of, IsNext, Begins}
use Rattle.kz_stream.specs.Lines.{Effect, effect_by, effect_of_line, Prints}

-- ---- the first line

by_line : (b : Bool) (o : Option Event) (p : Place) (go : Place → Outcome)
    → (if b then go (place_after_line p) else on_event p o go) ≡ after (effect_by p b o).text (unless_ended (effect_by p b o).end (effect_by p b o).place.world (go (effect_by p b o).place))
by_line true o p go = refl
by_line false None p go = refl
by_line false (Some e) p go = refl

outcome_line : (p : Place) (l : List ℕ) (more : List Item)
    → outcome p (line l ∷ more) ≡ after (effect_of_line p l).text (unless_ended (effect_of_line p l).end (effect_of_line p l).place.world (outcome (effect_of_line p l).place more))
unfolding outcome
outcome_line p l more = by_line (is_passed_over l) (line_event l) p (λ q. outcome q more)

lines_by_line : (b : Bool) (o : Option Event) (p : Place) (go : Place → Progress)
    → (if b then go (place_after_line p) else progress_on_event p o go) ≡ progress_after (effect_by p b o).text (unless_over (effect_by p b o).end (effect_by p b o).place.world (go (effect_by p b o).place))
lines_by_line true o p go = refl
lines_by_line false None p go = refl
lines_by_line false (Some e) p go = refl

written_line : (p : Place) (l : List ℕ) (more : List Item)
    → progress_of p (line l ∷ more) ≡ progress_after (effect_of_line p l).text (unless_over (effect_of_line p l).end (effect_of_line p l).place.world (progress_of (effect_of_line p l).place more))
unfolding progress_of
written_line p l more = lines_by_line (is_passed_over l) (line_event l) p (λ q. progress_of q more)

-- ---- no line

pub outcome_end : (p : Place) → outcome p [] ≡ record { text = summary p; status = status.Done; world = p.world }
unfolding outcome
outcome_end p = refl

pub written_end : (p : Place) → progress_of p [] ≡ no_further p.world
unfolding progress_of
written_end p = refl

pub outcome_long : (p : Place) (more : List Item) → outcome p (long ∷ more) ≡ end_of_run p.world (status.Limit (number_of_limit limits.LineBytes) MAX_LINE_BYTES)
unfolding outcome
outcome_long p more = refl

pub outcome_much : (p : Place) (more : List Item) → outcome p (much ∷ more) ≡ end_of_run p.world (status.Limit (number_of_limit limits.InputBytes) MAX_INPUT_BYTES)
unfolding outcome
outcome_much p more = refl

-- ---- fronts

pub front_more : (front text all more : List ℕ) → IsFront front text → all ≡ text ++ more → IsFront front all
front_more front text all more h is = (h.0 ++ more, is ∙ ap (λ t. t ++ more) h.1 ∙ append_assoc front h.0 more)

pub no_text : (text all : List ℕ) → text ≡ [] → IsFront text all
no_text text all none = (all, ap (λ t. t ++ all) (sym none))

-- ---- what is printed for a line

abbrev ended : Status → List ℕ → World → Outcome
ended s text w = record { text = text; status = s; world = w }

-- the run goes on, and whatever is told of it
went_on : {X : Type 0} (joined : List ℕ → X → X) (unless : Option Status → World → X → X) (e : Effect) (text : List ℕ) (q : Place) (x : X) (go : Place → X)
    → Prints e text next_is.GoesOn q → x ≡ joined e.text (unless e.end e.place.world (go e.place)) → x ≡ joined text (unless None q.world (go q))
went_on joined unless e text q x go h is =
    is ∙ ap (λ s. joined e.text (unless s e.place.world (go e.place))) h.1 ∙ ap (λ t. joined t (unless None e.place.world (go e.place))) (sym h.0) ∙ ap (λ (r : Place). joined text (unless None r.world (go r))) (sym h.2)

begins_by : (e : Effect) (text : List ℕ) (what : Next) (q : Place) (o : Outcome) (go : Place → Outcome) → Prints e text what q
    → o ≡ after e.text (unless_ended e.end e.place.world (go e.place)) → Begins text what q.world o (go q)
begins_by e text next_is.GoesOn q o go h is = went_on after unless_ended e text q o go h is
begins_by e text (next_is.Ends why) q o go h is =
    is ∙ ap (λ s. after e.text (unless_ended s e.place.world (go e.place))) h.1 ∙ ap (λ t. ended (status_of why) t e.place.world) (append-nil e.text ∙ sym h.0) ∙ ap (ended (status_of why) text) (sym h.2)
begins_by e text (next_is.Fails f) q o go h is = front_more text e.text o.text (unless_ended e.end e.place.world (go e.place)).text h (ap (λ (r : Outcome). r.text) is)

pub begins_line : (p q : Place) (l text : List ℕ) (what : Next) → Prints (effect_of_line p l) text what q → (more : List Item) → Begins text what q.world (outcome p (line l ∷ more)) (outcome q more)
begins_line p q l text what h more = begins_by (effect_of_line p l) text what q (outcome p (line l ∷ more)) (λ r. outcome r more) h (outcome_line p l more)

pub lines_of_line : (p q : Place) (l text : List ℕ) (what : Next) → Prints (effect_of_line p l) text what q → what ≡ next_is.GoesOn
    → (more : List Item) → progress_of p (line l ∷ more) ≡ progress_after text (progress_of q more)
lines_of_line p q l text what h goes more =
    went_on progress_after unless_over (effect_of_line p l) text q (progress_of p (line l ∷ more)) (λ r. progress_of r more) (subst (λ (n : Next). Prints (effect_of_line p l) text n q) goes h) (written_line p l more)

-- all of it is printed
pub prints_all : (e : Effect) (text : List ℕ) (what : Next) (q : Place) → text ≡ e.text → IsNext what e.end → q ≡ e.place → Prints e text what q
prints_all e text next_is.GoesOn q t n p = (t, n, p)
prints_all e text (next_is.Ends why) q t n p = (t, n, ap (λ (r : Place). r.world) p)
prints_all e text (next_is.Fails f) q t n p = absurd n

-- a line that is passed over, one that is no event, and one that is
pub effect_passed : (p : Place) (l : List ℕ) → is_passed_over l ≡ true → effect_of_line p l ≡ record { text = []; end = None; place = place_after_line p }
effect_passed p l h = rw h refl

pub effect_of_other : (p : Place) (l : List ℕ) (o : Option Event) → is_passed_over l ≡ false → line_event l ≡ o → effect_of_line p l ≡ effect_by p false o
effect_of_other p l o h e = rw (h, e) refl

-- ---- what begins an outcome

pub begins_none : (text : List ℕ) (what : Next) (w : World) (o rest : Outcome) → what ≡ next_is.GoesOn → Begins text what w o rest → o ≡ after text rest
begins_none text what w o rest goes h = subst (λ (n : Next). Begins text n w o rest) goes h

pub begins_front : (text : List ℕ) (what : Next) (w : World) (o rest : Outcome) → Begins text what w o rest → IsFront text o.text
begins_front text next_is.GoesOn w o rest h = (rest.text, ap (λ (r : Outcome). r.text) h)
begins_front text (next_is.Ends why) w o rest h = ([], ap (λ (r : Outcome). r.text) h ∙ sym (append-nil text))
begins_front text (next_is.Fails f) w o rest h = h
