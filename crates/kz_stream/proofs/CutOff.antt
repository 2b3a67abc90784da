-- What a turn that was cut off prints.
use Rattle.std.proofs.Common.{◌≡◌, ℕ, zero, suc, ◌+◌, Bool, true, false, cond, ℤ, List, [], ◌∷◌, ◌++◌, Option, Some, None, ◌⊎◌, inl, inr, refl, sym, ap, ◌∙◌, subst, append_assoc}
use Rattle.std.specs.List.{flat_map}
use Rattle.kz_types.specs.declared.machine.Reply.{Reply}
use Rattle.kz_types.specs.declared.machine.Reply.TheVariants as reply
use Rattle.kz_types.specs.declared.machine.Event.{Event}
use Rattle.kz_types.specs.declared.machine.Event.TheVariants as event
use Rattle.kz_types.specs.declared.machine.Answer.{Answer}
use Rattle.kz_types.specs.declared.machine.Answer.TheVariants as answer
use Rattle.kz_spec_data.specs.Replies.{reply_text, reply_line, reply_lines}
use Rattle.kz_spec_machine.specs.Driver.{Shared, Driver, step}
use Rattle.kz_spec_machine.specs.Machine.{World, TurnResult, driver_of, ends, next, running_ids, running_refusal, turn, with_reply, work}
use Rattle.kz_spec_machine.specs.Failures.{is_failed_step, is_failure, CutOffTurn, IsCutOff, IsLeft}
use Rattle.kz_spec_machine.specs.Output.{Place, ending, steps_of}
use Rattle.kz_spec_machine.specs.Endings.{IsFront}
use Rattle.kz_stream.specs.declared.ending.Next.{Next}
use Rattle.kz_stream.specs.declared.ending.Next.TheVariants as next_is
use Rattle.kz_stream.specs.Lines.{Effect, effect_of_event, Prints}
use Rattle.kz_stream.specs.declared.failure.Failure.{Failure}
use Rattle.kz_stream.specs.Failures.{failure_of}
use Rattle.kz_stream.specs.Machines.{printed_lines, NextBy, out_of_memory, IsPrinted}
use Rattle.kz_stream.proofs.Answers.{is_failed, is_done}
use Rattle.kz_stream.proofs.Outcomes.{no_text, prints_all}

-- the lines of these steps
abbrev pub lines : ℕ → List Reply → List ℕ
lines n replies = flat_map (λ r. reply_line n (reply_text r)) replies

-- a step that failed prints nothing
failed_text : (r : Reply) → is_failed_step r ≡ true → reply_text r ≡ None
failed_text (reply.TreeFailed f) failed = refl
failed_text (reply.LogFailed f) failed = refl
failed_text reply.NoMemory failed = refl
failed_text r failed = absurd (cc)

pub no_reply_line : (n : ℕ) (r : Reply) → is_failed_step r ≡ true → reply_line n (reply_text r) ≡ []
no_reply_line n r failed = ap (reply_line n) (failed_text r failed)

pub no_line : (n : ℕ) (r : Reply) → is_failed_step r ≡ true → lines n (r ∷ []) ≡ []
no_line n r failed = ap (λ t. reply_line n t ++ []) (failed_text r failed)

-- the replies of a turn that goes on after its first step
turned_on : (r : Reply) (t u : TurnResult) (b : Bool) → b ≡ false → (cond b t (with_reply r u)).replies ≡ r ∷ u.replies
turned_on r t u b h = rw h refl

turn_goes_on : (n : ℕ) (s : Shared) (running : List ℤ) (now : ℤ) (d : Driver) → ends (step s running now d).reply ≡ false
    → (turn (suc n) s running now d).replies ≡ (step s running now d).reply ∷ (turn n (step s running now d).shared running now (step s running now d).driver).replies
unfolding turn
turn_goes_on n s running now d on = rw on refl

front_line : (n : ℕ) (r : Reply) (some all whole : List Reply) → IsFront (lines n some) (lines n all) → whole ≡ r ∷ all → IsFront (lines n (r ∷ some)) (lines n whole)
front_line n r some all whole h is =
    let here = reply_line n (reply_text r) in
    (h.0, ap (lines n) is ∙ ap (λ t. here ++ t) h.1 ∙ sym (append_assoc here (lines n some) h.0))

-- the lines of the steps before a failure are a front of the turn's lines
cut_front : (line n : ℕ) (s : Shared) (running : List ℤ) (now : ℤ) (d : Driver) (replies : List Reply) (shared : Shared) (driver : Driver) → IsCutOff n s running now d replies shared driver
    → IsFront (lines line replies) (lines line (turn n s running now d).replies)
unfolding IsCutOff
cut_front line zero s running now d replies shared driver cut = absurd cut
cut_front line (suc n) s running now d [] shared driver cut = absurd cut
cut_front line (suc n) s running now d (r ∷ []) shared driver cut = no_text (lines line (r ∷ [])) (lines line (turn (suc n) s running now d).replies) (no_line line r cut.0)
cut_front line (suc n) s running now d (r ∷ q ∷ rs) shared driver cut =
    let after = step s running now d in
    subst (λ (x : Reply). IsFront (lines line (x ∷ q ∷ rs)) (lines line (turn (suc n) s running now d).replies)) (sym cut.0)
    (front_line line after.reply (q ∷ rs) (turn n after.shared running now after.driver).replies (turn (suc n) s running now d).replies
    (cut_front line n after.shared running now after.driver (q ∷ rs) shared driver cut.2)
    (turn_goes_on n s running now d (ap ends (sym cut.0) ∙ cut.1)))

-- a turn that isn't refused
not_refused : (w : World) (id now : ℤ) (d : Driver) → running_refusal w id ≡ None → driver_of id w.drivers ≡ Some d
    → (next w (event.Turn id now)).1 ≡ answer.Turn (turn (work w.shared d) w.shared (running_ids w.drivers) now d).replies
unfolding next
not_refused w id now d none found = rw (none, found) refl

turn_front : (line : ℕ) (w new : World) (id now : ℤ) (replies : List Reply) → CutOffTurn w id now replies new → IsFront (reply_lines line (answer.Turn replies)) (reply_lines line (next w (event.Turn id now)).1)
unfolding reply_lines
turn_front line w new id now replies cut =
    subst (λ (a : Answer). IsFront (lines line replies) (reply_lines line a)) (sym (not_refused w id now cut.before cut.runs.0 cut.runs.1))
    (cut_front line (work w.shared cut.before) w.shared (running_ids w.drivers) now cut.before replies new.shared cut.after cut.cut_off)

-- the lines of a turn's answer that failed
failed_lines : (line : ℕ) (w new : World) (id now : ℤ) (a : Answer) → is_failure a ≡ true → IsLeft w (event.Turn id now) a new → IsFront (reply_lines line a) (reply_lines line (next w (event.Turn id now)).1)
unfolding reply_lines
failed_lines line w new id now (answer.Turn replies) failed left = turn_front line w new id now replies left
failed_lines line w new id now (answer.Step r) failed left = no_text (reply_line line (reply_text r)) (reply_lines line (next w (event.Turn id now)).1) (ap (reply_line line) (failed_text r failed))
failed_lines line w new id now (answer.TreeFailed f) failed left = no_text [] (reply_lines line (next w (event.Turn id now)).1) refl
failed_lines line w new id now (answer.LogFailed f) failed left = no_text [] (reply_lines line (next w (event.Turn id now)).1) refl
failed_lines line w new id now answer.NoMemory failed left = no_text [] (reply_lines line (next w (event.Turn id now)).1) refl
failed_lines line w new id now a failed left = absurd (cc)

-- ---- what an event prints

-- the place after this answer, and this world
abbrev pub place_after : Place → World → Answer → Place
place_after p new a = record { lines = p.lines + 1; events = p.events + 1; steps = p.steps + steps_of a; world = new }

abbrev effect_from : Place → World × Answer → Effect
effect_from p r = record { text = reply_lines (p.lines + 1) r.1; end = ending r.1; place = place_after p r.0 r.1 }

pub calm_lines : (line : ℕ) (e : Event) (a : Answer) → failure_of a ≡ None → printed_lines line e a ≡ reply_lines line a
calm_lines line (event.Turn id now) a calm = refl
calm_lines line e a calm = rw calm refl

cut_lines : (line : ℕ) (w new : World) (e : Event) (a : Answer) (f : Failure) → failure_of a ≡ Some f → IsLeft w e a new → IsFront (printed_lines line e a) (reply_lines line (next w e).1)
cut_lines line w new (event.Turn id now) a f failed left = failed_lines line w new id now a (is_failed a f failed) left
cut_lines line w new e a f failed left = no_text (printed_lines line e a) (reply_lines line (next w e).1) (rw failed refl)

by_failure : (m : Option Failure) (p : Place) (e : Event) (a : Answer) (new : World) (what : Next) → failure_of a ≡ m
    → (is_failure a ≡ false → next p.world e ≡ (new, a)) → (is_failure a ≡ true → IsLeft p.world e a new)
    → NextBy m a what
    → Prints (effect_of_event p e) (printed_lines (p.lines + 1) e a) what (place_after p new a)
by_failure (Some f) p e a new what is made left goes =
    subst (λ (n : Next). Prints (effect_of_event p e) (printed_lines (p.lines + 1) e a) n (place_after p new a)) (sym goes) (cut_lines (p.lines + 1) p.world new e a f is (left (is_failed a f is)))
by_failure None p e a new what is made left goes =
    subst (λ (r : World × Answer). Prints (effect_from p r) (printed_lines (p.lines + 1) e a) what (place_after p new a)) (sym (made (is_done a is)))
    (prints_all (effect_from p (new, a)) (printed_lines (p.lines + 1) e a) what (place_after p new a) (calm_lines (p.lines + 1) e a is) goes refl)

-- out of memory for the lines, a run prints none
prints_none : (e : Effect) (what : Next) (q : Place) → Prints e [] (out_of_memory what) q
prints_none e next_is.GoesOn q = no_text [] e.text refl
prints_none e (next_is.Ends why) q = no_text [] e.text refl
prints_none e (next_is.Fails f) q = no_text [] e.text refl

by_memory : (p : Place) (e : Event) (a : Answer) (new : World) (text : List ℕ) (what after : Next) → Prints (effect_of_event p e) (printed_lines (p.lines + 1) e a) after (place_after p new a)
    → ((text ≡ printed_lines (p.lines + 1) e a) × (what ≡ after)) ⊎ ((text ≡ []) × (what ≡ out_of_memory after))
    → Prints (effect_of_event p e) text what (place_after p new a)
by_memory p e a new text what after whole (inl h) =
    subst (λ (t : List ℕ). Prints (effect_of_event p e) t what (place_after p new a)) (sym h.0)
    (subst (λ (n : Next). Prints (effect_of_event p e) (printed_lines (p.lines + 1) e a) n (place_after p new a)) (sym h.1) whole)
by_memory p e a new text what after whole (inr h) =
    subst (λ (t : List ℕ). Prints (effect_of_event p e) t what (place_after p new a)) (sym h.0)
    (subst (λ (n : Next). Prints (effect_of_event p e) [] n (place_after p new a)) (sym h.1) (prints_none (effect_of_event p e) after (place_after p new a)))

-- what is printed for an event by its answer
pub prints_event : (p q : Place) (e : Event) (a : Answer) (new : World) (text : List ℕ) (what : Next) → IsPrinted (p.lines + 1) e a text what → q ≡ place_after p new a
    → (is_failure a ≡ false → next p.world e ≡ (new, a)) → (is_failure a ≡ true → IsLeft p.world e a new)
    → Prints (effect_of_event p e) text what q
prints_event p q e a new text what printed place made left =
    subst (λ (r : Place). Prints (effect_of_event p e) text what r) (sym place)
    (by_memory p e a new text what printed.0 (by_failure (failure_of a) p e a new printed.0 refl made left printed.1) printed.2)
