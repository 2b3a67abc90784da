-- What a byte of the input does to a stream.
use Rattle.std.proofs.Common.{◌≡◌, ℕ, ◌+◌, ◌<◌, List, [], ◌∷◌, ◌++◌, Contains, refl, sym, ap, ◌∙◌, subst, append-nil}
use Rattle.kz_types.specs.declared.limits.TheConstants.{MAX_INPUT_BYTES}
use Rattle.kz_types.specs.declared.outside.Status.TheVariants as status
use Rattle.kz_spec_machine.specs.Output.{Outcome, Place, after, end_of_run, outcome, progress_after, summary, whole_lines}
use Rattle.kz_spec_machine.specs.Machine.{World}
use Rattle.kz_stream.specs.declared.ending.Ending.{Ending}
use Rattle.kz_stream.specs.declared.ending.Next.{Next}
use Rattle.kz_stream.specs.declared.ending.Next.TheVariants as next_is
use Rattle.kz_stream.specs.Endings.{status_of, Begins}
use Rattle.kz_stream.specs.Lines.{effect_of_line, Prints}
use Rattle.kz_spec_machine.specs.Moments.{Moment, moment_after}
use Rattle.kz_stream.specs.Pending.{State, lines_to_come, outcome_to_come, moments_to_come, pending_lines, Takes}
use Rattle.kz_stream.proofs.Cut.{state, pending_end, lines_end, lines_at_start, moments_end}
use Rattle.kz_stream.proofs.Moments.{line_goes}
use Rattle.kz_stream.proofs.Outcomes.{begins_line, lines_of_line, begins_none, outcome_end}

abbrev done : World → List ℕ → Outcome
done w text = record { text = text; status = status.Done; world = w }

ends_not : (e : Ending) → next_is.Ends e ≡ next_is.GoesOn → ⊥
ends_not e is = cc

-- the run ends at this byte, and nothing is printed
pub ends_here : (s : State) (b : ℕ) (text : List ℕ) (what : Next) (e : Ending) → text ≡ [] → what ≡ next_is.Ends e → ((rest : List ℕ) → outcome_to_come s (b ∷ rest) ≡ end_of_run s.place.world (status_of e))
    → Takes s s (b ∷ []) text what
ends_here s b text what e none is h =
    subst (λ (t : List ℕ). Takes s s (b ∷ []) t what) (sym none)
    (subst (λ (n : Next). Takes s s (b ∷ []) [] n) (sym is)
    (record { begins = h; lines = λ goes. absurd (ends_not e goes); count = λ goes. absurd (ends_not e goes); moments = λ goes. absurd (ends_not e goes) }))

-- the run goes on after it, and nothing is printed
pub goes_here : (old new : State) (b : ℕ) (text : List ℕ) (what : Next) → text ≡ [] → what ≡ next_is.GoesOn → ((rest : List ℕ) → outcome_to_come old (b ∷ rest) ≡ outcome_to_come new rest)
    → ((rest : List ℕ) → pending_lines old (b ∷ rest) ≡ pending_lines new rest) → new.taken ≡ old.taken + 1 → ((rest : List ℕ) → moments_to_come old (b ∷ rest) ≡ moments_to_come new rest) → Takes old new (b ∷ []) text what
goes_here old new b text what none is same lines count moments =
    subst (λ (t : List ℕ). Takes old new (b ∷ []) t what) (sym none)
    (subst (λ (n : Next). Takes old new (b ∷ []) [] n) (sym is)
    (record { begins = same; lines = λ goes. lines; count = λ goes. count; moments = λ goes rest m among. subst (λ (ms : List Moment). Contains ms m) (sym (moments rest)) among }))

-- the end of a line
pub line_ends : (p q : Place) (l text : List ℕ) (t : ℕ) (what : Next) → t < MAX_INPUT_BYTES → Prints (effect_of_line p l) text what q → Takes (state p l t) (state q [] (t + 1)) (10 ∷ []) text what
line_ends p q l text t what more h = record {
  begins = λ rest.
      subst (λ (o : Outcome). Begins text what q.world o (outcome_to_come (state q [] (t + 1)) rest)) (sym (pending_end p q l t rest more)) (begins_line p q l text what h (lines_to_come (state q [] (t + 1)) rest));
  lines = λ goes rest.
      lines_end p q l t rest more ∙ lines_of_line p q l text what h goes (lines_to_come (state q [] (t + 1)) (whole_lines rest)) ∙ ap (progress_after text) (lines_at_start q (t + 1) rest);
  count = λ goes. refl;
  moments = λ goes rest m among. subst (λ (ms : List Moment). Contains ms (moment_after text m)) (sym (moments_end p q l t rest more)) (line_goes p q l text what (lines_to_come (state q [] (t + 1)) rest) h goes m among);
}

-- the summary at the end of the input
pub summary_begins : (text all : List ℕ) (what : Next) (o : Outcome) (p : Place) → what ≡ next_is.GoesOn → all ≡ text ++ summary p → Begins text what p.world o (outcome p []) → o ≡ after all (end_of_run p.world status.Done)
summary_begins text all what o p goes is h = begins_none text what p.world o (outcome p []) goes h ∙ ap (after text) (outcome_end p) ∙ ap (done p.world) (sym is ∙ sym (append-nil all))
