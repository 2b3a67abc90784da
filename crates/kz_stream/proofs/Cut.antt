-- How a line that comes byte by byte is cut off its input.
use Rattle.std.proofs.Common.{◌≡◌, ◌≢◌, ℕ, ◌+◌, ◌<◌, ◌≤◌, Bool, true, false, List, [], ◌∷◌, ◌++◌, length, refl, ap, ◌∙◌}
use Rattle.kz_types.specs.declared.limits.Limit.TheVariants as limits
use Rattle.kz_types.specs.Limits.{number_of_limit}
use Rattle.kz_types.specs.declared.limits.TheConstants.{MAX_INPUT_BYTES, MAX_LINE_BYTES}
use Rattle.kz_spec_data.specs.Lines.{line}
use Rattle.kz_laws_values.proofs.CutLines.{is_not, coming_byte, coming_end, coming_long, coming_much, coming_end_much}
use Rattle.kz_spec_machine.specs.Output.{Place, outcome, end_of_run, has_line_end, whole_lines, no_further, progress_of}
use Rattle.kz_types.specs.declared.outside.Status.TheVariants as status
use Rattle.kz_spec_machine.specs.Moments.{moments}
use Rattle.kz_stream.specs.Pending.{State, lines_to_come, outcome_to_come, moments_to_come, pending_lines}
use Rattle.kz_stream.proofs.Outcomes.{outcome_long, outcome_much, written_end}

-- ---- the lines that come

abbrev pub state : Place → List ℕ → ℕ → State
state p l t = record { place = p; line = l; taken = t }

-- ---- the outcome

pub pending_byte : (p : Place) (l : List ℕ) (t b : ℕ) (rest : List ℕ) → b ≢ 10 → length l < MAX_LINE_BYTES → t < MAX_INPUT_BYTES
    → outcome_to_come (state p l t) (b ∷ rest) ≡ outcome_to_come (state p (l ++ b ∷ []) (t + 1)) rest
pending_byte p l t b rest no_end room more = ap (outcome p) (coming_byte l t b rest no_end room more)

pub pending_end : (p q : Place) (l : List ℕ) (t : ℕ) (rest : List ℕ) → t < MAX_INPUT_BYTES → outcome_to_come (state p l t) (10 ∷ rest) ≡ outcome p (line l ∷ lines_to_come (state q [] (t + 1)) rest)
pending_end p q l t rest more = ap (outcome p) (coming_end l t rest more)

pub pending_long : (p : Place) (l : List ℕ) (t b : ℕ) (rest : List ℕ) → b ≢ 10 → MAX_LINE_BYTES ≤ length l
    → outcome_to_come (state p l t) (b ∷ rest) ≡ end_of_run p.world (status.Limit (number_of_limit limits.LineBytes) MAX_LINE_BYTES)
pending_long p l t b rest no_end full = ap (outcome p) (coming_long l t b rest no_end full) ∙ outcome_long p []

pub pending_much : (p : Place) (l : List ℕ) (t b : ℕ) (rest : List ℕ) → b ≢ 10 → length l < MAX_LINE_BYTES → MAX_INPUT_BYTES ≤ t
    → outcome_to_come (state p l t) (b ∷ rest) ≡ end_of_run p.world (status.Limit (number_of_limit limits.InputBytes) MAX_INPUT_BYTES)
pending_much p l t b rest no_end room full = ap (outcome p) (coming_much l t b rest no_end room full) ∙ outcome_much p []

pub pending_end_much : (p : Place) (l : List ℕ) (t : ℕ) (rest : List ℕ) → MAX_INPUT_BYTES ≤ t
    → outcome_to_come (state p l t) (10 ∷ rest) ≡ end_of_run p.world (status.Limit (number_of_limit limits.InputBytes) MAX_INPUT_BYTES)
pending_end_much p l t rest full = ap (outcome p) (coming_end_much l t rest full) ∙ outcome_much p []

-- ---- the moments

pub moments_byte : (p : Place) (l : List ℕ) (t b : ℕ) (rest : List ℕ) → b ≢ 10 → length l < MAX_LINE_BYTES → t < MAX_INPUT_BYTES → moments_to_come (state p l t) (b ∷ rest) ≡ moments_to_come (state p (l ++ b ∷ []) (t + 1)) rest
moments_byte p l t b rest no_end room more = ap (moments p) (coming_byte l t b rest no_end room more)

pub moments_end : (p q : Place) (l : List ℕ) (t : ℕ) (rest : List ℕ) → t < MAX_INPUT_BYTES → moments_to_come (state p l t) (10 ∷ rest) ≡ moments p (line l ∷ lines_to_come (state q [] (t + 1)) rest)
moments_end p q l t rest more = ap (moments p) (coming_end l t rest more)

-- ---- what is written for the lines that have ended

no_whole : (rest : List ℕ) → has_line_end rest ≡ false → whole_lines rest ≡ []
no_whole [] none = refl
no_whole (b ∷ rest) none = rw none refl

end_later : (b : ℕ) (rest : List ℕ) → b ≢ 10 → has_line_end (b ∷ rest) ≡ has_line_end rest
end_later b rest no_end = rw (is_not b 10 no_end) refl

lines_if : (s new : State) (b : ℕ) (rest : List ℕ) (ends : Bool) → s.place.world ≡ new.place.world → has_line_end (b ∷ rest) ≡ ends → has_line_end rest ≡ ends
    → (ends ≡ true → progress_of s.place (lines_to_come s (b ∷ whole_lines rest)) ≡ progress_of new.place (lines_to_come new (whole_lines rest)))
    → pending_lines s (b ∷ rest) ≡ pending_lines new rest
lines_if s new b rest true world here later same = rw (here, later) (same refl)
lines_if s new b rest false world here later same = rw (here, later) (ap no_further world)

pub lines_byte : (p : Place) (l : List ℕ) (t b : ℕ) (rest : List ℕ) → b ≢ 10 → length l < MAX_LINE_BYTES → t < MAX_INPUT_BYTES
    → pending_lines (state p l t) (b ∷ rest) ≡ pending_lines (state p (l ++ b ∷ []) (t + 1)) rest
lines_byte p l t b rest no_end room more =
    lines_if (state p l t) (state p (l ++ b ∷ []) (t + 1)) b rest (has_line_end rest) refl (end_later b rest no_end) refl (λ so. ap (progress_of p) (coming_byte l t b (whole_lines rest) no_end room more))

-- between two lines
lines_between : (p : Place) (t : ℕ) (rest : List ℕ) (ends : Bool) → has_line_end rest ≡ ends → progress_of p (lines_to_come (state p [] t) (whole_lines rest)) ≡ pending_lines (state p [] t) rest
lines_between p t rest true is = rw is refl
lines_between p t rest false is = rw (is, no_whole rest is) (written_end p)

pub lines_at_start : (p : Place) (t : ℕ) (rest : List ℕ) → progress_of p (lines_to_come (state p [] t) (whole_lines rest)) ≡ pending_lines (state p [] t) rest
lines_at_start p t rest = lines_between p t rest (has_line_end rest) refl

pub lines_end : (p q : Place) (l : List ℕ) (t : ℕ) (rest : List ℕ) → t < MAX_INPUT_BYTES
    → pending_lines (state p l t) (10 ∷ rest) ≡ progress_of p (line l ∷ lines_to_come (state q [] (t + 1)) (whole_lines rest))
lines_end p q l t rest more = ap (progress_of p) (coming_end l t (whole_lines rest) more)
