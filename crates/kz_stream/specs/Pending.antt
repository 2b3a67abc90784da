-- What a run that stands in the middle of its input is still to write.
use Rattle.std.specs.Prelude.{◌≡◌, ℕ, ◌+◌, List, [], ◌++◌, length, Contains, if◌then◌else◌}
use Rattle.kz_spec_data.specs.Lines.{Item}
use Rattle.kz_laws_values.specs.Coming.{lines_after}
use Rattle.kz_spec_machine.specs.Machine.{World}
use Rattle.kz_spec_machine.specs.Sound.{Sound}
use Rattle.kz_spec_machine.specs.Output.{Outcome, Place, Progress, outcome, has_line_end, whole_lines, no_further, progress_after, progress_of}
use Rattle.kz_spec_machine.specs.Moments.{Moment, moment_after, moments}
use Rattle.kz_stream.specs.declared.ending.Next.{Next}
use Rattle.kz_stream.specs.declared.ending.Next.TheVariants as next_is
use Rattle.kz_stream.specs.declared.ending.Stop.{Stop}
use Rattle.kz_stream.specs.Endings.{Begins, Stops}
use Rattle.kz_stream.specs.Machines.{StreamOver, plain_place}
use Rattle.kz_types.specs.declared.outside.Status.TheVariants as status

-- the place after the last whole line, the bytes of the line so far, and how many bytes were taken
pub record State : Type 0 where
  pub place : Place
  pub line : List ℕ
  pub taken : ℕ

-- the lines that come where these bytes follow
abbrev pub lines_to_come : State → List ℕ → List Item
lines_to_come s rest = lines_after s.line s.taken rest

-- the outcome where these bytes follow, and then the end of the input
abbrev pub outcome_to_come : State → List ℕ → Outcome
outcome_to_come s rest = outcome s.place (lines_to_come s rest)

-- the moments where these bytes follow, and then the end of the input
abbrev pub moments_to_come : State → List ℕ → List Moment
moments_to_come s rest = moments s.place (lines_to_come s rest)

-- what is written for the lines that have ended, once these bytes are taken, too
abbrev pub pending_lines : State → List ℕ → Progress
pending_lines s rest = if has_line_end rest then progress_of s.place (lines_to_come s (whole_lines rest)) else no_further s.place.world

-- From one state to another the run took these bytes, printed this, and then goes on or ends.
pub record Takes (old new : State) (bytes text : List ℕ) (what : Next) : Type 0 where
  pub begins : (rest : List ℕ) → Begins text what new.place.world (outcome_to_come old (bytes ++ rest)) (outcome_to_come new rest)
  pub lines : what ≡ next_is.GoesOn → (rest : List ℕ) → pending_lines old (bytes ++ rest) ≡ progress_after text (pending_lines new rest)
  pub count : what ≡ next_is.GoesOn → new.taken ≡ old.taken + length bytes
  pub moments : what ≡ next_is.GoesOn → (rest : List ℕ) (m : Moment) → Contains (moments_to_come new rest) m → Contains (moments_to_come old (bytes ++ rest)) (moment_after text m)

-- and goes on
abbrev pub GoesOn : State → State → List ℕ → List ℕ → Type 0
GoesOn old new bytes sent = Takes old new bytes sent next_is.GoesOn

-- ---- from a sound world on

-- what a run prints that begins in a sound world, in which it stays
abbrev pub TakesSoundly : State → State → List ℕ → List ℕ → Next → Type 0
TakesSoundly old new bytes text what = Sound old.place.world → Takes old new bytes text what × Sound new.place.world

abbrev pub GoesSoundly : State → State → List ℕ → List ℕ → Type 0
GoesSoundly old new bytes sent = TakesSoundly old new bytes sent next_is.GoesOn

-- how such a run stops in this world, if these bytes come, and whatever comes after them
abbrev pub StopsSoundly : State → List ℕ → List ℕ → World → Stop → Type 0
StopsSoundly s bytes sent w why = Sound s.place.world → (rest : List ℕ) → Stops (outcome_to_come s (bytes ++ rest)) sent w why

-- the same at the end of the input
abbrev pub StopsAtEnd : State → List ℕ → World → Stop → Type 0
StopsAtEnd s sent w why = Sound s.place.world → Stops (outcome_to_come s []) sent w why

-- how such a run is done
abbrev pub IsDone : State → List ℕ → World → Type 0
IsDone s sent w = Sound s.place.world → outcome_to_come s [] ≡ record { text = sent; status = status.Done; world = w }

-- ---- a stream

abbrev pub state_of : {M : Type 0} → (M → World) → StreamOver M → State
state_of world s = record { place = plain_place world s.place; line = s.line; taken = s.taken }
