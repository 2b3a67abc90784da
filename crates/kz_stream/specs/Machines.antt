-- A run that stands at a place of its script, by its machine.
use Rattle.std.specs.Prelude.{◌≡◌, ◌⊎◌, ℕ, List, [], Option, Some, None, is_some, if◌then◌else◌}
use Rattle.kz_spec_data.specs.Replies.{reply_lines}
use Rattle.kz_types.specs.declared.machine.Answer.{Answer}
use Rattle.kz_types.specs.declared.machine.Event.{Event}
use Rattle.kz_types.specs.declared.machine.Event.TheVariants as event
use Rattle.kz_spec_machine.specs.Machine.{World}
use Rattle.kz_spec_machine.specs.Output.{Place, ending}
use Rattle.kz_stream.specs.declared.failure.Failure.{Failure}
use Rattle.kz_stream.specs.declared.failure.Failure.TheVariants as failure
use Rattle.kz_stream.specs.Failures.{failure_of}
use Rattle.kz_stream.specs.declared.ending.Next.{Next}
use Rattle.kz_stream.specs.declared.ending.Next.TheVariants as next_is
use Rattle.kz_stream.specs.Endings.{IsNext}

-- The lines and events read so far, the steps that drivers made, and the machine.
pub record PlaceOver (M : Type 0) : Type 0 where
  pub lines : ℕ
  pub events : ℕ
  pub steps : ℕ
  pub machine : M

-- the place of the definitions, where the machine's world is told
abbrev pub plain_place : {M : Type 0} → (M → World) → PlaceOver M → Place
plain_place world p = record { lines = p.lines; events = p.events; steps = p.steps; world = world p.machine }

-- The place after the last whole line, the bytes of the line so far, and how many bytes were taken.
pub record StreamOver (M : Type 0) : Type 0 where
  pub place : PlaceOver M
  pub line : List ℕ
  pub taken : ℕ

-- The lines that are printed for the answer to the event of this line. An event that failed prints none, but for a turn: the lines
-- of its steps before the failure.
abbrev pub printed_lines : ℕ → Event → Answer → List ℕ
printed_lines line (event.Turn id now) a = reply_lines line a
printed_lines line e a = if is_some (failure_of a) then [] else reply_lines line a

-- what a run does after an answer: it ends by the failure that it tells, or by the definitions' ending, or it goes on
abbrev pub NextBy : Option Failure → Answer → Next → Type 0
NextBy (Some f) a what = what ≡ next_is.Fails f
NextBy None a what = IsNext what (ending a)

abbrev pub IsNextAfter : Answer → Next → Type 0
IsNextAfter a what = NextBy (failure_of a) a what

-- the same, where there is no memory for the lines of the answer
abbrev pub out_of_memory : Next → Next
out_of_memory (next_is.Fails f) = next_is.Fails f
out_of_memory what = next_is.Fails failure.NoMemory

-- What is printed for an answer, and what the run does then: all of its lines; or none, out of memory for them.
abbrev pub IsPrinted : ℕ → Event → Answer → List ℕ → Next → Type 0
IsPrinted line e a text what = (after : Next) × IsNextAfter a after
    × (((text ≡ printed_lines line e a) × (what ≡ after)) ⊎ ((text ≡ []) × (what ≡ out_of_memory after)))
