-- What a stop leaves of the tree and the log in the middle of a run, by how much is written.
use Rattle.std.specs.Prelude.{ℕ, List, [], ◌∷◌, ◌++◌, Option, Some, Result, Ok, Err}
use Rattle.kz_types.specs.declared.machine.Event.{Event}
use Rattle.kz_types.specs.declared.memory.NoMemory.{NoMemory}
use Rattle.kz_spec_data.specs.Lines.{Item, line}
use Rattle.kz_spec_data.specs.Tree.{Tree}
use Rattle.kz_spec_data.specs.Log.{Log}
use Rattle.kz_spec_machine.specs.Output.{Place, summary}
use Rattle.kz_spec_machine.specs.Endings.{IsFront}
use Rattle.kz_spec_machine.specs.Moments.{Moment, moments, moments_on, LeavesMoment}
use Rattle.kz_stream.specs.declared.ending.Next.{Next}
use Rattle.kz_stream.specs.declared.ending.Next.TheVariants as next_is
use Rattle.kz_stream.specs.declared.ending.Printed.{Printed}
use Rattle.kz_stream.specs.Pending.{State, moments_to_come}

-- Whatever front of this text is written, what a stop leaves is that of one of these moments that keeps up with it.
abbrev pub KeepsUp : List Moment → List ℕ → (Option Tree → Type 0) → (Option Log → Type 0) → Type 0
KeepsUp ms text tree_left log_left = (sent : List ℕ) → IsFront sent text → LeavesMoment ms sent tree_left log_left

-- It does after an event, a line, and bytes, whatever follows them, where this text is to be written for them.
abbrev pub EventKeepsUp : Place → Event → List ℕ → (Option Tree → Type 0) → (Option Log → Type 0) → Type 0
EventKeepsUp p e text tree_left log_left = (is : List Item) → KeepsUp (moments_on p (Some e) (λ q. moments q is)) text tree_left log_left

abbrev pub LineKeepsUp : Place → List ℕ → List ℕ → (Option Tree → Type 0) → (Option Log → Type 0) → Type 0
LineKeepsUp p l text tree_left log_left = (is : List Item) → KeepsUp (moments p (line l ∷ is)) text tree_left log_left

abbrev pub BytesKeepUp : State → List ℕ → List ℕ → (Option Tree → Type 0) → (Option Log → Type 0) → Type 0
BytesKeepUp s bytes text tree_left log_left = (rest : List ℕ) → KeepsUp (moments_to_come s (bytes ++ rest)) text tree_left log_left

-- the text that is to be written: none where memory ran out
abbrev pub text_of : Result Printed NoMemory → List ℕ
text_of (Ok p) = p.text.items
text_of (Err none) = []

-- With this much written, what a stop leaves is that of a moment that keeps up with it, whatever follows these bytes.
abbrev pub LeavesPart : State → List ℕ → List ℕ → (Option Tree → Type 0) → (Option Log → Type 0) → Type 0
LeavesPart s bytes sent tree_left log_left = (rest : List ℕ) → LeavesMoment (moments_to_come s (bytes ++ rest)) sent tree_left log_left

-- a text, and after it the summary, unless the run ends without
abbrev pub summarised : Next → List ℕ → Place → List ℕ
summarised next_is.GoesOn text p = text ++ summary p
summarised what text p = text
