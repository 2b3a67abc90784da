-- What is written through a buffer before a sink, and how a part of a run ends where the sink fails.
use Rattle.std.specs.Prelude.{◌≡◌, ℕ, Bool, true, List, ◌++◌, Option, Result, Err}
use Rattle.std.specs.Io.KnownBytes.{Appends}
use Rattle.kz_spec_machine.specs.Endings.{IsFront, EndsAtFailure}
use Rattle.kz_output.specs.declared.output.OutputFault.{OutputFault}
use Rattle.kz_output.specs.declared.output.OutputFault.TheVariants as fault

-- A text was put: what was held before, with the text, is what the sink took and what is held now.
abbrev pub Puts : Option (List ℕ) → List ℕ → Option (List ℕ) → List ℕ → List ℕ → Type 0
Puts taken held taken_now held_now text = (sent : List ℕ) × Appends taken taken_now sent × (held ++ text ≡ sent ++ held_now)

-- The sink took a front of a text.
abbrev pub WritesFront : Option (List ℕ) → Option (List ℕ) → List ℕ → Type 0
WritesFront taken taken_now text = (sent : List ℕ) × Appends taken taken_now sent × IsFront sent text

-- No call of the sink has failed: its count of faults is as it was, and so is whether its last call failed, unless a call
-- has succeeded since.
abbrev pub HasNotFailed : ℕ → ℕ → Bool → Bool → Type 0
HasNotFailed faults faults_now failed failed_now = (faults_now ≡ faults) × (failed_now ≡ true → failed ≡ true)

-- A part of a run ends with `SinkFailed` exactly where a call of the sink failed, and that was its last one.
abbrev pub EndsAtSink : {T : Type 0} → Result T OutputFault → ℕ → ℕ → Bool → Bool → Type 0
EndsAtSink result faults faults_now failed failed_now = EndsAtFailure (Err fault.SinkFailed) result faults faults_now failed failed_now
