-- What appends do to a journal's file, and what a stop in one leaves.
use Rattle.std.specs.Prelude.{◌≡◌, ◌⊎◌, ℕ, ◌+◌, ◌<◌, max, Bool, List, [], ◌∷◌, ◌++◌, length, take, slice_index, Option, Some}
use Rattle.kz_disk.specs.Disks.{Torn, with_piece}
use Rattle.kz_spec_data.specs.Frames.{open_gate, closed_gate, size_before, frame_written, journal_with_frame, journal_of}
use Rattle.kz_laws_values.specs.Fronts.{IsFront}

-- what a stop might have left before, or that with a torn range
abbrev pub IsTornOr : (List ℕ → Type 0) → ℕ → ℕ → List ℕ → Type 0
IsTornOr leaves at n left = leaves left ⊎ ((was : List ℕ) × leaves was × Torn at n was left)

-- a file with this piece after the gate at this place, which is open then
abbrev pub with_open_gate : ℕ → List ℕ → List ℕ → List ℕ
with_open_gate gate piece file = with_piece gate (open_gate ∷ []) (with_piece (gate + 1) piece file)

-- A stop while this piece is written after a gate and the gate is opened: the range after it is torn, or the gate is.
abbrev pub IsCutAppend : ℕ → List ℕ → List ℕ → List ℕ → Type 0
IsCutAppend gate piece file left = Torn (gate + 1) (length piece) file left ⊎ Torn gate 1 (with_piece (gate + 1) piece file) left

-- A file whose frames end at a closed gate, which stands in it. A frame there has a sum or not.
pub record IsResting (letter gate : ℕ) (summed : Bool) (file : List ℕ) : Type 0 where
  pub front : IsFront letter (take gate file) summed
  pub stands : gate < length file
  pub closed : slice_index file gate ≡ closed_gate

-- what is written after the gate of a new frame: the frame, and a closed gate
abbrev pub after_gate : Bool → List ℕ → List ℕ
after_gate summed payload = frame_written summed payload ++ closed_gate ∷ []

-- where the next gate stands after a frame
abbrev pub next_gate_of : ℕ → Bool → List ℕ → ℕ
next_gate_of gate summed payload = gate + size_before summed + length payload

-- A frame was appended to a file of this letter, whose frames ended at this gate: the file that is told now has the frame, whole,
-- and rests again.
pub record IsAppended (letter gate : ℕ) (summed : Bool) (payload file : List ℕ) (told : Option (List ℕ)) : Type 0 where
  pub new : List ℕ
  pub is : told ≡ Some new
  pub journal : journal_of letter new ≡ journal_with_frame payload (journal_of letter file)
  pub rests : IsResting letter (next_gate_of gate summed payload) summed new
  pub bytes : take (next_gate_of gate summed payload) new ≡ take gate file ++ open_gate ∷ frame_written summed payload
  pub long : length new ≡ max (length file) (next_gate_of gate summed payload + 1)
