-- How the end of the frames is closed, so that a frame can be appended there.
use Rattle.std.specs.Prelude.{◌≡◌, ℕ, ◌+◌, max, Bool, List, [], ◌∷◌, length, take, drop, slice_index, Option, Some}
use Rattle.kz_disk.specs.Disks.{Torn}
use Rattle.kz_spec_data.specs.Frames.{End, found_at, closed_gate}

-- A file's frames still end at this gate: what stands before it is the same, and no frame is found at it.
pub record StillEnds (summed : Bool) (gate : ℕ) (file left : List ℕ) : Type 0 where
  pub front : take gate left ≡ take gate file
  pub none : found_at summed (take gate left) (drop gate left) ≡ End

-- No frame is found at this gate, whatever byte is written there.
abbrev pub IsIdle : Bool → ℕ → List ℕ → Type 0
IsIdle summed gate file = (left : List ℕ) → Torn gate 1 file left → found_at summed (take gate left) (drop gate left) ≡ End

-- The length that no frame in a file has.
abbrev pub unending : List ℕ
unending = 0xFF ∷ 0xFF ∷ 0xFF ∷ 0xFE ∷ []

-- The file that is told now has a closed gate at this place, after the same bytes.
pub record IsClosed (gate : ℕ) (file : List ℕ) (told : Option (List ℕ)) : Type 0 where
  pub new : List ℕ
  pub is : told ≡ Some new
  pub front : take gate new ≡ take gate file
  pub closed : slice_index new gate ≡ closed_gate
  pub long : length new ≡ max (length file) (gate + 1)
