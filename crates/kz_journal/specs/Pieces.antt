-- What stands at a gate, as it is read.
use Rattle.std.specs.Prelude.{◌≡◌, ℕ, ◌+◌, ◌≤◌, Bool, true, false, List, length, take, drop, ⊤}
use Rattle.kz_spec_data.specs.Checksum.{crc32c}
use Rattle.kz_spec_data.specs.Frames.{Found, Frame, Seal, Damaged, End, is_open, size_before, found_at}
use Rattle.kz_journal.specs.declared.read.Piece.{Piece}
use Rattle.kz_journal.specs.declared.read.Piece.TheVariants as piece
use Rattle.kz_journal.specs.declared.place.Place.{Place}

abbrev pub found_of : Piece → Found
found_of (piece.Frame payload sum) = Frame payload.items
found_of piece.Seal = Seal
found_of piece.Damaged = Damaged
found_of piece.End = End

-- This stands at a gate of a file.
abbrev pub StandsAt : Bool → ℕ → List ℕ → Piece → Type 0
StandsAt summed gate file found = found_of found ≡ found_at summed (take gate file) (drop gate file)

-- The gate is open, and these are the bytes of length after it.
pub record IsOpenHead (size here : List ℕ) : Type 0 where
  pub gate : is_open here ≡ true
  pub is_size : take 4 (drop 1 here) ≡ size
  pub long : 5 ≤ length here

-- the sum of all bytes up to the next gate, of a frame that has no sum of its own
abbrev pub IsSumAfter : ℕ → List ℕ → Piece → Type 0
IsSumAfter gate file (piece.Frame payload sum) = sum ≡ crc32c (take (gate + 5 + length payload.items) file)
IsSumAfter gate file piece.Seal = ⊤
IsSumAfter gate file piece.Damaged = ⊤
IsSumAfter gate file piece.End = ⊤

-- The file has this length; and this is the sum of all bytes before the gate, where a frame there has none.
pub record IsMeasured (place : Place) (file : List ℕ) : Type 0 where
  pub long : place.length ≡ length file
  pub sum : place.summed ≡ false → place.sum ≡ crc32c (take place.gate file)

-- A frame or a seal that stands at a place stands in the file, all of it.
abbrev pub IsRoomFor : Place → Piece → Type 0
IsRoomFor place (piece.Frame payload sum) = place.gate + size_before place.summed + length payload.items ≤ place.length
IsRoomFor place piece.Seal = (place.summed ≡ false) × (place.gate + 9 ≤ place.length)
IsRoomFor place piece.Damaged = ⊤
IsRoomFor place piece.End = ⊤

abbrev pub IsNoSeal : Piece → Type 0
IsNoSeal (piece.Frame payload sum) = ⊤
IsNoSeal piece.Seal = ⊥
IsNoSeal piece.Damaged = ⊤
IsNoSeal piece.End = ⊤
