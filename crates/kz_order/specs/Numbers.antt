-- Bytes as numbers.
use Rattle.std.specs.Prelude.{ℕ, List, [], ◌∷◌, ◌+◌, ◌*◌, ◌^◌, length}

-- bytes as one number to the base 256, the first of them the highest
abbrev pub number_of : List ℕ → ℕ
number_of [] = 0
number_of (byte ∷ rest) = byte * 256 ^ length rest + number_of rest
