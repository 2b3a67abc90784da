-- The texts of which the laws of records speak.
use Rattle.std.specs.Prelude.{ℕ, ◌<◌, List}
use Rattle.std.specs.List.{All}

-- each number is a byte
abbrev pub AreBytes : List ℕ → Type 0
AreBytes text = All (λ b. b < 256) text
