-- What objects of the outside tell: their contents, and whether their last call failed.
use Rattle.std.specs.Prelude.{◌≡◌, ◌&&◌, ◌==◌, ℕ, Bool, true, nat_lt, List, length, Option, is_some, Result, Ok, Err}

-- What tells its contents goes on telling them, and what doesn't tell them never begins.
abbrev pub StaysTold : Option (List ℕ) → Option (List ℕ) → Type 0
StaysTold old new = is_some new ≡ is_some old

-- A write failed, or took nothing of a piece that isn't empty.
abbrev pub is_failed_write : {E : Type 0} → Result ℕ E → List ℕ → Bool
is_failed_write (Ok count) piece = (count == 0) && nat_lt 0 (length piece)
is_failed_write (Err e) piece = true
