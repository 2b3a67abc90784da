-- Calls that fail by a list.
use Rattle.std.specs.Prelude.{ℕ, Bool, ◌==◌, List}
use Rattle.std.specs.List.{list_any}

-- a call of this number is listed
abbrev pub is_listed : ℕ → List ℕ → Bool
is_listed call calls = list_any (λ n. n == call) calls
