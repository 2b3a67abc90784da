-- Where bytes stop being the beginning of a text of a grammar.
use Rattle.std.specs.Prelude.{ℕ, ◌+◌, ◌<◌, ◌≤◌, List, length, take}

-- The place of a fault in bytes, where `GoesOn` says with which bytes some text of the grammar begins: the first byte with which none
-- goes on. It is the length of the bytes where they end too early.
pub record IsFaultPlace (GoesOn : List ℕ → Type 0) (bytes : List ℕ) (at : ℕ) : Type 0 where
  pub within : at ≤ length bytes
  pub some : GoesOn (take at bytes)
  pub none : at < length bytes → GoesOn (take (at + 1) bytes) → ⊥
