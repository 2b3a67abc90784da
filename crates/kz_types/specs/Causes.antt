-- When a call to the outside may answer a fault.
use Rattle.std.specs.Prelude.{◌≡◌, ◌⊎◌, ℕ, ◌+◌, ◌-◌, ◌^◌, ◌<◌, ◌≤◌, min, List, length, Result, OnErr, OnOk, MatchResult}

-- the count has risen, or stands at its greatest value; it has never fallen
abbrev pub Rose : ℕ → ℕ → Type 0
Rose before now = (before ≤ now) × (min (before + 1) (2 ^ 64 - 1) ≤ now)

-- A fault is answered only where the count rose in this call, and a call that succeeds leaves the count.
pub record HasCause {T E : Type 0} (before now : ℕ) (result : Result T E) : Type 0 where
  pub later : before ≤ now
  pub failed : OnErr result (Rose before now)
  pub calm : OnOk result (now ≡ before)

-- The same for a write of a piece, which also raises the count where it takes nothing of a piece that isn't empty.
pub record WriteHasCause {E : Type 0} (before now : ℕ) (result : Result ℕ E) (piece : List ℕ) : Type 0 where
  pub later : before ≤ now
  pub failed : OnErr result (Rose before now)
  pub none : MatchResult result (λ n. n ≡ 0 → 0 < length piece → Rose before now) (λ _. Unit {0})
  pub calm : MatchResult result (λ n. (0 < n) ⊎ (length piece ≡ 0) → now ≡ before) (λ _. Unit {0})
