-- What the calls of a disk do to its contents, what a stop may leave of them, and how time goes on.
use Rattle.std.specs.Prelude.{◌≡◌, ◌⊎◌, ℕ, ◌+◌, ◌≤◌, max, List, ◌++◌, length, take, drop, Option, Some, is_some, Result, Ok, Err}
use Rattle.kz_types.specs.Causes.{Rose}

-- ---- contents, where they are told

-- What tells its contents goes on telling them, and what doesn't tell them never begins.
abbrev pub StaysTold : Option (List ℕ) → Option (List ℕ) → Type 0
StaysTold old new = is_some new ≡ is_some old

-- The contents have at least so many bytes.
abbrev pub IsWithin : Option (List ℕ) → ℕ → Type 0
IsWithin told n = (bytes : List ℕ) → told ≡ Some bytes → n ≤ length bytes

-- The contents have so many bytes.
abbrev pub IsLength : Option (List ℕ) → ℕ → Type 0
IsLength told n = (bytes : List ℕ) → told ≡ Some bytes → n ≡ length bytes

-- These bytes are those of the contents at a place.
abbrev pub StandAt : Option (List ℕ) → ℕ → List ℕ → Type 0
StandAt told at found = (bytes : List ℕ) → told ≡ Some bytes → found ≡ take (length found) (drop at bytes)

-- bytes with a piece at a place, over what stood there and past the end
abbrev pub with_piece : ℕ → List ℕ → List ℕ → List ℕ
with_piece at piece bytes = take at bytes ++ piece ++ drop (at + length piece) bytes

-- ---- what a stop leaves

-- A stop can leave these bytes in place of older ones, of which n were being written over at a place: in this range, and
-- past the old end, stand any bytes, and all others are the same.
pub record Torn (at n : ℕ) (old new : List ℕ) : Type 0 where
  pub before : take at new ≡ take at old
  pub after : drop (at + n) new ≡ drop (at + n) old
  pub no_shorter : length old ≤ length new
  pub no_longer : length new ≤ max (length old) (at + n)

-- What a stop may leave now, it might have left before.
abbrev pub LeavesNoMore : (List ℕ → Type 0) → (List ℕ → Type 0) → Type 0
LeavesNoMore old new = (left : List ℕ) → new left → old left

-- What a stop may leave now is what it might have left before, with a range torn.
abbrev pub LeavesTorn : ℕ → ℕ → (List ℕ → Type 0) → (List ℕ → Type 0) → Type 0
LeavesTorn at n old new = (left : List ℕ) → new left → (was : List ℕ) × old was × Torn at n was left

-- No write is pending: a stop leaves the contents and nothing else.
abbrev pub NothingPends : Option (List ℕ) → (List ℕ → Type 0) → Type 0
NothingPends told leaves = (left : List ℕ) → leaves left → told ≡ Some left

-- A disk that tells nothing says of no bytes that a stop leaves them.
abbrev pub LeavesNothing : List ℕ → Type 0
LeavesNothing left = ⊥

-- ---- time

-- Time goes on by one call: what a stop since an earlier moment might have left is what it might have left before the call,
-- and what it may leave now.
pub record Elapses (before now : ℕ) (past since : ℕ → List ℕ → Type 0) (leaves : List ℕ → Type 0) : Type 0 where
  pub later : before ≤ now
  pub nothing_else : (t : ℕ) (left : List ℕ) → t ≤ before → since t left → past t left ⊎ leaves left
  pub keeps : (t : ℕ) (left : List ℕ) → t ≤ before → past t left → since t left

-- A stop at any moment of these calls leaves bytes that are P. The calls can be those of a run that began earlier.
pub record LeavesOnly {D : Type 0} (moment : D → ℕ) (left_since : D → ℕ → List ℕ → Type 0) (old new : D) (P : List ℕ → Type 0) : Type 0 where
  pub later : moment old ≤ moment new
  pub each : (left : List ℕ) → left_since new (moment old) left → P left
  pub before : (t : ℕ) (left : List ℕ) → t ≤ moment old → left_since new t left → left_since old t left ⊎ P left

-- ---- counts

-- The count of syncs rises where a sync succeeds, and only there.
abbrev pub CountsSync : {E : Type 0} → ℕ → ℕ → Result (Unit {0}) E → Type 0
CountsSync before now (Ok done) = Rose before now
CountsSync before now (Err e) = now ≡ before
