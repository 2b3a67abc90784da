-- The changes of a disk since it was made, the newest first: its contents, and what a stop may leave.
use Rattle.std.specs.Prelude.{◌≡◌, ◌⊎◌, ℕ, ◌≤◌, nat_le, Bool, true, ◌&&◌, List, [], ◌∷◌, length, replicate, Option, Some, None}
use Rattle.kz_disk.specs.declared.changes.Change.{Change}
use Rattle.kz_disk.specs.declared.changes.Change.TheVariants.{Wrote, Synced}
use Rattle.kz_disk.specs.Disks.{with_piece, Torn}

-- the contents after these changes of some first contents
abbrev pub contents_after : List ℕ → List Change → List ℕ
contents_after start [] = start
contents_after start (Wrote at piece ∷ older) = with_piece at piece.items (contents_after start older)
contents_after start (Synced ∷ older) = contents_after start older

-- a piece as a stop leaves it: as it was written, or with this byte throughout
abbrev pub filled : Option ℕ → List ℕ → List ℕ
filled None piece = piece
filled (Some byte) piece = replicate (length piece) byte

-- What a stop after these changes leaves of the contents where what was written since the last sync is filled so.
abbrev pub crash_image : Option ℕ → List ℕ → List Change → List ℕ
crash_image fill start [] = start
crash_image fill start (Wrote at piece ∷ older) = with_piece at (filled fill piece.items) (crash_image fill start older)
crash_image fill start (Synced ∷ older) = contents_after start older

-- each write began within the contents or at their end
abbrev pub are_within : List ℕ → List Change → Bool
are_within start [] = true
are_within start (Wrote at piece ∷ older) = nat_le at (length (contents_after start older)) && are_within start older
are_within start (Synced ∷ older) = are_within start older

-- What a stop after these changes may leave: any bytes in each range that was written since the last sync.
abbrev pub MayLeave : List ℕ → List Change → List ℕ → Type 0
MayLeave start [] left = left ≡ start
MayLeave start (Wrote at piece ∷ older) left = (was : List ℕ) × MayLeave start older was × Torn at (length piece.items) was left
MayLeave start (Synced ∷ older) left = left ≡ contents_after start older

-- What a stop might have left since a moment, which is a count of changes.
abbrev pub MightHaveLeft : List ℕ → List Change → ℕ → List ℕ → Type 0
MightHaveLeft start [] t left = MayLeave start [] left
MightHaveLeft start (c ∷ older) t left = MayLeave start (c ∷ older) left ⊎ ((t ≤ length older) × MightHaveLeft start older t left)
