-- What a disk in memory might have left: this moment counts, since this moment there is no other, and its contents may stay.
use Rattle.std.specs.Prelude.{◌≡◌, ℕ, ◌≤◌, nat_le, Bool, true, ◌&&◌, List, [], ◌∷◌, length, Some}
use Rattle.std.proofs.Common.{refl, inl, ⊎_elim, subst, arith}
use Rattle.std.proofs.lemmas.Bool.Decides.{nat_tests}
use Rattle.std.proofs.lemmas.Grind.{common_steps}
use Rattle.kz_disk.specs.declared.changes.Change.{Change}
use Rattle.kz_disk.specs.declared.changes.Change.TheVariants.{Wrote, Synced}
use Rattle.kz_disk.specs.Disks.{with_piece, Torn}
use Rattle.kz_disk.specs.Changes.{contents_after, are_within, MayLeave, MightHaveLeft}

pub left_now : (start : List ℕ) (changes : List Change) (t : ℕ) (left : List ℕ) → t ≤ length changes → MayLeave start changes left → MightHaveLeft start changes t left
left_now start [] t left before now = now
left_now start (c ∷ older) t left before now = inl now

pub left_only_now : (start : List ℕ) (changes : List Change) (left : List ℕ) → MightHaveLeft start changes (length changes) left → MayLeave start changes left
left_only_now start [] left since = since
left_only_now start (c ∷ older) left since = ⊎_elim (λ now. now) (λ past. absurd (omega (arith, past.0))) since

-- a write within the bytes leaves them torn
pub torn_by_write : (at : ℕ) (piece bytes : List ℕ) → at ≤ length bytes → Torn at (length piece) bytes (with_piece at piece bytes)
torn_by_write at piece bytes within = record {
  before = grind (arith, common_steps);
  after = grind (arith, common_steps);
  no_shorter = grind (arith, common_steps);
  no_longer = grind (arith, common_steps);
}

both : (a b : Bool) → (a && b) ≡ true → (a ≡ true) × (b ≡ true)
both a b is = grind (arith, nat_tests)

within_from : (at n : ℕ) → nat_le at n ≡ true → at ≤ n
within_from at n is = grind (arith, nat_tests)

-- a stop may leave the contents
pub contents_stay : (start : List ℕ) (changes : List Change) → are_within start changes ≡ true → MayLeave start changes (contents_after start changes)
contents_stay start [] within = refl
contents_stay start (Wrote at piece ∷ older) within =
    let tests = both (nat_le at (length (contents_after start older))) (are_within start older) within in
    (contents_after start older, contents_stay start older tests.1, torn_by_write at piece.items (contents_after start older) (within_from at (length (contents_after start older)) tests.0))
contents_stay start (Synced ∷ older) within = refl

pub contents_may_stay : (start : List ℕ) (changes : List Change) (now bytes : List ℕ) → now ≡ contents_after start changes → are_within start changes ≡ true → Some now ≡ Some bytes → MayLeave start changes bytes
contents_may_stay start changes now bytes same within is =
    let e : contents_after start changes ≡ bytes = cc in
    subst (MayLeave start changes) e (contents_stay start changes within)
