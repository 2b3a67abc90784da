-- What a stop leaves of a disk in memory, where what was written since the last sync is filled.
use Rattle.std.specs.Global.{Vec}
use Rattle.std.proofs.Common.{◌≡◌, ℕ, ◌+◌, ◌≤◌, ◌<◌, Bool, true, ◌&&◌, nat_le, List, [], ◌∷◌, ◌++◌, length, take, drop, get_or, reverse, Option, Some, None, refl, sym, ap, ◌∙◌, subst, arith, take-append-drop}
use Rattle.std.proofs.lemmas.Bool.Decides.{nat_tests}
use Rattle.std.proofs.lemmas.Grind.{common_steps}
use Rattle.std.proofs.lemmas.List.{reverse-append, take_more}
use Rattle.kz_disk.specs.declared.changes.Change.{Change}
use Rattle.kz_disk.specs.declared.changes.Change.TheVariants.{Wrote, Synced}
use Rattle.kz_disk.specs.Disks.{with_piece, Torn}
use Rattle.kz_disk.specs.Changes.{filled, crash_image, contents_after, are_within, MayLeave}
use Rattle.kz_disk.specs.Past.{torn_by_write}

both : (a b : Bool) → (a && b) ≡ true → (a ≡ true) × (b ≡ true)
both a b is = grind (arith, nat_tests)

within_from : (at n : ℕ) → nat_le at n ≡ true → at ≤ n
within_from at n is = grind (arith, nat_tests)

-- ---- the first changes

older_within : (start : List ℕ) (newer older : List Change) → are_within start (newer ++ older) ≡ true → are_within start older ≡ true
older_within start [] older is = is
older_within start (Wrote at piece ∷ newer) older is = older_within start newer older (both (nat_le at (length (contents_after start (newer ++ older)))) (are_within start (newer ++ older)) is).1
older_within start (Synced ∷ newer) older is = older_within start newer older is

pub first_within : (start : List ℕ) (changes : List Change) (n : ℕ) → are_within start (reverse changes) ≡ true → are_within start (reverse (take n changes)) ≡ true
first_within start changes n is =
    let parts : reverse changes ≡ reverse (drop n changes) ++ reverse (take n changes) = ap reverse (sym (take-append-drop n changes)) ∙ reverse-append (take n changes) (drop n changes) in
    older_within start (reverse (drop n changes)) (reverse (take n changes)) (subst (λ (h : List Change). are_within start h ≡ true) parts is)

-- the write that follows the first changes begins within what they leave
pub write_within : (start : List ℕ) (older : List Change) (at : ℕ) (rest : Bool) → (nat_le at (length (contents_after start older)) && rest) ≡ true → at ≤ length (contents_after start older)
write_within start older at rest is = within_from at (length (contents_after start older)) (both (nat_le at (length (contents_after start older))) rest is).0

-- ---- a piece that is filled

pub filled_length : (fill : Option ℕ) (piece : List ℕ) → length (filled fill piece) ≡ length piece
filled_length None piece = refl
filled_length (Some byte) piece = grind (arith, common_steps)

same_length : (at : ℕ) (piece other bytes image : List ℕ) → at ≤ length bytes → length image ≡ length bytes → length other ≡ length piece → length (with_piece at other image) ≡ length (with_piece at piece bytes)
same_length at piece other bytes image within long pieces = grind (arith, common_steps)

pub image_length : (fill : Option ℕ) (start : List ℕ) (changes : List Change) → are_within start changes ≡ true → length (crash_image fill start changes) ≡ length (contents_after start changes)
image_length fill start [] within = refl
image_length fill start (Wrote at piece ∷ older) within =
    let tests = both (nat_le at (length (contents_after start older))) (are_within start older) within in
    same_length at piece.items (filled fill piece.items) (contents_after start older) (crash_image fill start older) (within_from at (length (contents_after start older)) tests.0) (image_length fill start older tests.1) (filled_length fill piece.items)
image_length fill start (Synced ∷ older) within = refl

-- a stop may leave it
pub image_left : (fill : Option ℕ) (start : List ℕ) (changes : List Change) → are_within start changes ≡ true → MayLeave start changes (crash_image fill start changes)
image_left fill start [] within = refl
image_left fill start (Wrote at piece ∷ older) within =
    let tests = both (nat_le at (length (contents_after start older))) (are_within start older) within in
    let image = crash_image fill start older in
    let at_most : at ≤ length image = (let long = image_length fill start older tests.1 in let here = within_from at (length (contents_after start older)) tests.0 in omega arith) in
    (image, image_left fill start older tests.1, subst (λ (n : ℕ). Torn at n image (with_piece at (filled fill piece.items) image)) (filled_length fill piece.items) (torn_by_write at (filled fill piece.items) image at_most))
image_left fill start (Synced ∷ older) within = refl

-- ---- one more change

pub one_more : (changes : List Change) (n : ℕ) (c : Change) → n < length changes → c ≡ get_or changes n c → reverse (take (n + 1) changes) ≡ c ∷ reverse (take n changes)
one_more changes n c lt is = ap reverse (take_more changes n c lt) ∙ reverse-append (take n changes) (get_or changes n c ∷ []) ∙ ap (λ (x : Change). x ∷ reverse (take n changes)) (sym is)

pub next_write : (start : List ℕ) (changes : List Change) (n : ℕ) (c : Change) (at : ℕ) (piece : Vec ℕ) → n < length changes → c ≡ get_or changes n c → c ≡ Wrote at piece → are_within start (reverse changes) ≡ true
    → at ≤ length (contents_after start (reverse (take n changes)))
next_write start changes n c at piece lt is wrote within =
    let newest : reverse (take (n + 1) changes) ≡ Wrote at piece ∷ reverse (take n changes) = one_more changes n c lt is ∙ ap (λ (x : Change). x ∷ reverse (take n changes)) wrote in
    let all : are_within start (Wrote at piece ∷ reverse (take n changes)) ≡ true = subst (λ (h : List Change). are_within start h ≡ true) newest (first_within start changes (n + 1) within) in
    write_within start (reverse (take n changes)) at (are_within start (reverse (take n changes))) all

pub next_write_in_image : (fill : Option ℕ) (start : List ℕ) (changes : List Change) (n : ℕ) (c : Change) (at : ℕ) (piece : Vec ℕ) → n < length changes → c ≡ get_or changes n c → c ≡ Wrote at piece → are_within start (reverse changes) ≡ true
    → at ≤ length (crash_image fill start (reverse (take n changes)))
next_write_in_image fill start changes n c at piece lt is wrote within =
    let here = next_write start changes n c at piece lt is wrote within in
    let long = image_length fill start (reverse (take n changes)) (first_within start changes n within) in
    omega arith
