-- The parts of a path are no longer than the path.
use Rattle.std.proofs.Common.{◌≡◌, ◌≤◌, ◌==◌, ◌&&◌, ℕ, Bool, true, false, List, [], ◌∷◌, length, drop, sym, subst, arith, length-append}
use Rattle.std.specs.Prelude.{⊤}
use Rattle.std.specs.List.{slice_split, join_with_byte}
use Rattle.std.proofs.lemmas.List.Splits.{join_with_byte-slice_split}
use Rattle.std.specs.Prelude.{nat_le}
use Rattle.std.proofs.lemmas.Bool.{leb-true}
use Rattle.kz_types.specs.PathRule.{parts, is_path, has_path_form}
use Rattle.kz_path.specs.declared.cut.Parts.{Parts}
use Rattle.kz_path.specs.declared.cut.Parts.TheVariants.{One, Two, Three, Four, Five, Six, More}
use Rattle.kz_path.specs.Cut.{IsCut, AreWithin}

abbrev AreShort : ℕ → List (List ℕ) → Type 0
AreShort most [] = ⊤
AreShort most (p ∷ ps) = (length p ≤ most) × AreShort most ps

joined_short : (c most : ℕ) (ps : List (List ℕ)) → length (join_with_byte c ps) ≤ most → AreShort most ps
joined_short c most [] few = tt
joined_short c most (p ∷ []) few = (few, tt)
joined_short c most (p ∷ q ∷ ps) few =
    let sum = length-append p (c ∷ join_with_byte c (q ∷ ps)) in
    (omega (arith, sum, few), joined_short c most (q ∷ ps) (omega (arith, sum, few)))

after_first : (most : ℕ) (ps : List (List ℕ)) → AreShort most ps → AreShort most (drop 1 ps)
after_first most [] short = tt
after_first most (p ∷ ps) short = short.1

parts_short : (path : List ℕ) (most : ℕ) → length path ≤ most → AreShort most (parts path)
parts_short path most few =
    after_first most (slice_split (λ b. b == 47) path)
    (joined_short 47 most (slice_split (λ b. b == 47) path) (subst (λ (l : List ℕ). length l ≤ most) (sym (join_with_byte-slice_split 47 path)) few))

by_parts : (most : ℕ) (ps : List (List ℕ)) (p : Parts) → IsCut ps p → AreShort most ps → AreWithin most p
by_parts most ps (One a) is short = (subst (AreShort most) is short).0
by_parts most ps (Two a b) is short = let s = subst (AreShort most) is short in (s.0, s.1.0)
by_parts most ps (Three a b c) is short = let s = subst (AreShort most) is short in (s.0, s.1.0, s.1.1.0)
by_parts most ps (Four a b c d) is short = let s = subst (AreShort most) is short in (s.0, s.1.0, s.1.1.0, s.1.1.1.0)
by_parts most ps (Five a b c d e) is short = let s = subst (AreShort most) is short in (s.0, s.1.0, s.1.1.0, s.1.1.1.0, s.1.1.1.1.0)
by_parts most ps (Six a b c d e f) is short = let s = subst (AreShort most) is short in (s.0, s.1.0, s.1.1.0, s.1.1.1.0, s.1.1.1.1.0, s.1.1.1.1.1.0)
by_parts most ps More is short = tt

-- a path's parts are within its limit
pub cut_within : (path : List ℕ) (p : Parts) → length path ≤ 1024 → IsCut (parts path) p → AreWithin 1024 p
cut_within path p few is = by_parts 1024 (parts path) p is (parts_short path 1024 few)

-- a path has at most 1,024 bytes
pub path_length : (path : List ℕ) → is_path path ≡ true → length path ≤ 1024
unfolding is_path
path_length path is = leb-true (length path) 1024 (and_second (has_path_form path) (nat_le (length path) 1024) is)
  where
    and_second : (a b : Bool) → (a && b) ≡ true → b ≡ true
    and_second true b e = e
    and_second false b e = absurd (cc)
