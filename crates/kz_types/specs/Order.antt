-- Comparisons that are total orders.
use Rattle.std.specs.Prelude.{◌≡◌, ℕ, List}
use Rattle.std.specs.declared.cmp.Ordering.{Ordering}
use Rattle.std.specs.declared.cmp.Ordering.TheVariants.{Less, Equal}
use Rattle.std.specs.Ordering.{nat_cmp, ordering_reverse}
use Rattle.std.specs.Cmp.Lexicographic.{slice_cmp}

-- The comparison orders all keys, and it finds two keys equal only where they are the same.
pub record TotalOrder {K : Type 0} (cmp : K → K → Ordering) : Type 0 where
  pub itself : (x : K) → cmp x x ≡ Equal
  pub same : (x y : K) → cmp x y ≡ Equal → x ≡ y
  pub mirror : (x y : K) → cmp x y ≡ ordering_reverse (cmp y x)
  pub chain : (x y z : K) → cmp x y ≡ Less → cmp y z ≡ Less → cmp x z ≡ Less

-- byte strings by their bytes: of two that differ first at one byte, the one with the smaller byte comes first, and a prefix comes before what is longer
abbrev pub bytes_cmp : List ℕ → List ℕ → Ordering
bytes_cmp = slice_cmp nat_cmp
