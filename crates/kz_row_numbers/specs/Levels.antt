-- The numbers of a list's parts, kept as levels: each level has the numbers of the level below it, two and two together.
use Rattle.std.specs.Prelude.{◌≡◌, ◌≤◌, ⊤, List, [], ◌∷◌, length}
use Rattle.kz_row_numbers.specs.declared.joined_numbers.Numbers.{Numbers}
use Rattle.kz_row_numbers.specs.Joins.{joined}

-- the first two together, the next two together, and so on; the last may be alone
abbrev pub pairs : List Numbers → List Numbers
pairs [] = []
pairs (a ∷ []) = a ∷ []
pairs (a ∷ b ∷ ns) = joined a b ∷ pairs ns

-- the lowest level, which is the list itself
abbrev pub lowest : List (List Numbers) → List Numbers
lowest [] = []
lowest (level ∷ levels) = level

-- The level above this one has its pairs. Where there is none, it has at most one entry.
abbrev pub IsBelow : List Numbers → List (List Numbers) → Type 0
IsBelow level [] = length level ≤ 1
IsBelow level (above ∷ levels) = above ≡ pairs level

-- each level stands below the next
abbrev pub AreLevels : List (List Numbers) → Type 0
AreLevels [] = ⊤
AreLevels (level ∷ levels) = IsBelow level levels × AreLevels levels
