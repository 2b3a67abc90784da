-- The numbers of parts of a list, and of all parts together.
use Rattle.std.specs.Prelude.{◌+◌, ◌-◌, ◌^◌, min, ℤ, int_lt, Bool, false, List, [], ◌∷◌, Option, Some, None}
use Rattle.std.specs.Int.{int_max}
use Rattle.kz_row_numbers.specs.declared.joined_numbers.Numbers.{Numbers}

-- the greater of two numbers, each of which may be missing
abbrev pub greater : Option ℤ → Option ℤ → Option ℤ
greater None other = other
greater (Some a) None = Some a
greater (Some a) (Some b) = Some (int_max a b)

-- the numbers of no znode
abbrev pub no_numbers : Numbers
no_numbers = record { rows = 0; latest = None }

-- the numbers of two parts together
abbrev pub joined : Numbers → Numbers → Numbers
joined a b = record { rows = min (a.rows + b.rows) (2 ^ 64 - 1); latest = greater a.latest b.latest }

-- the numbers of all parts together
abbrev pub all_joined : List Numbers → Numbers
all_joined [] = no_numbers
all_joined (n ∷ ns) = joined n (all_joined ns)

-- whether there is a number and it is above this one
abbrev pub is_above : ℤ → Option ℤ → Bool
is_above bound None = false
is_above bound (Some number) = int_lt bound number

-- whether a part has a znode that was written, or whose children were, after a transaction
abbrev pub is_later : ℤ → Numbers → Bool
is_later zxid n = is_above zxid n.latest
