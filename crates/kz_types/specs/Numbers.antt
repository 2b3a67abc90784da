-- Decimals, and canonical ones: the decimal text of a number of 0 to 2147483647, without a sign and without leading zeros.
use Rattle.std.specs.Prelude.{ℕ, Bool, true, not, ◌&&◌, nat_le, ℤ, pos, List, [], ◌∷◌, Option, Some, None, option_map, if◌then◌else◌, bytes_eq, decimal}
use Rattle.std.specs.List.{list_all, list_any}
use Rattle.std.specs.Ordering.{int_eq}
use Rattle.std.specs.Str.Parse.{digits_value}
use Rattle.kz_types.specs.declared.limits.TheConstants.{MAX_NUMBER}

abbrev pub is_digit : ℕ → Bool
is_digit b = nat_le 48 b && nat_le b 57

-- the number that digits write
abbrev pub number_of : List ℕ → ℕ
number_of digits = digits_value 10 digits

-- the number of at most `most` that digits write, with or without zeros in front
abbrev pub digits_up_to : ℕ → List ℕ → Option ℕ
digits_up_to most bytes = if list_all is_digit bytes && nat_le (number_of bytes) most then Some (number_of bytes) else None

-- the number whose canonical decimal these bytes are
unfoldable pub canonical : List ℕ → Option ℕ
canonical bytes = if bytes_eq (decimal (number_of bytes)) bytes && nat_le (number_of bytes) MAX_NUMBER then Some (number_of bytes) else None

-- the same, as a signed number
abbrev pub number_in : List ℕ → Option ℤ
number_in bytes = option_map (λ n. pos n) (canonical bytes)

-- ---- lists of numbers

-- a number is in a list
abbrev pub is_in : List ℤ → ℤ → Bool
is_in ids id = list_any (λ other. int_eq id other) ids

-- no member twice
abbrev pub are_distinct : List ℤ → Bool
are_distinct [] = true
are_distinct (id ∷ ids) = not (is_in ids id) && are_distinct ids
