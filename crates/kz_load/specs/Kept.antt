-- What a load keeps in the middle of its input.
use Rattle.std.specs.Prelude.{ℕ, ◌+◌, ◌≤◌}
use Rattle.kz_types.specs.declared.limits.TheConstants.{MAX_INPUT_BYTES}
use Rattle.kz_load.specs.declared.place.Place.{Place}
use Rattle.kz_load.specs.declared.place.Place.TheVariants as place
use Rattle.kz_load.specs.declared.reader.Reader.{Reader}

-- the number of the next line
abbrev pub number_of : Place → ℕ
number_of place.Start = 1
number_of (place.After part) = part.number

-- The input is within its limit, and each line ended at a byte.
pub record IsKept (r : Reader) : Type 0 where
  pub few : r.taken ≤ MAX_INPUT_BYTES
  pub each_line : number_of r.place ≤ r.taken + 1
