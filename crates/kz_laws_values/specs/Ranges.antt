-- The numbers for which a body of a control znode is written.
use Rattle.std.specs.Prelude.{ℤ, pos, negsuc, ◌≤ℤ◌}
use Rattle.kz_types.specs.declared.machine.Recorded.{Recorded}

-- from the first number to the second, both among them
abbrev pub IsBetween : ℤ → ℤ → ℤ → Type 0
IsBetween low high z = (low ≤ℤ z) × (z ≤ℤ high)

-- a number of 64 bits
abbrev pub IsLong : ℤ → Type 0
IsLong z = IsBetween (negsuc 9223372036854775807) (pos 9223372036854775807) z

-- the epoch of a controller
abbrev pub IsEpoch : ℤ → Type 0
IsEpoch epoch = IsBetween (pos 0) (pos 2147483647) epoch

-- What `/migration` records: an offset and its epoch are -1 where there is none.
pub record IsRecorded (r : Recorded) : Type 0 where
  pub id : IsBetween (pos 0) (pos 2147483647) r.id
  pub controller_epoch : IsEpoch r.controller_epoch
  pub offset : IsBetween (negsuc 0) (pos 9223372036854775807) r.offset
  pub epoch : IsBetween (negsuc 0) (pos 2147483647) r.epoch
