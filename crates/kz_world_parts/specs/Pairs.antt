-- A driver and what it shares, of which all is true that is true of every world.
use Rattle.std.specs.Prelude.{ℤ}
use Rattle.kz_spec_machine.specs.Driver.{Shared, Driver}
use Rattle.kz_spec_machine.specs.Sound.{IsTime, IsSharedSound, IsSoundDriver}

-- What is shared and a driver of it, of which all is true that is true of every world, at a time in range.
pub record IsSoundPair (s : Shared) (now : ℤ) (d : Driver) : Type 0 where
  pub time : IsTime now
  pub shared : IsSharedSound s
  pub driver : IsSoundDriver s d
