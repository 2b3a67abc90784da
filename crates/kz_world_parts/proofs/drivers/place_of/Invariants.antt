use Rattle.std.proofs.Common.{◌≡◌, drop}
use Rattle.kz_spec_machine.specs.Machine.{driver_of}
use Rattle.kz_world_parts.proofs.drivers.place_of.Given as goal

abbrev pub invariant-loop-at : goal.invariant-loop-at
invariant-loop-at l = driver_of l.id (drop l.at l.drivers) ≡ driver_of l.id l.drivers
