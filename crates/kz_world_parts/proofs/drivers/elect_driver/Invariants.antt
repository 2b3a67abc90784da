use Rattle.std.proofs.Common.{◌≡◌, ◌++◌, drop, take, length}
use Rattle.kz_world_parts.specs.Worlds.{elected_drivers}
use Rattle.kz_world_parts.proofs.drivers.elect_driver.Given as goal

abbrev pub invariant-loop-at : goal.invariant-loop-at
invariant-loop-at l =
    (l.drivers.items ≡ elected_drivers l.id l.epoch (take l.at l.fn.drivers.items) ++ drop l.at l.fn.drivers.items)
    × (length l.drivers.items ≡ length l.fn.drivers.items)
