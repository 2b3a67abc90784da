use Rattle.std.proofs.Common.{◌≡◌, drop}
use Rattle.kz_spec_machine.specs.Machine.{is_running}
use Rattle.kz_world_parts.proofs.drivers.is_running.Given as goal

abbrev pub invariant-loop-driver : goal.invariant-loop-driver
invariant-loop-driver l = is_running l.id (drop l.driver-index l.drivers) ≡ is_running l.id l.drivers
