use Rattle.std.proofs.Common.{◌≡◌, ◌++◌, drop}
use Rattle.kz_spec_machine.specs.Machine.{running_ids}
use Rattle.kz_world_parts.proofs.drivers.running_ids.Given as goal

abbrev pub invariant-loop-driver : goal.invariant-loop-driver
invariant-loop-driver l = l.ids ++ running_ids (drop l.driver-index l.drivers) ≡ running_ids l.drivers
