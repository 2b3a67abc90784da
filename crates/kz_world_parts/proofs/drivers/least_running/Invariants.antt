use Rattle.std.proofs.Common.{◌≡◌, ◌-◌, drop, length}
use Rattle.kz_spec_machine.specs.Driver.{least}
use Rattle.kz_spec_machine.specs.Machine.{running_ids}
use Rattle.kz_world_parts.proofs.drivers.least_running.Given as goal

abbrev pub invariant-loop-done : goal.invariant-loop-done
invariant-loop-done l = l.least ≡ least (running_ids (drop (length l.drivers - l.done) l.drivers))
