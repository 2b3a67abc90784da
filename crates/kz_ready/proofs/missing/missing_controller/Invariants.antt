use Rattle.std.proofs.Common.{◌≡◌, ◌-◌, drop, length}
use Rattle.kz_spec_machine.specs.Driver.{missing_controller}
use Rattle.kz_ready.proofs.missing.missing_controller.Given as goal

abbrev pub invariant-loop-done : goal.invariant-loop-done
invariant-loop-done l = l.least ≡ missing_controller (drop (length l.declared - l.done) l.declared) l.running
