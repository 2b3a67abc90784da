use Rattle.std.proofs.Common.{◌≡◌, ◌-◌, drop, length}
use Rattle.kz_spec_machine.specs.Driver.{missing_broker}
use Rattle.kz_ready.proofs.missing.missing_broker.Given as goal

abbrev pub invariant-loop-done : goal.invariant-loop-done
invariant-loop-done l = l.least ≡ missing_broker (drop (length l.ids - l.done) l.ids) l.image
