use Rattle.std.proofs.Common.{take}
use Rattle.std.specs.List.{All}
use Rattle.kz_laws_znodes.specs.Writable.{FitsInt}
use Rattle.kz_laws_znodes.proofs.held_writable.ints.Given as goal

abbrev pub invariant-loop-item : goal.invariant-loop-item
invariant-loop-item l = All FitsInt (take l.item-index l.numbers)
