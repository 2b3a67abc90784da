use Rattle.std.proofs.Common.{take}
use Rattle.std.specs.List.{All}
use Rattle.kz_laws_znodes.specs.Writable.{IsEntityWritable}
use Rattle.kz_laws_znodes.proofs.held_writable.entities.Given as goal

abbrev pub invariant-loop-part : goal.invariant-loop-part
invariant-loop-part l = All IsEntityWritable (take l.part-index l.parts)
