-- What a driver has still to write: operations, and what is recorded with the last of them.
use Rattle.std.specs.Prelude.{List}
use Rattle.kz_types.specs.declared.tree.Op.{Op}
use Rattle.kz_types.specs.declared.machine.Recorded.{Recorded}

pub record Remainder : Type 0 where
  pub ops : List Op
  pub target : Recorded
