-- The multi of a write, by its operations.
use Rattle.std.specs.Prelude.{true, ℤ, List, [], ◌∷◌, ◌++◌, Option, Some, None}
use Rattle.kz_types.specs.declared.tree.Op.{Op}
use Rattle.kz_types.specs.declared.tree.Op.TheVariants as op
use Rattle.kz_types.specs.declared.machine.Recorded.{Recorded}
use Rattle.kz_spec_data.specs.Control.{epoch_path}
use Rattle.kz_spec_machine.specs.Driver.{record_ops}

-- the operation that records an offset, where one is to be recorded
abbrev pub recording_ops : Option Recorded → List Op
recording_ops None = []
recording_ops (Some target) = record_ops true target

-- The claim still stands; these operations; and an offset is recorded, where they are the last ones. `write_ops` of what
-- remains to be written is this, of its first operations.
abbrev pub ops_of_write : ℤ → List Op → Option Recorded → List Op
ops_of_write claim ops last = op.Check epoch_path claim ∷ (ops ++ recording_ops last)
