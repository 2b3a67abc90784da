use Rattle.std.proofs.Common.{◌≡◌, ◌++◌, drop}
use Rattle.kz_types.specs.Paths.{part_for_name}
use Rattle.kz_path.proofs.names.sanitise_bytes.Given as goal

abbrev pub invariant-loop-at : goal.invariant-loop-at
invariant-loop-at l = l.part.items ++ part_for_name (drop l.at l.name) ≡ part_for_name l.name
