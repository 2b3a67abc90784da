use Rattle.std.proofs.Common.{◌≡◌, ◌++◌, drop}
use Rattle.kz_types.specs.Paths.{part_for_name}
use Rattle.kz_paths.proofs.path_buffer.PathBuffer.push_sanitised.Given as goal

abbrev pub invariant-loop-at : goal.invariant-loop-at
invariant-loop-at l = l.self ++ part_for_name (drop l.at l.name) ≡ l.fn.self ++ part_for_name l.name
