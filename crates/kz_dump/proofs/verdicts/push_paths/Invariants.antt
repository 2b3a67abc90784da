use Rattle.std.proofs.Common.{◌≡◌, ◌++◌, take}
use Rattle.std.specs.List.{flat_map}
use Rattle.kz_spec_machine.specs.Dumps.{ahead_line}
use Rattle.kz_dump.proofs.verdicts.push_paths.Given as goal

abbrev pub invariant-loop-ahead : goal.invariant-loop-ahead
invariant-loop-ahead l = l.lines.items ≡ l.fn.lines.items ++ flat_map ahead_line (take l.ahead-index l.paths)
