use Rattle.std.proofs.Common.{◌≡◌, ◌≤◌, ◌-◌, ◌++◌, drop, length}
use Rattle.kz_types.specs.Paths.{bytes_of_part}
use Rattle.kz_path.proofs.names.unescape.Given as goal

abbrev pub invariant-loop-at : goal.invariant-loop-at
invariant-loop-at l = record { inside : l.at ≤ length l.part; left : l.bytes.items ++ bytes_of_part (drop l.at l.part) ≡ bytes_of_part l.part }

abbrev pub decreases-loop-at : goal.decreases-loop-at
decreases-loop-at l = length l.part - l.at
