use Rattle.std.proofs.Common.{◌≡◌, ◌++◌, drop}
use Rattle.std.specs.List.{filter_map}
use Rattle.kz_verdict.specs.Agreement.{ahead_of}
use Rattle.kz_verdict.proofs.comparison.all_ahead.Given as goal

abbrev pub invariant-loop-one : goal.invariant-loop-one
invariant-loop-one l = l.paths ++ filter_map ahead_of (drop l.one-index l.found) ≡ filter_map ahead_of l.found
