use Rattle.std.proofs.Common.{◌≡◌, ◌++◌, drop, take, length, map}
use Rattle.kz_verdict.specs.Agreement.{marked_by}
use Rattle.kz_verdict.proofs.comparison.mark_each.Given as goal

abbrev pub invariant-loop-at : goal.invariant-loop-at
invariant-loop-at l =
    (l.found.items ≡ map (marked_by l.end l.area l.rendering) (take l.at l.fn.found.items) ++ drop l.at l.fn.found.items)
    × (length l.found.items ≡ length l.fn.found.items)
