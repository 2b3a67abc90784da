use Rattle.std.proofs.Common.{◌≡◌, take}
use Rattle.kz_row_numbers.specs.Levels.{pairs}
use Rattle.kz_row_numbers.proofs.level.Level.above.Given as goal

abbrev pub invariant-loop-place : goal.invariant-loop-place
invariant-loop-place l = l.numbers.items ≡ take l.place (pairs l.self)
