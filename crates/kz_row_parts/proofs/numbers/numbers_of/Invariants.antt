use Rattle.std.proofs.Common.{◌≡◌, take}
use Rattle.kz_row_parts.specs.Numbered.{numbers_of}
use Rattle.kz_row_parts.proofs.numbers.numbers_of.Given as goal

abbrev pub invariant-loop-row : goal.invariant-loop-row
invariant-loop-row l = l.numbers ≡ numbers_of (take l.row-index l.rows)
