use Rattle.std.proofs.Common.{length}
use Rattle.kz_row_numbers.proofs.segments.+levels_from.Given as goal

abbrev pub decreases-levels_from : goal.decreases-levels_from
decreases-levels_from l = length l.level
