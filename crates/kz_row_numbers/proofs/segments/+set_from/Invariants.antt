use Rattle.std.proofs.Common.{length}
use Rattle.kz_row_numbers.proofs.segments.+set_from.Given as goal

abbrev pub decreases-set_from : goal.decreases-set_from
decreases-set_from l = length l.levels.now
