use Rattle.std.proofs.Common.{length}
use Rattle.kz_row_numbers.proofs.segments.+place_of_later.Given as goal

abbrev pub decreases-place_of_later : goal.decreases-place_of_later
decreases-place_of_later l = length l.levels.now
