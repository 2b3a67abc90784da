use Rattle.std.proofs.Common.{length}
use Rattle.kz_laws_values.proofs.fits.+in_ranges.Given as goal

abbrev pub decreases-in_ranges : goal.decreases-in_ranges
decreases-in_ranges l = length l.numbers.now
