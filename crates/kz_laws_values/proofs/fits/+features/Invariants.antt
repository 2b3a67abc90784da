use Rattle.std.proofs.Common.{length}
use Rattle.kz_laws_values.proofs.fits.+features.Given as goal

abbrev pub decreases-features : goal.decreases-features
decreases-features l = length l.items.now
