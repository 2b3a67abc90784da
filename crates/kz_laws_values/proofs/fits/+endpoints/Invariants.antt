use Rattle.std.proofs.Common.{length}
use Rattle.kz_laws_values.proofs.fits.+endpoints.Given as goal

abbrev pub decreases-endpoints : goal.decreases-endpoints
decreases-endpoints l = length l.items.now
