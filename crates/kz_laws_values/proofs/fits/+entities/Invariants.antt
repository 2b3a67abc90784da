use Rattle.std.proofs.Common.{length}
use Rattle.kz_laws_values.proofs.fits.+entities.Given as goal

abbrev pub decreases-entities : goal.decreases-entities
decreases-entities l = length l.items.now
