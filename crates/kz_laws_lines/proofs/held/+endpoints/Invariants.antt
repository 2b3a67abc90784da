use Rattle.std.proofs.Common.{length}
use Rattle.kz_laws_lines.proofs.held.+endpoints.Given as goal

abbrev pub decreases-endpoints : goal.decreases-endpoints
decreases-endpoints l = length l.items.now
