use Rattle.std.proofs.Common.{length}
use Rattle.kz_laws_lines.proofs.held.+ids.Given as goal

abbrev pub decreases-ids : goal.decreases-ids
decreases-ids l = length l.items.now
