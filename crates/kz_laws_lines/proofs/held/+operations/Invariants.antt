use Rattle.std.proofs.Common.{length}
use Rattle.kz_laws_lines.proofs.held.+operations.Given as goal

abbrev pub decreases-operations : goal.decreases-operations
decreases-operations l = length l.items.now
