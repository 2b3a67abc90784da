use Rattle.std.proofs.Common.{length}
use Rattle.kz_laws_lines.proofs.held.+records.Given as goal

abbrev pub decreases-records : goal.decreases-records
decreases-records l = length l.items.now
