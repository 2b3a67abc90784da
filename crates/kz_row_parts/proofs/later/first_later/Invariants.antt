use Rattle.std.proofs.Common.{◌≡◌, drop}
use Rattle.kz_row_parts.proofs.LaterLemmas.{first_in}
use Rattle.kz_row_parts.proofs.later.first_later.Given as goal

abbrev pub invariant-loop-row : goal.invariant-loop-row
invariant-loop-row l = first_in l.zxid (drop l.row-index l.rows) ≡ first_in l.zxid l.rows
