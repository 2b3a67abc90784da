use Rattle.std.proofs.Common.{◌≡◌, ◌++◌, map, drop}
use Rattle.kz_spec_data.specs.Tree.{rendered_row}
use Rattle.kz_stages.proofs.sync_kraft_to_zk.push_rendered.Given as goal

abbrev pub invariant-loop-row : goal.invariant-loop-row
invariant-loop-row l = l.made.items ++ map rendered_row (drop l.row-index l.rows) ≡ l.fn.made.items ++ map rendered_row l.rows
