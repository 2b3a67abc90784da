use Rattle.std.proofs.Common.{arith}
use Rattle.kz_tree_store.specs.Payloads.{IsRowHeld}
use Rattle.kz_tree_store.proofs.Lists.{all_more, all_taken}
use Rattle.kz_tree_store.proofs.payload.are_rows_held.Goals as goal

pub loop-row-preserved : goal.loop-row-preserved
loop-row-preserved c = all_more IsRowHeld c.args.rows.now c.loop-row.row-index c.row-item.result c.loop-row-test.true c.row-item.is c.is_row_held.ensures c.loop-row.invariant

pub returns : goal.returns
returns c = all_taken IsRowHeld c.args.rows.now c.loop-row.row-index (omega arith) c.loop-row.invariant
