use Rattle.std.proofs.Common.{arith}
use Rattle.kz_tree_store.specs.Payloads.{IsOpHeld}
use Rattle.kz_tree_store.proofs.Lists.{all_more, all_taken}
use Rattle.kz_tree_store.proofs.payload.are_ops_held.Goals as goal

pub loop-op-preserved : goal.loop-op-preserved
loop-op-preserved c = all_more IsOpHeld c.args.ops.now c.loop-op.op-index c.op-item.result c.loop-op-test.true c.op-item.is c.is_op_held.ensures c.loop-op.invariant

pub returns : goal.returns
returns c = all_taken IsOpHeld c.args.ops.now c.loop-op.op-index (omega arith) c.loop-op.invariant
