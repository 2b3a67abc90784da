use Rattle.std.proofs.Common.{take}
use Rattle.kz_spec_data.specs.Forms.{AllFit}
use Rattle.kz_tree_store.specs.Payloads.{IsOpHeld}
use Rattle.kz_tree_store.proofs.payload.are_ops_held.Given as goal

abbrev pub invariant-loop-op : goal.invariant-loop-op
invariant-loop-op l = AllFit IsOpHeld (take l.op-index l.ops)
