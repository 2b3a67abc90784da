use Rattle.std.proofs.Common.{take}
use Rattle.kz_spec_data.specs.Forms.{AllFit}
use Rattle.kz_tree_store.specs.Payloads.{IsRowHeld}
use Rattle.kz_tree_store.proofs.payload.are_rows_held.Given as goal

abbrev pub invariant-loop-row : goal.invariant-loop-row
invariant-loop-row l = AllFit IsRowHeld (take l.row-index l.rows)
