use Rattle.kz_spec_data.specs.Forms.{AllFit}
use Rattle.kz_tree_store.specs.Payloads.{IsRowHeld}
use Rattle.kz_tree_store.proofs.all_rows.are_all_held.Given as goal

abbrev pub invariant-loop-row : goal.invariant-loop-row
invariant-loop-row l = AllFit IsRowHeld l.row-iterator → AllFit IsRowHeld l.fn.check.rows
