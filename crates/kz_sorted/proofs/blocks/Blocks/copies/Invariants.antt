use Rattle.std.proofs.Common.{◌≡◌, ◌++◌}
use Rattle.kz_sorted.proofs.blocks.Blocks.copies.Given as goal

abbrev pub invariant-loop-item : goal.invariant-loop-item
invariant-loop-item g l = l.copies.items ++ l.item-iterator ≡ l.fn.self
