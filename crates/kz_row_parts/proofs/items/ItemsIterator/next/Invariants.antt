use Rattle.std.proofs.Common.{◌≡◌, ◌++◌, length}
use Rattle.kz_sorted.specs.BlockLists.{items_of}
use Rattle.kz_row_parts.proofs.items.ItemsIterator.next.Given as goal

abbrev pub invariant-loop-row : goal.invariant-loop-row
invariant-loop-row l = l.self-inside.front ++ items_of l.self-inside.parts.now ≡ l.fn.self

abbrev pub decreases-loop-row : goal.decreases-loop-row
decreases-loop-row l = length l.self-inside.parts.now
