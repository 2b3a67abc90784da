use Rattle.std.proofs.Common.{◌≡◌, ◌++◌, length}
use Rattle.kz_sorted.specs.BlockLists.{items_of}
use Rattle.kz_sorted.proofs.items.ItemsIterator.next.Given as goal

abbrev pub invariant-loop-item : goal.invariant-loop-item
invariant-loop-item g l = l.self-inside.front ++ items_of l.self-inside.parts.now ≡ l.fn.self

abbrev pub decreases-loop-item : goal.decreases-loop-item
decreases-loop-item g l = length l.self-inside.parts.now
