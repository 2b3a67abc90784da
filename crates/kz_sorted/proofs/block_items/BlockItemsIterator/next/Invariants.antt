use Rattle.std.proofs.Common.{◌≡◌, ◌++◌, length}
use Rattle.kz_sorted.specs.BlockLists.{items_of}
use Rattle.kz_sorted.proofs.block_items.BlockItemsIterator.next.Given as goal

abbrev pub invariant-loop-self : goal.invariant-loop-self
invariant-loop-self g l = l.self-inside.items.now ++ items_of l.self-inside.blocks.now ≡ l.fn.self

abbrev pub decreases-loop-self : goal.decreases-loop-self
decreases-loop-self g l = length l.self-inside.blocks.now
