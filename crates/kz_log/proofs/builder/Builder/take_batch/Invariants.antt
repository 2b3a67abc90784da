use Rattle.std.proofs.Common.{◌≡◌, ◌++◌, ◌+ℤ◌, pos, length}
use Rattle.std.specs.Vec.Iter.{into_iter_items, into_iter_len}
use Rattle.kz_spec_data.specs.Log.{entries_at_offsets}
use Rattle.kz_log.specs.Building.{IsBuiltFrom}
use Rattle.kz_log.proofs.builder.Builder.take_batch.Given as goal

abbrev pub invariant-loop-item : goal.invariant-loop-item
invariant-loop-item l = (l.yielded ++ into_iter_items l.item-iterator ≡ l.fn.batch.items)
    × (into_iter_len l.item-iterator ≡ length (into_iter_items l.item-iterator))
    × IsBuiltFrom (entries_at_offsets l.fn.batch.first l.fn.batch.epoch l.yielded) (l.fn.self.position +ℤ pos (length l.yielded)) l.fn.batch.epoch l.fn.self l.self
