use Rattle.std.proofs.Common.{◌≡◌, ◌+◌, ◌++◌, pos, length}
use Rattle.std.specs.Vec.Iter.{into_iter_items, into_iter_len}
use Rattle.kz_spec_data.specs.SnapshotBatches.{batches_from}
use Rattle.kz_snapshot.specs.Filling.{filled_or_none}
use Rattle.kz_snapshot.proofs.rows.batches_of.Given as goal

abbrev pub invariant-loop-next : goal.invariant-loop-next
invariant-loop-next l = record {
  rows : l.filling.rows.items ++ filled_or_none (pos l.filling.first) l.filling.epoch l.filling.items.items (into_iter_items l.next-iterator) ≡ batches_from (pos 0) l.fn.records.items;
  count : l.filling.first + length l.filling.items.items + length (into_iter_items l.next-iterator) ≡ length l.fn.records.items;
  left : into_iter_len l.next-iterator ≡ length (into_iter_items l.next-iterator);
}
