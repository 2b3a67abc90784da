use Rattle.std.proofs.Common.{◌≡◌, ◌++◌, length}
use Rattle.std.specs.Vec.Iter.{into_iter_items, into_iter_len}
use Rattle.kz_spec_data.specs.Log.{entries, last_end, last_epoch}
use Rattle.kz_log.specs.Building.{IsBuiltFrom}
use Rattle.kz_log.proofs.builder.Builder.take_all.Given as goal

abbrev pub invariant-loop-batch : goal.invariant-loop-batch
invariant-loop-batch l = (l.yielded ++ into_iter_items l.batch-iterator ≡ l.fn.batches.items)
    × (into_iter_len l.batch-iterator ≡ length (into_iter_items l.batch-iterator))
    × IsBuiltFrom (entries l.yielded) (last_end l.fn.self.position l.yielded) (last_epoch l.fn.self.epoch l.yielded) l.fn.self l.self
