use Rattle.std.proofs.Common.{◌≡◌, ◌-◌, ℕ, List, length}
use Rattle.kz_spec_data.specs.Forms.{items_at}
use Rattle.kz_spec_data.specs.Batches.{Content, entry, is_numbered}
use Rattle.kz_batch.proofs.Loops.{with_front}
use Rattle.kz_batch.proofs.records.read_records.Given as goal

abbrev pub invariant-loop-i : goal.invariant-loop-i
invariant-loop-i l = (front : List Content) × (with_front front (items_at entry.read (l.count - l.i) l.reader) ≡ items_at entry.read l.count l.fn.reader) × (length front ≡ l.i) × (l.ordered ≡ is_numbered 0 front)
