use Rattle.std.proofs.Common.{◌≡◌, ◌-◌, ℕ, List, Option}
use Rattle.kz_spec_data.specs.Forms.{items_at}
use Rattle.kz_spec_data.specs.Batches.{header}
use Rattle.kz_batch.proofs.Loops.{with_front}
use Rattle.kz_batch.proofs.records.skip_so_many.Given as goal

abbrev pub invariant-loop : goal.invariant-loop
invariant-loop l = (front : List (List ℕ × Option (List ℕ))) × (with_front front (items_at header.read (l.count - l.counter) l.reader) ≡ items_at header.read l.count l.fn.reader)
