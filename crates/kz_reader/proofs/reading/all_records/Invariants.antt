use Rattle.std.proofs.Common.{◌≤◌, ◌-◌, length}
use Rattle.kz_reader.specs.Faults.{IsReading}
use Rattle.kz_reader.proofs.reading.all_records.Given as goal

abbrev pub decreases-loop-reading : goal.decreases-loop-reading
decreases-loop-reading l = length l.rows - l.reading.seen.done

abbrev pub invariant-loop-reading : goal.invariant-loop-reading
invariant-loop-reading l = IsReading l.rows l.reading × (l.reading.seen.done ≤ length l.rows)
