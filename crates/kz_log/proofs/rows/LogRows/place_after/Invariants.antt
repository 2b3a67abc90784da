use Rattle.std.proofs.Common.{◌≡◌, ◌≤◌, drop, filter, length}
use Rattle.kz_spec_data.specs.Log.{begins_after}
use Rattle.kz_log.proofs.rows.LogRows.place_after.Given as goal

abbrev pub invariant-loop-place : goal.invariant-loop-place
invariant-loop-place l = record {
  low : l.place ≤ length l.self-inside.batches.items;
  following : drop l.place l.self-inside.batches.items ≡ filter (begins_after l.after) (drop l.place l.self-inside.batches.items);
}

abbrev pub decreases-loop-place : goal.decreases-loop-place
decreases-loop-place l = l.place
