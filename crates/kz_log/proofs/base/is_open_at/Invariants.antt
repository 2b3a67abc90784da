use Rattle.std.proofs.Common.{◌≡◌, ◌+ℤ◌, ◌≤ℤ◌, pos, false}
use Rattle.kz_types.specs.declared.limits.TheConstants.{MAX_LONG}
use Rattle.kz_log.specs.Reading.{entries_after, unread_entries, unread_count, is_open_by}
use Rattle.kz_log.proofs.base.is_open_at.Given as goal

abbrev pub invariant-loop-here : goal.invariant-loop-here
invariant-loop-here l = record {
  same : is_open_by l.at l.inside (unread_entries l.here.position l.here.epoch l.here.items.now l.here.rest.now) ≡ is_open_by l.at false (entries_after l.base l.batches);
  room : (l.here.position +ℤ pos (unread_count l.here.items.now l.here.rest.now)) ≤ℤ MAX_LONG;
}

abbrev pub decreases-loop-here : goal.decreases-loop-here
decreases-loop-here l = unread_count l.here.items.now l.here.rest.now
