use Rattle.std.proofs.Common.{◌≡◌, ◌+ℤ◌, ◌≤ℤ◌, pos}
use Rattle.kz_types.specs.declared.limits.TheConstants.{MAX_LONG}
use Rattle.kz_settle.specs.Settling.{ends_by}
use Rattle.kz_log.specs.Reading.{unread_entries, unread_count}
use Rattle.kz_log.proofs.pass.ends.Given as goal

abbrev pub invariant-loop-here : goal.invariant-loop-here
invariant-loop-here l = record {
  same : ends_by l.at (unread_entries l.here.position l.here.epoch l.here.items.now l.here.rest.now) ≡ ends_by l.at (unread_entries l.cursor.position l.cursor.epoch l.cursor.items.now l.cursor.rest.now);
  room : (l.here.position +ℤ pos (unread_count l.here.items.now l.here.rest.now)) ≤ℤ MAX_LONG;
}

abbrev pub decreases-loop-here : goal.decreases-loop-here
decreases-loop-here l = unread_count l.here.items.now l.here.rest.now
