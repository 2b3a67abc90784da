use Rattle.std.proofs.Common.{◌≡◌, ◌+ℤ◌, ◌≤ℤ◌, pos, is_some, false}
use Rattle.kz_types.specs.declared.limits.TheConstants.{MAX_LONG}
use Rattle.kz_log.specs.Reading.{entries_after, unread_entries, unread_count, Knows, image_after}
use Rattle.kz_log.proofs.pass.later_image.Given as goal

abbrev pub invariant-loop-here : goal.invariant-loop-here
invariant-loop-here l = record {
  same : image_after l.at (is_some l.known) (unread_entries l.here.position l.here.epoch l.here.items.now l.here.rest.now) l.made ≡ image_after l.at false (entries_after l.base l.batches) l.image;
  known : Knows l.at l.known (unread_entries l.here.position l.here.epoch l.here.items.now l.here.rest.now);
  room : (l.here.position +ℤ pos (unread_count l.here.items.now l.here.rest.now)) ≤ℤ MAX_LONG;
}

abbrev pub decreases-loop-here : goal.decreases-loop-here
decreases-loop-here l = unread_count l.here.items.now l.here.rest.now
