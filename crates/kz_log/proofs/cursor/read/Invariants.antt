use Rattle.std.proofs.Common.{◌≡◌, length}
use Rattle.kz_log.specs.Reading.{unread_entries, unread_count}
use Rattle.kz_log.proofs.cursor.read.Given as goal

abbrev pub invariant-loop-items : goal.invariant-loop-items
invariant-loop-items l = record {
  same : unread_entries l.cursor.position l.cursor.epoch l.cursor.items.now l.cursor.rest.now ≡ unread_entries l.cursor.position l.epoch l.items l.rest;
  room : unread_count l.cursor.items.now l.cursor.rest.now ≡ unread_count l.items l.rest;
}

abbrev pub decreases-loop-items : goal.decreases-loop-items
decreases-loop-items l = length l.rest
