use Rattle.std.proofs.Common.{◌∙◌}
use Rattle.kz_journal.specs.Held.{disk_of, has_ended, bytes_left, disk_state}
use Rattle.kz_log_store.proofs.Stepping.{next_steps, next_ends, next_cause, stop_keeps}
use Rattle.kz_log_store.proofs.open.read_frame.Goals as goal

pub returns-clause-answer : goal.returns-clause-answer
returns-clause-answer g c = λ file told.
    next_steps c.next-found.result c.take_next.result file c.args.journal.now c.next-found.new.self c.args.log.now c.take_next.new.log (g.D.Disk.told (disk_of c.next-found.new.self)) c.requires.letter
    (c.next-found.ensures.answer file told) c.take_next.ensures

pub returns-clause-letter : goal.returns-clause-letter
returns-clause-letter g c = c.next-found.ensures.letter ∙ c.requires.letter

pub returns-clause-ended : goal.returns-clause-ended
returns-clause-ended g c =
    next_ends c.next-found.result c.take_next.result c.args.log.now c.take_next.new.log (has_ended c.args.journal.now) (has_ended c.next-found.new.self) (bytes_left c.args.journal.now) (bytes_left c.next-found.new.self)
    c.next-found.ensures.ended c.next-found.ensures.fewer c.take_next.ensures

pub returns-clause-cause : goal.returns-clause-cause
returns-clause-cause g c =
    next_cause c.next-found.result c.take_next.result c.args.log.now c.take_next.new.log (disk_state g.D.Disk.faults c.args.journal.now) (disk_state g.D.Disk.faults c.next-found.new.self) (g.D.Disk.last_failed (disk_of c.next-found.new.self))
    c.requires.up c.next-found.ensures.cause c.take_next.ensures

pub returns-clause-stop : goal.returns-clause-stop
returns-clause-stop g c = λ file told few left may. stop_keeps _ file left c.requires.letter (c.next-found.ensures.stop c.requires.up file told few left may)
