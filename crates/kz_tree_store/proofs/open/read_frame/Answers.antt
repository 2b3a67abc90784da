use Rattle.std.proofs.Common.{◌≡◌, refl, subst}
use Rattle.kz_spec_data.specs.Frames.{journal_of}
use Rattle.kz_journal.specs.Held.{disk_of, unread}
use Rattle.kz_tree_store.specs.Held.{stored}
use Rattle.kz_tree_store.proofs.Reading.{damaged_at, frame_refused}
use Rattle.kz_tree_store.proofs.Opening.{grown_to, grown_by_none}
use Rattle.kz_tree_store.proofs.open.read_frame.Goals as goal

pub returns-in-Ok-clause-answer : goal.returns-in-Ok-clause-answer
returns-in-Ok-clause-answer g c = λ file here.
    let next = rw c.in-Ok-Some.field-0-is at (c.in-Ok-Some.ensures.answer file here) in
    let frame = c.in-Ok-Some.frame in
    (next.0, record { frame = record { at = frame.at; payload = frame.payload }; was = next.1; makes = c.in-Ok.ensures.frame })

pub returns-in-Ok-Some-clause-answer : goal.returns-in-Ok-Some-clause-answer
returns-in-Ok-Some-clause-answer g c = λ file here.
    let next = rw c.in-Ok-Some.field-0-is at (c.in-Ok-Some.ensures.answer file here) in
    let frame = c.in-Ok-Some.frame in
    frame_refused c.in-Err.fault file (stored c.args.held.now) (stored c.take_frame.new.held) (record { at = frame.at; payload = frame.payload }) (unread c.args.journal.now file) (unread c.next.new.self file) _ next.0 next.1 c.in-Err.ensures.frame

pub returns-in-Ok-None-clause-answer : goal.returns-in-Ok-None-clause-answer
returns-in-Ok-None-clause-answer g c = λ file here.
    let end = rw c.in-Ok-None.field-0-is at (c.in-Ok-None.ensures.answer file here) in
    let new = end.1.new in
    ((new, end.1.is, subst (λ l. journal_of l new ≡ journal_of l file) c.requires.letter end.1.journal), end.0, refl)

pub returns-in-Err-Damaged-clause-answer : goal.returns-in-Err-Damaged-clause-answer
returns-in-Err-Damaged-clause-answer g c = λ file here.
    let end = rw c.in-Err-Damaged.field-0-is at (c.in-Err-Damaged.ensures.answer file here) in
    let damaged = damaged_at (stored c.args.held.now) (unread c.args.journal.now file) c.in-Err-Damaged.at end.1 in
    (end.0, cc (damaged, c.in-Err-Damaged.at-is))

pub returns-in-Err-NoMemory-clause-answer : goal.returns-in-Err-NoMemory-clause-answer
returns-in-Err-NoMemory-clause-answer g c = λ file here.
    let same = rw c.in-Err-NoMemory.field-0-is at (c.in-Err-NoMemory.ensures.answer file here) in
    same.0

pub returns-in-Ok-clause-grown : goal.returns-in-Ok-clause-grown
returns-in-Ok-clause-grown g c = λ file new is_file is_new.
    let next = rw c.in-Ok-Some.field-0-is at (c.in-Ok-Some.ensures.answer file is_file) in
    grown_by_none (g.D.Disk.told (disk_of c.next.new.self)) file new next.0 is_new

pub returns-in-Ok-None-clause-grown : goal.returns-in-Ok-None-clause-grown
returns-in-Ok-None-clause-grown g c = λ file new is_file is_new.
    let end = rw c.in-Ok-None.field-0-is at (c.in-Ok-None.ensures.answer file is_file) in
    grown_to (g.D.Disk.told (disk_of c.next.new.self)) file end.1.new new end.1.is end.1.grown is_new
