use Rattle.std.proofs.Common.{◌≡◌, true, ℕ, List, Some, Ok, refl, ◌∙◌, subst}
use Rattle.kz_journal.specs.Held.{disk_of, unread}
use Rattle.kz_log_store.specs.Opened.{Steps}
use Rattle.kz_log_store.proofs.Reading.{read_more}
use Rattle.kz_log_store.proofs.Stepping.{file_read}
use Rattle.kz_log_store.proofs.open.read_frames.Goals as goal

pub frames-preserved : goal.frames-preserved
frames-preserved g c =
    let first = c.args.journal.now in
    let now = c.frames.journal in
    let next = c.read_frame.new.journal in
    let told = g.D.Disk.told (disk_of next) in
    let inv = c.frames.invariant in
    let steps : (file : List ℕ) → g.D.Disk.told (disk_of first) ≡ Some file → Steps file (Ok true) c.frames.log c.read_frame.new.log (unread now file) (unread next file) told =
    λ file is. subst (λ b. Steps file (Ok b) c.frames.log c.read_frame.new.log (unread now file) (unread next file) told) c.in-Ok-true.field-0-test (c.in-Ok-true.ensures.answer file (inv.same file is)) in
    record {
      up = c.in-Ok-true.ensures.cause.0;
      letter = c.read_frame.ensures.letter;
      faults = c.in-Ok-true.ensures.cause.1 ∙ inv.faults;
      told = c.read_frame.ensures.told ∙ inv.told;
      same = λ file is. (steps file is).0;
      read = λ file is. read_more c.frames.log c.read_frame.new.log c.frames.fresh (unread first file) (unread now file) (unread next file) (inv.read file is) (steps file is).1;
    }

pub returns-in-Ok-false-clause-answer : goal.returns-in-Ok-false-clause-answer
returns-in-Ok-false-clause-answer g c = λ file told is.
    let first = c.args.journal.now in
    let now = c.frames.journal in
    let next = c.read_frame.new.journal in
    let inv = c.frames.invariant in
    file_read file c.read_frame.new.log c.frames.log c.read_frame.new.log c.frames.fresh (unread first file) (unread now file) (unread next file) (g.D.Disk.told (disk_of next)) refl is (inv.read file told)
    (subst (λ b. Steps file (Ok b) c.frames.log c.read_frame.new.log (unread now file) (unread next file) (g.D.Disk.told (disk_of next))) c.in-Ok-false.field-0-test (c.in-Ok-false.ensures.answer file (inv.same file told)))
