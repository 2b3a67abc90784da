use Rattle.std.proofs.Common.{Ok, sym, ap, ◌∙◌}
use Rattle.kz_journal.specs.Held.{unread}
use Rattle.kz_tree_store.specs.Held.{stored}
use Rattle.kz_tree_store.proofs.Reading.{read_more, read_whole, known_whole}
use Rattle.kz_tree_store.proofs.open.read_frames.Goals as goal

pub frames-preserved : goal.frames-preserved
frames-preserved g c =
    let inv = c.frames.invariant in
    record {
      up = c.in-Ok-true.ensures.cause.0;
      letter = c.read_frame.ensures.letter;
      positive = c.in-Ok-true.ensures.positive;
      faults = c.in-Ok-true.ensures.cause.1 ∙ inv.faults;
      told = c.read_frame.ensures.told ∙ inv.told;
      same = λ file here. let step = rw c.in-Ok-true.field-0-test at (c.in-Ok-true.ensures.answer file (inv.same file here)) in step.0;
      read = λ file here.
          let step = rw c.in-Ok-true.field-0-test at (c.in-Ok-true.ensures.answer file (inv.same file here)) in
          read_more (stored c.frames.held) (stored c.read_frame.new.held) (unread c.args.journal.now file) (unread c.frames.journal file) (unread c.read_frame.new.journal file) (inv.read file here) step.1;
    }

pub returns-in-Ok-false-clause-answer : goal.returns-in-Ok-false-clause-answer
returns-in-Ok-false-clause-answer g c = λ file here first.
    let inv = c.frames.invariant in
    let end = rw c.in-Ok-false.field-0-test at (c.in-Ok-false.ensures.answer file (inv.same file here)) in
    let whole = read_whole (stored c.frames.held) file (unread c.args.journal.now file) (unread c.frames.journal file) first (inv.read file here) end.1 in
    (end.0, known_whole (stored c.read_frame.new.held) c.into_parts.result.0 c.into_parts.result.1 file (whole ∙ ap Ok (sym end.2)) c.into_parts.ensures.tree c.into_parts.ensures.fresh)

pub returns-in-Ok-false-clause-grown : goal.returns-in-Ok-false-clause-grown
returns-in-Ok-false-clause-grown g c = λ file new is_file is_new. c.in-Ok-false.ensures.grown file new (c.frames.invariant.same file is_file) is_new
