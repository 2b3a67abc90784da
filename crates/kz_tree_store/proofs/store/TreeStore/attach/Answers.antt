use Rattle.std.proofs.Common.{false, is_some, refl, sym, ap, ◌∙◌, subst}
use Rattle.kz_spec_data.specs.Frames.{tree_letter, journal_of}
use Rattle.kz_spec_data.specs.TreeFile.{stored_in}
use Rattle.kz_journal.specs.Held.{disk_of}
use Rattle.kz_tree_store.specs.Opened.{read_known, tree_known}
use Rattle.kz_tree_store.specs.Stores.{IsUnopened}
use Rattle.kz_tree_store.proofs.Opening.{unopened, unread, still, fresh_known}
use Rattle.kz_tree_store.proofs.store.TreeStore.attach.Goals as goal

pub returns-in-Err-clause-refused : goal.returns-in-Err-clause-refused
returns-in-Err-clause-refused g c =
    let told = g.D.Disk.told in
    subst (λ f. IsUnopened f (told c.args.disk) (told c.in-Err.disk)) (sym c.open_fault.ensures) (unopened c.in-Err.fault (told c.args.disk) (told c.in-Err.disk) c.in-Err.ensures.refused)

pub returns-in-Err-read_frames-clause-refused : goal.returns-in-Err-read_frames-clause-refused
returns-in-Err-read_frames-clause-refused g c =
    let told = g.D.Disk.told in
    let opened = c.in-Ok.ensures.opened in
    subst (λ d. IsUnopened c.in-Err-read_frames.fault (told c.args.disk) (told d)) (sym c.into_disk.ensures)
    (unread c.in-Err-read_frames.fault (told c.args.disk) (told (disk_of c.in-Ok.journal)) (told (disk_of c.read_frames.new.journal)) opened.same
    (λ file here. c.in-Err-read_frames.ensures.answer file here (opened.all file (sym opened.same ∙ here))))

pub invariant_of-result : goal.invariant_of-result
invariant_of-result g c =
    let told = g.D.Disk.told in
    let opened = c.in-Ok.ensures.opened in
    let read = c.in-Ok-read_frames.ensures in
    record {
      positive = read.positive;
      letter = c.read_frames.ensures.letter;
      down_is = sym read.cause.0;
      ended = λ up. read.ended;
      same = λ up file here.
          still (read_known c.in-Ok-read_frames.tree c.in-Ok-read_frames.fresh) (told (disk_of c.in-Ok.journal)) (told (disk_of c.read_frames.new.journal)) c.read_frames.ensures.told
          (λ f t. read.answer f t (opened.all f (sym opened.same ∙ t))) file here;
    }

pub returns-in-Ok-read_frames-clause-opened : goal.returns-in-Ok-read_frames-clause-opened
returns-in-Ok-read_frames-clause-opened g c =
    let opened = c.in-Ok.ensures.opened in
    let read = c.in-Ok-read_frames.ensures in
    let known = read_known c.in-Ok-read_frames.tree c.in-Ok-read_frames.fresh in
    record {
      up = refl;
      unloaded = refl;
      told = c.read_frames.ensures.told ∙ ap is_some opened.same;
      same = λ file here. (read.answer file (opened.same ∙ here) (opened.all file here)).0;
      grown = λ file new here told. read.grown file new (opened.same ∙ here) told;
      tree = λ file here. tree_known false (stored_in (journal_of tree_letter file)) known (read.answer file (opened.same ∙ here) (opened.all file here)).1;
      fresh_is = λ file here. fresh_known false (stored_in (journal_of tree_letter file)) known (read.answer file (opened.same ∙ here) (opened.all file here)).1;
    }
