use Rattle.std.proofs.Common.{true, is_none, Some, refl, sym, ap, ◌∙◌, subst}
use Rattle.kz_journal.specs.Held.{disk_of}
use Rattle.kz_spec_data.specs.Requests.{Disk}
use Rattle.kz_spec_data.specs.Frames.{tree_letter, journal_of}
use Rattle.kz_spec_data.specs.TreeFile.{stored_in}
use Rattle.kz_tree_store.specs.Opened.{Known, IsTreeFile}
use Rattle.kz_tree_store.specs.Stores.{known}
use Rattle.kz_tree_store.proofs.Makes.{all_rows_written, known_without, rows_left}
use Rattle.kz_tree_store.proofs.store.TreeStore.write_rows.Goals as goal

pub invariant_of-self : goal.invariant_of-self
invariant_of-self g c =
    let told = g.D.Disk.told in
    let s = c.args.self.now in
    let rows = c.args.check.now.rows in
    let up = sym s.down_is ∙ c.requires.up in
    let w = c.in-Ok.ensures in
    let k : Known = record { tree = s.tree; fresh = s.fresh; loaded = Some rows } in
    record {
      positive = s.positive;
      letter = c.write_all_rows.ensures.kept.0;
      down_is = s.down_is ∙ sym (ap (λ (d : Disk). d.down) w.disk.2);
      ended = λ still. c.write_all_rows.ensures.kept.1;
      same = λ still file here.
          let has = all_rows_written _ (known s) rows (told (disk_of s.journal)) (told (disk_of c.write_all_rows.new.journal)) c.write_all_rows.ensures.told (s.same up) w.written c.requires.fresh refl c.requires.unloaded file here in
          subst (λ l. IsTreeFile file (record { tree = s.tree; fresh = s.fresh; loaded = l })) (sym c.requires.unloaded) (known_without true (stored_in (journal_of tree_letter file)) k has);
    }

pub returns-in-Ok-clause-under_way : goal.returns-in-Ok-clause-under_way
returns-in-Ok-clause-under_way g c =
    let told = g.D.Disk.told in
    let s = c.args.self.now in
    let up = sym s.down_is ∙ c.requires.up in
    let w = c.in-Ok.ensures in
    all_rows_written _ (known s) c.args.check.now.rows (told (disk_of s.journal)) (told (disk_of c.write_all_rows.new.journal)) c.write_all_rows.ensures.told (s.same up) w.written c.requires.fresh refl c.requires.unloaded

pub returns-in-Err-Failed-clause-stop : goal.returns-in-Err-Failed-clause-stop
returns-in-Err-Failed-clause-stop g c = λ failed.
    let told = g.D.Disk.told in
    let s = c.args.self.now in
    let up = sym s.down_is ∙ c.requires.up in
    let stop = rw c.in-Err-Failed.field-0-is at c.in-Err-Failed.ensures.stop in
    rows_left _ (known s) true c.args.check.now.rows (told (disk_of s.journal)) (told (disk_of c.write_all_rows.new.journal)) (g.D.Disk.may_leave (disk_of c.write_all_rows.new.journal)) c.write_all_rows.ensures.told (s.same up) (stop refl) c.requires.fresh refl (sym (ap is_none c.requires.unloaded))
