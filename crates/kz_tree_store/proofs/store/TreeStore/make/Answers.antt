use Rattle.std.proofs.Common.{refl, sym, ap, ◌∙◌, subst}
use Rattle.kz_journal.specs.Held.{disk_of}
use Rattle.kz_spec_data.specs.Tree.{Tree}
use Rattle.kz_spec_data.specs.Requests.{Disk}
use Rattle.kz_tree_store.specs.Held.{ArePositive}
use Rattle.kz_tree_store.specs.Opened.{IsTreeFile}
use Rattle.kz_tree_store.specs.Stores.{known}
use Rattle.kz_tree_store.proofs.Frames.{same_after, left_by_change}
use Rattle.kz_tree_store.proofs.Makes.{changed, tree_makes}
use Rattle.kz_tree_store.proofs.store.TreeStore.make.Goals as goal

pub invariant_of-self : goal.invariant_of-self
invariant_of-self g c =
    let told = g.D.Disk.told in
    let s = c.args.self.now in
    let up = sym s.down_is ∙ c.requires.up in
    let w = c.in-Ok.ensures in
    record {
      positive = subst (λ (t : Tree). ArePositive t.sessions) (sym c.commit.ensures.tree) c.requires.positive;
      letter = c.write_change.ensures.kept.0;
      down_is = s.down_is ∙ sym (ap (λ (d : Disk). d.down) w.disk.2);
      ended = λ now. c.write_change.ensures.kept.1;
      same = λ now file here.
          subst (λ (t : Tree). IsTreeFile file (changed t)) (sym c.commit.ensures.tree)
          (same_after c.args.txn.now (known s) (changed c.args.prepared) (told (disk_of s.journal)) (told (disk_of c.write_change.new.journal)) c.write_change.ensures.told (s.same up) w.written (tree_makes c.args.txn.now (known s) c.args.prepared c.requires.makes) file here);
    }

pub returns-in-Err-Failed-clause-stop : goal.returns-in-Err-Failed-clause-stop
returns-in-Err-Failed-clause-stop g c = λ failed.
    let told = g.D.Disk.told in
    let s = c.args.self.now in
    let up = sym s.down_is ∙ c.requires.up in
    let stop = rw c.in-Err-Failed.field-0-is at c.in-Err-Failed.ensures.stop in
    left_by_change c.args.txn.now (known s) (changed c.args.prepared) (told (disk_of s.journal)) (told (disk_of c.write_change.new.journal)) (g.D.Disk.may_leave (disk_of c.write_change.new.journal)) c.write_change.ensures.told (s.same up) (stop refl)
    (tree_makes c.args.txn.now (known s) c.args.prepared c.requires.makes)
