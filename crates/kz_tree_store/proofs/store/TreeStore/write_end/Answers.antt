use Rattle.std.proofs.Common.{◌≡◌, false, Some, refl, sym, ap, ◌∙◌, subst, w64, rules}
use Rattle.std.proofs.lemmas.Int.{to_z-of_z}
use Rattle.std.specs.Int.RustNames.{FitsSigned}
use Rattle.kz_spec_data.specs.declared.files.Txn.TheVariants.{LoadEnd}
use Rattle.kz_journal.specs.Held.{disk_of}
use Rattle.kz_spec_data.specs.Requests.{Disk}
use Rattle.kz_tree_store.specs.Opened.{Known, IsTreeFile}
use Rattle.kz_tree_store.proofs.Makes.{end_written, end_left, load_positive}
use Rattle.kz_tree_store.proofs.store.TreeStore.write_end.Goals as goal

pub invariant_of-self : goal.invariant_of-self
invariant_of-self g c =
    let told = g.D.Disk.told in
    let s = c.args.self.now in
    let tree = c.args.tree in
    let k : Known = record { tree = s.tree; fresh = s.fresh; loaded = Some tree.rows } in
    let w = c.in-Ok-write_change.ensures in
    let fits : FitsSigned w64 c.last_zxid.result = search rules in
    let txn : c.in-Ok.txn ≡ LoadEnd tree.zxid tree.sessions = c.in-Ok.ensures.txn ∙ ap (λ z. LoadEnd z c.sessions.result.now) (to_z-of_z w64 c.last_zxid.result fits ∙ c.last_zxid.ensures) ∙ ap (LoadEnd tree.zxid) c.sessions.ensures in
    record {
      positive = load_positive tree.zxid tree.sessions tree.rows tree c.requires.rules refl;
      letter = c.write_change.ensures.kept.0;
      down_is = s.down_is ∙ sym (ap (λ (d : Disk). d.down) w.disk.2);
      ended = λ still. c.write_change.ensures.kept.1;
      same = λ still file here.
          subst (λ l. IsTreeFile file (record { tree = tree; fresh = false; loaded = l })) (sym c.requires.unloaded)
          (end_written c.in-Ok.txn k tree.zxid tree.sessions tree.rows tree (told (disk_of s.journal)) (told (disk_of c.write_change.new.journal)) c.write_change.ensures.told c.requires.under_way w.written refl c.requires.rules txn refl file here);
    }

pub returns-in-Err-Failed-clause-stop : goal.returns-in-Err-Failed-clause-stop
returns-in-Err-Failed-clause-stop g c = λ failed.
    let told = g.D.Disk.told in
    let s = c.args.self.now in
    let tree = c.args.tree in
    let k : Known = record { tree = s.tree; fresh = s.fresh; loaded = Some tree.rows } in
    let fits : FitsSigned w64 c.last_zxid.result = search rules in
    let txn : c.in-Ok.txn ≡ LoadEnd tree.zxid tree.sessions = c.in-Ok.ensures.txn ∙ ap (λ z. LoadEnd z c.sessions.result.now) (to_z-of_z w64 c.last_zxid.result fits ∙ c.last_zxid.ensures) ∙ ap (LoadEnd tree.zxid) c.sessions.ensures in
    let stop = rw c.in-Err-Failed.field-0-is at c.in-Err-Failed.ensures.stop in
    end_left c.in-Ok.txn k tree.zxid tree.sessions tree.rows (told (disk_of s.journal)) (told (disk_of c.write_change.new.journal)) (g.D.Disk.may_leave (disk_of c.write_change.new.journal)) c.write_change.ensures.told c.requires.under_way (stop refl) refl c.requires.rules txn
