use Rattle.std.proofs.Common.{◌≡◌, ◌++◌, List, length, refl, sym, ap, ◌∙◌, arith}
use Rattle.kz_types.specs.declared.tree.Row.{Row}
use Rattle.kz_spec_data.specs.declared.files.Txn.{Txn}
use Rattle.kz_journal.specs.Held.{disk_of}
use Rattle.kz_spec_data.specs.Requests.{Disk}
use Rattle.kz_tree_store.specs.Stores.{known}
use Rattle.kz_tree_store.specs.LoadCalls.{rows_so_far, rows_of_txn}
use Rattle.kz_tree_store.proofs.Makes.{rows_written, rows_left, none_is}
use Rattle.kz_tree_store.proofs.store.TreeStore.load_rows.Goals as goal

pub joined-requires : goal.joined-requires
joined-requires g c =
    let rows : length (rows_of_txn c.in-Ok.txn) ≡ length c.args.rows.now = ap (λ (t : Txn). length (rows_of_txn t)) c.in-Ok.ensures.txn in
    omega (arith, c.in-Ok-with_room.ensures.room, rows)

pub invariant_of-self-in-Ok-write_change : goal.invariant_of-self-in-Ok-write_change
invariant_of-self-in-Ok-write_change g c =
    let told = g.D.Disk.told in
    let s = c.args.self.now in
    let up = sym s.down_is ∙ c.requires.up in
    let w = c.in-Ok-write_change.ensures in
    let all : c.joined.result ≡ rows_so_far c.take-before.result ++ c.args.rows.now =
    c.joined.ensures ∙ ap (λ (rows : List Row). rows ++ rows_of_txn c.in-Ok.txn) c.in-Ok-with_room.ensures.rows ∙ ap (λ (t : Txn). rows_so_far c.take-before.result ++ rows_of_txn t) c.in-Ok.ensures.txn in
    record {
      positive = s.positive;
      letter = c.write_change.ensures.kept.0;
      down_is = s.down_is ∙ sym (ap (λ (d : Disk). d.down) w.disk.2);
      ended = λ still. c.write_change.ensures.kept.1;
      same = λ still file here.
          rows_written c.in-Ok.txn (known s) c.is_none-first.result c.args.rows.now c.joined.result c.take-before.result (told (disk_of s.journal)) (told (disk_of c.write_change.new.journal)) c.write_change.ensures.told (s.same up) w.written c.requires.fresh c.in-Ok.ensures.txn (none_is s.loaded c.is_none-first.result c.is_none-first.ensures) c.take-before.ensures.value all file here;
    }

pub returns-in-Err-Failed-clause-stop : goal.returns-in-Err-Failed-clause-stop
returns-in-Err-Failed-clause-stop g c = λ failed.
    let told = g.D.Disk.told in
    let s = c.args.self.now in
    let up = sym s.down_is ∙ c.requires.up in
    let stop = rw c.in-Err-Failed.field-0-is at c.in-Err-Failed.ensures.stop in
    rows_left c.in-Ok.txn (known s) c.is_none-first.result c.args.rows.now (told (disk_of s.journal)) (told (disk_of c.write_change.new.journal)) (g.D.Disk.may_leave (disk_of c.write_change.new.journal)) c.write_change.ensures.told (s.same up) (stop refl) c.requires.fresh c.in-Ok.ensures.txn (none_is s.loaded c.is_none-first.result c.is_none-first.ensures)
