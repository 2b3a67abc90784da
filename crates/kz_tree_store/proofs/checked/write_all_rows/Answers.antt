use Rattle.std.proofs.Common.{true, sym, subst}
use Rattle.kz_spec_data.specs.declared.files.Txn.TheVariants.{LoadRows}
use Rattle.kz_tree_store.specs.Changes.{IsPayloadOf}
use Rattle.kz_tree_store.proofs.Written.{has_txn, left_by_txn, disk_by_txn}
use Rattle.kz_tree_store.proofs.checked.write_all_rows.Goals as goal

pub returns-clause-written : goal.returns-clause-written
returns-clause-written g c =
    let txn = LoadRows true c.args.check.now.rows in
    let spells = subst (IsPayloadOf txn) (sym c.deref.ensures.value) c.in-Ok.ensures in
    has_txn c.write_frame.result txn _ c.deref.result.now _ _ _ _ _ _ c.requires.letter spells c.write_frame.ensures.disk c.write_frame.ensures.appended

pub returns-clause-disk : goal.returns-clause-disk
returns-clause-disk g c =
    let txn = LoadRows true c.args.check.now.rows in
    let spells = subst (IsPayloadOf txn) (sym c.deref.ensures.value) c.in-Ok.ensures in
    disk_by_txn c.write_frame.result txn c.deref.result.now _ _ spells c.write_frame.ensures.disk

pub returns-clause-stop : goal.returns-clause-stop
returns-clause-stop g c =
    let txn = LoadRows true c.args.check.now.rows in
    let spells = subst (IsPayloadOf txn) (sym c.deref.ensures.value) c.in-Ok.ensures in
    left_by_txn c.write_frame.result txn _ c.deref.result.now _ _ _ _ _ _ c.requires.letter spells c.write_frame.ensures.disk c.write_frame.ensures.stop
