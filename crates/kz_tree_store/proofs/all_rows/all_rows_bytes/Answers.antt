use Rattle.std.proofs.Common.{true, [], ◌∙◌, arith}
use Rattle.kz_spec_data.specs.declared.files.Txn.TheVariants.{LoadRows}
use Rattle.kz_tree_store.proofs.Fits.{load_rows_fit}
use Rattle.kz_tree_store.proofs.Written.{written_for, too_many, rows_length}
use Rattle.kz_tree_store.proofs.all_rows.all_rows_bytes.Goals as goal

pub returns-then-size : goal.returns-then-size
returns-then-size c =
    let rows = c.args.check.now.rows in
    let size = c.in_ok-payload.ensures ∙ (c.in_ok-size.ensures ∙ rows_length rows) in
    too_many (LoadRows true rows) c.in_ok-payload.payload.items size (omega (arith, size, c.in_ok-size.ensures, rows_length rows))

pub write_rows-requires : goal.write_rows-requires
write_rows-requires c =
    let t = c.args.check.now in
    let same = rows_length t.rows in
    load_rows_fit t.zxid t.sessions [] t.rows true c.are_all_held.ensures.load c.are_all_held.ensures.held (omega (arith, c.in_ok-size.ensures, same))

pub returns : goal.returns
returns c =
    let t = c.args.check.now in
    let same = rows_length t.rows in
    let fits = load_rows_fit t.zxid t.sessions [] t.rows true c.are_all_held.ensures.load c.are_all_held.ensures.held (omega (arith, c.in_ok-size.ensures, same)) in
    written_for (LoadRows true t.rows) c.in_ok-payload-2.payload.items c.in_ok-payload-2.ensures fits c.written_is_read.ensures
