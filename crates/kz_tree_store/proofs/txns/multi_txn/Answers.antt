use Rattle.std.proofs.Common.{◌+ℤ◌, ◌∙◌, pos, subst, w64, rules}
use Rattle.std.proofs.lemmas.Int.{to_z-of_z}
use Rattle.std.specs.Int.RustNames.{FitsSigned}
use Rattle.kz_tree_store.proofs.Fits.{multi_room, multi_fits, multi_fits_as}
use Rattle.kz_tree_store.proofs.txns.multi_txn.Goals as goal

pub next_zxid-requires : goal.next_zxid-requires
next_zxid-requires c = multi_room c.args.tree.now c.args.ops.now c.requires.taken.0 c.requires.taken.1

pub returns-clause-fits : goal.returns-clause-fits
returns-clause-fits c =
    let t = c.args.tree.now in
    let ops = c.args.ops.now in
    let made : FitsSigned w64 c.next_zxid.result = search rules in
    let fits = subst (FitsSigned w64) c.next_zxid.ensures made in
    multi_fits_as _ (t.zxid +ℤ pos 1) _ ops (to_z-of_z w64 c.next_zxid.result made ∙ c.next_zxid.ensures) (c.from_vec.ensures ∙ c.in_ok-copies.ensures)
    (multi_fits t ops c.requires.taken.0 (t.zxid +ℤ pos 1) fits c.requires.positive c.are_ops_held.ensures c.requires.taken.1)
