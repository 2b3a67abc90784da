use Rattle.std.proofs.Common.{◌+ℤ◌, ◌∙◌, pos, subst, w64, rules}
use Rattle.std.proofs.lemmas.Int.{to_z-of_z}
use Rattle.std.specs.Int.RustNames.{FitsSigned}
use Rattle.kz_tree_store.proofs.Fits.{begin_room, begin_fits, begin_fits_as}
use Rattle.kz_tree_store.proofs.txns.begin_txn.Goals as goal

pub next_zxid-requires : goal.next_zxid-requires
next_zxid-requires c = begin_room c.args.tree.now c.args.session c.requires.taken.0 c.requires.taken.1

pub returns-clause-fits : goal.returns-clause-fits
returns-clause-fits c =
    let t = c.args.tree.now in
    let made : FitsSigned w64 c.next_zxid.result = search rules in
    let fits = subst (FitsSigned w64) c.next_zxid.ensures made in
    begin_fits_as _ (t.zxid +ℤ pos 1) _ c.args.session (to_z-of_z w64 c.next_zxid.result made ∙ c.next_zxid.ensures) (to_z-of_z w64 c.args.session c.ranges.session)
    (begin_fits (t.zxid +ℤ pos 1) c.args.session fits c.ranges.session c.requires.positive)
