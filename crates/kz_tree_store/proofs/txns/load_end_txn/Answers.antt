use Rattle.std.proofs.Common.{w64, rules, ◌∙◌}
use Rattle.std.proofs.lemmas.Int.{to_z-of_z}
use Rattle.std.specs.Int.RustNames.{FitsSigned}
use Rattle.kz_tree_store.proofs.Fits.{load_end_fits, load_end_fits_as}
use Rattle.kz_tree_store.proofs.txns.load_end_txn.Goals as goal

pub returns-clause-fits : goal.returns-clause-fits
returns-clause-fits c =
    let zxid = c.args.zxid in
    let sessions = c.args.sessions.now in
    let fits : FitsSigned w64 zxid = search rules in
    load_end_fits_as _ zxid _ sessions (to_z-of_z w64 zxid fits) (c.from_vec.ensures ∙ c.in_ok-copies.ensures) (load_end_fits zxid sessions fits c.requires c.are_sessions_held.ensures)
