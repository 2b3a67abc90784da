use Rattle.std.proofs.Common.{◌≡◌, true, sym, ap, ◌∙◌, rules}
use Rattle.kz_log_frames.specs.Pieces.{image_of_rows}
use Rattle.kz_log_frames.proofs.Cutting.{may_be, nothing_there}
use Rattle.kz_log_frames.proofs.snapshot.cut_by.Goals as goal

pub with_base-requires-clause-may : goal.with_base-requires-clause-may
with_base-requires-clause-may c =
    let allowed : c.in-Ok.allowed ≡ true = search rules in
    may_be c.args.log.now _ _ c.args.found.now.rows.items c.args.found.now.fits c.args.rest (sym c.in-Ok.ensures ∙ allowed)

pub with_base-requires-clause-empty : goal.with_base-requires-clause-empty
with_base-requires-clause-empty c = λ none.
    let allowed : c.in-Ok.allowed ≡ true = search rules in
    c.in-Ok-from_rows.ensures ∙ ap image_of_rows c.deref.ensures.value ∙ nothing_there c.args.log.now _ _ c.args.found.now.rows.items c.args.found.now.fits c.args.rest (sym c.in-Ok.ensures ∙ allowed) none
