use Rattle.std.proofs.Common.{◌≡◌, ◌∙◌, ap, sym, filter, w64}
use Rattle.std.proofs.lemmas.Int.{to_z-of_z}
use Rattle.std.proofs.lemmas.Result.{IfOk-weaker}
use Rattle.kz_spec_data.specs.Log.{image_at, begins_after, snapshot}
use Rattle.kz_laws_machine.proofs.Allowed.{empty_there}
use Rattle.kz_log.proofs.Snapshots.{based}
use Rattle.kz_log.proofs.rows.LogRows.cut.Goals as goal

pub with_base-requires-clause-empty : goal.with_base-requires-clause-empty
with_base-requires-clause-empty c = λ is.
    let at = to_z-of_z w64 c.args.offset c.ranges.offset in
    c.in_ok-image.ensures ∙ ap (image_at c.args.self.now) at ∙ empty_there c.args.self.now c.args.offset c.is_log.ensures c.requires (sym at ∙ is)

pub returns-clause-cut : goal.returns-clause-cut
returns-clause-cut c =
    let l = c.args.self.now in
    let at = to_z-of_z w64 c.args.offset c.ranges.offset in
    IfOk-weaker c.with_base.result _ (λ rows. rows ≡ snapshot l c.args.offset)
    (λ rows is. is ∙ ap (λ o. based l o c.in_ok-image.image (filter (begins_after o) l.batches)) at ∙ ap (λ i. based l c.args.offset i (filter (begins_after c.args.offset) l.batches)) (c.in_ok-image.ensures ∙ ap (image_at l) at))
    c.with_base.ensures.base
