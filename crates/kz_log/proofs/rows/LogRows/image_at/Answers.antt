use Rattle.std.proofs.Common.{◌≡◌, ◌∙◌, ap, sym, to_z, of_z, w64, false, rules, arith}
use Rattle.std.proofs.lemmas.Int.{ints, to_z-of_z}
use Rattle.std.proofs.lemmas.Result.{IfOk-weaker}
use mir.Val.{SFits}
use Rattle.kz_spec_data.specs.Log.{Log, record_count, image_at}
use Rattle.kz_log.specs.Reading.{entries_after, image_after}
use Rattle.kz_log.proofs.Batches.{end_high, image_at_is}
use Rattle.kz_log.proofs.rows.LogRows.image_at.Goals as goal

pub later_image-requires : goal.later_image-requires
later_image-requires c =
    let fits : SFits w64 c.self.inside.base = search rules in
    let base = to_z-of_z w64 c.self.inside.base fits in
    let count = ap record_count c.deref.ensures.value in
    let high = end_high _ c.self.invariant.0 in
    omega (arith, ints, base, count, high)

pub returns : goal.returns
returns c =
    let at = c.args.offset in
    let fits : SFits w64 c.self.inside.base = search rules in
    let image = c.self.inside.base_image in
    let rows = c.self.inside.batches.items in
    let near = to_z w64 (of_z w64 at) in
    let from = to_z w64 (of_z w64 c.self.inside.base) in
    IfOk-weaker c.later_image.result _ (λ made. made ≡ image_at c.args.self.now at)
    (λ made h.
    h ∙ ap (λ bs. image_after near false (entries_after from bs) image) c.deref.ensures.value ∙ ap (λ o. image_after near false (entries_after o rows) image) (to_z-of_z w64 c.self.inside.base fits)
    ∙ ap (λ o. image_after o false (entries_after c.self.inside.base rows) image) (to_z-of_z w64 at c.ranges.offset)
    ∙ sym (image_at_is _ c.self.invariant.0 at) ∙ ap (λ (l : Log). image_at l at) c.self.view_is)
    c.later_image.ensures
