use Rattle.std.proofs.Common.{◌≡◌, ◌∙◌, sym, ap, subst, w32, Ok, Err}
use Rattle.std.proofs.lemmas.Int.{to_z-of_z}
use mir.Val.{SFits}
use Rattle.std.specs.Ordering.{int_cmp}
use Rattle.kz_spec_data.specs.Metadata.{number_of_partition}
use Rattle.kz_types.specs.Spot.{IsSpot}
use Rattle.kz_types.proofs.Order.{int_order}
use Rattle.kz_types.proofs.Spot.{put_by_spot, put_by_gap}
use Rattle.kz_image.proofs.topic.place_partition.Goals as goal

pub returns-in-Ok-clause-ok : goal.returns-in-Ok-clause-ok
returns-in-Ok-clause-ok c =
    let fits : SFits w32 c.args.number = c.ranges.number in
    let same = to_z-of_z w32 c.args.number fits ∙ sym c.requires.number in
    let spot = subst (λ k. IsSpot int_cmp number_of_partition k c.args.partitions.now.items (Ok c.in-Ok.place)) same (rw c.deref.ensures.value at c.in-Ok.ensures) in
    sym (put_by_spot int_order number_of_partition c.args.partition c.args.partitions.now.items c.in-Ok.place c.requires.rises spot)

pub returns-in_ok-insert-in-Err-clause-ok : goal.returns-in_ok-insert-in-Err-clause-ok
returns-in_ok-insert-in-Err-clause-ok c =
    let fits : SFits w32 c.args.number = c.ranges.number in
    let same = to_z-of_z w32 c.args.number fits ∙ sym c.requires.number in
    let spot = subst (λ k. IsSpot int_cmp number_of_partition k c.args.partitions.now.items (Err c.in-Err.place)) same (rw c.deref.ensures.value at c.in-Err.ensures) in
    c.in_ok-insert-in-Err.ensures.items ∙ sym (put_by_gap int_order number_of_partition c.args.partition c.args.partitions.now.items c.in-Err.place spot)
