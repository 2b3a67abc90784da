use Rattle.std.proofs.Common.{◌≡◌, ◌∙◌, Some, ap, sym, subst, w32, Ok, Err}
use Rattle.std.proofs.lemmas.Int.{to_z-of_z}
use mir.Val.{SFits}
use Rattle.std.specs.Prelude.{option_map}
use Rattle.std.specs.Ordering.{int_cmp}
use Rattle.kz_types.specs.declared.image.PartitionEntry.{PartitionEntry}
use Rattle.kz_spec_data.specs.Metadata.{number_of_partition}
use Rattle.kz_types.specs.Spot.{IsSpot}
use Rattle.kz_types.proofs.Order.{int_order}
use Rattle.kz_types.proofs.Spot.{find_by_spot, find_by_gap}
use Rattle.kz_image.proofs.topic.partition_at.Goals as goal

pub returns-in-Ok : goal.returns-in-Ok
returns-in-Ok c =
    let fits : SFits w32 c.args.number = c.ranges.number in
    let spot = subst (λ k. IsSpot int_cmp number_of_partition k c.args.partitions.now (Ok c.in-Ok.place)) (to_z-of_z w32 c.args.number fits) c.in-Ok.ensures in
    ap (λ (x : PartitionEntry). Some x.row) (c.get.ensures ∙ c.index-partitions-place.is) ∙ sym (ap (option_map (λ (x : PartitionEntry). x.row)) (find_by_spot int_order number_of_partition c.args.number c.args.partitions.now c.in-Ok.place c.index-partitions-place.result c.requires spot))

pub returns-in-Err : goal.returns-in-Err
returns-in-Err c =
    let fits : SFits w32 c.args.number = c.ranges.number in
    let spot = subst (λ k. IsSpot int_cmp number_of_partition k c.args.partitions.now (Err c.in-Err.field-0)) (to_z-of_z w32 c.args.number fits) c.in-Err.ensures in
    sym (ap (option_map (λ (x : PartitionEntry). x.row)) (find_by_gap int_order number_of_partition c.args.number c.args.partitions.now c.in-Err.field-0 spot))
