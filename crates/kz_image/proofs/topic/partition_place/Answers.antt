use Rattle.std.proofs.Common.{rules, w32, to_z, of_z, subst}
use Rattle.std.proofs.lemmas.List.Sorted.{answers_always}
use Rattle.std.proofs.lemmas.Int.{to_z-of_z}
use Rattle.std.specs.Ordering.{int_cmp}
use Rattle.kz_types.specs.declared.image.PartitionEntry.{PartitionEntry}
use Rattle.kz_spec_data.specs.Metadata.{number_of_partition}
use Rattle.kz_types.specs.Spot.{IsSpot}
use Rattle.kz_types.proofs.Order.{int_order}
use Rattle.kz_types.proofs.Spot.{spot_from_binary_search}
use Rattle.kz_image.proofs.topic.partition_place.Goals as goal

pub returns : goal.returns
returns c =
    let s = c.binary_search_by_key.ensures.position (λ (x : PartitionEntry). x.number) (answers_always _ _ _ (λ f a r g called. search rules)) in
    subst (λ k. IsSpot int_cmp number_of_partition k c.args.partitions.now c.binary_search_by_key.result) (to_z-of_z w32 c.args.number c.ranges.number)
    (spot_from_binary_search int_order number_of_partition (to_z w32 (of_z w32 c.args.number)) c.args.partitions.now c.binary_search_by_key.result c.requires c.binary_search_by_key.ensures.bound s)
