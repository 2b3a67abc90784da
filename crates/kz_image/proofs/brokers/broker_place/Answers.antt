use Rattle.std.proofs.Common.{rules, w32, to_z, of_z, subst}
use Rattle.std.proofs.lemmas.List.Sorted.{answers_always}
use Rattle.std.proofs.lemmas.Int.{to_z-of_z}
use Rattle.std.specs.Ordering.{int_cmp}
use Rattle.kz_types.specs.declared.record.RegisterBrokerRecord.{RegisterBrokerRecord}
use Rattle.kz_spec_data.specs.Metadata.{id_of_broker}
use Rattle.kz_types.specs.Spot.{IsSpot}
use Rattle.kz_types.proofs.Order.{int_order}
use Rattle.kz_types.proofs.Spot.{spot_from_binary_search}
use Rattle.kz_image.proofs.brokers.broker_place.Goals as goal

pub returns : goal.returns
returns c =
    let s = c.binary_search_by_key.ensures.position (λ (x : RegisterBrokerRecord). x.broker_id) (answers_always _ _ _ (λ f a r g called. search rules)) in
    subst (λ k. IsSpot int_cmp id_of_broker k c.args.brokers.now c.binary_search_by_key.result) (to_z-of_z w32 c.args.id c.ranges.id)
    (spot_from_binary_search int_order id_of_broker (to_z w32 (of_z w32 c.args.id)) c.args.brokers.now c.binary_search_by_key.result c.requires c.binary_search_by_key.ensures.bound s)
