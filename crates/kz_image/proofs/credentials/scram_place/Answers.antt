use Rattle.std.proofs.Common.{rules, w8, to_z, of_z, subst}
use Rattle.std.proofs.lemmas.List.Sorted.{answers_always}
use Rattle.std.proofs.lemmas.Int.{to_z-of_z}
use Rattle.std.specs.Ordering.{int_cmp}
use Rattle.kz_types.specs.declared.bodies.ScramPair.{ScramPair}
use Rattle.kz_spec_data.specs.Metadata.{mechanism_of_pair}
use Rattle.kz_types.specs.Spot.{IsSpot}
use Rattle.kz_types.proofs.Order.{int_order}
use Rattle.kz_types.proofs.Spot.{spot_from_binary_search}
use Rattle.kz_image.proofs.credentials.scram_place.Goals as goal

pub returns : goal.returns
returns c =
    let s = c.binary_search_by_key.ensures.position (λ (x : ScramPair). x.mechanism) (answers_always _ _ _ (λ f a r g called. search rules)) in
    subst (λ k. IsSpot int_cmp mechanism_of_pair k c.args.scrams.now c.binary_search_by_key.result) (to_z-of_z w8 c.args.mechanism c.ranges.mechanism)
    (spot_from_binary_search int_order mechanism_of_pair (to_z w8 (of_z w8 c.args.mechanism)) c.args.scrams.now c.binary_search_by_key.result c.requires c.binary_search_by_key.ensures.bound s)
