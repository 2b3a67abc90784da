use Rattle.std.proofs.Common.{ap, sym, ◌∙◌, subst, w32, Ok, Err}
use Rattle.std.proofs.lemmas.Int.{to_z-of_z}
use mir.Val.{SFits}
use Rattle.std.specs.Ordering.{int_cmp}
use Rattle.kz_spec_data.specs.Metadata.{id_of_broker}
use Rattle.kz_types.specs.Spot.{IsSpot}
use Rattle.kz_types.proofs.Order.{int_order}
use Rattle.kz_types.proofs.Spot.{find_by_spot, find_by_gap}
use Rattle.kz_image.proofs.BrokerLists.{is_ready, any_is_ready}
use Rattle.kz_image.proofs.brokers.is_migrating.Goals as goal

pub returns-in-Ok : goal.returns-in-Ok
returns-in-Ok c =
    let brokers = c.args.brokers.now in
    let fits : SFits w32 c.args.id = c.ranges.id in
    let spot = subst (λ k. IsSpot int_cmp id_of_broker k brokers (Ok c.in-Ok.place)) (to_z-of_z w32 c.args.id fits) c.in-Ok.ensures in
    let at = c.index-brokers-place.result in
    sym (any_is_ready c.args.id brokers c.requires ∙ ap is_ready (find_by_spot int_order id_of_broker c.args.id brokers c.in-Ok.place at c.requires spot))

pub returns-in-Err : goal.returns-in-Err
returns-in-Err c =
    let brokers = c.args.brokers.now in
    let fits : SFits w32 c.args.id = c.ranges.id in
    let spot = subst (λ k. IsSpot int_cmp id_of_broker k brokers (Err c.in-Err.field-0)) (to_z-of_z w32 c.args.id fits) c.in-Err.ensures in
    sym (any_is_ready c.args.id brokers c.requires ∙ ap is_ready (find_by_gap int_order id_of_broker c.args.id brokers c.in-Err.field-0 spot))
