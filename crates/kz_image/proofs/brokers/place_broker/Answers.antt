use Rattle.std.proofs.Common.{◌∙◌, sym, subst, w32, rules, Ok, Err}
use Rattle.std.proofs.lemmas.Int.{to_z-of_z}
use mir.Val.{SFits}
use Rattle.std.specs.Ordering.{int_cmp}
use Rattle.kz_spec_data.specs.Metadata.{id_of_broker}
use Rattle.kz_types.specs.Spot.{IsSpot}
use Rattle.kz_types.proofs.Order.{int_order}
use Rattle.kz_types.proofs.Spot.{put_by_spot, put_by_gap}
use Rattle.kz_image.proofs.brokers.place_broker.Goals as goal

pub returns-in-Ok-clause-ok : goal.returns-in-Ok-clause-ok
returns-in-Ok-clause-ok c =
    let id = c.args.broker.broker_id in
    let fits : SFits w32 id = search rules in
    let spot = subst (λ k. IsSpot int_cmp id_of_broker k c.args.brokers.now.items (Ok c.in-Ok.place)) (to_z-of_z w32 id fits) (rw c.deref.ensures.value at c.in-Ok.ensures) in
    sym (put_by_spot int_order id_of_broker c.args.broker c.args.brokers.now.items c.in-Ok.place c.requires spot)

pub returns-in_ok-insert-in-Err-clause-ok : goal.returns-in_ok-insert-in-Err-clause-ok
returns-in_ok-insert-in-Err-clause-ok c =
    let id = c.args.broker.broker_id in
    let fits : SFits w32 id = search rules in
    let spot = subst (λ k. IsSpot int_cmp id_of_broker k c.args.brokers.now.items (Err c.in-Err.place)) (to_z-of_z w32 id fits) (rw c.deref.ensures.value at c.in-Err.ensures) in
    c.in_ok-insert-in-Err.ensures.items ∙ sym (put_by_gap int_order id_of_broker c.args.broker c.args.brokers.now.items c.in-Err.place spot)
