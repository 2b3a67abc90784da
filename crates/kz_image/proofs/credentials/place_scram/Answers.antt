use Rattle.std.proofs.Common.{◌∙◌, sym, subst, w8, rules, Ok, Err}
use Rattle.std.proofs.lemmas.Int.{to_z-of_z}
use mir.Val.{SFits}
use Rattle.std.specs.Ordering.{int_cmp}
use Rattle.kz_spec_data.specs.Metadata.{mechanism_of_pair}
use Rattle.kz_types.specs.Spot.{IsSpot}
use Rattle.kz_types.proofs.Order.{int_order}
use Rattle.kz_types.proofs.Spot.{put_by_spot, put_by_gap}
use Rattle.kz_image.proofs.credentials.place_scram.Goals as goal

pub returns-in-Ok-clause-ok : goal.returns-in-Ok-clause-ok
returns-in-Ok-clause-ok c =
    let id = c.args.scram.mechanism in
    let fits : SFits w8 id = search rules in
    let spot = subst (λ k. IsSpot int_cmp mechanism_of_pair k c.args.scrams.now.items (Ok c.in-Ok.place)) (to_z-of_z w8 id fits) (rw c.deref.ensures.value at c.in-Ok.ensures) in
    sym (put_by_spot int_order mechanism_of_pair c.args.scram c.args.scrams.now.items c.in-Ok.place c.requires spot)

pub returns-in_ok-insert-in-Err-clause-ok : goal.returns-in_ok-insert-in-Err-clause-ok
returns-in_ok-insert-in-Err-clause-ok c =
    let id = c.args.scram.mechanism in
    let fits : SFits w8 id = search rules in
    let spot = subst (λ k. IsSpot int_cmp mechanism_of_pair k c.args.scrams.now.items (Err c.in-Err.place)) (to_z-of_z w8 id fits) (rw c.deref.ensures.value at c.in-Err.ensures) in
    c.in_ok-insert-in-Err.ensures.items ∙ sym (put_by_gap int_order mechanism_of_pair c.args.scram c.args.scrams.now.items c.in-Err.place spot)
