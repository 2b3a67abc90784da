use Rattle.std.proofs.Common.{◌∙◌, sym, subst, w8, to_z, of_z, Ok, Err, Result, ℕ}
use Rattle.std.proofs.lemmas.Int.{to_z-of_z}
use mir.Val.{SFits}
use Rattle.std.specs.Ordering.{int_cmp}
use Rattle.kz_spec_data.specs.Metadata.{mechanism_of_pair}
use Rattle.kz_types.specs.Spot.{IsSpot}
use Rattle.kz_types.proofs.Order.{int_order}
use Rattle.kz_types.proofs.Spot.{without_by_spot, without_by_gap}
use Rattle.kz_image.proofs.credentials.drop_scram.Goals as goal

pub returns-in-Ok : goal.returns-in-Ok
returns-in-Ok c =
    let fits : SFits w8 c.args.mechanism = c.ranges.mechanism in
    let spot = subst (λ k. IsSpot int_cmp mechanism_of_pair k c.args.scrams.now.items (Ok c.in-Ok.place)) (to_z-of_z w8 c.args.mechanism fits) (rw c.deref.ensures.value at c.in-Ok.ensures) in
    c.remove-removed.ensures.items ∙ sym (without_by_spot int_order mechanism_of_pair c.args.mechanism c.args.scrams.now.items c.in-Ok.place c.requires spot)

pub returns-in_default : goal.returns-in_default
returns-in_default c =
    let fits : SFits w8 c.args.mechanism = c.ranges.mechanism in
    let here = rw c.deref.ensures.value at c.scram_place.ensures in
    let none = subst (λ (r : Result ℕ ℕ). IsSpot int_cmp mechanism_of_pair (to_z w8 (of_z w8 c.args.mechanism)) c.args.scrams.now.items r) c.in_default.is here in
    let spot = subst (λ k. IsSpot int_cmp mechanism_of_pair k c.args.scrams.now.items (Err c.in_default.field-0)) (to_z-of_z w8 c.args.mechanism fits) none in
    sym (without_by_gap int_order mechanism_of_pair c.args.mechanism c.args.scrams.now.items c.in_default.field-0 spot)
