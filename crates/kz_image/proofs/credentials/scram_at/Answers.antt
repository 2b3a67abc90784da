use Rattle.std.proofs.Common.{ap, sym, subst, w8, Ok, Err}
use Rattle.std.proofs.lemmas.Int.{to_z-of_z}
use mir.Val.{SFits}
use Rattle.std.specs.Prelude.{option_map}
use Rattle.std.specs.Ordering.{int_cmp}
use Rattle.kz_types.specs.declared.bodies.ScramPair.{ScramPair}
use Rattle.kz_spec_data.specs.Metadata.{mechanism_of_pair}
use Rattle.kz_types.specs.Spot.{IsSpot}
use Rattle.kz_types.proofs.Order.{int_order}
use Rattle.kz_types.proofs.Spot.{find_by_spot, find_by_gap}
use Rattle.kz_image.proofs.credentials.scram_at.Goals as goal

pub returns-in-Ok : goal.returns-in-Ok
returns-in-Ok c =
    let fits : SFits w8 c.args.mechanism = c.ranges.mechanism in
    let spot = subst (λ k. IsSpot int_cmp mechanism_of_pair k c.args.scrams.now (Ok c.in-Ok.place)) (to_z-of_z w8 c.args.mechanism fits) c.in-Ok.ensures in
    sym (ap (option_map (λ (x : ScramPair). x.value)) (find_by_spot int_order mechanism_of_pair c.args.mechanism c.args.scrams.now c.in-Ok.place c.index-scrams-place.result c.requires spot))

pub returns-in-Err : goal.returns-in-Err
returns-in-Err c =
    let fits : SFits w8 c.args.mechanism = c.ranges.mechanism in
    let spot = subst (λ k. IsSpot int_cmp mechanism_of_pair k c.args.scrams.now (Err c.in-Err.field-0)) (to_z-of_z w8 c.args.mechanism fits) c.in-Err.ensures in
    sym (ap (option_map (λ (x : ScramPair). x.value)) (find_by_gap int_order mechanism_of_pair c.args.mechanism c.args.scrams.now c.in-Err.field-0 spot))
