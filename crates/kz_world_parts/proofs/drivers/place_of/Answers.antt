use Rattle.std.proofs.Common.{◌≡◌, sym, ap, subst, ◌∙◌, drop, w32, to_z, rules}
use Rattle.std.specs.Ordering.{int_eq}
use Rattle.std.proofs.lemmas.Int.{to_z-of_z}
use mir.Val.{SFits}
use Rattle.kz_spec_machine.specs.Machine.{driver_of}
use Rattle.kz_world_parts.proofs.Listings.{found_here, itself}
use Rattle.kz_world_parts.proofs.drivers.place_of.Goals as goal

pub returns-then-id : goal.returns-then-id
returns-then-id c =
    let fits : SFits w32 c.id.result = search rules in
    let before = subst (λ i. driver_of i (drop c.loop-at.at c.args.drivers.now) ≡ driver_of i c.args.drivers.now) (to_z-of_z w32 c.args.id c.ranges.id) c.loop-at.invariant in
    let same = sym c.id.ensures ∙ sym (to_z-of_z w32 c.id.result fits) ∙ ap (to_z w32) c.if-id.true ∙ to_z-of_z w32 c.args.id c.ranges.id in
    (c.loop-at-test.true, found_here c.args.id c.args.drivers.now c.loop-at.at c.index-drivers-at.result c.loop-at-test.true c.index-drivers-at.is before (ap (λ i. int_eq i c.args.id) same ∙ itself c.args.id))
