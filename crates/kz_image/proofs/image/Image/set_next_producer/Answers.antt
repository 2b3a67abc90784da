use Rattle.std.proofs.Common.{◌≡◌, None, subst, sym, rules, w64}
use Rattle.std.proofs.lemmas.Int.{to_z-of_z}
use mir.Val.{SFits}
use Rattle.kz_types.specs.declared.record.MetaRecord.TheVariants as meta
use Rattle.kz_spec_data.specs.ImageRules.{broken_rule}
use Rattle.kz_laws_znodes.proofs.HeldStays.{held_at_zero}
use Rattle.kz_image.proofs.image.Image.set_next_producer.Goals as goal

pub invariant_of-self : goal.invariant_of-self
invariant_of-self c =
    let next = c.args.change.now.next in
    let fits : SFits w64 next = search rules in
    rw (to_z-of_z w64 next fits) (held_at_zero _ c.self.invariant (meta.ProducerIds c.args.change.now) tt (subst (λ i. broken_rule i (meta.ProducerIds c.args.change.now) ≡ None) (sym c.self.view_is) c.requires))
