use Rattle.kz_types.specs.declared.record.MetaRecord.TheVariants as meta
use Rattle.kz_laws_znodes.proofs.HeldStays.{held_at_zero}
use Rattle.kz_image.proofs.image.Image.register_broker.Goals as goal

pub invariant_of-self-2 : goal.invariant_of-self-2
invariant_of-self-2 c = rw c.in_ok-register.ensures.ok (held_at_zero _ c.self.invariant (meta.RegisterBroker c.args.change.now) tt (rw (← c.self.view_is) at c.requires))
