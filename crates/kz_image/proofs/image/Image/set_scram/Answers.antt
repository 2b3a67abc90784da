use Rattle.kz_types.specs.declared.record.MetaRecord.TheVariants as meta
use Rattle.kz_laws_znodes.proofs.HeldStays.{held_at_zero}
use Rattle.kz_image.proofs.image.Image.set_scram.Goals as goal

pub invariant_of-self-2 : goal.invariant_of-self-2
invariant_of-self-2 c = rw c.in_ok-set_scram.ensures.ok (held_at_zero _ c.self.invariant (meta.UserScramCredential c.args.change.now) c.held_credential_is_writable.ensures (rw (← c.self.view_is) at c.requires))
