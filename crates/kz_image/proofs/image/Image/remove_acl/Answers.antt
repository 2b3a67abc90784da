use Rattle.kz_laws_znodes.proofs.HeldStays.{acl_removed_held}
use Rattle.kz_image.proofs.image.Image.remove_acl.Goals as goal

pub invariant_of-self-2 : goal.invariant_of-self-2
invariant_of-self-2 c = rw c.in_ok-without.ensures.ok (acl_removed_held _ c.self.invariant _)
