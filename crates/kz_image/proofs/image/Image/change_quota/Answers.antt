use Rattle.std.proofs.Common.{◌≡◌, None, subst, sym}
use Rattle.kz_types.specs.declared.record.MetaRecord.TheVariants as meta
use Rattle.kz_spec_data.specs.ImageRules.{broken_rule}
use Rattle.kz_laws_znodes.proofs.Unbroken.{quota_unbroken}
use Rattle.kz_laws_znodes.proofs.HeldStays.{held_at_zero}
use Rattle.kz_image.proofs.image.Image.change_quota.Goals as goal

pub change-requires-clause-named : goal.change-requires-clause-named
change-requires-clause-named c = quota_unbroken c.args.self.now c.args.change.now c.requires

pub invariant_of-self-2 : goal.invariant_of-self-2
invariant_of-self-2 c = rw c.in_ok-change.ensures.ok (held_at_zero _ c.self.invariant (meta.ClientQuota c.args.change.now) c.held_quota_is_writable.ensures (subst (λ i. broken_rule i (meta.ClientQuota c.args.change.now) ≡ None) (sym c.self.view_is) c.requires))
