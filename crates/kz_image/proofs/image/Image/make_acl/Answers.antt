use Rattle.std.proofs.Common.{◌≡◌, None, subst, sym}
use Rattle.kz_types.specs.declared.record.MetaRecord.TheVariants as meta
use Rattle.kz_spec_data.specs.ImageRules.{broken_rule}
use Rattle.kz_laws_znodes.proofs.HeldStays.{held_at_zero}
use Rattle.kz_image.proofs.image.Image.make_acl.Goals as goal

pub invariant_of-self-2 : goal.invariant_of-self-2
invariant_of-self-2 c = rw (c.in_ok-put.ensures.ok, c.in_ok-entry.ensures) (held_at_zero _ c.self.invariant (meta.AccessControlEntry c.args.change.now) c.held_entry_is_writable.ensures (subst (λ i. broken_rule i (meta.AccessControlEntry c.args.change.now) ≡ None) (sym c.self.view_is) c.requires))
