use Rattle.std.proofs.Common.{◌≡◌, None, subst, sym, rules}
use Rattle.kz_types.specs.declared.record.MetaRecord.TheVariants as meta
use Rattle.kz_spec_data.specs.ImageRules.{broken_rule}
use Rattle.kz_laws_znodes.proofs.Unbroken.{change_unbroken}
use Rattle.kz_laws_znodes.proofs.HeldStays.{held}
use Rattle.kz_image.proofs.image.Image.change_partition.Goals as goal

pub change_partition-requires-clause-fits : goal.change_partition-requires-clause-fits
change_partition-requires-clause-fits c = change_unbroken _ c.args.change.now (subst (λ i. broken_rule i (meta.PartitionChange c.args.change.now) ≡ None) (sym c.self.view_is) c.requires)

pub invariant_of-self-2 : goal.invariant_of-self-2
invariant_of-self-2 c = rw c.in_ok-change_partition.ensures.ok (held _ c.self.invariant _ (meta.PartitionChange c.args.change.now) (search rules) c.held_partition_change_is_writable.ensures (subst (λ i. broken_rule i (meta.PartitionChange c.args.change.now) ≡ None) (sym c.self.view_is) c.requires))
