use Rattle.std.proofs.Common.{rules}
use Rattle.kz_types.specs.declared.record.MetaRecord.TheVariants as meta
use Rattle.kz_laws_znodes.proofs.HeldStays.{held}
use Rattle.kz_image.proofs.image.Image.make_partition.Goals as goal

pub invariant_of-self-2 : goal.invariant_of-self-2
invariant_of-self-2 c = rw c.in_ok-make_partition.ensures.ok (held _ c.self.invariant _ (meta.Partition c.args.change.now) (search rules) c.held_partition_is_writable.ensures (rw (← c.self.view_is) at c.requires))
