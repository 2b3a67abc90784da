use Rattle.std.proofs.Common.{subst, sym}
use Rattle.kz_spec_data.specs.InOrder.{IsTopicInOrder}
use Rattle.kz_laws_znodes.proofs.Entries.{HasIfFound, found_by_has}
use Rattle.kz_image.proofs.image.Image.partition.Goals as goal

pub partition_at-requires : goal.partition_at-requires
partition_at-requires c =
    rw c.as_slice.ensures (subst (HasIfFound IsTopicInOrder) (sym c.in-Some.ensures) (found_by_has IsTopicInOrder _ c.self.inside.topics c.self.invariant.order.topics.within)).0
