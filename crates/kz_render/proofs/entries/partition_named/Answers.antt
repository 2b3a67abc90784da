use Rattle.std.proofs.Common.{All, subst, sym}
use Rattle.kz_types.specs.Order.{bytes_cmp}
use Rattle.kz_spec_data.specs.InOrder.{IsTopicInOrder}
use Rattle.kz_spec_data.specs.Metadata.{name_of_topic}
use Rattle.kz_laws_znodes.proofs.Entries.{HasIfFound, found_has}
use Rattle.kz_render.proofs.entries.partition_named.Goals as goal

pub partition_at-requires : goal.partition_at-requires
partition_at-requires c =
    let within = subst (All IsTopicInOrder) (sym c.topics.ensures.topics) c.topics.ensures.in_order.within in
    rw c.as_slice.ensures (subst (HasIfFound IsTopicInOrder) (sym c.in-Some.ensures) (found_has IsTopicInOrder bytes_cmp name_of_topic c.args.name.now _ within)).0
