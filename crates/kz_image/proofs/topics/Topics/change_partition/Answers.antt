use Rattle.std.proofs.Common.{sym, subst}
use Rattle.std.specs.List.{find as find_by}
use Rattle.kz_spec_data.specs.InOrder.{IsTopicInOrder}
use Rattle.kz_laws_znodes.proofs.Entries.{HasIfFound, found_by_has}
use Rattle.kz_laws_znodes.proofs.TopicFinds.{has_id}
use Rattle.kz_laws_znodes.proofs.ImageTopics.{among_with, partition_changed_leaves}
use Rattle.kz_image.specs.Names.{AreNames}
use Rattle.kz_image.proofs.TopicNames.{names_changed}
use Rattle.kz_image.proofs.topics.Topics.change_partition.Goals as goal

pub with_partition_changed-requires-clause-rising : goal.with_partition_changed-requires-clause-rising
with_partition_changed-requires-clause-rising c =
    let topics = c.args.self.now in
    let in_order : IsTopicInOrder c.in-Some.topic.now = subst (HasIfFound IsTopicInOrder) (sym c.in-Some.ensures) (found_by_has IsTopicInOrder (has_id c.args.change.now.topic_id) topics c.requires.order.within) in
    in_order.0

pub invariant_of-self-2 : goal.invariant_of-self-2
invariant_of-self-2 c =
    let topics = c.args.self.now in
    let names = c.self.inside.names in
    let are : AreNames names topics = subst (AreNames names) c.self.view_is c.self.invariant in
    rw (c.in_ok-put.ensures.ok, c.self.view_is) (names_changed names topics are c.requires.order.rising c.requires.apart _ (partition_changed_leaves _ c.args.change.now) (find_by (has_id c.args.change.now.topic_id) topics) (among_with c.args.change.now.topic_id topics)
    c.in-Some.topic.now c.in_ok-changed-in-Some.changed (sym c.in-Some.ensures) c.in_ok-changed-in-Some.ensures)
