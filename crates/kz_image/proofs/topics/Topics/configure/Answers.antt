use Rattle.std.proofs.Common.{sym, subst}
use Rattle.kz_types.specs.Order.{bytes_cmp}
use Rattle.kz_types.specs.Ordered.{find}
use Rattle.kz_spec_data.specs.Metadata.{name_of_topic}
use Rattle.kz_spec_data.specs.InOrder.{IsTopicInOrder}
use Rattle.kz_laws_znodes.proofs.Entries.{HasIfFound, found_has}
use Rattle.kz_laws_znodes.proofs.ImageTopics.{among_named, topic_configured_leaves}
use Rattle.kz_image.specs.Names.{AreNames}
use Rattle.kz_image.proofs.TopicNames.{names_changed}
use Rattle.kz_image.proofs.topics.Topics.configure.Goals as goal

pub with_member-requires : goal.with_member-requires
with_member-requires c =
    let topics = c.args.self.now in
    let in_order : IsTopicInOrder c.in-Some.topic.now = subst (HasIfFound IsTopicInOrder) (sym c.in-Some.ensures) (found_has IsTopicInOrder bytes_cmp name_of_topic c.args.change.now.resource_name topics c.requires.order.within) in
    in_order.1

pub invariant_of-self-2 : goal.invariant_of-self-2
invariant_of-self-2 c =
    let topics = c.args.self.now in
    let names = c.self.inside.names in
    let are : AreNames names topics = subst (AreNames names) c.self.view_is c.self.invariant in
    rw (c.in_ok-put.ensures.ok, c.self.view_is) (names_changed names topics are c.requires.order.rising c.requires.apart _ (topic_configured_leaves c.args.change.now) (find bytes_cmp name_of_topic c.args.change.now.resource_name topics) (among_named c.args.change.now.resource_name topics)
    c.in-Some.topic.now c.in_ok-changed-in-Some.changed (sym c.in-Some.ensures) c.in_ok-changed-in-Some.ensures)
