use Rattle.std.proofs.Common.{subst, refl}
use Rattle.kz_spec_data.specs.Image.{new_topic}
use Rattle.kz_image.specs.declared.names.TopicName.{TopicName}
use Rattle.kz_image.specs.Names.{AreNames}
use Rattle.kz_image.proofs.TopicNames.{names_made, names_more}
use Rattle.kz_image.proofs.topics.Topics.make.Goals as goal

pub invariant_of-self-in_err-put-2 : goal.invariant_of-self-in_err-put-2
invariant_of-self-in_err-put-2 c =
    let change = c.args.change.now in
    let names = c.self.inside.names in
    let topics = c.args.self.now in
    let are : AreNames names topics = subst (AreNames names) c.self.view_is c.self.invariant in
    let name : TopicName = record { id = change.topic_id; name = change.name } in
    rw (c.in_err-put-2.ensures.err, c.in_ok-put.ensures.ok, c.in_ok-name.ensures, c.self.view_is) (names_more name names topics are c.requires.new_id)

pub invariant_of-self-2 : goal.invariant_of-self-2
invariant_of-self-2 c =
    let change = c.args.change.now in
    let names = c.self.inside.names in
    let topics = c.args.self.now in
    let are : AreNames names topics = subst (AreNames names) c.self.view_is c.self.invariant in
    let name : TopicName = record { id = change.topic_id; name = change.name } in
    rw (c.in_ok-put-2.ensures.ok, c.in_ok-put.ensures.ok, c.in_ok-name.ensures, c.in_ok-topic.ensures, c.self.view_is)
    (names_made name (new_topic change) names topics are c.requires.rising refl refl c.requires.new_name c.requires.new_id)
