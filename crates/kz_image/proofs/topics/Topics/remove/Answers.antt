use Rattle.std.proofs.Common.{◌≡◌, List, sym, ap, ◌∙◌, subst}
use Rattle.kz_types.specs.Order.{bytes_cmp}
use Rattle.kz_types.specs.Ordered.{without}
use Rattle.kz_sorted.proofs.Changes.{at_either}
use Rattle.kz_spec_data.specs.Image.{without_topic}
use Rattle.kz_image.specs.declared.names.TopicName.{TopicName}
use Rattle.kz_image.specs.Names.{id_of_name, AreNames}
use Rattle.kz_image.proofs.TopicNames.{names_left, names_removed, removed_named, without_absent_topic}
use Rattle.kz_image.proofs.topics.Topics.remove.Goals as goal

pub returns-in-None-clause-ok : goal.returns-in-None-clause-ok
returns-in-None-clause-ok c = sym (without_absent_topic c.args.id c.args.self.now (sym c.in-None.ensures))

pub invariant_of-self-2 : goal.invariant_of-self-2
invariant_of-self-2 c =
    let names = c.self.inside.names in
    let topics = c.args.self.now in
    let are : AreNames names topics = subst (AreNames names) c.self.view_is c.self.invariant in
    let removed = removed_named c.args.id c.in-Some.topic.now topics c.requires.rising c.requires.apart (sym c.in-Some.ensures) in
    rw (c.in_ok-without.ensures.ok, c.bytes.ensures, c.in_ok-name-in-Some.ensures, c.self.view_is, removed)
    (at_either c.without-done.result _ _ _ c.without-done.ensures.ok c.without-done.ensures.err
    (λ gone. subst (λ (ns : List TopicName). AreNames ns (without_topic c.args.id topics)) (sym gone) (names_removed c.args.id names topics are))
    (λ same. subst (λ (ns : List TopicName). AreNames ns (without_topic c.args.id topics)) (sym same) (names_left c.args.id names topics are)))

pub returns-clause-ok : goal.returns-clause-ok
returns-clause-ok c =
    rw (c.in_ok-without.ensures.ok, c.bytes.ensures, c.in_ok-name-in-Some.ensures, c.self.view_is) (removed_named c.args.id c.in-Some.topic.now c.args.self.now c.requires.rising c.requires.apart (sym c.in-Some.ensures))
