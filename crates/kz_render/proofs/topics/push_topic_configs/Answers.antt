use Rattle.std.proofs.Common.{◌++◌}
use Rattle.std.specs.List.{flat_map}
use Rattle.std.proofs.lemmas.List.Elements.{All-rest}
use Rattle.kz_spec_data.specs.Legal.{IsTopic}
use Rattle.kz_render.specs.Apart.{configs_of}
use Rattle.kz_render.proofs.Going.{flat_map_next}
use Rattle.kz_render.proofs.topics.push_topic_configs.Goals as goal

pub loop-topic-preserved : goal.loop-topic-preserved
loop-topic-preserved c =
    let left = c.loop-topic.topic-iterator in
    let rest = c.next.new.self in
    let topic = c.in-Some.topic.now in (
      flat_map_next configs_of c.loop-topic.znodes.items c.push_config_of.new.znodes.items (c.args.znodes.now.items ++ flat_map configs_of c.args.topics.now) left rest topic
          c.loop-topic.invariant.0 c.in-Some.ensures.steps c.in_ok-push_config_of.ensures,
      All-rest IsTopic topic rest left c.in-Some.ensures.steps c.loop-topic.invariant.1,
    )
