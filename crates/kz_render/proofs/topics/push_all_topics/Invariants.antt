use Rattle.std.proofs.Common.{◌≡◌, ◌++◌}
use Rattle.std.specs.List.{All, flat_map}
use Rattle.kz_spec_data.specs.Legal.{IsTopic}
use Rattle.kz_render.specs.Apart.{own_znodes}
use Rattle.kz_render.proofs.topics.push_all_topics.Given as goal

abbrev pub invariant-loop-topic : goal.invariant-loop-topic
invariant-loop-topic l = (l.znodes.items ++ flat_map own_znodes l.topic-iterator ≡ l.fn.znodes.items ++ flat_map own_znodes l.fn.topics) × All IsTopic l.topic-iterator
