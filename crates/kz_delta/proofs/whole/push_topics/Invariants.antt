use Rattle.std.proofs.Common.{◌≡◌, ◌++◌}
use Rattle.std.specs.List.{flat_map}
use Rattle.kz_spec_data.specs.Touched.{keys_of_topic_entry}
use Rattle.kz_delta.proofs.whole.push_topics.Given as goal

abbrev pub invariant-loop-topic : goal.invariant-loop-topic
invariant-loop-topic l = l.keys.items ++ flat_map keys_of_topic_entry l.topic-iterator ≡ l.fn.keys.items ++ flat_map keys_of_topic_entry l.fn.topics
