use Rattle.std.proofs.Common.{◌≡◌, ◌++◌, map}
use Rattle.std.specs.List.{flat_map}
use Rattle.kz_spec_data.specs.SnapshotRecords.{records_of_topic}
use Rattle.kz_snapshot.proofs.metadata.push_topics.Given as goal

abbrev pub invariant-loop-topic : goal.invariant-loop-topic
invariant-loop-topic l = l.records.items ++ flat_map (records_of_topic l.epoch) l.topic-iterator ≡ l.fn.records.items ++ flat_map (records_of_topic l.epoch) l.fn.topics
