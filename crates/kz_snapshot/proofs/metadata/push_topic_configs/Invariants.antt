use Rattle.std.proofs.Common.{◌≡◌, ◌++◌, map}
use Rattle.std.specs.List.{flat_map}
use Rattle.kz_spec_data.specs.SnapshotRecords.{in_epoch, members_of_topic}
use Rattle.kz_snapshot.proofs.metadata.push_topic_configs.Given as goal

abbrev pub invariant-loop-topic : goal.invariant-loop-topic
invariant-loop-topic l = l.records.items ++ map (in_epoch l.epoch) (flat_map members_of_topic l.topic-iterator) ≡ l.fn.records.items ++ map (in_epoch l.epoch) (flat_map members_of_topic l.fn.topics)
