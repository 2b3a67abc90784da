use Rattle.std.proofs.Common.{◌≡◌, ◌++◌, map, drop}
use Rattle.kz_spec_data.specs.Translation.{partition_record, topic_records}
use Rattle.kz_reader.specs.Seen.{AreReadAt}
use Rattle.kz_reader.proofs.topics.topic_records.Given as goal

abbrev pub invariant-loop-assigned : goal.invariant-loop-assigned
invariant-loop-assigned l = AreReadAt l.rows l.states × (l.records ++ map (partition_record l.rows l.name l.id) (drop l.assigned-index l.partitions) ≡ topic_records l.rows l.name l.id l.partitions)
