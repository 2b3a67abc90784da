-- Records of topics and their partitions, as a script writes them.
use Rattle.std.specs.Prelude.{ℤ, List, ◌==◌, pos, negsuc, Option, Some, None, if◌then◌else◌, codes}
use Rattle.serde_json.specs.Data.{Data}
use Rattle.kz_types.specs.declared.id.Id.{Id}
use Rattle.kz_types.specs.declared.record.MetaRecord.{MetaRecord}
use Rattle.kz_types.specs.declared.record.MetaRecord.TheVariants.{Topic, Partition, PartitionChange, RemoveTopic}
use Rattle.kz_spec_data.specs.Json.{member_count, text_member}
use Rattle.kz_spec_data.specs.LineFields.{◌>>=◌, int8, int32, uuid, ints, ints_or_null, field, tagged_member, tagged_count}

-- exactly `kind`, `name` and `topicId`
abbrev pub topic_of : Data → Option MetaRecord
topic_of d = if member_count d == 3
    then (text_member (codes "name") d >>= λ name.
    field (codes "topicId") uuid d >>= λ topic.
    Some (Topic (record { name = name; topic_id = topic })))
    else None

-- a partition with these lists of brokers: `leader`, `leaderEpoch` and `partitionEpoch`; `recovery` may be absent, which
-- is 0
unfoldable pub partition_with : ℤ → Id → (replicas isr removing adding : List ℤ) → Data → Option MetaRecord
partition_with partition topic replicas isr removing adding d =
    field (codes "leader") int32 d >>= λ leader.
    tagged_member (codes "recovery") (pos 0) int8 d >>= λ recovery.
    field (codes "leaderEpoch") int32 d >>= λ leader_epoch.
    field (codes "partitionEpoch") int32 d >>= λ partition_epoch.
    Some (Partition (record { partition_id = partition; topic_id = topic; replicas = replicas; isr = isr; removing = removing; adding = adding; leader = leader; recovery = recovery; leader_epoch = leader_epoch; partition_epoch = partition_epoch }))

-- `kind`, `partitionId`, `topicId`, the lists `replicas`, `isr`, `removing` and `adding`, and the rest
abbrev pub partition_of : Data → Option MetaRecord
partition_of d = if member_count d == tagged_count (codes "recovery") d 10
    then (field (codes "partitionId") int32 d >>= λ partition.
    field (codes "topicId") uuid d >>= λ topic.
    field (codes "replicas") ints d >>= λ replicas.
    field (codes "isr") ints d >>= λ isr.
    field (codes "removing") ints d >>= λ removing.
    field (codes "adding") ints d >>= λ adding.
    partition_with partition topic replicas isr removing adding d)
    else None

-- `kind`, `partitionId` and `topicId`; each other may be absent: the lists `isr`, `replicas`, `removing` and `adding`,
-- which is null, `leader`, which is -2, and `recovery`, which is -1
abbrev pub partition_change_of : Data → Option MetaRecord
partition_change_of d = if member_count d == tagged_count (codes "recovery") d (tagged_count (codes "adding") d (tagged_count (codes "removing") d (tagged_count (codes "replicas") d (tagged_count (codes "leader") d (tagged_count (codes "isr") d 3)))))
    then (field (codes "partitionId") int32 d >>= λ partition.
    field (codes "topicId") uuid d >>= λ topic.
    tagged_member (codes "isr") None ints_or_null d >>= λ isr.
    tagged_member (codes "leader") (negsuc 1) int32 d >>= λ leader.
    tagged_member (codes "replicas") None ints_or_null d >>= λ replicas.
    tagged_member (codes "removing") None ints_or_null d >>= λ removing.
    tagged_member (codes "adding") None ints_or_null d >>= λ adding.
    tagged_member (codes "recovery") (negsuc 0) int8 d >>= λ recovery.
    Some (PartitionChange (record { partition_id = partition; topic_id = topic; isr = isr; leader = leader; replicas = replicas; removing = removing; adding = adding; recovery = recovery })))
    else None

-- exactly `kind` and `topicId`
abbrev pub remove_topic_of : Data → Option MetaRecord
remove_topic_of d = if member_count d == 2
    then (field (codes "topicId") uuid d >>= λ topic.
    Some (RemoveTopic topic))
    else None
