-- The records of metadata, as a snapshot of a log has them.
use Rattle.std.specs.Prelude.{ℤ, pos, negsuc, List, [], ◌∷◌, ◌++◌, map, Option, Some, None, option_map, option_to_list, if◌then◌else◌}
use Rattle.std.specs.List.{flat_map}
use Rattle.std.specs.Ordering.{int_eq}
use Rattle.kz_types.specs.declared.id.Id.{Id}
use Rattle.kz_types.specs.declared.codes.TheConstants.{NO_MIGRATION}
use Rattle.kz_types.specs.declared.log.EpochRecord.{EpochRecord}
use Rattle.kz_types.specs.declared.record.MetaRecord.{MetaRecord}
use Rattle.kz_types.specs.declared.record.MetaRecord.TheVariants as meta
use Rattle.kz_types.specs.declared.bodies.QuotaRow.{QuotaRow}
use Rattle.kz_types.specs.declared.image.TopicEntry.{TopicEntry}
use Rattle.kz_types.specs.declared.image.PartitionEntry.{PartitionEntry}
use Rattle.kz_types.specs.declared.image.Configuration.{Configuration}
use Rattle.kz_types.specs.declared.image.QuotaEntry.{QuotaEntry}
use Rattle.kz_types.specs.declared.image.ScramEntry.{ScramEntry}
use Rattle.kz_types.specs.declared.image.AclEntry.{AclEntry}
use Rattle.kz_types.specs.declared.key.EntityKey.{EntityKey}
use Rattle.kz_types.specs.Paths.{key_of}
use Rattle.kz_spec_data.specs.Metadata.{Image}
use Rattle.kz_spec_data.specs.Image.{image_with}
use Rattle.kz_spec_data.specs.Translation.{config_record, quota_record, scram_record}

abbrev pub in_epoch : ℤ → MetaRecord → EpochRecord
in_epoch epoch r = record { epoch = epoch; item = r }

-- a partition, in the epoch of the controller that changed it last
abbrev pub partition_of_topic : Id → PartitionEntry → EpochRecord
partition_of_topic id p = record {
  epoch = p.row.controller_epoch;
  item = meta.Partition (record {
    partition_id = p.number;
    topic_id = id;
    replicas = p.row.replicas;
    isr = p.row.isr;
    removing = p.row.removing;
    adding = p.row.adding;
    leader = p.row.leader;
    recovery = p.row.recovery;
    leader_epoch = p.row.leader_epoch;
    partition_epoch = p.row.partition_epoch;
  });
}

-- a topic, and then its partitions by rising number
abbrev pub records_of_topic : ℤ → TopicEntry → List EpochRecord
records_of_topic epoch t = in_epoch epoch (meta.Topic (record { name = t.name; topic_id = t.id })) ∷ map (partition_of_topic t.id) t.partitions

abbrev pub members_of_topic : TopicEntry → List MetaRecord
members_of_topic t = map (config_record (pos 2) t.name) t.pairs

abbrev pub members_of_brokers : Configuration → List MetaRecord
members_of_brokers c = map (config_record (pos 4) c.name) c.pairs

abbrev pub quotas_of_key : Option EntityKey → List QuotaRow → List MetaRecord
quotas_of_key None qs = []
quotas_of_key (Some k) qs = map (quota_record k) qs

abbrev pub quotas_of_entry : QuotaEntry → List MetaRecord
quotas_of_entry q = quotas_of_key (key_of q.path) q.quotas

abbrev pub scrams_of_entry : ScramEntry → List MetaRecord
scrams_of_entry u = map (scram_record u.name) u.scrams

abbrev pub record_of_acl : AclEntry → MetaRecord
record_of_acl a = meta.AccessControlEntry (record {
  id = a.id;
  resource_type = a.row.kind;
  resource_name = a.row.name;
  pattern_type = a.row.pattern;
  principal = a.row.principal;
  host = a.row.host;
  operation = a.row.operation;
  permission = a.row.permission;
})

-- the next producer id, of no broker
abbrev pub producer_record : ℤ → MetaRecord
producer_record next = meta.ProducerIds (record { broker_id = negsuc 0; broker_epoch = negsuc 0; next = next })

abbrev pub state_records : ℤ → List MetaRecord
state_records state = if int_eq state NO_MIGRATION then [] else meta.ZkMigrationState state ∷ []

-- the records after the topics
abbrev pub records_after_topics : Image → List MetaRecord
records_after_topics i = flat_map members_of_topic i.topics ++ flat_map members_of_brokers i.broker_configs ++ flat_map quotas_of_entry i.quotas ++ flat_map scrams_of_entry i.users
    ++ map record_of_acl i.acls ++ option_to_list (option_map producer_record i.next_producer) ++ state_records i.state

-- The records of metadata, for a snapshot in this epoch: brokers by rising id; topics by rising name, each with its partitions;
-- members of configurations, of topics before brokers; quotas, credentials, and access control entries; the next producer id; and
-- the state of the migration.
abbrev pub snapshot_records : ℤ → Image → List EpochRecord
snapshot_records epoch i = map (λ b. in_epoch epoch (meta.RegisterBroker b)) i.brokers ++ flat_map (records_of_topic epoch) i.topics ++ map (in_epoch epoch) (records_after_topics i)

-- the metadata after these records
abbrev pub image_after : List EpochRecord → Image → Image
image_after [] i = i
image_after (r ∷ rs) i = image_after rs (image_with r.epoch r.item i)
