-- What is written of a record has no floats.
use Rattle.std.proofs.Common.{◌≡◌, ℕ, false, List, codes, pos, negsuc}
use Rattle.std.specs.Prelude.{map}
use Rattle.serde_json.specs.Data.{array, Members}
use Rattle.serde_json.specs.View.{items_of}
use Rattle.serde_json.specs.Written.{has_float}
use Rattle.kz_types.specs.Quotas.{is_quota}
use Rattle.kz_spec_data.specs.Quotas.{quota_text}
use Rattle.kz_types.specs.declared.row.QuotaValue.{QuotaValue}
use Rattle.kz_types.specs.declared.record.Endpoint.{Endpoint}
use Rattle.kz_types.specs.declared.record.Feature.{Feature}
use Rattle.kz_types.specs.declared.record.RegisterBrokerRecord.{RegisterBrokerRecord}
use Rattle.kz_types.specs.declared.record.TopicRecord.{TopicRecord}
use Rattle.kz_types.specs.declared.record.PartitionRecord.{PartitionRecord}
use Rattle.kz_types.specs.declared.record.ConfigRecord.{ConfigRecord}
use Rattle.kz_types.specs.declared.record.PartitionChangeRecord.{PartitionChangeRecord}
use Rattle.kz_types.specs.declared.record.UserScramCredentialRecord.{UserScramCredentialRecord}
use Rattle.kz_types.specs.declared.record.QuotaEntity.{QuotaEntity}
use Rattle.kz_types.specs.declared.record.ClientQuotaRecord.{ClientQuotaRecord}
use Rattle.kz_types.specs.declared.record.ProducerIdsRecord.{ProducerIdsRecord}
use Rattle.kz_types.specs.declared.record.AccessControlEntryRecord.{AccessControlEntryRecord}
use Rattle.kz_types.specs.declared.record.MetaRecord.{MetaRecord}
use Rattle.kz_types.specs.declared.record.MetaRecord.TheVariants.{RegisterBroker, Topic, Partition, Config, PartitionChange, RemoveTopic, UserScramCredential, ClientQuota, ProducerIds, AccessControlEntry, RemoveAccessControlEntry, NoOp, ZkMigrationState, RemoveUserScramCredential, BeginTransaction, EndTransaction, AbortTransaction}
use Rattle.kz_spec_data.specs.Members.{with_text, with_whole}
use Rattle.kz_spec_data.specs.WrittenRecords.{kind_member, topic_members, partition_members, partition_change_members, endpoint_members, endpoint_data, feature_members, feature_data, with_endpoints, with_features, register_broker_members, config_members, producer_ids_members, user_scram_credential_members, entity_members, entity_data, with_entities, with_quota, client_quota_members, access_control_entry_members, members_of_record, record_data}
use Rattle.kz_record_fields.proofs.Floats.{Calm, no_members_calm, put_calm, text_no_float, whole_no_float, one_of, flag_no_float, id_no_float, bytes_no_float, nullable_no_float, each_no_float, ints_no_float, tagged_whole_no_float, tagged_ints_no_float, tagged_text_no_float}

kind_calm : (name : List ℕ) → Calm (kind_member name)
kind_calm name = text_no_float (codes "kind") name _ no_members_calm

-- ---- topics

topic_calm : (t : TopicRecord) → Calm (topic_members t)
topic_calm t =
    id_no_float (codes "topicId") t.topic_id _ (
    text_no_float (codes "name") t.name _ (kind_calm (codes "Topic")))

partition_calm : (p : PartitionRecord) → Calm (partition_members p)
partition_calm p =
    whole_no_float (codes "partitionEpoch") p.partition_epoch _ (
    whole_no_float (codes "leaderEpoch") p.leader_epoch _ (
    tagged_whole_no_float (codes "recovery") (pos 0) p.recovery _ (
    whole_no_float (codes "leader") p.leader _ (
    ints_no_float (codes "adding") p.adding _ (
    ints_no_float (codes "removing") p.removing _ (
    ints_no_float (codes "isr") p.isr _ (
    ints_no_float (codes "replicas") p.replicas _ (
    id_no_float (codes "topicId") p.topic_id _ (
    whole_no_float (codes "partitionId") p.partition_id _ (kind_calm (codes "Partition")))))))))))

change_calm : (c : PartitionChangeRecord) → Calm (partition_change_members c)
change_calm c =
    tagged_whole_no_float (codes "recovery") (negsuc 0) c.recovery _ (
    tagged_ints_no_float (codes "adding") c.adding _ (
    tagged_ints_no_float (codes "removing") c.removing _ (
    tagged_ints_no_float (codes "replicas") c.replicas _ (
    tagged_whole_no_float (codes "leader") (negsuc 1) c.leader _ (
    tagged_ints_no_float (codes "isr") c.isr _ (
    id_no_float (codes "topicId") c.topic_id _ (
    whole_no_float (codes "partitionId") c.partition_id _ (kind_calm (codes "PartitionChange")))))))))

-- ---- brokers

endpoint_calm : (e : Endpoint) → Calm (endpoint_members e)
endpoint_calm e =
    whole_no_float (codes "protocol") e.protocol _ (
    whole_no_float (codes "port") (pos e.port) _ (
    text_no_float (codes "host") e.host _ (
    text_no_float (codes "name") e.name _ (no_members_calm))))

endpoint_none : (e : Endpoint) → has_float (endpoint_data e) ≡ false
endpoint_none e = (endpoint_calm e).none

feature_calm : (f : Feature) → Calm (feature_members f)
feature_calm f =
    whole_no_float (codes "max") f.max _ (
    whole_no_float (codes "min") f.min _ (
    text_no_float (codes "name") f.name _ (no_members_calm)))

feature_none : (f : Feature) → has_float (feature_data f) ≡ false
feature_none f = (feature_calm f).none

endpoints_no_float : (es : List Endpoint) (ms : Members) → Calm ms → Calm (with_endpoints es ms)
endpoints_no_float es ms all = put_calm (codes "endpoints") (array (items_of (map endpoint_data es))) ms (each_no_float endpoint_data endpoint_none es) all

features_no_float : (fs : List Feature) (ms : Members) → Calm ms → Calm (with_features fs ms)
features_no_float fs ms all = put_calm (codes "features") (array (items_of (map feature_data fs))) ms (each_no_float feature_data feature_none fs) all

broker_calm : (b : RegisterBrokerRecord) → Calm (register_broker_members b)
broker_calm b =
    flag_no_float (codes "inShutdown") b.in_shutdown _ (
    flag_no_float (codes "fenced") b.fenced _ (
    nullable_no_float (codes "rack") b.rack _ (
    features_no_float b.features _ (
    endpoints_no_float b.endpoints _ (
    whole_no_float (codes "brokerEpoch") b.broker_epoch _ (
    id_no_float (codes "incarnation") b.incarnation _ (
    flag_no_float (codes "migrating") b.migrating _ (
    whole_no_float (codes "brokerId") b.broker_id _ (kind_calm (codes "RegisterBroker"))))))))))

config_calm : (c : ConfigRecord) → Calm (config_members c)
config_calm c =
    nullable_no_float (codes "value") c.value _ (
    text_no_float (codes "name") c.name _ (
    text_no_float (codes "resourceName") c.resource_name _ (
    whole_no_float (codes "resourceType") c.resource_type _ (kind_calm (codes "Config")))))

producer_calm : (p : ProducerIdsRecord) → Calm (producer_ids_members p)
producer_calm p =
    whole_no_float (codes "next") p.next _ (
    whole_no_float (codes "brokerEpoch") p.broker_epoch _ (
    whole_no_float (codes "brokerId") p.broker_id _ (kind_calm (codes "ProducerIds"))))

-- ---- users and clients

credential_calm : (u : UserScramCredentialRecord) → Calm (user_scram_credential_members u)
credential_calm u =
    whole_no_float (codes "iterations") u.iterations _ (
    bytes_no_float (codes "serverKey") u.server_key _ (
    bytes_no_float (codes "storedKey") u.stored_key _ (
    bytes_no_float (codes "salt") u.salt _ (
    whole_no_float (codes "mechanism") u.mechanism _ (
    text_no_float (codes "name") u.name _ (kind_calm (codes "UserScramCredential")))))))

entity_calm : (e : QuotaEntity) → Calm (entity_members e)
entity_calm e =
    nullable_no_float (codes "name") e.name _ (
    text_no_float (codes "kind") e.kind _ (no_members_calm))

entity_none : (e : QuotaEntity) → has_float (entity_data e) ≡ false
entity_none e = (entity_calm e).none

entities_no_float : (parts : List QuotaEntity) (ms : Members) → Calm ms → Calm (with_entities parts ms)
entities_no_float parts ms all = put_calm (codes "entity") (array (items_of (map entity_data parts))) ms (each_no_float entity_data entity_none parts) all

quota_no_float : (q : QuotaValue) (ms : Members) → Calm ms → Calm (with_quota q ms)
quota_no_float q ms all =
    one_of (is_quota q) (with_text (codes "value") (quota_text q) ms) (with_whole (codes "micros") q.micros (with_whole (codes "whole") q.whole ms))
    (text_no_float (codes "value") (quota_text q) ms all)
    (whole_no_float (codes "micros") q.micros _ (whole_no_float (codes "whole") q.whole ms all))

client_quota_calm : (q : ClientQuotaRecord) → Calm (client_quota_members q)
client_quota_calm q =
    flag_no_float (codes "remove") q.remove _ (
    quota_no_float q.value _ (
    text_no_float (codes "key") q.key _ (
    entities_no_float q.entity _ (kind_calm (codes "ClientQuota")))))

entry_calm : (a : AccessControlEntryRecord) → Calm (access_control_entry_members a)
entry_calm a =
    whole_no_float (codes "permission") a.permission _ (
    whole_no_float (codes "operation") a.operation _ (
    text_no_float (codes "host") a.host _ (
    text_no_float (codes "principal") a.principal _ (
    whole_no_float (codes "patternType") a.pattern_type _ (
    text_no_float (codes "resourceName") a.resource_name _ (
    whole_no_float (codes "resourceType") a.resource_type _ (
    id_no_float (codes "id") a.id _ (kind_calm (codes "AccessControlEntry")))))))))

-- ---- records

record_calm : (r : MetaRecord) → Calm (members_of_record r)
record_calm (RegisterBroker b) = broker_calm b
record_calm (Topic t) = topic_calm t
record_calm (Partition p) = partition_calm p
record_calm (Config c) = config_calm c
record_calm (PartitionChange c) = change_calm c
record_calm (RemoveTopic topic) = id_no_float (codes "topicId") topic _ (kind_calm (codes "RemoveTopic"))
record_calm (UserScramCredential u) = credential_calm u
record_calm (ClientQuota q) = client_quota_calm q
record_calm (ProducerIds p) = producer_calm p
record_calm (AccessControlEntry a) = entry_calm a
record_calm (RemoveAccessControlEntry entry) = id_no_float (codes "id") entry _ (kind_calm (codes "RemoveAccessControlEntry"))
record_calm NoOp = kind_calm (codes "NoOp")
record_calm (ZkMigrationState state) = whole_no_float (codes "state") state _ (kind_calm (codes "ZkMigrationState"))
record_calm (RemoveUserScramCredential name mechanism) = whole_no_float (codes "mechanism") mechanism _ (text_no_float (codes "name") name _ (kind_calm (codes "RemoveUserScramCredential")))
record_calm (BeginTransaction name) = tagged_text_no_float (codes "name") name _ (kind_calm (codes "BeginTransaction"))
record_calm EndTransaction = kind_calm (codes "EndTransaction")
record_calm (AbortTransaction reason) = tagged_text_no_float (codes "reason") reason _ (kind_calm (codes "AbortTransaction"))

pub record_no_float : (r : MetaRecord) → has_float (record_data r) ≡ false
unfolding record_data
record_no_float r = (record_calm r).none
