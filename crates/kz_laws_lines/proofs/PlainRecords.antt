-- What is written of a record is plain data.
use Rattle.std.proofs.Common.{◌≡◌, ℕ, suc, pos, negsuc, true, false, Bool, cond, List, refl, codes}
use Rattle.std.specs.Prelude.{map}
use Rattle.json.proofs.Printed.Utf8.{are_ascii}
use Rattle.serde_json.specs.Data.{array, Members}
use Rattle.serde_json.specs.View.{items_of}
use Rattle.kz_types.specs.Quotas.{is_quota}
use Rattle.kz_spec_data.specs.Quotas.{quota_text}
use Rattle.kz_laws_values.proofs.QuotaTexts.{quota_is_text}
use Rattle.kz_types.specs.declared.row.QuotaValue.{QuotaValue}
use Rattle.kz_types.specs.declared.record.Endpoint.{Endpoint}
use Rattle.kz_types.specs.declared.record.Feature.{Feature}
use Rattle.kz_types.specs.declared.record.RegisterBrokerRecord.{RegisterBrokerRecord}
use Rattle.kz_types.specs.declared.record.TopicRecord.{TopicRecord}
use Rattle.kz_types.specs.declared.record.PartitionRecord.{PartitionRecord}
use Rattle.kz_types.specs.declared.record.ConfigRecord.{ConfigRecord}
use Rattle.kz_types.specs.declared.record.PartitionChangeRecord.{PartitionChangeRecord}
use Rattle.kz_types.specs.declared.record.UserScramCredentialRecord.{UserScramCredentialRecord}
use Rattle.kz_types.specs.declared.record.QuotaEntity.{QuotaEntity}
use Rattle.kz_types.specs.declared.record.ClientQuotaRecord.{ClientQuotaRecord}
use Rattle.kz_types.specs.declared.record.ProducerIdsRecord.{ProducerIdsRecord}
use Rattle.kz_types.specs.declared.record.AccessControlEntryRecord.{AccessControlEntryRecord}
use Rattle.kz_types.specs.declared.record.MetaRecord.{MetaRecord}
use Rattle.kz_types.specs.declared.record.MetaRecord.TheVariants.{RegisterBroker, Topic, Partition, Config, PartitionChange, RemoveTopic, UserScramCredential, ClientQuota, ProducerIds, AccessControlEntry, RemoveAccessControlEntry, NoOp, ZkMigrationState, RemoveUserScramCredential, BeginTransaction, EndTransaction, AbortTransaction}
use Rattle.kz_spec_data.specs.Members.{with_text, with_whole}
use Rattle.kz_spec_data.specs.WrittenRecords.{kind_member, topic_members, partition_members, partition_change_members, endpoint_members, endpoint_data, feature_members, feature_data, with_endpoints, with_features, register_broker_members, config_members, producer_ids_members, user_scram_credential_members, entity_members, entity_data, with_entities, with_quota, client_quota_members, access_control_entry_members, members_of_record, record_data}
use Rattle.kz_laws_values.specs.Ranges.{IsLong}
use Rattle.kz_laws_values.proofs.Plain.{IsPlain, word}
use Rattle.kz_laws_lines.specs.Writable.{Each, IsInt32, IsTopic, IsPartition, IsPartitionChange, IsEndpoint, IsFeature, IsRegisterBroker, IsConfigRecord, IsProducerIds, IsUserScramCredential, IsEntity, IsClientQuota, IsAccessControlEntry, IsRecord}
use Rattle.kz_laws_lines.proofs.Values.{long_8, long_16, long_32, long_port}
use Rattle.kz_laws_lines.proofs.Fits.{Fits, fits_object, none_fits, with_data, with_a_text, with_a_whole, with_a_flag, with_an_id, with_some_bytes, with_a_nullable, each_is_plain, with_some_ints, with_tag_whole, with_tag_ints, with_tag_text}

kind_fits : (n : ℕ) (name : List ℕ) → are_ascii name ≡ true → Fits n (kind_member name)
kind_fits n name h = with_a_text n (codes "kind") name _ refl (word name h) (none_fits n)

-- ---- topics

topic_fits : (n : ℕ) (t : TopicRecord) → IsTopic t → Fits (suc (suc n)) (topic_members t)
topic_fits n t h =
    with_an_id (suc (suc n)) (codes "topicId") t.topic_id _ refl (
    with_a_text (suc (suc n)) (codes "name") t.name _ refl h.name (kind_fits (suc (suc n)) (codes "Topic") refl))

partition_fits : (n : ℕ) (p : PartitionRecord) → IsPartition p → Fits (suc (suc n)) (partition_members p)
partition_fits n p h =
    with_a_whole (suc (suc n)) (codes "partitionEpoch") p.partition_epoch _ refl (long_32 p.partition_epoch h.partition_epoch) (
    with_a_whole (suc (suc n)) (codes "leaderEpoch") p.leader_epoch _ refl (long_32 p.leader_epoch h.leader_epoch) (
    with_tag_whole (suc (suc n)) (codes "recovery") (pos 0) p.recovery _ refl (long_8 p.recovery h.recovery) (
    with_a_whole (suc (suc n)) (codes "leader") p.leader _ refl (long_32 p.leader h.leader) (
    with_some_ints (suc n) (codes "adding") p.adding _ refl h.adding (
    with_some_ints (suc n) (codes "removing") p.removing _ refl h.removing (
    with_some_ints (suc n) (codes "isr") p.isr _ refl h.isr (
    with_some_ints (suc n) (codes "replicas") p.replicas _ refl h.replicas (
    with_an_id (suc (suc n)) (codes "topicId") p.topic_id _ refl (
    with_a_whole (suc (suc n)) (codes "partitionId") p.partition_id _ refl (long_32 p.partition_id h.partition_id) (kind_fits (suc (suc n)) (codes "Partition") refl))))))))))

change_fits : (n : ℕ) (c : PartitionChangeRecord) → IsPartitionChange c → Fits (suc (suc n)) (partition_change_members c)
change_fits n c h =
    with_tag_whole (suc (suc n)) (codes "recovery") (negsuc 0) c.recovery _ refl (long_8 c.recovery h.recovery) (
    with_tag_ints (suc n) (codes "adding") c.adding _ refl h.adding (
    with_tag_ints (suc n) (codes "removing") c.removing _ refl h.removing (
    with_tag_ints (suc n) (codes "replicas") c.replicas _ refl h.replicas (
    with_tag_whole (suc (suc n)) (codes "leader") (negsuc 1) c.leader _ refl (long_32 c.leader h.leader) (
    with_tag_ints (suc n) (codes "isr") c.isr _ refl h.isr (
    with_an_id (suc (suc n)) (codes "topicId") c.topic_id _ refl (
    with_a_whole (suc (suc n)) (codes "partitionId") c.partition_id _ refl (long_32 c.partition_id h.partition_id) (kind_fits (suc (suc n)) (codes "PartitionChange") refl))))))))

-- ---- brokers

endpoint_fits : (n : ℕ) (e : Endpoint) → IsEndpoint e → IsPlain (suc n) (endpoint_data e)
endpoint_fits n e h =
    fits_object n (endpoint_members e)
    (with_a_whole n (codes "protocol") e.protocol _ refl (long_16 e.protocol h.protocol)
    (with_a_whole n (codes "port") (pos e.port) _ refl (long_port e.port h.port)
    (with_a_text n (codes "host") e.host _ refl h.host
    (with_a_text n (codes "name") e.name _ refl h.name (none_fits n)))))

feature_fits : (n : ℕ) (f : Feature) → IsFeature f → IsPlain (suc n) (feature_data f)
feature_fits n f h =
    fits_object n (feature_members f)
    (with_a_whole n (codes "max") f.max _ refl (long_16 f.max h.max_is)
    (with_a_whole n (codes "min") f.min _ refl (long_16 f.min h.min_is)
    (with_a_text n (codes "name") f.name _ refl h.name (none_fits n))))

with_some_endpoints : (n : ℕ) (es : List Endpoint) (ms : Members) → Each IsEndpoint es → Fits (suc (suc n)) ms → Fits (suc (suc n)) (with_endpoints es ms)
with_some_endpoints n es ms are h = with_data (suc (suc n)) (codes "endpoints") (array (items_of (map endpoint_data es))) ms refl (each_is_plain (suc n) IsEndpoint endpoint_data (endpoint_fits n) es are) h

with_some_features : (n : ℕ) (fs : List Feature) (ms : Members) → Each IsFeature fs → Fits (suc (suc n)) ms → Fits (suc (suc n)) (with_features fs ms)
with_some_features n fs ms are h = with_data (suc (suc n)) (codes "features") (array (items_of (map feature_data fs))) ms refl (each_is_plain (suc n) IsFeature feature_data (feature_fits n) fs are) h

broker_fits : (n : ℕ) (b : RegisterBrokerRecord) → IsRegisterBroker b → Fits (suc (suc n)) (register_broker_members b)
broker_fits n b h =
    with_a_flag (suc (suc n)) (codes "inShutdown") b.in_shutdown _ refl (
    with_a_flag (suc (suc n)) (codes "fenced") b.fenced _ refl (
    with_a_nullable (suc (suc n)) (codes "rack") b.rack _ refl h.rack (
    with_some_features n b.features _ h.features (
    with_some_endpoints n b.endpoints _ h.endpoints (
    with_a_whole (suc (suc n)) (codes "brokerEpoch") b.broker_epoch _ refl h.broker_epoch (
    with_an_id (suc (suc n)) (codes "incarnation") b.incarnation _ refl (
    with_a_flag (suc (suc n)) (codes "migrating") b.migrating _ refl (
    with_a_whole (suc (suc n)) (codes "brokerId") b.broker_id _ refl (long_32 b.broker_id h.broker_id) (
    kind_fits (suc (suc n)) (codes "RegisterBroker") refl)))))))))

config_fits : (n : ℕ) (c : ConfigRecord) → IsConfigRecord c → Fits (suc (suc n)) (config_members c)
config_fits n c h =
    with_a_nullable (suc (suc n)) (codes "value") c.value _ refl h.value (
    with_a_text (suc (suc n)) (codes "name") c.name _ refl h.name (
    with_a_text (suc (suc n)) (codes "resourceName") c.resource_name _ refl h.resource_name (
    with_a_whole (suc (suc n)) (codes "resourceType") c.resource_type _ refl (long_8 c.resource_type h.resource_type) (kind_fits (suc (suc n)) (codes "Config") refl))))

producer_fits : (n : ℕ) (p : ProducerIdsRecord) → IsProducerIds p → Fits (suc (suc n)) (producer_ids_members p)
producer_fits n p h =
    with_a_whole (suc (suc n)) (codes "next") p.next _ refl h.next (
    with_a_whole (suc (suc n)) (codes "brokerEpoch") p.broker_epoch _ refl h.broker_epoch (
    with_a_whole (suc (suc n)) (codes "brokerId") p.broker_id _ refl (long_32 p.broker_id h.broker_id) (kind_fits (suc (suc n)) (codes "ProducerIds") refl)))

-- ---- users and clients

credential_fits : (n : ℕ) (u : UserScramCredentialRecord) → IsUserScramCredential u → Fits (suc (suc n)) (user_scram_credential_members u)
credential_fits n u h =
    with_a_whole (suc (suc n)) (codes "iterations") u.iterations _ refl (long_32 u.iterations h.iterations) (
    with_some_bytes (suc (suc n)) (codes "serverKey") u.server_key _ refl (
    with_some_bytes (suc (suc n)) (codes "storedKey") u.stored_key _ refl (
    with_some_bytes (suc (suc n)) (codes "salt") u.salt _ refl (
    with_a_whole (suc (suc n)) (codes "mechanism") u.mechanism _ refl (long_8 u.mechanism h.mechanism) (
    with_a_text (suc (suc n)) (codes "name") u.name _ refl h.name (kind_fits (suc (suc n)) (codes "UserScramCredential") refl))))))

entity_fits : (n : ℕ) (e : QuotaEntity) → IsEntity e → IsPlain (suc n) (entity_data e)
entity_fits n e h =
    fits_object n (entity_members e)
    (with_a_nullable n (codes "name") e.name _ refl h.name
    (with_a_text n (codes "kind") e.kind _ refl h.kind (none_fits n)))

with_some_entities : (n : ℕ) (parts : List QuotaEntity) (ms : Members) → Each IsEntity parts → Fits (suc (suc n)) ms → Fits (suc (suc n)) (with_entities parts ms)
with_some_entities n parts ms are h = with_data (suc (suc n)) (codes "entity") (array (items_of (map entity_data parts))) ms refl (each_is_plain (suc n) IsEntity entity_data (entity_fits n) parts are) h

with_a_quota : (n : ℕ) (q : QuotaValue) (ms : Members) → IsLong q.whole → IsInt32 q.micros → Fits n ms → Fits n (with_quota q ms)
with_a_quota n q ms whole micros h = by (is_quota q) refl
  where
    by : (b : Bool) → is_quota q ≡ b → Fits n (cond b (with_text (codes "value") (quota_text q) ms) (with_whole (codes "micros") q.micros (with_whole (codes "whole") q.whole ms)))
    by true is = with_a_text n (codes "value") (quota_text q) ms refl (quota_is_text q is whole.1) h
    by false is = with_a_whole n (codes "micros") q.micros _ refl (long_32 q.micros micros) (with_a_whole n (codes "whole") q.whole ms refl whole h)

client_quota_fits : (n : ℕ) (q : ClientQuotaRecord) → IsClientQuota q → Fits (suc (suc n)) (client_quota_members q)
client_quota_fits n q h =
    with_a_flag (suc (suc n)) (codes "remove") q.remove _ refl (
    with_a_quota (suc (suc n)) q.value _ h.whole h.micros (
    with_a_text (suc (suc n)) (codes "key") q.key _ refl h.key (
    with_some_entities n q.entity _ h.parts (
    kind_fits (suc (suc n)) (codes "ClientQuota") refl))))

entry_fits : (n : ℕ) (a : AccessControlEntryRecord) → IsAccessControlEntry a → Fits (suc (suc n)) (access_control_entry_members a)
entry_fits n a h =
    with_a_whole (suc (suc n)) (codes "permission") a.permission _ refl (long_8 a.permission h.permission) (
    with_a_whole (suc (suc n)) (codes "operation") a.operation _ refl (long_8 a.operation h.operation) (
    with_a_text (suc (suc n)) (codes "host") a.host _ refl h.host (
    with_a_text (suc (suc n)) (codes "principal") a.principal _ refl h.principal (
    with_a_whole (suc (suc n)) (codes "patternType") a.pattern_type _ refl (long_8 a.pattern_type h.pattern_type) (
    with_a_text (suc (suc n)) (codes "resourceName") a.resource_name _ refl h.resource_name (
    with_a_whole (suc (suc n)) (codes "resourceType") a.resource_type _ refl (long_8 a.resource_type h.resource_type) (
    with_an_id (suc (suc n)) (codes "id") a.id _ refl (kind_fits (suc (suc n)) (codes "AccessControlEntry") refl))))))))

-- ---- records

members_fit : (n : ℕ) (r : MetaRecord) → IsRecord r → Fits (suc (suc n)) (members_of_record r)
members_fit n (RegisterBroker b) h = broker_fits n b h
members_fit n (Topic t) h = topic_fits n t h
members_fit n (Partition p) h = partition_fits n p h
members_fit n (Config c) h = config_fits n c h
members_fit n (PartitionChange c) h = change_fits n c h
members_fit n (RemoveTopic topic) h = with_an_id (suc (suc n)) (codes "topicId") topic _ refl (kind_fits (suc (suc n)) (codes "RemoveTopic") refl)
members_fit n (UserScramCredential u) h = credential_fits n u h
members_fit n (ClientQuota q) h = client_quota_fits n q h
members_fit n (ProducerIds p) h = producer_fits n p h
members_fit n (AccessControlEntry a) h = entry_fits n a h
members_fit n (RemoveAccessControlEntry entry) h = with_an_id (suc (suc n)) (codes "id") entry _ refl (kind_fits (suc (suc n)) (codes "RemoveAccessControlEntry") refl)
members_fit n NoOp h = kind_fits (suc (suc n)) (codes "NoOp") refl
members_fit n (ZkMigrationState state) h = with_a_whole (suc (suc n)) (codes "state") state _ refl (long_8 state h) (kind_fits (suc (suc n)) (codes "ZkMigrationState") refl)
members_fit n (RemoveUserScramCredential name mechanism) h =
    with_a_whole (suc (suc n)) (codes "mechanism") mechanism _ refl (long_8 mechanism h.1) (with_a_text (suc (suc n)) (codes "name") name _ refl h.0 (kind_fits (suc (suc n)) (codes "RemoveUserScramCredential") refl))
members_fit n (BeginTransaction name) h = with_tag_text (suc (suc n)) (codes "name") name _ refl h (kind_fits (suc (suc n)) (codes "BeginTransaction") refl)
members_fit n EndTransaction h = kind_fits (suc (suc n)) (codes "EndTransaction") refl
members_fit n (AbortTransaction reason) h = with_tag_text (suc (suc n)) (codes "reason") reason _ refl h (kind_fits (suc (suc n)) (codes "AbortTransaction") refl)

pub record_is_plain : (n : ℕ) (r : MetaRecord) → IsRecord r → IsPlain (suc (suc (suc n))) (record_data r)
unfolding record_data
record_is_plain n r h = fits_object (suc (suc n)) (members_of_record r) (members_fit n r h)
