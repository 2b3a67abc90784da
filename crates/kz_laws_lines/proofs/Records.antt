-- What is written of a record is read as that record.
use Rattle.std.proofs.Common.{◌≡◌, ℕ, ℤ, pos, Bool, true, false, cond, List, Option, Some, None, refl, sym, ap, codes}
use Rattle.std.specs.Ordering.{int_eq}
use Rattle.std.proofs.lemmas.Bool.Decides.{Decides-int_eq}
use Rattle.serde_json.specs.Data.{Members, object}
use Rattle.kz_types.specs.QuotaEntities.{is_client_first, other_order, user_first}
use Rattle.kz_types.specs.Quotas.{is_quota}
use Rattle.kz_spec_data.specs.Quotas.{quota_text}
use Rattle.kz_laws_values.proofs.QuotaTexts.{quota_restored}
use Rattle.kz_types.specs.declared.id.Id.{Id}
use Rattle.kz_types.specs.declared.record.Endpoint.{Endpoint}
use Rattle.kz_types.specs.declared.record.Feature.{Feature}
use Rattle.kz_types.specs.declared.record.RegisterBrokerRecord.{RegisterBrokerRecord}
use Rattle.kz_types.specs.declared.record.TopicRecord.{TopicRecord}
use Rattle.kz_types.specs.declared.record.PartitionRecord.{PartitionRecord}
use Rattle.kz_types.specs.declared.record.ConfigRecord.{ConfigRecord}
use Rattle.kz_types.specs.declared.record.UserScramCredentialRecord.{UserScramCredentialRecord}
use Rattle.kz_types.specs.declared.record.QuotaEntity.{QuotaEntity}
use Rattle.kz_types.specs.declared.record.ClientQuotaRecord.{ClientQuotaRecord}
use Rattle.kz_types.specs.declared.record.ProducerIdsRecord.{ProducerIdsRecord}
use Rattle.kz_types.specs.declared.record.AccessControlEntryRecord.{AccessControlEntryRecord}
use Rattle.kz_types.specs.declared.record.MetaRecord.{MetaRecord}
use Rattle.kz_types.specs.declared.record.MetaRecord.TheVariants.{RegisterBroker, Topic, Partition, Config, PartitionChange, RemoveTopic, UserScramCredential, ClientQuota, ProducerIds, AccessControlEntry, RemoveAccessControlEntry, NoOp, ZkMigrationState, RemoveUserScramCredential, BeginTransaction, EndTransaction, AbortTransaction}
use Rattle.kz_spec_data.specs.Json.{text_or_null}
use Rattle.kz_spec_data.specs.Members.{text_or_null_data, with_tagged_whole, with_tagged_text, with_whole, with_text, with_ints, with_id, with_flag}
use Rattle.kz_spec_data.specs.TopicRecords.{topic_of, partition_with, remove_topic_of}
use Rattle.kz_spec_data.specs.BrokerRecords.{endpoint_of, feature_of, register_broker_of, config_of, producer_ids_of}
use Rattle.kz_spec_data.specs.UserRecords.{user_scram_credential_of, remove_user_scram_credential_of, entity_of, access_control_entry_of, remove_access_control_entry_of}
use Rattle.kz_spec_data.specs.LogRecords.{zk_migration_state_of}
use Rattle.kz_spec_data.specs.RecordLines.{log_forms, user_forms, topic_forms, record_of}
use Rattle.kz_spec_data.specs.WrittenRecords.{◌|>◌, kind_member, topic_members, endpoint_data, feature_data, register_broker_members, config_members, producer_ids_members, user_scram_credential_members, entity_data, with_entities, access_control_entry_members, record_data}
use Rattle.kz_laws_lines.specs.Writable.{IsInt8, IsUuid, IsTopic, IsPartition, IsEndpoint, IsFeature, IsRegisterBroker, IsConfigRecord, IsProducerIds, IsUserScramCredential, IsEntity, IsClientQuota, IsAccessControlEntry, IsRecord}
use Rattle.kz_laws_lines.proofs.Changes.{change_says}
use Rattle.kz_laws_lines.proofs.Values.{int8_is, int16_is, int32_is, int64_is, uint16_is, each_is, ints_is, bytes_are, uuid_is}

-- ---- topics

topic_says : (t : TopicRecord) → IsTopic t → topic_of (object (topic_members t)) ≡ Some (Topic t)
topic_says t h = rw (uuid_is t.topic_id h.topic_id) refl

-- the members of a partition that stand before its recovery state
abbrev before : PartitionRecord → Members
before p =
    kind_member (codes "Partition")
    |> with_whole (codes "partitionId") p.partition_id
    |> with_id (codes "topicId") p.topic_id
    |> with_ints (codes "replicas") p.replicas
    |> with_ints (codes "isr") p.isr
    |> with_ints (codes "removing") p.removing
    |> with_ints (codes "adding") p.adding
    |> with_whole (codes "leader") p.leader

abbrev and_epochs : PartitionRecord → Members → Members
and_epochs p ms = ms |> with_whole (codes "leaderEpoch") p.leader_epoch |> with_whole (codes "partitionEpoch") p.partition_epoch

-- a partition, but for its recovery state
abbrev recovering : PartitionRecord → ℤ → Option MetaRecord
recovering p r = Some (Partition (record { partition_id = p.partition_id; topic_id = p.topic_id; replicas = p.replicas; isr = p.isr; removing = p.removing; adding = p.adding; leader = p.leader; recovery = r; leader_epoch = p.leader_epoch; partition_epoch = p.partition_epoch }))

partition_by : (p : PartitionRecord) (zero : Bool) → int_eq p.recovery (pos 0) ≡ zero → IsPartition p
    → record_of (object (and_epochs p (cond zero (before p) (with_whole (codes "recovery") p.recovery (before p))))) ≡ Some (Partition p)
unfolding record_of topic_forms partition_with
partition_by p true is h =
    rw (int32_is p.partition_id h.partition_id, uuid_is p.topic_id h.topic_id, ints_is p.replicas h.replicas, ints_is p.isr h.isr, ints_is p.removing h.removing, ints_is p.adding h.adding, int32_is p.leader h.leader, int32_is p.leader_epoch h.leader_epoch, int32_is p.partition_epoch h.partition_epoch)
    (ap (recovering p) (sym ((Decides-int_eq p.recovery (pos 0)).0 is)))
partition_by p false is h =
    rw (int32_is p.partition_id h.partition_id, uuid_is p.topic_id h.topic_id, ints_is p.replicas h.replicas, ints_is p.isr h.isr, ints_is p.removing h.removing, ints_is p.adding h.adding, int32_is p.leader h.leader, int8_is p.recovery h.recovery, int32_is p.leader_epoch h.leader_epoch, int32_is p.partition_epoch h.partition_epoch)
    refl

partition_says : (p : PartitionRecord) → IsPartition p → record_of (record_data (Partition p)) ≡ Some (Partition p)
unfolding record_data with_tagged_whole
partition_says p h = partition_by p _ refl h

remove_topic_says : (i : Id) → IsUuid i → remove_topic_of (object (with_id (codes "topicId") i (kind_member (codes "RemoveTopic")))) ≡ Some (RemoveTopic i)
remove_topic_says i h = rw (uuid_is i h) refl

-- ---- brokers

endpoint_is : (e : Endpoint) → IsEndpoint e → endpoint_of (endpoint_data e) ≡ Some e
endpoint_is e h = rw (uint16_is e.port h.port, int16_is e.protocol h.protocol) refl

feature_is : (f : Feature) → IsFeature f → feature_of (feature_data f) ≡ Some f
feature_is f h = rw (int16_is f.min h.min_is, int16_is f.max h.max_is) refl

-- a text or null is read as it was written
nullable_is : (text : Option (List ℕ)) → text_or_null (text_or_null_data text) ≡ Some text
nullable_is None = refl
nullable_is (Some text) = refl

broker_says : (b : RegisterBrokerRecord) → IsRegisterBroker b → register_broker_of (object (register_broker_members b)) ≡ Some (RegisterBroker b)
broker_says b h =
    rw (
      int32_is b.broker_id h.broker_id,
      uuid_is b.incarnation h.incarnation,
      int64_is b.broker_epoch h.broker_epoch,
      each_is IsEndpoint endpoint_data endpoint_of endpoint_is b.endpoints h.endpoints,
      each_is IsFeature feature_data feature_of feature_is b.features h.features,
      nullable_is b.rack,
    ) refl

config_says : (c : ConfigRecord) → IsConfigRecord c → config_of (object (config_members c)) ≡ Some (Config c)
config_says c h = rw (int8_is c.resource_type h.resource_type, nullable_is c.value) refl

producer_says : (p : ProducerIdsRecord) → IsProducerIds p → producer_ids_of (object (producer_ids_members p)) ≡ Some (ProducerIds p)
producer_says p h = rw (int32_is p.broker_id h.broker_id, int64_is p.broker_epoch h.broker_epoch, int64_is p.next h.next) refl

-- ---- users and clients

credential_says : (u : UserScramCredentialRecord) → IsUserScramCredential u → user_scram_credential_of (object (user_scram_credential_members u)) ≡ Some (UserScramCredential u)
credential_says u h = rw (int8_is u.mechanism h.mechanism, bytes_are u.salt h.salt, bytes_are u.stored_key h.stored_key, bytes_are u.server_key h.server_key, int32_is u.iterations h.iterations) refl

remove_credential_says : (name : List ℕ) (mechanism : ℤ) → IsInt8 mechanism
    → remove_user_scram_credential_of (object (with_whole (codes "mechanism") mechanism (with_text (codes "name") name (kind_member (codes "RemoveUserScramCredential"))))) ≡ Some (RemoveUserScramCredential name mechanism)
remove_credential_says name mechanism h = rw (int8_is mechanism h) refl

entity_is : (e : QuotaEntity) → IsEntity e → entity_of (entity_data e) ≡ Some e
entity_is e h = rw (nullable_is e.name) refl

in_order : (parts : List QuotaEntity) → is_client_first parts ≡ false → user_first parts ≡ parts
in_order parts h = (λ i. cond (h i) (other_order parts) parts)

-- the members of a quota without its value
abbrev without_value : ClientQuotaRecord → Members
without_value q = kind_member (codes "ClientQuota") |> with_entities q.entity |> with_text (codes "key") q.key

quota_by : (q : ClientQuotaRecord) (text : Bool) → is_quota q.value ≡ text → IsClientQuota q
    → record_of (object (with_flag (codes "remove") q.remove (cond text (with_text (codes "value") (quota_text q.value) (without_value q))
    (with_whole (codes "micros") q.value.micros (with_whole (codes "whole") q.value.whole (without_value q)))))) ≡ Some (ClientQuota q)
unfolding record_of topic_forms user_forms
quota_by q true is h =
    rw (each_is IsEntity entity_data entity_of entity_is q.entity h.parts, in_order q.entity h.order, quota_restored q.value is h.whole.1) refl
quota_by q false is h =
    rw (each_is IsEntity entity_data entity_of entity_is q.entity h.parts, in_order q.entity h.order, int64_is q.value.whole h.whole, int32_is q.value.micros h.micros, is) refl

quota_says : (q : ClientQuotaRecord) → IsClientQuota q → record_of (record_data (ClientQuota q)) ≡ Some (ClientQuota q)
unfolding record_data
quota_says q h = quota_by q _ refl h

entry_says : (a : AccessControlEntryRecord) → IsAccessControlEntry a → access_control_entry_of (object (access_control_entry_members a)) ≡ Some (AccessControlEntry a)
entry_says a h = rw (uuid_is a.id h.id, int8_is a.resource_type h.resource_type, int8_is a.pattern_type h.pattern_type, int8_is a.operation h.operation, int8_is a.permission h.permission) refl

remove_entry_says : (i : Id) → IsUuid i → remove_access_control_entry_of (object (with_id (codes "id") i (kind_member (codes "RemoveAccessControlEntry")))) ≡ Some (RemoveAccessControlEntry i)
remove_entry_says i h = rw (uuid_is i h) refl

-- ---- the log

state_says : (state : ℤ) → IsInt8 state → zk_migration_state_of (object (with_whole (codes "state") state (kind_member (codes "ZkMigrationState")))) ≡ Some (ZkMigrationState state)
state_says state h = rw (int8_is state h) refl

begin_says : (name : Option (List ℕ)) → record_of (record_data (BeginTransaction name)) ≡ Some (BeginTransaction name)
unfolding record_of record_data topic_forms user_forms log_forms with_tagged_text
begin_says None = refl
begin_says (Some name) = refl

abort_says : (reason : Option (List ℕ)) → record_of (record_data (AbortTransaction reason)) ≡ Some (AbortTransaction reason)
unfolding record_of record_data topic_forms user_forms log_forms with_tagged_text
abort_says None = refl
abort_says (Some reason) = refl

-- ---- records

pub record_is_read : (r : MetaRecord) → IsRecord r → record_of (record_data r) ≡ Some r
unfolding record_of record_data topic_forms user_forms log_forms
record_is_read (RegisterBroker b) h = broker_says b h
record_is_read (Topic t) h = topic_says t h
record_is_read (Partition p) h = partition_says p h
record_is_read (Config c) h = config_says c h
record_is_read (PartitionChange c) h = change_says c h
record_is_read (RemoveTopic topic) h = remove_topic_says topic h
record_is_read (UserScramCredential u) h = credential_says u h
record_is_read (ClientQuota q) h = quota_says q h
record_is_read (ProducerIds p) h = producer_says p h
record_is_read (AccessControlEntry a) h = entry_says a h
record_is_read (RemoveAccessControlEntry entry) h = remove_entry_says entry h
record_is_read NoOp h = refl
record_is_read (ZkMigrationState state) h = state_says state h
record_is_read (RemoveUserScramCredential name mechanism) h = remove_credential_says name mechanism h.1
record_is_read (BeginTransaction name) h = begin_says name
record_is_read EndTransaction h = refl
record_is_read (AbortTransaction reason) h = abort_says reason
