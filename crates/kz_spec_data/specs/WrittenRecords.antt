-- Records as JSON values: `kind`, and the fields under their names.
use Rattle.std.specs.Prelude.{ℕ, pos, negsuc, List, map, if◌then◌else◌, codes}
use Rattle.serde_json.specs.Data.{Data, array, object, Members, no_members, put}
use Rattle.serde_json.specs.View.{items_of}
use Rattle.kz_types.specs.Quotas.{is_quota}
use Rattle.kz_spec_data.specs.Quotas.{quota_text}
use Rattle.kz_types.specs.declared.row.QuotaValue.{QuotaValue}
use Rattle.kz_types.specs.declared.record.Endpoint.{Endpoint}
use Rattle.kz_types.specs.declared.record.Feature.{Feature}
use Rattle.kz_types.specs.declared.record.RegisterBrokerRecord.{RegisterBrokerRecord}
use Rattle.kz_types.specs.declared.record.TopicRecord.{TopicRecord}
use Rattle.kz_types.specs.declared.record.PartitionRecord.{PartitionRecord}
use Rattle.kz_types.specs.declared.record.ConfigRecord.{ConfigRecord}
use Rattle.kz_types.specs.declared.record.PartitionChangeRecord.{PartitionChangeRecord}
use Rattle.kz_types.specs.declared.record.UserScramCredentialRecord.{UserScramCredentialRecord}
use Rattle.kz_types.specs.declared.record.QuotaEntity.{QuotaEntity}
use Rattle.kz_types.specs.declared.record.ClientQuotaRecord.{ClientQuotaRecord}
use Rattle.kz_types.specs.declared.record.ProducerIdsRecord.{ProducerIdsRecord}
use Rattle.kz_types.specs.declared.record.AccessControlEntryRecord.{AccessControlEntryRecord}
use Rattle.kz_types.specs.declared.record.MetaRecord.{MetaRecord}
use Rattle.kz_types.specs.declared.record.MetaRecord.TheVariants.{RegisterBroker, Topic, Partition, Config, PartitionChange, RemoveTopic, UserScramCredential, ClientQuota, ProducerIds, AccessControlEntry, RemoveAccessControlEntry, NoOp, ZkMigrationState, RemoveUserScramCredential, BeginTransaction, EndTransaction, AbortTransaction}
use Rattle.kz_spec_data.specs.Members.{with_text, with_whole, with_text_or_null, with_flag, with_id, with_bytes, with_ints, with_tagged_whole, with_tagged_ints, with_tagged_text}

-- members, and one more
infixl 10 ◌|>◌
abbrev pub ◌|>◌ : Members → (Members → Members) → Members
ms |> more = more ms

-- `kind` alone
abbrev pub kind_member : List ℕ → Members
kind_member name = with_text (codes "kind") name no_members

-- ---- topics

-- a topic
abbrev pub topic_members : TopicRecord → Members
topic_members t =
    kind_member (codes "Topic")
    |> with_text (codes "name") t.name
    |> with_id (codes "topicId") t.topic_id

-- a partition; its recovery state is 0 by default
abbrev pub partition_members : PartitionRecord → Members
partition_members p =
    kind_member (codes "Partition")
    |> with_whole (codes "partitionId") p.partition_id
    |> with_id (codes "topicId") p.topic_id
    |> with_ints (codes "replicas") p.replicas
    |> with_ints (codes "isr") p.isr
    |> with_ints (codes "removing") p.removing
    |> with_ints (codes "adding") p.adding
    |> with_whole (codes "leader") p.leader
    |> with_tagged_whole (codes "recovery") (pos 0) p.recovery
    |> with_whole (codes "leaderEpoch") p.leader_epoch
    |> with_whole (codes "partitionEpoch") p.partition_epoch

-- a change of a partition: a list is null by default, the leader -2 and the recovery state -1
abbrev pub partition_change_members : PartitionChangeRecord → Members
partition_change_members c =
    kind_member (codes "PartitionChange")
    |> with_whole (codes "partitionId") c.partition_id
    |> with_id (codes "topicId") c.topic_id
    |> with_tagged_ints (codes "isr") c.isr
    |> with_tagged_whole (codes "leader") (negsuc 1) c.leader
    |> with_tagged_ints (codes "replicas") c.replicas
    |> with_tagged_ints (codes "removing") c.removing
    |> with_tagged_ints (codes "adding") c.adding
    |> with_tagged_whole (codes "recovery") (negsuc 0) c.recovery

-- ---- brokers

-- the members of an endpoint
abbrev pub endpoint_members : Endpoint → Members
endpoint_members e =
    no_members
    |> with_text (codes "name") e.name
    |> with_text (codes "host") e.host
    |> with_whole (codes "port") (pos e.port)
    |> with_whole (codes "protocol") e.protocol

-- an endpoint as a JSON value
abbrev pub endpoint_data : Endpoint → Data
endpoint_data e = object (endpoint_members e)

-- the members of a feature
abbrev pub feature_members : Feature → Members
feature_members f =
    no_members
    |> with_text (codes "name") f.name
    |> with_whole (codes "min") f.min
    |> with_whole (codes "max") f.max

-- a feature as a JSON value
abbrev pub feature_data : Feature → Data
feature_data f = object (feature_members f)

-- members, and a list of endpoints
abbrev pub with_endpoints : List Endpoint → Members → Members
with_endpoints endpoints ms = put (codes "endpoints") (array (items_of (map endpoint_data endpoints))) ms

-- members, and a list of features
abbrev pub with_features : List Feature → Members → Members
with_features features ms = put (codes "features") (array (items_of (map feature_data features))) ms

-- a registration of a broker
abbrev pub register_broker_members : RegisterBrokerRecord → Members
register_broker_members b =
    kind_member (codes "RegisterBroker")
    |> with_whole (codes "brokerId") b.broker_id
    |> with_flag (codes "migrating") b.migrating
    |> with_id (codes "incarnation") b.incarnation
    |> with_whole (codes "brokerEpoch") b.broker_epoch
    |> with_endpoints b.endpoints
    |> with_features b.features
    |> with_text_or_null (codes "rack") b.rack
    |> with_flag (codes "fenced") b.fenced
    |> with_flag (codes "inShutdown") b.in_shutdown

-- a member of a configuration
abbrev pub config_members : ConfigRecord → Members
config_members c =
    kind_member (codes "Config")
    |> with_whole (codes "resourceType") c.resource_type
    |> with_text (codes "resourceName") c.resource_name
    |> with_text (codes "name") c.name
    |> with_text_or_null (codes "value") c.value

-- a block of producer ids
abbrev pub producer_ids_members : ProducerIdsRecord → Members
producer_ids_members p =
    kind_member (codes "ProducerIds")
    |> with_whole (codes "brokerId") p.broker_id
    |> with_whole (codes "brokerEpoch") p.broker_epoch
    |> with_whole (codes "next") p.next

-- ---- users and clients

-- a credential
abbrev pub user_scram_credential_members : UserScramCredentialRecord → Members
user_scram_credential_members u =
    kind_member (codes "UserScramCredential")
    |> with_text (codes "name") u.name
    |> with_whole (codes "mechanism") u.mechanism
    |> with_bytes (codes "salt") u.salt
    |> with_bytes (codes "storedKey") u.stored_key
    |> with_bytes (codes "serverKey") u.server_key
    |> with_whole (codes "iterations") u.iterations

-- the members of a part of whom a quota speaks of
abbrev pub entity_members : QuotaEntity → Members
entity_members e =
    no_members
    |> with_text (codes "kind") e.kind
    |> with_text_or_null (codes "name") e.name

-- such a part as a JSON value
abbrev pub entity_data : QuotaEntity → Data
entity_data e = object (entity_members e)

-- members, and a list of these parts
abbrev pub with_entities : List QuotaEntity → Members → Members
with_entities parts ms = put (codes "entity") (array (items_of (map entity_data parts))) ms

-- the value of a quota: its text, or both parts where no text is this value
abbrev pub with_quota : QuotaValue → Members → Members
with_quota q ms =
    if is_quota q then with_text (codes "value") (quota_text q) ms
    else with_whole (codes "micros") q.micros (with_whole (codes "whole") q.whole ms)

-- a quota
abbrev pub client_quota_members : ClientQuotaRecord → Members
client_quota_members q =
    kind_member (codes "ClientQuota")
    |> with_entities q.entity
    |> with_text (codes "key") q.key
    |> with_quota q.value
    |> with_flag (codes "remove") q.remove

-- an access control entry
abbrev pub access_control_entry_members : AccessControlEntryRecord → Members
access_control_entry_members a =
    kind_member (codes "AccessControlEntry")
    |> with_id (codes "id") a.id
    |> with_whole (codes "resourceType") a.resource_type
    |> with_text (codes "resourceName") a.resource_name
    |> with_whole (codes "patternType") a.pattern_type
    |> with_text (codes "principal") a.principal
    |> with_text (codes "host") a.host
    |> with_whole (codes "operation") a.operation
    |> with_whole (codes "permission") a.permission

-- ---- records

-- the members of a record
abbrev pub members_of_record : MetaRecord → Members
members_of_record (RegisterBroker b) = register_broker_members b
members_of_record (Topic t) = topic_members t
members_of_record (Partition p) = partition_members p
members_of_record (Config c) = config_members c
members_of_record (PartitionChange c) = partition_change_members c
members_of_record (RemoveTopic topic) = kind_member (codes "RemoveTopic") |> with_id (codes "topicId") topic
members_of_record (UserScramCredential u) = user_scram_credential_members u
members_of_record (ClientQuota q) = client_quota_members q
members_of_record (ProducerIds p) = producer_ids_members p
members_of_record (AccessControlEntry a) = access_control_entry_members a
members_of_record (RemoveAccessControlEntry entry) = kind_member (codes "RemoveAccessControlEntry") |> with_id (codes "id") entry
members_of_record NoOp = kind_member (codes "NoOp")
members_of_record (ZkMigrationState state) = kind_member (codes "ZkMigrationState") |> with_whole (codes "state") state
members_of_record (RemoveUserScramCredential name mechanism) =
    kind_member (codes "RemoveUserScramCredential")
    |> with_text (codes "name") name
    |> with_whole (codes "mechanism") mechanism
members_of_record (BeginTransaction name) = kind_member (codes "BeginTransaction") |> with_tagged_text (codes "name") name
members_of_record EndTransaction = kind_member (codes "EndTransaction")
members_of_record (AbortTransaction reason) = kind_member (codes "AbortTransaction") |> with_tagged_text (codes "reason") reason

-- A record as a JSON value.
unfoldable pub record_data : MetaRecord → Data
record_data r = object (members_of_record r)
