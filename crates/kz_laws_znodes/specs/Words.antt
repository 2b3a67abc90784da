-- What a record that is accepted says of one thing that the metadata holds, from what was said of it before. A record that
-- speaks of something else leaves it as it was.
use Rattle.std.specs.Prelude.{ℕ, Bool, false, ◌&&◌, ℤ, pos, int_le, List, Option, Some, None, option_map, option_and_then, if◌then◌else◌}
use Rattle.std.specs.Ordering.{int_eq, int_cmp}
use Rattle.std.specs.Str.{bytes_eq}
use Rattle.kz_types.specs.declared.id.Id.{Id}
use Rattle.kz_types.specs.declared.bodies.Pair.{Pair}
use Rattle.kz_types.specs.declared.bodies.QuotaRow.{QuotaRow}
use Rattle.kz_types.specs.declared.row.PartitionRow.{PartitionRow}
use Rattle.kz_types.specs.declared.row.AclRow.{AclRow}
use Rattle.kz_types.specs.declared.row.ScramRow.{ScramRow}
use Rattle.kz_types.specs.declared.row.QuotaValue.{QuotaValue}
use Rattle.kz_types.specs.declared.key.EntityKey.{EntityKey}
use Rattle.kz_types.specs.declared.record.MetaRecord.{MetaRecord}
use Rattle.kz_types.specs.declared.record.MetaRecord.TheVariants as meta
use Rattle.kz_types.specs.declared.record.RegisterBrokerRecord.{RegisterBrokerRecord}
use Rattle.kz_types.specs.Paths.{path_of}
use Rattle.kz_types.specs.Order.{bytes_cmp}
use Rattle.kz_types.specs.Ordered.{find}
use Rattle.kz_spec_data.specs.Metadata.{Image, name_of_pair, key_of_quota, id_of_broker, same_id, topic_id_of, configs_of, quotas_of}
use Rattle.kz_spec_data.specs.ImageRules.{new_row, changed_row, quota_key}
use Rattle.kz_spec_data.specs.Image.{scram_row, acl_row}

-- ---- look-ups beside those of the metadata

-- the broker that is registered under an id
abbrev pub broker_of : ℤ → Image → Option RegisterBrokerRecord
broker_of id i = find int_cmp id_of_broker id i.brokers

-- the value of a member
abbrev pub value_in : List ℕ → List Pair → Option (List ℕ)
value_in member pairs = option_map (λ (p : Pair). p.value) (find bytes_cmp name_of_pair member pairs)

-- the value of a member of the configuration of a resource: 2 is a topic, 4 a broker
abbrev pub member_of : ℤ → List ℕ → List ℕ → Image → Option (List ℕ)
member_of kind name member i = option_and_then (value_in member) (configs_of kind name i)

-- the quota of this key
abbrev pub quota_in : List ℕ → List QuotaRow → Option QuotaValue
quota_in quota quotas = option_map (λ (q : QuotaRow). q.value) (find bytes_cmp key_of_quota quota quotas)

-- the quota of an entity by its key
abbrev pub quota_of : EntityKey → List ℕ → Image → Option QuotaValue
quota_of entity quota i = option_and_then (quota_in quota) (quotas_of entity i)

-- The id of the topic of a name, and the value of a member of its configuration.
pub record TopicMember : Type 0 where
  pub topic : Option Id
  pub value : Option (List ℕ)

-- the topic of a name with a member of its configuration
abbrev pub topic_member_of : List ℕ → List ℕ → Image → TopicMember
topic_member_of name member i = record { topic = topic_id_of name i; value = member_of (pos 2) name member i }

-- ---- brokers, access control entries, producer ids, the state of the migration

-- the broker of an id: its last registration
abbrev pub broker_word : ℤ → MetaRecord → Option RegisterBrokerRecord → Option RegisterBrokerRecord
broker_word id (meta.RegisterBroker r) before = if int_eq r.broker_id id then Some r else before
broker_word id r before = before

-- the access control entry of an id
abbrev pub acl_word : Id → MetaRecord → Option AclRow → Option AclRow
acl_word id (meta.AccessControlEntry r) before = if same_id r.id id then Some (acl_row r) else before
acl_word id (meta.RemoveAccessControlEntry removed) before = if same_id removed id then None else before
acl_word id r before = before

-- the next producer id
abbrev pub producer_word : MetaRecord → Option ℤ → Option ℤ
producer_word (meta.ProducerIds r) before = Some r.next
producer_word r before = before

-- the state of the migration, which is 0 to 3
abbrev pub state_word : MetaRecord → ℤ → ℤ
state_word (meta.ZkMigrationState state) before = if int_le (pos 0) state && int_le state (pos 3) then state else before
state_word r before = before

-- ---- configurations of brokers, credentials, quotas

-- a member of a broker's configuration: its value, or none where it is removed
abbrev pub broker_member_word : List ℕ → List ℕ → MetaRecord → Option (List ℕ) → Option (List ℕ)
broker_member_word name member (meta.Config r) before = if int_eq r.resource_type (pos 4) && bytes_eq r.resource_name name && bytes_eq r.name member then r.value else before
broker_member_word name member r before = before

-- a user's credential by a mechanism
abbrev pub scram_word : List ℕ → ℤ → MetaRecord → Option ScramRow → Option ScramRow
scram_word name mechanism (meta.UserScramCredential r) before = if bytes_eq r.name name && int_eq r.mechanism mechanism then Some (scram_row r) else before
scram_word name mechanism (meta.RemoveUserScramCredential user by) before = if bytes_eq user name && int_eq by mechanism then None else before
scram_word name mechanism r before = before

-- whether a quota speaks of this entity, which its path tells
abbrev pub is_entity : EntityKey → Option EntityKey → Bool
is_entity entity None = false
is_entity entity (Some other) = bytes_eq (path_of other) (path_of entity)

-- an entity's quota by its key
abbrev pub quota_word : EntityKey → List ℕ → MetaRecord → Option QuotaValue → Option QuotaValue
quota_word entity quota (meta.ClientQuota r) before = if is_entity entity (quota_key r.entity) && bytes_eq r.key quota then (if r.remove then None else Some r.value) else before
quota_word entity quota r before = before

-- ---- topics and their partitions

-- whether this id is the one that was said
abbrev pub is_said : Id → Option Id → Bool
is_said id None = false
is_said id (Some said) = same_id said id

-- the id of the topic of a name
abbrev pub topic_id_word : List ℕ → MetaRecord → Option Id → Option Id
topic_id_word name (meta.Topic r) before = if bytes_eq r.name name then Some r.topic_id else before
topic_id_word name (meta.RemoveTopic removed) before = if is_said removed before then None else before
topic_id_word name r before = before

-- the name of the topic of an id
abbrev pub topic_name_word : Id → MetaRecord → Option (List ℕ) → Option (List ℕ)
topic_name_word id (meta.Topic r) before = if same_id r.topic_id id then Some r.name else before
topic_name_word id (meta.RemoveTopic removed) before = if same_id removed id then None else before
topic_name_word id r before = before

-- A partition of a topic, in an epoch: what makes it is its last record, and each change of it after that changes it. So its
-- controller epoch is that of the last of these.
abbrev pub partition_word : ℤ → Id → ℤ → MetaRecord → Option PartitionRow → Option PartitionRow
partition_word epoch id number (meta.Partition r) before = if same_id r.topic_id id && int_eq r.partition_id number then Some (new_row epoch r) else before
partition_word epoch id number (meta.PartitionChange r) before = if same_id r.topic_id id && int_eq r.partition_id number then option_map (changed_row epoch r) before else before
partition_word epoch id number (meta.RemoveTopic removed) before = if same_id removed id then None else before
partition_word epoch id number r before = before

-- ---- configurations of topics

-- The topic of a name with a member of its configuration: a new topic has no members, and a removed topic takes its members
-- along.
abbrev pub topic_member_word : List ℕ → List ℕ → MetaRecord → TopicMember → TopicMember
topic_member_word name member (meta.Topic r) before = if bytes_eq r.name name then record { topic = Some r.topic_id; value = None } else before
topic_member_word name member (meta.RemoveTopic removed) before = if is_said removed before.topic then record { topic = None; value = None } else before
topic_member_word name member (meta.Config r) before = if int_eq r.resource_type (pos 2) && bytes_eq r.resource_name name && bytes_eq r.name member then record before { value = r.value } else before
topic_member_word name member r before = before
