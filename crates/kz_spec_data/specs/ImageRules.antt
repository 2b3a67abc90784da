-- Which records the metadata accepts. A record is judged by what it names, by what has to be there or mustn't, and by its
-- values, in this order: the first rule that it breaks is told.
use Rattle.std.specs.Prelude.{ℕ, Bool, true, false, not, ◌&&◌, ◌||◌, ℤ, pos, negsuc, ◌+ℤ◌, int_le, int_lt, List, [], ◌∷◌, Option, Some, None, is_some, is_none, if◌then◌else◌, codes}
use Rattle.std.specs.Ordering.{int_eq}
use Rattle.std.specs.Str.{bytes_eq}
use Rattle.std.specs.List.{list_all}
use Rattle.kz_types.specs.declared.limits.TheConstants.{MAX_EPOCH}
use Rattle.kz_types.specs.declared.id.Id.{Id}
use Rattle.kz_types.specs.declared.row.PartitionRow.{PartitionRow}
use Rattle.kz_types.specs.declared.image_fault.ImageRule.{ImageRule}
use Rattle.kz_types.specs.declared.image_fault.ImageRule.TheVariants.{NotAllowed, Exists, Absent, BadName, BadValue}
use Rattle.kz_types.specs.declared.key.EntityKey.{EntityKey}
use Rattle.kz_types.specs.declared.key.EntityKey.TheVariants as key
use Rattle.kz_types.specs.declared.record.MetaRecord.{MetaRecord}
use Rattle.kz_types.specs.declared.record.MetaRecord.TheVariants as meta
use Rattle.kz_types.specs.declared.record.ConfigRecord.{ConfigRecord}
use Rattle.kz_types.specs.declared.record.QuotaEntity.{QuotaEntity}
use Rattle.kz_types.specs.declared.record.PartitionRecord.{PartitionRecord}
use Rattle.kz_types.specs.declared.record.PartitionChangeRecord.{PartitionChangeRecord}
use Rattle.kz_types.specs.Ids.{zero_id}
use Rattle.kz_types.specs.Numbers.{canonical}
use Rattle.kz_types.specs.Quotas.{is_quota}
use Rattle.kz_types.specs.Paths.{is_topic_name, is_part, is_pattern, is_resource_type, is_legal, has_path, is_among}
use Rattle.kz_types.specs.Numbers.{is_in}
use Rattle.kz_spec_data.specs.Bodies.{are_replicas, are_some_of}
use Rattle.kz_spec_data.specs.Credentials.{quota_keys}
use Rattle.kz_spec_data.specs.Metadata.{Image, topic_named, topic_with, partition_of, scram_of, acl_of}

-- ---- names

abbrev pub is_empty : List ℕ → Bool
is_empty [] = true
is_empty (b ∷ bs) = false

abbrev pub is_zero : Id → Bool
is_zero id = bytes_eq id.bytes zero_id

-- a broker's name: empty for all brokers, or a decimal
abbrev pub is_broker_name : List ℕ → Bool
is_broker_name [] = true
is_broker_name (b ∷ bs) = is_some (canonical (b ∷ bs))

-- what no part of a path may be
abbrev pub is_dots : List ℕ → Bool
is_dots name = bytes_eq name (codes ".") || bytes_eq name (codes "..")

abbrev pub is_mechanism : ℤ → Bool
is_mechanism mechanism = int_eq mechanism (pos 1) || int_eq mechanism (pos 2)

-- A user whose credential may be kept: one whose znode has a path. The mechanism stands in no path, and isn't asked.
abbrev pub is_user : List ℕ → Bool
is_user name = not (is_empty name) && not (is_dots name) && has_path (key.User (Some name))

abbrev pub are_codes : ℤ → ℤ → Bool
are_codes kind pattern = is_resource_type kind && is_pattern pattern

-- A resource whose access control entries may be kept. Codes that don't exist have no znode, and so no path to judge.
abbrev pub is_resource : ℤ → ℤ → List ℕ → Bool
is_resource kind pattern name = is_part name && (not (are_codes kind pattern) || has_path (key.Acl pattern kind name))

abbrev pub is_kind : List ℕ → QuotaEntity → Bool
is_kind kind part = bytes_eq part.kind kind

-- whom a quota speaks of: a user, a client id, both, or an address
abbrev pub quota_key : List QuotaEntity → Option EntityKey
quota_key [] = None
quota_key (a ∷ []) =
    if is_kind (codes "user") a then Some (key.User a.name)
    else if is_kind (codes "client-id") a then Some (key.Client a.name)
    else if is_kind (codes "ip") a then Some (key.Ip a.name)
    else None
quota_key (a ∷ b ∷ []) = if is_kind (codes "user") a && is_kind (codes "client-id") b then Some (key.UserClient a.name b.name) else None
quota_key (a ∷ b ∷ c ∷ rest) = None

-- an entity of quotas, and one of its keys
abbrev pub has_quota : Option EntityKey → List ℕ → Bool
has_quota None name = false
has_quota (Some k) name = is_legal k && has_path k && is_among (quota_keys k) name

-- whether a record names something that can't be
abbrev pub is_misnamed : MetaRecord → Bool
is_misnamed (meta.Topic r) = not (is_topic_name r.name) || is_zero r.topic_id
is_misnamed (meta.Partition r) = is_zero r.topic_id
is_misnamed (meta.PartitionChange r) = is_zero r.topic_id
is_misnamed (meta.RemoveTopic id) = is_zero id
is_misnamed (meta.Config r) = is_empty r.name
    || (int_eq r.resource_type (pos 2) && not (is_topic_name r.resource_name))
    || (int_eq r.resource_type (pos 4) && not (is_broker_name r.resource_name))
is_misnamed (meta.UserScramCredential r) = not (is_user r.name)
is_misnamed (meta.RemoveUserScramCredential name mechanism) = not (is_user name)
is_misnamed (meta.ClientQuota r) = not (has_quota (quota_key r.entity) r.key)
is_misnamed (meta.AccessControlEntry r) = is_zero r.id || not (is_resource r.resource_type r.pattern_type r.resource_name)
is_misnamed (meta.RemoveAccessControlEntry id) = is_zero id
is_misnamed r = false

-- ---- what is there

-- whether a record speaks of something that isn't there
abbrev pub lacks : Image → MetaRecord → Bool
lacks i (meta.Partition r) = is_none (topic_with r.topic_id i)
lacks i (meta.PartitionChange r) = is_none (partition_of r.topic_id r.partition_id i)
lacks i (meta.RemoveTopic id) = is_none (topic_with id i)
lacks i (meta.Config r) = int_eq r.resource_type (pos 2) && is_none (topic_named r.resource_name i)
lacks i (meta.RemoveUserScramCredential name mechanism) = is_none (scram_of name mechanism i)
lacks i (meta.RemoveAccessControlEntry id) = is_none (acl_of id i)
lacks i r = false

-- whether a record makes something that is there already
abbrev pub repeats : Image → MetaRecord → Bool
repeats i (meta.Topic r) = is_some (topic_named r.name i) || is_some (topic_with r.topic_id i)
repeats i (meta.Partition r) = is_some (partition_of r.topic_id r.partition_id i)
repeats i (meta.AccessControlEntry r) = is_some (acl_of r.id i)
repeats i r = false

-- ---- values

-- a KRaft epoch
abbrev pub is_epoch : ℤ → Bool
is_epoch epoch = int_le (pos 0) epoch && int_le epoch MAX_EPOCH

abbrev pub is_replica : ℤ → Bool
is_replica id = int_le (pos 0) id

-- the brokers of a partition, and its leader: -1 is none
abbrev pub is_assigned : PartitionRow → Bool
is_assigned row = are_replicas row.replicas && list_all is_replica row.replicas
    && are_some_of row.replicas row.isr && are_some_of row.replicas row.adding && are_some_of row.replicas row.removing
    && (int_eq row.leader (negsuc 0) || is_in row.replicas row.leader)

abbrev pub is_recovery : ℤ → Bool
is_recovery recovery = int_eq recovery (pos 0) || int_eq recovery (pos 1)

-- the partition that a record makes, by a controller of this epoch
abbrev pub new_row : ℤ → PartitionRecord → PartitionRow
new_row epoch r = record { replicas = r.replicas; isr = r.isr; removing = r.removing; adding = r.adding; leader = r.leader; recovery = r.recovery; leader_epoch = r.leader_epoch; partition_epoch = r.partition_epoch; controller_epoch = epoch }

abbrev pub stated_or : {A : Type 0} → Option A → A → A
stated_or None before = before
stated_or (Some a) before = a

-- a leader of -2 isn't stated
abbrev pub states_leader : PartitionChangeRecord → Bool
states_leader r = not (int_eq r.leader (negsuc 1))

-- the partition that a change leaves: what is stated is new, a stated leader raises the leader epoch, and every change the
-- partition epoch
abbrev pub changed_row : ℤ → PartitionChangeRecord → PartitionRow → PartitionRow
changed_row epoch r row = record {
  replicas = stated_or r.replicas row.replicas;
  isr = stated_or r.isr row.isr;
  removing = stated_or r.removing row.removing;
  adding = stated_or r.adding row.adding;
  leader = if states_leader r then r.leader else row.leader;
  recovery = if int_eq r.recovery (negsuc 0) then row.recovery else r.recovery;
  leader_epoch = if states_leader r then row.leader_epoch +ℤ pos 1 else row.leader_epoch;
  partition_epoch = row.partition_epoch +ℤ pos 1;
  controller_epoch = epoch;
}

-- whether the partition that is left has values that it may have
abbrev pub is_row : PartitionRow → Bool
is_row row = is_assigned row && is_recovery row.recovery && is_epoch row.leader_epoch && is_epoch row.partition_epoch

abbrev pub leaves_row : PartitionChangeRecord → Option PartitionRow → Bool
leaves_row r None = false
leaves_row r (Some row) = is_row (changed_row (pos 0) r row)

abbrev pub is_below_next : ℤ → Option ℤ → Bool
is_below_next next None = false
is_below_next next (Some present) = int_lt next present

-- the greatest next producer id: the last block of 1,000 ends at the greatest of 64 bits
abbrev pub max_next : ℤ
max_next = pos 9223372036854774808

-- an epoch, or -1 where there is none
abbrev pub is_epoch_or_none : ℤ → Bool
is_epoch_or_none epoch = int_eq epoch (negsuc 0) || is_epoch epoch

abbrev pub is_operation : ℤ → Bool
is_operation operation = int_le (pos 2) operation && int_le operation (pos 12)

abbrev pub is_permission : ℤ → Bool
is_permission permission = int_eq permission (pos 2) || int_eq permission (pos 3)

-- whether a record has a value that it can't have
abbrev pub is_misvalued : Image → MetaRecord → Bool
is_misvalued i (meta.RegisterBroker r) = int_lt r.broker_id (pos 0) || not (is_epoch r.broker_epoch)
is_misvalued i (meta.Partition r) = int_lt r.partition_id (pos 0) || not (is_row (new_row (pos 0) r))
is_misvalued i (meta.PartitionChange r) = not (leaves_row r (partition_of r.topic_id r.partition_id i))
is_misvalued i (meta.Config r) = not (int_eq r.resource_type (pos 2)) && not (int_eq r.resource_type (pos 4))
is_misvalued i (meta.UserScramCredential r) = not (is_mechanism r.mechanism) || int_lt r.iterations (pos 1)
is_misvalued i (meta.ClientQuota r) = not (is_quota r.value)
is_misvalued i (meta.ProducerIds r) = int_lt r.broker_id (negsuc 0) || not (is_epoch_or_none r.broker_epoch)
    || int_lt r.next (pos 0) || is_below_next r.next i.next_producer || int_lt max_next r.next
is_misvalued i (meta.AccessControlEntry r) = not (are_codes r.resource_type r.pattern_type) || not (is_operation r.operation) || not (is_permission r.permission)
is_misvalued i r = false

-- ---- the first rule that is broken

-- no controller may be asked for these
abbrev pub is_kept_back : MetaRecord → Bool
is_kept_back (meta.RegisterBroker r) = true
is_kept_back (meta.ZkMigrationState state) = true
is_kept_back (meta.BeginTransaction name) = true
is_kept_back meta.EndTransaction = true
is_kept_back (meta.AbortTransaction reason) = true
is_kept_back r = false

-- the configuration of a broker, or of all
abbrev pub is_broker_config : ConfigRecord → Bool
is_broker_config c = int_eq c.resource_type (pos 4) && is_broker_name c.resource_name && not (is_empty c.name)

-- the numbers by which rules are told
abbrev pub rule_number : ImageRule → ℕ
rule_number NotAllowed = 1
rule_number Exists = 2
rule_number Absent = 3
rule_number BadName = 4
rule_number BadValue = 5

abbrev pub first_broken : List (Bool × ImageRule) → Option ImageRule
first_broken [] = None
first_broken (c ∷ cs) = if c.0 then Some c.1 else first_broken cs

-- The first rule that a record of the log breaks. One that breaks a rule changes nothing.
unfoldable pub broken_rule : Image → MetaRecord → Option ImageRule
broken_rule i r = first_broken ((is_misnamed r, BadName) ∷ (lacks i r, Absent) ∷ (repeats i r, Exists) ∷ (is_misvalued i r, BadValue) ∷ [])

-- The first rule that a record breaks which a controller is asked for.
abbrev pub rule_against : Image → MetaRecord → Option ImageRule
rule_against i r = if is_kept_back r then Some NotAllowed else broken_rule i r
