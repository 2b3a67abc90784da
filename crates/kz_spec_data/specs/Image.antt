-- What records make of the metadata.
use Rattle.std.specs.Prelude.{ℕ, ◌+◌, not, ◌&&◌, ℤ, pos, int_le, List, [], ◌∷◌, Option, Some, None, if◌then◌else◌}
use Rattle.std.specs.Ordering.{int_eq, int_cmp}
use Rattle.std.specs.List.{filter}
use Rattle.kz_types.specs.declared.codes.TheConstants.{NO_MIGRATION, POST_MIGRATION}
use Rattle.kz_types.specs.declared.id.Id.{Id}
use Rattle.kz_types.specs.declared.bodies.Pair.{Pair}
use Rattle.kz_types.specs.declared.bodies.QuotaRow.{QuotaRow}
use Rattle.kz_types.specs.declared.bodies.ScramPair.{ScramPair}
use Rattle.kz_types.specs.declared.row.PartitionRow.{PartitionRow}
use Rattle.kz_types.specs.declared.row.AclRow.{AclRow}
use Rattle.kz_types.specs.declared.row.ScramRow.{ScramRow}
use Rattle.kz_types.specs.declared.image.Configuration.{Configuration}
use Rattle.kz_types.specs.declared.image.TopicEntry.{TopicEntry}
use Rattle.kz_types.specs.declared.image.QuotaEntry.{QuotaEntry}
use Rattle.kz_types.specs.declared.image.ScramEntry.{ScramEntry}
use Rattle.kz_types.specs.declared.image_fault.ImageRule.{ImageRule}
use Rattle.kz_types.specs.declared.key.EntityKey.{EntityKey}
use Rattle.kz_types.specs.declared.record.MetaRecord.{MetaRecord}
use Rattle.kz_types.specs.declared.record.MetaRecord.TheVariants as meta
use Rattle.kz_types.specs.declared.record.TopicRecord.{TopicRecord}
use Rattle.kz_types.specs.declared.record.PartitionChangeRecord.{PartitionChangeRecord}
use Rattle.kz_types.specs.declared.record.ConfigRecord.{ConfigRecord}
use Rattle.kz_types.specs.declared.record.UserScramCredentialRecord.{UserScramCredentialRecord}
use Rattle.kz_types.specs.declared.record.ClientQuotaRecord.{ClientQuotaRecord}
use Rattle.kz_types.specs.declared.record.AccessControlEntryRecord.{AccessControlEntryRecord}
use Rattle.kz_types.specs.Paths.{path_of}
use Rattle.kz_types.specs.Order.{bytes_cmp}
use Rattle.kz_types.specs.Ordered.{find, put, without}
pub use Rattle.kz_spec_data.specs.Metadata.{Image, empty_image, is_migrated_state, name_of_topic, number_of_partition, name_of_configuration, name_of_pair, path_of_quotas, key_of_quota, name_of_user, mechanism_of_pair, id_of_acl, id_of_broker, same_id, topic_named, topic_with, partition_at, pairs_at}
pub use Rattle.kz_spec_data.specs.ImageRules.{is_broker_config, rule_number, new_row, changed_row, quota_key, broken_rule, rule_against}

-- ---- topics

-- the topics with this one at its place
abbrev pub put_topic : TopicEntry → List TopicEntry → List TopicEntry
put_topic t topics = put bytes_cmp name_of_topic t topics

abbrev pub new_topic : TopicRecord → TopicEntry
new_topic r = record { name = r.name; id = r.topic_id; partitions = []; pairs = [] }

-- the topics, of which this one, where there is one, is changed
abbrev pub with_changed : (TopicEntry → TopicEntry) → Option TopicEntry → List TopicEntry → List TopicEntry
with_changed change None topics = topics
with_changed change (Some t) topics = put_topic (change t) topics

abbrev pub put_partition : ℤ → PartitionRow → TopicEntry → TopicEntry
put_partition number row t = record t { partitions = put int_cmp number_of_partition (record { number = number; row = row }) t.partitions }

-- the topic with the partition of a number changed, where it is there
abbrev pub change_partition : ℤ → (PartitionRow → PartitionRow) → Option PartitionRow → TopicEntry → TopicEntry
change_partition number change None t = t
change_partition number change (Some row) t = put_partition number (change row) t

abbrev pub partition_changed : ℤ → PartitionChangeRecord → TopicEntry → TopicEntry
partition_changed epoch r t = change_partition r.partition_id (changed_row epoch r) (partition_at r.partition_id t.partitions) t

-- the topics without that of an id, which takes its partitions and its configuration along
abbrev pub without_topic : Id → List TopicEntry → List TopicEntry
without_topic id topics = filter (λ (t : TopicEntry). not (same_id t.id id)) topics

-- ---- configurations

-- the members with this one set, or without it where it has no value
abbrev pub with_member : List ℕ → Option (List ℕ) → List Pair → List Pair
with_member name (Some value) pairs = put bytes_cmp name_of_pair (record { name = name; value = value }) pairs
with_member name None pairs = without bytes_cmp name_of_pair name pairs

-- the configurations with these members of a resource, or without it where there are none
abbrev pub with_pairs : List ℕ → List Pair → List Configuration → List Configuration
with_pairs name [] configs = without bytes_cmp name_of_configuration name configs
with_pairs name (p ∷ ps) configs = put bytes_cmp name_of_configuration (record { name = name; pairs = p ∷ ps }) configs

abbrev pub configurations_after : ConfigRecord → List Configuration → List Configuration
configurations_after c configs = with_pairs c.resource_name (with_member c.name c.value (pairs_at c.resource_name configs)) configs

abbrev pub topic_configured : ConfigRecord → TopicEntry → TopicEntry
topic_configured c t = record t { pairs = with_member c.name c.value t.pairs }

-- ---- quotas

abbrev pub quotas_in : Option QuotaEntry → List QuotaRow
quotas_in None = []
quotas_in (Some q) = q.quotas

-- the quotas with this one set or removed
abbrev pub with_quota : ClientQuotaRecord → List QuotaRow → List QuotaRow
with_quota r quotas = if r.remove then without bytes_cmp key_of_quota r.key quotas else put bytes_cmp key_of_quota (record { key = r.key; value = r.value }) quotas

-- the entities with these quotas of one, or without it where there are none
abbrev pub with_quotas : List ℕ → List QuotaRow → List QuotaEntry → List QuotaEntry
with_quotas path [] entries = without bytes_cmp path_of_quotas path entries
with_quotas path (q ∷ qs) entries = put bytes_cmp path_of_quotas (record { path = path; quotas = q ∷ qs }) entries

abbrev pub quota_changed : ClientQuotaRecord → Option EntityKey → List QuotaEntry → List QuotaEntry
quota_changed r None entries = entries
quota_changed r (Some k) entries = with_quotas (path_of k) (with_quota r (quotas_in (find bytes_cmp path_of_quotas (path_of k) entries))) entries

-- ---- credentials

abbrev pub scrams_in : Option ScramEntry → List ScramPair
scrams_in None = []
scrams_in (Some u) = u.scrams

abbrev pub scrams_at : List ℕ → List ScramEntry → List ScramPair
scrams_at name users = scrams_in (find bytes_cmp name_of_user name users)

-- the users with these credentials of one, or without it where there are none
abbrev pub with_scrams : List ℕ → List ScramPair → List ScramEntry → List ScramEntry
with_scrams name [] users = without bytes_cmp name_of_user name users
with_scrams name (s ∷ ss) users = put bytes_cmp name_of_user (record { name = name; scrams = s ∷ ss }) users

abbrev pub scram_row : UserScramCredentialRecord → ScramRow
scram_row r = record { salt = r.salt; stored_key = r.stored_key; server_key = r.server_key; iterations = r.iterations }

abbrev pub scram_set : UserScramCredentialRecord → List ScramEntry → List ScramEntry
scram_set r users = with_scrams r.name (put int_cmp mechanism_of_pair (record { mechanism = r.mechanism; value = scram_row r }) (scrams_at r.name users)) users

abbrev pub scram_removed : List ℕ → ℤ → List ScramEntry → List ScramEntry
scram_removed name mechanism users = with_scrams name (without int_cmp mechanism_of_pair mechanism (scrams_at name users)) users

-- ---- access control entries

abbrev pub acl_row : AccessControlEntryRecord → AclRow
acl_row r = record { kind = r.resource_type; pattern = r.pattern_type; name = r.resource_name; principal = r.principal; host = r.host; operation = r.operation; permission = r.permission }

-- ---- records

-- What a record that breaks no rule makes of the metadata.
abbrev pub effect : ℤ → MetaRecord → Image → Image
effect epoch (meta.RegisterBroker r) i = record i { brokers = put int_cmp id_of_broker r i.brokers }
effect epoch (meta.Topic r) i = record i { topics = put_topic (new_topic r) i.topics }
effect epoch (meta.Partition r) i = record i { topics = with_changed (put_partition r.partition_id (new_row epoch r)) (topic_with r.topic_id i) i.topics }
effect epoch (meta.Config r) i =
    if int_eq r.resource_type (pos 2) then record i { topics = with_changed (topic_configured r) (topic_named r.resource_name i) i.topics }
    else record i { broker_configs = configurations_after r i.broker_configs }
effect epoch (meta.PartitionChange r) i = record i { topics = with_changed (partition_changed epoch r) (topic_with r.topic_id i) i.topics }
effect epoch (meta.RemoveTopic id) i = record i { topics = without_topic id i.topics }
effect epoch (meta.UserScramCredential r) i = record i { users = scram_set r i.users }
effect epoch (meta.ClientQuota r) i = record i { quotas = quota_changed r (quota_key r.entity) i.quotas }
effect epoch (meta.ProducerIds r) i = record i { next_producer = Some r.next }
effect epoch (meta.AccessControlEntry r) i = record i { acls = put bytes_cmp id_of_acl (record { id = r.id; row = acl_row r }) i.acls }
effect epoch (meta.RemoveAccessControlEntry id) i = record i { acls = without bytes_cmp id_of_acl id.bytes i.acls }
effect epoch meta.NoOp i = i
effect epoch (meta.ZkMigrationState s) i = if int_le NO_MIGRATION s && int_le s POST_MIGRATION then record i { state = s } else i
effect epoch (meta.RemoveUserScramCredential name mechanism) i = record i { users = scram_removed name mechanism i.users }
effect epoch (meta.BeginTransaction name) i = i
effect epoch meta.EndTransaction i = i
effect epoch (meta.AbortTransaction reason) i = i

abbrev pub unless_broken : Option ImageRule → Image → Image → Image
unless_broken None made i = made
unless_broken (Some rule) made i = i

-- The metadata after a record of a batch of this epoch; one that breaks a rule changes nothing.
abbrev pub image_with : ℤ → MetaRecord → Image → Image
image_with epoch r i = unless_broken (broken_rule i r) (effect epoch r i) i

-- the metadata after these records, one after another
abbrev pub all_applied : ℤ → List MetaRecord → Image → Image
all_applied epoch [] i = i
all_applied epoch (r ∷ rs) i = all_applied epoch rs (image_with epoch r i)

-- ---- changes

-- A record at an index that breaks a rule.
pub record Bad : Type 0 where
  pub index : ℕ
  pub why : ImageRule

abbrev pub unless_bad : ℕ → Option ImageRule → Option Bad → Option Bad
unless_bad index None rest = rest
unless_bad index (Some why) rest = Some (record { index = index; why = why })

-- The first of these records, numbered from an index on, that breaks a rule of what a controller may be asked for, each
-- judged after those before it.
abbrev pub first_bad : ℕ → List MetaRecord → Image → Option Bad
first_bad index [] i = None
first_bad index (r ∷ rs) i = unless_bad index (rule_against i r) (first_bad (index + 1) rs (image_with (pos 0) r i))
