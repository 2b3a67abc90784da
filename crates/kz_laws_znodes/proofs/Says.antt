-- The metadata that the records of znodes make, by what the znodes say.
use Rattle.std.proofs.Common.{◌≡◌, ℕ, ℤ, pos, cond, List, [], ◌∷◌, length, map, Option, Some, None}
use Rattle.std.specs.Prelude.{option_map, option_and_then}
use Rattle.std.specs.Str.{is_utf8}
use Rattle.kz_types.specs.declared.id.Id.{Id}
use Rattle.kz_types.specs.declared.tree.Row.{Row}
use Rattle.kz_types.specs.declared.bodies.Pair.{Pair}
use Rattle.kz_types.specs.declared.bodies.AssignmentRow.{AssignmentRow}
use Rattle.kz_types.specs.declared.image.Configuration.{Configuration}
use Rattle.kz_types.specs.declared.image.TopicEntry.{TopicEntry}
use Rattle.kz_types.specs.declared.image.QuotaEntry.{QuotaEntry}
use Rattle.kz_types.specs.declared.image.ScramEntry.{ScramEntry}
use Rattle.kz_types.specs.declared.image.AclEntry.{AclEntry}
use Rattle.kz_types.specs.declared.key.EntityKey.TheVariants as key
use Rattle.kz_types.specs.declared.record.PartitionRecord.{PartitionRecord}
use Rattle.kz_types.specs.declared.record.RegisterBrokerRecord.{RegisterBrokerRecord}
use Rattle.kz_types.specs.Numbers.{canonical}
use Rattle.kz_types.specs.Paths.{path_of}
use Rattle.kz_types.specs.Order.{bytes_cmp}
use Rattle.kz_types.specs.Ordered.{find, Rises}
use Rattle.kz_spec_data.specs.Metadata.{Image, name_of_topic, name_of_configuration, path_of_quotas, name_of_user}
use Rattle.kz_spec_data.specs.Translation.{row_of, partition_by}
use Rattle.kz_laws_znodes.proofs.TopicSteps.{topic_of}
use Rattle.kz_laws_znodes.proofs.OtherSteps.{configuration, quota_list, scram_list, numbered, AreBelowNumber}
use Rattle.kz_laws_znodes.proofs.Saying.{Assignment, topic_said, topic_config_said, broker_config_said, quotas_said, scrams_said, next_said, said, all_entries, listed, or_empty}

-- ---- by what znodes say

-- a partition of a topic, by the state that these znodes give it
abbrev pub partition_in : List Row → List ℕ → Id → AssignmentRow → PartitionRecord
partition_in rows name id a = partition_by id a (row_of (key.Partition name a.number) rows)

abbrev pub topic_by : ℤ → List Row → List ℕ → Option Assignment → Option (List Pair) → Option TopicEntry
topic_by epoch rows name None config = None
topic_by epoch rows name (Some t) config = Some (record (topic_of epoch name t.id (map (partition_in rows name t.id) t.rows)) { pairs = or_empty config })

-- whose configuration has this name
abbrev pub broker_named : List ℕ → Option (Option ℤ)
broker_named [] = Some None
broker_named (b ∷ bs) = option_map (λ n. Some (pos n)) (canonical (b ∷ bs))

-- the configuration of a broker that these znodes have
abbrev pub configuration_in : List Row → List ℕ → Option ℤ → Option Configuration
configuration_in rows name broker = listed configuration name (or_empty (said broker_config_said (path_of (key.BrokerConfig broker)) rows))

abbrev pub scrams_in_rows : List Row → List ℕ → Option ScramEntry
scrams_in_rows rows name = listed scram_list name (or_empty (said scrams_said (path_of (key.User (Some name))) rows))

-- ---- the metadata

-- What the topics are, where these of the znodes are counted.
pub record SaysTopics (epoch : ℤ) (rows earlier : List Row) (topics : List TopicEntry) : Type 0 where
  pub rise : Rises bytes_cmp name_of_topic topics
  pub each : (name : List ℕ) → find bytes_cmp name_of_topic name topics
      ≡ topic_by epoch rows name (said topic_said (path_of (key.Topic name)) earlier) (said topic_config_said (path_of (key.TopicConfig name)) earlier)

pub record SaysConfigs (earlier : List Row) (configs : List Configuration) : Type 0 where
  pub rise : Rises bytes_cmp name_of_configuration configs
  pub each : (name : List ℕ) → find bytes_cmp name_of_configuration name configs ≡ option_and_then (configuration_in earlier name) (broker_named name)

pub record SaysQuotas (earlier : List Row) (quotas : List QuotaEntry) : Type 0 where
  pub rise : Rises bytes_cmp path_of_quotas quotas
  pub each : (path : List ℕ) → find bytes_cmp path_of_quotas path quotas ≡ listed quota_list path (or_empty (said quotas_said path earlier))

pub record SaysUsers (earlier : List Row) (users : List ScramEntry) : Type 0 where
  pub rise : Rises bytes_cmp name_of_user users
  pub each : (name : List ℕ) → find bytes_cmp name_of_user name users ≡ cond (is_utf8 name) (scrams_in_rows earlier name) None

pub record SaysEntries (earlier : List Row) (acls : List AclEntry) : Type 0 where
  pub each : acls ≡ numbered 0 (all_entries earlier)
  pub below : AreBelowNumber (length (all_entries earlier)) acls

-- The metadata is what these znodes say, of which the earlier ones are counted.
pub record Says (epoch : ℤ) (rows : List Row) (brokers : List RegisterBrokerRecord) (state : ℤ) (earlier : List Row) (i : Image) : Type 0 where
  pub topics : SaysTopics epoch rows earlier i.topics
  pub configs : SaysConfigs earlier i.broker_configs
  pub quotas : SaysQuotas earlier i.quotas
  pub users : SaysUsers earlier i.users
  pub entries : SaysEntries earlier i.acls
  pub next : i.next_producer ≡ said next_said (path_of key.Producer) earlier
  pub brokers_are : i.brokers ≡ brokers
  pub state_is : i.state ≡ state
