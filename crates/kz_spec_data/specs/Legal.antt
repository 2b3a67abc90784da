-- What the entries of every metadata are: their names are legal, and their values in range.
use Rattle.std.specs.Prelude.{◌≡◌, ◌≢◌, ⊤, true, false, ℤ, pos, int_le, ◌&&◌, List, ℕ, Option, Some, None, All}
use Rattle.std.specs.List.{AllPairs}
use Rattle.kz_types.specs.declared.codes.TheConstants.{NO_MIGRATION, POST_MIGRATION}
use Rattle.kz_types.specs.declared.bodies.Pair.{Pair}
use Rattle.kz_types.specs.declared.bodies.QuotaRow.{QuotaRow}
use Rattle.kz_types.specs.declared.bodies.ScramPair.{ScramPair}
use Rattle.kz_types.specs.declared.image.Configuration.{Configuration}
use Rattle.kz_types.specs.declared.image.TopicEntry.{TopicEntry}
use Rattle.kz_types.specs.declared.image.PartitionEntry.{PartitionEntry}
use Rattle.kz_types.specs.declared.image.QuotaEntry.{QuotaEntry}
use Rattle.kz_types.specs.declared.image.ScramEntry.{ScramEntry}
use Rattle.kz_types.specs.declared.image.AclEntry.{AclEntry}
use Rattle.kz_types.specs.declared.key.EntityKey.{EntityKey}
use Rattle.kz_types.specs.declared.record.RegisterBrokerRecord.{RegisterBrokerRecord}
use Rattle.kz_types.specs.Quotas.{is_quota}
use Rattle.kz_types.specs.Paths.{is_topic_name, is_not_negative, is_legal, has_path, path_of, is_among}
use Rattle.kz_spec_data.specs.Credentials.{quota_keys}
use Rattle.kz_spec_data.specs.Metadata.{Image}
use Rattle.kz_spec_data.specs.ImageRules.{is_empty, is_zero, is_broker_name, is_mechanism, is_user, are_codes, is_resource, is_epoch, is_row, is_operation, is_permission, max_next}

-- ---- topics and configurations

-- A member of a configuration has a name.
abbrev pub IsMember : Pair → Type 0
IsMember p = is_empty p.name ≡ false

-- A partition's number isn't negative, and it has values that it may have.
abbrev pub IsPartition : PartitionEntry → Type 0
IsPartition p = (is_not_negative p.number ≡ true) × (is_row p.row ≡ true)

-- A topic's name is legal, its id isn't zero, and its partitions and members are legal.
pub record IsTopic (t : TopicEntry) : Type 0 where
  pub named : is_topic_name t.name ≡ true
  pub identified : is_zero t.id ≡ false
  pub each_partition : All IsPartition t.partitions
  pub each_member : All IsMember t.pairs

-- No two topics have one id.
abbrev pub AreApart : List TopicEntry → Type 0
AreApart topics = AllPairs (λ (t u : TopicEntry). t.id ≢ u.id) topics

-- Each topic is legal, and no two have one id.
pub record AreTopics (topics : List TopicEntry) : Type 0 where
  pub each : All IsTopic topics
  pub apart : AreApart topics

-- A broker's configuration has the name of a broker, or of all, and its members are legal.
abbrev pub IsConfiguration : Configuration → Type 0
IsConfiguration c = (is_broker_name c.name ≡ true) × All IsMember c.pairs

-- ---- quotas

-- A quota has one of its entity's keys, and a value that is one.
abbrev pub IsQuotaOf : EntityKey → QuotaRow → Type 0
IsQuotaOf k q = (is_among (quota_keys k) q.key ≡ true) × (is_quota q.value ≡ true)

-- An entity of quotas has the path of a legal key, and the quotas are those of this key.
pub record IsQuotaEntry (q : QuotaEntry) : Type 0 where
  pub entity : EntityKey
  pub legal : is_legal entity ≡ true
  pub fits : has_path entity ≡ true
  pub placed : path_of entity ≡ q.path
  pub each : All (IsQuotaOf entity) q.quotas

-- ---- credentials

-- A credential is one that a user of this name may have, by a mechanism that there is, with at least one iteration.
abbrev pub IsScramOf : List ℕ → ScramPair → Type 0
IsScramOf name s = (is_user name ≡ true) × (is_mechanism s.mechanism ≡ true) × (int_le (pos 1) s.value.iterations ≡ true)

-- Each of a user's credentials is legal.
abbrev pub IsScramEntry : ScramEntry → Type 0
IsScramEntry u = All (IsScramOf u.name) u.scrams

-- ---- access control entries, brokers, producer ids

-- An access control entry's id isn't zero, its resource may have one, and its codes are those that there are.
pub record IsAcl (a : AclEntry) : Type 0 where
  pub identified : is_zero a.id ≡ false
  pub resource : is_resource a.row.kind a.row.pattern a.row.name ≡ true
  pub codes : are_codes a.row.kind a.row.pattern ≡ true
  pub operation : is_operation a.row.operation ≡ true
  pub permission : is_permission a.row.permission ≡ true

-- A broker's id isn't negative, and its registration has an epoch.
abbrev pub IsBroker : RegisterBrokerRecord → Type 0
IsBroker b = (is_not_negative b.broker_id ≡ true) × (is_epoch b.broker_epoch ≡ true)

-- A next producer id is in range.
abbrev pub IsNext : Option ℤ → Type 0
IsNext None = ⊤
IsNext (Some next) = (is_not_negative next ≡ true) × (int_le next max_next ≡ true)

-- ---- the metadata

-- Each entry is legal, and the state of the migration is 0 to 3.
pub record IsLegal (i : Image) : Type 0 where
  pub topics : AreTopics i.topics
  pub configs : All IsConfiguration i.broker_configs
  pub quotas : All IsQuotaEntry i.quotas
  pub users : All IsScramEntry i.users
  pub acls : All IsAcl i.acls
  pub brokers : All IsBroker i.brokers
  pub next : IsNext i.next_producer
  pub state : int_le NO_MIGRATION i.state && int_le i.state POST_MIGRATION ≡ true
