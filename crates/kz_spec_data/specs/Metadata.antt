-- The metadata of the cluster as the records that count make it (KIP-631), and what is found in it.
use Rattle.std.specs.Prelude.{ℕ, Bool, ℤ, pos, int_le, List, [], ◌∷◌, Option, Some, None, option_map, option_and_then, if◌then◌else◌}
use Rattle.std.specs.Ordering.{int_eq, int_cmp}
use Rattle.std.specs.Str.{bytes_eq}
use Rattle.std.specs.List.{find as find_by}
use Rattle.kz_types.specs.declared.codes.TheConstants.{MIGRATION, NO_MIGRATION}
use Rattle.kz_types.specs.declared.id.Id.{Id}
use Rattle.kz_types.specs.declared.bodies.Pair.{Pair}
use Rattle.kz_types.specs.declared.bodies.QuotaRow.{QuotaRow}
use Rattle.kz_types.specs.declared.bodies.ScramPair.{ScramPair}
use Rattle.kz_types.specs.declared.row.PartitionRow.{PartitionRow}
use Rattle.kz_types.specs.declared.row.AclRow.{AclRow}
use Rattle.kz_types.specs.declared.row.ScramRow.{ScramRow}
use Rattle.kz_types.specs.declared.image.Configuration.{Configuration}
use Rattle.kz_types.specs.declared.image.TopicEntry.{TopicEntry}
use Rattle.kz_types.specs.declared.image.PartitionEntry.{PartitionEntry}
use Rattle.kz_types.specs.declared.image.QuotaEntry.{QuotaEntry}
use Rattle.kz_types.specs.declared.image.ScramEntry.{ScramEntry}
use Rattle.kz_types.specs.declared.image.AclEntry.{AclEntry}
use Rattle.kz_types.specs.declared.record.RegisterBrokerRecord.{RegisterBrokerRecord}
use Rattle.kz_types.specs.declared.key.EntityKey.{EntityKey}
use Rattle.kz_types.specs.Paths.{path_of, is_legal}
use Rattle.kz_types.specs.Order.{bytes_cmp}
use Rattle.kz_types.specs.Ordered.{find}

-- The metadata: topics by rising name, with their partitions by rising number and their configuration; the configurations
-- of brokers by rising name, where the empty name stands for all brokers; the quotas of clients, users and addresses by the
-- rising path of their znode; the credentials of users by rising name; access control entries by rising id; the registered
-- brokers by rising id; the next producer id; and the state of the migration. No configuration of a broker, no list of
-- quotas and no list of credentials is empty.
pub record Image : Type 0 where
  pub topics : List TopicEntry
  pub broker_configs : List Configuration
  pub quotas : List QuotaEntry
  pub users : List ScramEntry
  pub acls : List AclEntry
  pub brokers : List RegisterBrokerRecord
  pub next_producer : Option ℤ
  pub state : ℤ

abbrev pub empty_image : Image
empty_image = record { topics = []; broker_configs = []; quotas = []; users = []; acls = []; brokers = []; next_producer = None; state = NO_MIGRATION }

-- ---- keys of lists

abbrev pub name_of_topic : TopicEntry → List ℕ
name_of_topic t = t.name

abbrev pub number_of_partition : PartitionEntry → ℤ
number_of_partition p = p.number

abbrev pub name_of_configuration : Configuration → List ℕ
name_of_configuration c = c.name

abbrev pub name_of_pair : Pair → List ℕ
name_of_pair p = p.name

abbrev pub path_of_quotas : QuotaEntry → List ℕ
path_of_quotas q = q.path

abbrev pub key_of_quota : QuotaRow → List ℕ
key_of_quota q = q.key

abbrev pub name_of_user : ScramEntry → List ℕ
name_of_user u = u.name

abbrev pub mechanism_of_pair : ScramPair → ℤ
mechanism_of_pair s = s.mechanism

abbrev pub id_of_acl : AclEntry → List ℕ
id_of_acl a = a.id.bytes

abbrev pub id_of_broker : RegisterBrokerRecord → ℤ
id_of_broker b = b.broker_id

-- ---- what is found

abbrev pub same_id : Id → Id → Bool
same_id id other = bytes_eq id.bytes other.bytes

-- the topic of a name
abbrev pub topic_named : List ℕ → Image → Option TopicEntry
topic_named name i = find bytes_cmp name_of_topic name i.topics

-- the topic of an id
abbrev pub topic_with : Id → Image → Option TopicEntry
topic_with id i = find_by (λ (t : TopicEntry). same_id t.id id) i.topics

-- the id of a topic
abbrev pub topic_id_of : List ℕ → Image → Option Id
topic_id_of name i = option_map (λ (t : TopicEntry). t.id) (topic_named name i)

-- the name of the topic of an id
abbrev pub topic_name_of : Id → Image → Option (List ℕ)
topic_name_of id i = option_map (λ (t : TopicEntry). t.name) (topic_with id i)

-- the partition of a number
abbrev pub partition_at : ℤ → List PartitionEntry → Option PartitionRow
partition_at number partitions = option_map (λ (p : PartitionEntry). p.row) (find int_cmp number_of_partition number partitions)

-- a partition of the topic of an id
abbrev pub partition_of : Id → ℤ → Image → Option PartitionRow
partition_of id number i = option_and_then (λ (t : TopicEntry). partition_at number t.partitions) (topic_with id i)

abbrev pub some_pairs : List Pair → Option (List Pair)
some_pairs [] = None
some_pairs (p ∷ ps) = Some (p ∷ ps)

abbrev pub pairs_of : Option Configuration → List Pair
pairs_of None = []
pairs_of (Some c) = c.pairs

-- the members of a broker's configuration, none where it has none
abbrev pub pairs_at : List ℕ → List Configuration → List Pair
pairs_at name configs = pairs_of (find bytes_cmp name_of_configuration name configs)

abbrev pub pairs_of_topic : Option TopicEntry → List Pair
pairs_of_topic None = []
pairs_of_topic (Some t) = t.pairs

-- The configuration of a resource, where it has one: 2 is a topic, 4 a broker.
abbrev pub configs_of : ℤ → List ℕ → Image → Option (List Pair)
configs_of kind name i =
    if int_eq kind (pos 2) then some_pairs (pairs_of_topic (topic_named name i))
    else if int_eq kind (pos 4) then some_pairs (pairs_at name i.broker_configs)
    else None

-- The quotas of an entity, where it has any. What is no entity has none, whatever its path.
abbrev pub quotas_of : EntityKey → Image → Option (List QuotaRow)
quotas_of key i = if is_legal key then option_map (λ (q : QuotaEntry). q.quotas) (find bytes_cmp path_of_quotas (path_of key) i.quotas) else None

-- the credential of a user by a mechanism
abbrev pub scram_of : List ℕ → ℤ → Image → Option ScramRow
scram_of name mechanism i = option_and_then (λ (u : ScramEntry). option_map (λ (s : ScramPair). s.value) (find int_cmp mechanism_of_pair mechanism u.scrams))
    (find bytes_cmp name_of_user name i.users)

-- the access control entry of an id
abbrev pub acl_of : Id → Image → Option AclRow
acl_of id i = option_map (λ (a : AclEntry). a.row) (find bytes_cmp id_of_acl id.bytes i.acls)

-- whether the migration is committed
abbrev pub is_migrated_state : ℤ → Bool
is_migrated_state state = int_le MIGRATION state
