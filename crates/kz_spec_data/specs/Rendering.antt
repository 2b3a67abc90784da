-- The znodes that stand for the metadata.
use Rattle.std.specs.Prelude.{ℕ, Bool, nat_lt, ℤ, pos, negsuc, ◌+ℤ◌, List, [], ◌∷◌, ◌++◌, length, map, Option, Some, None, option_map, if◌then◌else◌, codes}
use Rattle.std.specs.Str.{bytes_eq}
use Rattle.std.specs.Fmt.{signed_decimal}
use Rattle.std.specs.List.{find, filter, flat_map, sum_by}
use Rattle.kz_types.specs.declared.limits.Limit.TheVariants as limits
use Rattle.kz_types.specs.Limits.{number_of_limit}
use Rattle.kz_types.specs.declared.limits.TheConstants.{MAX_BODIES_BYTES, MAX_BODY_BYTES, MAX_ZNODES}
use Rattle.kz_types.specs.declared.tree.Rendered.{Rendered}
use Rattle.kz_types.specs.declared.key.EntityKey.{EntityKey}
use Rattle.kz_types.specs.declared.key.EntityKey.TheVariants as key
use Rattle.kz_types.specs.declared.bodies.Pair.{Pair}
use Rattle.kz_types.specs.declared.bodies.AssignmentRow.{AssignmentRow}
use Rattle.kz_types.specs.declared.bodies.QuotaRow.{QuotaRow}
use Rattle.kz_types.specs.declared.bodies.Body.{Body}
use Rattle.kz_types.specs.declared.bodies.Body.TheVariants as body
use Rattle.kz_types.specs.declared.row.PartitionRow.{PartitionRow}
use Rattle.kz_types.specs.declared.row.AclRow.{AclRow}
use Rattle.kz_types.specs.declared.image.Configuration.{Configuration}
use Rattle.kz_types.specs.declared.image.TopicEntry.{TopicEntry}
use Rattle.kz_types.specs.declared.image.PartitionEntry.{PartitionEntry}
use Rattle.kz_types.specs.declared.image.QuotaEntry.{QuotaEntry}
use Rattle.kz_types.specs.declared.image.ScramEntry.{ScramEntry}
use Rattle.kz_types.specs.declared.image.AclEntry.{AclEntry}
use Rattle.kz_types.specs.Numbers.{canonical}
use Rattle.kz_types.specs.Paths.{roots, path_of, key_of}
use Rattle.kz_spec_data.specs.Bodies.{text_of_body}
use Rattle.kz_types.specs.Order.{bytes_cmp}
use Rattle.kz_types.specs.Ordered.{find as find_by_key, all_put}
use Rattle.kz_spec_data.specs.Tree.{path_of_rendered}
use Rattle.kz_spec_data.specs.Image.{Image, path_of_quotas, quotas_in}

-- a znode without data
abbrev pub bare : List ℕ → Rendered
bare path = record { path = path; body = [] }

-- the znode of an entity
abbrev pub znode : EntityKey → Body → Rendered
znode k b = record { path = path_of k; body = text_of_body b }

-- ---- topics

-- what a topic's body says of a partition
abbrev pub assignment_of : PartitionEntry → AssignmentRow
assignment_of p = record { number = p.number; replicas = p.row.replicas; adding = p.row.adding; removing = p.row.removing }

abbrev pub topic_znode : TopicEntry → Rendered
topic_znode t = znode (key.Topic t.name) (body.Topic t.id (map assignment_of t.partitions))

-- the parent of a topic's partitions
abbrev pub partitions_path : List ℕ → List ℕ
partitions_path name = path_of (key.Topic name) ++ codes "/partitions"

-- the parent of a partition's state
abbrev pub number_path : List ℕ → ℤ → List ℕ
number_path name number = partitions_path name ++ (codes "/" ++ signed_decimal number)

abbrev pub state_body : PartitionRow → Body
state_body row = body.State row.leader row.leader_epoch row.controller_epoch row.isr row.recovery

-- the znode of a partition's number, and its state below it
abbrev pub partition_znodes : List ℕ → PartitionEntry → List Rendered
partition_znodes name p = bare (number_path name p.number) ∷ znode (key.Partition name p.number) (state_body p.row) ∷ []

-- the configuration of a topic, where it isn't empty
abbrev pub topic_config_znodes : List ℕ → List Pair → List Rendered
topic_config_znodes name [] = []
topic_config_znodes name (p ∷ ps) = znode (key.TopicConfig name) (body.Config (p ∷ ps)) ∷ []

-- the znodes of a topic, of its partitions and of its configuration
abbrev pub topic_znodes : TopicEntry → List Rendered
topic_znodes t = topic_znode t ∷ bare (partitions_path t.name) ∷ flat_map (partition_znodes t.name) t.partitions ++ topic_config_znodes t.name t.pairs

-- ---- configurations of brokers

-- the key of the configuration of a broker, or of all brokers
abbrev pub broker_key : List ℕ → EntityKey
broker_key [] = key.BrokerConfig None
broker_key (b ∷ bs) = key.BrokerConfig (option_map pos (canonical (b ∷ bs)))

-- the znode of a broker's configuration
abbrev pub config_znode : Configuration → Rendered
config_znode c = znode (broker_key c.name) (body.Config c.pairs)

-- ---- quotas and credentials

-- the parents of a user's client: the znode of the user, without data, and `clients`
abbrev pub client_parents : Option EntityKey → List Rendered
client_parents (Some (key.UserClient user client)) = bare (path_of (key.User user)) ∷ bare (path_of (key.User user) ++ codes "/clients") ∷ []
client_parents k = []

abbrev pub quota_parents : QuotaEntry → List Rendered
quota_parents q = client_parents (key_of q.path)

-- the znode of an entity that has quotas and no credentials
abbrev pub znode_of_quotas : List QuotaRow → Option EntityKey → List Rendered
znode_of_quotas quotas None = []
znode_of_quotas quotas (Some k) = znode k (body.Quota quotas []) ∷ []

abbrev pub own_znodes : QuotaEntry → List Rendered
own_znodes q = znode_of_quotas q.quotas (key_of q.path)

-- the quotas of a user with a name
abbrev pub quotas_of_user : List ℕ → List QuotaEntry → List QuotaRow
quotas_of_user name quotas = quotas_in (find_by_key bytes_cmp path_of_quotas (path_of (key.User (Some name))) quotas)

-- the znode of a user with credentials, and with its quotas
abbrev pub user_znode : List QuotaEntry → ScramEntry → Rendered
user_znode quotas u = znode (key.User (Some u.name)) (body.Quota (quotas_of_user u.name quotas) u.scrams)

-- These in the order in which they are put: a user's own data takes the place of the znode without data that stands there
-- for the sake of its clients, and one with credentials the place of one with quotas alone.
abbrev pub quota_znodes : List QuotaEntry → List ScramEntry → List Rendered
quota_znodes quotas users = flat_map quota_parents quotas ++ (flat_map own_znodes quotas ++ map (user_znode quotas) users)

-- ---- access control entries

abbrev pub acl_key : AclRow → EntityKey
acl_key row = key.Acl row.pattern row.kind row.name

abbrev pub is_of_resource : AclRow → AclEntry → Bool
is_of_resource row a = bytes_eq (path_of (acl_key a.row)) (path_of (acl_key row))

abbrev pub row_of_acl : AclEntry → AclRow
row_of_acl a = a.row

-- the znode of an entry's resource: all entries of that resource, by rising id
abbrev pub acl_znode : List AclEntry → AclEntry → Rendered
acl_znode acls a = znode (acl_key a.row) (body.Acls (map row_of_acl (filter (is_of_resource a.row) acls)))

-- ---- producer ids

-- the block of 1,000 ids that begins at the next one. Where there is no next id, the root is without data
abbrev pub producer_znodes : Option ℤ → List Rendered
producer_znodes None = []
producer_znodes (Some next) = znode key.Producer (body.Producer (negsuc 0) next (next +ℤ pos 999)) ∷ []

-- ---- the metadata

-- the znodes of all entities, and their parents below the roots
abbrev pub entity_znodes : Image → List Rendered
entity_znodes i =
    flat_map topic_znodes i.topics
    ++ (map config_znode i.broker_configs
    ++ (quota_znodes i.quotas i.users
    ++ (map (acl_znode i.acls) i.acls
    ++ producer_znodes i.next_producer)))

-- The znodes of the metadata in path order: the 17 roots, and those of the entities, each at its place.
unfoldable pub render : Image → List Rendered
render i = all_put bytes_cmp path_of_rendered (entity_znodes i) (map bare roots)

-- the data of the znode of a path, where there is one
abbrev pub body_at : List ℕ → List Rendered → Option (List ℕ)
body_at path rs = option_map (λ (r : Rendered). r.body) (find_by_key bytes_cmp path_of_rendered path rs)

-- The data that a path is rendered with, where it is rendered.
abbrev pub body_at_path : Image → List ℕ → Option (List ℕ)
body_at_path i path = body_at path (render i)

-- ---- whether the znodes keep the limits

abbrev pub is_long : Rendered → Bool
is_long r = nat_lt MAX_BODY_BYTES (length r.body)

-- A limit that a rendering passes, with the path at which it is told.
pub record Excess : Type 0 where
  pub number : ℕ
  pub path : List ℕ

abbrev pub excess_by : Option Rendered → List Rendered → Option Excess
excess_by (Some r) rs = Some (record { number = number_of_limit limits.BodyBytes; path = r.path })
excess_by None rs =
    if nat_lt MAX_ZNODES (length rs) then Some (record { number = number_of_limit limits.MigratedZnodes; path = codes "/brokers/topics" })
    else (if nat_lt MAX_BODIES_BYTES (sum_by (λ (r : Rendered). length r.body) rs) then Some (record { number = number_of_limit limits.BodiesBytes; path = codes "/brokers/topics" })
    else None)

-- The first limit that these znodes pass: the bytes of one znode's data, the number of znodes, the bytes of all data.
abbrev pub excess_of : List Rendered → Option Excess
excess_of rs = excess_by (find is_long rs) rs

-- The first limit that the rendering of the metadata passes, if any.
abbrev pub excess : Image → Option Excess
excess i = excess_of (render i)
