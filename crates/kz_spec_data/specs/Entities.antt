-- What metadata holds for the key of an entity: the body that its znode has.
use Rattle.std.specs.Prelude.{ℕ, negsuc, pos, ◌+ℤ◌, List, [], ◌∷◌, map, Option, Some, None, option_map, option_and_then}
use Rattle.std.specs.List.{filter}
use Rattle.std.specs.Str.{bytes_eq}
use Rattle.kz_types.specs.declared.key.EntityKey.{EntityKey}
use Rattle.kz_types.specs.declared.key.EntityKey.TheVariants as key
use Rattle.kz_types.specs.declared.bodies.Body.{Body}
use Rattle.kz_types.specs.declared.bodies.Body.TheVariants as body
use Rattle.kz_types.specs.declared.bodies.Pair.{Pair}
use Rattle.kz_types.specs.declared.bodies.QuotaRow.{QuotaRow}
use Rattle.kz_types.specs.declared.bodies.ScramPair.{ScramPair}
use Rattle.kz_types.specs.declared.row.AclRow.{AclRow}
use Rattle.kz_types.specs.declared.image.TopicEntry.{TopicEntry}
use Rattle.kz_types.specs.declared.image.AclEntry.{AclEntry}
use Rattle.kz_types.specs.Paths.{path_of}
use Rattle.kz_types.specs.Order.{bytes_cmp}
use Rattle.kz_types.specs.Ordered.{find}
use Rattle.kz_spec_data.specs.Metadata.{Image, path_of_quotas, topic_named, partition_at, pairs_at, pairs_of_topic}
use Rattle.kz_spec_data.specs.Image.{quotas_in, scrams_at}
use Rattle.kz_spec_data.specs.Rendering.{assignment_of, state_body, acl_key, row_of_acl}
use Rattle.kz_spec_data.specs.Translation.{broker_name}

abbrev pub topic_body : TopicEntry → Body
topic_body t = body.Topic t.id (map assignment_of t.partitions)

-- that of a configuration, where it has members
abbrev pub config_body : List Pair → Option Body
config_body [] = None
config_body (p ∷ ps) = Some (body.Config (p ∷ ps))

-- that of quotas and credentials, where there are some
abbrev pub quota_body : List QuotaRow → List ScramPair → Option Body
quota_body [] [] = None
quota_body [] (s ∷ ss) = Some (body.Quota [] (s ∷ ss))
quota_body (q ∷ qs) ss = Some (body.Quota (q ∷ qs) ss)

abbrev pub quotas_at : EntityKey → Image → List QuotaRow
quotas_at k i = quotas_in (find bytes_cmp path_of_quotas (path_of k) i.quotas)

-- the default user has no credentials
abbrev pub scrams_of_user : Option (List ℕ) → Image → List ScramPair
scrams_of_user None i = []
scrams_of_user (Some name) i = scrams_at name i.users

-- that of access control entries, where there are some
abbrev pub acl_body : List AclRow → Option Body
acl_body [] = None
acl_body (r ∷ rs) = Some (body.Acls (r ∷ rs))

-- the entries of the resource of a key, by rising id
abbrev pub rows_of_resource : EntityKey → List AclEntry → List AclRow
rows_of_resource k acls = map row_of_acl (filter (λ (a : AclEntry). bytes_eq (path_of (acl_key a.row)) (path_of k)) acls)

-- The body of the znode of a key, where the metadata holds something for it.
abbrev pub entity : Image → EntityKey → Option Body
entity i (key.Topic name) = option_map topic_body (topic_named name i)
entity i (key.Partition topic number) = option_map state_body (option_and_then (λ (t : TopicEntry). partition_at number t.partitions) (topic_named topic i))
entity i (key.TopicConfig name) = config_body (pairs_of_topic (topic_named name i))
entity i (key.BrokerConfig broker) = config_body (pairs_at (broker_name broker) i.broker_configs)
entity i (key.Client client) = quota_body (quotas_at (key.Client client) i) []
entity i (key.User user) = quota_body (quotas_at (key.User user) i) (scrams_of_user user i)
entity i (key.UserClient user client) = quota_body (quotas_at (key.UserClient user client) i) []
entity i (key.Ip address) = quota_body (quotas_at (key.Ip address) i) []
entity i (key.Acl pattern kind name) = acl_body (rows_of_resource (key.Acl pattern kind name) i.acls)
entity i key.Producer = option_map (λ next. body.Producer (negsuc 0) next (next +ℤ pos 999)) i.next_producer
