-- Where the znodes of entities stand: each at the path of its entity, or at one of a parent of it.
use Rattle.std.proofs.Common.{◌≡◌, ℕ, ℤ, pos, negsuc, ◌+ℤ◌, List, [], ◌∷◌, ◌++◌, Option, Some, None, Contains, All, refl, map, codes}
use Rattle.std.specs.List.{flat_map}
use Rattle.std.proofs.lemmas.List.Elements.{All-nil, All-cons, All-append}
use Rattle.kz_types.specs.declared.tree.Rendered.{Rendered}
use Rattle.kz_types.specs.declared.bodies.Pair.{Pair}
use Rattle.kz_types.specs.declared.bodies.Body.TheVariants as body
use Rattle.kz_types.specs.declared.key.EntityKey.{EntityKey}
use Rattle.kz_types.specs.declared.key.EntityKey.TheVariants as key
use Rattle.kz_types.specs.declared.image.Configuration.{Configuration}
use Rattle.kz_types.specs.declared.image.TopicEntry.{TopicEntry}
use Rattle.kz_types.specs.declared.image.PartitionEntry.{PartitionEntry}
use Rattle.kz_types.specs.declared.image.QuotaEntry.{QuotaEntry}
use Rattle.kz_types.specs.declared.image.ScramEntry.{ScramEntry}
use Rattle.kz_types.specs.declared.image.AclEntry.{AclEntry}
use Rattle.kz_types.specs.Paths.{path_of, key_of}
use Rattle.kz_types.proofs.Lookup.{Contains-head, Contains-tail}
use Rattle.kz_spec_data.specs.Image.{Image}
use Rattle.kz_spec_data.specs.Rendering.{bare, znode, topic_znode, state_body, partitions_path, number_path, partition_znodes, topic_config_znodes, topic_znodes, broker_key, config_znode, client_parents, quota_parents, znode_of_quotas, own_znodes, user_znode, quota_znodes, acl_key, acl_znode, producer_znodes, entity_znodes}

-- what holds of each of some lists' items holds of all of them together
pub each_flat : {A B : Type 0} (P : B → Type 0) (f : A → List B) (xs : List A) → ((x : A) → Contains xs x → All P (f x)) → All P (flat_map f xs)
each_flat P f [] each = All-nil P
each_flat P f (x ∷ xs) each = All-append P (f x) (flat_map f xs) (each x (Contains-head x xs)) (each_flat P f xs (λ y has. each y (Contains-tail x xs y has)))

-- the same of an item for each
pub each_map : {A B : Type 0} (P : B → Type 0) (f : A → B) (xs : List A) → ((x : A) → Contains xs x → P (f x)) → All P (map f xs)
each_map P f [] each = All-nil P
each_map P f (x ∷ xs) each = All-cons P (f x) (map f xs) (each x (Contains-head x xs)) (each_map P f xs (λ y has. each y (Contains-tail x xs y has)))

-- A path at which the metadata is rendered, other than a root without data.
pub data Place (i : Image) (path : List ℕ) : Type 0 where
  at_topic : (t : TopicEntry) → Contains i.topics t → path ≡ path_of (key.Topic t.name) → Place i path
  at_partitions : (t : TopicEntry) → Contains i.topics t → path ≡ partitions_path t.name → Place i path
  at_number : (t : TopicEntry) (p : PartitionEntry) → Contains i.topics t → Contains t.partitions p → path ≡ number_path t.name p.number → Place i path
  at_state : (t : TopicEntry) (p : PartitionEntry) → Contains i.topics t → Contains t.partitions p → path ≡ path_of (key.Partition t.name p.number) → Place i path
  at_topic_config : (t : TopicEntry) → Contains i.topics t → path ≡ path_of (key.TopicConfig t.name) → Place i path
  at_broker : (c : Configuration) → Contains i.broker_configs c → path ≡ path_of (broker_key c.name) → Place i path
  at_client_user : (q : QuotaEntry) (user client : Option (List ℕ)) → Contains i.quotas q → key_of q.path ≡ Some (key.UserClient user client) → path ≡ path_of (key.User user) → Place i path
  at_clients : (q : QuotaEntry) (user client : Option (List ℕ)) → Contains i.quotas q → key_of q.path ≡ Some (key.UserClient user client) → path ≡ path_of (key.User user) ++ codes "/clients" → Place i path
  at_quota : (q : QuotaEntry) (k : EntityKey) → Contains i.quotas q → key_of q.path ≡ Some k → path ≡ path_of k → Place i path
  at_user : (u : ScramEntry) → Contains i.users u → path ≡ path_of (key.User (Some u.name)) → Place i path
  at_acl : (a : AclEntry) → Contains i.acls a → path ≡ path_of (acl_key a.row) → Place i path
  at_producer : path ≡ path_of key.Producer → Place i path

-- a znode stands at such a path
abbrev pub IsPlaced : Image → Rendered → Type 0
IsPlaced i r = Place i r.path

-- ---- topics

partition_placed : (i : Image) (t : TopicEntry) (p : PartitionEntry) → Contains i.topics t → Contains t.partitions p → All (IsPlaced i) (partition_znodes t.name p)
partition_placed i t p has within =
    let state_znode = znode (key.Partition t.name p.number) (state_body p.row) in
    All-cons (IsPlaced i) (bare (number_path t.name p.number)) (state_znode ∷ []) (at_number t p has within refl) (All-cons (IsPlaced i) state_znode [] (at_state t p has within refl) (All-nil (IsPlaced i)))

config_placed : (i : Image) (t : TopicEntry) (pairs : List Pair) → Contains i.topics t → All (IsPlaced i) (topic_config_znodes t.name pairs)
config_placed i t [] has = All-nil (IsPlaced i)
config_placed i t (p ∷ ps) has = All-cons (IsPlaced i) (znode (key.TopicConfig t.name) (body.Config (p ∷ ps))) [] (at_topic_config t has refl) (All-nil (IsPlaced i))

topic_placed : (i : Image) (t : TopicEntry) → Contains i.topics t → All (IsPlaced i) (topic_znodes t)
topic_placed i t has =
    All-cons (IsPlaced i) (topic_znode t) (bare (partitions_path t.name) ∷ flat_map (partition_znodes t.name) t.partitions ++ topic_config_znodes t.name t.pairs) (at_topic t has refl) (All-cons (IsPlaced i) (bare (partitions_path t.name)) (flat_map (partition_znodes t.name) t.partitions ++ topic_config_znodes t.name t.pairs) (at_partitions t has refl)
    (All-append (IsPlaced i) (flat_map (partition_znodes t.name) t.partitions) (topic_config_znodes t.name t.pairs)
    (each_flat (IsPlaced i) (partition_znodes t.name) t.partitions (λ p within. partition_placed i t p has within)) (config_placed i t t.pairs has)))

-- ---- quotas and credentials

parents_placed : (i : Image) (q : QuotaEntry) (k : Option EntityKey) → Contains i.quotas q → key_of q.path ≡ k → All (IsPlaced i) (client_parents k)
parents_placed i q None has is = All-nil (IsPlaced i)
parents_placed i q (Some (key.Topic name)) has is = All-nil (IsPlaced i)
parents_placed i q (Some (key.Partition topic number)) has is = All-nil (IsPlaced i)
parents_placed i q (Some (key.TopicConfig name)) has is = All-nil (IsPlaced i)
parents_placed i q (Some (key.BrokerConfig broker)) has is = All-nil (IsPlaced i)
parents_placed i q (Some (key.Client client)) has is = All-nil (IsPlaced i)
parents_placed i q (Some (key.User user)) has is = All-nil (IsPlaced i)
parents_placed i q (Some (key.UserClient user client)) has is =
    let above = bare (path_of (key.User user) ++ codes "/clients") in
    All-cons (IsPlaced i) (bare (path_of (key.User user))) (above ∷ []) (at_client_user q user client has is refl) (All-cons (IsPlaced i) above [] (at_clients q user client has is refl) (All-nil (IsPlaced i)))
parents_placed i q (Some (key.Ip address)) has is = All-nil (IsPlaced i)
parents_placed i q (Some (key.Acl pattern kind name)) has is = All-nil (IsPlaced i)
parents_placed i q (Some key.Producer) has is = All-nil (IsPlaced i)

own_placed : (i : Image) (q : QuotaEntry) (k : Option EntityKey) → Contains i.quotas q → key_of q.path ≡ k → All (IsPlaced i) (znode_of_quotas q.quotas k)
own_placed i q None has is = All-nil (IsPlaced i)
own_placed i q (Some k) has is = All-cons (IsPlaced i) (znode k (body.Quota q.quotas [])) [] (at_quota q k has is refl) (All-nil (IsPlaced i))

quotas_placed : (i : Image) → All (IsPlaced i) (quota_znodes i.quotas i.users)
quotas_placed i = All-append (IsPlaced i) (flat_map quota_parents i.quotas) _ (each_flat (IsPlaced i) quota_parents i.quotas (λ q has. parents_placed i q (key_of q.path) has refl))
    (All-append (IsPlaced i) (flat_map own_znodes i.quotas) (map (user_znode i.quotas) i.users) (each_flat (IsPlaced i) own_znodes i.quotas (λ q has. own_placed i q (key_of q.path) has refl))
    (each_map (IsPlaced i) (user_znode i.quotas) i.users (λ u has. at_user u has refl)))

-- ---- all entities

producer_placed : (i : Image) (next : Option ℤ) → All (IsPlaced i) (producer_znodes next)
producer_placed i None = All-nil (IsPlaced i)
producer_placed i (Some n) = All-cons (IsPlaced i) (znode key.Producer (body.Producer (negsuc 0) n (n +ℤ pos 999))) [] (at_producer refl) (All-nil (IsPlaced i))

-- each znode of an entity stands at a place
pub entities_placed : (i : Image) → All (IsPlaced i) (entity_znodes i)
entities_placed i =
    All-append (IsPlaced i) (flat_map topic_znodes i.topics) _ (each_flat (IsPlaced i) topic_znodes i.topics (λ t has. topic_placed i t has))
    (All-append (IsPlaced i) (map config_znode i.broker_configs) _ (each_map (IsPlaced i) config_znode i.broker_configs (λ c has. at_broker c has refl))
    (All-append (IsPlaced i) (quota_znodes i.quotas i.users) _ (quotas_placed i)
    (All-append (IsPlaced i) (map (acl_znode i.acls) i.acls) (producer_znodes i.next_producer) (each_map (IsPlaced i) (acl_znode i.acls) i.acls (λ a has. at_acl a has refl)) (producer_placed i i.next_producer))))
