-- The keys that records touch, which lead from one metadata to another.
use Rattle.std.specs.Prelude.{◌≡◌, ◌⊎◌, ℕ, ℤ, pos, true, List, [], ◌∷◌, ◌++◌, map, Contains, All, Option, Some, None, is_some, option_map, option_and_then, option_to_list, if◌then◌else◌}
use Rattle.std.specs.List.{flat_map}
use Rattle.std.specs.Ordering.{int_eq}
use Rattle.kz_types.specs.declared.id.Id.{Id}
use Rattle.kz_types.specs.declared.key.EntityKey.{EntityKey}
use Rattle.kz_types.specs.declared.key.EntityKey.TheVariants as key
use Rattle.kz_types.specs.declared.record.MetaRecord.{MetaRecord}
use Rattle.kz_types.specs.declared.record.MetaRecord.TheVariants as meta
use Rattle.kz_types.specs.declared.image.TopicEntry.{TopicEntry}
use Rattle.kz_types.specs.declared.image.PartitionEntry.{PartitionEntry}
use Rattle.kz_types.specs.declared.image.Configuration.{Configuration}
use Rattle.kz_types.specs.declared.image.QuotaEntry.{QuotaEntry}
use Rattle.kz_types.specs.declared.image.ScramEntry.{ScramEntry}
use Rattle.kz_types.specs.declared.image.AclEntry.{AclEntry}
use Rattle.kz_types.specs.declared.log.BatchRow.{BatchRow}
use Rattle.kz_types.specs.Paths.{key_of, path_of, is_legal}
use Rattle.kz_types.specs.Order.{bytes_cmp}
use Rattle.kz_types.specs.Ordered.{Rises}
use Rattle.kz_spec_data.specs.Metadata.{Image, topic_named, topic_name_of, acl_of}
use Rattle.kz_spec_data.specs.ImageRules.{quota_key}
use Rattle.kz_spec_data.specs.Image.{image_with}
use Rattle.kz_spec_data.specs.Log.{Feed}
use Rattle.kz_spec_data.specs.Rendering.{broker_key, acl_key}

-- These records lead from one metadata to another: each is taken in, in a batch of some epoch, or is passed over.
abbrev pub Lead : Image → List MetaRecord → Image → Type 0
Lead old [] new = new ≡ old
Lead old (r ∷ rs) new = (next : Image) × ((next ≡ old) ⊎ ((epoch : ℤ) × (next ≡ image_with epoch r old))) × Lead next rs new

-- ---- topics

-- the topics that a record makes or removes: by a name, or by an id that one has in the metadata before
abbrev pub topics_made_or_removed : Image → MetaRecord → List (List ℕ)
topics_made_or_removed old (meta.Topic r) = r.name ∷ []
topics_made_or_removed old (meta.RemoveTopic id) = option_to_list (topic_name_of id old)
topics_made_or_removed old r = []

abbrev pub partition_keys : List ℕ → Option TopicEntry → List EntityKey
partition_keys name None = []
partition_keys name (Some t) = map (λ (p : PartitionEntry). key.Partition name p.number) t.partitions

-- the keys of a topic, of its configuration, and of the partitions that it has before and after
abbrev pub keys_of_topic : Image → Image → List ℕ → List EntityKey
keys_of_topic old new name = key.Topic name ∷ key.TopicConfig name ∷ (partition_keys name (topic_named name old) ++ partition_keys name (topic_named name new))

-- the key of a partition of the topic of an id, where a topic has the id in the metadata before
abbrev pub keys_of_partition : Image → Id → ℤ → List EntityKey
keys_of_partition old id number = option_to_list (option_map (λ name. key.Partition name number) (topic_name_of id old))

-- ---- the others

-- the keys of the resources of an access control entry, before and after
abbrev pub keys_of_entry : Image → Image → Id → List EntityKey
keys_of_entry old new id = option_to_list (option_map acl_key (acl_of id old)) ++ option_to_list (option_map acl_key (acl_of id new))

-- The key of an entity with a quota, as it is read from its path. A record of an entity that isn't legal is passed over.
abbrev pub key_of_quota : EntityKey → Option EntityKey
key_of_quota k = if is_legal k then key_of (path_of k) else None

-- the other keys that a record speaks of; resource type 2 is a topic
abbrev pub keys_spoken_of : Image → Image → MetaRecord → List EntityKey
keys_spoken_of old new (meta.Partition r) = keys_of_partition old r.topic_id r.partition_id
keys_spoken_of old new (meta.PartitionChange r) = keys_of_partition old r.topic_id r.partition_id
keys_spoken_of old new (meta.Config r) = if int_eq r.resource_type (pos 2) then key.TopicConfig r.resource_name ∷ [] else broker_key r.resource_name ∷ []
keys_spoken_of old new (meta.ClientQuota r) = option_to_list (option_and_then key_of_quota (quota_key r.entity))
keys_spoken_of old new (meta.UserScramCredential r) = key.User (Some r.name) ∷ []
keys_spoken_of old new (meta.RemoveUserScramCredential name mechanism) = key.User (Some name) ∷ []
keys_spoken_of old new (meta.AccessControlEntry r) = keys_of_entry old new r.id
keys_spoken_of old new (meta.RemoveAccessControlEntry id) = keys_of_entry old new id
keys_spoken_of old new (meta.ProducerIds r) = key.Producer ∷ []
keys_spoken_of old new r = []

abbrev pub keys_touched_by : Image → Image → MetaRecord → List EntityKey
keys_touched_by old new r = flat_map (keys_of_topic old new) (topics_made_or_removed old r) ++ keys_spoken_of old new r

-- The keys that records touch, which lead from the one metadata to the other. A record of a partition touches the key of that
-- partition alone, which spans the topic too. A topic that is made or removed is touched with all its partitions.
abbrev pub touched_keys : Image → Image → List MetaRecord → List EntityKey
touched_keys old new rs = flat_map (keys_touched_by old new) rs

-- ---- all keys

-- the keys of a topic that is there, of its configuration and of its partitions
abbrev pub keys_of_topic_entry : TopicEntry → List EntityKey
keys_of_topic_entry t = key.Topic t.name ∷ key.TopicConfig t.name ∷ partition_keys t.name (Some t)

-- each key for which the metadata holds something, and some for which it may hold nothing
abbrev pub keys_of_image : Image → List EntityKey
keys_of_image i = flat_map keys_of_topic_entry i.topics
    ++ (map (λ (c : Configuration). broker_key c.name) i.broker_configs
    ++ (flat_map (λ (q : QuotaEntry). option_to_list (key_of q.path)) i.quotas
    ++ (map (λ (u : ScramEntry). key.User (Some u.name)) i.users
    ++ (map (λ (a : AclEntry). acl_key a.row) i.acls
    ++ key.Producer ∷ []))))

-- ---- what is read of a log

-- the records of a feed
abbrev pub records_of_feed : Feed → List MetaRecord
records_of_feed f = flat_map (λ (b : BatchRow). b.items) f.batches

-- the keys that a feed speaks of: all keys of either metadata where it has a base, whose records aren't told
abbrev pub keys_of_feed : Image → Feed → Image → List EntityKey
keys_of_feed old f new = if is_some f.base then keys_of_image old ++ keys_of_image new else touched_keys old new (records_of_feed f)

-- The keys that a feed touches which leads from one metadata to another: the legal ones of which it speaks, each once.
pub record AreTouched (old : Image) (f : Feed) (new : Image) (ks : List EntityKey) : Type 0 where
  pub rise : Rises bytes_cmp path_of ks
  pub legal : All (λ (k : EntityKey). is_legal k ≡ true) ks
  pub all : (k : EntityKey) → is_legal k ≡ true → Contains (keys_of_feed old f new) k → Contains ks k
  pub only : (k : EntityKey) → Contains ks k → Contains (keys_of_feed old f new) k

-- A feed leads from one metadata to another: it has a base, or its records do.
abbrev pub Leads : Image → Feed → Image → Type 0
Leads old f new = f.base ≡ None → Lead old (records_of_feed f) new
