-- What stays of the metadata along records that don't speak of it.
use Rattle.std.proofs.Common.{◌≡◌, ◌≢◌, ◌⊎◌, ℕ, ℤ, pos, Bool, true, false, not, ◌&&◌, cond, List, [], ◌∷◌, Option, Some, None, Contains, refl, sym, ap, ◌∙◌, subst, inl, inr}
use Rattle.std.specs.Prelude.{⊤, int_le, int_lt, option_map, option_and_then, option_to_list}
use Rattle.std.specs.Ordering.{int_cmp, int_eq}
use Rattle.std.proofs.lemmas.Bool.{false≢true}
use Rattle.std.proofs.lemmas.List.Elements.{All-contains}
use Rattle.kz_types.specs.declared.codes.TheConstants.{NO_MIGRATION, POST_MIGRATION}
use Rattle.kz_types.specs.declared.id.Id.{Id}
use Rattle.kz_types.specs.declared.image.AclEntry.{AclEntry}
use Rattle.kz_types.specs.declared.image.Configuration.{Configuration}
use Rattle.kz_types.specs.declared.image.PartitionEntry.{PartitionEntry}
use Rattle.kz_types.specs.declared.image.QuotaEntry.{QuotaEntry}
use Rattle.kz_types.specs.declared.image.ScramEntry.{ScramEntry}
use Rattle.kz_types.specs.declared.image.TopicEntry.{TopicEntry}
use Rattle.kz_types.specs.declared.key.EntityKey.{EntityKey}
use Rattle.kz_types.specs.declared.row.PartitionRow.{PartitionRow}
use Rattle.kz_types.specs.declared.record.ConfigRecord.{ConfigRecord}
use Rattle.kz_types.specs.declared.record.ClientQuotaRecord.{ClientQuotaRecord}
use Rattle.kz_types.specs.declared.record.PartitionRecord.{PartitionRecord}
use Rattle.kz_types.specs.declared.record.PartitionChangeRecord.{PartitionChangeRecord}
use Rattle.kz_types.specs.declared.record.MetaRecord.{MetaRecord}
use Rattle.kz_types.specs.declared.record.MetaRecord.TheVariants as meta
use Rattle.kz_types.proofs.PathRules.{both_hold}
use Rattle.kz_spec_data.specs.Credentials.{quota_keys}
use Rattle.kz_types.specs.Paths.{is_not_negative, path_of, is_legal, has_path, is_among}
use Rattle.kz_types.specs.Order.{bytes_cmp}
use Rattle.kz_types.specs.Ordered.{find, put, without}
use Rattle.kz_types.proofs.Order.{bytes_order, int_order}
use Rattle.kz_types.proofs.Lookup.{same_some, found_is_contained, key_of_found, contained_is_found, find-put_other, find-without_other, Contains-head}
use Rattle.kz_spec_data.specs.Metadata.{Image, name_of_topic, name_of_configuration, path_of_quotas, name_of_user, mechanism_of_pair, id_of_acl, topic_named, topic_with, topic_name_of, number_of_partition, partition_at}
use Rattle.kz_spec_data.specs.ImageRules.{quota_key, broken_rule, new_row, is_row, leaves_row, has_quota}
use Rattle.kz_spec_data.specs.Image.{new_topic, with_changed, put_partition, partition_changed, topic_configured, configurations_after, with_member, pairs_at, quotas_in, with_quota, quota_changed, scrams_at, scram_row, acl_row, effect}
use Rattle.kz_spec_data.specs.InOrder.{IsInOrder}
use Rattle.kz_spec_data.specs.Legal.{IsPartition, IsTopic}
use Rattle.kz_laws_znodes.proofs.Entries.{HasIfFound}
use Rattle.kz_laws_znodes.proofs.QuotaLists.{quotas_hold}
use Rattle.kz_laws_znodes.proofs.UserLists.{users_hold}
use Rattle.kz_laws_znodes.proofs.TopicFinds.{has_id, same_id-Decides, found_passes, found_by_id}
use Rattle.kz_laws_znodes.proofs.Unbroken.{unbroken, neither_holds, not_less, change_unbroken, quota_unbroken}
use Rattle.kz_laws_znodes.proofs.Legal.{topic_id}
use Rattle.kz_laws_znodes.proofs.ImageTopics.{LeavesKeys, partition_put_leaves, partition_changed_leaves, topic_configured_leaves, among_with, among_named, alike_by_name}
use Rattle.kz_spec_data.specs.Touched.{Lead}
use Rattle.kz_laws_znodes.proofs.Effects.{found_elsewhere, changed_elsewhere, removed_elsewhere, stays_along}
use Rattle.kz_laws_znodes.proofs.Configurations.{configurations_hold}

-- ---- the numbers of partitions

-- a new partition's isn't negative
new_number : (m : Image) (r : PartitionRecord) → broken_rule m (meta.Partition r) ≡ None → is_not_negative r.partition_id ≡ true
new_number m r fine = not_less r.partition_id (pos 0) (neither_holds (int_lt r.partition_id (pos 0)) (not (is_row (new_row (pos 0) r))) (unbroken m (meta.Partition r) fine).2).0

-- that of one which is there isn't, either
changed_number : (m : Image) → IsInOrder m → (r : PartitionChangeRecord) → broken_rule m (meta.PartitionChange r) ≡ None → is_not_negative r.partition_id ≡ true
changed_number m order r fine = by (topic_with r.topic_id m) (among_with r.topic_id m.topics) (change_unbroken m r fine)
  where
    of_topic : (t : TopicEntry) → Contains m.topics t → (found : Option PartitionEntry) → find int_cmp number_of_partition r.partition_id t.partitions ≡ found
        → leaves_row r (option_map (λ (p : PartitionEntry). p.row) found) ≡ true → is_not_negative r.partition_id ≡ true
    of_topic t has None is left = absurd (false≢true left)
    of_topic t has (Some p) is left =
        let legal = All-contains IsTopic m.topics t order.legal.topics.each has in
        let low = All-contains IsPartition t.partitions p legal.each_partition (found_is_contained int_order number_of_partition r.partition_id t.partitions p is) in
        subst (λ n. is_not_negative n ≡ true) (key_of_found int_order number_of_partition r.partition_id t.partitions p is) low.0

    by : (found : Option TopicEntry) → HasIfFound (Contains m.topics) found → leaves_row r (option_and_then (λ (t : TopicEntry). partition_at r.partition_id t.partitions) found) ≡ true → is_not_negative r.partition_id ≡ true
    by None has left = absurd (false≢true left)
    by (Some t) has left = of_topic t has (find int_cmp number_of_partition r.partition_id t.partitions) refl left

-- ---- topics

-- the id of a topic that is found
abbrev pub said_id : Option TopicEntry → Option Id
said_id found = option_map topic_id found

module _ (old : Image) (oo : IsInOrder old) (name : List ℕ) where
  -- a topic of the name has the name for its id
  named_by_id : (id : Id) → said_id (topic_named name old) ≡ Some id → Contains (option_to_list (topic_name_of id old)) name
  named_by_id id = by (topic_named name old) refl
    where
      by : (found : Option TopicEntry) → topic_named name old ≡ found → said_id found ≡ Some id → Contains (option_to_list (topic_name_of id old)) name
      by None is said = absurd (cc (said))
      by (Some t) is said =
          let has : Contains old.topics t = found_is_contained bytes_order name_of_topic name old.topics t is in
          let named : t.name ≡ name = key_of_found bytes_order name_of_topic name old.topics t is in
          let same : t.id ≡ id = same_some t.id id said in
          let by_id : topic_with id old ≡ Some t = subst (λ (i : Id). topic_with i old ≡ Some t) same (found_by_id old.topics t oo.legal.topics.apart has) in
          subst (λ o. Contains (option_to_list o) name) (sym (ap (option_map name_of_topic) by_id)) (subst (λ n. Contains (n ∷ []) name) (sym named) (Contains-head name []))

  id_elsewhere : (m : Image) → IsInOrder m → said_id (topic_named name m) ≡ said_id (topic_named name old) → (id : Id) → (Contains (option_to_list (topic_name_of id old)) name → ⊥) → (t : TopicEntry) → topic_with id m ≡ Some t → name ≢ t.name
  id_elsewhere m order is id spared t found e =
      let has : Contains m.topics t = subst (HasIfFound (Contains m.topics)) found (among_with id m.topics) in
      let passes : has_id id t ≡ true = subst (HasIfFound (λ (u : TopicEntry). has_id id u ≡ true)) found (found_passes (has_id id) m.topics) in
      let named : topic_named name m ≡ Some t = ap (λ n. find bytes_cmp name_of_topic n m.topics) e ∙ contained_is_found bytes_order name_of_topic m.topics t order.topics.rising has in
      spared (named_by_id id (sym is ∙ ap said_id named ∙ ap (λ i. Some i) ((same_id-Decides t.id id).0 passes)))

  -- What is looked up in the topic of the name, by which its id is known.
  module _ {V : Type 0} (look : Option TopicEntry → V) (says : (a b : Option TopicEntry) → look a ≡ look b → said_id a ≡ said_id b) where
    -- A change of a topic leaves what is looked up.
    abbrev Leaves : (TopicEntry → TopicEntry) → Type 0
    Leaves change = (t : TopicEntry) → look (Some (change t)) ≡ look (Some t)

    -- A record that doesn't make or remove the topic, and whose change of a topic is of another, or leaves what is looked up. One of
    -- a partition of a negative number is refused.
    abbrev pub SparesTopic : MetaRecord → Type 0
    SparesTopic (meta.Topic r) = Contains (r.name ∷ []) name → ⊥
    SparesTopic (meta.RemoveTopic id) = Contains (option_to_list (topic_name_of id old)) name → ⊥
    SparesTopic (meta.Partition r) = is_not_negative r.partition_id ≡ true → (Contains (option_to_list (topic_name_of r.topic_id old)) name → ⊥) ⊎ ((row : PartitionRow) → Leaves (put_partition r.partition_id row))
    SparesTopic (meta.PartitionChange r) = is_not_negative r.partition_id ≡ true → (Contains (option_to_list (topic_name_of r.topic_id old)) name → ⊥) ⊎ ((epoch : ℤ) → Leaves (partition_changed epoch r))
    SparesTopic (meta.Config r) = int_eq r.resource_type (pos 2) ≡ true → (name ≢ r.resource_name) ⊎ Leaves (topic_configured r)
    SparesTopic r = ⊤

    -- a topic by its id is changed
    changed_by_id : (m : Image) → IsInOrder m → look (topic_named name m) ≡ look (topic_named name old) → (id : Id) (change : TopicEntry → TopicEntry) → LeavesKeys change → (Contains (option_to_list (topic_name_of id old)) name → ⊥) ⊎ Leaves change
        → look (find bytes_cmp name_of_topic name (with_changed change (topic_with id m) m.topics)) ≡ look (topic_named name m)
    changed_by_id m order is id change leaves (inl spared) = ap look (changed_elsewhere name change leaves (topic_with id m) m.topics (id_elsewhere m order (says (topic_named name m) (topic_named name old) is) id spared))
    changed_by_id m order is id change leaves (inr alike) = alike_by_name look m.topics order.topics.rising order.legal.topics.apart change leaves name (topic_with id m) (among_with id m.topics) alike

    configured : (m : Image) → IsInOrder m → (r : ConfigRecord) → (name ≢ r.resource_name) ⊎ Leaves (topic_configured r)
        → look (find bytes_cmp name_of_topic name (with_changed (topic_configured r) (topic_named r.resource_name m) m.topics)) ≡ look (topic_named name m)
    configured m order r (inl other) =
        ap look (changed_elsewhere name (topic_configured r) (topic_configured_leaves r) (topic_named r.resource_name m) m.topics
        (λ t found e. other (e ∙ key_of_found bytes_order name_of_topic r.resource_name m.topics t found)))
    configured m order r (inr alike) =
        alike_by_name look m.topics order.topics.rising order.legal.topics.apart (topic_configured r) (topic_configured_leaves r) name (topic_named r.resource_name m) (among_named r.resource_name m.topics) alike

    configured_if : (m : Image) → IsInOrder m → (r : ConfigRecord) (b : Bool) → (b ≡ true → (name ≢ r.resource_name) ⊎ Leaves (topic_configured r))
        → look (topic_named name (cond b (record m { topics = with_changed (topic_configured r) (topic_named r.resource_name m) m.topics }) (record m { broker_configs = configurations_after r m.broker_configs }))) ≡ look (topic_named name m)
    configured_if m order r true spared = configured m order r (spared refl)
    configured_if m order r false spared = refl

    marked : (m : Image) (s : ℤ) (b : Bool) → look (topic_named name (cond b (record m { state = s }) m)) ≡ look (topic_named name m)
    marked m s true = refl
    marked m s false = refl

    topic_step : (m : Image) (epoch : ℤ) (r : MetaRecord) → IsInOrder m → look (topic_named name m) ≡ look (topic_named name old) → SparesTopic r → broken_rule m r ≡ None → look (topic_named name (effect epoch r m)) ≡ look (topic_named name m)
    topic_step m epoch (meta.RegisterBroker r) order is spared fine = refl
    topic_step m epoch (meta.Topic r) order is spared fine = ap look (find-put_other bytes_order name_of_topic (new_topic r) m.topics name (λ e. spared (subst (λ n. Contains (r.name ∷ []) n) (sym e) (Contains-head r.name []))))
    topic_step m epoch (meta.Partition r) order is spared fine = changed_by_id m order is r.topic_id (put_partition r.partition_id (new_row epoch r)) (partition_put_leaves r.partition_id (new_row epoch r)) (elim (spared (new_number m r fine)) [ inl other ↦ inl other | inr alike ↦ inr (alike (new_row epoch r)) ])
    topic_step m epoch (meta.Config r) order is spared fine = configured_if m order r (int_eq r.resource_type (pos 2)) spared
    topic_step m epoch (meta.PartitionChange r) order is spared fine = changed_by_id m order is r.topic_id (partition_changed epoch r) (partition_changed_leaves epoch r) (elim (spared (changed_number m order r fine)) [ inl other ↦ inl other | inr alike ↦ inr (alike epoch) ])
    topic_step m epoch (meta.RemoveTopic id) order is spared fine =
        ap look (removed_elsewhere name id m.topics order.topics.rising
        (λ t found same. spared (named_by_id id (sym (says (topic_named name m) (topic_named name old) is) ∙ ap said_id found ∙ ap (λ i. Some i) same))))
    topic_step m epoch (meta.UserScramCredential r) order is spared fine = refl
    topic_step m epoch (meta.ClientQuota r) order is spared fine = refl
    topic_step m epoch (meta.ProducerIds r) order is spared fine = refl
    topic_step m epoch (meta.AccessControlEntry r) order is spared fine = refl
    topic_step m epoch (meta.RemoveAccessControlEntry id) order is spared fine = refl
    topic_step m epoch meta.NoOp order is spared fine = refl
    topic_step m epoch (meta.ZkMigrationState s) order is spared fine = marked m s (int_le NO_MIGRATION s && int_le s POST_MIGRATION)
    topic_step m epoch (meta.RemoveUserScramCredential user mechanism) order is spared fine = refl
    topic_step m epoch (meta.BeginTransaction label) order is spared fine = refl
    topic_step m epoch meta.EndTransaction order is spared fine = refl
    topic_step m epoch (meta.AbortTransaction reason) order is spared fine = refl

    -- what no record changes stays
    pub topic_stays : (rs : List MetaRecord) (new : Image) → ((r : MetaRecord) → Contains rs r → SparesTopic r) → Lead old rs new → look (topic_named name new) ≡ look (topic_named name old)
    topic_stays rs new spared lead = stays_along (λ m. look (topic_named name m)) (look (topic_named name old)) SparesTopic topic_step rs old new oo refl spared lead

-- ---- configurations of brokers

module _ (name : List ℕ) where
  abbrev config_found : Image → Option Configuration
  config_found m = find bytes_cmp name_of_configuration name m.broker_configs

  -- a record that isn't a member of this configuration
  abbrev pub SparesConfig : MetaRecord → Type 0
  SparesConfig (meta.Config r) = int_eq r.resource_type (pos 2) ≡ false → name ≢ r.resource_name
  SparesConfig r = ⊤

  configured_by : (m : Image) (r : ConfigRecord) (b : Bool) → (b ≡ false → name ≢ r.resource_name)
      → config_found (cond b (record m { topics = with_changed (topic_configured r) (topic_named r.resource_name m) m.topics }) (record m { broker_configs = configurations_after r m.broker_configs })) ≡ config_found m
  configured_by m r true spared = refl
  configured_by m r false spared = found_elsewhere configurations_hold name r.resource_name (with_member r.name r.value (pairs_at r.resource_name m.broker_configs)) m.broker_configs (spared refl)

  marked_by : (m : Image) (s : ℤ) (b : Bool) → config_found (cond b (record m { state = s }) m) ≡ config_found m
  marked_by m s true = refl
  marked_by m s false = refl

  config_step : (was : Option Configuration) (m : Image) (epoch : ℤ) (r : MetaRecord) → IsInOrder m → config_found m ≡ was → SparesConfig r → broken_rule m r ≡ None → config_found (effect epoch r m) ≡ config_found m
  config_step was m epoch (meta.RegisterBroker r) order is spared fine = refl
  config_step was m epoch (meta.Topic r) order is spared fine = refl
  config_step was m epoch (meta.Partition r) order is spared fine = refl
  config_step was m epoch (meta.Config r) order is spared fine = configured_by m r (int_eq r.resource_type (pos 2)) spared
  config_step was m epoch (meta.PartitionChange r) order is spared fine = refl
  config_step was m epoch (meta.RemoveTopic id) order is spared fine = refl
  config_step was m epoch (meta.UserScramCredential r) order is spared fine = refl
  config_step was m epoch (meta.ClientQuota r) order is spared fine = refl
  config_step was m epoch (meta.ProducerIds r) order is spared fine = refl
  config_step was m epoch (meta.AccessControlEntry r) order is spared fine = refl
  config_step was m epoch (meta.RemoveAccessControlEntry id) order is spared fine = refl
  config_step was m epoch meta.NoOp order is spared fine = refl
  config_step was m epoch (meta.ZkMigrationState s) order is spared fine = marked_by m s (int_le NO_MIGRATION s && int_le s POST_MIGRATION)
  config_step was m epoch (meta.RemoveUserScramCredential user mechanism) order is spared fine = refl
  config_step was m epoch (meta.BeginTransaction label) order is spared fine = refl
  config_step was m epoch meta.EndTransaction order is spared fine = refl
  config_step was m epoch (meta.AbortTransaction reason) order is spared fine = refl

  pub config_stays : (old : Image) → IsInOrder old → (rs : List MetaRecord) (new : Image) → ((r : MetaRecord) → Contains rs r → SparesConfig r) → Lead old rs new → config_found new ≡ config_found old
  config_stays old oo rs new spared lead = stays_along config_found (config_found old) SparesConfig (config_step (config_found old)) rs old new oo refl spared lead

-- ---- quotas

module _ (path : List ℕ) where
  abbrev quota_found : Image → Option QuotaEntry
  quota_found m = find bytes_cmp path_of_quotas path m.quotas

  -- a record that isn't a quota under this path
  abbrev pub SparesQuotas : MetaRecord → Type 0
  SparesQuotas (meta.ClientQuota r) = (k : EntityKey) → quota_key r.entity ≡ Some k → is_legal k ≡ true → path ≢ path_of k
  SparesQuotas r = ⊤

  quota_changed_by : (m : Image) (r : ClientQuotaRecord) (o : Option EntityKey) → has_quota o r.key ≡ true → ((k : EntityKey) → o ≡ Some k → is_legal k ≡ true → path ≢ path_of k) → find bytes_cmp path_of_quotas path (quota_changed r o m.quotas) ≡ quota_found m
  quota_changed_by m r None named spared = refl
  quota_changed_by m r (Some k) named spared =
      found_elsewhere quotas_hold path (path_of k) (with_quota r (quotas_in (find bytes_cmp path_of_quotas (path_of k) m.quotas))) m.quotas
      (spared k refl (both_hold (is_legal k) (has_path k) (both_hold (is_legal k && has_path k) (is_among (quota_keys k) r.key) named).0).0)

  quota_configured : (m : Image) (r : ConfigRecord) (b : Bool)
      → quota_found (cond b (record m { topics = with_changed (topic_configured r) (topic_named r.resource_name m) m.topics }) (record m { broker_configs = configurations_after r m.broker_configs })) ≡ quota_found m
  quota_configured m r true = refl
  quota_configured m r false = refl

  quota_marked : (m : Image) (s : ℤ) (b : Bool) → quota_found (cond b (record m { state = s }) m) ≡ quota_found m
  quota_marked m s true = refl
  quota_marked m s false = refl

  quota_step : (was : Option QuotaEntry) (m : Image) (epoch : ℤ) (r : MetaRecord) → IsInOrder m → quota_found m ≡ was → SparesQuotas r → broken_rule m r ≡ None → quota_found (effect epoch r m) ≡ quota_found m
  quota_step was m epoch (meta.RegisterBroker r) order is spared fine = refl
  quota_step was m epoch (meta.Topic r) order is spared fine = refl
  quota_step was m epoch (meta.Partition r) order is spared fine = refl
  quota_step was m epoch (meta.Config r) order is spared fine = quota_configured m r (int_eq r.resource_type (pos 2))
  quota_step was m epoch (meta.PartitionChange r) order is spared fine = refl
  quota_step was m epoch (meta.RemoveTopic id) order is spared fine = refl
  quota_step was m epoch (meta.UserScramCredential r) order is spared fine = refl
  quota_step was m epoch (meta.ClientQuota r) order is spared fine = quota_changed_by m r (quota_key r.entity) (quota_unbroken m r fine) spared
  quota_step was m epoch (meta.ProducerIds r) order is spared fine = refl
  quota_step was m epoch (meta.AccessControlEntry r) order is spared fine = refl
  quota_step was m epoch (meta.RemoveAccessControlEntry id) order is spared fine = refl
  quota_step was m epoch meta.NoOp order is spared fine = refl
  quota_step was m epoch (meta.ZkMigrationState s) order is spared fine = quota_marked m s (int_le NO_MIGRATION s && int_le s POST_MIGRATION)
  quota_step was m epoch (meta.RemoveUserScramCredential user mechanism) order is spared fine = refl
  quota_step was m epoch (meta.BeginTransaction label) order is spared fine = refl
  quota_step was m epoch meta.EndTransaction order is spared fine = refl
  quota_step was m epoch (meta.AbortTransaction reason) order is spared fine = refl

  pub quotas_stay : (old : Image) → IsInOrder old → (rs : List MetaRecord) (new : Image) → ((r : MetaRecord) → Contains rs r → SparesQuotas r) → Lead old rs new → quota_found new ≡ quota_found old
  quotas_stay old oo rs new spared lead = stays_along quota_found (quota_found old) SparesQuotas (quota_step (quota_found old)) rs old new oo refl spared lead

-- ---- credentials

module _ (name : List ℕ) where
  abbrev user_found : Image → Option ScramEntry
  user_found m = find bytes_cmp name_of_user name m.users

  -- a record that isn't a credential of this user
  abbrev pub SparesUser : MetaRecord → Type 0
  SparesUser (meta.UserScramCredential r) = name ≢ r.name
  SparesUser (meta.RemoveUserScramCredential user mechanism) = name ≢ user
  SparesUser r = ⊤

  user_configured : (m : Image) (r : ConfigRecord) (b : Bool)
      → user_found (cond b (record m { topics = with_changed (topic_configured r) (topic_named r.resource_name m) m.topics }) (record m { broker_configs = configurations_after r m.broker_configs })) ≡ user_found m
  user_configured m r true = refl
  user_configured m r false = refl

  user_marked : (m : Image) (s : ℤ) (b : Bool) → user_found (cond b (record m { state = s }) m) ≡ user_found m
  user_marked m s true = refl
  user_marked m s false = refl

  user_step : (was : Option ScramEntry) (m : Image) (epoch : ℤ) (r : MetaRecord) → IsInOrder m → user_found m ≡ was → SparesUser r → broken_rule m r ≡ None → user_found (effect epoch r m) ≡ user_found m
  user_step was m epoch (meta.RegisterBroker r) order is spared fine = refl
  user_step was m epoch (meta.Topic r) order is spared fine = refl
  user_step was m epoch (meta.Partition r) order is spared fine = refl
  user_step was m epoch (meta.Config r) order is spared fine = user_configured m r (int_eq r.resource_type (pos 2))
  user_step was m epoch (meta.PartitionChange r) order is spared fine = refl
  user_step was m epoch (meta.RemoveTopic id) order is spared fine = refl
  user_step was m epoch (meta.UserScramCredential r) order is spared fine = found_elsewhere users_hold name r.name (put int_cmp mechanism_of_pair (record { mechanism = r.mechanism; value = scram_row r }) (scrams_at r.name m.users)) m.users spared
  user_step was m epoch (meta.ClientQuota r) order is spared fine = refl
  user_step was m epoch (meta.ProducerIds r) order is spared fine = refl
  user_step was m epoch (meta.AccessControlEntry r) order is spared fine = refl
  user_step was m epoch (meta.RemoveAccessControlEntry id) order is spared fine = refl
  user_step was m epoch meta.NoOp order is spared fine = refl
  user_step was m epoch (meta.ZkMigrationState s) order is spared fine = user_marked m s (int_le NO_MIGRATION s && int_le s POST_MIGRATION)
  user_step was m epoch (meta.RemoveUserScramCredential user mechanism) order is spared fine = found_elsewhere users_hold name user (without int_cmp mechanism_of_pair mechanism (scrams_at user m.users)) m.users spared
  user_step was m epoch (meta.BeginTransaction label) order is spared fine = refl
  user_step was m epoch meta.EndTransaction order is spared fine = refl
  user_step was m epoch (meta.AbortTransaction reason) order is spared fine = refl

  pub user_stays : (old : Image) → IsInOrder old → (rs : List MetaRecord) (new : Image) → ((r : MetaRecord) → Contains rs r → SparesUser r) → Lead old rs new → user_found new ≡ user_found old
  user_stays old oo rs new spared lead = stays_along user_found (user_found old) SparesUser (user_step (user_found old)) rs old new oo refl spared lead

-- ---- access control entries

module _ (bytes : List ℕ) where
  abbrev pub entry_found : Image → Option AclEntry
  entry_found m = find bytes_cmp id_of_acl bytes m.acls

  -- a record of another entry
  abbrev pub SparesEntry : MetaRecord → Type 0
  SparesEntry (meta.AccessControlEntry r) = bytes ≢ r.id.bytes
  SparesEntry (meta.RemoveAccessControlEntry id) = bytes ≢ id.bytes
  SparesEntry r = ⊤

  entry_configured : (m : Image) (r : ConfigRecord) (b : Bool)
      → entry_found (cond b (record m { topics = with_changed (topic_configured r) (topic_named r.resource_name m) m.topics }) (record m { broker_configs = configurations_after r m.broker_configs })) ≡ entry_found m
  entry_configured m r true = refl
  entry_configured m r false = refl

  entry_marked : (m : Image) (s : ℤ) (b : Bool) → entry_found (cond b (record m { state = s }) m) ≡ entry_found m
  entry_marked m s true = refl
  entry_marked m s false = refl

  entry_step : (was : Option AclEntry) (m : Image) (epoch : ℤ) (r : MetaRecord) → IsInOrder m → entry_found m ≡ was → SparesEntry r → broken_rule m r ≡ None → entry_found (effect epoch r m) ≡ entry_found m
  entry_step was m epoch (meta.RegisterBroker r) order is spared fine = refl
  entry_step was m epoch (meta.Topic r) order is spared fine = refl
  entry_step was m epoch (meta.Partition r) order is spared fine = refl
  entry_step was m epoch (meta.Config r) order is spared fine = entry_configured m r (int_eq r.resource_type (pos 2))
  entry_step was m epoch (meta.PartitionChange r) order is spared fine = refl
  entry_step was m epoch (meta.RemoveTopic id) order is spared fine = refl
  entry_step was m epoch (meta.UserScramCredential r) order is spared fine = refl
  entry_step was m epoch (meta.ClientQuota r) order is spared fine = refl
  entry_step was m epoch (meta.ProducerIds r) order is spared fine = refl
  entry_step was m epoch (meta.AccessControlEntry r) order is spared fine = find-put_other bytes_order id_of_acl (record { id = r.id; row = acl_row r }) m.acls bytes spared
  entry_step was m epoch (meta.RemoveAccessControlEntry id) order is spared fine = find-without_other bytes_order id_of_acl id.bytes m.acls bytes spared
  entry_step was m epoch meta.NoOp order is spared fine = refl
  entry_step was m epoch (meta.ZkMigrationState s) order is spared fine = entry_marked m s (int_le NO_MIGRATION s && int_le s POST_MIGRATION)
  entry_step was m epoch (meta.RemoveUserScramCredential user mechanism) order is spared fine = refl
  entry_step was m epoch (meta.BeginTransaction label) order is spared fine = refl
  entry_step was m epoch meta.EndTransaction order is spared fine = refl
  entry_step was m epoch (meta.AbortTransaction reason) order is spared fine = refl

  pub entry_stays : (old : Image) → IsInOrder old → (rs : List MetaRecord) (new : Image) → ((r : MetaRecord) → Contains rs r → SparesEntry r) → Lead old rs new → entry_found new ≡ entry_found old
  entry_stays old oo rs new spared lead = stays_along entry_found (entry_found old) SparesEntry (entry_step (entry_found old)) rs old new oo refl spared lead

-- ---- producer ids

-- a record that takes no block
abbrev pub SparesProducer : MetaRecord → Type 0
SparesProducer (meta.ProducerIds r) = ⊥
SparesProducer r = ⊤

next_configured : (m : Image) (r : ConfigRecord) (b : Bool)
    → (cond b (record m { topics = with_changed (topic_configured r) (topic_named r.resource_name m) m.topics }) (record m { broker_configs = configurations_after r m.broker_configs })).next_producer ≡ m.next_producer
next_configured m r true = refl
next_configured m r false = refl

next_marked : (m : Image) (s : ℤ) (b : Bool) → (cond b (record m { state = s }) m).next_producer ≡ m.next_producer
next_marked m s true = refl
next_marked m s false = refl

next_step : (was : Option ℤ) (m : Image) (epoch : ℤ) (r : MetaRecord) → IsInOrder m → m.next_producer ≡ was → SparesProducer r → broken_rule m r ≡ None → (effect epoch r m).next_producer ≡ m.next_producer
next_step was m epoch (meta.RegisterBroker r) order is spared fine = refl
next_step was m epoch (meta.Topic r) order is spared fine = refl
next_step was m epoch (meta.Partition r) order is spared fine = refl
next_step was m epoch (meta.Config r) order is spared fine = next_configured m r (int_eq r.resource_type (pos 2))
next_step was m epoch (meta.PartitionChange r) order is spared fine = refl
next_step was m epoch (meta.RemoveTopic id) order is spared fine = refl
next_step was m epoch (meta.UserScramCredential r) order is spared fine = refl
next_step was m epoch (meta.ClientQuota r) order is spared fine = refl
next_step was m epoch (meta.ProducerIds r) order is spared fine = absurd spared
next_step was m epoch (meta.AccessControlEntry r) order is spared fine = refl
next_step was m epoch (meta.RemoveAccessControlEntry id) order is spared fine = refl
next_step was m epoch meta.NoOp order is spared fine = refl
next_step was m epoch (meta.ZkMigrationState s) order is spared fine = next_marked m s (int_le NO_MIGRATION s && int_le s POST_MIGRATION)
next_step was m epoch (meta.RemoveUserScramCredential user mechanism) order is spared fine = refl
next_step was m epoch (meta.BeginTransaction label) order is spared fine = refl
next_step was m epoch meta.EndTransaction order is spared fine = refl
next_step was m epoch (meta.AbortTransaction reason) order is spared fine = refl

pub next_stays : (old : Image) → IsInOrder old → (rs : List MetaRecord) (new : Image) → ((r : MetaRecord) → Contains rs r → SparesProducer r) → Lead old rs new → new.next_producer ≡ old.next_producer
next_stays old oo rs new spared lead = stays_along (λ (m : Image). m.next_producer) old.next_producer SparesProducer (next_step old.next_producer) rs old new oo refl spared lead
