-- Metadata holds nothing for a key that isn't among all its keys.
use Rattle.std.proofs.Common.{◌≡◌, ℕ, ℤ, Ordering, Bool, true, false, cond, List, [], ◌∷◌, ◌++◌, map, filter, Option, Some, None, Contains, refl, sym, ap, ◌∙◌, subst}
use Rattle.std.specs.Prelude.{option_map, option_and_then, option_to_list}
use Rattle.std.specs.List.{flat_map}
use Rattle.std.specs.Str.{bytes_eq}
use Rattle.std.proofs.lemmas.Slice.Eq.{bytes_eq-Decides}
use Rattle.std.proofs.lemmas.List.Elements.{Contains-append_left, Contains-append_right}
use Rattle.kz_types.specs.declared.image.AclEntry.{AclEntry}
use Rattle.kz_types.specs.declared.image.Configuration.{Configuration}
use Rattle.kz_types.specs.declared.image.PartitionEntry.{PartitionEntry}
use Rattle.kz_types.specs.declared.image.QuotaEntry.{QuotaEntry}
use Rattle.kz_types.specs.declared.image.ScramEntry.{ScramEntry}
use Rattle.kz_types.specs.declared.image.TopicEntry.{TopicEntry}
use Rattle.kz_types.specs.declared.key.EntityKey.{EntityKey}
use Rattle.kz_types.specs.declared.key.EntityKey.TheVariants as key
use Rattle.kz_types.specs.Paths.{key_of, path_of}
use Rattle.kz_types.specs.Order.{TotalOrder, bytes_cmp}
use Rattle.kz_types.specs.Ordered.{find}
use Rattle.kz_types.proofs.Order.{bytes_order, int_order}
use Rattle.kz_types.proofs.Lookup.{found_is_contained, key_of_found, Contains-head, Contains-tail, Contains-nil}
use Rattle.kz_spec_data.specs.Metadata.{Image, number_of_partition, name_of_topic, name_of_configuration, name_of_user, path_of_quotas, topic_named, partition_at, pairs_of, pairs_of_topic}
use Rattle.kz_spec_data.specs.Image.{quotas_in, scrams_in}
use Rattle.kz_spec_data.specs.InOrder.{IsInOrder}
use Rattle.kz_spec_data.specs.Rendering.{broker_key, acl_key, row_of_acl, state_body}
use Rattle.kz_spec_data.specs.Translation.{broker_name}
use Rattle.kz_laws_values.proofs.Legal.{IsGoodKey}
use Rattle.kz_laws_values.proofs.Keys.{path_holds, one_key}
use Rattle.kz_laws_znodes.specs.RoundTrip.{IsWritable}
use Rattle.kz_laws_znodes.proofs.BrokerWalk.{IsBrokerKey}
use Rattle.kz_laws_znodes.proofs.Held.{facts_of_acl}
use Rattle.kz_laws_znodes.proofs.Within.{to_flat, to_map}
use Rattle.kz_spec_data.specs.Entities.{topic_body, config_body, quota_body, quotas_at, acl_body, entity}
use Rattle.kz_spec_data.specs.Touched.{partition_keys, keys_of_topic_entry, keys_of_image}
use Rattle.kz_laws_znodes.proofs.Configurations.{broker_back, broker_is_good}
use Rattle.kz_laws_znodes.proofs.Spans.{second_of}

-- nothing is found where no item has the key
none_found : {A K : Type 0} {cmp : K → K → Ordering} (o : TotalOrder cmp) (key_of_item : A → K) (k : K) (xs : List A) → ((a : A) → Contains xs a → key_of_item a ≡ k → ⊥) → find cmp key_of_item k xs ≡ None
none_found {A} {K} {cmp} o key_of_item k xs none = by (find cmp key_of_item k xs) refl
  where
    by : (found : Option A) → find cmp key_of_item k xs ≡ found → find cmp key_of_item k xs ≡ None
    by None is = is
    by (Some a) is = absurd (none a (found_is_contained o key_of_item k xs a is) (key_of_found o key_of_item k xs a is))

-- nothing passes where each item fails
nothing_passes : {A : Type 0} (test : A → Bool) (xs : List A) → ((a : A) → Contains xs a → test a ≡ false) → filter test xs ≡ []
nothing_passes test [] fails = refl
nothing_passes test (x ∷ xs) fails = ap (λ b. cond b (x ∷ filter test xs) (filter test xs)) (fails x (Contains-head x xs)) ∙ nothing_passes test xs (λ a has. fails a (Contains-tail x xs a has))

-- ---- where the keys of each list stand

module _ (i : Image) where
  abbrev topic_keys : List EntityKey
  topic_keys = flat_map keys_of_topic_entry i.topics

  abbrev config_keys : List EntityKey
  config_keys = map (λ (c : Configuration). broker_key c.name) i.broker_configs

  abbrev quota_keys : List EntityKey
  quota_keys = flat_map (λ (q : QuotaEntry). option_to_list (key_of q.path)) i.quotas

  abbrev user_keys : List EntityKey
  user_keys = map (λ (u : ScramEntry). key.User (Some u.name)) i.users

  abbrev entry_keys : List EntityKey
  entry_keys = map (λ (a : AclEntry). acl_key a.row) i.acls

  -- those from the entries on, from the users on, and so on
  abbrev from_entries : List EntityKey
  from_entries = entry_keys ++ key.Producer ∷ []

  abbrev from_users : List EntityKey
  from_users = user_keys ++ from_entries

  abbrev from_quotas : List EntityKey
  from_quotas = quota_keys ++ from_users

  abbrev from_configs : List EntityKey
  from_configs = config_keys ++ from_quotas

  of_topics : (k : EntityKey) → Contains topic_keys k → Contains (keys_of_image i) k
  of_topics k has = Contains-append_left topic_keys from_configs k has

  after_topics : (k : EntityKey) → Contains from_configs k → Contains (keys_of_image i) k
  after_topics k has = Contains-append_right topic_keys from_configs k has

  of_configs : (k : EntityKey) → Contains config_keys k → Contains (keys_of_image i) k
  of_configs k has = after_topics k (Contains-append_left config_keys from_quotas k has)

  after_configs : (k : EntityKey) → Contains from_quotas k → Contains (keys_of_image i) k
  after_configs k has = after_topics k (Contains-append_right config_keys from_quotas k has)

  of_quotas : (k : EntityKey) → Contains quota_keys k → Contains (keys_of_image i) k
  of_quotas k has = after_configs k (Contains-append_left quota_keys from_users k has)

  after_quotas : (k : EntityKey) → Contains from_users k → Contains (keys_of_image i) k
  after_quotas k has = after_configs k (Contains-append_right quota_keys from_users k has)

  of_users : (k : EntityKey) → Contains user_keys k → Contains (keys_of_image i) k
  of_users k has = after_quotas k (Contains-append_left user_keys from_entries k has)

  after_users : (k : EntityKey) → Contains from_entries k → Contains (keys_of_image i) k
  after_users k has = after_quotas k (Contains-append_right user_keys from_entries k has)

  of_entries : (k : EntityKey) → Contains entry_keys k → Contains (keys_of_image i) k
  of_entries k has = after_users k (Contains-append_left entry_keys (key.Producer ∷ []) k has)

  producer_among : Contains (keys_of_image i) key.Producer
  producer_among = after_users key.Producer (Contains-append_right entry_keys (key.Producer ∷ []) key.Producer (Contains-head key.Producer []))

  -- ---- topics

  -- a key of a topic
  of_topic : (k : EntityKey) (t : TopicEntry) → Contains i.topics t → Contains (keys_of_topic_entry t) k → Contains (keys_of_image i) k
  of_topic k t has among = of_topics k (to_flat keys_of_topic_entry i.topics t k has among)

  no_topic : (k : EntityKey) (name : List ℕ) → ((t : TopicEntry) → t.name ≡ name → Contains (keys_of_topic_entry t) k) → (Contains (keys_of_image i) k → ⊥) → topic_named name i ≡ None
  no_topic k name among none = none_found bytes_order name_of_topic name i.topics (λ t has named. none (of_topic k t has (among t named)))

  partition_among : (k : EntityKey) (name : List ℕ) → Contains (partition_keys name (topic_named name i)) k → Contains (keys_of_image i) k
  partition_among k name = by (topic_named name i) refl
    where
      by : (found : Option TopicEntry) → topic_named name i ≡ found → Contains (partition_keys name found) k → Contains (keys_of_image i) k
      by None is has = absurd (Contains-nil k has)
      by (Some t) is has =
          let partitions = partition_keys t.name (Some t) in
          let named = key_of_found bytes_order name_of_topic name i.topics t is in
          let own = subst (λ n. Contains (partition_keys n (Some t)) k) (sym named) has in
          of_topic k t (found_is_contained bytes_order name_of_topic name i.topics t is)
          (Contains-tail (key.Topic t.name) (key.TopicConfig t.name ∷ partitions) k (Contains-tail (key.TopicConfig t.name) partitions k own))

  -- no partition of the number
  pub no_partition : (name : List ℕ) (number : ℤ) → (Contains (partition_keys name (topic_named name i)) (key.Partition name number) → ⊥) → entity i (key.Partition name number) ≡ None
  no_partition name number = by (topic_named name i)
    where
      by : (found : Option TopicEntry) → (Contains (partition_keys name found) (key.Partition name number) → ⊥) → option_map state_body (option_and_then (λ (t : TopicEntry). partition_at number t.partitions) found) ≡ None
      by None none = refl
      by (Some t) none =
          ap (λ q. option_map state_body (option_map (λ (p : PartitionEntry). p.row) q)) (none_found int_order number_of_partition number t.partitions
          (λ q has at. none (subst (λ n. Contains (partition_keys name (Some t)) (key.Partition name n)) at (to_map (λ (p : PartitionEntry). key.Partition name p.number) t.partitions q has))))

  -- ---- configurations, quotas and credentials

  no_config : (b : Option ℤ) → IsBrokerKey b → (Contains (keys_of_image i) (key.BrokerConfig b) → ⊥) → find bytes_cmp name_of_configuration (broker_name b) i.broker_configs ≡ None
  no_config b good none = none_found bytes_order name_of_configuration (broker_name b) i.broker_configs
      (λ c has named. none (of_configs (key.BrokerConfig b) (subst (Contains config_keys) (ap broker_key named ∙ broker_back b good) (to_map (λ (d : Configuration). broker_key d.name) i.broker_configs c has))))

  no_quotas : (k : EntityKey) → IsGoodKey k → (Contains (keys_of_image i) k → ⊥) → quotas_at k i ≡ []
  no_quotas k good none = ap quotas_in (none_found bytes_order path_of_quotas (path_of k) i.quotas
      (λ q has at. none (of_quotas k (to_flat (λ (r : QuotaEntry). option_to_list (key_of r.path)) i.quotas q k has (subst (λ o. Contains (option_to_list o) k) (sym (ap key_of at ∙ path_holds k good.0 good.1)) (Contains-head k []))))))

  no_user : (name : List ℕ) → (Contains (keys_of_image i) (key.User (Some name)) → ⊥) → find bytes_cmp name_of_user name i.users ≡ None
  no_user name none = none_found bytes_order name_of_user name i.users
      (λ u has named. none (of_users (key.User (Some name)) (subst (λ n. Contains user_keys (key.User (Some n))) named (to_map (λ (v : ScramEntry). key.User (Some v.name)) i.users u has))))

  no_user_body : (user : Option (List ℕ)) → IsGoodKey (key.User user) → (Contains (keys_of_image i) (key.User user) → ⊥) → entity i (key.User user) ≡ None
  no_user_body None good none = ap (λ qs. quota_body qs []) (no_quotas (key.User None) good none)
  no_user_body (Some name) good none =
      let quotas = no_quotas (key.User (Some name)) good none in
      let scrams = ap scrams_in (no_user name none) in
      (λ j. quota_body (quotas j) (scrams j))

-- ---- access control entries

-- whether an entry is of the resource of a key
abbrev pub is_at : EntityKey → AclEntry → Bool
is_at k a = bytes_eq (path_of (acl_key a.row)) (path_of k)

module _ (i : Image) (o : IsInOrder i) (w : IsWritable i) where
  -- an entry that doesn't have the key is of another resource
  pub of_other : (k : EntityKey) → IsGoodKey k → (a : AclEntry) → Contains i.acls a → (acl_key a.row ≡ k → ⊥) → is_at k a ≡ false
  of_other k good a has other = by (is_at k a) (bytes_eq-Decides (path_of (acl_key a.row)) (path_of k)).0
    where
      by : (b : Bool) → (b ≡ true → path_of (acl_key a.row) ≡ path_of k) → b ≡ false
      by true is =
          let g = (facts_of_acl i o w a has).good in
          absurd (other (one_key (acl_key a.row) k g.0 g.1 good.0 good.1 (is refl)))
      by false is = refl

  no_entries : (k : EntityKey) → IsGoodKey k → (Contains (keys_of_image i) k → ⊥) → filter (is_at k) i.acls ≡ []
  no_entries k good none =
      nothing_passes (is_at k) i.acls (λ a has. of_other k good a has (λ e. none (of_entries i k (subst (λ j. Contains (entry_keys i) j) e (to_map (λ (b : AclEntry). acl_key b.row) i.acls a has)))))

  -- ---- all keys

  -- metadata holds nothing for a key that isn't among them
  pub nothing_held : (k : EntityKey) → IsGoodKey k → (Contains (keys_of_image i) k → ⊥) → entity i k ≡ None
  nothing_held (key.Topic name) good none =
      ap (option_map topic_body) (no_topic i (key.Topic name) name (λ t e. subst (λ n. Contains (keys_of_topic_entry t) (key.Topic n)) e (Contains-head (key.Topic t.name) (key.TopicConfig t.name ∷ partition_keys t.name (Some t)))) none)
  nothing_held (key.Partition topic number) good none = no_partition i topic number (λ has. none (partition_among i (key.Partition topic number) topic has))
  nothing_held (key.TopicConfig name) good none =
      ap (λ f. config_body (pairs_of_topic f)) (no_topic i (key.TopicConfig name) name (λ t e. subst (λ n. Contains (keys_of_topic_entry t) (key.TopicConfig n)) e (second_of (key.Topic t.name) (key.TopicConfig t.name) (partition_keys t.name (Some t)))) none)
  nothing_held (key.BrokerConfig broker) good none = ap (λ f. config_body (pairs_of f)) (no_config i broker (broker_is_good broker good.0 good.1) none)
  nothing_held (key.Client client) good none = ap (λ qs. quota_body qs []) (no_quotas i (key.Client client) good none)
  nothing_held (key.User user) good none = no_user_body i user good none
  nothing_held (key.UserClient user client) good none = ap (λ qs. quota_body qs []) (no_quotas i (key.UserClient user client) good none)
  nothing_held (key.Ip address) good none = ap (λ qs. quota_body qs []) (no_quotas i (key.Ip address) good none)
  nothing_held (key.Acl pattern kind name) good none = ap (λ rows. acl_body (map row_of_acl rows)) (no_entries (key.Acl pattern kind name) good none)
  nothing_held key.Producer good none = absurd (none (producer_among i))
