-- The legal keys that records touch span all paths of the keys at which the two metadata differ.
use Rattle.std.proofs.Common.{◌≡◌, ◌≢◌, ◌⊎◌, ℕ, ℤ, pos, negsuc, Bool, true, false, cond, List, [], ◌∷◌, ◌++◌, map, filter, Option, Some, None, Contains, refl, sym, ap, ◌∙◌, subst, inl, inr}
use Rattle.std.specs.Prelude.{◌+ℤ◌, option_map, option_and_then, option_to_list}
use Rattle.std.specs.List.{flat_map}
use Rattle.std.specs.Str.{bytes_eq}
use Rattle.std.specs.Bool.{Decides}
use Rattle.std.specs.Ordering.{int_eq}
use Rattle.std.proofs.lemmas.Bool.{and_from, false≢true}
use Rattle.std.proofs.lemmas.Bool.Decides.{Decides-int_eq}
use Rattle.std.proofs.lemmas.Slice.Eq.{bytes_eq-Decides}
use Rattle.std.proofs.lemmas.List.Elements.{Contains-append_left, Contains-append_right}
use Rattle.kz_types.specs.declared.bodies.Body.{Body}
use Rattle.kz_types.specs.declared.bodies.Body.TheVariants as body
use Rattle.kz_types.specs.declared.bodies.Pair.{Pair}
use Rattle.kz_types.specs.declared.row.PartitionRow.{PartitionRow}
use Rattle.kz_types.specs.declared.id.Id.{Id}
use Rattle.kz_types.specs.declared.image.AclEntry.{AclEntry}
use Rattle.kz_types.specs.declared.image.PartitionEntry.{PartitionEntry}
use Rattle.kz_types.specs.declared.image.TopicEntry.{TopicEntry}
use Rattle.kz_types.specs.declared.key.EntityKey.{EntityKey}
use Rattle.kz_types.specs.declared.key.EntityKey.TheVariants as key
use Rattle.kz_types.specs.declared.record.ConfigRecord.{ConfigRecord}
use Rattle.kz_types.specs.declared.record.MetaRecord.{MetaRecord}
use Rattle.kz_types.specs.declared.record.PartitionRecord.{PartitionRecord}
use Rattle.kz_types.specs.declared.record.PartitionChangeRecord.{PartitionChangeRecord}
use Rattle.kz_types.specs.declared.record.MetaRecord.TheVariants as meta
use Rattle.kz_types.specs.Paths.{is_topic_name, is_not_negative, is_legal, key_of, path_of}
use Rattle.kz_types.specs.Order.{bytes_cmp}
use Rattle.kz_types.specs.Ordered.{find}
use Rattle.kz_types.proofs.Order.{bytes_order, int_order}
use Rattle.kz_types.proofs.Lookup.{found_is_contained, same_items, find-put_other, Contains-head, Contains-tail, Contains-nil, Contains-cons_cases}
use Rattle.kz_types.proofs.Maps.{Rises-filter, find-filter_found, find-filter_absent}
use Rattle.kz_spec_data.specs.Metadata.{Image, number_of_partition, id_of_acl, topic_named, topic_name_of, partition_at, acl_of}
use Rattle.kz_spec_data.specs.InOrder.{IsInOrder}
use Rattle.kz_spec_data.specs.ImageRules.{changed_row}
use Rattle.kz_spec_data.specs.Image.{put_partition, change_partition, partition_changed, topic_configured, scrams_in, quotas_in}
use Rattle.kz_spec_data.specs.Rendering.{broker_key, acl_key, row_of_acl, state_body}
use Rattle.kz_spec_data.specs.Translation.{broker_name}
use Rattle.kz_laws_values.specs.TextKeys.{HasTexts}
use Rattle.kz_laws_values.proofs.Legal.{IsGoodKey}
use Rattle.kz_laws_values.proofs.Keys.{path_holds}
use Rattle.kz_laws_znodes.specs.RoundTrip.{IsWritable}
use Rattle.kz_laws_znodes.proofs.Within.{from_flat, to_flat}
use Rattle.kz_laws_znodes.proofs.BrokerWalk.{IsBrokerKey}
use Rattle.kz_spec_data.specs.Entities.{topic_body, config_body, quota_body, quotas_at, acl_body, entity}
use Rattle.kz_spec_data.specs.Spans.{spanned_paths}
use Rattle.kz_spec_data.specs.Touched.{Lead, topics_made_or_removed, partition_keys, keys_of_topic, keys_of_partition, keys_of_entry, key_of_quota, keys_spoken_of, keys_touched_by, touched_keys}
use Rattle.kz_laws_znodes.proofs.AllKeys.{no_partition, is_at, of_other}
use Rattle.kz_laws_znodes.proofs.Configurations.{broker_back, broker_is_good}
use Rattle.kz_laws_znodes.proofs.Spans.{second_of, topic_within}
use Rattle.kz_laws_znodes.proofs.DeltaStays.{said_id, SparesTopic, topic_stays, SparesConfig, config_stays, SparesQuotas, quotas_stay, SparesUser, user_stays, SparesEntry, entry_stays, SparesProducer, next_stays}
use Rattle.kz_spec_data.specs.Metadata.{pairs_of, pairs_of_topic}

-- ---- whether a list has a text

pub contained_or_not : (x : List ℕ) (xs : List (List ℕ)) → Contains xs x ⊎ (Contains xs x → ⊥)
contained_or_not x [] = inr (λ has. absurd (Contains-nil x has))
contained_or_not x (y ∷ ys) = by (bytes_eq y x) (bytes_eq-Decides y x).0 (bytes_eq-Decides y x).1 (contained_or_not x ys)
  where
    by : (b : Bool) → (b ≡ true → y ≡ x) → (y ≡ x → b ≡ true) → Contains ys x ⊎ (Contains ys x → ⊥) → Contains (y ∷ ys) x ⊎ (Contains (y ∷ ys) x → ⊥)
    by true is back rest = inl (subst (λ z. Contains (y ∷ ys) z) (is refl) (Contains-head y ys))
    by false is back (inl later) = inl (Contains-tail y ys x later)
    by false is back (inr none) = inr (λ has. elim (Contains-cons_cases y ys x has) [
      | inl e ↦ absurd (let tied : false ≡ true = back e in cc (tied))
      | inr later ↦ none later
    ])

module _ (old new : Image) (oo : IsInOrder old) (wo : IsWritable old) (on : IsInOrder new) (wn : IsWritable new) (rs : List MetaRecord) (lead : Lead old rs new) where
  -- a key that isn't touched isn't touched by any of the records
  untouched : (k : EntityKey) → (Contains (touched_keys old new rs) k → ⊥) → (r : MetaRecord) → Contains rs r → Contains (keys_touched_by old new r) k → ⊥
  untouched k none r has within = none (to_flat (keys_touched_by old new) rs r k has within)

  spoken_right : (r : MetaRecord) (k : EntityKey) → Contains (keys_spoken_of old new r) k → Contains (keys_touched_by old new r) k
  spoken_right r k has = Contains-append_right (flat_map (keys_of_topic old new) (topics_made_or_removed old r)) (keys_spoken_of old new r) k has

  -- ---- topics

  of_topic : (k : EntityKey) (name : List ℕ) → Contains (keys_of_topic old new name) k → (r : MetaRecord) → Contains (topics_made_or_removed old r) name → Contains (keys_touched_by old new r) k
  of_topic k name within r made = Contains-append_left (flat_map (keys_of_topic old new) (topics_made_or_removed old r)) (keys_spoken_of old new r) k (to_flat (keys_of_topic old new) (topics_made_or_removed old r) name k made within)

  -- the key of a partition of a topic that has the name for its id
  of_partition : (id : Id) (name : List ℕ) (number : ℤ) → Contains (option_to_list (topic_name_of id old)) name → Contains (keys_of_partition old id number) (key.Partition name number)
  of_partition id name number = by (topic_name_of id old)
    where
      by : (found : Option (List ℕ)) → Contains (option_to_list found) name → Contains (option_to_list (option_map (λ n. key.Partition n number) found)) (key.Partition name number)
      by None has = absurd (Contains-nil name has)
      by (Some n) has = elim (Contains-cons_cases n [] name has) [
        | inl e ↦ subst (λ m. Contains (key.Partition n number ∷ []) (key.Partition m number)) e (Contains-head (key.Partition n number) [])
        | inr later ↦ absurd (Contains-nil name later)
      ]

  -- What is looked up in the topic of a name, by which its id is known, where no record makes or removes the topic or changes what is looked up.
  module _ (name : List ℕ) {V : Type 0} (look : Option TopicEntry → V) (says : (a b : Option TopicEntry) → look a ≡ look b → said_id a ≡ said_id b)
      (made : (r : MetaRecord) → Contains rs r → Contains (topics_made_or_removed old r) name → ⊥)
      (new_one : (r : PartitionRecord) → Contains rs (meta.Partition r) → is_not_negative r.partition_id ≡ true → (Contains (option_to_list (topic_name_of r.topic_id old)) name → ⊥) ⊎ ((row : PartitionRow) (t : TopicEntry) → look (Some (put_partition r.partition_id row t)) ≡ look (Some t)))
      (altered : (r : PartitionChangeRecord) → Contains rs (meta.PartitionChange r) → is_not_negative r.partition_id ≡ true → (Contains (option_to_list (topic_name_of r.topic_id old)) name → ⊥) ⊎ ((epoch : ℤ) (t : TopicEntry) → look (Some (partition_changed epoch r t)) ≡ look (Some t)))
      (configured : (r : ConfigRecord) → Contains rs (meta.Config r) → int_eq r.resource_type (pos 2) ≡ true → (name ≢ r.resource_name) ⊎ ((t : TopicEntry) → look (Some (topic_configured r t)) ≡ look (Some t))) where
    spares_topic : (r : MetaRecord) → Contains rs r → SparesTopic old oo name look says r
    spares_topic (meta.RegisterBroker r) has = tt
    spares_topic (meta.Topic r) has = made (meta.Topic r) has
    spares_topic (meta.Partition r) has = new_one r has
    spares_topic (meta.Config r) has = configured r has
    spares_topic (meta.PartitionChange r) has = altered r has
    spares_topic (meta.RemoveTopic id) has = made (meta.RemoveTopic id) has
    spares_topic (meta.UserScramCredential r) has = tt
    spares_topic (meta.ClientQuota r) has = tt
    spares_topic (meta.ProducerIds r) has = tt
    spares_topic (meta.AccessControlEntry r) has = tt
    spares_topic (meta.RemoveAccessControlEntry id) has = tt
    spares_topic meta.NoOp has = tt
    spares_topic (meta.ZkMigrationState s) has = tt
    spares_topic (meta.RemoveUserScramCredential user mechanism) has = tt
    spares_topic (meta.BeginTransaction label) has = tt
    spares_topic meta.EndTransaction has = tt
    spares_topic (meta.AbortTransaction reason) has = tt

    looked_up_alike : look (topic_named name old) ≡ look (topic_named name new)
    looked_up_alike = sym (topic_stays old oo name look says rs new spares_topic lead)

  -- the topic's own body, where neither it nor any of its partitions is touched
  same_topic : (name : List ℕ) → (Contains (touched_keys old new rs) (key.Topic name) → ⊥) → ((number : ℤ) → is_not_negative number ≡ true → Contains (touched_keys old new rs) (key.Partition name number) → ⊥) → entity old (key.Topic name) ≡ entity new (key.Topic name)
  same_topic name none others =
      ap (λ x. x.1) (looked_up_alike name look (λ a b e. ap (λ x. x.0) e)
      (λ r has within. untouched (key.Topic name) none r has (of_topic (key.Topic name) name (Contains-head (key.Topic name) (key.TopicConfig name ∷ (partition_keys name (topic_named name old) ++ partition_keys name (topic_named name new)))) r within))
      (λ r has low. inl (λ said. untouched (key.Partition name r.partition_id) (others r.partition_id low) (meta.Partition r) has (spoken_right (meta.Partition r) (key.Partition name r.partition_id) (of_partition r.topic_id name r.partition_id said))))
      (λ r has low. inl (λ said. untouched (key.Partition name r.partition_id) (others r.partition_id low) (meta.PartitionChange r) has (spoken_right (meta.PartitionChange r) (key.Partition name r.partition_id) (of_partition r.topic_id name r.partition_id said))))
      (λ r has is. inr (λ t. refl)))
    where
      look : Option TopicEntry → Option Id × Option Body
      look found = (said_id found, option_map topic_body found)

  same_topic_config : (name : List ℕ) → (Contains (touched_keys old new rs) (key.TopicConfig name) → ⊥) → entity old (key.TopicConfig name) ≡ entity new (key.TopicConfig name)
  same_topic_config name none =
      ap (λ x. config_body x.1) (looked_up_alike name look (λ a b e. ap (λ x. x.0) e)
      (λ r has within. untouched (key.TopicConfig name) none r has (of_topic (key.TopicConfig name) name (second_of (key.Topic name) (key.TopicConfig name) (partition_keys name (topic_named name old) ++ partition_keys name (topic_named name new))) r within))
      (λ r has low. inr (λ row t. refl))
      (λ r has low. inr (λ epoch t. left r.partition_id (changed_row epoch r) (partition_at r.partition_id t.partitions) t))
      (λ r has is. inl (λ e. untouched (key.TopicConfig name) none (meta.Config r) has (spoken_right (meta.Config r) (key.TopicConfig name) (named r is e)))))
    where
      look : Option TopicEntry → Option Id × List Pair
      look found = (said_id found, pairs_of_topic found)

      left : (number : ℤ) (change : PartitionRow → PartitionRow) (row : Option PartitionRow) (t : TopicEntry) → look (Some (change_partition number change row t)) ≡ look (Some t)
      left number change None t = refl
      left number change (Some row) t = refl

      named : (r : ConfigRecord) → int_eq r.resource_type (pos 2) ≡ true → name ≡ r.resource_name → Contains (keys_spoken_of old new (meta.Config r)) (key.TopicConfig name)
      named r is e =
          subst (λ b. Contains (cond b (key.TopicConfig r.resource_name ∷ []) (broker_key r.resource_name ∷ [])) (key.TopicConfig name)) (sym is)
          (subst (λ n. Contains (key.TopicConfig r.resource_name ∷ []) (key.TopicConfig n)) (sym e) (Contains-head (key.TopicConfig r.resource_name) []))

  -- a partition that isn't touched, of a topic that no record makes or removes
  silent_partition : (name : List ℕ) (number : ℤ) → (Contains (touched_keys old new rs) (key.Partition name number) → ⊥) → ((r : MetaRecord) → Contains rs r → Contains (topics_made_or_removed old r) name → ⊥)
      → entity old (key.Partition name number) ≡ entity new (key.Partition name number)
  silent_partition name number none made =
      ap (λ x. option_map state_body x.1) (looked_up_alike name look (λ a b e. ap (λ x. x.0) e) made
      (λ r has low. put_by r has (int_eq r.partition_id number) (Decides-int_eq r.partition_id number))
      (λ r has low. changed_by r has (int_eq r.partition_id number) (Decides-int_eq r.partition_id number))
      (λ r has is. inr (λ t. refl)))
    where
      look : Option TopicEntry → Option Id × Option PartitionRow
      look found = (said_id found, option_and_then (λ (t : TopicEntry). partition_at number t.partitions) found)

      -- the key of the partition, where the number of a record is its own
      numbered : (id : Id) (own : ℤ) → own ≡ number → Contains (option_to_list (topic_name_of id old)) name → Contains (keys_of_partition old id own) (key.Partition name number)
      numbered id own e said = subst (λ n. Contains (keys_of_partition old id own) (key.Partition name n)) e (of_partition id name own said)

      left : (own : ℤ) → (own ≡ number → ⊥) → (row : PartitionRow) (t : TopicEntry) → look (Some (put_partition own row t)) ≡ look (Some t)
      left own other row t =
          let stays = ap (option_map (λ (p : PartitionEntry). p.row)) (find-put_other int_order number_of_partition (record { number = own; row = row }) t.partitions number (λ e. other (sym e))) in
          (λ i. (Some t.id, stays i))

      left_if : (own : ℤ) → (own ≡ number → ⊥) → (change : PartitionRow → PartitionRow) (row : Option PartitionRow) (t : TopicEntry) → look (Some (change_partition own change row t)) ≡ look (Some t)
      left_if own other change None t = refl
      left_if own other change (Some row) t = left own other (change row) t

      put_by : (r : PartitionRecord) → Contains rs (meta.Partition r) → (b : Bool) → Decides b (r.partition_id ≡ number)
          → (Contains (option_to_list (topic_name_of r.topic_id old)) name → ⊥) ⊎ ((row : PartitionRow) (t : TopicEntry) → look (Some (put_partition r.partition_id row t)) ≡ look (Some t))
      put_by r has true d = inl (λ said. untouched (key.Partition name number) none (meta.Partition r) has (spoken_right (meta.Partition r) (key.Partition name number) (numbered r.topic_id r.partition_id (d.0 refl) said)))
      put_by r has false d = inr (λ row t. left r.partition_id (λ e. false≢true (d.1 e)) row t)

      changed_by : (r : PartitionChangeRecord) → Contains rs (meta.PartitionChange r) → (b : Bool) → Decides b (r.partition_id ≡ number)
          → (Contains (option_to_list (topic_name_of r.topic_id old)) name → ⊥) ⊎ ((epoch : ℤ) (t : TopicEntry) → look (Some (partition_changed epoch r t)) ≡ look (Some t))
      changed_by r has true d = inl (λ said. untouched (key.Partition name number) none (meta.PartitionChange r) has (spoken_right (meta.PartitionChange r) (key.Partition name number) (numbered r.topic_id r.partition_id (d.0 refl) said)))
      changed_by r has false d = inr (λ epoch t. left_if r.partition_id (λ e. false≢true (d.1 e)) (changed_row epoch r) (partition_at r.partition_id t.partitions) t)

  same_partition : (name : List ℕ) (number : ℤ) → (Contains (touched_keys old new rs) (key.Partition name number) → ⊥) → entity old (key.Partition name number) ≡ entity new (key.Partition name number)
  same_partition name number none = elim (contained_or_not name (flat_map (topics_made_or_removed old) rs)) [
    | inl made ↦
        let f = from_flat (topics_made_or_removed old) rs name made in
        let outside : Contains (keys_of_topic old new name) (key.Partition name number) → ⊥ = λ within. untouched (key.Partition name number) none f.source f.has (of_topic (key.Partition name number) name within f.source f.gives) in
        let one = partition_keys name (topic_named name old) in
        let other = partition_keys name (topic_named name new) in
        let later : Contains (one ++ other) (key.Partition name number) → ⊥ =
        λ has. outside (Contains-tail (key.Topic name) (key.TopicConfig name ∷ (one ++ other)) (key.Partition name number) (Contains-tail (key.TopicConfig name) (one ++ other) (key.Partition name number) has)) in
        no_partition old name number (λ has. later (Contains-append_left one other (key.Partition name number) has)) ∙ sym (no_partition new name number (λ has. later (Contains-append_right one other (key.Partition name number) has)))
    | inr silent ↦ silent_partition name number none (λ r has within. silent (to_flat (topics_made_or_removed old) rs r name has within))
  ]

  -- ---- configurations of brokers

  spares_config : (b : Option ℤ) → IsBrokerKey b → (r : MetaRecord) → (Contains (keys_spoken_of old new r) (key.BrokerConfig b) → ⊥) → SparesConfig (broker_name b) r
  spares_config b good (meta.RegisterBroker r) none = tt
  spares_config b good (meta.Topic r) none = tt
  spares_config b good (meta.Partition r) none = tt
  spares_config b good (meta.Config r) none = λ other e. none (subst (λ t. Contains (cond t (key.TopicConfig r.resource_name ∷ []) (broker_key r.resource_name ∷ [])) (key.BrokerConfig b)) (sym other) (subst (λ k. Contains (broker_key r.resource_name ∷ []) k) (ap broker_key (sym e) ∙ broker_back b good) (Contains-head (broker_key r.resource_name) [])))
  spares_config b good (meta.PartitionChange r) none = tt
  spares_config b good (meta.RemoveTopic id) none = tt
  spares_config b good (meta.UserScramCredential r) none = tt
  spares_config b good (meta.ClientQuota r) none = tt
  spares_config b good (meta.ProducerIds r) none = tt
  spares_config b good (meta.AccessControlEntry r) none = tt
  spares_config b good (meta.RemoveAccessControlEntry id) none = tt
  spares_config b good meta.NoOp none = tt
  spares_config b good (meta.ZkMigrationState s) none = tt
  spares_config b good (meta.RemoveUserScramCredential user mechanism) none = tt
  spares_config b good (meta.BeginTransaction label) none = tt
  spares_config b good meta.EndTransaction none = tt
  spares_config b good (meta.AbortTransaction reason) none = tt

  same_config : (b : Option ℤ) → IsBrokerKey b → (Contains (touched_keys old new rs) (key.BrokerConfig b) → ⊥) → entity old (key.BrokerConfig b) ≡ entity new (key.BrokerConfig b)
  same_config b good none =
      ap (λ f. config_body (pairs_of f)) (sym (config_stays (broker_name b) old oo rs new (λ r has. spares_config b good r (λ within. untouched (key.BrokerConfig b) none r has (spoken_right r (key.BrokerConfig b) within))) lead))

  -- ---- quotas

  spares_quotas : (k : EntityKey) → IsGoodKey k → (r : MetaRecord) → (Contains (keys_spoken_of old new r) k → ⊥) → SparesQuotas (path_of k) r
  spares_quotas k good (meta.RegisterBroker r) none = tt
  spares_quotas k good (meta.Topic r) none = tt
  spares_quotas k good (meta.Partition r) none = tt
  spares_quotas k good (meta.Config r) none = tt
  spares_quotas k good (meta.PartitionChange r) none = tt
  spares_quotas k good (meta.RemoveTopic id) none = tt
  spares_quotas k good (meta.UserScramCredential r) none = tt
  spares_quotas k good (meta.ClientQuota r) none = λ j is legal e.
      let read : key_of_quota j ≡ Some k = ap (λ b. cond b (key_of (path_of j)) None) legal ∙ ap key_of (sym e) ∙ path_holds k good.0 good.1 in
      none (subst (λ o. Contains (option_to_list (option_and_then key_of_quota o)) k) (sym is) (subst (λ o. Contains (option_to_list o) k) (sym read) (Contains-head k [])))
  spares_quotas k good (meta.ProducerIds r) none = tt
  spares_quotas k good (meta.AccessControlEntry r) none = tt
  spares_quotas k good (meta.RemoveAccessControlEntry id) none = tt
  spares_quotas k good meta.NoOp none = tt
  spares_quotas k good (meta.ZkMigrationState s) none = tt
  spares_quotas k good (meta.RemoveUserScramCredential user mechanism) none = tt
  spares_quotas k good (meta.BeginTransaction label) none = tt
  spares_quotas k good meta.EndTransaction none = tt
  spares_quotas k good (meta.AbortTransaction reason) none = tt

  same_quotas : (k : EntityKey) → IsGoodKey k → (Contains (touched_keys old new rs) k → ⊥) → quotas_at k old ≡ quotas_at k new
  same_quotas k good none = ap quotas_in (sym (quotas_stay (path_of k) old oo rs new (λ r has. spares_quotas k good r (λ within. untouched k none r has (spoken_right r k within))) lead))

  -- ---- credentials

  spares_user : (name : List ℕ) (r : MetaRecord) → (Contains (keys_spoken_of old new r) (key.User (Some name)) → ⊥) → SparesUser name r
  spares_user name (meta.RegisterBroker r) none = tt
  spares_user name (meta.Topic r) none = tt
  spares_user name (meta.Partition r) none = tt
  spares_user name (meta.Config r) none = tt
  spares_user name (meta.PartitionChange r) none = tt
  spares_user name (meta.RemoveTopic id) none = tt
  spares_user name (meta.UserScramCredential r) none = λ e. none (subst (λ n. Contains (key.User (Some r.name) ∷ []) (key.User (Some n))) (sym e) (Contains-head (key.User (Some r.name)) []))
  spares_user name (meta.ClientQuota r) none = tt
  spares_user name (meta.ProducerIds r) none = tt
  spares_user name (meta.AccessControlEntry r) none = tt
  spares_user name (meta.RemoveAccessControlEntry id) none = tt
  spares_user name meta.NoOp none = tt
  spares_user name (meta.ZkMigrationState s) none = tt
  spares_user name (meta.RemoveUserScramCredential user mechanism) none = λ e. none (subst (λ n. Contains (key.User (Some user) ∷ []) (key.User (Some n))) (sym e) (Contains-head (key.User (Some user)) []))
  spares_user name (meta.BeginTransaction label) none = tt
  spares_user name meta.EndTransaction none = tt
  spares_user name (meta.AbortTransaction reason) none = tt

  same_user : (user : Option (List ℕ)) → IsGoodKey (key.User user) → (Contains (touched_keys old new rs) (key.User user) → ⊥) → entity old (key.User user) ≡ entity new (key.User user)
  same_user None good none = ap (λ qs. quota_body qs []) (same_quotas (key.User None) good none)
  same_user (Some name) good none =
      let quotas = same_quotas (key.User (Some name)) good none in
      let scrams = ap scrams_in (sym (user_stays name old oo rs new (λ r has. spares_user name r (λ within. untouched (key.User (Some name)) none r has (spoken_right r (key.User (Some name)) within))) lead)) in
      (λ i. quota_body (quotas i) (scrams i))

  -- ---- producer ids

  spares_producer : (r : MetaRecord) → (Contains (keys_spoken_of old new r) key.Producer → ⊥) → SparesProducer r
  spares_producer (meta.RegisterBroker r) none = tt
  spares_producer (meta.Topic r) none = tt
  spares_producer (meta.Partition r) none = tt
  spares_producer (meta.Config r) none = tt
  spares_producer (meta.PartitionChange r) none = tt
  spares_producer (meta.RemoveTopic id) none = tt
  spares_producer (meta.UserScramCredential r) none = tt
  spares_producer (meta.ClientQuota r) none = tt
  spares_producer (meta.ProducerIds r) none = none (Contains-head key.Producer [])
  spares_producer (meta.AccessControlEntry r) none = tt
  spares_producer (meta.RemoveAccessControlEntry id) none = tt
  spares_producer meta.NoOp none = tt
  spares_producer (meta.ZkMigrationState s) none = tt
  spares_producer (meta.RemoveUserScramCredential user mechanism) none = tt
  spares_producer (meta.BeginTransaction label) none = tt
  spares_producer meta.EndTransaction none = tt
  spares_producer (meta.AbortTransaction reason) none = tt

  same_producer : (Contains (touched_keys old new rs) key.Producer → ⊥) → entity old key.Producer ≡ entity new key.Producer
  same_producer none = ap (option_map (λ next. body.Producer (negsuc 0) next (next +ℤ pos 999))) (sym (next_stays old oo rs new (λ r has. spares_producer r (λ within. untouched key.Producer none r has (spoken_right r key.Producer within))) lead))

  -- ---- access control entries

  -- the ids of entries that a record speaks of
  abbrev ids_spoken_of : MetaRecord → List (List ℕ)
  ids_spoken_of (meta.AccessControlEntry r) = r.id.bytes ∷ []
  ids_spoken_of (meta.RemoveAccessControlEntry id) = id.bytes ∷ []
  ids_spoken_of r = []

  spares_entry : (bytes : List ℕ) (r : MetaRecord) → (Contains (ids_spoken_of r) bytes → ⊥) → SparesEntry bytes r
  spares_entry bytes (meta.RegisterBroker r) none = tt
  spares_entry bytes (meta.Topic r) none = tt
  spares_entry bytes (meta.Partition r) none = tt
  spares_entry bytes (meta.Config r) none = tt
  spares_entry bytes (meta.PartitionChange r) none = tt
  spares_entry bytes (meta.RemoveTopic id) none = tt
  spares_entry bytes (meta.UserScramCredential r) none = tt
  spares_entry bytes (meta.ClientQuota r) none = tt
  spares_entry bytes (meta.ProducerIds r) none = tt
  spares_entry bytes (meta.AccessControlEntry r) none = λ e. none (subst (Contains (r.id.bytes ∷ [])) (sym e) (Contains-head r.id.bytes []))
  spares_entry bytes (meta.RemoveAccessControlEntry id) none = λ e. none (subst (Contains (id.bytes ∷ [])) (sym e) (Contains-head id.bytes []))
  spares_entry bytes meta.NoOp none = tt
  spares_entry bytes (meta.ZkMigrationState s) none = tt
  spares_entry bytes (meta.RemoveUserScramCredential user mechanism) none = tt
  spares_entry bytes (meta.BeginTransaction label) none = tt
  spares_entry bytes meta.EndTransaction none = tt
  spares_entry bytes (meta.AbortTransaction reason) none = tt

  none_of : (k : EntityKey) → IsGoodKey k → (bytes : List ℕ) (i : Image) → IsInOrder i → IsWritable i → ((a : AclEntry) → find bytes_cmp id_of_acl bytes i.acls ≡ Some a → acl_key a.row ≡ k → ⊥)
      → find bytes_cmp id_of_acl bytes (filter (is_at k) i.acls) ≡ None
  none_of k good bytes i o w other = by (find bytes_cmp id_of_acl bytes i.acls) refl
    where
      by : (found : Option AclEntry) → find bytes_cmp id_of_acl bytes i.acls ≡ found → find bytes_cmp id_of_acl bytes (filter (is_at k) i.acls) ≡ None
      by None e = find-filter_absent bytes_order id_of_acl (is_at k) bytes i.acls e
      by (Some a) e = find-filter_found bytes_order id_of_acl (is_at k) bytes i.acls a o.acls e ∙ ap (λ b. cond b (Some a) None) (of_other i o w k good a (found_is_contained bytes_order id_of_acl bytes i.acls a e) (other a e))

  filtered_alike : (k : EntityKey) (bytes : List ℕ) → find bytes_cmp id_of_acl bytes old.acls ≡ find bytes_cmp id_of_acl bytes new.acls
      → find bytes_cmp id_of_acl bytes (filter (is_at k) old.acls) ≡ find bytes_cmp id_of_acl bytes (filter (is_at k) new.acls)
  filtered_alike k bytes same = by (find bytes_cmp id_of_acl bytes old.acls) refl
    where
      by : (found : Option AclEntry) → find bytes_cmp id_of_acl bytes old.acls ≡ found → find bytes_cmp id_of_acl bytes (filter (is_at k) old.acls) ≡ find bytes_cmp id_of_acl bytes (filter (is_at k) new.acls)
      by None e = find-filter_absent bytes_order id_of_acl (is_at k) bytes old.acls e ∙ sym (find-filter_absent bytes_order id_of_acl (is_at k) bytes new.acls (sym same ∙ e))
      by (Some a) e = find-filter_found bytes_order id_of_acl (is_at k) bytes old.acls a oo.acls e ∙ sym (find-filter_found bytes_order id_of_acl (is_at k) bytes new.acls a on.acls (sym same ∙ e))

  -- the keys of an entry's resources, before and after
  key_before : (k : EntityKey) (id : Id) (a : AclEntry) → find bytes_cmp id_of_acl id.bytes old.acls ≡ Some a → acl_key a.row ≡ k → Contains (keys_of_entry old new id) k
  key_before k id a e is =
      let row : acl_of id old ≡ Some a.row = ap (option_map (λ (x : AclEntry). x.row)) e in
      Contains-append_left (option_to_list (option_map acl_key (acl_of id old))) (option_to_list (option_map acl_key (acl_of id new))) k
      (subst (λ o. Contains (option_to_list (option_map acl_key o)) k) (sym row) (subst (λ j. Contains (j ∷ []) k) (sym is) (Contains-head k [])))

  key_after : (k : EntityKey) (id : Id) (a : AclEntry) → find bytes_cmp id_of_acl id.bytes new.acls ≡ Some a → acl_key a.row ≡ k → Contains (keys_of_entry old new id) k
  key_after k id a e is =
      let row : acl_of id new ≡ Some a.row = ap (option_map (λ (x : AclEntry). x.row)) e in
      Contains-append_right (option_to_list (option_map acl_key (acl_of id old))) (option_to_list (option_map acl_key (acl_of id new))) k
      (subst (λ o. Contains (option_to_list (option_map acl_key o)) k) (sym row) (subst (λ j. Contains (j ∷ []) k) (sym is) (Contains-head k [])))

  spoken_alike : (k : EntityKey) → IsGoodKey k → (id : Id) → (Contains (keys_of_entry old new id) k → ⊥) → find bytes_cmp id_of_acl id.bytes (filter (is_at k) old.acls) ≡ find bytes_cmp id_of_acl id.bytes (filter (is_at k) new.acls)
  spoken_alike k good id none =
      none_of k good id.bytes old oo wo (λ a e is. none (key_before k id a e is)) ∙ sym (none_of k good id.bytes new on wn (λ a e is. none (key_after k id a e is)))

  spoken_by : (k : EntityKey) → IsGoodKey k → (r : MetaRecord) → (Contains (keys_spoken_of old new r) k → ⊥) → (bytes : List ℕ) → Contains (ids_spoken_of r) bytes
      → find bytes_cmp id_of_acl bytes (filter (is_at k) old.acls) ≡ find bytes_cmp id_of_acl bytes (filter (is_at k) new.acls)
  spoken_by k good (meta.RegisterBroker r) none bytes within = absurd (Contains-nil bytes within)
  spoken_by k good (meta.Topic r) none bytes within = absurd (Contains-nil bytes within)
  spoken_by k good (meta.Partition r) none bytes within = absurd (Contains-nil bytes within)
  spoken_by k good (meta.Config r) none bytes within = absurd (Contains-nil bytes within)
  spoken_by k good (meta.PartitionChange r) none bytes within = absurd (Contains-nil bytes within)
  spoken_by k good (meta.RemoveTopic id) none bytes within = absurd (Contains-nil bytes within)
  spoken_by k good (meta.UserScramCredential r) none bytes within = absurd (Contains-nil bytes within)
  spoken_by k good (meta.ClientQuota r) none bytes within = absurd (Contains-nil bytes within)
  spoken_by k good (meta.ProducerIds r) none bytes within = absurd (Contains-nil bytes within)
  spoken_by k good (meta.AccessControlEntry r) none bytes within = elim (Contains-cons_cases r.id.bytes [] bytes within) [
    | inl e ↦ subst (λ b. find bytes_cmp id_of_acl b (filter (is_at k) old.acls) ≡ find bytes_cmp id_of_acl b (filter (is_at k) new.acls)) e (spoken_alike k good r.id none)
    | inr later ↦ absurd (Contains-nil bytes later)
  ]
  spoken_by k good (meta.RemoveAccessControlEntry id) none bytes within = elim (Contains-cons_cases id.bytes [] bytes within) [
    | inl e ↦ subst (λ b. find bytes_cmp id_of_acl b (filter (is_at k) old.acls) ≡ find bytes_cmp id_of_acl b (filter (is_at k) new.acls)) e (spoken_alike k good id none)
    | inr later ↦ absurd (Contains-nil bytes later)
  ]
  spoken_by k good meta.NoOp none bytes within = absurd (Contains-nil bytes within)
  spoken_by k good (meta.ZkMigrationState s) none bytes within = absurd (Contains-nil bytes within)
  spoken_by k good (meta.RemoveUserScramCredential user mechanism) none bytes within = absurd (Contains-nil bytes within)
  spoken_by k good (meta.BeginTransaction label) none bytes within = absurd (Contains-nil bytes within)
  spoken_by k good meta.EndTransaction none bytes within = absurd (Contains-nil bytes within)
  spoken_by k good (meta.AbortTransaction reason) none bytes within = absurd (Contains-nil bytes within)

  same_entries : (k : EntityKey) → IsGoodKey k → (Contains (touched_keys old new rs) k → ⊥) → filter (is_at k) old.acls ≡ filter (is_at k) new.acls
  same_entries k good none =
      same_items bytes_order id_of_acl (filter (is_at k) old.acls) (filter (is_at k) new.acls) (Rises-filter bytes_order id_of_acl (is_at k) old.acls oo.acls) (Rises-filter bytes_order id_of_acl (is_at k) new.acls on.acls)
      (λ bytes. elim (contained_or_not bytes (flat_map ids_spoken_of rs)) [
        | inl spoken ↦ let f = from_flat ids_spoken_of rs bytes spoken in spoken_by k good f.source (λ within. untouched k none f.source f.has (spoken_right f.source k within)) bytes f.gives
        | inr silent ↦ filtered_alike k bytes (sym (entry_stays bytes old oo rs new (λ r has. spares_entry bytes r (λ within. silent (to_flat ids_spoken_of rs r bytes has within))) lead))
      ])

  -- ---- all keys

  partition_legal : (name : List ℕ) (number : ℤ) → is_legal (key.Topic name) ≡ true → is_not_negative number ≡ true → is_legal (key.Partition name number) ≡ true
  unfolding is_legal
  partition_legal name number legal low = and_from (is_topic_name name) (is_not_negative number) legal low

  -- at a path that no legal key that is touched spans, each key that spans it holds the same
  module _ (p : List ℕ) (outside : (k : EntityKey) → is_legal k ≡ true → Contains (spanned_paths k) p → Contains (touched_keys old new rs) k → ⊥) where
    pub same_at : (k : EntityKey) → is_legal k ≡ true → HasTexts k → Contains (spanned_paths k) p → entity old k ≡ entity new k
    same_at (key.Topic name) legal texts within = same_topic name (outside (key.Topic name) legal within) (λ number low. outside (key.Partition name number) (partition_legal name number legal low) (topic_within name number p within))
    same_at (key.Partition topic number) legal texts within = same_partition topic number (outside (key.Partition topic number) legal within)
    same_at (key.TopicConfig name) legal texts within = same_topic_config name (outside (key.TopicConfig name) legal within)
    same_at (key.BrokerConfig broker) legal texts within = same_config broker (broker_is_good broker legal texts) (outside (key.BrokerConfig broker) legal within)
    same_at (key.Client client) legal texts within = ap (λ qs. quota_body qs []) (same_quotas (key.Client client) (legal, texts) (outside (key.Client client) legal within))
    same_at (key.User user) legal texts within = same_user user (legal, texts) (outside (key.User user) legal within)
    same_at (key.UserClient user client) legal texts within = ap (λ qs. quota_body qs []) (same_quotas (key.UserClient user client) (legal, texts) (outside (key.UserClient user client) legal within))
    same_at (key.Ip address) legal texts within = ap (λ qs. quota_body qs []) (same_quotas (key.Ip address) (legal, texts) (outside (key.Ip address) legal within))
    same_at (key.Acl pattern kind name) legal texts within = ap (λ rows. acl_body (map row_of_acl rows)) (same_entries (key.Acl pattern kind name) (legal, texts) (outside (key.Acl pattern kind name) legal within))
    same_at key.Producer legal texts within = same_producer (outside key.Producer legal within)
