-- What a record that breaks no rule makes of metadata that can be written can be written.
use Rattle.std.proofs.Common.{◌≡◌, ℕ, ◌&&◌, Bool, true, false, not, cond, ℤ, pos, List, [], ◌∷◌, Option, Some, None, codes, refl, subst}
use Rattle.std.specs.Prelude.{int_le, IfSome, option_map, ◌≤ℤ◌}
use Rattle.std.specs.Ordering.{int_cmp, int_eq}
use Rattle.std.specs.List.{All, find as find_by}
use Rattle.std.proofs.lemmas.List.Elements.{All-head, All-tail, All-nil, All-filter}
use Rattle.kz_types.specs.declared.id.Id.{Id}
use Rattle.kz_types.specs.declared.bodies.Pair.{Pair}
use Rattle.kz_types.specs.declared.bodies.QuotaRow.{QuotaRow}
use Rattle.kz_types.specs.declared.bodies.ScramPair.{ScramPair}
use Rattle.kz_types.specs.declared.row.PartitionRow.{PartitionRow}
use Rattle.kz_types.specs.declared.image.Configuration.{Configuration}
use Rattle.kz_types.specs.declared.image.TopicEntry.{TopicEntry}
use Rattle.kz_types.specs.declared.image.PartitionEntry.{PartitionEntry}
use Rattle.kz_types.specs.declared.image.QuotaEntry.{QuotaEntry}
use Rattle.kz_types.specs.declared.image.ScramEntry.{ScramEntry}
use Rattle.kz_types.specs.declared.image.AclEntry.{AclEntry}
use Rattle.kz_types.specs.declared.key.EntityKey.{EntityKey}
use Rattle.kz_types.specs.declared.key.EntityKey.TheVariants as key
use Rattle.kz_types.specs.declared.record.MetaRecord.{MetaRecord}
use Rattle.kz_types.specs.declared.record.MetaRecord.TheVariants as meta
use Rattle.kz_types.specs.declared.record.ConfigRecord.{ConfigRecord}
use Rattle.kz_types.specs.declared.record.ClientQuotaRecord.{ClientQuotaRecord}
use Rattle.kz_types.specs.declared.record.PartitionChangeRecord.{PartitionChangeRecord}
use Rattle.kz_types.specs.declared.record.QuotaEntity.{QuotaEntity}
use Rattle.kz_types.specs.Paths.{path_of, key_of, is_legal, has_path, is_among}
use Rattle.kz_types.proofs.PathRules.{both_hold}
use Rattle.kz_types.specs.Order.{bytes_cmp}
use Rattle.kz_types.specs.Ordered.{find, put, without}
use Rattle.kz_spec_data.specs.Credentials.{quota_keys}
use Rattle.kz_spec_data.specs.Metadata.{name_of_topic, number_of_partition, name_of_configuration, name_of_pair, path_of_quotas, key_of_quota, name_of_user, mechanism_of_pair, id_of_acl, same_id, topic_named, topic_with, partition_at, pairs_of, pairs_at}
use Rattle.kz_spec_data.specs.ImageRules.{is_kind, quota_key, has_quota, new_row, stated_or, changed_row, broken_rule}
use Rattle.kz_spec_data.specs.Image.{Image, empty_image, put_topic, new_topic, with_changed, put_partition, change_partition, partition_changed, without_topic, topic_configured, with_member, with_pairs, configurations_after, quotas_in, with_quota, with_quotas, quota_changed, scrams_in, scrams_at, with_scrams, scram_row, scram_set, scram_removed, acl_row, effect}
use Rattle.kz_laws_znodes.proofs.Lists.{All-put, All-without}
use Rattle.kz_laws_znodes.proofs.Entries.{HasIfFound, found_has, found_by_has, changed_all}
use Rattle.kz_laws_znodes.proofs.QuotaLists.{quotas_hold}
use Rattle.kz_laws_znodes.proofs.UserLists.{users_hold}
use Rattle.kz_laws_znodes.proofs.Unbroken.{quota_unbroken}
use Rattle.kz_laws_values.specs.TextKeys.{HasTexts}
use Rattle.kz_laws_values.proofs.Keys.{path_holds}
use Rattle.kz_laws_znodes.specs.Writable.{IsText, FitsInt, IsPartitionWritable, IsMemberWritable, IsTopicWritable, IsConfigWritable, IsQuotaWritable, AreQuotasWritable, IsScramWritable, IsUserWritable, IsAclWritable, IsWritable, IsEntityWritable, IsRecordWritable, RecordKeepsWritable, EmptyIsWritable}

pub empty : EmptyIsWritable
empty = record { topics = All-nil IsTopicWritable; configs = All-nil IsConfigWritable; quotas = All-nil AreQuotasWritable; users = All-nil IsUserWritable; acls = All-nil IsAclWritable }

-- ---- topics

changed_topics : (change : TopicEntry → TopicEntry) (found : Option TopicEntry) (xs : List TopicEntry) → ((t : TopicEntry) → IsTopicWritable t → IsTopicWritable (change t)) → HasIfFound IsTopicWritable found → All IsTopicWritable xs
    → All IsTopicWritable (with_changed change found xs)
changed_topics change None xs keeps has all = all
changed_topics change (Some t) xs keeps has all = All-put IsTopicWritable bytes_cmp name_of_topic (change t) xs (keeps t has) all

partition_put : (number : ℤ) (row : PartitionRow) (t : TopicEntry) → IsPartitionWritable (record { number = number; row = row }) → IsTopicWritable t → IsTopicWritable (put_partition number row t)
partition_put number row t one h = record {
  name = h.name;
  bytes = h.bytes;
  sixteen = h.sixteen;
  partitions = All-put IsPartitionWritable int_cmp number_of_partition (record { number = number; row = row }) t.partitions one h.partitions;
  members = h.members;
}

partition_altered : (number : ℤ) (change : PartitionRow → PartitionRow) (found : Option PartitionRow) (t : TopicEntry) → ((row : PartitionRow) → found ≡ Some row → IsPartitionWritable (record { number = number; row = change row })) → IsTopicWritable t
    → IsTopicWritable (change_partition number change found t)
partition_altered number change None t keeps h = h
partition_altered number change (Some row) t keeps h = partition_put number (change row) t (keeps row refl) h

-- the brokers of a partition that is found
row_brokers : (found : Option PartitionEntry) (row : PartitionRow) → HasIfFound IsPartitionWritable found → option_map (λ (p : PartitionEntry). p.row) found ≡ Some row → All FitsInt row.replicas
row_brokers None row has is = absurd (cc)
row_brokers (Some p) row has is = let same : p.row ≡ row = cc in subst (λ (r : PartitionRow). All FitsInt r.replicas) same has.brokers

stated : (o : Option (List ℤ)) (before : List ℤ) → IfSome o (All FitsInt) → All FitsInt before → All FitsInt (stated_or o before)
stated None before h was = was
stated (Some rs) before h was = h

pub partition_changed_writable : (epoch : ℤ) (r : PartitionChangeRecord) (t : TopicEntry) → FitsInt epoch → FitsInt r.partition_id → IfSome r.replicas (All FitsInt) → IsTopicWritable t → IsTopicWritable (partition_changed epoch r t)
partition_changed_writable epoch r t at number brokers h =
    partition_altered r.partition_id (changed_row epoch r) (partition_at r.partition_id t.partitions) t
    (λ row is. record {
      number = number;
      brokers = stated r.replicas row.replicas brokers (row_brokers (find int_cmp number_of_partition r.partition_id t.partitions) row (found_has IsPartitionWritable int_cmp number_of_partition r.partition_id t.partitions h.partitions) is);
      epoch = at;
    }) h

member_put : (name : List ℕ) (value : Option (List ℕ)) (ps : List Pair) → IsText name → IfSome value IsText → All IsMemberWritable ps → All IsMemberWritable (with_member name value ps)
member_put name (Some value) ps named valued h = All-put IsMemberWritable bytes_cmp name_of_pair (record { name = name; value = value }) ps (named, valued) h
member_put name None ps named valued h = All-without IsMemberWritable bytes_cmp name_of_pair name ps h

topic_member_put : (r : ConfigRecord) (t : TopicEntry) → IsText r.name → IfSome r.value IsText → IsTopicWritable t → IsTopicWritable (topic_configured r t)
topic_member_put r t named valued h = record {
  name = h.name;
  bytes = h.bytes;
  sixteen = h.sixteen;
  partitions = h.partitions;
  members = member_put r.name r.value t.pairs named valued h.members;
}

-- ---- configurations of brokers

found_members : (found : Option Configuration) → HasIfFound IsConfigWritable found → All IsMemberWritable (pairs_of found)
found_members None has = All-nil IsMemberWritable
found_members (Some c) has = has

config_put : (name : List ℕ) (ps : List Pair) (xs : List Configuration) → All IsMemberWritable ps → All IsConfigWritable xs → All IsConfigWritable (with_pairs name ps xs)
config_put name [] xs h all = All-without IsConfigWritable bytes_cmp name_of_configuration name xs all
config_put name (p ∷ ps) xs h all = All-put IsConfigWritable bytes_cmp name_of_configuration (record { name = name; pairs = p ∷ ps }) xs h all

broker_member_put : (r : ConfigRecord) (xs : List Configuration) → IsText r.name → IfSome r.value IsText → All IsConfigWritable xs → All IsConfigWritable (configurations_after r xs)
broker_member_put r xs named valued all =
    config_put r.resource_name (with_member r.name r.value (pairs_at r.resource_name xs)) xs
    (member_put r.name r.value (pairs_at r.resource_name xs) named valued (found_members (find bytes_cmp name_of_configuration r.resource_name xs) (found_has IsConfigWritable bytes_cmp name_of_configuration r.resource_name xs all))) all

-- ---- quotas

-- the names of the key of an entity are the names that the record tells
key_by : (b : Bool) (one k : EntityKey) (rest : Option EntityKey) → (HasTexts one) → (rest ≡ Some k → HasTexts k) → cond b (Some one) rest ≡ Some k → HasTexts k
key_by true one k rest h later is = let same : one ≡ k = cc in subst HasTexts same h
key_by false one k rest h later is = later is

none_is_some : (k : EntityKey) → None ≡ Some k → HasTexts k
none_is_some k is = absurd (cc)

key_has_texts : (entity : List QuotaEntity) (k : EntityKey) → All IsEntityWritable entity → quota_key entity ≡ Some k → HasTexts k
key_has_texts [] k all is = none_is_some k is
key_has_texts (a ∷ []) k all is =
    let named = All-head IsEntityWritable a [] all in
    key_by (is_kind (codes "user") a) (key.User a.name) k _ named
    (key_by (is_kind (codes "client-id") a) (key.Client a.name) k _ named
    (key_by (is_kind (codes "ip") a) (key.Ip a.name) k None named (none_is_some k))) is
key_has_texts (a ∷ b ∷ []) k all is =
    key_by (is_kind (codes "user") a && is_kind (codes "client-id") b) (key.UserClient a.name b.name) k None
    (All-head IsEntityWritable a (b ∷ []) all, All-head IsEntityWritable b [] (All-tail IsEntityWritable a (b ∷ []) all)) (none_is_some k) is
key_has_texts (a ∷ b ∷ c ∷ rest) k all is = none_is_some k is

legal_by : (k : EntityKey) (name : List ℕ) → has_quota (Some k) name ≡ true → is_legal k ≡ true
legal_by k name h = (both_hold (is_legal k) (has_path k) (both_hold (is_legal k && has_path k) (is_among (quota_keys k) name) h).0).0

rows_by : (b : Bool) (r : ClientQuotaRecord) (qs : List QuotaRow) → r.value.whole ≤ℤ pos 9223372036854775807 → All IsQuotaWritable qs
    → All IsQuotaWritable (cond b (without bytes_cmp key_of_quota r.key qs) (put bytes_cmp key_of_quota (record { key = r.key; value = r.value }) qs))
rows_by true r qs fits all = All-without IsQuotaWritable bytes_cmp key_of_quota r.key qs all
rows_by false r qs fits all = All-put IsQuotaWritable bytes_cmp key_of_quota (record { key = r.key; value = r.value }) qs fits all

found_quotas : (found : Option QuotaEntry) → HasIfFound AreQuotasWritable found → All IsQuotaWritable (quotas_in found)
found_quotas None has = All-nil IsQuotaWritable
found_quotas (Some q) has = has.each

quota_put : (r : ClientQuotaRecord) (o : Option EntityKey) (xs : List QuotaEntry) → ((k : EntityKey) → o ≡ Some k → key_of (path_of k) ≡ Some k) → r.value.whole ≤ℤ pos 9223372036854775807 → All AreQuotasWritable xs → All AreQuotasWritable (quota_changed r o xs)
quota_put r None xs read fits all = all
quota_put r (Some k) xs read fits all =
    let found = find bytes_cmp path_of_quotas (path_of k) xs in
    let rows = rows_by r.remove r (quotas_in found) fits (found_quotas found (found_has AreQuotasWritable bytes_cmp path_of_quotas (path_of k) xs all)) in
    changed_all quotas_hold AreQuotasWritable (path_of k) (with_quota r (quotas_in found)) xs (λ some. record { entity = k; read = read k refl; each = rows }) all

-- ---- users

found_scrams : (found : Option ScramEntry) → HasIfFound IsUserWritable found → All IsScramWritable (scrams_in found)
found_scrams None has = All-nil IsScramWritable
found_scrams (Some u) has = has.1

scrams_of_name : (name : List ℕ) (xs : List ScramEntry) → All IsUserWritable xs → All IsScramWritable (scrams_at name xs)
scrams_of_name name xs all = found_scrams (find bytes_cmp name_of_user name xs) (found_has IsUserWritable bytes_cmp name_of_user name xs all)

user_put : (name : List ℕ) (ss : List ScramPair) (xs : List ScramEntry) → IsText name → All IsScramWritable ss → All IsUserWritable xs → All IsUserWritable (with_scrams name ss xs)
user_put name ss xs named h all = changed_all users_hold IsUserWritable name ss xs (λ some. (named, h)) all

-- ---- a record

module _ (i : Image) (w : IsWritable i) where
  with_topics : (topics : List TopicEntry) → All IsTopicWritable topics → IsWritable (record i { topics = topics })
  with_topics topics all = record { topics = all; configs = w.configs; quotas = w.quotas; users = w.users; acls = w.acls }

  with_users : (users : List ScramEntry) → All IsUserWritable users → IsWritable (record i { users = users })
  with_users users all = record { topics = w.topics; configs = w.configs; quotas = w.quotas; users = all; acls = w.acls }

  with_acls : (acls : List AclEntry) → All IsAclWritable acls → IsWritable (record i { acls = acls })
  with_acls acls all = record { topics = w.topics; configs = w.configs; quotas = w.quotas; users = w.users; acls = all }

  pub topic_configured_writable : (r : ConfigRecord) → IsText r.name → IfSome r.value IsText → IsWritable (record i { topics = with_changed (topic_configured r) (topic_named r.resource_name i) i.topics })
  topic_configured_writable r named valued =
      with_topics _ (changed_topics (topic_configured r) (topic_named r.resource_name i) i.topics (λ t h. topic_member_put r t named valued h) (found_has IsTopicWritable bytes_cmp name_of_topic r.resource_name i.topics w.topics) w.topics)

  pub broker_configured_writable : (r : ConfigRecord) → IsText r.name → IfSome r.value IsText → IsWritable (record i { broker_configs = configurations_after r i.broker_configs })
  broker_configured_writable r named valued = record { topics = w.topics; configs = broker_member_put r i.broker_configs named valued w.configs; quotas = w.quotas; users = w.users; acls = w.acls }

  configured_writable : (b : Bool) (r : ConfigRecord) → IsText r.name → IfSome r.value IsText
      → IsWritable (cond b (record i { topics = with_changed (topic_configured r) (topic_named r.resource_name i) i.topics }) (record i { broker_configs = configurations_after r i.broker_configs }))
  configured_writable true r named valued = topic_configured_writable r named valued
  configured_writable false r named valued = broker_configured_writable r named valued

  with_state : (b : Bool) (state : ℤ) → IsWritable (cond b (record i { state = state }) i)
  with_state true state = record { topics = w.topics; configs = w.configs; quotas = w.quotas; users = w.users; acls = w.acls }
  with_state false state = w

  pub topic_removed_writable : (id : Id) → IsWritable (record i { topics = without_topic id i.topics })
  topic_removed_writable id = with_topics _ (All-filter (λ (t : TopicEntry). not (same_id t.id id)) IsTopicWritable i.topics w.topics)

  pub scram_removed_writable : (name : List ℕ) (mechanism : ℤ) → IsText name → IsWritable (record i { users = scram_removed name mechanism i.users })
  scram_removed_writable name mechanism named =
      with_users _ (user_put name (without int_cmp mechanism_of_pair mechanism (scrams_at name i.users)) i.users named (All-without IsScramWritable int_cmp mechanism_of_pair mechanism (scrams_at name i.users) (scrams_of_name name i.users w.users)) w.users)

  pub acl_removed_writable : (id : List ℕ) → IsWritable (record i { acls = without bytes_cmp id_of_acl id i.acls })
  acl_removed_writable id = with_acls _ (All-without IsAclWritable bytes_cmp id_of_acl id i.acls w.acls)

  pub kept : (epoch : ℤ) (r : MetaRecord) → FitsInt epoch → IsRecordWritable r → broken_rule i r ≡ None → IsWritable (effect epoch r i)
  kept epoch (meta.RegisterBroker r) at h fine = record { topics = w.topics; configs = w.configs; quotas = w.quotas; users = w.users; acls = w.acls }
  kept epoch (meta.Topic r) at h fine =
      with_topics _ (All-put IsTopicWritable bytes_cmp name_of_topic (new_topic r) i.topics (record { name = h.0; bytes = h.1; sixteen = h.2; partitions = All-nil IsPartitionWritable; members = All-nil IsMemberWritable }) w.topics)
  kept epoch (meta.Partition r) at h fine =
      with_topics _ (changed_topics (put_partition r.partition_id (new_row epoch r)) (topic_with r.topic_id i) i.topics
      (λ t. partition_put r.partition_id (new_row epoch r) t (record { number = h.0; brokers = h.1; epoch = at }))
      (found_by_has IsTopicWritable (λ (t : TopicEntry). same_id t.id r.topic_id) i.topics w.topics) w.topics)
  kept epoch (meta.Config r) at h fine = configured_writable (int_eq r.resource_type (pos 2)) r h.0 h.1
  kept epoch (meta.PartitionChange r) at h fine =
      with_topics _ (changed_topics (partition_changed epoch r) (topic_with r.topic_id i) i.topics (λ t. partition_changed_writable epoch r t at h.0 h.1)
      (found_by_has IsTopicWritable (λ (t : TopicEntry). same_id t.id r.topic_id) i.topics w.topics) w.topics)
  kept epoch (meta.RemoveTopic id) at h fine = topic_removed_writable id
  kept epoch (meta.UserScramCredential r) at h fine =
      with_users _ (user_put r.name (put int_cmp mechanism_of_pair (record { mechanism = r.mechanism; value = scram_row r }) (scrams_at r.name i.users)) i.users h.0
      (All-put IsScramWritable int_cmp mechanism_of_pair (record { mechanism = r.mechanism; value = scram_row r }) (scrams_at r.name i.users) (record { salt = h.1; stored_key = h.2; server_key = h.3; iterations = h.4 }) (scrams_of_name r.name i.users w.users)) w.users)
  kept epoch (meta.ClientQuota r) at h fine =
      let named = quota_unbroken i r fine in
      let read : (k : EntityKey) → quota_key r.entity ≡ Some k → key_of (path_of k) ≡ Some k = λ k is. path_holds k (legal_by k r.key (subst (λ (o : Option EntityKey). has_quota o r.key ≡ true) is named)) (key_has_texts r.entity k h.0 is) in
      record { topics = w.topics; configs = w.configs; quotas = quota_put r (quota_key r.entity) i.quotas read h.1 w.quotas; users = w.users; acls = w.acls }
  kept epoch (meta.ProducerIds r) at h fine = record { topics = w.topics; configs = w.configs; quotas = w.quotas; users = w.users; acls = w.acls }
  kept epoch (meta.AccessControlEntry r) at h fine =
      with_acls _ (All-put IsAclWritable bytes_cmp id_of_acl (record { id = r.id; row = acl_row r }) i.acls (record { name = h.0; principal = h.1; host = h.2 }) w.acls)
  kept epoch (meta.RemoveAccessControlEntry id) at h fine = acl_removed_writable id.bytes
  kept epoch meta.NoOp at h fine = w
  kept epoch (meta.ZkMigrationState s) at h fine = with_state _ s
  kept epoch (meta.RemoveUserScramCredential name mechanism) at h fine = scram_removed_writable name mechanism h
  kept epoch (meta.BeginTransaction name) at h fine = w
  kept epoch meta.EndTransaction at h fine = w
  kept epoch (meta.AbortTransaction reason) at h fine = w
