-- Two metadata in order of which each look-up answers the same are one.
use Rattle.std.proofs.Common.{◌≡◌, ℕ, ◌<◌, ℤ, true, List, [], ◌∷◌, Option, Some, None, Ordering, length, option_map, refl, sym, ap, ◌∙◌, subst, arith}
use Rattle.std.specs.Prelude.{pos, option_and_then}
use Rattle.std.specs.List.{Contains}
use Rattle.std.proofs.lemmas.List.Elements.{All-contains}
use Rattle.kz_types.specs.declared.id.Id.{Id}
use Rattle.kz_types.specs.declared.bodies.Pair.{Pair}
use Rattle.kz_types.specs.declared.bodies.QuotaRow.{QuotaRow}
use Rattle.kz_types.specs.declared.bodies.ScramPair.{ScramPair}
use Rattle.kz_types.specs.declared.row.PartitionRow.{PartitionRow}
use Rattle.kz_types.specs.declared.row.AclRow.{AclRow}
use Rattle.kz_types.specs.declared.row.ScramRow.{ScramRow}
use Rattle.kz_types.specs.declared.row.QuotaValue.{QuotaValue}
use Rattle.kz_types.specs.declared.image.Configuration.{Configuration}
use Rattle.kz_types.specs.declared.image.TopicEntry.{TopicEntry}
use Rattle.kz_types.specs.declared.image.PartitionEntry.{PartitionEntry}
use Rattle.kz_types.specs.declared.image.QuotaEntry.{QuotaEntry}
use Rattle.kz_types.specs.declared.image.ScramEntry.{ScramEntry}
use Rattle.kz_types.specs.declared.image.AclEntry.{AclEntry}
use Rattle.kz_types.specs.declared.key.EntityKey.{EntityKey}
use Rattle.kz_types.specs.declared.record.RegisterBrokerRecord.{RegisterBrokerRecord}
use Rattle.kz_types.specs.Paths.{path_of, is_legal}
use Rattle.kz_types.specs.Order.{TotalOrder, bytes_cmp}
use Rattle.kz_types.specs.Ordered.{find, Rises}
use Rattle.kz_types.proofs.Order.{bytes_order, int_order}
use Rattle.kz_types.proofs.Lookup.{some_is_none, same_some, key_of_found, found_is_contained, same_items}
use Rattle.kz_spec_data.specs.Metadata.{Image, name_of_topic, number_of_partition, name_of_configuration, name_of_pair, path_of_quotas, key_of_quota, name_of_user, mechanism_of_pair, id_of_acl, id_of_broker, topic_named, topic_with, partition_at, pairs_of, pairs_at, pairs_of_topic}
use Rattle.kz_spec_data.specs.Image.{quotas_in, scrams_in, scrams_at}
use Rattle.kz_spec_data.specs.Legal.{IsQuotaEntry}
use Rattle.kz_spec_data.specs.InOrder.{IsTopicInOrder, IsFilled, IsQuotaFilled, IsUserFilled, IsInOrder}
use Rattle.kz_laws_znodes.specs.Words.{value_in}
use Rattle.kz_laws_znodes.specs.Alike.{AnswerAlike}
use Rattle.kz_laws_znodes.proofs.Lists.{pairs_rise}
use Rattle.kz_laws_znodes.proofs.Entries.{HasIfFound, found_has}
use Rattle.kz_laws_znodes.proofs.QuotaLists.{entity_with, rows_of, found_rows_rise}
use Rattle.kz_laws_znodes.proofs.UserLists.{user_with, scrams_of, scrams_rise}
use Rattle.kz_laws_znodes.proofs.Changes.{configuration_with, members_of, broker_member, scram_found, entity_quota, value_of_some}
use Rattle.kz_laws_znodes.proofs.Legal.{topic_id}
use Rattle.kz_laws_znodes.proofs.TopicFinds.{found_by_id}

-- ---- lists of keys with values

-- An item is its key and its value.
abbrev pub IsWhole : {A B K : Type 0} → (A → K) → (A → B) → (K → B → A) → Type 0
IsWhole {A} key value make = (a : A) → make (key a) (value a) ≡ a

module _ {A B K : Type 0} {cmp : K → K → Ordering} (o : TotalOrder cmp) (key : A → K) (value : A → B) (make : K → B → A) (whole : IsWhole key value make) where
  told_by : (k : K) (xs : List A) (found : Option A) → find cmp key k xs ≡ found → found ≡ option_map (make k) (option_map value found)
  told_by k xs None e = refl
  told_by k xs (Some a) e = ap (λ y. Some y) (sym (whole a) ∙ ap (λ q. make q (value a)) (key_of_found o key k xs a e))

  -- the value tells the item
  told : (k : K) (xs : List A) → find cmp key k xs ≡ option_map (make k) (option_map value (find cmp key k xs))
  told k xs = told_by k xs (find cmp key k xs) refl

  pub alike_values : (xs ys : List A) → Rises cmp key xs → Rises cmp key ys → ((k : K) → option_map value (find cmp key k xs) ≡ option_map value (find cmp key k ys)) → xs ≡ ys
  alike_values xs ys hx hy alike = same_items o key xs ys hx hy (λ k. told k xs ∙ ap (option_map (make k)) (alike k) ∙ sym (told k ys))

-- ---- lists of members, none of them empty

abbrev some_of : {B : Type 0} → List B → Option (List B)
some_of [] = None
some_of (b ∷ bs) = Some (b ∷ bs)

filled_some : {B : Type 0} (bs : List B) → 0 < length bs → Some bs ≡ some_of bs
filled_some [] h = absurd (omega arith)
filled_some (b ∷ bs) h = refl

-- ---- members

pub alike_pairs : (xs ys : List Pair) → Rises bytes_cmp name_of_pair xs → Rises bytes_cmp name_of_pair ys → ((member : List ℕ) → value_in member xs ≡ value_in member ys) → xs ≡ ys
alike_pairs xs ys hx hy alike =
    let make : List ℕ → List ℕ → Pair = λ name value. record { name = name; value = value } in
    alike_values bytes_order name_of_pair (λ (p : Pair). p.value) make (λ p. refl) xs ys hx hy alike

-- ---- each list

module _ (i j : Image) (hi : IsInOrder i) (hj : IsInOrder j) (alike : AnswerAlike i j) where
  same_acls : i.acls ≡ j.acls
  same_acls =
      let id : List ℕ → Id = λ bytes. record { bytes = bytes } in
      let make : List ℕ → AclRow → AclEntry = λ bytes row. record { id = id bytes; row = row } in
      alike_values bytes_order id_of_acl (λ (a : AclEntry). a.row) make (λ a. refl) i.acls j.acls hi.acls hj.acls (λ bytes. alike.acls (id bytes))

  -- configurations of brokers
  pairs_held : (found : Option Configuration) → HasIfFound IsFilled found → option_map members_of found ≡ some_of (pairs_of found)
  pairs_held None h = refl
  pairs_held (Some c) h = filled_some c.pairs h.0

  same_pairs : (name : List ℕ) → pairs_at name i.broker_configs ≡ pairs_at name j.broker_configs
  same_pairs name =
      alike_pairs (pairs_at name i.broker_configs) (pairs_at name j.broker_configs) (pairs_rise name i.broker_configs hi.configs.filled) (pairs_rise name j.broker_configs hj.configs.filled)
      (λ member. sym (broker_member name member i) ∙ alike.members (pos 4) name member ∙ broker_member name member j)

  same_configs : i.broker_configs ≡ j.broker_configs
  same_configs =
      alike_values bytes_order name_of_configuration members_of configuration_with (λ c. refl) i.broker_configs j.broker_configs hi.configs.rising hj.configs.rising
      (λ name. pairs_held _ (found_has IsFilled bytes_cmp name_of_configuration name i.broker_configs hi.configs.filled) ∙ ap some_of (same_pairs name)
      ∙ sym (pairs_held _ (found_has IsFilled bytes_cmp name_of_configuration name j.broker_configs hj.configs.filled)))

  -- credentials
  scrams_held : (found : Option ScramEntry) → HasIfFound IsUserFilled found → option_map scrams_of found ≡ some_of (scrams_in found)
  scrams_held None h = refl
  scrams_held (Some u) h = filled_some u.scrams h.0

  same_scrams : (name : List ℕ) → scrams_at name i.users ≡ scrams_at name j.users
  same_scrams name =
      let make : ℤ → ScramRow → ScramPair = λ mechanism value. record { mechanism = mechanism; value = value } in
      alike_values int_order mechanism_of_pair (λ (s : ScramPair). s.value) make (λ s. refl) (scrams_at name i.users) (scrams_at name j.users) (scrams_rise name i.users hi.users) (scrams_rise name j.users hj.users)
      (λ mechanism. sym (scram_found mechanism (find bytes_cmp name_of_user name i.users)) ∙ alike.scrams name mechanism ∙ scram_found mechanism (find bytes_cmp name_of_user name j.users))

  same_users : i.users ≡ j.users
  same_users =
      alike_values bytes_order name_of_user scrams_of user_with (λ u. refl) i.users j.users hi.users.rising hj.users.rising
      (λ name. scrams_held _ (found_has IsUserFilled bytes_cmp name_of_user name i.users hi.users.filled) ∙ ap some_of (same_scrams name)
      ∙ sym (scrams_held _ (found_has IsUserFilled bytes_cmp name_of_user name j.users hj.users.filled)))

  -- quotas
  rows_held : (found : Option QuotaEntry) → HasIfFound IsQuotaFilled found → option_map rows_of found ≡ some_of (quotas_in found)
  rows_held None h = refl
  rows_held (Some q) h = filled_some q.quotas h.0

  same_rows : (entity : EntityKey) → is_legal entity ≡ true → option_map rows_of (find bytes_cmp path_of_quotas (path_of entity) i.quotas) ≡ option_map rows_of (find bytes_cmp path_of_quotas (path_of entity) j.quotas)
  same_rows entity legal =
      let make : List ℕ → QuotaValue → QuotaRow = λ key value. record { key = key; value = value } in
      let one = find bytes_cmp path_of_quotas (path_of entity) i.quotas in
      let other = find bytes_cmp path_of_quotas (path_of entity) j.quotas in
      let here : HasIfFound IsQuotaFilled one = found_has IsQuotaFilled bytes_cmp path_of_quotas (path_of entity) i.quotas hi.quotas.filled in
      let there : HasIfFound IsQuotaFilled other = found_has IsQuotaFilled bytes_cmp path_of_quotas (path_of entity) j.quotas hj.quotas.filled in
      rows_held one here
      ∙ ap some_of (alike_values bytes_order key_of_quota (λ (q : QuotaRow). q.value) make (λ q. refl) (quotas_in one) (quotas_in other) (found_rows_rise one here) (found_rows_rise other there)
      (λ quota. sym (entity_quota entity quota i legal) ∙ alike.quotas entity quota legal ∙ entity_quota entity quota j legal))
      ∙ sym (rows_held other there)

  -- an entry that is found has the path of an entity
  rows_by : (path : List ℕ) (one other : Option QuotaEntry) → find bytes_cmp path_of_quotas path i.quotas ≡ one → find bytes_cmp path_of_quotas path j.quotas ≡ other → HasIfFound IsQuotaEntry one → HasIfFound IsQuotaEntry other
      → option_map rows_of (find bytes_cmp path_of_quotas path i.quotas) ≡ option_map rows_of (find bytes_cmp path_of_quotas path j.quotas)
  rows_by path None None e f has too = ap (option_map rows_of) e ∙ sym (ap (option_map rows_of) f)
  rows_by path None (Some q) e f has too =
      subst (λ p. option_map rows_of (find bytes_cmp path_of_quotas p i.quotas) ≡ option_map rows_of (find bytes_cmp path_of_quotas p j.quotas)) (too.placed ∙ key_of_found bytes_order path_of_quotas path j.quotas q f) (same_rows too.entity too.legal)
  rows_by path (Some q) other e f has too =
      subst (λ p. option_map rows_of (find bytes_cmp path_of_quotas p i.quotas) ≡ option_map rows_of (find bytes_cmp path_of_quotas p j.quotas)) (has.placed ∙ key_of_found bytes_order path_of_quotas path i.quotas q e) (same_rows has.entity has.legal)

  same_quotas : i.quotas ≡ j.quotas
  same_quotas =
      alike_values bytes_order path_of_quotas rows_of entity_with (λ q. refl) i.quotas j.quotas hi.quotas.rising hj.quotas.rising
      (λ path. rows_by path (find bytes_cmp path_of_quotas path i.quotas) (find bytes_cmp path_of_quotas path j.quotas) refl refl
      (found_has IsQuotaEntry bytes_cmp path_of_quotas path i.quotas hi.legal.quotas) (found_has IsQuotaEntry bytes_cmp path_of_quotas path j.quotas hj.legal.quotas))

  -- topics
  topic_pairs_rise : (found : Option TopicEntry) → HasIfFound IsTopicInOrder found → Rises bytes_cmp name_of_pair (pairs_of_topic found)
  topic_pairs_rise None h = tt
  topic_pairs_rise (Some t) h = h.1

  same_topic_pairs : (name : List ℕ) → pairs_of_topic (topic_named name i) ≡ pairs_of_topic (topic_named name j)
  same_topic_pairs name =
      alike_pairs (pairs_of_topic (topic_named name i)) (pairs_of_topic (topic_named name j))
      (topic_pairs_rise (topic_named name i) (found_has IsTopicInOrder bytes_cmp name_of_topic name i.topics hi.topics.within)) (topic_pairs_rise (topic_named name j) (found_has IsTopicInOrder bytes_cmp name_of_topic name j.topics hj.topics.within))
      (λ member. sym (value_of_some member (pairs_of_topic (topic_named name i))) ∙ alike.members (pos 2) name member ∙ value_of_some member (pairs_of_topic (topic_named name j)))

  same_partitions : (t u : TopicEntry) → Contains i.topics t → Contains j.topics u → t.id ≡ u.id → t.partitions ≡ u.partitions
  same_partitions t u has too same =
      let make : ℤ → PartitionRow → PartitionEntry = λ number row. record { number = number; row = row } in
      let look : ℤ → Option TopicEntry → Option PartitionRow = λ number found. option_and_then (λ (x : TopicEntry). partition_at number x.partitions) found in
      alike_values int_order number_of_partition (λ (p : PartitionEntry). p.row) make (λ p. refl) t.partitions u.partitions
      (All-contains IsTopicInOrder i.topics t hi.topics.within has).0 (All-contains IsTopicInOrder j.topics u hj.topics.within too).0
      (λ number. sym (ap (look number) (found_by_id i.topics t hi.legal.topics.apart has)) ∙ alike.partitions t.id number
      ∙ ap (λ (id : Id). look number (topic_with id j)) same ∙ ap (look number) (found_by_id j.topics u hj.legal.topics.apart too))

  same_topic_by : (name : List ℕ) (one other : Option TopicEntry) → topic_named name i ≡ one → topic_named name j ≡ other → option_map topic_id one ≡ option_map topic_id other → pairs_of_topic one ≡ pairs_of_topic other → one ≡ other
  same_topic_by name None None e f ids pairs = refl
  same_topic_by name None (Some u) e f ids pairs = absurd (some_is_none (sym ids))
  same_topic_by name (Some t) None e f ids pairs = absurd (some_is_none ids)
  same_topic_by name (Some t) (Some u) e f ids pairs =
      let make : List ℕ → Id → List PartitionEntry → List Pair → TopicEntry = λ n id ps members. record { name = n; id = id; partitions = ps; pairs = members } in
      let named : t.name ≡ u.name = key_of_found bytes_order name_of_topic name i.topics t e ∙ sym (key_of_found bytes_order name_of_topic name j.topics u f) in
      let identified : t.id ≡ u.id = same_some t.id u.id ids in
      let parts : t.partitions ≡ u.partitions = same_partitions t u (found_is_contained bytes_order name_of_topic name i.topics t e) (found_is_contained bytes_order name_of_topic name j.topics u f) identified in
      ap (λ x. Some x)
      (ap (λ n. make n t.id t.partitions t.pairs) named ∙ ap (λ id. make u.name id t.partitions t.pairs) identified ∙ ap (λ ps. make u.name u.id ps t.pairs) parts ∙ ap (make u.name u.id u.partitions) pairs)

  same_topics : i.topics ≡ j.topics
  same_topics =
      same_items bytes_order name_of_topic i.topics j.topics hi.topics.rising hj.topics.rising
      (λ name. same_topic_by name (topic_named name i) (topic_named name j) refl refl (alike.topic_ids name) (same_topic_pairs name))

  same_brokers : i.brokers ≡ j.brokers
  same_brokers = same_items int_order id_of_broker i.brokers j.brokers hi.brokers hj.brokers alike.brokers

  pub alike_are_one : i ≡ j
  alike_are_one =
      let make : List TopicEntry → List Configuration → List QuotaEntry → List ScramEntry → List AclEntry → List RegisterBrokerRecord → Option ℤ → ℤ → Image
      = λ topics configs quotas users acls brokers next state. record { topics = topics; broker_configs = configs; quotas = quotas; users = users; acls = acls; brokers = brokers; next_producer = next; state = state } in
      ap (λ x. make x i.broker_configs i.quotas i.users i.acls i.brokers i.next_producer i.state) same_topics
      ∙ ap (λ x. make j.topics x i.quotas i.users i.acls i.brokers i.next_producer i.state) same_configs
      ∙ ap (λ x. make j.topics j.broker_configs x i.users i.acls i.brokers i.next_producer i.state) same_quotas
      ∙ ap (λ x. make j.topics j.broker_configs j.quotas x i.acls i.brokers i.next_producer i.state) same_users
      ∙ ap (λ x. make j.topics j.broker_configs j.quotas j.users x i.brokers i.next_producer i.state) same_acls
      ∙ ap (λ x. make j.topics j.broker_configs j.quotas j.users j.acls x i.next_producer i.state) same_brokers
      ∙ ap (λ x. make j.topics j.broker_configs j.quotas j.users j.acls j.brokers x i.state) alike.next_producer
      ∙ ap (make j.topics j.broker_configs j.quotas j.users j.acls j.brokers j.next_producer) alike.state
