-- What a record says of the id of a topic, the name of a topic, and a partition.
use Rattle.std.proofs.Common.{◌≡◌, ℕ, ℤ, ◌&&◌, Bool, true, false, cond, List, Option, Some, None, option_map, refl, sym, ap, ◌∙◌, subst}
use Rattle.std.specs.Prelude.{is_some, is_none, option_and_then}
use Rattle.std.specs.Bool.{Decides}
use Rattle.std.specs.Ordering.{int_eq, int_cmp}
use Rattle.std.specs.Str.{bytes_eq}
use Rattle.std.specs.List.{Contains, find as find_by}
use Rattle.std.proofs.lemmas.Bool.Decides.{Decides-int_eq}
use Rattle.std.proofs.lemmas.Slice.Eq.{bytes_eq-Decides}
use Rattle.std.proofs.lemmas.List.Elements.{All-contains_itself}
use Rattle.std.specs.Prelude.{pos}
use Rattle.kz_types.specs.declared.id.Id.{Id}
use Rattle.kz_types.specs.declared.row.PartitionRow.{PartitionRow}
use Rattle.kz_types.specs.declared.image.TopicEntry.{TopicEntry}
use Rattle.kz_types.specs.declared.image.PartitionEntry.{PartitionEntry}
use Rattle.kz_types.specs.declared.record.MetaRecord.TheVariants as meta
use Rattle.kz_types.specs.declared.record.TopicRecord.{TopicRecord}
use Rattle.kz_types.specs.declared.record.ConfigRecord.{ConfigRecord}
use Rattle.kz_types.specs.declared.record.PartitionChangeRecord.{PartitionChangeRecord}
use Rattle.kz_types.specs.Order.{bytes_cmp}
use Rattle.kz_types.specs.Ordered.{find, Rises}
use Rattle.kz_types.proofs.Order.{bytes_order, int_order}
use Rattle.kz_types.proofs.Lookup.{contained_is_found}
use Rattle.kz_spec_data.specs.Metadata.{Image, name_of_topic, number_of_partition, same_id, topic_named, topic_with, topic_id_of, topic_name_of, partition_at, partition_of}
use Rattle.kz_spec_data.specs.ImageRules.{broken_rule, new_row, changed_row}
use Rattle.kz_spec_data.specs.Image.{put_topic, new_topic, with_changed, put_partition, change_partition, partition_changed, topic_configured, configurations_after}
use Rattle.kz_spec_data.specs.Legal.{AreApart}
use Rattle.kz_spec_data.specs.InOrder.{IsInOrder}
use Rattle.kz_laws_znodes.specs.Words.{topic_id_word, topic_name_word, partition_word}
use Rattle.kz_laws_znodes.proofs.Entries.{HasIfFound, found_has, found_by_has}
use Rattle.kz_laws_znodes.proofs.Legal.{topic_id, change_named}
use Rattle.kz_laws_znodes.proofs.Unbroken.{unbroken, lacks_none, neither_holds, absent_by}
use Rattle.kz_laws_znodes.proofs.Steps.{IsStep, either_config, state_leaves}
use Rattle.kz_laws_znodes.proofs.Tests.{find-put_by, map_by, look_by, replaced, replaced_alike}
use Rattle.kz_laws_znodes.proofs.TopicFinds.{has_id, same_id-Decides, found_by_id, find_id-put, new_agree, replaced_by_id, replaced_by_name, removed_by_id, removed_by_name, found_passes}

-- ---- a topic is changed

-- A change of topics that leaves their names and ids.
pub record LeavesKeys (change : TopicEntry → TopicEntry) : Type 0 where
  pub named : (t : TopicEntry) → (change t).name ≡ t.name
  pub identified : (t : TopicEntry) → (change t).id ≡ t.id

pub partition_put_leaves : (number : ℤ) (row : PartitionRow) → LeavesKeys (put_partition number row)
partition_put_leaves number row = record { named = λ t. refl; identified = λ t. refl }

pub partition_changed_leaves : (epoch : ℤ) (r : PartitionChangeRecord) → LeavesKeys (partition_changed epoch r)
partition_changed_leaves epoch r = record {
  named = λ t. (change_named r.partition_id (changed_row epoch r) (partition_at r.partition_id t.partitions) t).0;
  identified = λ t. (change_named r.partition_id (changed_row epoch r) (partition_at r.partition_id t.partitions) t).1;
}

pub topic_configured_leaves : (r : ConfigRecord) → LeavesKeys (topic_configured r)
topic_configured_leaves r = record { named = λ t. refl; identified = λ t. refl }

-- what is found is one of the topics
pub among_with : (id : Id) (xs : List TopicEntry) → HasIfFound (Contains xs) (find_by (has_id id) xs)
among_with id xs = found_by_has (Contains xs) (has_id id) xs (All-contains_itself xs)

pub among_named : (name : List ℕ) (xs : List TopicEntry) → HasIfFound (Contains xs) (find bytes_cmp name_of_topic name xs)
among_named name xs = found_has (Contains xs) bytes_cmp name_of_topic name xs (All-contains_itself xs)

module _ {V : Type 0} (look : Option TopicEntry → V) (xs : List TopicEntry) (rises : Rises bytes_cmp name_of_topic xs) (apart : AreApart xs) (change : TopicEntry → TopicEntry) (leaves : LeavesKeys change) where
  -- what a change leaves is looked up in the topic of an id, and of a name
  pub alike_by_id : (id : Id) (found : Option TopicEntry) → HasIfFound (Contains xs) found → ((t : TopicEntry) → look (Some (change t)) ≡ look (Some t))
      → look (find_by (has_id id) (with_changed change found xs)) ≡ look (find_by (has_id id) xs)
  alike_by_id id None has alike = refl
  alike_by_id id (Some t) has alike =
      let there = λ (is : same_id t.id id ≡ true). ap (λ (j : Id). find_by (has_id j) xs) (sym ((same_id-Decides t.id id).0 is)) ∙ found_by_id xs t apart has in
      replaced_alike look (same_id t.id id) (find_by (has_id id) xs) (find_by (has_id id) (put_topic (change t) xs)) (change t)
      (replaced_by_id (change t) t xs (same_id t.id id) rises apart has (leaves.named t) (leaves.identified t) id (same_id-Decides t.id id))
      (λ is. alike t ∙ ap look (sym (there is)))

  pub alike_by_name : (name : List ℕ) (found : Option TopicEntry) → HasIfFound (Contains xs) found → ((t : TopicEntry) → look (Some (change t)) ≡ look (Some t))
      → look (find bytes_cmp name_of_topic name (with_changed change found xs)) ≡ look (find bytes_cmp name_of_topic name xs)
  alike_by_name name None has alike = refl
  alike_by_name name (Some t) has alike =
      let there = λ (is : bytes_eq t.name name ≡ true). ap (λ k. find bytes_cmp name_of_topic k xs) (sym ((bytes_eq-Decides t.name name).0 is)) ∙ contained_is_found bytes_order name_of_topic xs t rises has in
      replaced_alike look (bytes_eq t.name name) (find bytes_cmp name_of_topic name xs) (find bytes_cmp name_of_topic name (put_topic (change t) xs)) (change t)
      (replaced_by_name (change t) t xs (bytes_eq t.name name) rises apart has (leaves.named t) (leaves.identified t) name (bytes_eq-Decides t.name name))
      (λ is. alike t ∙ ap look (sym (there is)))

  -- what a change of the topic of an id gives by a test
  pub changed_by_id : (id own : Id) (c : Bool) (v : V) (found : Option TopicEntry) → find_by (has_id own) xs ≡ found → HasIfFound (Contains xs) found → HasIfFound (λ (t : TopicEntry). t.id ≡ own) found
      → (find_by (has_id id) xs ≡ found → look (option_map change found) ≡ cond c v (look found))
      → look (find_by (has_id id) (with_changed change found xs)) ≡ cond (same_id own id && c) v (look (find_by (has_id id) xs))
  changed_by_id id own c v None e has is made = by (same_id own id) (same_id-Decides own id).0
    where
      by : (b : Bool) → (b ≡ true → own ≡ id) → look (find_by (has_id id) xs) ≡ cond (b && c) v (look (find_by (has_id id) xs))
      by true same = let there = ap (λ (j : Id). find_by (has_id j) xs) (sym (same refl)) ∙ e in ap look there ∙ made there ∙ ap (λ q. cond c v (look q)) (sym there)
      by false same = refl
  changed_by_id id own c v (Some t) e has is made =
      let there = λ (same : same_id own id ≡ true). ap (λ (j : Id). find_by (has_id j) xs) (sym ((same_id-Decides own id).0 same)) ∙ e in
      replaced look (same_id own id) c v (find_by (has_id id) xs) (find_by (has_id id) (put_topic (change t) xs)) (change t)
      (replaced_by_id (change t) t xs (same_id own id) rises apart has (leaves.named t) (leaves.identified t) id (subst (λ (j : Id). Decides (same_id own id) (j ≡ id)) (sym is) (same_id-Decides own id)))
      (λ same. made (there same) ∙ ap (λ q. cond c v (look q)) (sym (there same)))

-- ---- the id of a topic

module _ (i : Image) (order : IsInOrder i) where
  rises : Rises bytes_cmp name_of_topic i.topics
  rises = order.topics.rising

  apart : AreApart i.topics
  apart = order.legal.topics.apart

  -- a new topic
  pub no_topic : (r : TopicRecord) → broken_rule i (meta.Topic r) ≡ None → (topic_named r.name i ≡ None) × (topic_with r.topic_id i ≡ None)
  no_topic r fine =
      let absent = neither_holds (is_some (topic_named r.name i)) (is_some (topic_with r.topic_id i)) (unbroken i (meta.Topic r) fine).1 in
      (absent_by (topic_named r.name i) absent.0, absent_by (topic_with r.topic_id i) absent.1)

  pub topic_made : (r : TopicRecord) (id : Id) → broken_rule i (meta.Topic r) ≡ None → find_by (has_id id) (put_topic (new_topic r) i.topics) ≡ cond (same_id r.topic_id id) (Some (new_topic r)) (find_by (has_id id) i.topics)
  topic_made r id fine = let absent = no_topic r fine in find_id-put id (new_topic r) i.topics (new_agree r.name r.topic_id i.topics rises absent.0 absent.1)

pub topic_id_step : (name : List ℕ) → IsStep (topic_id_of name) (λ epoch. topic_id_word name)
topic_id_step name epoch (meta.Topic r) i order fine =
    ap (option_map topic_id) (find-put_by bytes_order name_of_topic name (new_topic r) i.topics (bytes_eq r.name name) (bytes_eq-Decides r.name name)) ∙ map_by topic_id (bytes_eq r.name name) (Some (new_topic r)) (topic_named name i)
topic_id_step name epoch (meta.Partition r) i order fine =
    alike_by_name (option_map topic_id) i.topics order.topics.rising order.legal.topics.apart (put_partition r.partition_id (new_row epoch r)) (partition_put_leaves r.partition_id (new_row epoch r)) name
    (topic_with r.topic_id i) (among_with r.topic_id i.topics) (λ t. refl)
topic_id_step name epoch (meta.PartitionChange r) i order fine =
    alike_by_name (option_map topic_id) i.topics order.topics.rising order.legal.topics.apart (partition_changed epoch r) (partition_changed_leaves epoch r) name
    (topic_with r.topic_id i) (among_with r.topic_id i.topics) (λ t. ap (λ (id : Id). Some id) ((partition_changed_leaves epoch r).identified t))
topic_id_step name epoch (meta.Config r) i order fine =
    either_config (topic_id_of name) (topic_id_of name i) i (int_eq r.resource_type (pos 2)) (with_changed (topic_configured r) (topic_named r.resource_name i) i.topics) (configurations_after r i.broker_configs)
    (alike_by_name (option_map topic_id) i.topics order.topics.rising order.legal.topics.apart (topic_configured r) (topic_configured_leaves r) name (topic_named r.resource_name i) (among_named r.resource_name i.topics) (λ t. refl))
    refl
topic_id_step name epoch (meta.RemoveTopic removed) i order fine = removed_by_name (option_map topic_id) name removed i.topics order.topics.rising
topic_id_step name epoch (meta.ZkMigrationState s) i order fine = state_leaves (topic_id_of name) (topic_id_of name i) i epoch s refl refl
topic_id_step name epoch r i order fine = refl

-- ---- the name of a topic

pub topic_name_step : (id : Id) → IsStep (topic_name_of id) (λ epoch. topic_name_word id)
topic_name_step id epoch (meta.Topic r) i order fine =
    ap (option_map name_of_topic) (topic_made i order r id fine) ∙ map_by name_of_topic (same_id r.topic_id id) (Some (new_topic r)) (topic_with id i)
topic_name_step id epoch (meta.Partition r) i order fine =
    alike_by_id (option_map name_of_topic) i.topics order.topics.rising order.legal.topics.apart (put_partition r.partition_id (new_row epoch r)) (partition_put_leaves r.partition_id (new_row epoch r)) id
    (topic_with r.topic_id i) (among_with r.topic_id i.topics) (λ t. refl)
topic_name_step id epoch (meta.PartitionChange r) i order fine =
    alike_by_id (option_map name_of_topic) i.topics order.topics.rising order.legal.topics.apart (partition_changed epoch r) (partition_changed_leaves epoch r) id
    (topic_with r.topic_id i) (among_with r.topic_id i.topics) (λ t. ap (λ (name : List ℕ). Some name) ((partition_changed_leaves epoch r).named t))
topic_name_step id epoch (meta.Config r) i order fine =
    either_config (topic_name_of id) (topic_name_of id i) i (int_eq r.resource_type (pos 2)) (with_changed (topic_configured r) (topic_named r.resource_name i) i.topics) (configurations_after r i.broker_configs)
    (alike_by_id (option_map name_of_topic) i.topics order.topics.rising order.legal.topics.apart (topic_configured r) (topic_configured_leaves r) id (topic_named r.resource_name i) (among_named r.resource_name i.topics) (λ t. refl))
    refl
topic_name_step id epoch (meta.RemoveTopic removed) i order fine = ap (option_map name_of_topic) (removed_by_id id removed i.topics) ∙ map_by name_of_topic (same_id removed id) None (topic_with id i)
topic_name_step id epoch (meta.ZkMigrationState s) i order fine = state_leaves (topic_name_of id) (topic_name_of id i) i epoch s refl refl
topic_name_step id epoch r i order fine = refl

-- ---- partitions

-- the partition of a number, where there is a topic
abbrev pub partition_in : ℤ → Option TopicEntry → Option PartitionRow
partition_in number found = option_and_then (λ (t : TopicEntry). partition_at number t.partitions) found

row_put : (number own : ℤ) (row : PartitionRow) (t : TopicEntry) → partition_at number (put_partition own row t).partitions ≡ cond (int_eq own number) (Some row) (partition_at number t.partitions)
row_put number own row t =
    let entry : PartitionEntry = record { number = own; row = row } in
    ap (option_map (λ (p : PartitionEntry). p.row)) (find-put_by int_order number_of_partition number entry t.partitions (int_eq own number) (Decides-int_eq own number))
    ∙ map_by (λ (p : PartitionEntry). p.row) (int_eq own number) (Some entry) (find int_cmp number_of_partition number t.partitions)

-- a partition that is made in a topic that is there
partition_made : (number own : ℤ) (row : PartitionRow) (found : Option TopicEntry) → is_none found ≡ false → partition_in number (option_map (put_partition own row) found) ≡ cond (int_eq own number) (Some row) (partition_in number found)
partition_made number own row None there = absurd (cc)
partition_made number own row (Some t) there = row_put number own row t

none_changed : (c : Bool) (f : PartitionRow → PartitionRow) (x : Option PartitionRow) → (c ≡ true → x ≡ None) → x ≡ cond c (option_map f x) x
none_changed true f x none = none refl ∙ ap (option_map f) (sym (none refl))
none_changed false f x none = refl

one_changed : (c : Bool) (f : PartitionRow → PartitionRow) (row : PartitionRow) (x : Option PartitionRow) → (c ≡ true → x ≡ Some row) → cond c (Some (f row)) x ≡ cond c (option_map f x) x
one_changed true f row x some = ap (option_map f) (sym (some refl))
one_changed false f row x some = refl

row_changed : (number own : ℤ) (f : PartitionRow → PartitionRow) (t : TopicEntry) (row : Option PartitionRow) → partition_at own t.partitions ≡ row
    → partition_at number (change_partition own f row t).partitions ≡ cond (int_eq own number) (option_map f (partition_at number t.partitions)) (partition_at number t.partitions)
row_changed number own f t None e = none_changed (int_eq own number) f (partition_at number t.partitions) (λ is. ap (λ n. partition_at n t.partitions) (sym ((Decides-int_eq own number).0 is)) ∙ e)
row_changed number own f t (Some row) e =
    row_put number own (f row) t ∙ one_changed (int_eq own number) f row (partition_at number t.partitions) (λ is. ap (λ n. partition_at n t.partitions) (sym ((Decides-int_eq own number).0 is)) ∙ e)

-- a partition that is changed
partition_is_changed : (number epoch : ℤ) (r : PartitionChangeRecord) (found : Option TopicEntry)
    → partition_in number (option_map (partition_changed epoch r) found) ≡ cond (int_eq r.partition_id number) (option_map (changed_row epoch r) (partition_in number found)) (partition_in number found)
partition_is_changed number epoch r None = none_changed (int_eq r.partition_id number) (changed_row epoch r) None (λ is. refl)
partition_is_changed number epoch r (Some t) = row_changed number r.partition_id (changed_row epoch r) t (partition_at r.partition_id t.partitions) refl

-- what is found has the id
found_identified : (own : Id) (found : Option TopicEntry) → HasIfFound (λ (t : TopicEntry). has_id own t ≡ true) found → HasIfFound (λ (t : TopicEntry). t.id ≡ own) found
found_identified own None h = tt
found_identified own (Some t) h = (same_id-Decides t.id own).0 h

with_identified : (own : Id) (xs : List TopicEntry) → HasIfFound (λ (t : TopicEntry). t.id ≡ own) (find_by (has_id own) xs)
with_identified own xs = found_identified own (find_by (has_id own) xs) (found_passes (has_id own) xs)

pub partition_step : (id : Id) (number : ℤ) → IsStep (partition_of id number) (λ epoch. partition_word epoch id number)
partition_step id number epoch (meta.Topic r) i order fine =
    replaced_alike (partition_in number) (same_id r.topic_id id) (topic_with id i) (find_by (has_id id) (put_topic (new_topic r) i.topics)) (new_topic r) (topic_made i order r id fine)
    (λ is. ap (partition_in number) (sym (ap (λ (j : Id). topic_with j i) (sym ((same_id-Decides r.topic_id id).0 is)) ∙ (no_topic i order r fine).1)))
partition_step id number epoch (meta.Partition r) i order fine =
    changed_by_id (partition_in number) i.topics order.topics.rising order.legal.topics.apart (put_partition r.partition_id (new_row epoch r)) (partition_put_leaves r.partition_id (new_row epoch r))
    id r.topic_id (int_eq r.partition_id number) (Some (new_row epoch r)) (topic_with r.topic_id i) refl (among_with r.topic_id i.topics) (with_identified r.topic_id i.topics)
    (λ there. partition_made number r.partition_id (new_row epoch r) (topic_with r.topic_id i) (lacks_none i (meta.Partition r) fine))
partition_step id number epoch (meta.PartitionChange r) i order fine =
    let found = topic_with r.topic_id i in
    changed_by_id (partition_in number) i.topics order.topics.rising order.legal.topics.apart (partition_changed epoch r) (partition_changed_leaves epoch r)
    id r.topic_id (int_eq r.partition_id number) (option_map (changed_row epoch r) (partition_of id number i)) found refl (among_with r.topic_id i.topics) (with_identified r.topic_id i.topics)
    (λ there. partition_is_changed number epoch r found ∙ ap (λ q. cond (int_eq r.partition_id number) (option_map (changed_row epoch r) (partition_in number q)) (partition_in number found)) (sym there))
partition_step id number epoch (meta.Config r) i order fine =
    either_config (partition_of id number) (partition_of id number i) i (int_eq r.resource_type (pos 2)) (with_changed (topic_configured r) (topic_named r.resource_name i) i.topics) (configurations_after r i.broker_configs)
    (alike_by_id (partition_in number) i.topics order.topics.rising order.legal.topics.apart (topic_configured r) (topic_configured_leaves r) id (topic_named r.resource_name i) (among_named r.resource_name i.topics) (λ t. refl))
    refl
partition_step id number epoch (meta.RemoveTopic removed) i order fine = ap (partition_in number) (removed_by_id id removed i.topics) ∙ look_by (partition_in number) (same_id removed id) None (topic_with id i)
partition_step id number epoch (meta.ZkMigrationState s) i order fine = state_leaves (partition_of id number) (partition_of id number i) i epoch s refl refl
partition_step id number epoch r i order fine = refl
