-- What a record says of a member of a topic's configuration.
use Rattle.std.proofs.Common.{◌≡◌, ℕ, ℤ, ◌&&◌, Bool, true, false, cond, List, Option, Some, None, option_map, refl, sym, ap, ◌∙◌, subst}
use Rattle.std.specs.Prelude.{pos, is_none}
use Rattle.std.specs.Bool.{Decides}
use Rattle.std.specs.Ordering.{int_eq}
use Rattle.std.specs.Str.{bytes_eq}
use Rattle.std.specs.List.{Contains}
use Rattle.std.proofs.lemmas.Slice.Eq.{bytes_eq-Decides}
use Rattle.std.proofs.lemmas.List.Elements.{All-contains}
use Rattle.kz_types.specs.declared.id.Id.{Id}
use Rattle.kz_types.specs.declared.row.PartitionRow.{PartitionRow}
use Rattle.kz_types.specs.declared.image.TopicEntry.{TopicEntry}
use Rattle.kz_types.specs.declared.record.MetaRecord.TheVariants as meta
use Rattle.kz_types.specs.declared.record.ConfigRecord.{ConfigRecord}
use Rattle.kz_types.specs.declared.record.PartitionChangeRecord.{PartitionChangeRecord}
use Rattle.kz_types.specs.Order.{bytes_cmp}
use Rattle.kz_types.specs.Ordered.{find}
use Rattle.kz_types.proofs.Order.{bytes_order}
use Rattle.kz_types.proofs.Lookup.{key_of_found, found_is_contained}
use Rattle.kz_spec_data.specs.Metadata.{Image, name_of_topic, pairs_of_topic, topic_named, topic_with, topic_id_of, partition_at}
use Rattle.kz_spec_data.specs.ImageRules.{new_row, changed_row}
use Rattle.kz_spec_data.specs.Image.{put_topic, new_topic, with_changed, put_partition, change_partition, partition_changed, topic_configured, configurations_after, all_applied}
use Rattle.kz_spec_data.specs.Settlement.{counting_records}
use Rattle.kz_spec_data.specs.Log.{entries, image_at}
use Rattle.kz_spec_data.specs.InOrder.{IsTopicInOrder, IsInOrder}
use Rattle.kz_laws_znodes.specs.Said.{acceptable_records, value_by_records, accepted_entries, said_by_entries}
use Rattle.kz_laws_znodes.specs.Words.{value_in, TopicMember, topic_member_of, topic_member_word}
use Rattle.kz_laws_znodes.specs.ImageLaws.{IsWhatIsSaid, TopicMemberIsSaid}
use Rattle.kz_laws_znodes.proofs.Legal.{topic_id}
use Rattle.kz_laws_znodes.proofs.Unbroken.{lacks_none}
use Rattle.kz_laws_znodes.proofs.Steps.{IsStep, state_leaves, is_said}
use Rattle.kz_laws_znodes.proofs.Tests.{find-put_by, look_by, replaced}
use Rattle.kz_laws_znodes.proofs.Changes.{value_with_member, value_of_some}
use Rattle.kz_laws_znodes.proofs.TopicFinds.{replaced_by_name, removed_by_name}
use Rattle.kz_laws_znodes.proofs.ImageTopics.{partition_put_leaves, partition_changed_leaves, among_with, alike_by_name}

-- a topic that was looked up, with a member
abbrev pub member_in : List ℕ → Option TopicEntry → TopicMember
member_in member found = record { topic = option_map topic_id found; value = value_in member (pairs_of_topic found) }

abbrev pub named_member : List ℕ → List ℕ → Image → TopicMember
named_member name member i = member_in member (topic_named name i)

member_is_in : (name member : List ℕ) (i : Image) → topic_member_of name member i ≡ named_member name member i
member_is_in name member i =
    let with_value : Option (List ℕ) → TopicMember = λ value. record { topic = topic_id_of name i; value = value } in
    ap with_value (value_of_some member (pairs_of_topic (topic_named name i)))

-- a change of partitions leaves the members and the id
partitions_leave : (member : List ℕ) (epoch : ℤ) (r : PartitionChangeRecord) (row : Option PartitionRow) (t : TopicEntry) → member_in member (Some (change_partition r.partition_id (changed_row epoch r) row t)) ≡ member_in member (Some t)
partitions_leave member epoch r None t = refl
partitions_leave member epoch r (Some row) t = refl

either_value : (c : Bool) (topic : Option Id) (v w : Option (List ℕ)) (kept : TopicMember) → kept ≡ record { topic = topic; value = w } → record { topic = topic; value = cond c v w } ≡ cond c (record kept { value = v }) kept
either_value true topic v w kept e = ap (λ (m : TopicMember). record m { value = v }) (sym e)
either_value false topic v w kept e = sym e

config_by : (topic : Bool) (name member : List ℕ) (r : ConfigRecord) (i : Image) → IsInOrder i → (found : Option TopicEntry) → topic_named r.resource_name i ≡ found → topic && is_none found ≡ false
    → named_member name member (cond topic (record i { topics = with_changed (topic_configured r) found i.topics }) (record i { broker_configs = configurations_after r i.broker_configs }))
    ≡ cond (topic && bytes_eq r.resource_name name && bytes_eq r.name member) (record (named_member name member i) { value = r.value }) (named_member name member i)
config_by false name member r i order found e there = refl
config_by true name member r i order None e there = absurd (cc)
config_by true name member r i order (Some t) e there =
    let has : Contains i.topics t = found_is_contained bytes_order name_of_topic r.resource_name i.topics t e in
    let named : t.name ≡ r.resource_name = key_of_found bytes_order name_of_topic r.resource_name i.topics t e in
    let at = λ (is : bytes_eq r.resource_name name ≡ true). sym (ap (λ k. topic_named k i) (sym ((bytes_eq-Decides r.resource_name name).0 is)) ∙ e) in
    let c = bytes_eq r.name member in
    let with_value : Option (List ℕ) → TopicMember = λ value. record { topic = Some t.id; value = value } in
    replaced (member_in member) (bytes_eq r.resource_name name) c (record (named_member name member i) { value = r.value }) (topic_named name i)
    (find bytes_cmp name_of_topic name (put_topic (topic_configured r t) i.topics)) (topic_configured r t)
    (replaced_by_name (topic_configured r t) t i.topics (bytes_eq r.resource_name name) order.topics.rising order.legal.topics.apart has refl refl name
    (subst (λ n. Decides (bytes_eq r.resource_name name) (n ≡ name)) (sym named) (bytes_eq-Decides r.resource_name name)))
    (λ is. ap with_value (value_with_member member r.name r.value t.pairs c (bytes_eq-Decides r.name member) (All-contains IsTopicInOrder i.topics t order.topics.within has).1)
    ∙ either_value c (Some t.id) r.value (value_in member t.pairs) (named_member name member i) (ap (member_in member) (sym (at is))))

named_member_step : (name member : List ℕ) → IsStep (named_member name member) (λ epoch. topic_member_word name member)
named_member_step name member epoch (meta.Topic r) i order fine =
    ap (member_in member) (find-put_by bytes_order name_of_topic name (new_topic r) i.topics (bytes_eq r.name name) (bytes_eq-Decides r.name name))
    ∙ look_by (member_in member) (bytes_eq r.name name) (Some (new_topic r)) (topic_named name i)
named_member_step name member epoch (meta.Partition r) i order fine =
    alike_by_name (member_in member) i.topics order.topics.rising order.legal.topics.apart (put_partition r.partition_id (new_row epoch r)) (partition_put_leaves r.partition_id (new_row epoch r)) name
    (topic_with r.topic_id i) (among_with r.topic_id i.topics) (λ t. refl)
named_member_step name member epoch (meta.PartitionChange r) i order fine =
    alike_by_name (member_in member) i.topics order.topics.rising order.legal.topics.apart (partition_changed epoch r) (partition_changed_leaves epoch r) name
    (topic_with r.topic_id i) (among_with r.topic_id i.topics) (λ t. partitions_leave member epoch r (partition_at r.partition_id t.partitions) t)
named_member_step name member epoch (meta.Config r) i order fine =
    config_by (int_eq r.resource_type (pos 2)) name member r i order (topic_named r.resource_name i) refl (lacks_none i (meta.Config r) fine)
named_member_step name member epoch (meta.RemoveTopic removed) i order fine = removed_by_name (member_in member) name removed i.topics order.topics.rising
named_member_step name member epoch (meta.ZkMigrationState s) i order fine = state_leaves (named_member name member) (named_member name member i) i epoch s refl refl
named_member_step name member epoch r i order fine = refl

named_member_said : (name member : List ℕ) → IsWhatIsSaid (named_member name member) (λ epoch. topic_member_word name member)
named_member_said name member = is_said (named_member name member) (λ epoch. topic_member_word name member) (named_member_step name member)

pub topic_member_said : TopicMemberIsSaid
topic_member_said name member = record {
  after_records = λ epoch rs i order. member_is_in name member (all_applied epoch rs i) ∙ (named_member_said name member).after_records epoch rs i order ∙ ap (value_by_records (topic_member_word name member) (acceptable_records epoch rs i)) (sym (member_is_in name member i));
  in_logs = λ l at order. member_is_in name member (image_at l at) ∙ (named_member_said name member).in_logs l at order
      ∙ ap (said_by_entries (λ (epoch : ℤ). topic_member_word name member) (accepted_entries (counting_records (entries l.batches) at) l.base_image)) (sym (member_is_in name member l.base_image));
}
