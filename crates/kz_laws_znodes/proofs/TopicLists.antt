-- Topics stay in order when one is made, changed or removed.
use Rattle.std.proofs.Common.{ℤ, not, List, Option, Some, None}
use Rattle.std.proofs.lemmas.List.Elements.{All-filter}
use Rattle.std.specs.List.{find as find_by}
use Rattle.kz_types.specs.declared.id.Id.{Id}
use Rattle.kz_types.specs.declared.row.PartitionRow.{PartitionRow}
use Rattle.kz_types.specs.declared.image.TopicEntry.{TopicEntry}
use Rattle.kz_types.specs.declared.record.TopicRecord.{TopicRecord}
use Rattle.kz_types.specs.declared.record.ConfigRecord.{ConfigRecord}
use Rattle.kz_types.specs.declared.record.PartitionChangeRecord.{PartitionChangeRecord}
use Rattle.kz_types.specs.Order.{bytes_cmp}
use Rattle.kz_types.specs.Ordered.{find}
use Rattle.kz_types.proofs.Order.{bytes_order, int_order}
use Rattle.kz_types.proofs.Lookup.{Rises-put}
use Rattle.kz_types.proofs.Maps.{Rises-filter}
use Rattle.kz_spec_data.specs.Metadata.{name_of_topic, number_of_partition, same_id, partition_at}
use Rattle.kz_spec_data.specs.ImageRules.{changed_row}
use Rattle.kz_spec_data.specs.Image.{with_changed, put_partition, change_partition, partition_changed, put_topic, new_topic, topic_configured, without_topic}
use Rattle.kz_spec_data.specs.InOrder.{IsTopicInOrder, AreTopicsInOrder}
use Rattle.kz_laws_znodes.proofs.Lists.{All-put, member_rises}
use Rattle.kz_laws_znodes.proofs.Entries.{HasIfFound, found_has, found_by_has}

put_in_order : (t : TopicEntry) (xs : List TopicEntry) → IsTopicInOrder t → AreTopicsInOrder xs → AreTopicsInOrder (put_topic t xs)
put_in_order t xs h order = record {
  rising = Rises-put bytes_order name_of_topic t xs order.rising;
  within = All-put IsTopicInOrder bytes_cmp name_of_topic t xs h order.within;
}

changed_in_order : (change : TopicEntry → TopicEntry) (found : Option TopicEntry) (xs : List TopicEntry) → ((t : TopicEntry) → IsTopicInOrder t → IsTopicInOrder (change t)) → HasIfFound IsTopicInOrder found → AreTopicsInOrder xs
    → AreTopicsInOrder (with_changed change found xs)
changed_in_order change None xs keeps has order = order
changed_in_order change (Some t) xs keeps has order = put_in_order (change t) xs (keeps t has) order

partition_in_order : (number : ℤ) (row : PartitionRow) (t : TopicEntry) → IsTopicInOrder t → IsTopicInOrder (put_partition number row t)
partition_in_order number row t h = (Rises-put int_order number_of_partition (record { number = number; row = row }) t.partitions h.0, h.1)

change_in_order : (number : ℤ) (change : PartitionRow → PartitionRow) (found : Option PartitionRow) (t : TopicEntry) → IsTopicInOrder t → IsTopicInOrder (change_partition number change found t)
change_in_order number change None t h = h
change_in_order number change (Some row) t h = partition_in_order number (change row) t h

pub topic_made_in_order : (r : TopicRecord) (xs : List TopicEntry) → AreTopicsInOrder xs → AreTopicsInOrder (put_topic (new_topic r) xs)
topic_made_in_order r xs order = put_in_order (new_topic r) xs (tt, tt) order

pub partition_made_in_order : (id : Id) (number : ℤ) (row : PartitionRow) (xs : List TopicEntry) → AreTopicsInOrder xs → AreTopicsInOrder (with_changed (put_partition number row) (find_by (λ (t : TopicEntry). same_id t.id id) xs) xs)
partition_made_in_order id number row xs order =
    changed_in_order (put_partition number row) (find_by (λ (t : TopicEntry). same_id t.id id) xs) xs (partition_in_order number row)
    (found_by_has IsTopicInOrder (λ (t : TopicEntry). same_id t.id id) xs order.within) order

pub partition_changed_in_order : (epoch : ℤ) (r : PartitionChangeRecord) (xs : List TopicEntry) → AreTopicsInOrder xs → AreTopicsInOrder (with_changed (partition_changed epoch r) (find_by (λ (t : TopicEntry). same_id t.id r.topic_id) xs) xs)
partition_changed_in_order epoch r xs order =
    changed_in_order (partition_changed epoch r) (find_by (λ (t : TopicEntry). same_id t.id r.topic_id) xs) xs
    (λ t h. change_in_order r.partition_id (changed_row epoch r) (partition_at r.partition_id t.partitions) t h)
    (found_by_has IsTopicInOrder (λ (t : TopicEntry). same_id t.id r.topic_id) xs order.within) order

pub topic_configured_in_order : (c : ConfigRecord) (xs : List TopicEntry) → AreTopicsInOrder xs → AreTopicsInOrder (with_changed (topic_configured c) (find bytes_cmp name_of_topic c.resource_name xs) xs)
topic_configured_in_order c xs order =
    changed_in_order (topic_configured c) (find bytes_cmp name_of_topic c.resource_name xs) xs (λ t h. (h.0, member_rises c.name c.value t.pairs h.1))
    (found_has IsTopicInOrder bytes_cmp name_of_topic c.resource_name xs order.within) order

pub topic_removed_in_order : (id : Id) (xs : List TopicEntry) → AreTopicsInOrder xs → AreTopicsInOrder (without_topic id xs)
topic_removed_in_order id xs order = record {
  rising = Rises-filter bytes_order name_of_topic (λ (t : TopicEntry). not (same_id t.id id)) xs order.rising;
  within = All-filter (λ (t : TopicEntry). not (same_id t.id id)) IsTopicInOrder xs order.within;
}
