-- What records make of metadata, and of the same at the greatest epoch.
use Rattle.std.proofs.Common.{◌≡◌, ℤ, pos, ◌≤ℤ◌, Bool, true, false, not, if◌then◌else◌, List, [], ◌∷◌, map, Option, Some, None, All, refl, ap, subst}
use Rattle.std.specs.Ordering.{int_eq, int_cmp}
use Rattle.std.proofs.lemmas.List.Elements.{All-head, All-tail}
use Rattle.kz_types.specs.declared.limits.TheConstants.{MAX_EPOCH}
use Rattle.kz_types.specs.declared.id.Id.{Id}
use Rattle.kz_types.specs.declared.bodies.Pair.{Pair}
use Rattle.kz_types.specs.declared.row.PartitionRow.{PartitionRow}
use Rattle.kz_types.specs.declared.image.Configuration.{Configuration}
use Rattle.kz_types.specs.declared.image.TopicEntry.{TopicEntry}
use Rattle.kz_types.specs.declared.image.QuotaEntry.{QuotaEntry}
use Rattle.kz_types.specs.declared.image.ScramEntry.{ScramEntry}
use Rattle.kz_types.specs.declared.image.AclEntry.{AclEntry}
use Rattle.kz_types.specs.declared.image_fault.ImageRule.{ImageRule}
use Rattle.kz_types.specs.declared.log.Entry.{Entry}
use Rattle.kz_types.specs.declared.record.MetaRecord.{MetaRecord}
use Rattle.kz_types.specs.declared.record.MetaRecord.TheVariants as meta
use Rattle.kz_types.specs.declared.record.ConfigRecord.{ConfigRecord}
use Rattle.kz_types.specs.declared.record.PartitionChangeRecord.{PartitionChangeRecord}
use Rattle.kz_types.specs.Order.{bytes_cmp}
use Rattle.kz_types.specs.Ordered.{put, without}
use Rattle.kz_spec_data.specs.Metadata.{Image, name_of_topic, number_of_partition, id_of_acl, same_id, topic_named, topic_with, partition_at}
use Rattle.kz_spec_data.specs.ImageRules.{quota_key, new_row, changed_row, broken_rule}
use Rattle.kz_spec_data.specs.Image.{new_topic, with_changed, put_partition, change_partition, partition_changed, with_member, configurations_after, topic_configured, quota_changed, scram_set, scram_removed, acl_row, effect, unless_broken, image_with, all_applied}
use Rattle.kz_spec_data.specs.Log.{all_entries_applied}
use Rattle.kz_spec_machine.specs.Sound.{IsTranslated}
use Rattle.kz_laws_machine.specs.Limits.{HasEpoch, item_of}
use Rattle.kz_laws_machine.proofs.Related.{AllRelated, MaybeRelated, filter_related, put_related}
use Rattle.kz_laws_machine.proofs.Raised.{RowRaised, PartitionRaised, TopicRaised, ImageRaised, found_named, found_with, found_at, same_rule}

-- ---- topics

with_topics : (i j : Image) (topics others : List TopicEntry) → AllRelated TopicRaised topics others → ImageRaised i j → ImageRaised (record i { topics = topics }) (record j { topics = others })
with_topics i j topics others each raised = record { each = each; configs = raised.configs; entities = raised.entities; credentials = raised.credentials; entries = raised.entries; next = raised.next }

changed_raised : (f g : TopicEntry → TopicEntry) (m n : Option TopicEntry) (topics others : List TopicEntry) → ((t u : TopicEntry) → TopicRaised t u → TopicRaised (f t) (g u)) → MaybeRelated TopicRaised m n → AllRelated TopicRaised topics others
    → AllRelated TopicRaised (with_changed f m topics) (with_changed g n others)
changed_raised f g None None topics others one found all = all
changed_raised f g None (Some u) topics others one found all = absurd found
changed_raised f g (Some t) None topics others one found all = absurd found
changed_raised f g (Some t) (Some u) topics others one found all = put_related TopicRaised bytes_cmp name_of_topic name_of_topic (λ x y r. r.names) (f t) (g u) topics others (one t u found) all

-- a partition of a topic
placed : (number : ℤ) (row other : PartitionRow) (t u : TopicEntry) → RowRaised row other → TopicRaised t u → TopicRaised (put_partition number row t) (put_partition number other u)
placed number row other t u rows raised = record {
  names = raised.names;
  ids = raised.ids;
  each = put_related PartitionRaised int_cmp number_of_partition number_of_partition (λ p q r. r.numbers) (record { number = number; row = row }) (record { number = number; row = other }) t.partitions u.partitions (record { numbers = refl; rows = rows }) raised.each;
  members = raised.members;
}

changed_at : (epoch : ℤ) (r : PartitionChangeRecord) (m n : Option PartitionRow) (t u : TopicEntry) → pos 0 ≤ℤ epoch → epoch ≤ℤ MAX_EPOCH → MaybeRelated RowRaised m n → TopicRaised t u
    → TopicRaised (change_partition r.partition_id (changed_row epoch r) m t) (change_partition r.partition_id (changed_row MAX_EPOCH r) n u)
changed_at epoch r None None t u least most found raised = raised
changed_at epoch r None (Some q) t u least most found raised = absurd found
changed_at epoch r (Some p) None t u least most found raised = absurd found
changed_at epoch r (Some p) (Some q) t u least most found raised =
    placed r.partition_id (changed_row epoch r p) (changed_row MAX_EPOCH r q) t u (record { same = ap (changed_row MAX_EPOCH r) found.same; least = least; most = most }) raised

members_changed : (r : ConfigRecord) (t u : TopicEntry) → TopicRaised t u → TopicRaised (topic_configured r t) (topic_configured r u)
members_changed r t u raised = record { names = raised.names; ids = raised.ids; each = raised.each; members = ap (λ (pairs : List Pair). with_member r.name r.value pairs) raised.members }

-- ---- one record

config_raised : (b : Bool) (i j : Image) (topics others : List TopicEntry) (configs more : List Configuration) → AllRelated TopicRaised topics others → configs ≡ more → ImageRaised i j
    → ImageRaised (if b then record i { topics = topics } else record i { broker_configs = configs }) (if b then record j { topics = others } else record j { broker_configs = more })
config_raised true i j topics others configs more each same raised = with_topics i j topics others each raised
config_raised false i j topics others configs more each same raised = record { each = raised.each; configs = same; entities = raised.entities; credentials = raised.credentials; entries = raised.entries; next = raised.next }

with_entities : (i j : Image) (one other : List QuotaEntry) → one ≡ other → ImageRaised i j → ImageRaised (record i { quotas = one }) (record j { quotas = other })
with_entities i j one other same raised = record { each = raised.each; configs = raised.configs; entities = same; credentials = raised.credentials; entries = raised.entries; next = raised.next }

with_credentials : (i j : Image) (one other : List ScramEntry) → one ≡ other → ImageRaised i j → ImageRaised (record i { users = one }) (record j { users = other })
with_credentials i j one other same raised = record { each = raised.each; configs = raised.configs; entities = raised.entities; credentials = same; entries = raised.entries; next = raised.next }

with_entries : (i j : Image) (one other : List AclEntry) → one ≡ other → ImageRaised i j → ImageRaised (record i { acls = one }) (record j { acls = other })
with_entries i j one other same raised = record { each = raised.each; configs = raised.configs; entities = raised.entities; credentials = raised.credentials; entries = same; next = raised.next }

effect_raised : (epoch : ℤ) (r : MetaRecord) (i j : Image) → pos 0 ≤ℤ epoch → epoch ≤ℤ MAX_EPOCH → IsTranslated r → ImageRaised i j → ImageRaised (effect epoch r i) (effect MAX_EPOCH r j)
effect_raised epoch (meta.RegisterBroker r) i j least most translated raised = absurd translated
effect_raised epoch (meta.Topic r) i j least most translated raised =
    with_topics i j _ _ (put_related TopicRaised bytes_cmp name_of_topic name_of_topic (λ x y t. t.names) (new_topic r) (new_topic r) i.topics j.topics (record { names = refl; ids = refl; each = tt; members = refl }) raised.each) raised
effect_raised epoch (meta.Partition r) i j least most translated raised =
    with_topics i j _ _ (changed_raised (put_partition r.partition_id (new_row epoch r)) (put_partition r.partition_id (new_row MAX_EPOCH r)) (topic_with r.topic_id i) (topic_with r.topic_id j) i.topics j.topics
    (λ t u both. placed r.partition_id (new_row epoch r) (new_row MAX_EPOCH r) t u (record { same = refl; least = least; most = most }) both) (found_with r.topic_id i j raised) raised.each) raised
effect_raised epoch (meta.Config r) i j least most translated raised =
    config_raised (int_eq r.resource_type (pos 2)) i j _ _ _ _
    (changed_raised (topic_configured r) (topic_configured r) (topic_named r.resource_name i) (topic_named r.resource_name j) i.topics j.topics (members_changed r) (found_named r.resource_name i j raised) raised.each)
    (ap (configurations_after r) raised.configs) raised
effect_raised epoch (meta.PartitionChange r) i j least most translated raised =
    with_topics i j _ _ (changed_raised (partition_changed epoch r) (partition_changed MAX_EPOCH r) (topic_with r.topic_id i) (topic_with r.topic_id j) i.topics j.topics
    (λ t u both. changed_at epoch r (partition_at r.partition_id t.partitions) (partition_at r.partition_id u.partitions) t u least most (found_at r.partition_id t u both) both) (found_with r.topic_id i j raised) raised.each) raised
effect_raised epoch (meta.RemoveTopic id) i j least most translated raised =
    with_topics i j _ _ (filter_related TopicRaised (λ (t : TopicEntry). not (same_id t.id id)) (λ (t : TopicEntry). not (same_id t.id id)) (λ t u both. ap (λ (k : Id). not (same_id k id)) both.ids) i.topics j.topics raised.each) raised
effect_raised epoch (meta.UserScramCredential r) i j least most translated raised = with_credentials i j _ _ (ap (scram_set r) raised.credentials) raised
effect_raised epoch (meta.ClientQuota r) i j least most translated raised = with_entities i j _ _ (ap (quota_changed r (quota_key r.entity)) raised.entities) raised
effect_raised epoch (meta.ProducerIds r) i j least most translated raised = record { each = raised.each; configs = raised.configs; entities = raised.entities; credentials = raised.credentials; entries = raised.entries; next = refl }
effect_raised epoch (meta.AccessControlEntry r) i j least most translated raised = with_entries i j _ _ (ap (put bytes_cmp id_of_acl (record { id = r.id; row = acl_row r })) raised.entries) raised
effect_raised epoch (meta.RemoveAccessControlEntry id) i j least most translated raised = with_entries i j _ _ (ap (without bytes_cmp id_of_acl id.bytes) raised.entries) raised
effect_raised epoch meta.NoOp i j least most translated raised = raised
effect_raised epoch (meta.ZkMigrationState s) i j least most translated raised = absurd translated
effect_raised epoch (meta.RemoveUserScramCredential name mechanism) i j least most translated raised = with_credentials i j _ _ (ap (scram_removed name mechanism) raised.credentials) raised
effect_raised epoch (meta.BeginTransaction name) i j least most translated raised = absurd translated
effect_raised epoch meta.EndTransaction i j least most translated raised = absurd translated
effect_raised epoch (meta.AbortTransaction reason) i j least most translated raised = absurd translated

unless_raised : (b : Option ImageRule) (one i other j : Image) → ImageRaised one other → ImageRaised i j → ImageRaised (unless_broken b one i) (unless_broken b other j)
unless_raised None one i other j made raised = made
unless_raised (Some rule) one i other j made raised = raised

pub one_raised : (epoch : ℤ) (r : MetaRecord) (i j : Image) → pos 0 ≤ℤ epoch → epoch ≤ℤ MAX_EPOCH → IsTranslated r → ImageRaised i j → ImageRaised (image_with epoch r i) (image_with MAX_EPOCH r j)
one_raised epoch r i j least most translated raised =
    subst (λ (b : Option ImageRule). ImageRaised (unless_broken (broken_rule i r) (effect epoch r i) i) (unless_broken b (effect MAX_EPOCH r j) j)) (same_rule i j r raised)
    (unless_raised (broken_rule i r) (effect epoch r i) i (effect MAX_EPOCH r j) j (effect_raised epoch r i j least most translated raised) raised)

pub all_raised : (es : List Entry) (i j : Image) → All (λ (e : Entry). IsTranslated e.item) es → All HasEpoch es → ImageRaised i j → ImageRaised (all_entries_applied es i) (all_applied MAX_EPOCH (map item_of es) j)
all_raised [] i j translated epochs raised = raised
all_raised (e ∷ es) i j translated epochs raised =
    let own : HasEpoch e = All-head HasEpoch e es epochs in
    all_raised es (image_with e.epoch e.item i) (image_with MAX_EPOCH e.item j) (All-tail (λ (x : Entry). IsTranslated x.item) e es translated) (All-tail HasEpoch e es epochs)
    (one_raised e.epoch e.item i j own.least own.most (All-head (λ (x : Entry). IsTranslated x.item) e es translated) raised)
