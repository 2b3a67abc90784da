-- Metadata at the greatest epoch: what is found in it, and which rules records break.
use Rattle.std.proofs.Common.{◌≡◌, ℕ, ℤ, pos, ◌≤ℤ◌, Bool, not, ◌&&◌, ◌||◌, List, [], ◌∷◌, Option, Some, None, is_some, option_map, refl, sym, ap, ◌∙◌}
use Rattle.std.specs.Prelude.{is_none, option_and_then}
use Rattle.std.specs.Ordering.{int_eq, int_cmp}
use Rattle.kz_types.specs.declared.limits.TheConstants.{MAX_EPOCH}
use Rattle.kz_types.specs.declared.id.Id.{Id}
use Rattle.kz_types.specs.declared.row.PartitionRow.{PartitionRow}
use Rattle.kz_types.specs.declared.image.TopicEntry.{TopicEntry}
use Rattle.kz_types.specs.declared.image.PartitionEntry.{PartitionEntry}
use Rattle.kz_types.specs.declared.image.ScramEntry.{ScramEntry}
use Rattle.kz_types.specs.declared.image.AclEntry.{AclEntry}
use Rattle.kz_types.specs.declared.image_fault.ImageRule.TheVariants.{Exists, Absent, BadName, BadValue}
use Rattle.kz_types.specs.declared.record.MetaRecord.{MetaRecord}
use Rattle.kz_types.specs.declared.record.MetaRecord.TheVariants as meta
use Rattle.kz_types.specs.declared.record.PartitionChangeRecord.{PartitionChangeRecord}
use Rattle.kz_types.specs.Order.{bytes_cmp}
use Rattle.kz_types.specs.Ordered.{find}
use Rattle.kz_spec_data.specs.Metadata.{Image, name_of_topic, number_of_partition, same_id, topic_named, topic_with, partition_at, partition_of, scram_of, acl_of}
use Rattle.kz_spec_data.specs.ImageRules.{is_misnamed, lacks, repeats, is_row, changed_row, leaves_row, is_misvalued, first_broken, broken_rule}
use Rattle.kz_laws_machine.proofs.Related.{AllRelated, MaybeRelated, none_alike, some_alike, find_related, find_key_related}

-- ---- metadata at the greatest epoch

-- a partition, and the same at the greatest epoch
pub record RowRaised (p q : PartitionRow) : Type 0 where
  pub same : q ≡ record p { controller_epoch = MAX_EPOCH }
  pub least : pos 0 ≤ℤ p.controller_epoch
  pub most : p.controller_epoch ≤ℤ MAX_EPOCH

pub record PartitionRaised (p q : PartitionEntry) : Type 0 where
  pub numbers : p.number ≡ q.number
  pub rows : RowRaised p.row q.row

pub record TopicRaised (t u : TopicEntry) : Type 0 where
  pub names : t.name ≡ u.name
  pub ids : t.id ≡ u.id
  pub each : AllRelated PartitionRaised t.partitions u.partitions
  pub members : t.pairs ≡ u.pairs

-- metadata, and the same at the greatest epoch, whatever brokers and state they have
pub record ImageRaised (i j : Image) : Type 0 where
  pub each : AllRelated TopicRaised i.topics j.topics
  pub configs : i.broker_configs ≡ j.broker_configs
  pub entities : i.quotas ≡ j.quotas
  pub credentials : i.users ≡ j.users
  pub entries : i.acls ≡ j.acls
  pub next : i.next_producer ≡ j.next_producer

-- ---- what is found

pub found_named : (name : List ℕ) (i j : Image) → ImageRaised i j → MaybeRelated TopicRaised (topic_named name i) (topic_named name j)
found_named name i j raised = find_key_related TopicRaised bytes_cmp name_of_topic name_of_topic (λ t u r. r.names) name i.topics j.topics raised.each

pub found_with : (id : Id) (i j : Image) → ImageRaised i j → MaybeRelated TopicRaised (topic_with id i) (topic_with id j)
found_with id i j raised = find_related TopicRaised (λ (t : TopicEntry). same_id t.id id) (λ (t : TopicEntry). same_id t.id id) (λ t u r. ap (λ (k : Id). same_id k id) r.ids) i.topics j.topics raised.each

row_of_found : (m n : Option PartitionEntry) → MaybeRelated PartitionRaised m n → MaybeRelated RowRaised (option_map (λ (p : PartitionEntry). p.row) m) (option_map (λ (p : PartitionEntry). p.row) n)
row_of_found None None both = tt
row_of_found None (Some q) both = absurd both
row_of_found (Some p) None both = absurd both
row_of_found (Some p) (Some q) both = both.rows

pub found_at : (number : ℤ) (t u : TopicEntry) → TopicRaised t u → MaybeRelated RowRaised (partition_at number t.partitions) (partition_at number u.partitions)
found_at number t u raised =
    row_of_found (find int_cmp number_of_partition number t.partitions) (find int_cmp number_of_partition number u.partitions)
    (find_key_related PartitionRaised int_cmp number_of_partition number_of_partition (λ p q r. r.numbers) number t.partitions u.partitions raised.each)

found_in : (number : ℤ) (m n : Option TopicEntry) → MaybeRelated TopicRaised m n
    → MaybeRelated RowRaised (option_and_then (λ (t : TopicEntry). partition_at number t.partitions) m) (option_and_then (λ (t : TopicEntry). partition_at number t.partitions) n)
found_in number None None both = tt
found_in number None (Some u) both = absurd both
found_in number (Some t) None both = absurd both
found_in number (Some t) (Some u) both = found_at number t u both

pub found_of : (id : Id) (number : ℤ) (i j : Image) → ImageRaised i j → MaybeRelated RowRaised (partition_of id number i) (partition_of id number j)
found_of id number i j raised = found_in number (topic_with id i) (topic_with id j) (found_with id i j raised)

-- ---- the same rules are broken

same_lacks : (i j : Image) (r : MetaRecord) → ImageRaised i j → lacks i r ≡ lacks j r
same_lacks i j (meta.Partition r) raised = none_alike TopicRaised (topic_with r.topic_id i) (topic_with r.topic_id j) (found_with r.topic_id i j raised)
same_lacks i j (meta.PartitionChange r) raised = none_alike RowRaised (partition_of r.topic_id r.partition_id i) (partition_of r.topic_id r.partition_id j) (found_of r.topic_id r.partition_id i j raised)
same_lacks i j (meta.RemoveTopic id) raised = none_alike TopicRaised (topic_with id i) (topic_with id j) (found_with id i j raised)
same_lacks i j (meta.Config r) raised = ap (λ (b : Bool). int_eq r.resource_type (pos 2) && b) (none_alike TopicRaised (topic_named r.resource_name i) (topic_named r.resource_name j) (found_named r.resource_name i j raised))
same_lacks i j (meta.RemoveUserScramCredential name mechanism) raised = ap (λ (users : List ScramEntry). is_none (scram_of name mechanism (record i { users = users }))) raised.credentials
same_lacks i j (meta.RemoveAccessControlEntry id) raised = ap (λ (acls : List AclEntry). is_none (acl_of id (record i { acls = acls }))) raised.entries
same_lacks i j r raised = refl

same_repeats : (i j : Image) (r : MetaRecord) → ImageRaised i j → repeats i r ≡ repeats j r
same_repeats i j (meta.Topic r) raised =
    ap (λ (b : Bool). b || is_some (topic_with r.topic_id i)) (some_alike TopicRaised (topic_named r.name i) (topic_named r.name j) (found_named r.name i j raised))
    ∙ ap (λ (b : Bool). is_some (topic_named r.name j) || b) (some_alike TopicRaised (topic_with r.topic_id i) (topic_with r.topic_id j) (found_with r.topic_id i j raised))
same_repeats i j (meta.Partition r) raised = some_alike RowRaised (partition_of r.topic_id r.partition_id i) (partition_of r.topic_id r.partition_id j) (found_of r.topic_id r.partition_id i j raised)
same_repeats i j (meta.AccessControlEntry r) raised = ap (λ (acls : List AclEntry). is_some (acl_of r.id (record i { acls = acls }))) raised.entries
same_repeats i j r raised = refl

same_left : (r : PartitionChangeRecord) (m n : Option PartitionRow) → MaybeRelated RowRaised m n → leaves_row r m ≡ leaves_row r n
same_left r None None both = refl
same_left r None (Some q) both = absurd both
same_left r (Some p) None both = absurd both
same_left r (Some p) (Some q) both = sym (ap (λ (row : PartitionRow). is_row (changed_row (pos 0) r row)) both.same)

same_values : (i j : Image) (r : MetaRecord) → ImageRaised i j → is_misvalued i r ≡ is_misvalued j r
same_values i j (meta.PartitionChange r) raised = ap not (same_left r (partition_of r.topic_id r.partition_id i) (partition_of r.topic_id r.partition_id j) (found_of r.topic_id r.partition_id i j raised))
same_values i j (meta.ProducerIds r) raised = ap (λ (next : Option ℤ). is_misvalued (record i { next_producer = next }) (meta.ProducerIds r)) raised.next
same_values i j r raised = refl

pub same_rule : (i j : Image) (r : MetaRecord) → ImageRaised i j → broken_rule i r ≡ broken_rule j r
unfolding broken_rule
same_rule i j r raised =
    ap (λ (b : Bool). first_broken ((is_misnamed r, BadName) ∷ (b, Absent) ∷ (repeats i r, Exists) ∷ (is_misvalued i r, BadValue) ∷ [])) (same_lacks i j r raised)
    ∙ ap (λ (b : Bool). first_broken ((is_misnamed r, BadName) ∷ (lacks j r, Absent) ∷ (b, Exists) ∷ (is_misvalued i r, BadValue) ∷ [])) (same_repeats i j r raised)
    ∙ ap (λ (b : Bool). first_broken ((is_misnamed r, BadName) ∷ (lacks j r, Absent) ∷ (repeats j r, Exists) ∷ (b, BadValue) ∷ [])) (same_values i j r raised)
