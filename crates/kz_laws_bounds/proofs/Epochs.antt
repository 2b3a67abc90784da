-- What records make of metadata at the epochs at which they stand, and what they make of it at a greater one: no more znodes, and
-- no more bytes.
use Rattle.std.proofs.Common.{◌≡◌, ℕ, ℤ, pos, ◌≤ℤ◌, Bool, not, ◌&&◌, ◌||◌, List, [], ◌∷◌, Option, Some, None, is_some, option_map, refl, sym, ap, ◌∙◌, true, false, if◌then◌else◌, map, All, subst, ◌+◌, ◌^◌, ◌<◌, ◌≤◌, negsuc, ◌++◌, length, arith, length-append}
use Rattle.std.specs.Prelude.{is_none, option_and_then, codes}
use Rattle.std.specs.Ordering.{int_eq, int_cmp}
use Rattle.kz_types.specs.declared.limits.TheConstants.{MAX_EPOCH}
use Rattle.kz_types.specs.declared.id.Id.{Id}
use Rattle.kz_types.specs.declared.row.PartitionRow.{PartitionRow}
use Rattle.kz_types.specs.declared.image.TopicEntry.{TopicEntry}
use Rattle.kz_types.specs.declared.image.PartitionEntry.{PartitionEntry}
use Rattle.kz_types.specs.declared.image.ScramEntry.{ScramEntry}
use Rattle.kz_types.specs.declared.image.AclEntry.{AclEntry}
use Rattle.kz_types.specs.declared.image_fault.ImageRule.TheVariants.{Exists, Absent, BadName, BadValue}
use Rattle.kz_types.specs.declared.record.MetaRecord.{MetaRecord}
use Rattle.kz_types.specs.declared.record.MetaRecord.TheVariants as meta
use Rattle.kz_types.specs.declared.record.PartitionChangeRecord.{PartitionChangeRecord}
use Rattle.kz_types.specs.Order.{bytes_cmp}
use Rattle.kz_types.specs.Ordered.{find, put, without}
use Rattle.kz_spec_data.specs.Metadata.{Image, name_of_topic, number_of_partition, same_id, topic_named, topic_with, partition_at, partition_of, scram_of, acl_of, id_of_acl}
use Rattle.kz_spec_data.specs.ImageRules.{is_misnamed, lacks, repeats, is_row, changed_row, leaves_row, is_misvalued, first_broken, broken_rule, quota_key, new_row}
use Rattle.kz_laws_machine.proofs.Related.{AllRelated, MaybeRelated, none_alike, some_alike, find_related, find_key_related, filter_related, put_related, append_related, flat_related, all_put_related, all_itself}
use Rattle.std.proofs.lemmas.List.Elements.{All-head, All-tail}
use Rattle.kz_types.specs.declared.bodies.Pair.{Pair}
use Rattle.kz_types.specs.declared.image.Configuration.{Configuration}
use Rattle.kz_types.specs.declared.image.QuotaEntry.{QuotaEntry}
use Rattle.kz_types.specs.declared.image_fault.ImageRule.{ImageRule}
use Rattle.kz_types.specs.declared.log.Entry.{Entry}
use Rattle.kz_types.specs.declared.record.ConfigRecord.{ConfigRecord}
use Rattle.kz_spec_data.specs.Image.{new_topic, with_changed, put_partition, change_partition, partition_changed, with_member, configurations_after, topic_configured, quota_changed, scram_set, scram_removed, acl_row, effect, unless_broken, image_with, all_applied, Image}
use Rattle.kz_spec_data.specs.Log.{all_entries_applied}
use Rattle.kz_spec_machine.specs.Sound.{IsTranslated}
use Rattle.kz_laws_machine.specs.Limits.{item_of}
use Rattle.kz_laws_machine.proofs.Sizes.{IsShorter}
use Rattle.std.specs.Fmt.{decimal}
use Rattle.std.specs.List.{flat_map}
use Rattle.std.proofs.lemmas.Int.{ints}
use Rattle.std.proofs.lemmas.Fmt.{length-decimal-le, decimal_nonempty, decimal_is_IsNumeral}
use Rattle.std.proofs.lemmas.Int.Digits.{digits_value-lt}
use Rattle.serde_json.specs.Find.{of_integer}
use Rattle.serde_json.specs.Written.{number_text, members_text}
use Rattle.json.specs.Print.{quoted}
use Rattle.serde_json.specs.Data.{Members, no_members, member}
use Rattle.kz_types.specs.declared.tree.Rendered.{Rendered}
use Rattle.kz_types.specs.declared.bodies.AssignmentRow.{AssignmentRow}
use Rattle.kz_types.specs.declared.bodies.Body.TheVariants as body
use Rattle.kz_types.specs.declared.key.EntityKey.TheVariants as key
use Rattle.kz_types.specs.Paths.{roots, path_of}
use Rattle.kz_spec_data.specs.Bodies.{whole_data, brokers_data, text_of_body}
use Rattle.kz_spec_data.specs.Tree.{path_of_rendered}
use Rattle.kz_spec_data.specs.Rendering.{bare, znode, assignment_of, topic_znode, partitions_path, number_path, state_body, partition_znodes, topic_config_znodes, topic_znodes, config_znode, quota_znodes, acl_znode, producer_znodes, entity_znodes, render}

-- ---- digits

-- a number that isn't above another has no more digits
digits_by : (n m : ℕ) → n ≤ m → m < 2 ^ 64 → length (decimal n) ≤ length (decimal m)
digits_by n m low high =
    let numeral = decimal_is_IsNumeral m high in
    let within : m < 10 ^ length (decimal m) = subst (λ (v : ℕ). v < 10 ^ length (decimal m)) numeral.1 (digits_value-lt 10 (decimal m) numeral.0.1) in
    length-decimal-le (length (decimal m)) n (decimal_nonempty m high) (omega (arith, low, within)) (omega (arith, low, high))

epoch_digits : (e E : ℤ) → pos 0 ≤ℤ e → e ≤ℤ E → E ≤ℤ MAX_EPOCH → length (number_text (of_integer e)) ≤ length (number_text (of_integer E))
epoch_digits (negsuc n) E least most high = absurd (omega (arith, ints, least))
epoch_digits (pos n) (negsuc m) least most high = absurd (omega (arith, ints, most))
epoch_digits (pos n) (pos m) least most high = digits_by n m (omega (arith, ints, most)) (omega (arith, ints, high))

module _ (E : ℤ) (high : E ≤ℤ MAX_EPOCH) where
  pub record RowRaised (p q : PartitionRow) : Type 0 where
    pub same : q ≡ record p { controller_epoch = E }
    pub least : pos 0 ≤ℤ p.controller_epoch
    pub most : p.controller_epoch ≤ℤ E

  pub record PartitionRaised (p q : PartitionEntry) : Type 0 where
    pub numbers : p.number ≡ q.number
    pub rows : RowRaised p.row q.row

  pub record TopicRaised (t u : TopicEntry) : Type 0 where
    pub names : t.name ≡ u.name
    pub ids : t.id ≡ u.id
    pub each : AllRelated PartitionRaised t.partitions u.partitions
    pub members : t.pairs ≡ u.pairs

  -- metadata, and the same at the greater epoch, whatever brokers and state they have
  pub record ImageRaised (i j : Image) : Type 0 where
    pub each : AllRelated TopicRaised i.topics j.topics
    pub configs : i.broker_configs ≡ j.broker_configs
    pub entities : i.quotas ≡ j.quotas
    pub credentials : i.users ≡ j.users
    pub entries : i.acls ≡ j.acls
    pub next : i.next_producer ≡ j.next_producer

  -- ---- what is found

  pub found_named : (name : List ℕ) (i j : Image) → ImageRaised i j → MaybeRelated TopicRaised (topic_named name i) (topic_named name j)
  found_named name i j raised = find_key_related TopicRaised bytes_cmp name_of_topic name_of_topic (λ t u r. r.names) name i.topics j.topics raised.each

  pub found_with : (id : Id) (i j : Image) → ImageRaised i j → MaybeRelated TopicRaised (topic_with id i) (topic_with id j)
  found_with id i j raised = find_related TopicRaised (λ (t : TopicEntry). same_id t.id id) (λ (t : TopicEntry). same_id t.id id) (λ t u r. ap (λ (k : Id). same_id k id) r.ids) i.topics j.topics raised.each

  row_of_found : (m n : Option PartitionEntry) → MaybeRelated PartitionRaised m n → MaybeRelated RowRaised (option_map (λ (p : PartitionEntry). p.row) m) (option_map (λ (p : PartitionEntry). p.row) n)
  row_of_found None None both = tt
  row_of_found None (Some q) both = absurd both
  row_of_found (Some p) None both = absurd both
  row_of_found (Some p) (Some q) both = both.rows

  pub found_at : (number : ℤ) (t u : TopicEntry) → TopicRaised t u → MaybeRelated RowRaised (partition_at number t.partitions) (partition_at number u.partitions)
  found_at number t u raised =
      row_of_found (find int_cmp number_of_partition number t.partitions) (find int_cmp number_of_partition number u.partitions)
      (find_key_related PartitionRaised int_cmp number_of_partition number_of_partition (λ p q r. r.numbers) number t.partitions u.partitions raised.each)

  found_in : (number : ℤ) (m n : Option TopicEntry) → MaybeRelated TopicRaised m n
      → MaybeRelated RowRaised (option_and_then (λ (t : TopicEntry). partition_at number t.partitions) m) (option_and_then (λ (t : TopicEntry). partition_at number t.partitions) n)
  found_in number None None both = tt
  found_in number None (Some u) both = absurd both
  found_in number (Some t) None both = absurd both
  found_in number (Some t) (Some u) both = found_at number t u both

  pub found_of : (id : Id) (number : ℤ) (i j : Image) → ImageRaised i j → MaybeRelated RowRaised (partition_of id number i) (partition_of id number j)
  found_of id number i j raised = found_in number (topic_with id i) (topic_with id j) (found_with id i j raised)

  -- ---- the same rules are broken

  same_lacks : (i j : Image) (r : MetaRecord) → ImageRaised i j → lacks i r ≡ lacks j r
  same_lacks i j (meta.Partition r) raised = none_alike TopicRaised (topic_with r.topic_id i) (topic_with r.topic_id j) (found_with r.topic_id i j raised)
  same_lacks i j (meta.PartitionChange r) raised = none_alike RowRaised (partition_of r.topic_id r.partition_id i) (partition_of r.topic_id r.partition_id j) (found_of r.topic_id r.partition_id i j raised)
  same_lacks i j (meta.RemoveTopic id) raised = none_alike TopicRaised (topic_with id i) (topic_with id j) (found_with id i j raised)
  same_lacks i j (meta.Config r) raised = ap (λ (b : Bool). int_eq r.resource_type (pos 2) && b) (none_alike TopicRaised (topic_named r.resource_name i) (topic_named r.resource_name j) (found_named r.resource_name i j raised))
  same_lacks i j (meta.RemoveUserScramCredential name mechanism) raised = ap (λ (users : List ScramEntry). is_none (scram_of name mechanism (record i { users = users }))) raised.credentials
  same_lacks i j (meta.RemoveAccessControlEntry id) raised = ap (λ (acls : List AclEntry). is_none (acl_of id (record i { acls = acls }))) raised.entries
  same_lacks i j r raised = refl

  same_repeats : (i j : Image) (r : MetaRecord) → ImageRaised i j → repeats i r ≡ repeats j r
  same_repeats i j (meta.Topic r) raised =
      ap (λ (b : Bool). b || is_some (topic_with r.topic_id i)) (some_alike TopicRaised (topic_named r.name i) (topic_named r.name j) (found_named r.name i j raised))
      ∙ ap (λ (b : Bool). is_some (topic_named r.name j) || b) (some_alike TopicRaised (topic_with r.topic_id i) (topic_with r.topic_id j) (found_with r.topic_id i j raised))
  same_repeats i j (meta.Partition r) raised = some_alike RowRaised (partition_of r.topic_id r.partition_id i) (partition_of r.topic_id r.partition_id j) (found_of r.topic_id r.partition_id i j raised)
  same_repeats i j (meta.AccessControlEntry r) raised = ap (λ (acls : List AclEntry). is_some (acl_of r.id (record i { acls = acls }))) raised.entries
  same_repeats i j r raised = refl

  same_left : (r : PartitionChangeRecord) (m n : Option PartitionRow) → MaybeRelated RowRaised m n → leaves_row r m ≡ leaves_row r n
  same_left r None None both = refl
  same_left r None (Some q) both = absurd both
  same_left r (Some p) None both = absurd both
  same_left r (Some p) (Some q) both = sym (ap (λ (row : PartitionRow). is_row (changed_row (pos 0) r row)) both.same)

  same_values : (i j : Image) (r : MetaRecord) → ImageRaised i j → is_misvalued i r ≡ is_misvalued j r
  same_values i j (meta.PartitionChange r) raised = ap not (same_left r (partition_of r.topic_id r.partition_id i) (partition_of r.topic_id r.partition_id j) (found_of r.topic_id r.partition_id i j raised))
  same_values i j (meta.ProducerIds r) raised = ap (λ (next : Option ℤ). is_misvalued (record i { next_producer = next }) (meta.ProducerIds r)) raised.next
  same_values i j r raised = refl

  pub same_rule : (i j : Image) (r : MetaRecord) → ImageRaised i j → broken_rule i r ≡ broken_rule j r
  unfolding broken_rule
  same_rule i j r raised =
      ap (λ (b : Bool). first_broken ((is_misnamed r, BadName) ∷ (b, Absent) ∷ (repeats i r, Exists) ∷ (is_misvalued i r, BadValue) ∷ [])) (same_lacks i j r raised)
      ∙ ap (λ (b : Bool). first_broken ((is_misnamed r, BadName) ∷ (lacks j r, Absent) ∷ (b, Exists) ∷ (is_misvalued i r, BadValue) ∷ [])) (same_repeats i j r raised)
      ∙ ap (λ (b : Bool). first_broken ((is_misnamed r, BadName) ∷ (lacks j r, Absent) ∷ (repeats j r, Exists) ∷ (b, BadValue) ∷ [])) (same_values i j r raised)

  with_topics : (i j : Image) (topics others : List TopicEntry) → AllRelated TopicRaised topics others → ImageRaised i j → ImageRaised (record i { topics = topics }) (record j { topics = others })
  with_topics i j topics others each raised = record { each = each; configs = raised.configs; entities = raised.entities; credentials = raised.credentials; entries = raised.entries; next = raised.next }

  changed_raised : (f g : TopicEntry → TopicEntry) (m n : Option TopicEntry) (topics others : List TopicEntry) → ((t u : TopicEntry) → TopicRaised t u → TopicRaised (f t) (g u)) → MaybeRelated TopicRaised m n → AllRelated TopicRaised topics others
      → AllRelated TopicRaised (with_changed f m topics) (with_changed g n others)
  changed_raised f g None None topics others one found all = all
  changed_raised f g None (Some u) topics others one found all = absurd found
  changed_raised f g (Some t) None topics others one found all = absurd found
  changed_raised f g (Some t) (Some u) topics others one found all = put_related TopicRaised bytes_cmp name_of_topic name_of_topic (λ x y r. r.names) (f t) (g u) topics others (one t u found) all

  -- a partition of a topic
  placed : (number : ℤ) (row other : PartitionRow) (t u : TopicEntry) → RowRaised row other → TopicRaised t u → TopicRaised (put_partition number row t) (put_partition number other u)
  placed number row other t u rows raised = record {
    names = raised.names;
    ids = raised.ids;
    each = put_related PartitionRaised int_cmp number_of_partition number_of_partition (λ p q r. r.numbers) (record { number = number; row = row }) (record { number = number; row = other }) t.partitions u.partitions (record { numbers = refl; rows = rows }) raised.each;
    members = raised.members;
  }

  changed_at : (epoch : ℤ) (r : PartitionChangeRecord) (m n : Option PartitionRow) (t u : TopicEntry) → pos 0 ≤ℤ epoch → epoch ≤ℤ E → MaybeRelated RowRaised m n → TopicRaised t u
      → TopicRaised (change_partition r.partition_id (changed_row epoch r) m t) (change_partition r.partition_id (changed_row E r) n u)
  changed_at epoch r None None t u least most found raised = raised
  changed_at epoch r None (Some q) t u least most found raised = absurd found
  changed_at epoch r (Some p) None t u least most found raised = absurd found
  changed_at epoch r (Some p) (Some q) t u least most found raised =
      placed r.partition_id (changed_row epoch r p) (changed_row E r q) t u (record { same = ap (changed_row E r) found.same; least = least; most = most }) raised

  members_changed : (r : ConfigRecord) (t u : TopicEntry) → TopicRaised t u → TopicRaised (topic_configured r t) (topic_configured r u)
  members_changed r t u raised = record { names = raised.names; ids = raised.ids; each = raised.each; members = ap (λ (pairs : List Pair). with_member r.name r.value pairs) raised.members }

  -- ---- one record

  config_raised : (b : Bool) (i j : Image) (topics others : List TopicEntry) (configs more : List Configuration) → AllRelated TopicRaised topics others → configs ≡ more → ImageRaised i j
      → ImageRaised (if b then record i { topics = topics } else record i { broker_configs = configs }) (if b then record j { topics = others } else record j { broker_configs = more })
  config_raised true i j topics others configs more each same raised = with_topics i j topics others each raised
  config_raised false i j topics others configs more each same raised = record { each = raised.each; configs = same; entities = raised.entities; credentials = raised.credentials; entries = raised.entries; next = raised.next }

  with_entities : (i j : Image) (one other : List QuotaEntry) → one ≡ other → ImageRaised i j → ImageRaised (record i { quotas = one }) (record j { quotas = other })
  with_entities i j one other same raised = record { each = raised.each; configs = raised.configs; entities = same; credentials = raised.credentials; entries = raised.entries; next = raised.next }

  with_credentials : (i j : Image) (one other : List ScramEntry) → one ≡ other → ImageRaised i j → ImageRaised (record i { users = one }) (record j { users = other })
  with_credentials i j one other same raised = record { each = raised.each; configs = raised.configs; entities = raised.entities; credentials = same; entries = raised.entries; next = raised.next }

  with_entries : (i j : Image) (one other : List AclEntry) → one ≡ other → ImageRaised i j → ImageRaised (record i { acls = one }) (record j { acls = other })
  with_entries i j one other same raised = record { each = raised.each; configs = raised.configs; entities = raised.entities; credentials = raised.credentials; entries = same; next = raised.next }

  effect_raised : (epoch : ℤ) (r : MetaRecord) (i j : Image) → pos 0 ≤ℤ epoch → epoch ≤ℤ E → IsTranslated r → ImageRaised i j → ImageRaised (effect epoch r i) (effect E r j)
  effect_raised epoch (meta.RegisterBroker r) i j least most translated raised = absurd translated
  effect_raised epoch (meta.Topic r) i j least most translated raised =
      with_topics i j _ _ (put_related TopicRaised bytes_cmp name_of_topic name_of_topic (λ x y t. t.names) (new_topic r) (new_topic r) i.topics j.topics (record { names = refl; ids = refl; each = tt; members = refl }) raised.each) raised
  effect_raised epoch (meta.Partition r) i j least most translated raised =
      with_topics i j _ _ (changed_raised (put_partition r.partition_id (new_row epoch r)) (put_partition r.partition_id (new_row E r)) (topic_with r.topic_id i) (topic_with r.topic_id j) i.topics j.topics
      (λ t u both. placed r.partition_id (new_row epoch r) (new_row E r) t u (record { same = refl; least = least; most = most }) both) (found_with r.topic_id i j raised) raised.each) raised
  effect_raised epoch (meta.Config r) i j least most translated raised =
      config_raised (int_eq r.resource_type (pos 2)) i j _ _ _ _
      (changed_raised (topic_configured r) (topic_configured r) (topic_named r.resource_name i) (topic_named r.resource_name j) i.topics j.topics (members_changed r) (found_named r.resource_name i j raised) raised.each)
      (ap (configurations_after r) raised.configs) raised
  effect_raised epoch (meta.PartitionChange r) i j least most translated raised =
      with_topics i j _ _ (changed_raised (partition_changed epoch r) (partition_changed E r) (topic_with r.topic_id i) (topic_with r.topic_id j) i.topics j.topics
      (λ t u both. changed_at epoch r (partition_at r.partition_id t.partitions) (partition_at r.partition_id u.partitions) t u least most (found_at r.partition_id t u both) both) (found_with r.topic_id i j raised) raised.each) raised
  effect_raised epoch (meta.RemoveTopic id) i j least most translated raised =
      with_topics i j _ _ (filter_related TopicRaised (λ (t : TopicEntry). not (same_id t.id id)) (λ (t : TopicEntry). not (same_id t.id id)) (λ t u both. ap (λ (k : Id). not (same_id k id)) both.ids) i.topics j.topics raised.each) raised
  effect_raised epoch (meta.UserScramCredential r) i j least most translated raised = with_credentials i j _ _ (ap (scram_set r) raised.credentials) raised
  effect_raised epoch (meta.ClientQuota r) i j least most translated raised = with_entities i j _ _ (ap (quota_changed r (quota_key r.entity)) raised.entities) raised
  effect_raised epoch (meta.ProducerIds r) i j least most translated raised = record { each = raised.each; configs = raised.configs; entities = raised.entities; credentials = raised.credentials; entries = raised.entries; next = refl }
  effect_raised epoch (meta.AccessControlEntry r) i j least most translated raised = with_entries i j _ _ (ap (put bytes_cmp id_of_acl (record { id = r.id; row = acl_row r })) raised.entries) raised
  effect_raised epoch (meta.RemoveAccessControlEntry id) i j least most translated raised = with_entries i j _ _ (ap (without bytes_cmp id_of_acl id.bytes) raised.entries) raised
  effect_raised epoch meta.NoOp i j least most translated raised = raised
  effect_raised epoch (meta.ZkMigrationState s) i j least most translated raised = absurd translated
  effect_raised epoch (meta.RemoveUserScramCredential name mechanism) i j least most translated raised = with_credentials i j _ _ (ap (scram_removed name mechanism) raised.credentials) raised
  effect_raised epoch (meta.BeginTransaction name) i j least most translated raised = absurd translated
  effect_raised epoch meta.EndTransaction i j least most translated raised = absurd translated
  effect_raised epoch (meta.AbortTransaction reason) i j least most translated raised = absurd translated

  unless_raised : (b : Option ImageRule) (one i other j : Image) → ImageRaised one other → ImageRaised i j → ImageRaised (unless_broken b one i) (unless_broken b other j)
  unless_raised None one i other j made raised = made
  unless_raised (Some rule) one i other j made raised = raised

  pub one_raised : (epoch : ℤ) (r : MetaRecord) (i j : Image) → pos 0 ≤ℤ epoch → epoch ≤ℤ E → IsTranslated r → ImageRaised i j → ImageRaised (image_with epoch r i) (image_with E r j)
  one_raised epoch r i j least most translated raised =
      subst (λ (b : Option ImageRule). ImageRaised (unless_broken (broken_rule i r) (effect epoch r i) i) (unless_broken b (effect E r j) j)) (same_rule i j r raised)
      (unless_raised (broken_rule i r) (effect epoch r i) i (effect E r j) j (effect_raised epoch r i j least most translated raised) raised)

  -- the epoch of a record is from 0 to the greater one
  pub record UpTo (e : Entry) : Type 0 where
    pub least : pos 0 ≤ℤ e.epoch
    pub most : e.epoch ≤ℤ E

  pub all_raised : (es : List Entry) (i j : Image) → All (λ (e : Entry). IsTranslated e.item) es → All UpTo es → ImageRaised i j → ImageRaised (all_entries_applied es i) (all_applied E (map item_of es) j)
  all_raised [] i j translated epochs raised = raised
  all_raised (e ∷ es) i j translated epochs raised =
      let own : UpTo e = All-head UpTo e es epochs in
      all_raised es (image_with e.epoch e.item i) (image_with E e.item j) (All-tail (λ (x : Entry). IsTranslated x.item) e es translated) (All-tail UpTo e es epochs)
      (one_raised e.epoch e.item i j own.least own.most (All-head (λ (x : Entry). IsTranslated x.item) e es translated) raised)

  same_at_most : (n m : ℕ) → n ≡ m → n ≤ m
  same_at_most n m is = omega (arith, is)

  itself : (r : Rendered) → IsShorter r r
  itself r = record { paths = refl; bodies = same_at_most (length r.body) (length r.body) refl }

  -- ---- the state of a partition

  one_more : (n m : ℕ) → n ≤ m → n + 1 ≤ m + 1
  one_more n m low = omega (arith, low)

  after_byte : (b : ℕ) (xs ys : List ℕ) → length xs ≤ length ys → length (b ∷ xs) ≤ length (b ∷ ys)
  after_byte b xs ys low = omega (arith, low)

  after_bytes : (bs xs ys : List ℕ) → length xs ≤ length ys → length (bs ++ xs) ≤ length (bs ++ ys)
  after_bytes [] xs ys low = low
  after_bytes (b ∷ bs) xs ys low = after_byte b (bs ++ xs) (bs ++ ys) (after_bytes bs xs ys low)

  before_bytes : (xs ys bs : List ℕ) → length xs ≤ length ys → length (xs ++ bs) ≤ length (ys ++ bs)
  before_bytes xs ys bs low = sums (length (xs ++ bs)) (length xs) (length (ys ++ bs)) (length ys) (length bs) (length-append xs bs) (length-append ys bs) low
    where
      sums : (a x b y n : ℕ) → a ≡ x + n → b ≡ y + n → x ≤ y → a ≤ b
      sums a x b y n one other low = omega (arith, one, other, low)

  -- what a state's data says after its controller epoch
  abbrev later_members : PartitionRow → Members
  later_members row =
      member (codes "isr") (brokers_data row.isr)
      (member (codes "leader") (whole_data row.leader)
      (member (codes "leader_epoch") (whole_data row.leader_epoch)
      (member (codes "leader_recovery_state") (whole_data row.recovery)
      (member (codes "version") (whole_data (pos 1)) no_members))))

  -- the data of a state whose controller epoch has these digits
  abbrev state_text : List ℕ → List ℕ → List ℕ
  state_text digits later = 123 ∷ (quoted (codes "controller_epoch") ++ (58 ∷ (digits ++ later)))

  state_is : (row : PartitionRow) → text_of_body (state_body row) ≡ state_text (number_text (of_integer row.controller_epoch)) (members_text true (later_members row))
  unfolding text_of_body
  state_is row = refl

  longer_state : (digits more later : List ℕ) → length digits ≤ length more → length (state_text digits later) ≤ length (state_text more later)
  longer_state digits more later low =
      after_byte 123 (quoted (codes "controller_epoch") ++ (58 ∷ (digits ++ later))) (quoted (codes "controller_epoch") ++ (58 ∷ (more ++ later)))
      (after_bytes (quoted (codes "controller_epoch")) (58 ∷ (digits ++ later)) (58 ∷ (more ++ later))
      (after_byte 58 (digits ++ later) (more ++ later) (before_bytes digits more later low)))

  state_longer : (p q : PartitionRow) → RowRaised p q → length (text_of_body (state_body p)) ≤ length (text_of_body (state_body q))
  state_longer p q raised =
      subst (λ (row : PartitionRow). length (text_of_body (state_body p)) ≤ length (text_of_body (state_body row))) (sym raised.same)
      (subst (λ (text : List ℕ). length text ≤ length (text_of_body (state_body (record p { controller_epoch = E })))) (sym (state_is p))
      (subst (λ (text : List ℕ). length (state_text (number_text (of_integer p.controller_epoch)) (members_text true (later_members p))) ≤ length text) (sym (state_is (record p { controller_epoch = E })))
      (longer_state (number_text (of_integer p.controller_epoch)) (number_text (of_integer E)) (members_text true (later_members p)) (epoch_digits p.controller_epoch E raised.least raised.most high))))

  -- ---- topics

  partition_shorter : (name : List ℕ) (p q : PartitionEntry) → PartitionRaised p q → AllRelated IsShorter (partition_znodes name p) (partition_znodes name q)
  partition_shorter name p q raised = (
    record { paths = ap (λ (n : ℤ). number_path name n) raised.numbers; bodies = same_at_most 0 0 refl },
    (record { paths = ap (λ (n : ℤ). path_of (key.Partition name n)) raised.numbers; bodies = state_longer p.row q.row raised.rows }, tt),
  )

  same_assignment : (p q : PartitionEntry) → PartitionRaised p q → assignment_of p ≡ assignment_of q
  same_assignment p q raised =
      ap (λ (n : ℤ). assignment_of (record { number = n; row = p.row })) raised.numbers
      ∙ ap (λ (row : PartitionRow). assignment_of (record { number = q.number; row = row })) (sym raised.rows.same)

  same_assignments : (ps qs : List PartitionEntry) → AllRelated PartitionRaised ps qs → map assignment_of ps ≡ map assignment_of qs
  same_assignments [] [] all = refl
  same_assignments [] (q ∷ qs) all = absurd all
  same_assignments (p ∷ ps) [] all = absurd all
  same_assignments (p ∷ ps) (q ∷ qs) all =
      ap (λ (a : AssignmentRow). a ∷ map assignment_of ps) (same_assignment p q all.0) ∙ ap (λ (rows : List AssignmentRow). assignment_of q ∷ rows) (same_assignments ps qs all.1)

  same_topic : (t u : TopicEntry) → TopicRaised t u → topic_znode t ≡ topic_znode u
  same_topic t u raised =
      ap (λ (name : List ℕ). znode (key.Topic name) (body.Topic t.id (map assignment_of t.partitions))) raised.names
      ∙ ap (λ id. znode (key.Topic u.name) (body.Topic id (map assignment_of t.partitions))) raised.ids
      ∙ ap (λ (rows : List AssignmentRow). znode (key.Topic u.name) (body.Topic u.id rows)) (same_assignments t.partitions u.partitions raised.each)

  by_path : (r s : Rendered) → r ≡ s → IsShorter r s
  by_path r s is = subst (IsShorter r) is (itself r)

  all_by_path : (rs ss : List Rendered) → rs ≡ ss → AllRelated IsShorter rs ss
  all_by_path rs ss is = subst (AllRelated IsShorter rs) is (all_itself IsShorter itself rs)

  topic_shorter : (t u : TopicEntry) → TopicRaised t u → AllRelated IsShorter (topic_znodes t) (topic_znodes u)
  topic_shorter t u raised = (
    by_path (topic_znode t) (topic_znode u) (same_topic t u raised),
    (
      record { paths = ap (λ (name : List ℕ). partitions_path name) raised.names; bodies = same_at_most 0 0 refl },
      append_related IsShorter (flat_map (partition_znodes t.name) t.partitions) (topic_config_znodes t.name t.pairs) (flat_map (partition_znodes u.name) u.partitions) (topic_config_znodes u.name u.pairs)
          (subst (λ (name : List ℕ). AllRelated IsShorter (flat_map (partition_znodes t.name) t.partitions) (flat_map (partition_znodes name) u.partitions)) raised.names
          (flat_related PartitionRaised IsShorter (partition_znodes t.name) (partition_znodes t.name) (partition_shorter t.name) t.partitions u.partitions raised.each))
          (all_by_path (topic_config_znodes t.name t.pairs) (topic_config_znodes u.name u.pairs) (ap (λ (name : List ℕ). topic_config_znodes name t.pairs) raised.names ∙ ap (topic_config_znodes u.name) raised.members)),
    ),
  )

  -- ---- all znodes

  -- the znodes that don't hold an epoch
  abbrev other_znodes : Image → List Rendered
  other_znodes i = map config_znode i.broker_configs ++ (quota_znodes i.quotas i.users ++ (map (acl_znode i.acls) i.acls ++ producer_znodes i.next_producer))

  same_others : (i j : Image) → ImageRaised i j → other_znodes i ≡ other_znodes j
  same_others i j raised =
      ap (λ configs. other_znodes (record i { broker_configs = configs })) raised.configs
      ∙ ap (λ quotas. other_znodes (record i { broker_configs = j.broker_configs; quotas = quotas })) raised.entities
      ∙ ap (λ users. other_znodes (record i { broker_configs = j.broker_configs; quotas = j.quotas; users = users })) raised.credentials
      ∙ ap (λ acls. other_znodes (record i { broker_configs = j.broker_configs; quotas = j.quotas; users = j.users; acls = acls })) raised.entries
      ∙ ap (λ next. other_znodes (record i { broker_configs = j.broker_configs; quotas = j.quotas; users = j.users; acls = j.acls; next_producer = next })) raised.next

  pub rendered_shorter : (i j : Image) → ImageRaised i j → AllRelated IsShorter (render i) (render j)
  unfolding render
  rendered_shorter i j raised =
      all_put_related IsShorter bytes_cmp path_of_rendered path_of_rendered (λ r s both. both.paths) (entity_znodes i) (map bare roots) (entity_znodes j) (map bare roots)
      (append_related IsShorter (flat_map topic_znodes i.topics) (other_znodes i) (flat_map topic_znodes j.topics) (other_znodes j)
      (flat_related TopicRaised IsShorter topic_znodes topic_znodes topic_shorter i.topics j.topics raised.each)
      (all_by_path (other_znodes i) (other_znodes j) (same_others i j raised)))
      (all_itself IsShorter itself (map bare roots))
