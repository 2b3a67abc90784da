-- The records of a topic, of its partitions and of its configuration are accepted, and what they make of the metadata.
use Rattle.std.proofs.Common.{◌≡◌, ℕ, ℤ, pos, Bool, true, false, cond, List, [], ◌∷◌, ◌++◌, map, Option, Some, None, Ordering, Less, Equal, Greater, All, refl, sym, ap, ◌∙◌, subst, is_some, is_none}
use Rattle.std.specs.Prelude.{int_lt, option_map, option_and_then}
use Rattle.std.specs.Ordering.{int_cmp, match_ordering}
use Rattle.std.specs.List.{find as find_by}
use Rattle.std.proofs.lemmas.Slice.Eq.{bytes_eq-Decides}
use Rattle.kz_types.specs.declared.id.Id.{Id}
use Rattle.kz_types.specs.declared.bodies.Pair.{Pair}
use Rattle.kz_types.specs.declared.image.TopicEntry.{TopicEntry}
use Rattle.kz_types.specs.declared.image.PartitionEntry.{PartitionEntry}
use Rattle.kz_types.specs.declared.record.MetaRecord.TheVariants as meta
use Rattle.kz_types.specs.declared.record.PartitionRecord.{PartitionRecord}
use Rattle.kz_types.specs.Paths.{is_topic_name}
use Rattle.kz_types.specs.Order.{bytes_cmp}
use Rattle.kz_types.specs.Ordered.{put, Rises, AllBelow}
use Rattle.kz_types.proofs.Order.{bytes_order, int_order}
use Rattle.kz_types.proofs.Lookup.{find-put_same}
use Rattle.kz_types.proofs.Append.{put_last, find_all_below}
use Rattle.kz_types.proofs.Maps.{find-map, map-put}
use Rattle.kz_spec_data.specs.Metadata.{Image, name_of_topic, number_of_partition, name_of_pair, same_id, topic_named, topic_with, partition_at}
use Rattle.kz_spec_data.specs.Image.{put_topic, with_changed, put_partition, topic_configured, effect}
use Rattle.kz_spec_data.specs.ImageRules.{is_empty, is_zero, is_row, new_row}
use Rattle.kz_spec_data.specs.Translation.{config_record}
use Rattle.kz_laws_znodes.proofs.Accepting.{Leads, leads_one, leads_to, leads_append, leads_each}
use Rattle.kz_laws_znodes.proofs.ZnodeGroups.{put_over, put_found}

-- ---- a topic by its id

abbrev has_id : Id → TopicEntry → Bool
has_id id t = same_id t.id id

none_after : {A : Type 0} (b : Bool) (x : A) (rest : Option A) → cond b (Some x) rest ≡ None → (b ≡ false) × (rest ≡ None)
none_after true x rest e = absurd (cc)
none_after false x rest e = (refl, e)

-- a topic that is put among those that don't have its id is found by it
found_by_id : (t : TopicEntry) (id : Id) (topics : List TopicEntry) → same_id t.id id ≡ true → find_by (has_id id) topics ≡ None → find_by (has_id id) (put_topic t topics) ≡ Some t
found_by_id t id [] is absent = ap (λ b. cond b (Some t) None) is
found_by_id t id (u ∷ us) is absent =
    let none = none_after (has_id id u) u (find_by (has_id id) us) absent in
    by (bytes_cmp t.name u.name) none.0 (found_by_id t id us is none.1)
  where
    by : (r : Ordering) → has_id id u ≡ false → find_by (has_id id) (put_topic t us) ≡ Some t → find_by (has_id id) (match_ordering r (t ∷ u ∷ us) (t ∷ us) (u ∷ put_topic t us)) ≡ Some t
    by Less other rest = ap (λ b. cond b (Some t) (find_by (has_id id) (u ∷ us))) is
    by Equal other rest = ap (λ b. cond b (Some t) (find_by (has_id id) us)) is
    by Greater other rest = ap (λ b. cond b (Some u) (find_by (has_id id) (put_topic t us))) other ∙ rest

same_itself : (id : Id) → same_id id id ≡ true
same_itself id = (bytes_eq-Decides id.bytes id.bytes).1 refl

-- ---- a topic and its partitions

-- the partition that a record makes
abbrev pub entry_of : ℤ → PartitionRecord → PartitionEntry
entry_of epoch p = record { number = p.partition_id; row = new_row epoch p }

abbrev pub number_of_record : PartitionRecord → ℤ
number_of_record p = p.partition_id

-- the topic with the partitions that these records make
abbrev pub topic_of : ℤ → List ℕ → Id → List PartitionRecord → TopicEntry
topic_of epoch name id ps = record { name = name; id = id; partitions = map (entry_of epoch) ps; pairs = [] }

abbrev pub with_topic : Image → TopicEntry → Image
with_topic i t = record i { topics = put_topic t i.topics }

-- A partition of this topic, with values that it may have.
pub record IsMade (id : Id) (p : PartitionRecord) : Type 0 where
  pub topic : p.topic_id ≡ id
  pub number : int_lt p.partition_id (pos 0) ≡ false
  pub row : is_row (new_row (pos 0) p) ≡ true

-- No topic has this name or this id, and a topic may have them.
pub record IsFresh (i : Image) (name : List ℕ) (id : Id) : Type 0 where
  pub named : is_topic_name name ≡ true
  pub identified : is_zero id ≡ false
  pub no_name : topic_named name i ≡ None
  pub no_id : topic_with id i ≡ None

module _ (epoch : ℤ) (i : Image) (name : List ℕ) (id : Id) (f : IsFresh i name id) where
  abbrev state : List PartitionRecord → Image
  state done = with_topic i (topic_of epoch name id done)

  topic_is_there : (done : List PartitionRecord) → topic_with id (state done) ≡ Some (topic_of epoch name id done)
  topic_is_there done = found_by_id (topic_of epoch name id done) id i.topics (same_itself id) f.no_id

  topic_made : Leads epoch (meta.Topic (record { name = name; topic_id = id }) ∷ []) i (state [])
  topic_made = leads_one epoch i (meta.Topic (record { name = name; topic_id = id })) (record {
    plain = refl;
    named = rw (f.named, f.identified) refl;
    there = refl;
    new = rw (f.no_name, f.no_id) refl;
    valued = refl;
  })

  numbers_below : (done : List PartitionRecord) (p : PartitionRecord) → AllBelow int_cmp number_of_record done p.partition_id → partition_at p.partition_id (map (entry_of epoch) done) ≡ None
  numbers_below done p under = ap (option_map (λ (x : PartitionEntry). x.row)) (find-map int_cmp number_of_record number_of_partition (entry_of epoch) (λ q. refl) p.partition_id done ∙ ap (option_map (entry_of epoch)) (find_all_below int_order number_of_record p.partition_id done under))

  put_after : (done : List PartitionRecord) (p : PartitionRecord) → AllBelow int_cmp number_of_record done p.partition_id
      → put int_cmp number_of_partition (entry_of epoch p) (map (entry_of epoch) done) ≡ map (entry_of epoch) (done ++ p ∷ [])
  put_after done p under = sym (map-put int_cmp number_of_record number_of_partition (entry_of epoch) (λ q. refl) p done) ∙ ap (map (entry_of epoch)) (put_last int_order number_of_record p done under)

  partition_made : (done : List PartitionRecord) (p : PartitionRecord) → AllBelow int_cmp number_of_record done p.partition_id → IsMade id p → Leads epoch (meta.Partition p ∷ []) (state done) (state (done ++ p ∷ []))
  partition_made done p under h =
      let there : topic_with p.topic_id (state done) ≡ Some (topic_of epoch name id done) = ap (λ x. topic_with x (state done)) h.topic ∙ topic_is_there done in
      leads_to epoch (meta.Partition p ∷ []) (state done) (effect epoch (meta.Partition p) (state done)) (state (done ++ p ∷ []))
      (ap (λ o. record (state done) { topics = with_changed (put_partition p.partition_id (new_row epoch p)) o (state done).topics }) there
      ∙ ap (λ topics. record i { topics = topics }) (put_over bytes_order name_of_topic (put_partition p.partition_id (new_row epoch p) (topic_of epoch name id done)) (topic_of epoch name id done) i.topics refl)
      ∙ ap (λ partitions. with_topic i (record { name = name; id = id; partitions = partitions; pairs = [] })) (put_after done p under))
      (leads_one epoch (state done) (meta.Partition p) (record {
        plain = refl;
        named = ap is_zero h.topic ∙ f.identified;
        there = ap is_none there;
        new = ap (λ o. is_some (option_and_then (λ (t : TopicEntry). partition_at p.partition_id t.partitions) o)) there ∙ ap is_some (numbers_below done p under);
        valued = rw (h.number, h.row) refl;
      }))

  -- a topic comes with its partitions
  pub topic_leads : (ps : List PartitionRecord) → Rises int_cmp number_of_record ps → All (IsMade id) ps
      → Leads epoch (meta.Topic (record { name = name; topic_id = id }) ∷ map (λ p. meta.Partition p) ps) i (with_topic i (topic_of epoch name id ps))
  topic_leads ps rise good = leads_append epoch (meta.Topic (record { name = name; topic_id = id }) ∷ []) (map (λ p. meta.Partition p) ps) i (state []) (state ps) topic_made
      (leads_each int_order number_of_record epoch (λ p. meta.Partition p) state (IsMade id) partition_made [] ps rise good)

-- ---- a topic's configuration

-- a member with a name
abbrev pub IsNamed : Pair → Type 0
IsNamed p = is_empty p.name ≡ false

-- the topic with these members
abbrev pub with_members : TopicEntry → List Pair → TopicEntry
with_members t pairs = record t { pairs = pairs }

module _ (epoch : ℤ) (i : Image) (name : List ℕ) (t : TopicEntry) (legal : is_topic_name name ≡ true) (is : t.name ≡ name) where
  abbrev config_state : List Pair → Image
  config_state done = with_topic i (with_members t done)

  member_set : (done : List Pair) (p : Pair) → AllBelow bytes_cmp name_of_pair done p.name → IsNamed p → Leads epoch (config_record (pos 2) name p ∷ []) (config_state done) (config_state (done ++ p ∷ []))
  member_set done p under h =
      let there : topic_named name (config_state done) ≡ Some (with_members t done) = ap (λ n. topic_named n (config_state done)) (sym is) ∙ find-put_same bytes_order name_of_topic (with_members t done) i.topics in
      leads_to epoch (config_record (pos 2) name p ∷ []) (config_state done) (effect epoch (config_record (pos 2) name p) (config_state done)) (config_state (done ++ p ∷ []))
      (ap (λ o. record (config_state done) { topics = with_changed (topic_configured (record { resource_type = pos 2; resource_name = name; name = p.name; value = Some p.value })) o (config_state done).topics }) there
      ∙ ap (λ topics. record i { topics = topics }) (put_over bytes_order name_of_topic (with_members t (put bytes_cmp name_of_pair p done)) (with_members t done) i.topics refl)
      ∙ ap (λ pairs. with_topic i (with_members t pairs)) (put_last bytes_order name_of_pair p done under))
      (leads_one epoch (config_state done) (config_record (pos 2) name p) (record {
        plain = refl;
        named = rw (h, legal) refl;
        there = ap is_none there;
        new = refl;
        valued = refl;
      }))

  pub config_leads : (pairs : List Pair) → Rises bytes_cmp name_of_topic i.topics → topic_named name i ≡ Some t → t.pairs ≡ [] → Rises bytes_cmp name_of_pair pairs → All IsNamed pairs
      → Leads epoch (map (config_record (pos 2) name) pairs) i (with_topic i (with_members t pairs))
  config_leads pairs rises found empty rise good =
      let same : with_members t [] ≡ t = ap (with_members t) (sym empty) in
      let begin : config_state [] ≡ i = ap (λ u. with_topic i u) same ∙ ap (λ topics. record i { topics = topics }) (put_found bytes_order name_of_topic t i.topics rises (ap (λ n. topic_named n i) is ∙ found)) in
      subst (λ j. Leads epoch (map (config_record (pos 2) name) pairs) j (config_state pairs)) begin
      (leads_each bytes_order name_of_pair epoch (config_record (pos 2) name) config_state IsNamed member_set [] pairs rise good)
