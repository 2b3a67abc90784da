-- The records of topics, of their partitions and of their configurations.
use Rattle.std.proofs.Common.{◌≡◌, ◌≢◌, ℕ, suc, ◌<◌, ℤ, pos, Bool, true, false, cond, is_some, is_none, List, [], ◌∷◌, ◌++◌, map, length, get_or, Some, None, refl, sym, ap, ◌∙◌, subst, arith, append_assoc, append-nil}
use Rattle.std.specs.Prelude.{int_le, int_lt, option_map, option_and_then}
use Rattle.std.specs.Ordering.{int_cmp}
use Rattle.std.specs.List.{All, flat_map, find as find_by}
use Rattle.std.proofs.lemmas.Int.{ints}
use Rattle.std.proofs.lemmas.List.Elements.{All-nil}
use Rattle.kz_types.specs.declared.id.Id.{Id}
use Rattle.kz_types.specs.declared.image.TopicEntry.{TopicEntry}
use Rattle.kz_types.specs.declared.image.PartitionEntry.{PartitionEntry}
use Rattle.kz_types.specs.declared.record.PartitionRecord.{PartitionRecord}
use Rattle.kz_types.specs.declared.record.MetaRecord.TheVariants as meta
use Rattle.kz_types.specs.Order.{bytes_cmp}
use Rattle.kz_types.specs.Ordered.{find, Rises, RisesAbove}
use Rattle.kz_types.proofs.Order.{bytes_order, int_order}
use Rattle.kz_types.proofs.Append.{put_last, put_at_split, find_all_below, find_at_split, below_split, Rises_left}
use Rattle.kz_types.proofs.Maps.{find-map, map-put, Rises-map}
use Rattle.kz_spec_data.specs.Metadata.{Image, name_of_topic, number_of_partition, same_id, topic_named, topic_with, partition_at}
use Rattle.kz_spec_data.specs.Image.{put_topic, with_changed, put_partition}
use Rattle.kz_spec_data.specs.ImageRules.{new_row}
use Rattle.kz_spec_data.specs.InOrder.{IsTopicInOrder}
use Rattle.kz_spec_data.specs.Legal.{IsPartition, IsTopic, AreApart}
use Rattle.kz_laws_znodes.proofs.TopicFinds.{other_id, same_id-Decides, find_id-put, new_agree}
use Rattle.kz_laws_znodes.proofs.ZnodeGroups.{put_over}
use Rattle.kz_laws_znodes.proofs.TopicSteps.{with_topic, with_members, IsFresh, topic_leads, config_leads}
use Rattle.kz_spec_data.specs.SnapshotRecords.{in_epoch, partition_of_topic, records_of_topic, members_of_topic}
use Rattle.kz_laws_znodes.proofs.Making.{Make, make_append, make_led, make_one, all_at, make_each}
use Rattle.std.proofs.lemmas.List.Concat.{flat_map_single}

-- a topic as its record and those of its partitions make it
abbrev pub bare_topic : TopicEntry → TopicEntry
bare_topic t = record t { pairs = [] }

-- ---- what isn't there yet

at_middle : (xs : List TopicEntry) (t : TopicEntry) (ys : List TopicEntry) (d : TopicEntry) → get_or (xs ++ t ∷ ys) (length xs) d ≡ t
at_middle [] t ys d = refl
at_middle (x ∷ xs) t ys d = at_middle xs t ys d

within_middle : (xs : List TopicEntry) (t : TopicEntry) (ys : List TopicEntry) → length xs < length (xs ++ t ∷ ys)
within_middle [] t ys = omega (arith)
within_middle (x ∷ xs) t ys = omega (arith, within_middle xs t ys)

new_id : (xs : List TopicEntry) (t : TopicEntry) (ys : List TopicEntry) → AreApart (xs ++ t ∷ ys) → find_by (λ (u : TopicEntry). same_id u.id t.id) (map bare_topic xs) ≡ None
new_id [] t ys apart = refl
new_id (x ∷ xs) t ys apart =
    let differs : x.id ≢ t.id = λ same. apart 0 (suc (length xs)) t (omega (arith)) (omega (arith, within_middle xs t ys)) (same ∙ sym (ap (λ (u : TopicEntry). u.id) (at_middle xs t ys t))) in
    ap (λ (b : Bool). cond b (Some (bare_topic x)) (find_by (λ (u : TopicEntry). same_id u.id t.id) (map bare_topic xs))) (other_id x.id t.id differs)
    ∙ new_id xs t ys (λ i j d below within. apart (suc i) (suc j) d (omega (arith, below)) (omega (arith, within)))

-- ---- one topic

found_first : (t : TopicEntry) (topics : List TopicEntry) → Rises bytes_cmp name_of_topic topics → find bytes_cmp name_of_topic t.name topics ≡ None → find_by (λ (u : TopicEntry). same_id u.id t.id) topics ≡ None
    → find_by (λ (u : TopicEntry). same_id u.id t.id) (put_topic t topics) ≡ Some t
found_first t topics rises unnamed unknown =
    find_id-put t.id t topics (new_agree t.name t.id topics rises unnamed unknown) ∙ ap (λ (b : Bool). cond b (Some t) (find_by (λ (u : TopicEntry). same_id u.id t.id) topics)) ((same_id-Decides t.id t.id).1 refl)

not_negative : (z : ℤ) → int_le (pos 0) z ≡ true → int_lt z (pos 0) ≡ false
not_negative z h = grind (arith, ints)

-- a partition record of a partition
abbrev record_of : Id → PartitionEntry → PartitionRecord
record_of id p = record {
  partition_id = p.number;
  topic_id = id;
  replicas = p.row.replicas;
  isr = p.row.isr;
  removing = p.row.removing;
  adding = p.row.adding;
  leader = p.row.leader;
  recovery = p.row.recovery;
  leader_epoch = p.row.leader_epoch;
  partition_epoch = p.row.partition_epoch;
}

module _ (i : Image) (sorted : Rises bytes_cmp name_of_topic i.topics) (name : List ℕ) (id : Id) (fresh : IsFresh i name id) where
  abbrev with_partitions : List PartitionEntry → TopicEntry
  with_partitions ps = record { name = name; id = id; partitions = ps; pairs = [] }

  partition_one : (ps : List PartitionEntry) → Rises int_cmp number_of_partition ps → All IsPartition ps → (done : List PartitionEntry) (p : PartitionEntry) (rest : List PartitionEntry) → ps ≡ done ++ p ∷ rest
      → Make (partition_of_topic id p ∷ []) (with_topic i (with_partitions done)) (with_topic i (with_partitions (done ++ p ∷ [])))
  partition_one ps rises legal done p rest whole =
      let r = record_of id p in
      let state = with_topic i (with_partitions done) in
      let under = below_split int_order number_of_partition done p rest (subst (Rises int_cmp number_of_partition) whole rises) in
      let own = all_at IsPartition done p rest (subst (All IsPartition) whole legal) in
      let there : topic_with id state ≡ Some (with_partitions done) = found_first (with_partitions done) i.topics sorted fresh.no_name fresh.no_id in
      let none : partition_at p.number done ≡ None = ap (option_map (λ (x : PartitionEntry). x.row)) (find_all_below int_order number_of_partition p.number done under) in
      make_one p.row.controller_epoch (meta.Partition r) state
      fresh.identified
      (ap is_none there)
      (ap (λ o. is_some (option_and_then (λ (t : TopicEntry). partition_at p.number t.partitions) o)) there ∙ ap is_some none)
      (rw (not_negative p.number own.0, own.1) refl)
      ∙ ap (λ o. record state { topics = with_changed (put_partition p.number (new_row p.row.controller_epoch r)) o state.topics }) there
      ∙ ap (λ topics. record i { topics = topics }) (put_over bytes_order name_of_topic (put_partition p.number p.row (with_partitions done)) (with_partitions done) i.topics refl)
      ∙ ap (λ partitions. with_topic i (with_partitions partitions)) (put_last int_order number_of_partition p done under)

  pub topic_made : (epoch : ℤ) (ps : List PartitionEntry) → Rises int_cmp number_of_partition ps → All IsPartition ps
      → Make (in_epoch epoch (meta.Topic (record { name = name; topic_id = id })) ∷ map (partition_of_topic id) ps) i (with_topic i (with_partitions ps))
  topic_made epoch ps rises legal =
      make_append (in_epoch epoch (meta.Topic (record { name = name; topic_id = id })) ∷ []) (map (partition_of_topic id) ps) i (with_topic i (with_partitions [])) (with_topic i (with_partitions ps))
      (make_led epoch (meta.Topic (record { name = name; topic_id = id }) ∷ []) i (with_topic i (with_partitions [])) (topic_leads epoch i name id fresh [] tt (All-nil _)))
      (subst (λ rs. Make rs (with_topic i (with_partitions [])) (with_topic i (with_partitions ps))) (flat_map_single (partition_of_topic id) ps)
      (make_each ps (λ p. partition_of_topic id p ∷ []) (λ done todo. with_topic i (with_partitions done)) (partition_one ps rises legal)))

-- ---- all topics

module _ (i : Image) (topics : List TopicEntry) (rises : Rises bytes_cmp name_of_topic topics) (within : All IsTopicInOrder topics) (legal : All IsTopic topics) (apart : AreApart topics) (none : i.topics ≡ []) (epoch : ℤ) where
  abbrev topics_done : List TopicEntry → List TopicEntry → Image
  topics_done done todo = record i { topics = map bare_topic done }

  topic_one : (done : List TopicEntry) (t : TopicEntry) (rest : List TopicEntry) → topics ≡ done ++ t ∷ rest → Make (records_of_topic epoch t) (topics_done done (t ∷ rest)) (topics_done (done ++ t ∷ []) rest)
  topic_one done t rest whole =
      let under = below_split bytes_order name_of_topic done t rest (subst (Rises bytes_cmp name_of_topic) whole rises) in
      let own = all_at IsTopic done t rest (subst (All IsTopic) whole legal) in
      let order = all_at IsTopicInOrder done t rest (subst (All IsTopicInOrder) whole within) in
      let state = topics_done done (t ∷ rest) in
      let fresh : IsFresh state t.name t.id = record {
        named = own.named;
        identified = own.identified;
        no_name = find-map bytes_cmp name_of_topic name_of_topic bare_topic (λ u. refl) t.name done ∙ ap (option_map bare_topic) (find_all_below bytes_order name_of_topic t.name done under);
        no_id = new_id done t rest (subst AreApart whole apart);
      } in
      topic_made state (Rises-map bytes_cmp name_of_topic name_of_topic bare_topic (λ u. refl) done (Rises_left bytes_order name_of_topic done (t ∷ rest) (subst (Rises bytes_cmp name_of_topic) whole rises))) t.name t.id fresh epoch t.partitions order.0 own.each_partition
      ∙ ap (λ (ts : List TopicEntry). record i { topics = ts })
      (sym (map-put bytes_cmp name_of_topic name_of_topic bare_topic (λ u. refl) t done) ∙ ap (map bare_topic) (put_last bytes_order name_of_topic t done under))

  pub topics_made : Make (flat_map (records_of_topic epoch) topics) i (record i { topics = map bare_topic topics })
  topics_made =
      let begin : record i { topics = [] } ≡ i = ap (λ (ts : List TopicEntry). record i { topics = ts }) (sym none) in
      subst (λ (j : Image). Make (flat_map (records_of_topic epoch) topics) j (record i { topics = map bare_topic topics })) begin (make_each topics (records_of_topic epoch) topics_done topic_one)

-- ---- configurations

above_bare_all : (k : List ℕ) (todo : List TopicEntry) → RisesAbove bytes_cmp name_of_topic k todo → RisesAbove bytes_cmp name_of_topic k (map bare_topic todo)
above_bare_all k [] h = tt
above_bare_all k (t ∷ todo) h = (h.0, above_bare_all t.name todo h.1)

above_bare : (k : List ℕ) (done todo : List TopicEntry) → RisesAbove bytes_cmp name_of_topic k (done ++ todo) → RisesAbove bytes_cmp name_of_topic k (done ++ map bare_topic todo)
above_bare k [] todo h = above_bare_all k todo h
above_bare k (t ∷ done) todo h = (h.0, above_bare t.name done todo h.1)

rises_bare : (done todo : List TopicEntry) → Rises bytes_cmp name_of_topic (done ++ todo) → Rises bytes_cmp name_of_topic (done ++ map bare_topic todo)
rises_bare [] [] h = tt
rises_bare [] (t ∷ todo) h = above_bare_all t.name todo h
rises_bare (t ∷ done) todo h = above_bare t.name done todo h

module _ (i : Image) (topics : List TopicEntry) (rises : Rises bytes_cmp name_of_topic topics) (within : All IsTopicInOrder topics) (legal : All IsTopic topics) (epoch : ℤ) where
  abbrev configs_done : List TopicEntry → List TopicEntry → Image
  configs_done done todo = record i { topics = done ++ map bare_topic todo }

  config_one : (done : List TopicEntry) (t : TopicEntry) (rest : List TopicEntry) → topics ≡ done ++ t ∷ rest
      → Make (map (in_epoch epoch) (members_of_topic t)) (configs_done done (t ∷ rest)) (configs_done (done ++ t ∷ []) rest)
  config_one done t rest whole =
      let all = subst (Rises bytes_cmp name_of_topic) whole rises in
      let under = below_split bytes_order name_of_topic done t rest all in
      let own = all_at IsTopic done t rest (subst (All IsTopic) whole legal) in
      let order = all_at IsTopicInOrder done t rest (subst (All IsTopicInOrder) whole within) in
      let state = configs_done done (t ∷ rest) in
      let found : topic_named t.name state ≡ Some (bare_topic t) = find_at_split bytes_order name_of_topic t.name done (bare_topic t) (map bare_topic rest) under refl in
      make_led epoch (members_of_topic t) state (with_topic state (with_members (bare_topic t) t.pairs))
      (config_leads epoch state t.name (bare_topic t) own.named refl t.pairs (rises_bare done (t ∷ rest) all) found refl order.1 own.each_member)
      ∙ ap (λ (ts : List TopicEntry). record i { topics = ts }) (put_at_split bytes_order name_of_topic t done (bare_topic t) (map bare_topic rest) under refl ∙ sym (append_assoc done (t ∷ []) (map bare_topic rest)))

  pub configs_made : Make (flat_map (λ (t : TopicEntry). map (in_epoch epoch) (members_of_topic t)) topics) (record i { topics = map bare_topic topics }) (record i { topics = topics })
  configs_made =
      subst (λ (j : Image). Make (flat_map (λ (t : TopicEntry). map (in_epoch epoch) (members_of_topic t)) topics) (record i { topics = map bare_topic topics }) j)
      (ap (λ (ts : List TopicEntry). record i { topics = ts }) (append-nil topics)) (make_each topics (λ (t : TopicEntry). map (in_epoch epoch) (members_of_topic t)) configs_done config_one)
