-- The znodes of topics at a path, in two metadata in which each key that spans it holds the same.
use Rattle.std.proofs.Common.{◌≡◌, ℕ, ℤ, true, List, ◌++◌, Option, Some, None, Contains, refl, sym, ap, ◌∙◌, subst}
use Rattle.std.specs.Prelude.{option_map, option_and_then}
use Rattle.std.specs.List.{flat_map}
use Rattle.std.specs.Ordering.{int_cmp}
use Rattle.kz_types.specs.declared.bodies.Body.{Body}
use Rattle.kz_types.specs.declared.tree.Rendered.{Rendered}
use Rattle.kz_types.specs.declared.image.TopicEntry.{TopicEntry}
use Rattle.kz_types.specs.declared.image.PartitionEntry.{PartitionEntry}
use Rattle.kz_types.specs.declared.key.EntityKey.TheVariants as key
use Rattle.kz_types.specs.Paths.{is_topic_name, is_not_negative, is_legal, path_of}
use Rattle.kz_types.specs.Ordered.{find}
use Rattle.kz_types.proofs.Order.{bytes_order, int_order}
use Rattle.kz_types.proofs.Lookup.{found_is_contained, key_of_found}
use Rattle.kz_spec_data.specs.Metadata.{Image, name_of_topic, number_of_partition, topic_named, partition_at, pairs_of_topic}
use Rattle.kz_spec_data.specs.InOrder.{IsInOrder}
use Rattle.kz_spec_data.specs.Rendering.{partitions_path, number_path, state_body, partition_znodes, topic_znodes}
use Rattle.std.proofs.lemmas.Bool.{and_from}
use Rattle.kz_laws_values.specs.TextKeys.{IsText, IsSmall}
use Rattle.kz_laws_values.proofs.Legal.{IsGoodKey}
use Rattle.kz_laws_znodes.specs.RoundTrip.{IsWritable}
use Rattle.kz_laws_znodes.proofs.Shown.{topic_facts, partition_facts}
use Rattle.kz_spec_data.specs.Entities.{topic_body, config_body}
use Rattle.kz_spec_data.specs.Spans.{spanned_paths}
use Rattle.kz_laws_znodes.proofs.Lasts.{last_at, alike-append}
use Rattle.kz_laws_znodes.proofs.Forms.{third}
use Rattle.kz_laws_znodes.proofs.Spans.{own_path, partitions_spanned, number_spanned}
use Rattle.kz_laws_znodes.proofs.Spanned.{HoldTheSame, unless_neither}
use Rattle.kz_laws_znodes.proofs.DeltaTopics.{entity_znode, same_entity, bare_if, same_bare, topics_give, number_at, IsNumber, partition_pair, partitions_give, partitions_of, topic_parts, parts_of_topic}

pub topic_key : (name : List ℕ) → is_topic_name name ≡ true → IsText name → IsGoodKey (key.Topic name)
unfolding is_legal
topic_key name legal text = (legal, text)

legal_name : (name : List ℕ) → IsGoodKey (key.Topic name) → is_topic_name name ≡ true
unfolding is_legal
legal_name name good = good.0

pub topic_config_key : (name : List ℕ) → is_topic_name name ≡ true → IsText name → IsGoodKey (key.TopicConfig name)
unfolding is_legal
topic_config_key name legal text = (legal, text)

pub state_key : (name : List ℕ) (number : ℤ) → is_topic_name name ≡ true → is_not_negative number ≡ true → IsText name → IsSmall number → IsGoodKey (key.Partition name number)
unfolding is_legal
state_key name number legal low text small = (and_from (is_topic_name name) (is_not_negative number) legal low, (text, small))

-- what a topic of a name is, in one metadata
module _ (i : Image) (o : IsInOrder i) (w : IsWritable i) (name : List ℕ) (t : TopicEntry) (is : topic_named name i ≡ Some t) where
  pub among : Contains i.topics t
  among = found_is_contained bytes_order name_of_topic name i.topics t is

  pub named : t.name ≡ name
  named = key_of_found bytes_order name_of_topic name i.topics t is

  pub good_topic : IsGoodKey (key.Topic name)
  good_topic = let f = topic_facts i o w t among in subst (λ n. IsGoodKey (key.Topic n)) named (topic_key t.name f.legal.named f.writable.name)

  pub good_topic_config : IsGoodKey (key.TopicConfig name)
  good_topic_config = let f = topic_facts i o w t among in subst (λ n. IsGoodKey (key.TopicConfig n)) named (topic_config_key t.name f.legal.named f.writable.name)

  pub numbers : (q : PartitionEntry) → Contains t.partitions q → IsNumber q
  numbers q has = let g = partition_facts i o w t q among has in (g.legal.0, g.writable.number)

  pub good_partition : (number : ℤ) (q : PartitionEntry) → find int_cmp number_of_partition number t.partitions ≡ Some q → IsGoodKey (key.Partition name number)
  good_partition number q found =
      let f = topic_facts i o w t among in
      let n = numbers q (found_is_contained int_order number_of_partition number t.partitions q found) in
      let at : q.number ≡ number = key_of_found int_order number_of_partition number t.partitions q found in
      subst (λ m. IsGoodKey (key.Partition name m)) at (subst (λ n. IsGoodKey (key.Partition n q.number)) named (state_key t.name q.number f.legal.named n.0 f.writable.name n.1))

-- the state of a partition, in what is found by a name
abbrev state_in : ℤ → Option TopicEntry → Option Body
state_in number found = option_map state_body (partition_at number (partitions_of found))

state_is : (number : ℤ) (found : Option TopicEntry) → option_map state_body (option_and_then (λ (t : TopicEntry). partition_at number t.partitions) found) ≡ state_in number found
state_is number None = refl
state_is number (Some t) = refl

module _ (old new : Image) (oo : IsInOrder old) (wo : IsWritable old) (on : IsInOrder new) (wn : IsWritable new) (p : List ℕ) (hold : HoldTheSame old new p) where
  abbrev name : List ℕ
  name = third p

  abbrev number : ℤ
  number = number_at p

  -- the state of the partition is the same, where its key spans the path
  same_state : (a b : Option TopicEntry) → topic_named name old ≡ a → topic_named name new ≡ b → Contains (spanned_paths (key.Partition name number)) p → state_in number a ≡ state_in number b
  same_state a b e f within =
      let whole : IsGoodKey (key.Partition name number) → state_in number a ≡ state_in number b =
      λ good. sym (state_is number a) ∙ ap (λ x. option_map state_body (option_and_then (λ (t : TopicEntry). partition_at number t.partitions) x)) (sym e) ∙ hold (key.Partition name number) good within
      ∙ ap (λ x. option_map state_body (option_and_then (λ (t : TopicEntry). partition_at number t.partitions) x)) f ∙ state_is number b in
      unless_neither (state_in number a) (state_in number b) (λ x is. whole (good_in old oo wo a e x is)) (λ x is. whole (good_in new on wn b f x is))
    where
      good_by : (i : Image) (o : IsInOrder i) (w : IsWritable i) (t : TopicEntry) → topic_named name i ≡ Some t → (q : Option PartitionEntry) → find int_cmp number_of_partition number t.partitions ≡ q
          → (x : Body) → option_map state_body (option_map (λ (p : PartitionEntry). p.row) q) ≡ Some x → IsGoodKey (key.Partition name number)
      good_by i o w t e None found x is = absurd (cc (is))
      good_by i o w t e (Some q) found x is = good_partition i o w name t e number q found

      good_in : (i : Image) (o : IsInOrder i) (w : IsWritable i) (a : Option TopicEntry) → topic_named name i ≡ a → (x : Body) → state_in number a ≡ Some x → IsGoodKey (key.Partition name number)
      good_in i o w None e x is = absurd (cc (is))
      good_in i o w (Some t) e x is = good_by i o w t e (find int_cmp number_of_partition number t.partitions) refl x is

  same_pair : (a b : Option TopicEntry) → topic_named name old ≡ a → topic_named name new ≡ b → last_at p (partition_pair name number (state_in number a)) ≡ last_at p (partition_pair name number (state_in number b))
  same_pair a b e f =
      let at : Contains (spanned_paths (key.Partition name number)) p → state_in number a ≡ state_in number b = same_state a b e f in
      alike-append p (bare_if (number_path name number) (state_in number a)) (entity_znode (key.Partition name number) (state_in number a)) (bare_if (number_path name number) (state_in number b)) (entity_znode (key.Partition name number) (state_in number b))
      (same_bare p (number_path name number) (state_in number a) (state_in number b) (λ is. ap (bare_if (number_path name number)) (at (of_number is))))
      (same_entity p (key.Partition name number) (state_in number a) (state_in number b) (λ is. at (of_state is)))
    where
      of_number : p ≡ number_path name number → Contains (spanned_paths (key.Partition name number)) p
      of_number is = subst (Contains (spanned_paths (key.Partition name number))) (sym is) (number_spanned name number)

      of_state : p ≡ path_of (key.Partition name number) → Contains (spanned_paths (key.Partition name number)) p
      of_state is = subst (Contains (spanned_paths (key.Partition name number))) (sym is) (own_path (key.Partition name number))

  -- the same of the partitions of the topic
  same_partitions : (a b : Option TopicEntry) → topic_named name old ≡ a → topic_named name new ≡ b → IsGoodKey (key.Topic name) → last_at p (flat_map (partition_znodes name) (partitions_of a)) ≡ last_at p (flat_map (partition_znodes name) (partitions_of b))
  same_partitions a b e f good = given old oo wo a e ∙ same_pair a b e f ∙ sym (given new on wn b f)
    where
      given : (i : Image) (o : IsInOrder i) (w : IsWritable i) (a : Option TopicEntry) → topic_named name i ≡ a → last_at p (flat_map (partition_znodes name) (partitions_of a)) ≡ last_at p (partition_pair name number (state_in number a))
      given i o w None e = refl
      given i o w (Some t) e = partitions_give name (legal_name name good) p t.partitions (topic_facts i o w t (among i o w name t e)).order.0 (numbers i o w name t e)

  same_parts : (a b : Option TopicEntry) → topic_named name old ≡ a → topic_named name new ≡ b → IsGoodKey (key.Topic name) → IsGoodKey (key.TopicConfig name) → last_at p (topic_parts name a) ≡ last_at p (topic_parts name b)
  same_parts a b e f good good_config =
      let topic : Contains (spanned_paths (key.Topic name)) p → option_map topic_body a ≡ option_map topic_body b = λ within. ap (option_map topic_body) (sym e) ∙ hold (key.Topic name) good within ∙ ap (option_map topic_body) f in
      let config : Contains (spanned_paths (key.TopicConfig name)) p → config_body (pairs_of_topic a) ≡ config_body (pairs_of_topic b) =
      λ within. ap (λ x. config_body (pairs_of_topic x)) (sym e) ∙ hold (key.TopicConfig name) good_config within ∙ ap (λ x. config_body (pairs_of_topic x)) f in
      let rest : Option TopicEntry → List Rendered = λ x. flat_map (partition_znodes name) (partitions_of x) ++ entity_znode (key.TopicConfig name) (config_body (pairs_of_topic x)) in
      let below : Option TopicEntry → List Rendered = λ x. bare_if (partitions_path name) (option_map topic_body x) ++ rest x in
      alike-append p (entity_znode (key.Topic name) (option_map topic_body a)) (below a) (entity_znode (key.Topic name) (option_map topic_body b)) (below b) (same_entity p (key.Topic name) (option_map topic_body a) (option_map topic_body b) (λ is. topic (subst (Contains (spanned_paths (key.Topic name))) (sym is) (own_path (key.Topic name)))))
      (alike-append p (bare_if (partitions_path name) (option_map topic_body a)) (rest a) (bare_if (partitions_path name) (option_map topic_body b)) (rest b) (same_bare p (partitions_path name) (option_map topic_body a) (option_map topic_body b) (λ is. ap (bare_if (partitions_path name)) (topic (subst (Contains (spanned_paths (key.Topic name))) (sym is) (partitions_spanned name)))))
      (alike-append p (flat_map (partition_znodes name) (partitions_of a)) (entity_znode (key.TopicConfig name) (config_body (pairs_of_topic a))) (flat_map (partition_znodes name) (partitions_of b)) (entity_znode (key.TopicConfig name) (config_body (pairs_of_topic b))) (same_partitions a b e f good)
      (same_entity p (key.TopicConfig name) (config_body (pairs_of_topic a)) (config_body (pairs_of_topic b)) (λ is. config (subst (Contains (spanned_paths (key.TopicConfig name))) (sym is) (own_path (key.TopicConfig name)))))))

  same_topic : (a b : Option TopicEntry) → topic_named name old ≡ a → topic_named name new ≡ b → last_at p (topic_parts name a) ≡ last_at p (topic_parts name b)
  same_topic None None e f = refl
  same_topic (Some t) b e f = same_parts (Some t) b e f (good_topic old oo wo name t e) (good_topic_config old oo wo name t e)
  same_topic None (Some t) e f = same_parts None (Some t) e f (good_topic new on wn name t f) (good_topic_config new on wn name t f)

  -- at the path, the topics give the same
  pub topics_alike : last_at p (flat_map topic_znodes old.topics) ≡ last_at p (flat_map topic_znodes new.topics)
  topics_alike = given old oo wo ∙ same_topic (topic_named name old) (topic_named name new) refl refl ∙ sym (given new on wn)
    where
      given : (i : Image) (o : IsInOrder i) (w : IsWritable i) → last_at p (flat_map topic_znodes i.topics) ≡ last_at p (topic_parts name (topic_named name i))
      given i o w =
          topics_give p i.topics o.topics.rising (λ t has. (topic_facts i o w t has).legal.named)
          ∙ parts_of_topic p name (topic_named name i) (λ t e. named i o w name t e)
