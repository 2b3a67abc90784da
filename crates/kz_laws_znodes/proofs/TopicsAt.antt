-- What the znodes of topics have at a path.
use Rattle.std.proofs.Common.{◌≡◌, ℕ, ℤ, pos, Bool, true, false, ◌&&◌, List, [], ◌∷◌, ◌++◌, Option, Some, None, is_some, Contains, refl, sym, ap, ◌∙◌, subst, inl, inr, codes, append_assoc}
use Rattle.std.specs.Prelude.{option_map, option_and_then}
use Rattle.std.specs.Str.{bytes_eq}
use Rattle.std.specs.Fmt.{signed_decimal}
use Rattle.std.specs.Ordering.{int_cmp}
use Rattle.std.specs.List.{flat_map, join_with_byte}
use Rattle.std.proofs.lemmas.Bool.{false≢true, and_parts}
use Rattle.std.proofs.lemmas.List.Elements.{Contains-append_cases, Contains-append_left, Contains-append_right}
use Rattle.std.proofs.lemmas.List.Splits.{join_with_byte-slice_split}
use Rattle.kz_types.specs.declared.tree.Rendered.{Rendered}
use Rattle.kz_types.specs.declared.bodies.Body.{Body}
use Rattle.kz_types.specs.declared.bodies.Body.TheVariants as body
use Rattle.kz_types.specs.declared.bodies.Pair.{Pair}
use Rattle.kz_types.specs.declared.image.TopicEntry.{TopicEntry}
use Rattle.kz_types.specs.declared.image.PartitionEntry.{PartitionEntry}
use Rattle.kz_types.specs.declared.key.EntityKey.{EntityKey}
use Rattle.kz_types.specs.declared.key.EntityKey.TheVariants as key
use Rattle.kz_types.specs.Numbers.{canonical, number_in}
use Rattle.kz_types.specs.PathRule.{is_path, parts}
use Rattle.kz_types.specs.Paths.{are, is_topic_name, is_not_negative, key_of, path_of}
use Rattle.kz_types.proofs.KeyLemmas.{path_of_key_of}
use Rattle.kz_types.proofs.NumberLemmas.{bytes_eq-true, canonical_sound}
use Rattle.kz_types.proofs.PathRules.{split_of_path}
use Rattle.kz_types.specs.Ordered.{find}
use Rattle.kz_types.proofs.Order.{bytes_order, int_order}
use Rattle.kz_types.proofs.Lookup.{some_is_none, same_some, found_is_contained, key_of_found, contained_is_found, Contains-head, Contains-tail, Contains-nil, Contains-cons_cases}
use Rattle.kz_spec_data.specs.Tree.{path_of_rendered}
use Rattle.kz_spec_data.specs.Metadata.{Image, name_of_topic, number_of_partition, topic_named, partition_at, pairs_of_topic}
use Rattle.kz_spec_data.specs.InOrder.{IsInOrder}
use Rattle.kz_spec_data.specs.Rendering.{bare, znode, topic_znode, partitions_path, number_path, state_body, partition_znodes, topic_config_znodes, topic_znodes}
use Rattle.kz_laws_values.specs.TextKeys.{IsText, IsSmall}
use Rattle.kz_laws_values.proofs.Legal.{IsGoodKey}
use Rattle.kz_laws_values.proofs.Keys.{path_holds}
use Rattle.kz_laws_values.proofs.Parts.{split_part, split_last, topic_has_none, number_has_none, number_is_read}
use Rattle.kz_laws_znodes.proofs.Within.{from_flat, to_flat}
use Rattle.kz_laws_znodes.proofs.Scaffolds.{partitions_scaffold, number_scaffold}
use Rattle.kz_spec_data.specs.Entities.{topic_body, config_body, entity}
use Rattle.kz_spec_data.specs.Lookups.{has_partition, is_parent_of_partitions}
use Rattle.kz_laws_znodes.proofs.Lasts.{last_at}
use Rattle.kz_laws_znodes.proofs.Spans.{second_of}
use Rattle.kz_laws_znodes.proofs.TopicsAlike.{topic_key, topic_config_key, state_key}
use Rattle.kz_laws_znodes.specs.Lookups.{AreKeysRead}
use Rattle.kz_laws_znodes.proofs.Facts.{topic_text, topic_legal, topic_order, number_low, number_small}
use Rattle.kz_laws_znodes.proofs.Settled.{settled}
use Rattle.kz_laws_znodes.proofs.Roots.{bare_at}

abbrev pub topic_held : Image → EntityKey → Option Body
topic_held i (key.Topic name) = entity i (key.Topic name)
topic_held i (key.Partition topic number) = entity i (key.Partition topic number)
topic_held i (key.TopicConfig name) = entity i (key.TopicConfig name)
topic_held i k = None

-- what is found of topics at a path, which holds the entity of this key or none
abbrev pub topics_found : Image → List ℕ → Option EntityKey → Option Rendered
topics_found i p None = bare_at p (is_parent_of_partitions i (parts p))
topics_found i p (Some k) = option_map (znode k) (topic_held i k)

-- ---- the parts of parents

partitions_parts : (name : List ℕ) → is_topic_name name ≡ true → parts (partitions_path name) ≡ codes "brokers" ∷ codes "topics" ∷ name ∷ codes "partitions" ∷ []
unfolding path_of
partitions_parts name h = ap (λ ps. codes "brokers" ∷ codes "topics" ∷ ps) (split_part name (codes "partitions") (topic_has_none name h))

number_parts : (name : List ℕ) (number : ℤ) → is_topic_name name ≡ true → is_not_negative number ≡ true → IsSmall number → parts (number_path name number) ≡ codes "brokers" ∷ codes "topics" ∷ name ∷ codes "partitions" ∷ signed_decimal number ∷ []
unfolding path_of
number_parts name number h low small =
    ap (λ bs. parts (codes "/brokers/topics/" ++ bs)) (append_assoc name (codes "/partitions") (codes "/" ++ signed_decimal number))
    ∙ ap (λ ps. codes "brokers" ∷ codes "topics" ∷ ps) (split_part name (codes "partitions/" ++ signed_decimal number) (topic_has_none name h))
    ∙ ap (λ ps. codes "brokers" ∷ codes "topics" ∷ name ∷ codes "partitions" ∷ ps) (split_last (signed_decimal number) (number_has_none number low small))

number_joined : (name : List ℕ) (number : ℤ) → number_path name number ≡ codes "/brokers/topics/" ++ (name ++ (codes "/partitions/" ++ signed_decimal number))
unfolding path_of
number_joined name number = ap (λ bs. codes "/brokers/topics/" ++ bs) (append_assoc name (codes "/partitions") (codes "/" ++ signed_decimal number))

mapped : {A B : Type 0} (f : A → B) (o : Option A) (b : B) → option_map f o ≡ Some b → (a : A) × (o ≡ Some a) × (f a ≡ b)
mapped f None b h = cc h
mapped f (Some a) b h = (a, refl, cc h)

-- a number that is read from a part is written as that part
number_is : (part : List ℕ) (z : ℤ) → number_in part ≡ Some z → signed_decimal z ≡ part
number_is part z h = let m = mapped (λ n. pos n) (canonical part) z h in ap signed_decimal (sym m.2) ∙ sym (canonical_sound part m.0 m.1).0

-- ---- the znodes of a topic

below_given : (t : TopicEntry) (r : Rendered) → Contains (flat_map (partition_znodes t.name) t.partitions ++ topic_config_znodes t.name t.pairs) r → Contains (topic_znodes t) r
below_given t r has =
    let last : List Rendered = flat_map (partition_znodes t.name) t.partitions ++ topic_config_znodes t.name t.pairs in
    Contains-tail (topic_znode t) (bare (partitions_path t.name) ∷ last) r (Contains-tail (bare (partitions_path t.name)) last r has)

partition_given : (t : TopicEntry) (q : PartitionEntry) (r : Rendered) → Contains t.partitions q → Contains (partition_znodes t.name q) r → Contains (topic_znodes t) r
partition_given t q r has gives = below_given t r (Contains-append_left (flat_map (partition_znodes t.name) t.partitions) (topic_config_znodes t.name t.pairs) r (to_flat (partition_znodes t.name) t.partitions q r has gives))

config_given : (t : TopicEntry) (r : Rendered) → Contains (topic_config_znodes t.name t.pairs) r → Contains (topic_znodes t) r
config_given t r gives = below_given t r (Contains-append_right (flat_map (partition_znodes t.name) t.partitions) (topic_config_znodes t.name t.pairs) r gives)

config_contained : (name : List ℕ) (pairs : List Pair) (b : Body) → config_body pairs ≡ Some b → Contains (topic_config_znodes name pairs) (znode (key.TopicConfig name) b)
config_contained name [] b e = absurd (some_is_none (sym e))
config_contained name (q ∷ qs) b e =
    let made : Rendered = znode (key.TopicConfig name) (body.Config (q ∷ qs)) in
    subst (λ x. Contains (made ∷ []) (znode (key.TopicConfig name) x)) (same_some (body.Config (q ∷ qs)) b e) (Contains-head made [])

config_is : (name : List ℕ) (pairs : List Pair) (r : Rendered) → Contains (topic_config_znodes name pairs) r → (b : Body) × (config_body pairs ≡ Some b) × (znode (key.TopicConfig name) b ≡ r)
config_is name [] r has = absurd (Contains-nil r has)
config_is name (q ∷ qs) r has = elim (Contains-cons_cases (znode (key.TopicConfig name) (body.Config (q ∷ qs))) [] r has) [
  | inl e ↦ (body.Config (q ∷ qs), refl, e)
  | inr none ↦ absurd (Contains-nil r none)
]

module _ (i : Image) (o : IsInOrder i) (read : AreKeysRead i) (p : List ℕ) (rule : is_path p ≡ true) where
  abbrev found : Option EntityKey → Option Rendered
  found k = topics_found i p k

  -- ---- each znode of a topic at the path is found

  module _ (t : TopicEntry) (has : Contains i.topics t) (r : Rendered) (at : r.path ≡ p) where
    legal : is_topic_name t.name ≡ true
    legal = (topic_legal i o t has).named

    text : IsText t.name
    text = topic_text t.name legal

    named : topic_named t.name i ≡ Some t
    named = contained_is_found bytes_order name_of_topic i.topics t o.topics.rising has

    -- the path holds the key of the znode
    holds : (k : EntityKey) (b : Body) → IsGoodKey k → znode k b ≡ r → key_of p ≡ Some k
    holds k b good e = ap key_of (sym (ap path_of_rendered e ∙ at)) ∙ path_holds k good.0 good.1

    topic_found : topic_znode t ≡ r → found (key_of p) ≡ Some r
    topic_found e =
        let k : EntityKey = key.Topic t.name in
        ap found (holds k (topic_body t) (topic_key t.name legal text) e) ∙ ap (λ f. option_map (znode k) (option_map topic_body f)) named ∙ ap (λ x. Some x) e

    parent_found : bare (partitions_path t.name) ≡ r → found (key_of p) ≡ Some r
    parent_found e =
        let here : partitions_path t.name ≡ p = ap path_of_rendered e ∙ at in
        let none : key_of p ≡ None = ap key_of (sym here) ∙ (partitions_scaffold t.name legal).none in
        let parts_are : parts p ≡ codes "brokers" ∷ codes "topics" ∷ t.name ∷ codes "partitions" ∷ [] = ap parts (sym here) ∙ partitions_parts t.name legal in
        ap found none ∙ ap (λ ps. bare_at p (is_parent_of_partitions i ps)) parts_are ∙ ap (λ f. bare_at p (is_some f)) named ∙ ap (λ x. Some x) (ap bare (sym here) ∙ e)

    module _ (q : PartitionEntry) (within : Contains t.partitions q) where
      low : is_not_negative q.number ≡ true
      low = number_low i o t q has within

      small : IsSmall q.number
      small = number_small i o read t q has within

      numbered : option_and_then (λ (u : TopicEntry). partition_at q.number u.partitions) (topic_named t.name i) ≡ Some q.row
      numbered =
          ap (option_and_then (λ (u : TopicEntry). partition_at q.number u.partitions)) named
          ∙ ap (option_map (λ (x : PartitionEntry). x.row)) (contained_is_found int_order number_of_partition t.partitions q (topic_order i o t has).0 within)

      number_found : bare (number_path t.name q.number) ≡ r → found (key_of p) ≡ Some r
      number_found e =
          let here : number_path t.name q.number ≡ p = ap path_of_rendered e ∙ at in
          let none : key_of p ≡ None = ap key_of (sym here) ∙ (number_scaffold t.name q.number legal low small).none in
          let parts_are : parts p ≡ codes "brokers" ∷ codes "topics" ∷ t.name ∷ codes "partitions" ∷ signed_decimal q.number ∷ [] = ap parts (sym here) ∙ number_parts t.name q.number legal low small in
          ap found none ∙ ap (λ ps. bare_at p (is_parent_of_partitions i ps)) parts_are ∙ ap (λ n. bare_at p (has_partition t.name n i)) (number_is_read q.number low small)
          ∙ ap (λ f. bare_at p (is_some f)) numbered ∙ ap (λ x. Some x) (ap bare (sym here) ∙ e)

      state_found : znode (key.Partition t.name q.number) (state_body q.row) ≡ r → found (key_of p) ≡ Some r
      state_found e =
          let k : EntityKey = key.Partition t.name q.number in
          ap found (holds k (state_body q.row) (state_key t.name q.number legal low text small) e) ∙ ap (λ f. option_map (znode k) (option_map state_body f)) numbered ∙ ap (λ x. Some x) e

      partition_found : Contains (partition_znodes t.name q) r → found (key_of p) ≡ Some r
      partition_found gives = elim (Contains-cons_cases (bare (number_path t.name q.number)) (znode (key.Partition t.name q.number) (state_body q.row) ∷ []) r gives) [
        | inl e ↦ number_found e
        | inr later ↦ elim (Contains-cons_cases (znode (key.Partition t.name q.number) (state_body q.row)) [] r later) [
          | inl e ↦ state_found e
          | inr none ↦ absurd (Contains-nil r none)
        ]
      ]

    config_found : Contains (topic_config_znodes t.name t.pairs) r → found (key_of p) ≡ Some r
    config_found gives =
        let k : EntityKey = key.TopicConfig t.name in
        let c = config_is t.name t.pairs r gives in
        ap found (holds k c.0 (topic_config_key t.name legal text) c.2) ∙ ap (λ f. option_map (znode k) (config_body (pairs_of_topic f))) named ∙ ap (option_map (znode k)) c.1 ∙ ap (λ x. Some x) c.2

    znode_found : Contains (topic_znodes t) r → found (key_of p) ≡ Some r
    znode_found gives = elim (Contains-cons_cases (topic_znode t) (bare (partitions_path t.name) ∷ (flat_map (partition_znodes t.name) t.partitions ++ topic_config_znodes t.name t.pairs)) r gives) [
      | inl e ↦ topic_found e
      | inr later ↦ elim (Contains-cons_cases (bare (partitions_path t.name)) (flat_map (partition_znodes t.name) t.partitions ++ topic_config_znodes t.name t.pairs) r later) [
        | inl e ↦ parent_found e
        | inr last ↦ elim (Contains-append_cases (flat_map (partition_znodes t.name) t.partitions) (topic_config_znodes t.name t.pairs) r last) [
          | inl h ↦ let f = from_flat (partition_znodes t.name) t.partitions r h in partition_found f.source f.has f.gives
          | inr h ↦ config_found h
        ]
      ]
    ]

  topics_each : (r : Rendered) → Contains (flat_map topic_znodes i.topics) r → r.path ≡ p → found (key_of p) ≡ Some r
  topics_each r has at = let f = from_flat topic_znodes i.topics r has in znode_found f.source f.has r at f.gives

  -- ---- what is found is a znode of a topic

  -- the topic that a name has
  module _ (name : List ℕ) (t : TopicEntry) (is : topic_named name i ≡ Some t) where
    among : Contains i.topics t
    among = found_is_contained bytes_order name_of_topic name i.topics t is

    called : t.name ≡ name
    called = key_of_found bytes_order name_of_topic name i.topics t is

    among_all : (r : Rendered) → Contains (topic_znodes t) r → Contains (flat_map topic_znodes i.topics) r
    among_all r gives = to_flat topic_znodes i.topics t r among gives

    topic_there : (b : Body) → Some (topic_body t) ≡ Some b → Contains (flat_map topic_znodes i.topics) (znode (key.Topic name) b)
    topic_there b e =
        let here : Contains (flat_map topic_znodes i.topics) (topic_znode t) = among_all (topic_znode t) (Contains-head (topic_znode t) (bare (partitions_path t.name) ∷ (flat_map (partition_znodes t.name) t.partitions ++ topic_config_znodes t.name t.pairs))) in
        subst (λ x. Contains (flat_map topic_znodes i.topics) (znode (key.Topic name) x)) (same_some (topic_body t) b e) (subst (λ n. Contains (flat_map topic_znodes i.topics) (znode (key.Topic n) (topic_body t))) called here)

    parent_there : Contains (flat_map topic_znodes i.topics) (bare (partitions_path name))
    parent_there =
        subst (λ n. Contains (flat_map topic_znodes i.topics) (bare (partitions_path n))) called
        (among_all (bare (partitions_path t.name)) (second_of (topic_znode t) (bare (partitions_path t.name)) (flat_map (partition_znodes t.name) t.partitions ++ topic_config_znodes t.name t.pairs)))

    config_there : (b : Body) → config_body t.pairs ≡ Some b → Contains (flat_map topic_znodes i.topics) (znode (key.TopicConfig name) b)
    config_there b e = subst (λ n. Contains (flat_map topic_znodes i.topics) (znode (key.TopicConfig n) b)) called (among_all (znode (key.TopicConfig t.name) b) (config_given t (znode (key.TopicConfig t.name) b) (config_contained t.name t.pairs b e)))

    module _ (number : ℤ) (q : PartitionEntry) (at : find int_cmp number_of_partition number t.partitions ≡ Some q) where
      within : Contains t.partitions q
      within = found_is_contained int_order number_of_partition number t.partitions q at

      counted : q.number ≡ number
      counted = key_of_found int_order number_of_partition number t.partitions q at

      number_there : Contains (flat_map topic_znodes i.topics) (bare (number_path name number))
      number_there =
          let x : Rendered = bare (number_path t.name q.number) in
          let here : Contains (flat_map topic_znodes i.topics) x = among_all x (partition_given t q x within (Contains-head x (znode (key.Partition t.name q.number) (state_body q.row) ∷ []))) in
          subst (λ m. Contains (flat_map topic_znodes i.topics) (bare (number_path name m))) counted (subst (λ n. Contains (flat_map topic_znodes i.topics) (bare (number_path n q.number))) called here)

      state_there : (b : Body) → Some (state_body q.row) ≡ Some b → Contains (flat_map topic_znodes i.topics) (znode (key.Partition name number) b)
      state_there b e =
          let x : Rendered = znode (key.Partition t.name q.number) (state_body q.row) in
          let here : Contains (flat_map topic_znodes i.topics) x = among_all x (partition_given t q x within (second_of (bare (number_path t.name q.number)) x [])) in
          subst (λ y. Contains (flat_map topic_znodes i.topics) (znode (key.Partition name number) y)) (same_some (state_body q.row) b e)
          (subst (λ m. Contains (flat_map topic_znodes i.topics) (znode (key.Partition name m) (state_body q.row))) counted (subst (λ n. Contains (flat_map topic_znodes i.topics) (znode (key.Partition n q.number) (state_body q.row))) called here))

  -- a topic, and one of its partitions, in what is found
  topic_by : (name : List ℕ) (f : Option TopicEntry) → topic_named name i ≡ f → (b : Body) → option_map topic_body f ≡ Some b → Contains (flat_map topic_znodes i.topics) (znode (key.Topic name) b)
  topic_by name None e b is = absurd (some_is_none (sym is))
  topic_by name (Some t) e b is = topic_there name t e b is

  config_by : (name : List ℕ) (f : Option TopicEntry) → topic_named name i ≡ f → (b : Body) → config_body (pairs_of_topic f) ≡ Some b → Contains (flat_map topic_znodes i.topics) (znode (key.TopicConfig name) b)
  config_by name None e b is = absurd (some_is_none (sym is))
  config_by name (Some t) e b is = config_there name t e b is

  state_at : (name : List ℕ) (t : TopicEntry) → topic_named name i ≡ Some t → (number : ℤ) (f : Option PartitionEntry) → find int_cmp number_of_partition number t.partitions ≡ f
      → (b : Body) → option_map state_body (option_map (λ (x : PartitionEntry). x.row) f) ≡ Some b → Contains (flat_map topic_znodes i.topics) (znode (key.Partition name number) b)
  state_at name t e number None at b is = absurd (some_is_none (sym is))
  state_at name t e number (Some q) at b is = state_there name t e number q at b is

  state_by : (name : List ℕ) (number : ℤ) (f : Option TopicEntry) → topic_named name i ≡ f → (b : Body) → option_map state_body (option_and_then (λ (u : TopicEntry). partition_at number u.partitions) f) ≡ Some b
      → Contains (flat_map topic_znodes i.topics) (znode (key.Partition name number) b)
  state_by name number None e b is = absurd (some_is_none (sym is))
  state_by name number (Some t) e b is = state_at name t e number (find int_cmp number_of_partition number t.partitions) refl b is

  key_there : (k : EntityKey) (b : Body) → topic_held i k ≡ Some b → Contains (flat_map topic_znodes i.topics) (znode k b)
  key_there (key.Topic name) b is = topic_by name (topic_named name i) refl b is
  key_there (key.Partition topic number) b is = state_by topic number (topic_named topic i) refl b is
  key_there (key.TopicConfig name) b is = config_by name (topic_named name i) refl b is
  key_there (key.BrokerConfig broker) b is = absurd (some_is_none (sym is))
  key_there (key.Client client) b is = absurd (some_is_none (sym is))
  key_there (key.User user) b is = absurd (some_is_none (sym is))
  key_there (key.UserClient user client) b is = absurd (some_is_none (sym is))
  key_there (key.Ip address) b is = absurd (some_is_none (sym is))
  key_there (key.Acl pattern kind name) b is = absurd (some_is_none (sym is))
  key_there key.Producer b is = absurd (some_is_none (sym is))

  -- ---- parents

  parent_by : (name : List ℕ) (f : Option TopicEntry) → topic_named name i ≡ f → is_some f ≡ true → Contains (flat_map topic_znodes i.topics) (bare (partitions_path name))
  parent_by name None e h = absurd (false≢true h)
  parent_by name (Some t) e h = parent_there name t e

  number_at : (name : List ℕ) (t : TopicEntry) → topic_named name i ≡ Some t → (number : ℤ) (f : Option PartitionEntry) → find int_cmp number_of_partition number t.partitions ≡ f
      → is_some (option_map (λ (x : PartitionEntry). x.row) f) ≡ true → Contains (flat_map topic_znodes i.topics) (bare (number_path name number))
  number_at name t e number None at h = absurd (false≢true h)
  number_at name t e number (Some q) at h = number_there name t e number q at

  number_by : (name : List ℕ) (number : ℤ) (f : Option TopicEntry) → topic_named name i ≡ f → is_some (option_and_then (λ (u : TopicEntry). partition_at number u.partitions) f) ≡ true
      → Contains (flat_map topic_znodes i.topics) (bare (number_path name number))
  number_by name number None e h = absurd (false≢true h)
  number_by name number (Some t) e h = number_at name t e number (find int_cmp number_of_partition number t.partitions) refl h

  from_partitions : (a b c d : List ℕ) → parts p ≡ a ∷ b ∷ c ∷ d ∷ [] → are a b (codes "brokers") (codes "topics") && (bytes_eq d (codes "partitions") && is_some (topic_named c i)) ≡ true → Contains (flat_map topic_znodes i.topics) (bare p)
  unfolding path_of
  from_partitions a b c d e h =
      let k = and_parts (are a b (codes "brokers") (codes "topics")) (bytes_eq d (codes "partitions") && is_some (topic_named c i)) h in
      let words = and_parts (bytes_eq a (codes "brokers")) (bytes_eq b (codes "topics")) k.0 in
      let last = and_parts (bytes_eq d (codes "partitions")) (is_some (topic_named c i)) k.1 in
      let first : a ≡ codes "brokers" = bytes_eq-true a (codes "brokers") words.0 in
      let second : b ≡ codes "topics" = bytes_eq-true b (codes "topics") words.1 in
      let fourth : d ≡ codes "partitions" = bytes_eq-true d (codes "partitions") last.0 in
      let here : p ≡ partitions_path c =
      sym (join_with_byte-slice_split 47 p) ∙ ap (join_with_byte 47) (split_of_path p rule ∙ ap (λ ps. [] ∷ ps) e) ∙ (λ j. 47 ∷ (first j ++ 47 ∷ (second j ++ 47 ∷ (c ++ 47 ∷ fourth j)))) in
      subst (λ x. Contains (flat_map topic_znodes i.topics) (bare x)) (sym here) (parent_by c (topic_named c i) refl last.1)

  from_number : (a b c d f : List ℕ) → parts p ≡ a ∷ b ∷ c ∷ d ∷ f ∷ [] → are a b (codes "brokers") (codes "topics") ≡ true → bytes_eq d (codes "partitions") ≡ true
      → (n : Option ℤ) → number_in f ≡ n → has_partition c n i ≡ true → Contains (flat_map topic_znodes i.topics) (bare p)
  from_number a b c d f e two last None read h = absurd (false≢true h)
  from_number a b c d f e two last (Some n) read h =
      let words = and_parts (bytes_eq a (codes "brokers")) (bytes_eq b (codes "topics")) two in
      let first : a ≡ codes "brokers" = bytes_eq-true a (codes "brokers") words.0 in
      let second : b ≡ codes "topics" = bytes_eq-true b (codes "topics") words.1 in
      let fourth : d ≡ codes "partitions" = bytes_eq-true d (codes "partitions") last in
      let here : p ≡ number_path c n =
      sym (join_with_byte-slice_split 47 p) ∙ ap (join_with_byte 47) (split_of_path p rule ∙ ap (λ ps. [] ∷ ps) e) ∙ (λ j. 47 ∷ (first j ++ 47 ∷ (second j ++ 47 ∷ (c ++ 47 ∷ (fourth j ++ 47 ∷ sym (number_is f n read) j))))) ∙ sym (number_joined c n) in
      subst (λ x. Contains (flat_map topic_znodes i.topics) (bare x)) (sym here) (number_by c n (topic_named c i) refl h)

  by_parts : (ps : List (List ℕ)) → parts p ≡ ps → is_parent_of_partitions i ps ≡ true → Contains (flat_map topic_znodes i.topics) (bare p)
  by_parts [] e h = absurd (false≢true h)
  by_parts (a ∷ []) e h = absurd (false≢true h)
  by_parts (a ∷ b ∷ []) e h = absurd (false≢true h)
  by_parts (a ∷ b ∷ c ∷ []) e h = absurd (false≢true h)
  by_parts (a ∷ b ∷ c ∷ d ∷ []) e h = from_partitions a b c d e h
  by_parts (a ∷ b ∷ c ∷ d ∷ f ∷ []) e h =
      let k = and_parts (are a b (codes "brokers") (codes "topics")) (bytes_eq d (codes "partitions") && has_partition c (number_in f) i) h in
      let last = and_parts (bytes_eq d (codes "partitions")) (has_partition c (number_in f) i) k.1 in
      from_number a b c d f e k.0 last.0 (number_in f) refl last.1
  by_parts (a ∷ b ∷ c ∷ d ∷ f ∷ g ∷ more) e h = absurd (false≢true h)

  bare_there : (r : Rendered) (t : Bool) → is_parent_of_partitions i (parts p) ≡ t → bare_at p t ≡ Some r → Contains (flat_map topic_znodes i.topics) r × (r.path ≡ p)
  bare_there r false h is = absurd (some_is_none (sym is))
  bare_there r true h is = let same : bare p ≡ r = same_some (bare p) r is in (subst (Contains (flat_map topic_znodes i.topics)) same (by_parts (parts p) refl h), ap path_of_rendered (sym same))

  keyed_there : (r : Rendered) (k : EntityKey) → key_of p ≡ Some k → (b : Option Body) → topic_held i k ≡ b → option_map (znode k) b ≡ Some r → Contains (flat_map topic_znodes i.topics) r × (r.path ≡ p)
  keyed_there r k e None h is = absurd (some_is_none (sym is))
  keyed_there r k e (Some b) h is =
      let same : znode k b ≡ r = same_some (znode k b) r is in
      (subst (Contains (flat_map topic_znodes i.topics)) same (key_there k b h), ap path_of_rendered (sym same) ∙ path_of_key_of p k rule e)

  topics_there : (r : Rendered) (k : Option EntityKey) → key_of p ≡ k → found k ≡ Some r → Contains (flat_map topic_znodes i.topics) r × (r.path ≡ p)
  topics_there r None e is = bare_there r (is_parent_of_partitions i (parts p)) refl is
  topics_there r (Some k) e is = keyed_there r k e (topic_held i k) refl is

  pub topics_at : last_at p (flat_map topic_znodes i.topics) ≡ topics_found i p (key_of p)
  topics_at = settled p (flat_map topic_znodes i.topics) (found (key_of p)) (record { each = topics_each; there = λ r is. topics_there r (key_of p) refl is })
