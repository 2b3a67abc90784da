-- The znodes of topics at a path that no key of a change spans.
use Rattle.std.proofs.Common.{◌≡◌, ◌≢◌, ℕ, ℤ, pos, Bool, true, false, List, [], ◌∷◌, ◌++◌, Option, Some, None, Contains, refl, sym, ap, ◌∙◌, inl, inr}
use Rattle.std.specs.Prelude.{option_map}
use Rattle.std.specs.List.{flat_map}
use Rattle.std.specs.Ordering.{int_cmp}
use Rattle.std.specs.Fmt.{signed_decimal}
use Rattle.std.proofs.lemmas.Slice.Eq.{bytes_eq-Decides}
use Rattle.std.specs.Str.{bytes_eq}
use Rattle.std.proofs.lemmas.List.Elements.{Contains-append_cases}
use Rattle.kz_types.specs.declared.tree.Rendered.{Rendered}
use Rattle.kz_types.specs.declared.bodies.Body.{Body}
use Rattle.kz_types.specs.declared.bodies.Pair.{Pair}
use Rattle.kz_types.specs.declared.image.TopicEntry.{TopicEntry}
use Rattle.kz_types.specs.declared.image.PartitionEntry.{PartitionEntry}
use Rattle.kz_types.specs.declared.key.EntityKey.{EntityKey}
use Rattle.kz_types.specs.declared.key.EntityKey.TheVariants as key
use Rattle.kz_types.specs.Numbers.{number_in}
use Rattle.kz_types.specs.Paths.{is_topic_name, is_not_negative, path_of}
use Rattle.kz_types.specs.Order.{bytes_cmp}
use Rattle.kz_types.specs.Ordered.{find, Rises}
use Rattle.kz_types.proofs.Order.{bytes_order, int_order}
use Rattle.kz_types.proofs.Lookup.{Contains-nil, Contains-cons_cases, key_of_found}
use Rattle.kz_spec_data.specs.Metadata.{name_of_topic, number_of_partition, partition_at, pairs_of_topic}
use Rattle.kz_spec_data.specs.Rendering.{bare, znode, topic_znode, partitions_path, number_path, state_body, partition_znodes, topic_config_znodes, topic_znodes}
use Rattle.kz_laws_values.specs.TextKeys.{IsSmall}
use Rattle.kz_laws_values.proofs.Parts.{number_is_read}
use Rattle.kz_laws_znodes.proofs.Within.{from_flat}
use Rattle.kz_spec_data.specs.Entities.{topic_body, config_body}
use Rattle.kz_laws_znodes.proofs.Lasts.{last_at, elsewhere, one_gives, last_of, last_found}
use Rattle.kz_laws_znodes.proofs.Forms.{third, fifth, third_of_topic, third_of_topic_config, third_of_partitions, third_of_number, third_of_state, fifth_of_number, fifth_of_state}

-- ---- one znode, or none

-- the znode of an entity, where there is one
abbrev pub entity_znode : EntityKey → Option Body → List Rendered
entity_znode k None = []
entity_znode k (Some b) = znode k b ∷ []

-- at its path the entity is the same
pub same_entity : (p : List ℕ) (k : EntityKey) (b c : Option Body) → (p ≡ path_of k → b ≡ c) → last_at p (entity_znode k b) ≡ last_at p (entity_znode k c)
same_entity p k b c same = by (bytes_eq p (path_of k)) (bytes_eq-Decides p (path_of k)).0 (bytes_eq-Decides p (path_of k)).1
  where
    away : (d : Option Body) → p ≢ path_of k → last_at p (entity_znode k d) ≡ None
    away None ne = refl
    away (Some b) ne = elsewhere p (znode k b) ne

    by : (t : Bool) → (t ≡ true → p ≡ path_of k) → (p ≡ path_of k → t ≡ true) → last_at p (entity_znode k b) ≡ last_at p (entity_znode k c)
    by true at back = ap (λ d. last_at p (entity_znode k d)) (same (at refl))
    by false at back =
        let ne : p ≢ path_of k = λ e. absurd (let no : false ≡ true = back e in cc) in
        away b ne ∙ sym (away c ne)

-- the znode without data of this path, where something is there
abbrev pub bare_if : {A : Type 0} → List ℕ → Option A → List Rendered
bare_if path None = []
bare_if path (Some a) = bare path ∷ []

pub same_bare : {A B : Type 0} (p path : List ℕ) (a : Option A) (b : Option B) → (p ≡ path → bare_if path a ≡ bare_if path b) → last_at p (bare_if path a) ≡ last_at p (bare_if path b)
same_bare {A} {B} p path a b same = by (bytes_eq p path) (bytes_eq-Decides p path).0 (bytes_eq-Decides p path).1
  where
    away : {C : Type 0} (d : Option C) → p ≢ path → last_at p (bare_if path d) ≡ None
    away None ne = refl
    away (Some c) ne = elsewhere p (bare path) ne

    by : (t : Bool) → (t ≡ true → p ≡ path) → (p ≡ path → t ≡ true) → last_at p (bare_if path a) ≡ last_at p (bare_if path b)
    by true at back = ap (last_at p) (same (at refl))
    by false at back =
        let ne : p ≢ path = λ e. absurd (let no : false ≡ true = back e in cc) in
        away a ne ∙ sym (away b ne)

-- ---- whose path it is

in_partition : (name : List ℕ) → is_topic_name name ≡ true → (q : PartitionEntry) (r : Rendered) → Contains (partition_znodes name q) r → third r.path ≡ name
in_partition name legal q r has = elim (Contains-cons_cases (bare (number_path name q.number)) (znode (key.Partition name q.number) (state_body q.row) ∷ []) r has) [
  | inl e ↦ ap (λ (x : Rendered). third x.path) (sym e) ∙ third_of_number name legal q.number
  | inr later ↦ elim (Contains-cons_cases (znode (key.Partition name q.number) (state_body q.row)) [] r later) [
    | inl e ↦ ap (λ (x : Rendered). third x.path) (sym e) ∙ third_of_state name legal q.number
    | inr none ↦ absurd (Contains-nil r none)
  ]
]

in_config : (name : List ℕ) → is_topic_name name ≡ true → (pairs : List Pair) (r : Rendered) → Contains (topic_config_znodes name pairs) r → third r.path ≡ name
in_config name legal [] r has = absurd (Contains-nil r has)
in_config name legal (p ∷ ps) r has = elim (Contains-cons_cases _ [] r has) [
  | inl e ↦ ap (λ (x : Rendered). third x.path) (sym e) ∙ third_of_topic_config name legal
  | inr none ↦ absurd (Contains-nil r none)
]

in_topic : (t : TopicEntry) → is_topic_name t.name ≡ true → (r : Rendered) → Contains (topic_znodes t) r → third r.path ≡ t.name
in_topic t legal r has = elim (Contains-cons_cases (topic_znode t) (bare (partitions_path t.name) ∷ (flat_map (partition_znodes t.name) t.partitions ++ topic_config_znodes t.name t.pairs)) r has) [
  | inl e ↦ ap (λ (x : Rendered). third x.path) (sym e) ∙ third_of_topic t.name legal
  | inr later ↦ elim (Contains-cons_cases (bare (partitions_path t.name)) (flat_map (partition_znodes t.name) t.partitions ++ topic_config_znodes t.name t.pairs) r later) [
    | inl e ↦ ap (λ (x : Rendered). third x.path) (sym e) ∙ third_of_partitions t.name legal
    | inr below ↦ elim (Contains-append_cases (flat_map (partition_znodes t.name) t.partitions) (topic_config_znodes t.name t.pairs) r below) [
      | inl p ↦ let f = from_flat (partition_znodes t.name) t.partitions r p in in_partition t.name legal f.source r f.gives
      | inr c ↦ in_config t.name legal t.pairs r c
    ]
  ]
]

-- the topics give, at a path, what the topic of its third part gives
pub topics_give : (p : List ℕ) (topics : List TopicEntry) → Rises bytes_cmp name_of_topic topics → ((t : TopicEntry) → Contains topics t → is_topic_name t.name ≡ true)
    → last_at p (flat_map topic_znodes topics) ≡ last_of bytes_order name_of_topic topic_znodes p (find bytes_cmp name_of_topic (third p) topics)
topics_give p topics rises legal =
    one_gives bytes_order name_of_topic topic_znodes p (third p) topics rises
    (λ t has r e. let l = last_found p (topic_znodes t) r e in sym (in_topic t (legal t has) r l.0) ∙ ap third l.1)

-- ---- partitions

number_or_zero : Option ℤ → ℤ
number_or_zero None = pos 0
number_or_zero (Some n) = n

-- the number of the partition whose path it may be
pub number_at : List ℕ → ℤ
number_at p = number_or_zero (number_in (fifth p))

-- What is known of the number of a partition.
abbrev pub IsNumber : PartitionEntry → Type 0
IsNumber q = (is_not_negative q.number ≡ true) × IsSmall q.number

-- what a partition of this number gives, by the body of its state
abbrev pub partition_pair : List ℕ → ℤ → Option Body → List Rendered
partition_pair name number state = bare_if (number_path name number) state ++ entity_znode (key.Partition name number) state

module _ (name : List ℕ) (legal : is_topic_name name ≡ true) (p : List ℕ) where
  in_number : (q : PartitionEntry) → IsNumber q → (r : Rendered) → Contains (partition_znodes name q) r → fifth r.path ≡ signed_decimal q.number
  in_number q number r has = elim (Contains-cons_cases (bare (number_path name q.number)) (znode (key.Partition name q.number) (state_body q.row) ∷ []) r has) [
    | inl e ↦ ap (λ (x : Rendered). fifth x.path) (sym e) ∙ fifth_of_number name legal q.number number.0 number.1
    | inr later ↦ elim (Contains-cons_cases (znode (key.Partition name q.number) (state_body q.row)) [] r later) [
      | inl e ↦ ap (λ (x : Rendered). fifth x.path) (sym e) ∙ fifth_of_state name legal q.number number.0 number.1
      | inr none ↦ absurd (Contains-nil r none)
    ]
  ]

  number_of : (q : PartitionEntry) → IsNumber q → (r : Rendered) → last_at p (partition_znodes name q) ≡ Some r → q.number ≡ number_at p
  unfolding number_at number_or_zero
  number_of q number r e =
      let l = last_found p (partition_znodes name q) r e in
      sym (ap (λ f. number_or_zero (number_in f)) (ap fifth (sym l.1) ∙ in_number q number r l.0) ∙ ap number_or_zero (number_is_read q.number number.0 number.1))

  pair_of : (found : Option PartitionEntry) → ((q : PartitionEntry) → found ≡ Some q → q.number ≡ number_at p)
      → last_of int_order number_of_partition (partition_znodes name) p found ≡ last_at p (partition_pair name (number_at p) (option_map state_body (option_map (λ (q : PartitionEntry). q.row) found)))
  pair_of None numbered = refl
  pair_of (Some q) numbered = ap (λ n. last_at p (bare (number_path name n) ∷ znode (key.Partition name n) (state_body q.row) ∷ [])) (numbered q refl)

  -- the partitions give, at a path, what the one of its number gives
  pub partitions_give : (qs : List PartitionEntry) → Rises int_cmp number_of_partition qs → ((q : PartitionEntry) → Contains qs q → IsNumber q)
      → last_at p (flat_map (partition_znodes name) qs) ≡ last_at p (partition_pair name (number_at p) (option_map state_body (partition_at (number_at p) qs)))
  partitions_give qs rises numbers =
      one_gives int_order number_of_partition (partition_znodes name) p (number_at p) qs rises (λ q has r e. number_of q (numbers q has) r e)
      ∙ pair_of (find int_cmp number_of_partition (number_at p) qs) (λ q e. key_of_found int_order number_of_partition (number_at p) qs q e)

-- ---- a topic

-- the partitions of a topic, none where it isn't there
abbrev pub partitions_of : Option TopicEntry → List PartitionEntry
partitions_of None = []
partitions_of (Some t) = t.partitions

-- what the topic of a name gives
abbrev pub topic_parts : List ℕ → Option TopicEntry → List Rendered
topic_parts name found =
    entity_znode (key.Topic name) (option_map topic_body found)
    ++ (bare_if (partitions_path name) (option_map topic_body found)
    ++ (flat_map (partition_znodes name) (partitions_of found) ++ entity_znode (key.TopicConfig name) (config_body (pairs_of_topic found))))

config_part : (name : List ℕ) (pairs : List Pair) → topic_config_znodes name pairs ≡ entity_znode (key.TopicConfig name) (config_body pairs)
config_part name [] = refl
config_part name (q ∷ qs) = refl

pub parts_of_topic : (p name : List ℕ) (found : Option TopicEntry) → ((t : TopicEntry) → found ≡ Some t → t.name ≡ name) → last_of bytes_order name_of_topic topic_znodes p found ≡ last_at p (topic_parts name found)
parts_of_topic p name None named = refl
parts_of_topic p name (Some t) named =
    let all : List ℕ → List Rendered → List Rendered = λ n config. znode (key.Topic n) (topic_body t) ∷ bare (partitions_path n) ∷ (flat_map (partition_znodes n) t.partitions ++ config) in
    ap (λ config. last_at p (all t.name config)) (config_part t.name t.pairs) ∙ ap (λ n. last_at p (all n (entity_znode (key.TopicConfig n) (config_body t.pairs)))) (named t refl)
