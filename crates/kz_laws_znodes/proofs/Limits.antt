-- What returns is rendered as it was, at the greatest epoch.
use Rattle.std.proofs.Common.{◌≡◌, ◌≢◌, ◌⊎◌, ℕ, ℤ, pos, negsuc, List, [], ◌∷◌, ◌++◌, map, Option, Some, None, Ordering, Contains, refl, sym, ap, ◌∙◌, subst, inl, inr, arith}
use Rattle.std.specs.Prelude.{◌+ℤ◌, option_map}
use Rattle.std.specs.List.{flat_map}
use Rattle.std.proofs.lemmas.Int.{ints}
use Rattle.std.proofs.lemmas.Simd.{map-map}
use Rattle.std.proofs.lemmas.List.Elements.{Contains-append_right, Contains-append_cases}
use Rattle.kz_types.specs.declared.limits.TheConstants.{MAX_EPOCH}
use Rattle.kz_types.specs.declared.tree.Row.{Row}
use Rattle.kz_types.specs.declared.tree.Rendered.{Rendered}
use Rattle.kz_types.specs.declared.row.AclRow.{AclRow}
use Rattle.kz_types.specs.declared.bodies.Body.TheVariants as body
use Rattle.kz_types.specs.declared.image.TopicEntry.{TopicEntry}
use Rattle.kz_types.specs.declared.image.AclEntry.{AclEntry}
use Rattle.kz_types.specs.declared.key.EntityKey.TheVariants as key
use Rattle.kz_types.specs.Paths.{roots, key_of, path_of}
use Rattle.kz_types.specs.Order.{TotalOrder, bytes_cmp}
use Rattle.kz_types.specs.Ordered.{find, put, all_put, Rises}
use Rattle.kz_types.proofs.Order.{bytes_order}
use Rattle.kz_types.proofs.Lookup.{some_is_none, found_is_contained, key_of_found, find-put_other, same_items, Contains-head, Contains-tail, Contains-nil, Contains-cons_cases}
use Rattle.kz_types.proofs.Puts.{Rises-all_put, all_put-append}
use Rattle.kz_spec_data.specs.Bodies.{text_of_body}
use Rattle.kz_spec_data.specs.Tree.{path_of_rendered}
use Rattle.kz_spec_data.specs.Metadata.{Image}
use Rattle.kz_spec_data.specs.InOrder.{IsInOrder}
use Rattle.kz_spec_data.specs.Rendering.{bare, znode, partitions_path, assignment_of, partition_znodes, topic_config_znodes, topic_znodes, config_znode, quota_znodes, acl_key, acl_znode, producer_znodes, render}
use Rattle.kz_laws_values.proofs.Keys.{path_holds}
use Rattle.kz_laws_znodes.specs.RoundTrip.{znodes_of, at_epoch, topic_at_epoch, greatest_image, IsWritable, MayReturn, entries_of_resource}
use Rattle.kz_laws_znodes.proofs.Within.{from_map, to_map}
use Rattle.kz_laws_znodes.proofs.Shown.{Shown, shown_topic, shown_state, shown_topic_config, shown_config, shown_parent, shown_quotas, shown_user, shown_entries, shown_producer, shown_blank, shown_scaffold, shown}
use Rattle.kz_laws_znodes.proofs.Held.{IsHeld, facts_of_acl, producer_held, blank_held}
use Rattle.kz_laws_znodes.proofs.Puts.{found_among, put_is_found}
use Rattle.kz_laws_znodes.proofs.Found.{roots_rise, no_quota_kind, who_of, who_is}
use Rattle.kz_laws_znodes.proofs.FoundQuotas.{users, last, second_base, after_own_put, producer_key}
use Rattle.kz_laws_znodes.proofs.SameTopics.{returned_partition, returned, held_says, said_found, said_missing}
use Rattle.kz_laws_znodes.proofs.SameAcls.{rows_on, any_or_none, one_on, some_on}
use Rattle.kz_laws_znodes.proofs.Saying.{next_said, said}

-- ---- topics

flat_same : {X A : Type 0} (f g : X → List A) (xs : List X) → ((x : X) → Contains xs x → f x ≡ g x) → flat_map f xs ≡ flat_map g xs
flat_same f g [] h = refl
flat_same f g (x ∷ xs) h = (λ j. h x (Contains-head x xs) j ++ flat_same f g xs (λ y has. h y (Contains-tail x xs y has)) j)

flat_of_map : {X Y A : Type 0} (f : Y → List A) (g : X → Y) (xs : List X) → flat_map f (map g xs) ≡ flat_map (λ x. f (g x)) xs
flat_of_map f g [] = refl
flat_of_map f g (x ∷ xs) = ap (λ rest. f (g x) ++ rest) (flat_of_map f g xs)

same_topic_znodes : (epoch : ℤ) (t : TopicEntry) → topic_znodes (returned epoch t) ≡ topic_znodes (topic_at_epoch epoch t)
same_topic_znodes epoch t =
    let assignments : map assignment_of (map (returned_partition epoch) t.partitions) ≡ map assignment_of (map (at_epoch epoch) t.partitions) =
    map-map assignment_of (returned_partition epoch) t.partitions ∙ sym (map-map assignment_of (at_epoch epoch) t.partitions) in
    let states : flat_map (partition_znodes t.name) (map (returned_partition epoch) t.partitions) ≡ flat_map (partition_znodes t.name) (map (at_epoch epoch) t.partitions) =
    flat_of_map (partition_znodes t.name) (returned_partition epoch) t.partitions ∙ sym (flat_of_map (partition_znodes t.name) (at_epoch epoch) t.partitions) in
    (λ j. znode (key.Topic t.name) (body.Topic t.id (assignments j)) ∷ bare (partitions_path t.name) ∷ (states j ++ topic_config_znodes t.name t.pairs))

same_topics : (epoch : ℤ) (topics : List TopicEntry) → flat_map topic_znodes (map (returned epoch) topics) ≡ flat_map topic_znodes (map (topic_at_epoch epoch) topics)
same_topics epoch topics =
    flat_of_map topic_znodes (returned epoch) topics
    ∙ flat_same (λ t. topic_znodes (returned epoch t)) (λ t. topic_znodes (topic_at_epoch epoch t)) topics (λ t has. same_topic_znodes epoch t)
    ∙ sym (flat_of_map topic_znodes (topic_at_epoch epoch) topics)

-- ---- access control entries

module _ {A K : Type 0} {cmp : K → K → Ordering} (o : TotalOrder cmp) (key : A → K) where
  -- a key that no item has
  missing_put : (k : K) (xs ys : List A) → ((x : A) → Contains xs x → key x ≢ k) → find cmp key k (all_put cmp key xs ys) ≡ find cmp key k ys
  missing_put k [] ys h = refl
  missing_put k (x ∷ xs) ys h = missing_put k xs (put cmp key x ys) (λ y has. h y (Contains-tail x xs y has)) ∙ find-put_other o key x ys k (λ e. h x (Contains-head x xs) (sym e))

-- the znode of the entries of a resource
abbrev resource_znode : List AclEntry → List ℕ → Rendered
resource_znode acls path = record { path = path; body = text_of_body (body.Acls (rows_on acls path)) }

path_of_znode : (acls : List AclEntry) (a : AclEntry) → acl_znode acls a ≡ resource_znode acls (path_of (acl_key a.row))
path_of_znode acls a = refl

resource_found : (acls : List AclEntry) (base : List Rendered) (path : List ℕ) (a : AclEntry) → Contains acls a → path_of (acl_key a.row) ≡ path
    → find bytes_cmp path_of_rendered path (all_put bytes_cmp path_of_rendered (map (acl_znode acls) acls) base) ≡ Some (resource_znode acls path)
resource_found acls base path a has is =
    let x : Rendered = acl_znode acls a in
    let within : Contains (map (acl_znode acls) acls) x = to_map (acl_znode acls) acls a has in
    let found = put_is_found bytes_order path_of_rendered (map (acl_znode acls) acls) base x within in
    let among = from_map (acl_znode acls) acls found.0 (found_among bytes_order path_of_rendered (map (acl_znode acls) acls) base x found.0 within found.1) in
    let at : found.0.path ≡ path_of (acl_key a.row) = key_of_found bytes_order path_of_rendered (path_of (acl_key a.row)) (all_put bytes_cmp path_of_rendered (map (acl_znode acls) acls) base) found.0 found.1 in
    ap (λ p. find bytes_cmp path_of_rendered p (all_put bytes_cmp path_of_rendered (map (acl_znode acls) acls) base)) (sym is)
    ∙ found.1 ∙ ap (λ z. Some z) among.is
    ∙ ap (λ p. Some (resource_znode acls p)) (sym (ap (λ (z : Rendered). z.path) among.is) ∙ at ∙ is)

resource_missing : (acls : List AclEntry) (base : List Rendered) (path : List ℕ) → ((a : AclEntry) → Contains acls a → path_of (acl_key a.row) ≢ path)
    → find bytes_cmp path_of_rendered path (all_put bytes_cmp path_of_rendered (map (acl_znode acls) acls) base) ≡ find bytes_cmp path_of_rendered path base
resource_missing acls base path none = missing_put bytes_order path_of_rendered path (map (acl_znode acls) acls) base
    (λ x has e. let f = from_map (acl_znode acls) acls x has in none f.source f.has (sym (ap (λ (z : Rendered). z.path) f.is) ∙ e))

-- lists with the same entries of each resource are rendered alike
entries_alike : (one other : List AclEntry) → ((row : AclRow) → entries_of_resource row one ≡ entries_of_resource row other) → (base : List Rendered) → Rises bytes_cmp path_of_rendered base
    → all_put bytes_cmp path_of_rendered (map (acl_znode one) one) base ≡ all_put bytes_cmp path_of_rendered (map (acl_znode other) other) base
entries_alike one other same base rise = same_items bytes_order path_of_rendered (all_put bytes_cmp path_of_rendered (map (acl_znode one) one) base) (all_put bytes_cmp path_of_rendered (map (acl_znode other) other) base)
    (Rises-all_put bytes_order path_of_rendered (map (acl_znode one) one) base rise) (Rises-all_put bytes_order path_of_rendered (map (acl_znode other) other) base rise) (λ path. by path (any_or_none path one) (any_or_none path other))
  where
    on : (path : List ℕ) (row : AclRow) → path_of (acl_key row) ≡ path → rows_on one path ≡ rows_on other path
    on path row is = ap (rows_on one) (sym is) ∙ same row ∙ ap (rows_on other) is

    by : (path : List ℕ) → ((a : AclEntry) × Contains one a × (path_of (acl_key a.row) ≡ path)) ⊎ ((a : AclEntry) → Contains one a → path_of (acl_key a.row) ≢ path)
        → ((a : AclEntry) × Contains other a × (path_of (acl_key a.row) ≡ path)) ⊎ ((a : AclEntry) → Contains other a → path_of (acl_key a.row) ≢ path)
        → find bytes_cmp path_of_rendered path (all_put bytes_cmp path_of_rendered (map (acl_znode one) one) base) ≡ find bytes_cmp path_of_rendered path (all_put bytes_cmp path_of_rendered (map (acl_znode other) other) base)
    by path (inl a) (inl b) =
        resource_found one base path a.0 a.1 a.2 ∙ ap (λ es. Some (record { path = path; body = text_of_body (body.Acls es) })) (on path a.0.row a.2) ∙ sym (resource_found other base path b.0 b.1 b.2)
    by path (inl a) (inr none) = absurd (let b = one_on path other (λ e. some_on path one a.0 a.1 a.2 (on path a.0.row a.2 ∙ e)) in none b.0 b.1 b.2)
    by path (inr none) (inl b) = absurd (let a = one_on path one (λ e. some_on path other b.0 b.1 b.2 (sym (on path b.0.row b.2) ∙ e)) in none a.0 a.1 a.2)
    by path (inr none) (inr others) = resource_missing one base path none ∙ sym (resource_missing other base path others)

-- ---- all znodes

abbrev puts : List Rendered → List Rendered → List Rendered
puts = all_put bytes_cmp path_of_rendered

-- a rendering, group by group
grouped : (topics configs quotas acls producer base : List Rendered) → puts (topics ++ (configs ++ (quotas ++ (acls ++ producer)))) base ≡ puts producer (puts acls (puts quotas (puts configs (puts topics base))))
grouped topics configs quotas acls producer base =
    all_put-append bytes_order path_of_rendered topics (configs ++ (quotas ++ (acls ++ producer))) base
    ∙ all_put-append bytes_order path_of_rendered configs (quotas ++ (acls ++ producer)) (puts topics base)
    ∙ all_put-append bytes_order path_of_rendered quotas (acls ++ producer) (puts configs (puts topics base))
    ∙ all_put-append bytes_order path_of_rendered acls producer (puts quotas (puts configs (puts topics base)))

-- What two lists of metadata that are rendered alike share.
pub record IsAlike (j g : Image) : Type 0 where
  pub topics : flat_map topic_znodes j.topics ≡ flat_map topic_znodes g.topics
  pub configs : j.broker_configs ≡ g.broker_configs
  pub quotas : j.quotas ≡ g.quotas
  pub users : j.users ≡ g.users
  pub acls : (row : AclRow) → entries_of_resource row j.acls ≡ entries_of_resource row g.acls
  pub next : j.next_producer ≡ g.next_producer

pub rendered_alike : (j g : Image) → IsAlike j g → render j ≡ render g
unfolding render
rendered_alike j g a =
    let base : List Rendered = map bare roots in
    let first : List Rendered = puts (quota_znodes j.quotas j.users) (puts (map config_znode j.broker_configs) (puts (flat_map topic_znodes j.topics) base)) in
    let rise : Rises bytes_cmp path_of_rendered first =
    Rises-all_put bytes_order path_of_rendered (quota_znodes j.quotas j.users) (puts (map config_znode j.broker_configs) (puts (flat_map topic_znodes j.topics) base))
    (Rises-all_put bytes_order path_of_rendered (map config_znode j.broker_configs) (puts (flat_map topic_znodes j.topics) base)
    (Rises-all_put bytes_order path_of_rendered (flat_map topic_znodes j.topics) base roots_rise)) in
    grouped (flat_map topic_znodes j.topics) (map config_znode j.broker_configs) (quota_znodes j.quotas j.users) (map (acl_znode j.acls) j.acls) (producer_znodes j.next_producer) base
    ∙ ap (puts (producer_znodes j.next_producer)) (entries_alike j.acls g.acls a.acls first rise)
    ∙ (λ n. puts (producer_znodes (a.next n)) (puts (map (acl_znode g.acls) g.acls) (puts (quota_znodes (a.quotas n) (a.users n)) (puts (map config_znode (a.configs n)) (puts (a.topics n) base)))))
    ∙ sym (grouped (flat_map topic_znodes g.topics) (map config_znode g.broker_configs) (quota_znodes g.quotas g.users) (map (acl_znode g.acls) g.acls) (producer_znodes g.next_producer) base)

-- ---- producer ids

further : (next : ℤ) → (next +ℤ pos 999) +ℤ pos 1 ≡ next +ℤ pos 1000
further next = omega (arith, ints)

module _ (i : Image) (o : IsInOrder i) (w : IsWritable i) (m : MayReturn i) where
  abbrev rows : List Row
  rows = znodes_of i

  abbrev block : ℤ → Rendered
  block next = znode key.Producer (body.Producer (negsuc 0) next (next +ℤ pos 999))

  block_found : (next : ℤ) → i.next_producer ≡ Some next → find bytes_cmp path_of_rendered (path_of key.Producer) (render i) ≡ Some (block next)
  block_found next is =
      let x : Rendered = block next in
      let there : Contains (producer_znodes i.next_producer) x = subst (λ n. Contains (producer_znodes n) x) (sym is) (Contains-head x []) in
      let ending : Contains (last i o w m) x = Contains-append_right (map (acl_znode i.acls) i.acls) (producer_znodes i.next_producer) x there in
      let all : List Rendered = users i o w m ++ last i o w m in
      let base : List Rendered = second_base i o w m in
      let found = put_is_found bytes_order path_of_rendered all base x (Contains-append_right (users i o w m) (last i o w m) x ending) in
      let among : Contains (last i o w m) found.0 = found_among bytes_order path_of_rendered (last i o w m) (puts (users i o w m) base) x found.0 ending
      (ap (find bytes_cmp path_of_rendered (path_of key.Producer)) (sym (all_put-append bytes_order path_of_rendered (users i o w m) (last i o w m) base)) ∙ found.1) in
      let at : found.0.path ≡ path_of key.Producer = key_of_found bytes_order path_of_rendered (path_of key.Producer) (puts all base) found.0 found.1 in
      ap (find bytes_cmp path_of_rendered (path_of key.Producer)) (after_own_put i o w m) ∙ found.1 ∙ ap (λ z. Some z) (is_block found.0 at (Contains-append_cases (map (acl_znode i.acls) i.acls) (producer_znodes i.next_producer) found.0 among))
    where
      of_block : (r : Rendered) → Contains (producer_znodes (Some next)) r → r ≡ block next
      of_block r has = elim (Contains-cons_cases (block next) [] r has) [
        | inl e ↦ sym e
        | inr none ↦ absurd (Contains-nil r none)
      ]

      is_block : (r : Rendered) → r.path ≡ path_of key.Producer → Contains (map (acl_znode i.acls) i.acls) r ⊎ Contains (producer_znodes i.next_producer) r → r ≡ block next
      is_block r at (inl acl) =
          let f = from_map (acl_znode i.acls) i.acls r acl in
          let g = (facts_of_acl i o w f.source f.has).good in
          let same : Some (acl_key f.source.row) ≡ Some key.Producer = sym (path_holds (acl_key f.source.row) g.0 g.1) ∙ ap key_of (sym (ap (λ (z : Rendered). z.path) f.is) ∙ at) ∙ producer_key in
          absurd (cc)
      is_block r at (inr producer) = of_block r (subst (λ n. Contains (producer_znodes n) r) is producer)

  no_block : i.next_producer ≡ None → (r : Rendered) (s : Shown i r) → who_of i o w m r s ≡ Some key.Producer → r ≡ bare (path_of key.Producer)
  no_block none r (shown_topic t has is) e = absurd (cc)
  no_block none r (shown_state t p has within is) e = absurd (cc)
  no_block none r (shown_topic_config t has p ps some is) e = absurd (cc)
  no_block none r (shown_config c has is) e = absurd (cc)
  no_block none r (shown_parent user good is) e = absurd (cc)
  no_block none r (shown_quotas q k has named is) e = absurd (no_quota_kind i o w m q k has named key.Producer (cc) refl)
  no_block none r (shown_user u has is) e = absurd (cc)
  no_block none r (shown_entries a has is) e = absurd (cc)
  no_block none r (shown_producer next some is) e = absurd (some_is_none (sym some ∙ none))
  no_block none r (shown_blank is) e = is
  no_block none r (shown_scaffold scaffold) e = absurd (cc)

  pub next_is_said : said next_said (path_of key.Producer) rows ≡ option_map (λ next. next +ℤ pos 1000) i.next_producer
  next_is_said = by i.next_producer refl
    where
      some_block : (next : ℤ) → i.next_producer ≡ Some next → said next_said (path_of key.Producer) rows ≡ Some (next +ℤ pos 1000)
      some_block next is =
          said_found i o w m next_said (path_of key.Producer) (block next) (block_found next is)
          ∙ held_says i o w m next_said (block next) key.Producer (body.Producer (negsuc 0) next (next +ℤ pos 999)) (producer_held i o w next is m.next)
          ∙ ap (λ n. Some n) (further next)

      blank : i.next_producer ≡ None → (r : Option Rendered) → find bytes_cmp path_of_rendered (path_of key.Producer) (render i) ≡ r → said next_said (path_of key.Producer) rows ≡ None
      blank none None e = said_missing i o w m next_said (path_of key.Producer) e
      blank none (Some r) e =
          let has : Contains (render i) r = found_is_contained bytes_order path_of_rendered (path_of key.Producer) (render i) r e in
          let at : r.path ≡ path_of key.Producer = key_of_found bytes_order path_of_rendered (path_of key.Producer) (render i) r e in
          let s : Shown i r = shown i o w r has in
          let is : r ≡ bare (path_of key.Producer) = no_block none r s (sym (who_is i o w m r s) ∙ ap key_of at ∙ producer_key) in
          said_found i o w m next_said (path_of key.Producer) r e
          ∙ held_says i o w m next_said r key.Producer body.Blank (subst (λ y. IsHeld y key.Producer body.Blank) (sym is) (blank_held i o w))

      by : (next : Option ℤ) → i.next_producer ≡ next → said next_said (path_of key.Producer) rows ≡ option_map (λ next. next +ℤ pos 1000) i.next_producer
      by None e = blank e (find bytes_cmp path_of_rendered (path_of key.Producer) (render i)) refl ∙ sym (ap (option_map (λ next. next +ℤ pos 1000)) e)
      by (Some next) e = some_block next e ∙ sym (ap (option_map (λ next. next +ℤ pos 1000)) e)

  -- what returns at the greatest epoch is rendered as the metadata that has grown
  pub returned_alike : (j : Image) → j.topics ≡ map (returned MAX_EPOCH) i.topics → j.broker_configs ≡ i.broker_configs → j.quotas ≡ i.quotas → j.users ≡ i.users
      → ((row : AclRow) → entries_of_resource row j.acls ≡ entries_of_resource row i.acls) → j.next_producer ≡ said next_said (path_of key.Producer) rows → render j ≡ render (greatest_image i)
  returned_alike j topics configs quotas users acls next = rendered_alike j (greatest_image i) (record {
    topics = ap (flat_map topic_znodes) topics ∙ same_topics MAX_EPOCH i.topics;
    configs = configs;
    quotas = quotas;
    users = users;
    acls = acls;
    next = next ∙ next_is_said;
  })
