-- What each znode of a rendering is.
use Rattle.std.proofs.Common.{◌≡◌, ℕ, ℤ, pos, negsuc, List, [], ◌∷◌, ◌++◌, map, Option, Some, None, Contains, refl, sym, ap, ◌∙◌, subst, inl, inr}
use Rattle.std.specs.Prelude.{◌+ℤ◌}
use Rattle.std.specs.List.{flat_map}
use Rattle.std.proofs.lemmas.List.Elements.{All-contains, Contains-append_cases}
use Rattle.kz_types.specs.declared.tree.Rendered.{Rendered}
use Rattle.kz_types.specs.declared.bodies.Pair.{Pair}
use Rattle.kz_types.specs.declared.bodies.Body.TheVariants as body
use Rattle.kz_types.specs.declared.image.Configuration.{Configuration}
use Rattle.kz_types.specs.declared.image.TopicEntry.{TopicEntry}
use Rattle.kz_types.specs.declared.image.PartitionEntry.{PartitionEntry}
use Rattle.kz_types.specs.declared.image.QuotaEntry.{QuotaEntry}
use Rattle.kz_types.specs.declared.image.ScramEntry.{ScramEntry}
use Rattle.kz_types.specs.declared.image.AclEntry.{AclEntry}
use Rattle.kz_types.specs.declared.key.EntityKey.{EntityKey}
use Rattle.kz_types.specs.declared.key.EntityKey.TheVariants as key
use Rattle.std.proofs.lemmas.Bool.{and_parts}
use Rattle.kz_types.specs.Paths.{roots, is_absent_or, is_not_empty, is_legal, key_of, path_of}
use Rattle.kz_types.proofs.Order.{bytes_order}
use Rattle.kz_types.proofs.Lookup.{Contains-nil, Contains-cons_cases}
use Rattle.kz_types.proofs.Puts.{Contains-all_put_cases}
use Rattle.kz_spec_data.specs.Tree.{path_of_rendered}
use Rattle.kz_spec_data.specs.Metadata.{Image}
use Rattle.kz_spec_data.specs.InOrder.{IsTopicInOrder, IsQuotaFilled, IsInOrder}
use Rattle.kz_spec_data.specs.Legal.{IsTopic, IsPartition}
use Rattle.kz_spec_data.specs.Rendering.{bare, znode, topic_znode, partitions_path, number_path, state_body, partition_znodes, topic_config_znodes, topic_znodes, config_znode, client_parents, quota_parents, znode_of_quotas, own_znodes, user_znode, quota_znodes, acl_znode, producer_znodes, entity_znodes, render}
use Rattle.kz_laws_values.proofs.Legal.{IsGoodKey}
use Rattle.kz_laws_values.proofs.Texts.{key_good}
use Rattle.kz_laws_znodes.specs.RoundTrip.{IsPartitionWritable, IsTopicWritable, IsWritable}
use Rattle.kz_laws_znodes.proofs.Within.{from_flat, from_map}
use Rattle.kz_laws_znodes.proofs.Scaffolds.{IsScaffold, partitions_scaffold, number_scaffold, clients_path, clients_scaffold, root_is}

-- What is known of a topic.
pub record TopicFacts (t : TopicEntry) : Type 0 where
  pub legal : IsTopic t
  pub order : IsTopicInOrder t
  pub writable : IsTopicWritable t

-- What is known of one of its partitions.
pub record PartitionFacts (p : PartitionEntry) : Type 0 where
  pub legal : IsPartition p
  pub writable : IsPartitionWritable p

-- what a znode of the rendering is
pub data Shown (i : Image) (r : Rendered) : Type 0 where
  shown_topic : (t : TopicEntry) → Contains i.topics t → r ≡ topic_znode t → Shown i r
  shown_state : (t : TopicEntry) (p : PartitionEntry) → Contains i.topics t → Contains t.partitions p → r ≡ znode (key.Partition t.name p.number) (state_body p.row) → Shown i r
  shown_topic_config : (t : TopicEntry) → Contains i.topics t → (p : Pair) (ps : List Pair) → t.pairs ≡ p ∷ ps → r ≡ znode (key.TopicConfig t.name) (body.Config t.pairs) → Shown i r
  shown_config : (c : Configuration) → Contains i.broker_configs c → r ≡ config_znode c → Shown i r
  shown_parent : (user : Option (List ℕ)) → IsGoodKey (key.User user) → r ≡ bare (path_of (key.User user)) → Shown i r
  shown_quotas : (q : QuotaEntry) (k : EntityKey) → Contains i.quotas q → key_of q.path ≡ Some k → r ≡ znode k (body.Quota q.quotas []) → Shown i r
  shown_user : (u : ScramEntry) → Contains i.users u → r ≡ user_znode i.quotas u → Shown i r
  shown_entries : (a : AclEntry) → Contains i.acls a → r ≡ acl_znode i.acls a → Shown i r
  shown_producer : (next : ℤ) → i.next_producer ≡ Some next → r ≡ znode key.Producer (body.Producer (negsuc 0) next (next +ℤ pos 999)) → Shown i r
  shown_blank : r ≡ bare (path_of key.Producer) → Shown i r
  shown_scaffold : IsScaffold r.path → Shown i r

module _ (i : Image) (o : IsInOrder i) (w : IsWritable i) where
  pub topic_facts : (t : TopicEntry) → Contains i.topics t → TopicFacts t
  topic_facts t has = record {
    legal = All-contains IsTopic i.topics t o.legal.topics.each has;
    order = All-contains IsTopicInOrder i.topics t o.topics.within has;
    writable = All-contains IsTopicWritable i.topics t w.topics has;
  }

  pub partition_facts : (t : TopicEntry) (p : PartitionEntry) → Contains i.topics t → Contains t.partitions p → PartitionFacts p
  partition_facts t p has within =
      let f = topic_facts t has in record {
        legal = All-contains IsPartition t.partitions p f.legal.each_partition within;
        writable = All-contains IsPartitionWritable t.partitions p f.writable.partitions within;
      }

  -- ---- topics

  of_partition : (t : TopicEntry) (p : PartitionEntry) → Contains i.topics t → Contains t.partitions p → (r : Rendered) → Contains (partition_znodes t.name p) r → Shown i r
  of_partition t p has within r at =
      let f = topic_facts t has in
      let g = partition_facts t p has within in
      elim (Contains-cons_cases (bare (number_path t.name p.number)) (znode (key.Partition t.name p.number) (state_body p.row) ∷ []) r at) [
        | inl e ↦ shown_scaffold (subst (λ (x : Rendered). IsScaffold x.path) e (number_scaffold t.name p.number f.legal.named g.legal.0 g.writable.number))
        | inr later ↦ elim (Contains-cons_cases (znode (key.Partition t.name p.number) (state_body p.row)) [] r later) [
          | inl e ↦ shown_state t p has within (sym e)
          | inr none ↦ absurd (Contains-nil r none)
        ]
      ]

  of_config : (t : TopicEntry) → Contains i.topics t → (pairs : List Pair) → t.pairs ≡ pairs → (r : Rendered) → Contains (topic_config_znodes t.name pairs) r → Shown i r
  of_config t has [] is r at = absurd (Contains-nil r at)
  of_config t has (p ∷ ps) is r at = elim (Contains-cons_cases (znode (key.TopicConfig t.name) (body.Config (p ∷ ps))) [] r at) [
    | inl e ↦ shown_topic_config t has p ps is (sym e ∙ ap (λ pairs. znode (key.TopicConfig t.name) (body.Config pairs)) (sym is))
    | inr none ↦ absurd (Contains-nil r none)
  ]

  of_topic : (t : TopicEntry) → Contains i.topics t → (r : Rendered) → Contains (topic_znodes t) r → Shown i r
  of_topic t has r at = elim (Contains-cons_cases (topic_znode t) (bare (partitions_path t.name) ∷ (flat_map (partition_znodes t.name) t.partitions ++ topic_config_znodes t.name t.pairs)) r at) [
    | inl e ↦ shown_topic t has (sym e)
    | inr later ↦ elim (Contains-cons_cases (bare (partitions_path t.name)) (flat_map (partition_znodes t.name) t.partitions ++ topic_config_znodes t.name t.pairs) r later) [
      | inl e ↦ shown_scaffold (subst (λ (x : Rendered). IsScaffold x.path) e (partitions_scaffold t.name (topic_facts t has).legal.named))
      | inr below ↦ elim (Contains-append_cases (flat_map (partition_znodes t.name) t.partitions) (topic_config_znodes t.name t.pairs) r below) [
        | inl p ↦ let f = from_flat (partition_znodes t.name) t.partitions r p in of_partition t f.source has f.has r f.gives
        | inr c ↦ of_config t has t.pairs refl r c
      ]
    ]
  ]

  -- ---- quotas

  pub quota_key_good : (q : QuotaEntry) (k : EntityKey) → Contains i.quotas q → key_of q.path ≡ Some k → IsGoodKey k
  quota_key_good q k has is = key_good q.path k (All-contains IsQuotaFilled i.quotas q o.quotas.filled has).2 is

  parent_is_good : (user client : Option (List ℕ)) → IsGoodKey (key.UserClient user client) → IsGoodKey (key.User user)
  unfolding is_legal
  parent_is_good user client g = ((and_parts (is_absent_or is_not_empty user) (is_absent_or is_not_empty client) g.0).0, g.1.0)

  of_parents : (q : QuotaEntry) → Contains i.quotas q → (k : Option EntityKey) → key_of q.path ≡ k → (r : Rendered) → Contains (client_parents k) r → Shown i r
  of_parents q has None is r at = absurd (Contains-nil r at)
  of_parents q has (Some (key.Topic name)) is r at = absurd (Contains-nil r at)
  of_parents q has (Some (key.Partition topic partition)) is r at = absurd (Contains-nil r at)
  of_parents q has (Some (key.TopicConfig name)) is r at = absurd (Contains-nil r at)
  of_parents q has (Some (key.BrokerConfig broker)) is r at = absurd (Contains-nil r at)
  of_parents q has (Some (key.Client client)) is r at = absurd (Contains-nil r at)
  of_parents q has (Some (key.User user)) is r at = absurd (Contains-nil r at)
  of_parents q has (Some (key.UserClient user client)) is r at =
      let g = parent_is_good user client (quota_key_good q (key.UserClient user client) has is) in
      elim (Contains-cons_cases (bare (path_of (key.User user))) (bare (clients_path user) ∷ []) r at) [
        | inl e ↦ shown_parent user g (sym e)
        | inr later ↦ elim (Contains-cons_cases (bare (clients_path user)) [] r later) [
          | inl e ↦ shown_scaffold (subst (λ (x : Rendered). IsScaffold x.path) e (clients_scaffold user g.1))
          | inr none ↦ absurd (Contains-nil r none)
        ]
      ]
  of_parents q has (Some (key.Ip address)) is r at = absurd (Contains-nil r at)
  of_parents q has (Some (key.Acl pattern kind name)) is r at = absurd (Contains-nil r at)
  of_parents q has (Some key.Producer) is r at = absurd (Contains-nil r at)

  of_own : (q : QuotaEntry) → Contains i.quotas q → (k : Option EntityKey) → key_of q.path ≡ k → (r : Rendered) → Contains (znode_of_quotas q.quotas k) r → Shown i r
  of_own q has None is r at = absurd (Contains-nil r at)
  of_own q has (Some k) is r at = elim (Contains-cons_cases (znode k (body.Quota q.quotas [])) [] r at) [
    | inl e ↦ shown_quotas q k has is (sym e)
    | inr none ↦ absurd (Contains-nil r none)
  ]

  -- the znodes that are put after those of clients' parents
  abbrev pub after_parents : List Rendered
  after_parents = flat_map own_znodes i.quotas ++ map (user_znode i.quotas) i.users

  pub of_after : (r : Rendered) → Contains after_parents r → Shown i r
  of_after r at = elim (Contains-append_cases (flat_map own_znodes i.quotas) (map (user_znode i.quotas) i.users) r at) [
    | inl own ↦ let f = from_flat own_znodes i.quotas r own in of_own f.source f.has (key_of f.source.path) refl r f.gives
    | inr user ↦ let f = from_map (user_znode i.quotas) i.users r user in shown_user f.source f.has f.is
  ]

  -- ---- the others

  of_producer : (next : Option ℤ) → i.next_producer ≡ next → (r : Rendered) → Contains (producer_znodes next) r → Shown i r
  of_producer None is r at = absurd (Contains-nil r at)
  of_producer (Some next) is r at = elim (Contains-cons_cases (znode key.Producer (body.Producer (negsuc 0) next (next +ℤ pos 999))) [] r at) [
    | inl e ↦ shown_producer next is (sym e)
    | inr none ↦ absurd (Contains-nil r none)
  ]

  -- the znodes that are put after those of quotas
  abbrev pub after_quotas : List Rendered
  after_quotas = map (acl_znode i.acls) i.acls ++ producer_znodes i.next_producer

  pub of_last : (r : Rendered) → Contains after_quotas r → Shown i r
  of_last r at = elim (Contains-append_cases (map (acl_znode i.acls) i.acls) (producer_znodes i.next_producer) r at) [
    | inl acl ↦ let f = from_map (acl_znode i.acls) i.acls r acl in shown_entries f.source f.has f.is
    | inr block ↦ of_producer i.next_producer refl r block
  ]

  of_quotas : (r : Rendered) → Contains (quota_znodes i.quotas i.users) r → Shown i r
  of_quotas r at = elim (Contains-append_cases (flat_map quota_parents i.quotas) after_parents r at) [
    | inl parent ↦ let f = from_flat quota_parents i.quotas r parent in of_parents f.source f.has (key_of f.source.path) refl r f.gives
    | inr after ↦ of_after r after
  ]

  of_entities : (r : Rendered) → Contains (entity_znodes i) r → Shown i r
  of_entities r at = elim (Contains-append_cases (flat_map topic_znodes i.topics) (map config_znode i.broker_configs ++ (quota_znodes i.quotas i.users ++ after_quotas)) r at) [
    | inl topic ↦ let f = from_flat topic_znodes i.topics r topic in of_topic f.source f.has r f.gives
    | inr later ↦ elim (Contains-append_cases (map config_znode i.broker_configs) (quota_znodes i.quotas i.users ++ after_quotas) r later) [
      | inl config ↦ let f = from_map config_znode i.broker_configs r config in shown_config f.source f.has f.is
      | inr more ↦ elim (Contains-append_cases (quota_znodes i.quotas i.users) after_quotas r more) [
        | inl quota ↦ of_quotas r quota
        | inr last ↦ of_last r last
      ]
    ]
  ]

  of_root : (r : Rendered) → Contains (map bare roots) r → Shown i r
  of_root r at =
      let f = from_map bare roots r at in
      elim (root_is f.source f.has) [
        | inl scaffold ↦ shown_scaffold (subst (λ (x : Rendered). IsScaffold x.path) (sym f.is) scaffold)
        | inr producer ↦ shown_blank (f.is ∙ ap bare producer)
      ]

  pub shown : (r : Rendered) → Contains (render i) r → Shown i r
  unfolding render
  shown r has = elim (Contains-all_put_cases bytes_order path_of_rendered (entity_znodes i) (map bare roots) r has) [
    | inl entity ↦ of_entities r entity
    | inr root ↦ of_root r root
  ]
