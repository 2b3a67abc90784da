-- What a rendering has at the path of each entity.
use Rattle.std.proofs.Common.{◌≡◌, ◌≢◌, ◌⊎◌, ℕ, ℤ, ◌≤ℤ◌, pos, negsuc, false, List, [], ◌∷◌, ◌++◌, map, Option, Some, None, Contains, All, refl, sym, ap, ◌∙◌, subst, inl, inr, rules}
use Rattle.std.specs.Prelude.{◌+ℤ◌}
use Rattle.std.specs.List.{flat_map, filter}
use Rattle.std.specs.Str.{bytes_eq}
use Rattle.std.specs.Ordering.{int_cmp}
use Rattle.std.proofs.lemmas.Bool.{false≢true}
use Rattle.std.proofs.lemmas.List.Elements.{All-contains, Contains-append_left, Contains-append_right}
use Rattle.kz_types.specs.declared.tree.Rendered.{Rendered}
use Rattle.kz_types.specs.declared.row.AclRow.{AclRow}
use Rattle.kz_types.specs.declared.bodies.Pair.{Pair}
use Rattle.kz_types.specs.declared.bodies.Body.{Body}
use Rattle.kz_types.specs.declared.bodies.Body.TheVariants as body
use Rattle.kz_types.specs.declared.image.Configuration.{Configuration}
use Rattle.kz_types.specs.declared.image.TopicEntry.{TopicEntry}
use Rattle.kz_types.specs.declared.image.PartitionEntry.{PartitionEntry}
use Rattle.kz_types.specs.declared.image.QuotaEntry.{QuotaEntry}
use Rattle.kz_types.specs.declared.image.AclEntry.{AclEntry}
use Rattle.kz_types.specs.declared.key.EntityKey.{EntityKey}
use Rattle.kz_types.specs.declared.key.EntityKey.TheVariants as key
use Rattle.kz_types.specs.Paths.{roots, key_of, path_of}
use Rattle.kz_types.specs.Order.{bytes_cmp}
use Rattle.kz_types.specs.Ordered.{find, Rises}
use Rattle.kz_types.proofs.Order.{bytes_order, int_order}
use Rattle.kz_types.proofs.Lookup.{same_some, found_is_contained, key_of_found, contained_is_found, Contains-head, Contains-tail}
use Rattle.kz_types.proofs.Puts.{Rises-all_put}
use Rattle.kz_spec_data.specs.Tree.{path_of_rendered}
use Rattle.kz_spec_data.specs.Metadata.{Image, name_of_topic, number_of_partition}
use Rattle.kz_spec_data.specs.InOrder.{IsInOrder}
use Rattle.kz_spec_data.specs.Rendering.{bare, znode, topic_znode, partitions_path, number_path, assignment_of, state_body, partition_znodes, topic_config_znodes, topic_znodes, config_znode, quotas_of_user, user_znode, quota_znodes, acl_key, row_of_acl, acl_znode, producer_znodes, entity_znodes, render}
use Rattle.kz_laws_values.proofs.Legal.{IsGoodKey}
use Rattle.kz_laws_values.proofs.Keys.{path_holds}
use Rattle.kz_laws_znodes.specs.RoundTrip.{IsWritable, HasEpoch, MayReturn}
use Rattle.kz_laws_znodes.proofs.Within.{to_flat, to_map}
use Rattle.kz_laws_znodes.proofs.Scaffolds.{IsScaffold}
use Rattle.kz_laws_znodes.proofs.Shown.{Shown, shown_topic, shown_state, shown_topic_config, shown_config, shown_parent, shown_quotas, shown_user, shown_entries, shown_producer, shown_blank, shown_scaffold, shown, topic_facts, after_quotas}
use Rattle.kz_laws_znodes.proofs.Held.{IsHeld, has_quotas, quota_kind_of, topic_held, state_held, topic_config_held, config_held, quota_held, user_held, parent_held, resource_rows, entries_held, producer_held, blank_held}
use Rattle.kz_laws_znodes.proofs.Says.{broker_named}
use Rattle.kz_laws_znodes.proofs.Puts.{put_is_found}

pub roots_rise : Rises bytes_cmp path_of_rendered (map bare roots)
unfolding roots
roots_rise = search rules

pub render_rises : (i : Image) → Rises bytes_cmp path_of_rendered (render i)
unfolding render
render_rises i = Rises-all_put bytes_order path_of_rendered (entity_znodes i) (map bare roots) roots_rise

of_same_topic : (u t : TopicEntry) (r : Rendered) → u ≡ t → r ≡ znode (key.TopicConfig u.name) (body.Config u.pairs) → r ≡ znode (key.TopicConfig t.name) (body.Config t.pairs)
of_same_topic u t r same is = is ∙ ap (λ (x : TopicEntry). znode (key.TopicConfig x.name) (body.Config x.pairs)) same

-- What a znode of the rendering holds.
pub record Entry (i : Image) (r : Rendered) : Type 0 where
  pub who : EntityKey
  pub what : Body
  pub holds : IsHeld r who what

module _ (i : Image) (o : IsInOrder i) (w : IsWritable i) (m : MayReturn i) where
  pub low_epoch : (t : TopicEntry) (p : PartitionEntry) → Contains i.topics t → Contains t.partitions p → pos 0 ≤ℤ p.row.controller_epoch
  low_epoch t p has within = All-contains HasEpoch t.partitions p (All-contains (λ (t : TopicEntry). All HasEpoch t.partitions) i.topics t m.epochs has) within

  pub no_quota_kind : (q : QuotaEntry) (k : EntityKey) → Contains i.quotas q → key_of q.path ≡ Some k → (j : EntityKey) → k ≡ j → has_quotas j ≡ false → ⊥
  no_quota_kind q k has named j e none = false≢true (sym none ∙ ap has_quotas (sym e) ∙ quota_kind_of i o w q k has named)

  enter : (r x : Rendered) (k : EntityKey) (b : Body) → r ≡ x → IsHeld x k b → Entry i r ⊎ IsScaffold r.path
  enter r x k b is h = inl (record { who = k; what = b; holds = subst (λ y. IsHeld y k b) (sym is) h })

  -- the entity of each znode, or that it holds none
  pub entry_of : (r : Rendered) → Shown i r → Entry i r ⊎ IsScaffold r.path
  entry_of r (shown_topic t has is) = enter r (topic_znode t) (key.Topic t.name) (body.Topic t.id (map assignment_of t.partitions)) is (topic_held i o w t has)
  entry_of r (shown_state t p has within is) = enter r (znode (key.Partition t.name p.number) (state_body p.row)) (key.Partition t.name p.number) (state_body p.row) is (state_held i o w t p has within (low_epoch t p has within))
  entry_of r (shown_topic_config t has p ps some is) = enter r (znode (key.TopicConfig t.name) (body.Config t.pairs)) (key.TopicConfig t.name) (body.Config t.pairs) is (topic_config_held i o w t has)
  entry_of r (shown_config c has is) = let h = config_held i o w c has in enter r (config_znode c) (key.BrokerConfig h.0) (body.Config c.pairs) is h.2
  entry_of r (shown_parent user good is) = enter r (bare (path_of (key.User user))) (key.User user) (body.Quota [] []) is (parent_held i o w user good)
  entry_of r (shown_quotas q k has named is) = enter r (znode k (body.Quota q.quotas [])) k (body.Quota q.quotas []) is (quota_held i o w q k has named)
  entry_of r (shown_user u has is) = enter r (user_znode i.quotas u) (key.User (Some u.name)) (body.Quota (quotas_of_user u.name i.quotas) u.scrams) is (user_held i o w u has)
  entry_of r (shown_entries a has is) = enter r (acl_znode i.acls a) (acl_key a.row) (body.Acls (resource_rows i o w a.row)) is (entries_held i o w a has)
  entry_of r (shown_producer next some is) = enter r (znode key.Producer (body.Producer (negsuc 0) next (next +ℤ pos 999))) key.Producer (body.Producer (negsuc 0) next (next +ℤ pos 999)) is (producer_held i o w next some m.next)
  entry_of r (shown_blank is) = enter r (bare (path_of key.Producer)) key.Producer body.Blank is (blank_held i o w)
  entry_of r (shown_scaffold scaffold) = inr scaffold

  -- whose znode it is
  abbrev pub who_of : (r : Rendered) → Shown i r → Option EntityKey
  who_of r (shown_topic t has is) = Some (key.Topic t.name)
  who_of r (shown_state t p has within is) = Some (key.Partition t.name p.number)
  who_of r (shown_topic_config t has p ps some is) = Some (key.TopicConfig t.name)
  who_of r (shown_config c has is) = Some (key.BrokerConfig (config_held i o w c has).0)
  who_of r (shown_parent user good is) = Some (key.User user)
  who_of r (shown_quotas q k has named is) = Some k
  who_of r (shown_user u has is) = Some (key.User (Some u.name))
  who_of r (shown_entries a has is) = Some (acl_key a.row)
  who_of r (shown_producer next some is) = Some key.Producer
  who_of r (shown_blank is) = Some key.Producer
  who_of r (shown_scaffold scaffold) = None

  keyed : (r x : Rendered) (k : EntityKey) (b : Body) → r ≡ x → IsHeld x k b → key_of r.path ≡ Some k
  keyed r x k b is h = ap (λ (y : Rendered). key_of y.path) is ∙ h.keyed

  pub who_is : (r : Rendered) (s : Shown i r) → key_of r.path ≡ who_of r s
  who_is r (shown_topic t has is) = keyed r (topic_znode t) (key.Topic t.name) (body.Topic t.id (map assignment_of t.partitions)) is (topic_held i o w t has)
  who_is r (shown_state t p has within is) = keyed r (znode (key.Partition t.name p.number) (state_body p.row)) (key.Partition t.name p.number) (state_body p.row) is (state_held i o w t p has within (low_epoch t p has within))
  who_is r (shown_topic_config t has p ps some is) = keyed r (znode (key.TopicConfig t.name) (body.Config t.pairs)) (key.TopicConfig t.name) (body.Config t.pairs) is (topic_config_held i o w t has)
  who_is r (shown_config c has is) = let h = config_held i o w c has in keyed r (config_znode c) (key.BrokerConfig h.0) (body.Config c.pairs) is h.2
  who_is r (shown_parent user good is) = keyed r (bare (path_of (key.User user))) (key.User user) (body.Quota [] []) is (parent_held i o w user good)
  who_is r (shown_quotas q k has named is) = keyed r (znode k (body.Quota q.quotas [])) k (body.Quota q.quotas []) is (quota_held i o w q k has named)
  who_is r (shown_user u has is) = keyed r (user_znode i.quotas u) (key.User (Some u.name)) (body.Quota (quotas_of_user u.name i.quotas) u.scrams) is (user_held i o w u has)
  who_is r (shown_entries a has is) = keyed r (acl_znode i.acls a) (acl_key a.row) (body.Acls (resource_rows i o w a.row)) is (entries_held i o w a has)
  who_is r (shown_producer next some is) = keyed r (znode key.Producer (body.Producer (negsuc 0) next (next +ℤ pos 999))) key.Producer (body.Producer (negsuc 0) next (next +ℤ pos 999)) is (producer_held i o w next some m.next)
  who_is r (shown_blank is) = keyed r (bare (path_of key.Producer)) key.Producer body.Blank is (blank_held i o w)
  who_is r (shown_scaffold scaffold) = scaffold.none

  -- ---- a znode that is found

  -- What is found at the path of an entity.
  pub record FoundAt (k : EntityKey) (r : Rendered) : Type 0 where
    pub shows : Shown i r
    pub who : who_of r shows ≡ Some k

  pub found_at : (k : EntityKey) (r : Rendered) → IsGoodKey k → find bytes_cmp path_of_rendered (path_of k) (render i) ≡ Some r → FoundAt k r
  found_at k r good e =
      let has : Contains (render i) r = found_is_contained bytes_order path_of_rendered (path_of k) (render i) r e in
      let at : r.path ≡ path_of k = key_of_found bytes_order path_of_rendered (path_of k) (render i) r e in
      let s : Shown i r = shown i o w r has in
      record { shows = s; who = sym (who_is r s) ∙ ap key_of at ∙ path_holds k good.0 good.1 }

  pub same_topic : (t u : TopicEntry) → Contains i.topics t → Contains i.topics u → u.name ≡ t.name → u ≡ t
  same_topic t u has other e = same_some u t (sym (contained_is_found bytes_order name_of_topic i.topics u o.topics.rising other) ∙ ap (λ n. find bytes_cmp name_of_topic n i.topics) e ∙ contained_is_found bytes_order name_of_topic i.topics t o.topics.rising has)

  pub topic_at : (t : TopicEntry) → Contains i.topics t → (r : Rendered) (s : Shown i r) → who_of r s ≡ Some (key.Topic t.name) → r ≡ topic_znode t
  topic_at t has r (shown_topic u other is) e = is ∙ ap topic_znode (same_topic t u has other (cc))
  topic_at t has r (shown_state u p other within is) e = absurd (cc)
  topic_at t has r (shown_topic_config u other p ps some is) e = absurd (cc)
  topic_at t has r (shown_config c other is) e = absurd (cc)
  topic_at t has r (shown_parent user good is) e = absurd (cc)
  topic_at t has r (shown_quotas q k other named is) e = absurd (no_quota_kind q k other named (key.Topic t.name) (cc) refl)
  topic_at t has r (shown_user u other is) e = absurd (cc)
  topic_at t has r (shown_entries a other is) e = absurd (cc)
  topic_at t has r (shown_producer next some is) e = absurd (cc)
  topic_at t has r (shown_blank is) e = absurd (cc)
  topic_at t has r (shown_scaffold scaffold) e = absurd (cc)

  same_partition : (t : TopicEntry) (p q : PartitionEntry) → Contains i.topics t → Contains t.partitions p → Contains t.partitions q → q.number ≡ p.number → q ≡ p
  same_partition t p q has within other e =
      let rise = (topic_facts i o w t has).order.0 in
      same_some q p (sym (contained_is_found int_order number_of_partition t.partitions q rise other) ∙ ap (λ n. find int_cmp number_of_partition n t.partitions) e ∙ contained_is_found int_order number_of_partition t.partitions p rise within)

  pub state_at : (t : TopicEntry) (p : PartitionEntry) → Contains i.topics t → Contains t.partitions p → (r : Rendered) (s : Shown i r) → who_of r s ≡ Some (key.Partition t.name p.number) → r ≡ znode (key.Partition t.name p.number) (state_body p.row)
  state_at t p has within r (shown_topic u other is) e = absurd (cc)
  state_at t p has within r (shown_state u q other inside is) e =
      let topics : u ≡ t = same_topic t u has other (cc) in
      let partitions : q ≡ p = same_partition t p q has within (subst (λ (x : TopicEntry). Contains x.partitions q) topics inside) (cc) in
      is ∙ (λ j. znode (key.Partition (topics j).name (partitions j).number) (state_body (partitions j).row))
  state_at t p has within r (shown_topic_config u other q ps some is) e = absurd (cc)
  state_at t p has within r (shown_config c other is) e = absurd (cc)
  state_at t p has within r (shown_parent user good is) e = absurd (cc)
  state_at t p has within r (shown_quotas q k other named is) e = absurd (no_quota_kind q k other named (key.Partition t.name p.number) (cc) refl)
  state_at t p has within r (shown_user u other is) e = absurd (cc)
  state_at t p has within r (shown_entries a other is) e = absurd (cc)
  state_at t p has within r (shown_producer next some is) e = absurd (cc)
  state_at t p has within r (shown_blank is) e = absurd (cc)
  state_at t p has within r (shown_scaffold scaffold) e = absurd (cc)

  -- the configuration of a topic, where it is found
  pub topic_config_at : (name : List ℕ) (r : Rendered) (s : Shown i r) → who_of r s ≡ Some (key.TopicConfig name)
      → (t : TopicEntry) × Contains i.topics t × (t.name ≡ name) × (t.pairs ≢ []) × (r ≡ znode (key.TopicConfig t.name) (body.Config t.pairs))
  topic_config_at name r (shown_topic u other is) e = absurd (cc)
  topic_config_at name r (shown_state u q other inside is) e = absurd (cc)
  topic_config_at name r (shown_topic_config u other q ps some is) e = (u, other, cc, λ none. absurd (let no : q ∷ ps ≡ [] = sym some ∙ none in cc), is)
  topic_config_at name r (shown_config c other is) e = absurd (cc)
  topic_config_at name r (shown_parent user good is) e = absurd (cc)
  topic_config_at name r (shown_quotas q k other named is) e = absurd (no_quota_kind q k other named (key.TopicConfig name) (cc) refl)
  topic_config_at name r (shown_user u other is) e = absurd (cc)
  topic_config_at name r (shown_entries a other is) e = absurd (cc)
  topic_config_at name r (shown_producer next some is) e = absurd (cc)
  topic_config_at name r (shown_blank is) e = absurd (cc)
  topic_config_at name r (shown_scaffold scaffold) e = absurd (cc)

  -- that of a broker
  pub broker_at : (broker : Option ℤ) (r : Rendered) (s : Shown i r) → who_of r s ≡ Some (key.BrokerConfig broker)
      → (c : Configuration) × Contains i.broker_configs c × (broker_named c.name ≡ Some broker) × IsHeld r (key.BrokerConfig broker) (body.Config c.pairs)
  broker_at broker r (shown_topic u other is) e = absurd (cc)
  broker_at broker r (shown_state u q other inside is) e = absurd (cc)
  broker_at broker r (shown_topic_config u other q ps some is) e = absurd (cc)
  broker_at broker r (shown_config c other is) e =
      let h = config_held i o w c other in
      let same : h.0 ≡ broker = cc in
      (c, other, h.1 ∙ ap (λ b. Some b) same, subst (λ b. IsHeld r (key.BrokerConfig b) (body.Config c.pairs)) same (subst (λ x. IsHeld x (key.BrokerConfig h.0) (body.Config c.pairs)) (sym is) h.2))
  broker_at broker r (shown_parent user good is) e = absurd (cc)
  broker_at broker r (shown_quotas q k other named is) e = absurd (no_quota_kind q k other named (key.BrokerConfig broker) (cc) refl)
  broker_at broker r (shown_user u other is) e = absurd (cc)
  broker_at broker r (shown_entries a other is) e = absurd (cc)
  broker_at broker r (shown_producer next some is) e = absurd (cc)
  broker_at broker r (shown_blank is) e = absurd (cc)
  broker_at broker r (shown_scaffold scaffold) e = absurd (cc)

  -- the entries of the resource of a key
  abbrev pub rows_at : EntityKey → List AclRow
  rows_at k = map row_of_acl (filter (λ (a : AclEntry). bytes_eq (path_of (acl_key a.row)) (path_of k)) i.acls)

  pub acl_at : (pattern kind : ℤ) (name : List ℕ) (r : Rendered) (s : Shown i r) → who_of r s ≡ Some (key.Acl pattern kind name)
      → (a : AclEntry) × Contains i.acls a × (acl_key a.row ≡ key.Acl pattern kind name) × (r ≡ znode (key.Acl pattern kind name) (body.Acls (rows_at (key.Acl pattern kind name))))
  acl_at pattern kind name r (shown_topic u other is) e = absurd (cc)
  acl_at pattern kind name r (shown_state u q other inside is) e = absurd (cc)
  acl_at pattern kind name r (shown_topic_config u other q ps some is) e = absurd (cc)
  acl_at pattern kind name r (shown_config c other is) e = absurd (cc)
  acl_at pattern kind name r (shown_parent user good is) e = absurd (cc)
  acl_at pattern kind name r (shown_quotas q k other named is) e = absurd (no_quota_kind q k other named (key.Acl pattern kind name) (cc) refl)
  acl_at pattern kind name r (shown_user u other is) e = absurd (cc)
  acl_at pattern kind name r (shown_entries a other is) e =
      let same : acl_key a.row ≡ key.Acl pattern kind name = cc in
      (a, other, same, is ∙ ap (λ k. znode k (body.Acls (rows_at k))) same)
  acl_at pattern kind name r (shown_producer next some is) e = absurd (cc)
  acl_at pattern kind name r (shown_blank is) e = absurd (cc)
  acl_at pattern kind name r (shown_scaffold scaffold) e = absurd (cc)

  -- ---- what is there

  pub is_there : (x : Rendered) → Contains (entity_znodes i) x → (r : Rendered) × (find bytes_cmp path_of_rendered x.path (render i) ≡ Some r)
  unfolding render
  is_there x has = put_is_found bytes_order path_of_rendered (entity_znodes i) (map bare roots) x has

  among_topics : (x : Rendered) (t : TopicEntry) → Contains i.topics t → Contains (topic_znodes t) x → Contains (entity_znodes i) x
  among_topics x t has at = Contains-append_left (flat_map topic_znodes i.topics) (map config_znode i.broker_configs ++ (quota_znodes i.quotas i.users ++ after_quotas i o w)) x (to_flat topic_znodes i.topics t x has at)

  abbrev below_topic : TopicEntry → List Rendered
  below_topic t = bare (partitions_path t.name) ∷ (flat_map (partition_znodes t.name) t.partitions ++ topic_config_znodes t.name t.pairs)

  pub topic_found : (t : TopicEntry) → Contains i.topics t → find bytes_cmp path_of_rendered (path_of (key.Topic t.name)) (render i) ≡ Some (topic_znode t)
  topic_found t has =
      let r = is_there (topic_znode t) (among_topics (topic_znode t) t has (Contains-head (topic_znode t) (below_topic t))) in
      let f = found_at (key.Topic t.name) r.0 (topic_held i o w t has).good r.1 in
      r.1 ∙ ap (λ x. Some x) (topic_at t has r.0 f.shows f.who)

  pub state_found : (t : TopicEntry) (p : PartitionEntry) → Contains i.topics t → Contains t.partitions p
      → find bytes_cmp path_of_rendered (path_of (key.Partition t.name p.number)) (render i) ≡ Some (znode (key.Partition t.name p.number) (state_body p.row))
  state_found t p has within =
      let x : Rendered = znode (key.Partition t.name p.number) (state_body p.row) in
      let own : Contains (partition_znodes t.name p) x = Contains-tail (bare (number_path t.name p.number)) (x ∷ []) x (Contains-head x []) in
      let states : Contains (flat_map (partition_znodes t.name) t.partitions) x = to_flat (partition_znodes t.name) t.partitions p x within own in
      let below : Contains (topic_znodes t) x = Contains-tail (topic_znode t) (below_topic t) x (Contains-tail (bare (partitions_path t.name)) (flat_map (partition_znodes t.name) t.partitions ++ topic_config_znodes t.name t.pairs) x (Contains-append_left (flat_map (partition_znodes t.name) t.partitions) (topic_config_znodes t.name t.pairs) x states)) in
      let r = is_there x (among_topics x t has below) in
      let f = found_at (key.Partition t.name p.number) r.0 (state_held i o w t p has within (low_epoch t p has within)).good r.1 in
      r.1 ∙ ap (λ y. Some y) (state_at t p has within r.0 f.shows f.who)

  pub topic_config_found : (t : TopicEntry) → Contains i.topics t → t.pairs ≢ [] → find bytes_cmp path_of_rendered (path_of (key.TopicConfig t.name)) (render i) ≡ Some (znode (key.TopicConfig t.name) (body.Config t.pairs))
  topic_config_found t has some =
      let x : Rendered = znode (key.TopicConfig t.name) (body.Config t.pairs) in
      let below : Contains (topic_znodes t) x = Contains-tail (topic_znode t) (below_topic t) x (Contains-tail (bare (partitions_path t.name)) (flat_map (partition_znodes t.name) t.partitions ++ topic_config_znodes t.name t.pairs) x (Contains-append_right (flat_map (partition_znodes t.name) t.partitions) (topic_config_znodes t.name t.pairs) x (own t.pairs refl))) in
      let r = is_there x (among_topics x t has below) in
      let f = found_at (key.TopicConfig t.name) r.0 (topic_config_held i o w t has).good r.1 in
      let c = topic_config_at t.name r.0 f.shows f.who in
      let same : c.0 ≡ t = same_topic t c.0 has c.1 c.2 in
      let is : r.0 ≡ znode (key.TopicConfig t.name) (body.Config t.pairs) = of_same_topic c.0 t r.0 same c.4 in
      r.1 ∙ ap (λ y. Some y) is
    where
      own : (pairs : List Pair) → t.pairs ≡ pairs → Contains (topic_config_znodes t.name pairs) (znode (key.TopicConfig t.name) (body.Config t.pairs))
      own [] e = absurd (some e)
      own (p ∷ ps) e = subst (λ pairs. Contains (topic_config_znodes t.name (p ∷ ps)) (znode (key.TopicConfig t.name) (body.Config pairs))) (sym e) (Contains-head (znode (key.TopicConfig t.name) (body.Config (p ∷ ps))) [])

  pub config_found : (c : Configuration) → Contains i.broker_configs c → (r : Rendered) × (find bytes_cmp path_of_rendered (config_znode c).path (render i) ≡ Some r)
  config_found c has = is_there (config_znode c) (Contains-append_right (flat_map topic_znodes i.topics) _ (config_znode c) (Contains-append_left (map config_znode i.broker_configs) _ (config_znode c) (to_map config_znode i.broker_configs c has)))

  pub acl_found : (a : AclEntry) → Contains i.acls a → (r : Rendered) × (find bytes_cmp path_of_rendered (path_of (acl_key a.row)) (render i) ≡ Some r)
  acl_found a has = is_there (acl_znode i.acls a) (Contains-append_right (flat_map topic_znodes i.topics) _ (acl_znode i.acls a) (Contains-append_right (map config_znode i.broker_configs) _ (acl_znode i.acls a)
      (Contains-append_right (quota_znodes i.quotas i.users) _ (acl_znode i.acls a) (Contains-append_left (map (acl_znode i.acls) i.acls) (producer_znodes i.next_producer) (acl_znode i.acls a) (to_map (acl_znode i.acls) i.acls a has)))))
