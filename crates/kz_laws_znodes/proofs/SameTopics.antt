-- The topics and configurations that return.
use Rattle.std.proofs.Common.{◌≡◌, ◌≢◌, ◌⊎◌, ℕ, ◌<◌, ℤ, pos, negsuc, List, [], ◌∷◌, length, map, Option, Some, None, Contains, refl, sym, ap, ◌∙◌, subst, inl, inr, arith}
use Rattle.std.specs.Prelude.{◌+ℤ◌, option_map, option_and_then}
use Rattle.std.proofs.lemmas.List.Elements.{All-contains}
use Rattle.std.proofs.lemmas.Simd.{map-map}
use Rattle.kz_types.specs.declared.tree.Row.{Row}
use Rattle.kz_types.specs.declared.tree.Rendered.{Rendered}
use Rattle.kz_types.specs.declared.bodies.Pair.{Pair}
use Rattle.kz_types.specs.declared.bodies.Body.{Body}
use Rattle.kz_types.specs.declared.bodies.Body.TheVariants as body
use Rattle.kz_types.specs.declared.image.Configuration.{Configuration}
use Rattle.kz_types.specs.declared.image.TopicEntry.{TopicEntry}
use Rattle.kz_types.specs.declared.image.PartitionEntry.{PartitionEntry}
use Rattle.kz_types.specs.declared.key.EntityKey.{EntityKey}
use Rattle.kz_types.specs.declared.key.EntityKey.TheVariants as key
use Rattle.kz_types.specs.Paths.{key_of, path_of}
use Rattle.kz_types.specs.Order.{bytes_cmp}
use Rattle.kz_types.specs.Ordered.{find}
use Rattle.kz_types.proofs.Order.{bytes_order}
use Rattle.kz_types.proofs.Lookup.{some_is_none, same_some, found_is_contained, key_of_found, contained_is_found, same_items, Contains-head, Contains-tail}
use Rattle.kz_types.proofs.Maps.{find-map, Rises-map}
use Rattle.kz_spec_data.specs.Tree.{path_of_rendered}
use Rattle.kz_spec_data.specs.Metadata.{Image, name_of_topic, name_of_configuration}
use Rattle.kz_spec_data.specs.InOrder.{IsFilled, IsInOrder}
use Rattle.kz_spec_data.specs.Rendering.{znode, topic_znode, assignment_of, state_body, quotas_of_user, acl_key, render}
use Rattle.kz_spec_data.specs.Translation.{row_of, body_of_row, partition_by, partition_with}
use Rattle.kz_laws_znodes.specs.RoundTrip.{new_znode, znodes_of, IsWritable, MayReturn, without_epochs, topic_without_epochs}
use Rattle.kz_laws_znodes.proofs.Shown.{Shown, shown_topic, shown_state, shown_topic_config, shown_config, shown_parent, shown_quotas, shown_user, shown_entries, shown_producer, shown_blank, shown_scaffold, shown, partition_facts}
use Rattle.kz_laws_znodes.proofs.Bodies.{facts, brokers}
use Rattle.kz_laws_znodes.proofs.Held.{IsHeld, broker_good, topic_held, state_held, topic_config_held, config_held, quota_held, user_held, parent_held, resource_rows, entries_held, producer_held, blank_held}
use Rattle.kz_laws_znodes.proofs.Found.{found_at, low_epoch, same_topic, state_found, topic_config_at, topic_config_found, broker_at, config_found}
use Rattle.kz_laws_znodes.proofs.Again.{leader_kept, row_found, body_of_held, topic_row}
use Rattle.kz_laws_znodes.proofs.TopicSteps.{entry_of}
use Rattle.kz_laws_znodes.proofs.TopicRows.{topic_names}
use Rattle.kz_laws_znodes.proofs.OtherSteps.{configuration}
use Rattle.kz_laws_znodes.proofs.BrokerWalk.{named_only}
use Rattle.kz_laws_znodes.proofs.Saying.{entity_read, no_entity, pick, pick_row, topic_said, topic_config_said, broker_config_said, said, listed, or_empty}
use Rattle.kz_laws_znodes.proofs.Says.{partition_in, topic_by, broker_named, configuration_in, SaysTopics, SaysConfigs}

pub map_same : {A B : Type 0} (f g : A → B) (xs : List A) → ((x : A) → Contains xs x → f x ≡ g x) → map f xs ≡ map g xs
map_same f g [] h = refl
map_same f g (x ∷ xs) h = (λ j. h x (Contains-head x xs) j ∷ map_same f g xs (λ y has. h y (Contains-tail x xs y has)) j)

-- a partition as it returns by batches of an epoch
abbrev pub returned_partition : ℤ → PartitionEntry → PartitionEntry
returned_partition epoch p = record p { row = record p.row { partition_epoch = pos 0; controller_epoch = epoch } }

abbrev pub returned : ℤ → TopicEntry → TopicEntry
returned epoch t = record t { partitions = map (returned_partition epoch) t.partitions }

pub returned_same : (epoch : ℤ) (topics : List TopicEntry) → map topic_without_epochs (map (returned epoch) topics) ≡ map topic_without_epochs topics
returned_same epoch topics = map-map topic_without_epochs (returned epoch) topics ∙ map_same (λ t. topic_without_epochs (returned epoch t)) topic_without_epochs topics
    (λ t has. ap (λ ps. record t { partitions = ps }) (map-map without_epochs (returned_partition epoch) t.partitions))

module _ (i : Image) (o : IsInOrder i) (w : IsWritable i) (m : MayReturn i) where
  abbrev rows : List Row
  rows = znodes_of i

  -- what a znode that is held says
  pub held_says : {A : Type 0} (say : EntityKey → Body → Option A) (x : Rendered) (k : EntityKey) (b : Body) → IsHeld x k b → pick_row say (new_znode x) ≡ say k b
  held_says say x k b h = ap (pick say) (entity_read (new_znode x) k b h.keyed h.read)

  pub scaffold_says : {A : Type 0} (say : EntityKey → Body → Option A) (x : Rendered) → key_of x.path ≡ None → pick_row say (new_znode x) ≡ None
  scaffold_says say x none = ap (pick say) (no_entity (new_znode x) none)

  pub said_found : {A : Type 0} (say : EntityKey → Body → Option A) (path : List ℕ) (x : Rendered) → find bytes_cmp path_of_rendered path (render i) ≡ Some x → said say path rows ≡ pick_row say (new_znode x)
  said_found say path x e = ap (option_and_then (pick_row say)) (row_found i o w m path ∙ ap (option_map new_znode) e)

  pub said_missing : {A : Type 0} (say : EntityKey → Body → Option A) (path : List ℕ) → find bytes_cmp path_of_rendered path (render i) ≡ None → said say path rows ≡ None
  said_missing say path e = ap (option_and_then (pick_row say)) (row_found i o w m path ∙ ap (option_map new_znode) e)

  -- ---- topics

  partition_returns : (epoch : ℤ) (t : TopicEntry) (p : PartitionEntry) → Contains i.topics t → Contains t.partitions p → entry_of epoch (partition_in rows t.name t.id (assignment_of p)) ≡ returned_partition epoch p
  partition_returns epoch t p has within =
      let x : Rendered = znode (key.Partition t.name p.number) (state_body p.row) in
      let there : row_of (key.Partition t.name p.number) rows ≡ Some (new_znode x) = row_found i o w m (path_of (key.Partition t.name p.number)) ∙ ap (option_map new_znode) (state_found i o w m t p has within) in
      let says : body_of_row (new_znode x) ≡ Some (state_body p.row) = body_of_held i o w m x (key.Partition t.name p.number) (state_body p.row) (state_held i o w t p has within (low_epoch i o w m t p has within)) in
      let f = partition_facts i o w t p has within in
      ap (λ y. entry_of epoch (partition_by t.id (assignment_of p) y)) there
      ∙ ap (λ b. entry_of epoch (partition_with t.id (assignment_of p) (pos 0) b)) says
      ∙ ap (λ leader. record { number = p.number; row = record { replicas = p.row.replicas; isr = p.row.isr; removing = p.row.removing; adding = p.row.adding; leader = leader; recovery = p.row.recovery; leader_epoch = p.row.leader_epoch; partition_epoch = pos 0; controller_epoch = epoch } })
      (leader_kept p.row.replicas p.row.leader (brokers p f) (facts p f).leader)

  partitions_return : (epoch : ℤ) (t : TopicEntry) → Contains i.topics t → map (entry_of epoch) (map (partition_in rows t.name t.id) (map assignment_of t.partitions)) ≡ map (returned_partition epoch) t.partitions
  partitions_return epoch t has =
      ap (map (entry_of epoch)) (map-map (partition_in rows t.name t.id) assignment_of t.partitions)
      ∙ map-map (entry_of epoch) (λ p. partition_in rows t.name t.id (assignment_of p)) t.partitions
      ∙ map_same (λ p. entry_of epoch (partition_in rows t.name t.id (assignment_of p))) (returned_partition epoch) t.partitions (λ p within. partition_returns epoch t p has within)

  topic_is_said : (t : TopicEntry) → Contains i.topics t → said topic_said (path_of (key.Topic t.name)) rows ≡ Some (record { id = t.id; rows = map assignment_of t.partitions })
  topic_is_said t has = ap (option_and_then (pick_row topic_said)) (topic_row i o w m t has) ∙ held_says topic_said (topic_znode t) (key.Topic t.name) (body.Topic t.id (map assignment_of t.partitions)) (topic_held i o w t has)

  config_is_said : (t : TopicEntry) → Contains i.topics t → or_empty (said topic_config_said (path_of (key.TopicConfig t.name)) rows) ≡ t.pairs
  config_is_said t has = by t.pairs refl
    where
      some : (p : Pair) (ps : List Pair) → t.pairs ≡ p ∷ ps → t.pairs ≢ []
      some p ps e none = absurd (let no : p ∷ ps ≡ [] = sym e ∙ none in cc)

      none_found : t.pairs ≡ [] → (r : Option Rendered) → find bytes_cmp path_of_rendered (path_of (key.TopicConfig t.name)) (render i) ≡ r → or_empty (said topic_config_said (path_of (key.TopicConfig t.name)) rows) ≡ t.pairs
      none_found none None e = ap or_empty (said_missing topic_config_said (path_of (key.TopicConfig t.name)) e) ∙ sym none
      none_found none (Some r) e =
          let f = found_at i o w m (key.TopicConfig t.name) r (topic_config_held i o w t has).good e in
          let c = topic_config_at i o w m t.name r f.shows f.who in
          absurd (c.3 (ap (λ (u : TopicEntry). u.pairs) (same_topic i o w m t c.0 has c.1 c.2) ∙ none))

      by : (pairs : List Pair) → t.pairs ≡ pairs → or_empty (said topic_config_said (path_of (key.TopicConfig t.name)) rows) ≡ t.pairs
      by [] e = none_found e (find bytes_cmp path_of_rendered (path_of (key.TopicConfig t.name)) (render i)) refl
      by (p ∷ ps) e =
          let x : Rendered = znode (key.TopicConfig t.name) (body.Config t.pairs) in
          ap or_empty (said_found topic_config_said (path_of (key.TopicConfig t.name)) x (topic_config_found i o w m t has (some p ps e)) ∙ held_says topic_config_said x (key.TopicConfig t.name) (body.Config t.pairs) (topic_config_held i o w t has))

  -- a znode that says a topic is one's
  abbrev IsTopicOf : Rendered → Type 0
  IsTopicOf x = (t : TopicEntry) × Contains i.topics t × (x.path ≡ path_of (key.Topic t.name))

  who_says_topic : (x : Rendered) → Shown i x → IsTopicOf x ⊎ (pick_row topic_said (new_znode x) ≡ None)
  who_says_topic x (shown_topic t has is) = inl (t, has, ap (λ (y : Rendered). y.path) is)
  who_says_topic x (shown_state u p has within is) = inr (held_says topic_said x (key.Partition u.name p.number) (state_body p.row) (subst (λ y. IsHeld y (key.Partition u.name p.number) (state_body p.row)) (sym is) (state_held i o w u p has within (low_epoch i o w m u p has within))))
  who_says_topic x (shown_topic_config u has p ps some is) = inr (held_says topic_said x (key.TopicConfig u.name) (body.Config u.pairs) (subst (λ y. IsHeld y (key.TopicConfig u.name) (body.Config u.pairs)) (sym is) (topic_config_held i o w u has)))
  who_says_topic x (shown_config c has is) = let h = config_held i o w c has in inr (held_says topic_said x (key.BrokerConfig h.0) (body.Config c.pairs) (subst (λ y. IsHeld y (key.BrokerConfig h.0) (body.Config c.pairs)) (sym is) h.2))
  who_says_topic x (shown_parent user good is) = inr (held_says topic_said x (key.User user) (body.Quota [] []) (subst (λ y. IsHeld y (key.User user) (body.Quota [] [])) (sym is) (parent_held i o w user good)))
  who_says_topic x (shown_quotas q k has named is) = inr (held_says topic_said x k (body.Quota q.quotas []) (subst (λ y. IsHeld y k (body.Quota q.quotas [])) (sym is) (quota_held i o w q k has named)))
  who_says_topic x (shown_user u has is) = inr (held_says topic_said x (key.User (Some u.name)) (body.Quota (quotas_of_user u.name i.quotas) u.scrams) (subst (λ y. IsHeld y (key.User (Some u.name)) (body.Quota (quotas_of_user u.name i.quotas) u.scrams)) (sym is) (user_held i o w u has)))
  who_says_topic x (shown_entries a has is) = inr (held_says topic_said x (acl_key a.row) (body.Acls (resource_rows i o w a.row)) (subst (λ y. IsHeld y (acl_key a.row) (body.Acls (resource_rows i o w a.row))) (sym is) (entries_held i o w a has)))
  who_says_topic x (shown_producer next some is) = inr (held_says topic_said x key.Producer (body.Producer (negsuc 0) next (next +ℤ pos 999)) (subst (λ y. IsHeld y key.Producer (body.Producer (negsuc 0) next (next +ℤ pos 999))) (sym is) (producer_held i o w next some m.next)))
  who_says_topic x (shown_blank is) = inr (held_says topic_said x key.Producer body.Blank (subst (λ y. IsHeld y key.Producer body.Blank) (sym is) (blank_held i o w)))
  who_says_topic x (shown_scaffold scaffold) = inr (scaffold_says topic_said x scaffold.none)

  no_topic : (name : List ℕ) → find bytes_cmp name_of_topic name i.topics ≡ None → said topic_said (path_of (key.Topic name)) rows ≡ None
  no_topic name absent = by (find bytes_cmp path_of_rendered (path_of (key.Topic name)) (render i)) refl
    where
      by : (r : Option Rendered) → find bytes_cmp path_of_rendered (path_of (key.Topic name)) (render i) ≡ r → said topic_said (path_of (key.Topic name)) rows ≡ None
      by None e = said_missing topic_said (path_of (key.Topic name)) e
      by (Some x) e = elim (who_says_topic x (shown i o w x (found_is_contained bytes_order path_of_rendered (path_of (key.Topic name)) (render i) x e))) [
        | inl t ↦
            let names : name ≡ t.0.name = topic_names name t.0.name (sym (key_of_found bytes_order path_of_rendered (path_of (key.Topic name)) (render i) x e) ∙ t.2) in
            absurd (some_is_none (sym (ap (λ n. find bytes_cmp name_of_topic n i.topics) names ∙ contained_is_found bytes_order name_of_topic i.topics t.0 o.topics.rising t.1) ∙ absent))
        | inr none ↦ said_found topic_said (path_of (key.Topic name)) x e ∙ none
      ]

  pub topics_return : (epoch : ℤ) (topics : List TopicEntry) → SaysTopics epoch rows rows topics → topics ≡ map (returned epoch) i.topics
  topics_return epoch topics s = same_items bytes_order name_of_topic topics (map (returned epoch) i.topics) s.rise (Rises-map bytes_cmp name_of_topic name_of_topic (returned epoch) (λ t. refl) i.topics o.topics.rising)
      (λ name. s.each name ∙ by name (find bytes_cmp name_of_topic name i.topics) refl ∙ sym (find-map bytes_cmp name_of_topic name_of_topic (returned epoch) (λ t. refl) name i.topics))
    where
      here : (t : TopicEntry) → Contains i.topics t → topic_by epoch rows t.name (said topic_said (path_of (key.Topic t.name)) rows) (said topic_config_said (path_of (key.TopicConfig t.name)) rows) ≡ Some (returned epoch t)
      here t has =
          ap (λ a. topic_by epoch rows t.name a (said topic_config_said (path_of (key.TopicConfig t.name)) rows)) (topic_is_said t has)
          ∙ (λ j. Some (record { name = t.name; id = t.id; partitions = partitions_return epoch t has j; pairs = config_is_said t has j }))

      by : (name : List ℕ) (t : Option TopicEntry) → find bytes_cmp name_of_topic name i.topics ≡ t
          → topic_by epoch rows name (said topic_said (path_of (key.Topic name)) rows) (said topic_config_said (path_of (key.TopicConfig name)) rows) ≡ option_map (returned epoch) (find bytes_cmp name_of_topic name i.topics)
      by name None e = ap (λ a. topic_by epoch rows name a (said topic_config_said (path_of (key.TopicConfig name)) rows)) (no_topic name e) ∙ sym (ap (option_map (returned epoch)) e)
      by name (Some t) e =
          let names : t.name ≡ name = key_of_found bytes_order name_of_topic name i.topics t e in
          subst (λ n. topic_by epoch rows n (said topic_said (path_of (key.Topic n)) rows) (said topic_config_said (path_of (key.TopicConfig n)) rows) ≡ Some (returned epoch t)) names (here t (found_is_contained bytes_order name_of_topic name i.topics t e))
          ∙ sym (ap (option_map (returned epoch)) e)

  -- ---- configurations of brokers

  same_config : (c d : Configuration) → Contains i.broker_configs c → Contains i.broker_configs d → d.name ≡ c.name → d ≡ c
  same_config c d has other e = same_some d c (sym (contained_is_found bytes_order name_of_configuration i.broker_configs d o.configs.rising other) ∙ ap (λ n. find bytes_cmp name_of_configuration n i.broker_configs) e ∙ contained_is_found bytes_order name_of_configuration i.broker_configs c o.configs.rising has)

  listed_pairs : (c : Configuration) → (pairs : List Pair) → c.pairs ≡ pairs → 0 < length pairs → listed configuration c.name pairs ≡ Some c
  listed_pairs c [] e some = absurd (omega arith)
  listed_pairs c (p ∷ ps) e some = ap (λ pairs. Some (record { name = c.name; pairs = pairs })) (sym e)

  pub configs_return : (configs : List Configuration) → SaysConfigs rows configs → configs ≡ i.broker_configs
  configs_return configs s = same_items bytes_order name_of_configuration configs i.broker_configs s.rise o.configs.rising (λ name. s.each name ∙ by name (find bytes_cmp name_of_configuration name i.broker_configs) refl)
    where
      here : (c : Configuration) → Contains i.broker_configs c → option_and_then (configuration_in rows c.name) (broker_named c.name) ≡ Some c
      here c has =
          let h = config_held i o w c has in
          let r = config_found i o w m c has in
          let at : find bytes_cmp path_of_rendered (path_of (key.BrokerConfig h.0)) (render i) ≡ Some r.0 = ap (λ p. find bytes_cmp path_of_rendered p (render i)) h.2.placed ∙ r.1 in
          let f = found_at i o w m (key.BrokerConfig h.0) r.0 h.2.good at in
          let d = broker_at i o w m h.0 r.0 f.shows f.who in
          let same : d.0 ≡ c = same_config c d.0 has d.1 ((named_only d.0.name h.0 d.2).0 ∙ sym (named_only c.name h.0 h.1).0) in
          ap (option_and_then (configuration_in rows c.name)) h.1
          ∙ ap (λ pairs. listed configuration c.name (or_empty pairs)) (said_found broker_config_said (path_of (key.BrokerConfig h.0)) r.0 at ∙ held_says broker_config_said r.0 (key.BrokerConfig h.0) (body.Config d.0.pairs) d.3)
          ∙ ap (λ (x : Configuration). listed configuration c.name x.pairs) same
          ∙ listed_pairs c c.pairs refl (All-contains IsFilled i.broker_configs c o.configs.filled has).0

      missing : (name : List ℕ) → find bytes_cmp name_of_configuration name i.broker_configs ≡ None → (broker : Option (Option ℤ)) → broker_named name ≡ broker → option_and_then (configuration_in rows name) broker ≡ None
      missing name absent None e = refl
      missing name absent (Some broker) e = by_found (find bytes_cmp path_of_rendered (path_of (key.BrokerConfig broker)) (render i)) refl
        where
          by_found : (r : Option Rendered) → find bytes_cmp path_of_rendered (path_of (key.BrokerConfig broker)) (render i) ≡ r → configuration_in rows name broker ≡ None
          by_found None at = ap (λ pairs. listed configuration name (or_empty pairs)) (said_missing broker_config_said (path_of (key.BrokerConfig broker)) at)
          by_found (Some r) at =
              let k = named_only name broker e in
              let f = found_at i o w m (key.BrokerConfig broker) r (broker_good broker k.1) at in
              let d = broker_at i o w m broker r f.shows f.who in
              absurd (some_is_none (sym (ap (λ n. find bytes_cmp name_of_configuration n i.broker_configs) (k.0 ∙ sym (named_only d.0.name broker d.2).0) ∙ contained_is_found bytes_order name_of_configuration i.broker_configs d.0 o.configs.rising d.1) ∙ absent))

      by : (name : List ℕ) (c : Option Configuration) → find bytes_cmp name_of_configuration name i.broker_configs ≡ c → option_and_then (configuration_in rows name) (broker_named name) ≡ find bytes_cmp name_of_configuration name i.broker_configs
      by name None e = missing name e (broker_named name) refl ∙ sym e
      by name (Some c) e =
          let names : c.name ≡ name = key_of_found bytes_order name_of_configuration name i.broker_configs c e in
          subst (λ n. option_and_then (configuration_in rows n) (broker_named n) ≡ Some c) names (here c (found_is_contained bytes_order name_of_configuration name i.broker_configs c e)) ∙ sym e
