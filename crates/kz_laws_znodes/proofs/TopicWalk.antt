-- The records of a topic's znode, and of that of its configuration, lead to what is said with it.
use Rattle.std.proofs.Common.{◌≡◌, ◌≢◌, ℕ, ℤ, Bool, true, false, cond, ◌||◌, List, [], ◌∷◌, ◌++◌, map, Option, Some, None, Less, Contains, refl, sym, ap, ◌∙◌, subst, inl, inr}
use Rattle.std.specs.Prelude.{Result, Ok, Err, option_map, option_and_then}
use Rattle.std.specs.List.{find as find_by, list_any}
use Rattle.std.specs.Result.{result_ok}
use Rattle.std.proofs.lemmas.Slice.Eq.{bytes_eq-Decides}
use Rattle.std.proofs.lemmas.Bool.{false≢true}
use Rattle.kz_types.specs.declared.id.Id.{Id}
use Rattle.kz_types.specs.declared.tree.Row.{Row}
use Rattle.kz_types.specs.declared.bodies.Pair.{Pair}
use Rattle.kz_types.specs.declared.bodies.AssignmentRow.{AssignmentRow}
use Rattle.kz_types.specs.declared.bodies.Body.{Body}
use Rattle.kz_types.specs.declared.bodies.Body.TheVariants as body
use Rattle.kz_types.specs.declared.fault.BodyFault.{BodyFault}
use Rattle.kz_types.specs.declared.image.TopicEntry.{TopicEntry}
use Rattle.kz_types.specs.declared.key.EntityKey.{EntityKey}
use Rattle.kz_types.specs.declared.key.EntityKey.TheVariants as key
use Rattle.kz_types.specs.declared.record.RegisterBrokerRecord.{RegisterBrokerRecord}
use Rattle.kz_types.specs.Paths.{key_of, path_of}
use Rattle.kz_types.specs.Order.{bytes_cmp}
use Rattle.kz_types.specs.Ordered.{find}
use Rattle.kz_types.proofs.Order.{bytes_order, below, equal, above, place, less_differs, less_differs_back}
use Rattle.kz_types.proofs.Lookup.{some_is_none, same_some, find-put_same, find-put_other, Rises-put, found_is_contained, contained_is_found, Contains-head, Contains-tail, Contains-nil, Contains-cons_cases}
use Rattle.kz_spec_data.specs.Bodies.{read_body}
use Rattle.kz_spec_data.specs.Metadata.{Image, name_of_topic, same_id}
use Rattle.kz_spec_data.specs.Image.{put_topic}
use Rattle.kz_spec_data.specs.Tree.{path_of_row, row_at}
use Rattle.kz_spec_data.specs.Translation.{body_of_row, is_topic_with, is_taken, topic_records}
use Rattle.kz_laws_znodes.proofs.Accepting.{Leads}
use Rattle.kz_laws_znodes.proofs.TopicSteps.{topic_of, with_topic, IsFresh, topic_leads}
use Rattle.kz_laws_znodes.proofs.Saying.{Assignment, entity_of, entity_by, entity_read, pick, pick_row, topic_said, topic_config_said, broker_config_said, quotas_said, scrams_said, next_said, said, unsaid, said_elsewhere, said_here, said_nowhere, entries_by}
use Rattle.kz_laws_znodes.proofs.Says.{partition_in, topic_by, SaysTopics, Says}
use Rattle.kz_laws_znodes.proofs.ZnodeStays.{Step, stay_configs, stay_quotas, stay_users, stay_entries, stay_next}
use Rattle.kz_laws_znodes.proofs.Walk.{AreRows, AllHaveRecords, absent_here, absent_after}
use Rattle.kz_laws_znodes.proofs.TopicRows.{topic_names, topic_before_config, good, legal, placed, partitions_made, partitions_rise, records_are}

-- ---- a topic that is there by its id

record FoundBy (id : Id) (topics : List TopicEntry) (t : TopicEntry) : Type 0 where
  has : Contains topics t
  same : same_id t.id id ≡ true

found_by : (id : Id) (topics : List TopicEntry) (t : TopicEntry) → find_by (λ (u : TopicEntry). same_id u.id id) topics ≡ Some t → FoundBy id topics t
found_by id [] t e = absurd (some_is_none (sym e))
found_by id (u ∷ us) t e = by (same_id u.id id) refl e (found_by id us t)
  where
    by : (b : Bool) → same_id u.id id ≡ b → cond b (Some u) (find_by (λ (x : TopicEntry). same_id x.id id) us) ≡ Some t → (find_by (λ (x : TopicEntry). same_id x.id id) us ≡ Some t → FoundBy id us t) → FoundBy id (u ∷ us) t
    by true is h rest = let same : u ≡ t = same_some u t h in record { has = subst (Contains (u ∷ us)) same (Contains-head u us); same = ap (λ x. same_id x.id id) (sym same) ∙ is }
    by false is h rest = let f = rest h in record { has = Contains-tail u us t f.has; same = f.same }

-- a znode that says a topic of this id has it taken
topic_body : (o : Option EntityKey) (bytes : List ℕ) (a : Assignment) (id : Id) → pick topic_said (entity_by o bytes) ≡ Some a → same_id id a.id ≡ true → is_topic_with id (option_and_then (λ k. result_ok (read_body k bytes)) o) ≡ true
topic_body None bytes a id e same = absurd (some_is_none (sym e))
topic_body (Some k) bytes a id e same = by_result (read_body k bytes) e
  where
    by : (b : Body) → topic_said k b ≡ Some a → is_topic_with id (Some b) ≡ true
    by (body.Topic other rows) h = ap (λ (x : Assignment). same_id id x.id) (same_some (record { id = other; rows = rows }) a h) ∙ same
    by (body.State leader leader_epoch controller_epoch isr recovery) h = absurd (some_is_none (sym h))
    by (body.Config pairs) h = absurd (some_is_none (sym h))
    by (body.Quota quotas scrams) h = absurd (some_is_none (sym h))
    by (body.Acls entries) h = absurd (some_is_none (sym h))
    by (body.Producer broker start end) h = absurd (some_is_none (sym h))
    by body.Blank h = absurd (some_is_none (sym h))

    by_result : (r : Result Body BodyFault) → pick topic_said (option_map (λ b. record { who = k; what = b }) (result_ok r)) ≡ Some a → is_topic_with id (result_ok r) ≡ true
    by_result (Err x) h = absurd (some_is_none (sym h))
    by_result (Ok b) h = by b h

any_of : (p : Row → Bool) (rows : List Row) (x : Row) → Contains rows x → p x ≡ true → list_any p rows ≡ true
any_of p [] x has is = absurd (Contains-nil x has)
any_of p (r ∷ rows) x has is = elim (Contains-cons_cases r rows x has) [
  | inl e ↦ ap (λ b. b || list_any p rows) (ap p e ∙ is)
  | inr later ↦ or_true (p r) (list_any p rows) (any_of p rows x later is)
]
  where
    or_true : (a b : Bool) → b ≡ true → a || b ≡ true
    or_true true b e = refl
    or_true false b e = e

same_turned : (id other : Id) → same_id id other ≡ true → same_id other id ≡ true
same_turned id other e = (bytes_eq-Decides other.bytes id.bytes).1 (sym ((bytes_eq-Decides id.bytes other.bytes).0 e))

-- where no earlier znode has the id, no topic has it
module _ (epoch : ℤ) (rows earlier : List Row) (topics : List TopicEntry) (s : SaysTopics epoch rows earlier topics) (id : Id) (free : is_taken id earlier ≡ false) where
  by_row : (t : TopicEntry) → same_id t.id id ≡ true → (o : Option Row) → row_at (path_of (key.Topic t.name)) earlier ≡ o
      → (config : Option (List Pair)) → topic_by epoch rows t.name (option_and_then (pick_row topic_said) o) config ≡ Some t → ⊥
  by_row t same None at config e = some_is_none (sym e)
  by_row t same (Some x) at config e = by (pick_row topic_said x) refl e
    where
      by : (a : Option Assignment) → pick_row topic_said x ≡ a → topic_by epoch rows t.name a config ≡ Some t → ⊥
      by None is h = some_is_none (sym h)
      by (Some a) is h =
          let ids : a.id ≡ t.id = ap (λ (u : TopicEntry). u.id) (same_some _ t h) in
          let own : same_id id a.id ≡ true = ap (same_id id) ids ∙ same_turned t.id id same in
          let taken = any_of (λ r. is_topic_with id (body_of_row r)) earlier x (found_is_contained bytes_order path_of_row (path_of (key.Topic t.name)) earlier x at) (topic_body (key_of x.path) x.body a id is own) in
          false≢true (sym free ∙ taken)

  none_has_it : (o : Option TopicEntry) → find_by (λ (u : TopicEntry). same_id u.id id) topics ≡ o → find_by (λ (u : TopicEntry). same_id u.id id) topics ≡ None
  none_has_it None e = e
  none_has_it (Some t) e =
      let f = found_by id topics t e in
      let there : find bytes_cmp name_of_topic t.name topics ≡ Some t = contained_is_found bytes_order name_of_topic topics t s.rise f.has in
      absurd (by_row t f.same (row_at (path_of (key.Topic t.name)) earlier) refl (said topic_config_said (path_of (key.TopicConfig t.name)) earlier) (sym (s.each t.name) ∙ there))

  pub id_is_free : find_by (λ (u : TopicEntry). same_id u.id id) topics ≡ None
  id_is_free = none_has_it (find_by (λ (u : TopicEntry). same_id u.id id) topics) refl

-- ---- a topic's znode

module _ (epoch : ℤ) (rows : List Row) (brokers : List RegisterBrokerRecord) (state : ℤ) (earlier : List Row) (r : Row) (rest : List Row) (i : Image)
    (whole : rows ≡ earlier ++ r ∷ rest) (z : AreRows rows) (all : AllHaveRecords rows) (s : Says epoch rows brokers state earlier i) where
  module _ (name : List ℕ) (id : Id) (ps : List AssignmentRow) (holds : key_of r.path ≡ Some (key.Topic name)) (is : read_body (key.Topic name) r.body ≡ Ok (body.Topic id ps)) (free : is_taken id earlier ≡ false) where
    entity : entity_of r ≡ Some (record { who = key.Topic name; what = body.Topic id ps })
    entity = entity_read r (key.Topic name) (body.Topic id ps) holds is

    at : path_of (key.Topic name) ≡ r.path
    at = placed rows earlier r rest whole z all name id ps holds is

    absent : row_at (path_of (key.Topic name)) earlier ≡ None
    absent = ap (λ p. row_at p earlier) at ∙ absent_here rows earlier r rest whole z

    no_config : said topic_config_said (path_of (key.TopicConfig name)) earlier ≡ None
    no_config = said_nowhere topic_config_said (path_of (key.TopicConfig name)) earlier
        (absent_after rows earlier r rest whole z (path_of (key.TopicConfig name)) (subst (λ p. bytes_cmp p (path_of (key.TopicConfig name)) ≡ Less) at (topic_before_config name name)))

    new_topic : TopicEntry
    new_topic = topic_of epoch name id (map (partition_in rows name id) ps)

    fresh : IsFresh i name id
    fresh = record {
      named = legal rows earlier r rest whole z all name id ps holds is;
      identified = (good rows earlier r rest whole z all name id ps holds is).id_is;
      no_name = s.topics.each name ∙ ap (λ o. topic_by epoch rows name o (said topic_config_said (path_of (key.TopicConfig name)) earlier)) (said_nowhere topic_said (path_of (key.Topic name)) earlier absent);
      no_id = id_is_free epoch rows earlier i.topics s.topics id free;
    }

    topics_say : SaysTopics epoch rows (earlier ++ r ∷ []) (put_topic new_topic i.topics)
    unfolding new_topic
    topics_say = record { rise = Rises-put bytes_order name_of_topic new_topic i.topics s.topics.rise; each = each }
      where
        config_stays : (other : List ℕ) → said topic_config_said (path_of (key.TopicConfig other)) (earlier ++ r ∷ []) ≡ said topic_config_said (path_of (key.TopicConfig other)) earlier
        config_stays other = unsaid topic_config_said (path_of (key.TopicConfig other)) earlier r (ap (pick topic_config_said) entity)

        others : (other : List ℕ) → other ≢ name → find bytes_cmp name_of_topic other (put_topic new_topic i.topics)
            ≡ topic_by epoch rows other (said topic_said (path_of (key.Topic other)) (earlier ++ r ∷ [])) (said topic_config_said (path_of (key.TopicConfig other)) (earlier ++ r ∷ []))
        others other ne =
            find-put_other bytes_order name_of_topic new_topic i.topics other ne ∙ s.topics.each other
            ∙ sym (λ j. topic_by epoch rows other (said_elsewhere topic_said (path_of (key.Topic other)) earlier r (λ e. ne (topic_names other name (e ∙ sym at))) j) (config_stays other j))

        here : find bytes_cmp name_of_topic name (put_topic new_topic i.topics)
            ≡ topic_by epoch rows name (said topic_said (path_of (key.Topic name)) (earlier ++ r ∷ [])) (said topic_config_said (path_of (key.TopicConfig name)) (earlier ++ r ∷ []))
        here =
            find-put_same bytes_order name_of_topic new_topic i.topics
            ∙ sym (λ j. topic_by epoch rows name ((said_here topic_said (path_of (key.Topic name)) earlier r at absent ∙ ap (pick topic_said) entity) j) ((config_stays name ∙ no_config) j))

        each : (other : List ℕ) → find bytes_cmp name_of_topic other (put_topic new_topic i.topics)
            ≡ topic_by epoch rows other (said topic_said (path_of (key.Topic other)) (earlier ++ r ∷ [])) (said topic_config_said (path_of (key.TopicConfig other)) (earlier ++ r ∷ []))
        each other = elim (place bytes_order other name) [
          | below less ↦ others other (less_differs bytes_order other name less)
          | equal same ↦ subst (λ n. find bytes_cmp name_of_topic n (put_topic new_topic i.topics)
              ≡ topic_by epoch rows n (said topic_said (path_of (key.Topic n)) (earlier ++ r ∷ [])) (said topic_config_said (path_of (key.TopicConfig n)) (earlier ++ r ∷ []))) (sym same) here
          | above more ↦ others other (less_differs_back bytes_order other name more)
        ]

    pub topic_step : Step epoch rows brokers state earlier r (topic_records rows name id ps) i
    unfolding new_topic
    topic_step = record {
      after = with_topic i new_topic;
      leads = subst (λ rs. Leads epoch rs i (with_topic i new_topic)) (sym (records_are rows earlier r rest whole z all name id ps holds is))
          (topic_leads epoch i name id fresh (map (partition_in rows name id) ps) (partitions_rise rows earlier r rest whole z all name id ps holds is) (partitions_made rows earlier r rest whole z all name id ps holds is));
      says = record {
        topics = topics_say;
        configs = stay_configs earlier r i.broker_configs (ap (pick broker_config_said) entity) s.configs;
        quotas = stay_quotas earlier r i.quotas (ap (pick quotas_said) entity) s.quotas;
        users = stay_users earlier r i.users (ap (pick scrams_said) entity) s.users;
        entries = stay_entries earlier r i.acls (ap entries_by entity) s.entries;
        next = stay_next earlier r i.next_producer (ap (pick next_said) entity) s.next;
        brokers_are = s.brokers_are;
        state_is = s.state_is;
      };
    }
