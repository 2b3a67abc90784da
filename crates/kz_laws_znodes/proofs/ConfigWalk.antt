-- The records of the configuration of a topic or a broker lead to what is said with it.
use Rattle.std.proofs.Common.{◌≡◌, ◌≢◌, ℕ, ℤ, pos, Bool, true, false, List, [], ◌∷◌, ◌++◌, length, map, Option, Some, None, Less, All, refl, sym, ap, ◌∙◌, subst}
use Rattle.std.specs.Prelude.{Result, Ok, Err, nat_lt, option_and_then, if◌then◌else◌}
use Rattle.std.proofs.lemmas.List.Elements.{All-cons, All-nil}
use Rattle.kz_types.specs.declared.tree.Row.{Row}
use Rattle.kz_types.specs.declared.bodies.Pair.{Pair}
use Rattle.kz_types.specs.declared.bodies.Body.{Body}
use Rattle.kz_types.specs.declared.bodies.Body.TheVariants as body
use Rattle.kz_types.specs.declared.fault.BodyFault.{BodyFault}
use Rattle.kz_types.specs.declared.fault.BodyFault.TheVariants as fault
use Rattle.kz_types.specs.declared.fault.ReadWhy.TheVariants as why
use Rattle.kz_types.specs.declared.image.TopicEntry.{TopicEntry}
use Rattle.kz_types.specs.declared.key.EntityKey.TheVariants as key
use Rattle.kz_types.specs.declared.record.MetaRecord.{MetaRecord}
use Rattle.kz_types.specs.declared.record.RegisterBrokerRecord.{RegisterBrokerRecord}
use Rattle.kz_types.specs.Paths.{is_topic_name, key_of, path_of}
use Rattle.kz_types.specs.Order.{bytes_cmp}
use Rattle.kz_types.specs.Ordered.{find, Rises, RisesAbove}
use Rattle.kz_types.proofs.Order.{bytes_order, below, equal, above, place, less_differs, less_differs_back}
use Rattle.kz_types.proofs.Lookup.{find-put_same, find-put_other, Rises-put, key_of_found}
use Rattle.kz_spec_data.specs.Bodies.{read_body}
use Rattle.kz_spec_data.specs.Metadata.{Image, name_of_topic, name_of_pair, topic_named}
use Rattle.kz_spec_data.specs.Image.{put_topic}
use Rattle.kz_spec_data.specs.ImageRules.{is_empty}
use Rattle.kz_spec_data.specs.Tree.{path_of_row, row_at}
use Rattle.kz_spec_data.specs.Translation.{RowRecords, row_of, records_of_topic, config_record, config_records, records_if_there}
use Rattle.kz_laws_values.specs.TextKeys.{IsText}
use Rattle.kz_laws_values.specs.Readable.{IsBelow, AreRising}
use Rattle.kz_laws_znodes.proofs.ZnodeReading.{IsBodyOf, read_is}
use Rattle.kz_laws_znodes.proofs.Accepting.{Leads, leads_none}
use Rattle.kz_laws_znodes.proofs.TopicSteps.{topic_of, with_topic, IsNamed, with_members, config_leads}
use Rattle.kz_laws_znodes.proofs.Saying.{Assignment, entity_of, entity_read, entity_unread, pick, pick_row, topic_said, topic_config_said, broker_config_said, quotas_said, scrams_said, next_said, said, unsaid, said_elsewhere, said_here, said_nowhere, entries_by}
use Rattle.kz_laws_znodes.proofs.Says.{partition_in, topic_by, SaysTopics, Says}
use Rattle.kz_laws_znodes.proofs.ZnodeStays.{Step, silent_step, no_entity_is_silent, stay_configs, stay_quotas, stay_users, stay_entries, stay_next}
use Rattle.kz_laws_znodes.proofs.Walk.{AreRows, Split, split_at_found, HasRecords, AllHaveRecords, entity_records_are, absent_here, found_before, none_before, key_here, path_of_here}
use Rattle.kz_laws_znodes.proofs.TopicRows.{config_names, topic_before_config, config_is_legal, topic_is_good}

-- ---- members

rises_above : (name : List ℕ) (pairs : List Pair) → IsBelow name pairs → AreRising pairs → RisesAbove bytes_cmp name_of_pair name pairs
rises_above name [] under rise = tt
rises_above name (p ∷ pairs) under rise = (under.0, rises_above p.name pairs rise.0 rise.1)

pub members_rise : (pairs : List Pair) → AreRising pairs → Rises bytes_cmp name_of_pair pairs
members_rise [] rise = tt
members_rise (p ∷ pairs) rise = rises_above p.name pairs rise.0 rise.1

not_empty_above : (a b : List ℕ) → bytes_cmp a b ≡ Less → is_empty b ≡ false
not_empty_above [] [] less = absurd (cc)
not_empty_above (x ∷ xs) [] less = absurd (cc)
not_empty_above a (y ∷ ys) less = refl

all_named : (name : List ℕ) (pairs : List Pair) → IsBelow name pairs → All IsNamed pairs
all_named name [] under = All-nil IsNamed
all_named name (p ∷ pairs) under = All-cons IsNamed p pairs (not_empty_above name p.name under.0) (all_named name pairs under.1)

has_name : (name : List ℕ) → nat_lt 0 (length name) ≡ true → is_empty name ≡ false
has_name [] h = absurd (cc)
has_name (b ∷ bs) h = refl

-- The records of a configuration: one for each member, each with a name.
pub record IsConfigured (resource : ℤ) (name : List ℕ) (pairs : List Pair) (one : List MetaRecord) : Type 0 where
  pub records : one ≡ map (config_record resource name) pairs
  pub named : All IsNamed pairs

same_ok : (a b : List MetaRecord) → ◌≡◌ {A = RowRecords} (Ok a) (Ok b) → b ≡ a
same_ok a b e = cc

pub configured_are : (resource : ℤ) (name : List ℕ) (pairs : List Pair) (one : List MetaRecord) → AreRising pairs → config_records resource name pairs ≡ Ok one → IsConfigured resource name pairs one
configured_are resource name [] one rise e = record { records = same_ok [] one e; named = All-nil IsNamed }
configured_are resource name (p ∷ pairs) one rise e = by (nat_lt 0 (length p.name)) refl e
  where
    by : (t : Bool) → nat_lt 0 (length p.name) ≡ t → (if t then Ok (map (config_record resource name) (p ∷ pairs)) else Err (why.Body (fault.UnknownKey p.name))) ≡ Ok one → IsConfigured resource name (p ∷ pairs) one
    by true is h = record { records = same_ok (map (config_record resource name) (p ∷ pairs)) one h; named = All-cons IsNamed p pairs (has_name p.name is) (all_named p.name pairs rise.0) }
    by false is h = absurd (cc)

-- ---- the configuration of a topic

topic_not_err : (rows earlier : List Row) (name : List ℕ) (e : BodyFault) (one : List MetaRecord) → records_of_topic rows earlier name (Err e) ≡ Ok one → ⊥
topic_not_err rows earlier name e one h = cc

-- What an earlier znode says of the topic.
record IsSaid (rows earlier : List Row) (name : List ℕ) : Type 0 where
  what : Assignment
  said_is : said topic_said (path_of (key.Topic name)) earlier ≡ Some what

module _ (epoch : ℤ) (rows : List Row) (brokers : List RegisterBrokerRecord) (state : ℤ) (earlier : List Row) (r : Row) (rest : List Row) (i : Image)
    (whole : rows ≡ earlier ++ r ∷ rest) (z : AreRows rows) (all : AllHaveRecords rows) (s : Says epoch rows brokers state earlier i) where
  module _ (name : List ℕ) (holds : key_of r.path ≡ Some (key.TopicConfig name)) where
    at : path_of (key.TopicConfig name) ≡ r.path
    at = path_of_here rows earlier r rest whole z (key.TopicConfig name) holds

    absent : row_at (path_of (key.TopicConfig name)) earlier ≡ None
    absent = ap (λ p. row_at p earlier) at ∙ absent_here rows earlier r rest whole z

    legal : is_topic_name name ≡ true
    legal = config_is_legal name (key_here rows earlier r rest whole z (key.TopicConfig name) holds)

    text : IsText name
    text = (key_here rows earlier r rest whole z (key.TopicConfig name) holds).1

    topic_first : bytes_cmp (path_of (key.Topic name)) r.path ≡ Less
    topic_first = subst (λ p. bytes_cmp (path_of (key.Topic name)) p ≡ Less) at (topic_before_config name name)

    no_config : said topic_config_said (path_of (key.TopicConfig name)) earlier ≡ None
    no_config = said_nowhere topic_config_said (path_of (key.TopicConfig name)) earlier absent

    topic_is_said : (x : Row) → row_of (key.Topic name) rows ≡ Some x → IsSaid rows earlier name
    topic_is_said x found =
        let place : x.path ≡ path_of (key.Topic name) = key_of_found bytes_order path_of_row (path_of (key.Topic name)) rows x found in
        let k : key_of x.path ≡ Some (key.Topic name) = ap key_of place ∙ topic_is_good name legal text in
        let p : Split rows x = split_at_found bytes_order path_of_row (path_of (key.Topic name)) rows x found in
        let there : HasRecords rows p.front x = all p.front x p.rest p.whole in
        by_read x found k p.front there.0 (entity_records_are rows p.front x (key.Topic name) there.0 k there.1) (read_body (key.Topic name) x.body) refl
      where
        of_body : (x : Row) → row_of (key.Topic name) rows ≡ Some x → key_of x.path ≡ Some (key.Topic name) → (b : Body) → read_body (key.Topic name) x.body ≡ Ok b → IsBodyOf (key.Topic name) b → IsSaid rows earlier name
        of_body x found k (body.Topic id ps) is h = record {
          what = record { id = id; rows = ps };
          said_is = ap (option_and_then (pick_row topic_said)) (found_before rows earlier r rest whole z (path_of (key.Topic name)) x topic_first found) ∙ ap (pick topic_said) (entity_read x (key.Topic name) (body.Topic id ps) k is);
        }
        of_body x found k (body.State leader leader_epoch controller_epoch isr recovery) is h = absurd h
        of_body x found k (body.Config pairs) is h = absurd h
        of_body x found k (body.Quota quotas scrams) is h = absurd h
        of_body x found k (body.Acls entries) is h = absurd h
        of_body x found k (body.Producer broker start end) is h = absurd h
        of_body x found k body.Blank is h = absurd h

        by_read : (x : Row) → row_of (key.Topic name) rows ≡ Some x → key_of x.path ≡ Some (key.Topic name) → (front : List Row) (one : List MetaRecord) → records_of_topic rows front name (read_body (key.Topic name) x.body) ≡ Ok one
            → (read : Result Body BodyFault) → read_body (key.Topic name) x.body ≡ read → IsSaid rows earlier name
        by_read x found k front one e (Err f) is = absurd (topic_not_err rows front name f one (sym (ap (records_of_topic rows front name) is) ∙ e))
        by_read x found k front one e (Ok b) is = of_body x found k b is (read_is (key.Topic name) x.body b is)

    module _ (pairs : List Pair) (is : read_body (key.TopicConfig name) r.body ≡ Ok (body.Config pairs)) where
      entity : entity_of r ≡ Some (record { who = key.TopicConfig name; what = body.Config pairs })
      entity = entity_read r (key.TopicConfig name) (body.Config pairs) holds is

      topic_stays : (other : List ℕ) → said topic_said (path_of (key.Topic other)) (earlier ++ r ∷ []) ≡ said topic_said (path_of (key.Topic other)) earlier
      topic_stays other = unsaid topic_said (path_of (key.Topic other)) earlier r (ap (pick topic_said) entity)

      others_say : (other : List ℕ) → other ≢ name → topic_by epoch rows other (said topic_said (path_of (key.Topic other)) earlier) (said topic_config_said (path_of (key.TopicConfig other)) earlier)
          ≡ topic_by epoch rows other (said topic_said (path_of (key.Topic other)) (earlier ++ r ∷ [])) (said topic_config_said (path_of (key.TopicConfig other)) (earlier ++ r ∷ []))
      others_say other ne = sym (λ j. topic_by epoch rows other (topic_stays other j) (said_elsewhere topic_config_said (path_of (key.TopicConfig other)) earlier r (λ e. ne (config_names other name (e ∙ sym at))) j))

      config_here : said topic_config_said (path_of (key.TopicConfig name)) (earlier ++ r ∷ []) ≡ Some pairs
      config_here = said_here topic_config_said (path_of (key.TopicConfig name)) earlier r at absent ∙ ap (pick topic_config_said) entity

      with_others : (one : List MetaRecord) (topics : List TopicEntry) → Leads epoch one i (record i { topics = topics }) → SaysTopics epoch rows (earlier ++ r ∷ []) topics → Step epoch rows brokers state earlier r one i
      with_others one topics leads say = record {
        after = record i { topics = topics };
        leads = leads;
        says = record {
          topics = say;
          configs = stay_configs earlier r i.broker_configs (ap (pick broker_config_said) entity) s.configs;
          quotas = stay_quotas earlier r i.quotas (ap (pick quotas_said) entity) s.quotas;
          users = stay_users earlier r i.users (ap (pick scrams_said) entity) s.users;
          entries = stay_entries earlier r i.acls (ap entries_by entity) s.entries;
          next = stay_next earlier r i.next_producer (ap (pick next_said) entity) s.next;
          brokers_are = s.brokers_are;
          state_is = s.state_is;
        };
      }

      by_name : (other : List ℕ) (P : List ℕ → Type 0) → P name → (other ≢ name → P other) → P other
      by_name other P here there = elim (place bytes_order other name) [
        | below less ↦ there (less_differs bytes_order other name less)
        | equal same ↦ subst P (sym same) here
        | above more ↦ there (less_differs_back bytes_order other name more)
      ]

      -- without its topic
      no_topic_step : (one : List MetaRecord) → one ≡ [] → said topic_said (path_of (key.Topic name)) earlier ≡ None → Step epoch rows brokers state earlier r one i
      no_topic_step one none unsaid_topic = with_others one i.topics (subst (λ rs. Leads epoch rs i i) (sym none) (leads_none epoch i)) (record {
        rise = s.topics.rise;
        each = λ other. s.topics.each other ∙ by_name other
            (λ n. topic_by epoch rows n (said topic_said (path_of (key.Topic n)) earlier) (said topic_config_said (path_of (key.TopicConfig n)) earlier)
            ≡ topic_by epoch rows n (said topic_said (path_of (key.Topic n)) (earlier ++ r ∷ [])) (said topic_config_said (path_of (key.TopicConfig n)) (earlier ++ r ∷ [])))
            (ap (λ o. topic_by epoch rows name o (said topic_config_said (path_of (key.TopicConfig name)) earlier)) unsaid_topic
            ∙ sym (ap (λ o. topic_by epoch rows name o (said topic_config_said (path_of (key.TopicConfig name)) (earlier ++ r ∷ []))) (topic_stays name ∙ unsaid_topic)))
            (others_say other);
      })

      -- with it
      own_step : (one : List MetaRecord) → IsConfigured (pos 2) name pairs one → AreRising pairs → IsSaid rows earlier name → Step epoch rows brokers state earlier r one i
      own_step one c rise t =
          let entry : TopicEntry = topic_of epoch name t.what.id (map (partition_in rows name t.what.id) t.what.rows) in
          let there : topic_named name i ≡ Some entry = s.topics.each name ∙ (λ j. topic_by epoch rows name (t.said_is j) (no_config j)) in
          with_others one (put_topic (with_members entry pairs) i.topics)
          (subst (λ rs. Leads epoch rs i (with_topic i (with_members entry pairs))) (sym c.records)
          (config_leads epoch i name entry legal refl pairs s.topics.rise there refl (members_rise pairs rise) c.named))
          (record {
            rise = Rises-put bytes_order name_of_topic (with_members entry pairs) i.topics s.topics.rise;
            each = λ other. by_name other
                (λ n. find bytes_cmp name_of_topic n (put_topic (with_members entry pairs) i.topics)
                ≡ topic_by epoch rows n (said topic_said (path_of (key.Topic n)) (earlier ++ r ∷ [])) (said topic_config_said (path_of (key.TopicConfig n)) (earlier ++ r ∷ [])))
                (find-put_same bytes_order name_of_topic (with_members entry pairs) i.topics ∙ sym (λ j. topic_by epoch rows name ((topic_stays name ∙ t.said_is) j) (config_here j)))
                (λ ne. find-put_other bytes_order name_of_topic (with_members entry pairs) i.topics other ne ∙ s.topics.each other ∙ others_say other ne);
          })

    by_body : (one : List MetaRecord) (b : Body) → read_body (key.TopicConfig name) r.body ≡ Ok b → IsBodyOf (key.TopicConfig name) b → (o : Option Row) → row_of (key.Topic name) rows ≡ o
        → records_if_there o name (Ok b) ≡ Ok one → Step epoch rows brokers state earlier r one i
    by_body one (body.Topic id ps) is h o found e = absurd h
    by_body one (body.State leader leader_epoch controller_epoch isr recovery) is h o found e = absurd h
    by_body one (body.Config pairs) is h None found e = no_topic_step pairs is one (same_ok [] one e) (said_nowhere topic_said (path_of (key.Topic name)) earlier (none_before rows earlier r rest whole z (path_of (key.Topic name)) found))
    by_body one (body.Config pairs) is h (Some x) found e = own_step pairs is one (configured_are (pos 2) name pairs one h e) h (topic_is_said x found)
    by_body one (body.Quota quotas scrams) is h o found e = absurd h
    by_body one (body.Acls entries) is h o found e = absurd h
    by_body one (body.Producer broker start end) is h o found e = absurd h
    by_body one body.Blank is h o found e = absurd h

    by_result : (one : List MetaRecord) (read : Result Body BodyFault) → read_body (key.TopicConfig name) r.body ≡ read → (o : Option Row) → row_of (key.Topic name) rows ≡ o → records_if_there o name read ≡ Ok one → Step epoch rows brokers state earlier r one i
    by_result one (Err f) is None found e = silent_step epoch rows brokers state earlier r one i (same_ok [] one e) (no_entity_is_silent r (entity_unread r (key.TopicConfig name) f holds is)) s
    by_result one (Err f) is (Some x) found e = absurd (cc)
    by_result one (Ok b) is o found e = by_body one b is (read_is (key.TopicConfig name) r.body b is) o found e

    pub topic_config_step : (one : List MetaRecord) → records_if_there (row_of (key.Topic name) rows) name (read_body (key.TopicConfig name) r.body) ≡ Ok one → Step epoch rows brokers state earlier r one i
    topic_config_step one e = by_result one (read_body (key.TopicConfig name) r.body) refl (row_of (key.Topic name) rows) refl e
