-- The records of access control entries and producer ids lead to what is said with them.
use Rattle.std.proofs.Common.{◌≡◌, ℕ, ◌+◌, ◌<◌, ◌^◌, ℤ, ◌≤ℤ◌, pos, negsuc, ◌&&◌, true, false, List, [], ◌∷◌, ◌++◌, length, Some, None, All, refl, sym, ap, ◌∙◌, subst, inl, inr, arith, length-append}
use Rattle.std.specs.Prelude.{Result, Ok, int_lt, ◌+ℤ◌}
use Rattle.std.proofs.lemmas.Bool.{and_parts, and_from}
use Rattle.std.proofs.lemmas.Int.{ints}
use Rattle.std.proofs.lemmas.List.Elements.{All-cons, All-nil}
use Rattle.kz_types.specs.declared.tree.Row.{Row}
use Rattle.kz_types.specs.declared.row.AclRow.{AclRow}
use Rattle.kz_types.specs.declared.bodies.Body.{Body}
use Rattle.kz_types.specs.declared.bodies.Body.TheVariants as body
use Rattle.kz_types.specs.declared.fault.BodyFault.{BodyFault}
use Rattle.kz_types.specs.declared.key.EntityKey.TheVariants as key
use Rattle.kz_types.specs.declared.record.MetaRecord.TheVariants as meta
use Rattle.kz_types.specs.declared.record.RegisterBrokerRecord.{RegisterBrokerRecord}
use Rattle.kz_types.specs.PathRule.{is_part}
use Rattle.kz_types.specs.Paths.{is_pattern, is_resource_type, is_legal, has_path, key_of, path_of}
use Rattle.kz_spec_data.specs.Bodies.{read_body}
use Rattle.kz_spec_data.specs.Metadata.{Image}
use Rattle.kz_spec_data.specs.ImageRules.{are_codes, is_resource, max_next}
use Rattle.kz_spec_data.specs.Tree.{row_at}
use Rattle.kz_spec_data.specs.Translation.{migrated_id, acl_records, count_of_entries, max_block_end}
use Rattle.kz_laws_values.proofs.Legal.{IsGoodKey}
use Rattle.kz_laws_znodes.proofs.ReadEntries.{IsEntryRead, AreEntriesRead}
use Rattle.kz_laws_znodes.proofs.Accepting.{Leads}
use Rattle.kz_laws_znodes.proofs.OtherSteps.{IsEntryMade, numbered, AreBelowNumber, entries_lead, producer_leads}
use Rattle.kz_laws_znodes.proofs.Saying.{entity_of, entity_read, pick, topic_said, topic_config_said, broker_config_said, quotas_said, scrams_said, next_said, said_here, said_nowhere, entries_by, all_entries, entries_counted}
use Rattle.kz_laws_znodes.proofs.Says.{SaysEntries, Says}
use Rattle.kz_laws_znodes.proofs.ZnodeStays.{Step, entries_after, stay_topics, stay_configs, stay_quotas, stay_users, stay_entries, stay_next}
use Rattle.kz_laws_znodes.proofs.Walk.{AreRows, absent_here, keyed_here, key_here, path_of_here}
use Rattle.kz_laws_znodes.proofs.Partitions.{lt_fails}

-- ---- numbers of entries

pub numbered_append : (n : ℕ) (xs ys : List AclRow) → numbered n (xs ++ ys) ≡ numbered n xs ++ numbered (n + length xs) ys
numbered_append n [] ys = ap (λ m. numbered m ys) {x = n} {y = n + 0} (omega arith)
numbered_append n (x ∷ xs) ys = ap (λ rest. record { id = migrated_id n; row = x } ∷ rest) (numbered_append (n + 1) xs ys ∙ ap (λ m. numbered (n + 1) xs ++ numbered m ys) {x = n + 1 + length xs} {y = n + length (x ∷ xs)} (omega arith))

-- ---- entries of a resource

resource_good : (pattern kind : ℤ) (name : List ℕ) → IsGoodKey (key.Acl pattern kind name) → (is_pattern pattern ≡ true) × (is_resource_type kind ≡ true) × (is_part name ≡ true)
unfolding is_legal
resource_good pattern kind name g =
    let k = and_parts (is_pattern pattern && is_resource_type kind) (is_part name) g.0 in
    let m = and_parts (is_pattern pattern) (is_resource_type kind) k.0 in
    (m.0, m.1, k.1)

resource_holds : (pattern kind : ℤ) (name : List ℕ) → IsGoodKey (key.Acl pattern kind name) → has_path (key.Acl pattern kind name) ≡ true → (is_resource kind pattern name ≡ true) × (are_codes kind pattern ≡ true)
resource_holds pattern kind name g fits =
    let k = resource_good pattern kind name g in
    let both : are_codes kind pattern ≡ true = and_from (is_resource_type kind) (is_pattern pattern) k.1 k.0 in
    (rw (k.2, both, fits) refl, both)

entry_made : (pattern kind : ℤ) (name : List ℕ) (row : AclRow) → IsGoodKey (key.Acl pattern kind name) → has_path (key.Acl pattern kind name) ≡ true → IsEntryRead pattern kind name row → IsEntryMade row
entry_made pattern kind name row g fits h =
    let k = resource_holds pattern kind name g fits in record {
      resource = (λ i. is_resource (h.kind_is i) (h.pattern_is i) (h.name_is i)) ∙ k.0;
      codes_are = (λ i. are_codes (h.kind_is i) (h.pattern_is i)) ∙ k.1;
      operation = h.operation_is;
      permission = h.permission_is;
    }

all_entries_made : (pattern kind : ℤ) (name : List ℕ) → IsGoodKey (key.Acl pattern kind name) → has_path (key.Acl pattern kind name) ≡ true → (entries : List AclRow) → AreEntriesRead pattern kind name entries → All IsEntryMade entries
all_entries_made pattern kind name g fits [] h = All-nil IsEntryMade
all_entries_made pattern kind name g fits (x ∷ xs) h = All-cons IsEntryMade x xs (entry_made pattern kind name x g fits h.0) (all_entries_made pattern kind name g fits xs h.1)

-- ---- producer ids

next_low : (end : ℤ) → pos 0 ≤ℤ end → int_lt (end +ℤ pos 1) (pos 0) ≡ false
next_low end h = lt_fails (end +ℤ pos 1) (pos 0) (omega (arith, ints, h))

next_high : (end : ℤ) → int_lt max_block_end end ≡ false → int_lt max_next (end +ℤ pos 1) ≡ false
next_high end h = grind (arith, ints)

-- ---- their znodes

module _ (epoch : ℤ) (rows : List Row) (brokers : List RegisterBrokerRecord) (state : ℤ) (earlier : List Row) (r : Row) (rest : List Row) (i : Image)
    (whole : rows ≡ earlier ++ r ∷ rest) (z : AreRows rows) (s : Says epoch rows brokers state earlier i) where
  -- ---- access control entries

  module _ (pattern kind : ℤ) (name : List ℕ) (holds : key_of r.path ≡ Some (key.Acl pattern kind name)) (entries : List AclRow)
      (is : read_body (key.Acl pattern kind name) r.body ≡ Ok (body.Acls entries)) (h : AreEntriesRead pattern kind name entries) (few : count_of_entries earlier + length entries < 2 ^ 64) where
    acl_entity : entity_of r ≡ Some (record { who = key.Acl pattern kind name; what = body.Acls entries })
    acl_entity = entity_read r (key.Acl pattern kind name) (body.Acls entries) holds is

    acl_fits : has_path (key.Acl pattern kind name) ≡ true
    acl_fits = elim ((keyed_here rows earlier r rest whole z (key.Acl pattern kind name) holds).fits refl) [
      | inl path ↦ path
      | inr nothing ↦ absurd (let both : ◌≡◌ {A = Result Body BodyFault} (Ok (body.Acls entries)) (Ok (body.Quota [] [])) = sym is ∙ nothing in cc)
    ]

    led : Leads epoch (acl_records (count_of_entries earlier) entries) i (record i { acls = i.acls ++ numbered (count_of_entries earlier) entries }) × AreBelowNumber (count_of_entries earlier + length entries) (i.acls ++ numbered (count_of_entries earlier) entries)
    led = entries_lead epoch i (count_of_entries earlier) entries few (subst (λ n. AreBelowNumber n i.acls) (sym (entries_counted earlier)) s.entries.below)
        (all_entries_made pattern kind name (key_here rows earlier r rest whole z (key.Acl pattern kind name) holds) acl_fits entries h)

    all_after : all_entries (earlier ++ r ∷ []) ≡ all_entries earlier ++ entries
    all_after = entries_after earlier r ∙ ap (λ o. all_entries earlier ++ entries_by o) acl_entity

    entries_say : SaysEntries (earlier ++ r ∷ []) (i.acls ++ numbered (count_of_entries earlier) entries)
    entries_say = record {
      each = ap (λ acls. acls ++ numbered (count_of_entries earlier) entries) s.entries.each ∙ ap (λ n. numbered 0 (all_entries earlier) ++ numbered n entries) (entries_counted earlier)
          ∙ ap (λ n. numbered 0 (all_entries earlier) ++ numbered n entries) {x = length (all_entries earlier)} {y = 0 + length (all_entries earlier)} (omega arith)
          ∙ sym (numbered_append 0 (all_entries earlier) entries) ∙ ap (numbered 0) (sym all_after);
      below = subst (λ n. AreBelowNumber n (i.acls ++ numbered (count_of_entries earlier) entries)) (ap (λ n. n + length entries) (entries_counted earlier) ∙ sym (ap length all_after ∙ length-append (all_entries earlier) entries)) led.1;
    }

    pub entries_step : Step epoch rows brokers state earlier r (acl_records (count_of_entries earlier) entries) i
    entries_step = record {
      after = record i { acls = i.acls ++ numbered (count_of_entries earlier) entries };
      leads = led.0;
      says = record {
        topics = stay_topics earlier r epoch rows i.topics (ap (pick topic_said) acl_entity) (ap (pick topic_config_said) acl_entity) s.topics;
        configs = stay_configs earlier r i.broker_configs (ap (pick broker_config_said) acl_entity) s.configs;
        quotas = stay_quotas earlier r i.quotas (ap (pick quotas_said) acl_entity) s.quotas;
        users = stay_users earlier r i.users (ap (pick scrams_said) acl_entity) s.users;
        entries = entries_say;
        next = stay_next earlier r i.next_producer (ap (pick next_said) acl_entity) s.next;
        brokers_are = s.brokers_are;
        state_is = s.state_is;
      };
    }

  -- ---- producer ids

  module _ (holds : key_of r.path ≡ Some key.Producer) (broker start end : ℤ) (is : read_body key.Producer r.body ≡ Ok (body.Producer broker start end)) (low : pos 0 ≤ℤ end) where
    block_entity : entity_of r ≡ Some (record { who = key.Producer; what = body.Producer broker start end })
    block_entity = entity_read r key.Producer (body.Producer broker start end) holds is

    block_at : path_of key.Producer ≡ r.path
    block_at = path_of_here rows earlier r rest whole z key.Producer holds

    block_absent : row_at (path_of key.Producer) earlier ≡ None
    block_absent = ap (λ p. row_at p earlier) block_at ∙ absent_here rows earlier r rest whole z

    pub producer_step : int_lt max_block_end end ≡ false → Step epoch rows brokers state earlier r (meta.ProducerIds (record { broker_id = negsuc 0; broker_epoch = negsuc 0; next = end +ℤ pos 1 }) ∷ []) i
    producer_step high = record {
      after = record i { next_producer = Some (end +ℤ pos 1) };
      leads = producer_leads epoch i (end +ℤ pos 1) (next_low end low) (next_high end high) (s.next ∙ said_nowhere next_said (path_of key.Producer) earlier block_absent);
      says = record {
        topics = stay_topics earlier r epoch rows i.topics (ap (pick topic_said) block_entity) (ap (pick topic_config_said) block_entity) s.topics;
        configs = stay_configs earlier r i.broker_configs (ap (pick broker_config_said) block_entity) s.configs;
        quotas = stay_quotas earlier r i.quotas (ap (pick quotas_said) block_entity) s.quotas;
        users = stay_users earlier r i.users (ap (pick scrams_said) block_entity) s.users;
        entries = stay_entries earlier r i.acls (ap entries_by block_entity) s.entries;
        next = sym (said_here next_said (path_of key.Producer) earlier r block_at block_absent ∙ ap (pick next_said) block_entity);
        brokers_are = s.brokers_are;
        state_is = s.state_is;
      };
    }
