-- The records of all znodes are accepted, and make the metadata that the znodes say.
use Rattle.std.proofs.Common.{◌≡◌, ℕ, suc, ◌+◌, ◌<◌, ◌≤◌, ◌^◌, ℤ, pos, negsuc, nat_lt, not, Bool, true, false, cond, List, [], ◌∷◌, ◌++◌, length, map, Option, Some, None, Less, refl, sym, ap, ◌∙◌, subst, arith, codes, append-nil, append_assoc, length-append}
use Rattle.std.specs.Prelude.{Result, Ok, Err, int_lt, option_and_then, if◌then◌else◌, ◌+ℤ◌}
use Rattle.std.proofs.lemmas.Bool.{ltb-false}
use Rattle.std.proofs.lemmas.List.Elements.{All-nil}
use Rattle.std.proofs.lemmas.List.Sums.{sum_by-append, sum_by-cons}
use Rattle.std.specs.Str.{is_utf8}
use Rattle.std.specs.Result.{result_ok}
use Rattle.kz_types.specs.declared.limits.TheConstants.{MAX_EPOCH, MAX_RECORDS}
use Rattle.kz_types.specs.declared.id.Id.{Id}
use Rattle.kz_types.specs.declared.tree.Row.{Row}
use Rattle.kz_types.specs.declared.row.AclRow.{AclRow}
use Rattle.kz_types.specs.declared.bodies.AssignmentRow.{AssignmentRow}
use Rattle.kz_types.specs.declared.bodies.QuotaRow.{QuotaRow}
use Rattle.kz_types.specs.declared.bodies.ScramPair.{ScramPair}
use Rattle.kz_types.specs.declared.bodies.Body.{Body}
use Rattle.kz_types.specs.declared.bodies.Body.TheVariants as body
use Rattle.kz_types.specs.declared.fault.BodyFault.{BodyFault}
use Rattle.kz_types.specs.declared.fault.ReadWhy.{ReadWhy}
use Rattle.kz_types.specs.declared.fault.ReadWhy.TheVariants as why
use Rattle.kz_types.specs.declared.key.EntityKey.{EntityKey}
use Rattle.kz_types.specs.declared.key.EntityKey.TheVariants as key
use Rattle.kz_types.specs.declared.record.MetaRecord.{MetaRecord}
use Rattle.kz_types.specs.declared.record.MetaRecord.TheVariants as meta
use Rattle.kz_types.specs.declared.record.RegisterBrokerRecord.{RegisterBrokerRecord}
use Rattle.kz_types.specs.Paths.{key_of}
use Rattle.kz_types.specs.Order.{bytes_cmp}
use Rattle.kz_spec_data.specs.Bodies.{read_body, are_some_of}
use Rattle.kz_spec_data.specs.Metadata.{Image, empty_image, id_of_acl}
use Rattle.kz_spec_data.specs.Image.{image_with, all_applied, unless_bad, first_bad}
use Rattle.kz_spec_data.specs.Rendering.{Excess, excess}
use Rattle.kz_spec_data.specs.Translation.{RowRecords, Translated, topic_records, records_of_topic, is_taken, assignment_at, may_lead, leader_of, bad_field, records_of_state, records_if_assigned, scram_records, quota_record, records_of_quotas, migrated_id, acl_records, entries_in, count_of_entries, body_of_row, records_of_acls, max_block_end, records_of_producer, records_of, row_records, records_after, all_records, further_records, records_unless_excess, within_limits, translate}
use Rattle.kz_laws_values.specs.Readable.{IsBlock}
use Rattle.kz_laws_znodes.specs.Translations.{AreZnodes, bare_image}
use Rattle.kz_laws_znodes.proofs.ReadQuotas.{IsQuotaBodyRead}
use Rattle.kz_laws_znodes.proofs.ZnodeReading.{IsBodyOf, read_is}
use Rattle.kz_laws_znodes.proofs.Accepting.{Accepted, Leads, leads_none, leads_append}
use Rattle.kz_laws_znodes.proofs.Saying.{entity_read, entity_unread, no_entity, pick, topic_said, topic_config_said, broker_config_said, quotas_said, scrams_said, next_said, entries_said, entries_by}
use Rattle.kz_laws_znodes.proofs.Says.{broker_named, configuration_in, scrams_in_rows, Says}
use Rattle.kz_laws_znodes.proofs.ZnodeStays.{Step, IsSilent, silent_step, no_entity_is_silent}
use Rattle.kz_laws_znodes.proofs.Walk.{AreRows, rows_of_znodes, AllHaveRecords, all_have_records, FirstRecords, first_records, entity_records_are, no_records}
use Rattle.kz_laws_znodes.proofs.TopicWalk.{topic_step}
use Rattle.kz_laws_znodes.proofs.ConfigWalk.{topic_config_step}
use Rattle.kz_laws_znodes.proofs.BrokerWalk.{broker_config_step}
use Rattle.kz_laws_znodes.proofs.QuotaWalk.{quota_step, user_step}
use Rattle.kz_laws_znodes.proofs.EntryWalk.{entries_step, producer_step}

-- ---- one znode

same_ok : (a b : List MetaRecord) → ◌≡◌ {A = RowRecords} (Ok a) (Ok b) → b ≡ a
same_ok a b e = cc

counted_once : (n : ℕ) (entries : List AclRow) → length (acl_records n entries) ≡ length entries
counted_once n [] = refl
counted_once n (x ∷ xs) = ap suc (counted_once (n + 1) xs)

module _ (epoch : ℤ) (rows : List Row) (brokers : List RegisterBrokerRecord) (state : ℤ) (earlier : List Row) (r : Row) (rest : List Row) (i : Image)
    (whole : rows ≡ earlier ++ r ∷ rest) (z : AreRows rows) (all : AllHaveRecords rows) (s : Says epoch rows brokers state earlier i) (one : List MetaRecord)
    (few : count_of_entries earlier + length one < 2 ^ 64) where
  Done : Type 0
  Done = Step epoch rows brokers state earlier r one i

  step_test : (t : Bool) (w : ReadWhy) (more : RowRecords) → (if not t then Err w else more) ≡ Ok one → more ≡ Ok one
  step_test true w more e = e
  step_test false w more e = absurd (cc)

  -- a state gives no records
  state_records : (replicas : List ℤ) (read : Result Body BodyFault) → records_of_state replicas read ≡ Ok one → one ≡ []
  state_records replicas (Err e) h = absurd (cc)
  state_records replicas (Ok (body.Topic id ps)) h = same_ok [] one h
  state_records replicas (Ok (body.State leader leader_epoch controller_epoch isr recovery)) h =
      same_ok [] one (step_test (may_lead replicas (leader_of leader)) _ _ (step_test (are_some_of replicas isr) _ _ h))
  state_records replicas (Ok (body.Config pairs)) h = same_ok [] one h
  state_records replicas (Ok (body.Quota quotas scrams)) h = same_ok [] one h
  state_records replicas (Ok (body.Acls entries)) h = same_ok [] one h
  state_records replicas (Ok (body.Producer broker start end)) h = same_ok [] one h
  state_records replicas (Ok body.Blank) h = same_ok [] one h

  assigned_records : (a : Option AssignmentRow) (read : Result Body BodyFault) → records_if_assigned a read ≡ Ok one → one ≡ []
  assigned_records None read h = same_ok [] one h
  assigned_records (Some a) read h = state_records a.replicas read h

  -- what a state and an empty block say
  nothing_said : (k : EntityKey) (b : Body) → key_of r.path ≡ Some k → read_body k r.body ≡ Ok b → topic_said k b ≡ None → topic_config_said k b ≡ None → broker_config_said k b ≡ None → quotas_said k b ≡ None → scrams_said k b ≡ None
      → entries_said k b ≡ [] → next_said k b ≡ None → IsSilent r
  nothing_said k b holds is a c d e f g h =
      let entity = entity_read r k b holds is in record {
        topic = ap (pick topic_said) entity ∙ a;
        topic_config = ap (pick topic_config_said) entity ∙ c;
        broker_config = ap (pick broker_config_said) entity ∙ d;
        quotas = ap (pick quotas_said) entity ∙ e;
        scrams = ap (pick scrams_said) entity ∙ f;
        entries = ap entries_by entity ∙ g;
        next = ap (pick next_said) entity ∙ h;
      }

  state_silent : (topic : List ℕ) (number : ℤ) → key_of r.path ≡ Some (key.Partition topic number) → (read : Result Body BodyFault) → read_body (key.Partition topic number) r.body ≡ read → IsSilent r
  state_silent topic number holds (Err e) is = no_entity_is_silent r (entity_unread r (key.Partition topic number) e holds is)
  state_silent topic number holds (Ok b) is = by b (read_is (key.Partition topic number) r.body b is) is
    where
      by : (b : Body) → IsBodyOf (key.Partition topic number) b → read_body (key.Partition topic number) r.body ≡ Ok b → IsSilent r
      by (body.Topic id ps) h e = absurd h
      by (body.State leader leader_epoch controller_epoch isr recovery) h e = nothing_said (key.Partition topic number) (body.State leader leader_epoch controller_epoch isr recovery) holds e refl refl refl refl refl refl refl
      by (body.Config pairs) h e = absurd h
      by (body.Quota quotas scrams) h e = absurd h
      by (body.Acls entries) h e = absurd h
      by (body.Producer broker start end) h e = absurd h
      by body.Blank h e = absurd h

  silent : one ≡ [] → IsSilent r → Done
  unfolding Done
  silent none q = silent_step epoch rows brokers state earlier r one i none q s

  at_topic : (name : List ℕ) → key_of r.path ≡ Some (key.Topic name) → (read : Result Body BodyFault) → read_body (key.Topic name) r.body ≡ read → records_of_topic rows earlier name read ≡ Ok one → Done
  unfolding Done
  at_topic name holds (Err e) is h = absurd (cc)
  at_topic name holds (Ok b) is h = by b (read_is (key.Topic name) r.body b is) is h
    where
      by_free : (id : Id) (ps : List AssignmentRow) → read_body (key.Topic name) r.body ≡ Ok (body.Topic id ps) → (t : Bool) → is_taken id earlier ≡ t → (if t then Err why.SameId else Ok (topic_records rows name id ps)) ≡ Ok one → Step epoch rows brokers state earlier r one i
      by_free id ps e true free g = absurd (cc)
      by_free id ps e false free g = subst (λ rs. Step epoch rows brokers state earlier r rs i) (sym (same_ok (topic_records rows name id ps) one g)) (topic_step epoch rows brokers state earlier r rest i whole z all s name id ps holds e free)

      by : (b : Body) → IsBodyOf (key.Topic name) b → read_body (key.Topic name) r.body ≡ Ok b → records_of_topic rows earlier name (Ok b) ≡ Ok one → Step epoch rows brokers state earlier r one i
      by (body.Topic id ps) k e g = by_free id ps e (is_taken id earlier) refl g
      by (body.State leader leader_epoch controller_epoch isr recovery) k e g = absurd k
      by (body.Config pairs) k e g = absurd k
      by (body.Quota quotas scrams) k e g = absurd k
      by (body.Acls entries) k e g = absurd k
      by (body.Producer broker start end) k e g = absurd k
      by body.Blank k e g = absurd k

  -- what is read of an entity that may have quotas
  quotas_of_read : (k : EntityKey) → ((b : Body) → IsBodyOf k b → (qs : List QuotaRow) × (ss : List ScramPair) × (b ≡ body.Quota qs ss) × IsQuotaBodyRead k qs ss)
      → ((qs : List QuotaRow) (ss : List ScramPair) → read_body k r.body ≡ Ok (body.Quota qs ss) → IsQuotaBodyRead k qs ss → one ≡ scram_records k ss ++ map (quota_record k) qs → Step epoch rows brokers state earlier r one i)
      → (read : Result Body BodyFault) → read_body k r.body ≡ read → records_of_quotas k read ≡ Ok one → Done
  unfolding Done
  quotas_of_read k form go (Err e) is h = absurd (cc)
  quotas_of_read k form go (Ok b) is h =
      let f = form b (read_is k r.body b is) in
      go f.0 f.1 (is ∙ ap (λ x. Ok x) f.2) f.3 (same_ok (scram_records k f.1 ++ map (quota_record k) f.0) one (sym (ap (λ x. records_of_quotas k (Ok x)) f.2) ∙ h))

  client_form : (client : Option (List ℕ)) (b : Body) → IsBodyOf (key.Client client) b → (qs : List QuotaRow) × (ss : List ScramPair) × (b ≡ body.Quota qs ss) × IsQuotaBodyRead (key.Client client) qs ss
  client_form client (body.Topic id ps) h = absurd h
  client_form client (body.State leader leader_epoch controller_epoch isr recovery) h = absurd h
  client_form client (body.Config pairs) h = absurd h
  client_form client (body.Quota quotas scrams) h = (quotas, scrams, refl, h)
  client_form client (body.Acls entries) h = absurd h
  client_form client (body.Producer broker start end) h = absurd h
  client_form client body.Blank h = absurd h

  user_form : (user : Option (List ℕ)) (b : Body) → IsBodyOf (key.User user) b → (qs : List QuotaRow) × (ss : List ScramPair) × (b ≡ body.Quota qs ss) × IsQuotaBodyRead (key.User user) qs ss
  user_form user (body.Topic id ps) h = absurd h
  user_form user (body.State leader leader_epoch controller_epoch isr recovery) h = absurd h
  user_form user (body.Config pairs) h = absurd h
  user_form user (body.Quota quotas scrams) h = (quotas, scrams, refl, h)
  user_form user (body.Acls entries) h = absurd h
  user_form user (body.Producer broker start end) h = absurd h
  user_form user body.Blank h = absurd h

  user_client_form : (user client : Option (List ℕ)) (b : Body) → IsBodyOf (key.UserClient user client) b → (qs : List QuotaRow) × (ss : List ScramPair) × (b ≡ body.Quota qs ss) × IsQuotaBodyRead (key.UserClient user client) qs ss
  user_client_form user client (body.Topic id ps) h = absurd h
  user_client_form user client (body.State leader leader_epoch controller_epoch isr recovery) h = absurd h
  user_client_form user client (body.Config pairs) h = absurd h
  user_client_form user client (body.Quota quotas scrams) h = (quotas, scrams, refl, h)
  user_client_form user client (body.Acls entries) h = absurd h
  user_client_form user client (body.Producer broker start end) h = absurd h
  user_client_form user client body.Blank h = absurd h

  ip_form : (address : Option (List ℕ)) (b : Body) → IsBodyOf (key.Ip address) b → (qs : List QuotaRow) × (ss : List ScramPair) × (b ≡ body.Quota qs ss) × IsQuotaBodyRead (key.Ip address) qs ss
  ip_form address (body.Topic id ps) h = absurd h
  ip_form address (body.State leader leader_epoch controller_epoch isr recovery) h = absurd h
  ip_form address (body.Config pairs) h = absurd h
  ip_form address (body.Quota quotas scrams) h = (quotas, scrams, refl, h)
  ip_form address (body.Acls entries) h = absurd h
  ip_form address (body.Producer broker start end) h = absurd h
  ip_form address body.Blank h = absurd h

  at_acls : (pattern kind : ℤ) (name : List ℕ) → key_of r.path ≡ Some (key.Acl pattern kind name) → (read : Result Body BodyFault) → read_body (key.Acl pattern kind name) r.body ≡ read → records_of_acls earlier read ≡ Ok one → Done
  unfolding Done
  at_acls pattern kind name holds (Err e) is h = absurd (cc)
  at_acls pattern kind name holds (Ok b) is h = by b (read_is (key.Acl pattern kind name) r.body b is) is h
    where
      by : (b : Body) → IsBodyOf (key.Acl pattern kind name) b → read_body (key.Acl pattern kind name) r.body ≡ Ok b → records_of_acls earlier (Ok b) ≡ Ok one → Step epoch rows brokers state earlier r one i
      by (body.Topic id ps) k e g = absurd k
      by (body.State leader leader_epoch controller_epoch isr recovery) k e g = absurd k
      by (body.Config pairs) k e g = absurd k
      by (body.Quota quotas scrams) k e g = absurd k
      by (body.Acls entries) k e g =
          let own : one ≡ acl_records (count_of_entries earlier) entries = same_ok (acl_records (count_of_entries earlier) entries) one g in
          let long : length one ≡ length entries = ap length own ∙ counted_once (count_of_entries earlier) entries in
          subst (λ rs. Step epoch rows brokers state earlier r rs i) (sym own) (entries_step epoch rows brokers state earlier r rest i whole z s pattern kind name holds entries e k (omega (arith, few, long)))
      by (body.Producer broker start end) k e g = absurd k
      by body.Blank k e g = absurd k

  at_producer : key_of r.path ≡ Some key.Producer → (read : Result Body BodyFault) → read_body key.Producer r.body ≡ read → records_of_producer read ≡ Ok one → Done
  unfolding Done
  at_producer holds (Err e) is h = absurd (cc)
  at_producer holds (Ok b) is h = by b (read_is key.Producer r.body b is) is h
    where
      by_end : (broker start end : ℤ) → read_body key.Producer r.body ≡ Ok (body.Producer broker start end) → IsBlock broker start end → (t : Bool) → int_lt max_block_end end ≡ t
          → (if t then bad_field (codes "block_end") else Ok (meta.ProducerIds (record { broker_id = negsuc 0; broker_epoch = negsuc 0; next = end +ℤ pos 1 }) ∷ [])) ≡ Ok one → Step epoch rows brokers state earlier r one i
      by_end broker start end e k true high g = absurd (cc)
      by_end broker start end e k false high g =
          subst (λ rs. Step epoch rows brokers state earlier r rs i) (sym (same_ok (meta.ProducerIds (record { broker_id = negsuc 0; broker_epoch = negsuc 0; next = end +ℤ pos 1 }) ∷ []) one g))
          (producer_step epoch rows brokers state earlier r rest i whole z s holds broker start end e k.end_is.0 high)

      by : (b : Body) → IsBodyOf key.Producer b → read_body key.Producer r.body ≡ Ok b → records_of_producer (Ok b) ≡ Ok one → Step epoch rows brokers state earlier r one i
      by (body.Topic id ps) k e g = absurd k
      by (body.State leader leader_epoch controller_epoch isr recovery) k e g = absurd k
      by (body.Config pairs) k e g = absurd k
      by (body.Quota quotas scrams) k e g = absurd k
      by (body.Acls entries) k e g = absurd k
      by (body.Producer broker start end) k e g = by_end broker start end e k (int_lt max_block_end end) refl g
      by body.Blank k e g = silent (same_ok [] one g) (nothing_said key.Producer body.Blank holds e refl refl refl refl refl refl refl)

  at_key : (k : EntityKey) → key_of r.path ≡ Some k → records_of rows earlier k (read_body k r.body) ≡ Ok one → Done
  unfolding Done
  at_key (key.Topic name) holds e = at_topic name holds (read_body (key.Topic name) r.body) refl e
  at_key (key.Partition topic number) holds e = silent (assigned_records (assignment_at topic number rows) (read_body (key.Partition topic number) r.body) e) (state_silent topic number holds (read_body (key.Partition topic number) r.body) refl)
  at_key (key.TopicConfig name) holds e = topic_config_step epoch rows brokers state earlier r rest i whole z all s name holds one e
  at_key (key.BrokerConfig broker) holds e = broker_config_step epoch rows brokers state earlier r rest i whole z s broker holds one e
  at_key (key.Client client) holds e = quotas_of_read (key.Client client) (client_form client)
      (λ qs ss is h own. quota_step epoch rows brokers state earlier r rest i whole z s (key.Client client) refl refl holds qs ss is h one refl refl own) (read_body (key.Client client) r.body) refl e
  at_key (key.User None) holds e = quotas_of_read (key.User None) (user_form None)
      (λ qs ss is h own. quota_step epoch rows brokers state earlier r rest i whole z s (key.User None) refl refl holds qs ss is h one refl refl own) (read_body (key.User None) r.body) refl e
  at_key (key.User (Some name)) holds e = quotas_of_read (key.User (Some name)) (user_form (Some name))
      (λ qs ss is h own. user_step epoch rows brokers state earlier r rest i whole z s name holds qs ss is h one own) (read_body (key.User (Some name)) r.body) refl e
  at_key (key.UserClient user client) holds e = quotas_of_read (key.UserClient user client) (user_client_form user client)
      (λ qs ss is h own. quota_step epoch rows brokers state earlier r rest i whole z s (key.UserClient user client) refl refl holds qs ss is h one refl refl own) (read_body (key.UserClient user client) r.body) refl e
  at_key (key.Ip address) holds e = quotas_of_read (key.Ip address) (ip_form address)
      (λ qs ss is h own. quota_step epoch rows brokers state earlier r rest i whole z s (key.Ip address) refl refl holds qs ss is h one refl refl own) (read_body (key.Ip address) r.body) refl e
  at_key (key.Acl pattern kind name) holds e = at_acls pattern kind name holds (read_body (key.Acl pattern kind name) r.body) refl e
  at_key key.Producer holds e = at_producer holds (read_body key.Producer r.body) refl e

  by_key : (o : Option EntityKey) → key_of r.path ≡ o → row_records rows earlier r ≡ Ok one → Step epoch rows brokers state earlier r one i
  unfolding Done
  by_key None holds e = silent (no_records rows earlier r one holds e) (no_entity_is_silent r (no_entity r holds))
  by_key (Some k) holds e = at_key k holds (entity_records_are rows earlier r k one holds e)

  pub one_step : row_records rows earlier r ≡ Ok one → Step epoch rows brokers state earlier r one i
  one_step e = by_key (key_of r.path) refl e

-- ---- how many entries there are

entries_few : (rows earlier : List Row) (r : Row) (one : List MetaRecord) → row_records rows earlier r ≡ Ok one → entries_in (body_of_row r) ≤ length one
entries_few rows earlier r one e = by_key (key_of r.path) refl
  where
    many : (k : EntityKey) (entries : List AclRow) → IsBodyOf k (body.Acls entries) → records_of rows earlier k (Ok (body.Acls entries)) ≡ Ok one → length entries ≤ length one
    many (key.Topic name) entries h g = absurd h
    many (key.Partition topic number) entries h g = absurd h
    many (key.TopicConfig name) entries h g = absurd h
    many (key.BrokerConfig broker) entries h g = absurd h
    many (key.Client client) entries h g = absurd h
    many (key.User user) entries h g = absurd h
    many (key.UserClient user client) entries h g = absurd h
    many (key.Ip address) entries h g = absurd h
    many (key.Acl pattern kind name) entries h g =
        let long : length one ≡ length entries = ap length (same_ok (acl_records (count_of_entries earlier) entries) one g) ∙ counted_once (count_of_entries earlier) entries in omega (arith, long)
    many key.Producer entries h g = absurd h

    by_body : (k : EntityKey) (b : Body) → read_body k r.body ≡ Ok b → records_of rows earlier k (Ok b) ≡ Ok one → entries_in (Some b) ≤ length one
    by_body k (body.Topic id ps) is g = omega arith
    by_body k (body.State leader leader_epoch controller_epoch isr recovery) is g = omega arith
    by_body k (body.Config pairs) is g = omega arith
    by_body k (body.Quota quotas scrams) is g = omega arith
    by_body k (body.Acls entries) is g = many k entries (read_is k r.body (body.Acls entries) is) g
    by_body k (body.Producer broker start end) is g = omega arith
    by_body k body.Blank is g = omega arith

    by_read : (k : EntityKey) (read : Result Body BodyFault) → read_body k r.body ≡ read → records_of rows earlier k read ≡ Ok one → entries_in (result_ok read) ≤ length one
    by_read k (Err f) is g = omega arith
    by_read k (Ok b) is g = by_body k b is g

    by_key : (o : Option EntityKey) → key_of r.path ≡ o → entries_in (body_of_row r) ≤ length one
    by_key None holds = subst (λ o. entries_in (option_and_then (λ k. result_ok (read_body k r.body)) o) ≤ length one) (sym holds) (omega arith)
    by_key (Some k) holds = subst (λ o. entries_in (option_and_then (λ w. result_ok (read_body w r.body)) o) ≤ length one) (sym holds) (by_read k (read_body k r.body) refl (entity_records_are rows earlier r k one holds e))

count_after : (earlier : List Row) (r : Row) → count_of_entries (earlier ++ r ∷ []) ≡ count_of_entries earlier + entries_in (body_of_row r)
count_after earlier r =
    let own : count_of_entries (r ∷ []) ≡ entries_in (body_of_row r) + count_of_entries [] = sum_by-cons (λ x. entries_in (body_of_row x)) r [] in
    let none : count_of_entries [] ≡ 0 = refl in
    sum_by-append (λ x. entries_in (body_of_row x)) earlier (r ∷ []) ∙ ap (λ n. count_of_entries earlier + n) {x = count_of_entries (r ∷ [])} {y = entries_in (body_of_row r)} (omega (arith, own, none))

-- ---- all znodes

-- The records lead to metadata that is what all the znodes say.
pub record Ends (epoch : ℤ) (rows : List Row) (brokers : List RegisterBrokerRecord) (state : ℤ) (rs : List MetaRecord) (i : Image) : Type 0 where
  pub after : Image
  pub leads : Leads epoch rs i after
  pub says : Says epoch rows brokers state rows after

module _ (epoch : ℤ) (rows : List Row) (brokers : List RegisterBrokerRecord) (state : ℤ) (z : AreRows rows) (all : AllHaveRecords rows) where
  all_steps : (earlier todo : List Row) (i : Image) (rs : List MetaRecord) → rows ≡ earlier ++ todo → Says epoch rows brokers state earlier i → records_after rows earlier todo ≡ Ok rs → count_of_entries earlier + length rs < 2 ^ 64
      → Ends epoch rows brokers state rs i
  all_steps earlier [] i rs whole s e few = record {
    after = i;
    leads = subst (λ xs. Leads epoch xs i i) (nothing rs e) (leads_none epoch i);
    says = subst (λ xs. Says epoch rows brokers state xs i) (sym (whole ∙ append-nil earlier)) s;
  }
    where
      nothing : (rs : List MetaRecord) → ◌≡◌ {A = Translated} (Ok []) (Ok rs) → [] ≡ rs
      nothing rs e = cc
  all_steps earlier (r ∷ todo) i rs whole s e few =
      let f : FirstRecords rows earlier r todo rs = first_records rows earlier r todo rs e in
      let long : length rs ≡ length f.one + length f.more = ap length (sym f.whole) ∙ length-append f.one f.more in
      let step : Step epoch rows brokers state earlier r f.one i = one_step epoch rows brokers state earlier r todo i whole z all s f.one (omega (arith, few, long)) f.first in
      let own : entries_in (body_of_row r) ≤ length f.one = entries_few rows earlier r f.one f.first in
      let counted : count_of_entries (earlier ++ r ∷ []) ≡ count_of_entries earlier + entries_in (body_of_row r) = count_after earlier r in
      let others : Ends epoch rows brokers state f.more step.after = all_steps (earlier ++ r ∷ []) todo step.after f.more (whole ∙ sym (append_assoc earlier (r ∷ []) todo)) step.says f.others (omega (arith, few, long, own, counted)) in
      record {
        after = others.after;
        leads = subst (λ xs. Leads epoch xs i others.after) f.whole (leads_append epoch f.one f.more i step.after others.after step.leads others.leads);
        says = others.says;
      }

nothing_counted : (epoch : ℤ) (rows : List Row) (brokers : List RegisterBrokerRecord) (state : ℤ) → Says epoch rows brokers state [] (bare_image brokers state)
nothing_counted epoch rows brokers state = record {
  topics = record { rise = tt; each = λ name. refl };
  configs = record { rise = tt; each = λ name. sym (no_configuration name (broker_named name)) };
  quotas = record { rise = tt; each = λ path. refl };
  users = record { rise = tt; each = λ name. sym (no_user name (is_utf8 name)) };
  entries = record { each = refl; below = All-nil (λ a. bytes_cmp (id_of_acl a) (migrated_id 0).bytes ≡ Less) };
  next = refl;
  brokers_are = refl;
  state_is = refl;
}
  where
    no_configuration : (name : List ℕ) (o : Option (Option ℤ)) → option_and_then (configuration_in [] name) o ≡ None
    no_configuration name None = refl
    no_configuration name (Some broker) = refl

    no_user : (name : List ℕ) (t : Bool) → cond t (scrams_in_rows [] name) None ≡ None
    no_user name true = refl
    no_user name false = refl

-- What a translation that is Ok gives.
pub record IsTranslated (rows : List Row) (records : List MetaRecord) : Type 0 where
  pub all : all_records rows ≡ Ok records
  pub few : length records + further_records ≤ MAX_RECORDS

pub translated : (rows : List Row) (records : List MetaRecord) → translate rows ≡ Ok records → IsTranslated rows records
unfolding translate
translated rows records e = by (all_records rows) refl e
  where
    counted : (rs : List MetaRecord) → all_records rows ≡ Ok rs → (t : Bool) → nat_lt MAX_RECORDS (length rs + further_records) ≡ t
        → if◌then◌else◌ {A = Translated} t (Err (record { path = codes "/brokers/topics"; why = why.Over 7 })) (Ok rs) ≡ Ok records → IsTranslated rows records
    counted rs is true over h = absurd (cc)
    counted rs is false over h =
        let same : rs ≡ records = cc in
        record { all = is ∙ ap (λ x. Ok x) same; few = subst (λ x. length x + further_records ≤ MAX_RECORDS) same (ltb-false MAX_RECORDS (length rs + further_records) over) }

    limited : (rs : List MetaRecord) → all_records rows ≡ Ok rs → (x : Option Excess) → records_unless_excess x rs ≡ Ok records → IsTranslated rows records
    limited rs is (Some x) h = absurd (cc)
    limited rs is None h = counted rs is (nat_lt MAX_RECORDS (length rs + further_records)) refl h

    by : (t : Translated) → all_records rows ≡ t → within_limits t ≡ Ok records → IsTranslated rows records
    by (Err u) is h = absurd (cc)
    by (Ok rs) is h = limited rs is (excess (all_applied MAX_EPOCH rs empty_image)) h

pub translation_leads : (epoch : ℤ) (rows : List Row) (brokers : List RegisterBrokerRecord) (state : ℤ) (records : List MetaRecord) → AreRows rows → all_records rows ≡ Ok records → length records + further_records ≤ MAX_RECORDS
    → Ends epoch rows brokers state records (bare_image brokers state)
translation_leads epoch rows brokers state records z all few =
    let none : count_of_entries [] ≡ 0 = refl in
    all_steps epoch rows brokers state z (all_have_records rows records all) [] rows (bare_image brokers state) records refl (nothing_counted epoch rows brokers state) all (omega (arith, few, none))

none_bad : (index : ℕ) (rs : List MetaRecord) (i : Image) → Accepted (pos 0) rs i → first_bad index rs i ≡ None
none_bad index [] i a = refl
none_bad index (r ∷ rs) i a = ap (λ o. unless_bad index o (first_bad (index + 1) rs (image_with (pos 0) r i))) a.0 ∙ none_bad (index + 1) rs (image_with (pos 0) r i) a.1

pub translated_is_accepted : (rows : List Row) (records : List MetaRecord) → AreZnodes rows → translate rows ≡ Ok records → (brokers : List RegisterBrokerRecord) (state : ℤ)
    → first_bad 0 records (bare_image brokers state) ≡ None
translated_is_accepted rows records z e brokers state =
    let t = translated rows records e in
    none_bad 0 records (bare_image brokers state) (translation_leads (pos 0) rows brokers state records (rows_of_znodes rows z) t.all t.few).leads.accepted
