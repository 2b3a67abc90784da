-- The records of quotas and credentials lead to what is said with them.
use Rattle.std.proofs.Common.{◌≡◌, ◌≢◌, ℕ, ℤ, ◌||◌, Bool, true, false, cond, List, [], ◌∷◌, ◌++◌, map, Some, None, All, refl, sym, ap, ◌∙◌, subst, inl, inr, codes, ◌⊎◌}
use Rattle.std.specs.Prelude.{Result, Ok}
use Rattle.std.specs.Str.{is_utf8, bytes_eq}
use Rattle.std.specs.List.{list_all}
use Rattle.std.proofs.lemmas.Bool.{false≢true}
use Rattle.std.proofs.lemmas.List.Elements.{All-cons, All-nil}
use Rattle.kz_types.specs.declared.tree.Row.{Row}
use Rattle.kz_types.specs.declared.bodies.QuotaRow.{QuotaRow}
use Rattle.kz_types.specs.declared.bodies.ScramPair.{ScramPair}
use Rattle.kz_types.specs.declared.bodies.Body.{Body}
use Rattle.kz_types.specs.declared.bodies.Body.TheVariants as body
use Rattle.kz_types.specs.declared.fault.BodyFault.{BodyFault}
use Rattle.kz_types.specs.declared.image.ScramEntry.{ScramEntry}
use Rattle.kz_types.specs.declared.key.EntityKey.{EntityKey}
use Rattle.kz_types.specs.declared.key.EntityKey.TheVariants as key
use Rattle.kz_types.specs.declared.record.MetaRecord.{MetaRecord}
use Rattle.kz_types.specs.declared.record.RegisterBrokerRecord.{RegisterBrokerRecord}
use Rattle.kz_types.specs.PathRule.{is_path, parts, is_part}
use Rattle.kz_types.specs.Paths.{is_legal, has_path, key_of, path_of, part_for_name, name_of_part}
use Rattle.kz_types.proofs.PathRules.{parts_are_legal}
use Rattle.kz_types.proofs.NumberLemmas.{bytes_eq-true}
use Rattle.kz_types.specs.Order.{bytes_cmp}
use Rattle.kz_types.specs.Ordered.{find}
use Rattle.kz_types.proofs.Order.{bytes_order}
use Rattle.kz_types.proofs.Lookup.{same_some}
use Rattle.kz_spec_data.specs.Bodies.{read_body}
use Rattle.kz_spec_data.specs.Metadata.{Image, path_of_quotas, name_of_user}
use Rattle.kz_spec_data.specs.ImageRules.{is_empty, is_dots, is_mechanism, is_user, quota_key}
use Rattle.kz_spec_data.specs.Tree.{row_at}
use Rattle.kz_spec_data.specs.Translation.{quota_entity, quota_record, scram_record, scram_records}
use Rattle.kz_laws_values.proofs.Names.{name_is_read}
use Rattle.kz_laws_values.proofs.Legal.{IsGoodKey}
use Rattle.kz_laws_znodes.proofs.ReadQuotas.{IsMechanism, AreQuotasRead, AreScramsRead, IsQuotaBodyRead}
use Rattle.kz_laws_znodes.proofs.Accepting.{Leads, leads_append}
use Rattle.kz_laws_znodes.proofs.OtherSteps.{quota_list, with_quota_list, IsAllowed, HasQuotas, quotas_lead, scram_list, with_scram_list, IsCredentialOf, scrams_lead}
use Rattle.kz_laws_znodes.proofs.Saying.{entity_of, entity_read, pick, topic_said, topic_config_said, broker_config_said, quotas_said, scrams_said, next_said, said, said_elsewhere, said_here, said_nowhere, entries_by, of_user, listed, or_empty, grown_rises, grown_here, grown_elsewhere}
use Rattle.kz_laws_znodes.proofs.Says.{scrams_in_rows, SaysQuotas, SaysUsers, Says}
use Rattle.kz_laws_znodes.proofs.ZnodeStays.{Step, stay_topics, stay_configs, stay_users, stay_entries, stay_next}
use Rattle.kz_laws_znodes.proofs.Walk.{AreRows, may_be_long, absent_here, keyed_here, key_here, path_of_here}
use Rattle.kz_laws_znodes.proofs.TopicRows.{same_after}
use Rattle.kz_laws_znodes.proofs.BrokerWalk.{by_name}

-- ---- entities that have quotas

all_allowed : (k : EntityKey) → has_path k ≡ true → (quotas : List QuotaRow) → AreQuotasRead k quotas → All (IsAllowed k) quotas
all_allowed k fits [] h = All-nil (IsAllowed k)
all_allowed k fits (q ∷ qs) h = All-cons (IsAllowed k) q qs (record { named = h.0.named; valued = h.0.valued; placed = fits }) (all_allowed k fits qs h.1)

-- what a znode that says nothing says
no_quotas : (quotas : List QuotaRow) (scrams : List ScramPair) → ◌≡◌ {A = Result Body BodyFault} (Ok (body.Quota quotas scrams)) (Ok (body.Quota [] [])) → (quotas ≡ []) × (scrams ≡ [])
no_quotas quotas scrams e = (cc, cc)

user_part : (name other : List ℕ) → path_of (key.User (Some name)) ≡ path_of (key.User (Some other)) → part_for_name name ≡ part_for_name other
unfolding path_of
user_part name other e = same_after (codes "/config/users/") (part_for_name name) (part_for_name other) e

pub same_user : (name other : List ℕ) → is_utf8 name ≡ true → is_utf8 other ≡ true → path_of (key.User (Some name)) ≡ path_of (key.User (Some other)) → name ≡ other
same_user name other text also e = same_some name other (sym (name_is_read name text) ∙ ap name_of_part (user_part name other e) ∙ name_is_read other also)

user_is_named : (name : List ℕ) → IsGoodKey (key.User (Some name)) → is_empty name ≡ false
unfolding is_legal
user_is_named [] g = absurd (false≢true g.0)
user_is_named (b ∷ bs) g = refl

user_fits : (name : List ℕ) → has_path (key.User (Some name)) ≡ true → is_path (path_of (key.User (Some name))) ≡ true
unfolding has_path
user_fits name h = h

-- no part of a path is one of dots
no_dots : (name : List ℕ) → is_path (path_of (key.User (Some name))) ≡ true → is_dots name ≡ false
unfolding path_of part_for_name
no_dots name rule = by (bytes_eq name (codes ".")) (bytes_eq name (codes "..")) refl refl
  where
    by : (one two : Bool) → bytes_eq name (codes ".") ≡ one → bytes_eq name (codes "..") ≡ two → one || two ≡ false
    by true two e f = absurd (false≢true (ap (λ n. list_all is_part (parts (path_of (key.User (Some n))))) (sym (bytes_eq-true name (codes ".") e)) ∙ parts_are_legal (path_of (key.User (Some name))) rule))
    by false true e f = absurd (false≢true (ap (λ n. list_all is_part (parts (path_of (key.User (Some n))))) (sym (bytes_eq-true name (codes "..") f)) ∙ parts_are_legal (path_of (key.User (Some name))) rule))
    by false false e f = refl

mechanism_is : (m : ℤ) → IsMechanism m → is_mechanism m ≡ true
mechanism_is m (inl e) = ap is_mechanism e
mechanism_is m (inr e) = ap is_mechanism e

user_holds : (name : List ℕ) → is_empty name ≡ false → is_dots name ≡ false → has_path (key.User (Some name)) ≡ true → is_user name ≡ true
user_holds name a b c = rw (a, b, c) refl

all_credentials : (k : EntityKey) (name : List ℕ) → is_empty name ≡ false → is_dots name ≡ false → has_path (key.User (Some name)) ≡ true → (scrams : List ScramPair) → AreScramsRead k scrams → All (IsCredentialOf name) scrams
all_credentials k name some dots fits [] h = All-nil (IsCredentialOf name)
all_credentials k name some dots fits (x ∷ xs) h =
    All-cons (IsCredentialOf name) x xs (record { owned = user_holds name some dots fits; mechanism = mechanism_is x.mechanism h.0.mechanism; iterated = h.0.iterated })
    (all_credentials k name some dots fits xs h.1)

-- ---- their znode

module _ (epoch : ℤ) (rows : List Row) (brokers : List RegisterBrokerRecord) (state : ℤ) (earlier : List Row) (r : Row) (rest : List Row) (i : Image)
    (whole : rows ≡ earlier ++ r ∷ rest) (z : AreRows rows) (s : Says epoch rows brokers state earlier i) where
  -- the quotas of an entity, and its credentials where it has any
  module _ (k : EntityKey) (known : quota_key (quota_entity k) ≡ Some k) (long : may_be_long k ≡ true) (holds : key_of r.path ≡ Some k) (quotas : List QuotaRow) (scrams : List ScramPair)
      (is : read_body k r.body ≡ Ok (body.Quota quotas scrams)) (h : IsQuotaBodyRead k quotas scrams) where
    quota_entity_is : entity_of r ≡ Some (record { who = k; what = body.Quota quotas scrams })
    quota_entity_is = entity_read r k (body.Quota quotas scrams) holds is

    quota_at : path_of k ≡ r.path
    quota_at = path_of_here rows earlier r rest whole z k holds

    quota_absent : row_at (path_of k) earlier ≡ None
    quota_absent = ap (λ p. row_at p earlier) quota_at ∙ absent_here rows earlier r rest whole z

    quota_new : find bytes_cmp path_of_quotas (path_of k) i.quotas ≡ None
    quota_new = s.quotas.each (path_of k) ∙ ap (λ o. listed quota_list (path_of k) (or_empty o)) (said_nowhere quotas_said (path_of k) earlier quota_absent)

    fits : (has_path k ≡ true) ⊎ ((quotas ≡ []) × (scrams ≡ []))
    fits = elim ((keyed_here rows earlier r rest whole z k holds).fits long) [
      | inl path ↦ inl path
      | inr nothing ↦ inr (no_quotas quotas scrams (sym is ∙ nothing))
    ]

    allowed : All (IsAllowed k) quotas
    allowed = elim fits [
      | inl path ↦ all_allowed k path quotas h.quotas_are
      | inr none ↦ subst (All (IsAllowed k)) (sym none.0) (All-nil (IsAllowed k))
    ]

    has_quotas : HasQuotas k
    has_quotas = record { known = known; legal = (key_here rows earlier r rest whole z k holds).0 }

    quotas_say : SaysQuotas (earlier ++ r ∷ []) (with_quota_list (path_of k) quotas i.quotas)
    quotas_say = record {
      rise = grown_rises bytes_order path_of_quotas quota_list (λ p list. refl) (path_of k) quotas i.quotas s.quotas.rise;
      each = λ other. by_name (λ path. find bytes_cmp path_of_quotas path (with_quota_list (path_of k) quotas i.quotas) ≡ listed quota_list path (or_empty (said quotas_said path (earlier ++ r ∷ [])))) (path_of k) other
          (grown_here bytes_order path_of_quotas quota_list (λ p list. refl) (path_of k) quotas i.quotas quota_new
          ∙ sym (ap (λ o. listed quota_list (path_of k) (or_empty o)) (said_here quotas_said (path_of k) earlier r quota_at quota_absent ∙ ap (pick quotas_said) quota_entity_is)))
          (λ ne. grown_elsewhere bytes_order path_of_quotas quota_list (λ p list. refl) other (path_of k) quotas i.quotas ne ∙ s.quotas.each other
          ∙ ap (λ o. listed quota_list other (or_empty o)) (sym (said_elsewhere quotas_said other earlier r (λ e. ne (e ∙ sym quota_at)))));
    }

    with_users : (users : List ScramEntry) → SaysUsers (earlier ++ r ∷ []) users → Says epoch rows brokers state (earlier ++ r ∷ []) (record i { users = users; quotas = with_quota_list (path_of k) quotas i.quotas })
    with_users users say = record {
      topics = stay_topics earlier r epoch rows i.topics (ap (pick topic_said) quota_entity_is) (ap (pick topic_config_said) quota_entity_is) s.topics;
      configs = stay_configs earlier r i.broker_configs (ap (pick broker_config_said) quota_entity_is) s.configs;
      quotas = quotas_say;
      users = say;
      entries = stay_entries earlier r i.acls (ap entries_by quota_entity_is) s.entries;
      next = stay_next earlier r i.next_producer (ap (pick next_said) quota_entity_is) s.next;
      brokers_are = s.brokers_are;
      state_is = s.state_is;
    }

    quota_records : Leads epoch (map (quota_record k) quotas) i (record i { quotas = with_quota_list (path_of k) quotas i.quotas })
    quota_records = quotas_lead epoch i k has_quotas quota_new quotas h.quotas_rise allowed

    -- of an entity without credentials
    pub quota_step : (one : List MetaRecord) → scram_records k scrams ≡ [] → of_user k scrams ≡ None → one ≡ scram_records k scrams ++ map (quota_record k) quotas → Step epoch rows brokers state earlier r one i
    quota_step one none unsaid_here e = record {
      after = record i { quotas = with_quota_list (path_of k) quotas i.quotas };
      leads = subst (λ rs. Leads epoch rs i (record i { quotas = with_quota_list (path_of k) quotas i.quotas })) (sym (e ∙ ap (λ rs. rs ++ map (quota_record k) quotas) none)) quota_records;
      says = with_users i.users (stay_users earlier r i.users (ap (pick scrams_said) quota_entity_is ∙ unsaid_here) s.users);
    }

  -- of a user with a name
  module _ (name : List ℕ) (holds : key_of r.path ≡ Some (key.User (Some name))) (quotas : List QuotaRow) (scrams : List ScramPair)
      (is : read_body (key.User (Some name)) r.body ≡ Ok (body.Quota quotas scrams)) (h : IsQuotaBodyRead (key.User (Some name)) quotas scrams) where
    user_key : IsGoodKey (key.User (Some name))
    user_key = key_here rows earlier r rest whole z (key.User (Some name)) holds

    text : is_utf8 name ≡ true
    text = user_key.1

    user_at : path_of (key.User (Some name)) ≡ r.path
    user_at = quota_at (key.User (Some name)) refl refl holds quotas scrams is h

    user_absent : row_at (path_of (key.User (Some name))) earlier ≡ None
    user_absent = quota_absent (key.User (Some name)) refl refl holds quotas scrams is h

    user_entity : entity_of r ≡ Some (record { who = key.User (Some name); what = body.Quota quotas scrams })
    user_entity = quota_entity_is (key.User (Some name)) refl refl holds quotas scrams is h

    user_new : find bytes_cmp name_of_user name i.users ≡ None
    user_new = s.users.each name ∙ ap (λ b. cond b (scrams_in_rows earlier name) None) text ∙ ap (λ o. listed scram_list name (or_empty o)) (said_nowhere scrams_said (path_of (key.User (Some name))) earlier user_absent)

    user_here : find bytes_cmp name_of_user name (with_scram_list name scrams i.users) ≡ cond (is_utf8 name) (scrams_in_rows (earlier ++ r ∷ []) name) None
    user_here =
        grown_here bytes_order name_of_user scram_list (λ n list. refl) name scrams i.users user_new
        ∙ sym (ap (λ b. cond b (scrams_in_rows (earlier ++ r ∷ []) name) None) text
        ∙ ap (λ o. listed scram_list name (or_empty o)) (said_here scrams_said (path_of (key.User (Some name))) earlier r user_at user_absent ∙ ap (pick scrams_said) user_entity))

    others_stay : (other : List ℕ) → other ≢ name → (t : Bool) → is_utf8 other ≡ t → cond t (scrams_in_rows earlier other) None ≡ cond t (scrams_in_rows (earlier ++ r ∷ []) other) None
    others_stay other ne true e = ap (λ o. listed scram_list other (or_empty o)) (sym (said_elsewhere scrams_said (path_of (key.User (Some other))) earlier r (λ same. ne (same_user other name e text (same ∙ sym user_at)))))
    others_stay other ne false e = refl

    users_say : SaysUsers (earlier ++ r ∷ []) (with_scram_list name scrams i.users)
    users_say = record {
      rise = grown_rises bytes_order name_of_user scram_list (λ n list. refl) name scrams i.users s.users.rise;
      each = λ other. by_name (λ n. find bytes_cmp name_of_user n (with_scram_list name scrams i.users) ≡ cond (is_utf8 n) (scrams_in_rows (earlier ++ r ∷ []) n) None) name other user_here
          (λ ne. grown_elsewhere bytes_order name_of_user scram_list (λ n list. refl) other name scrams i.users ne ∙ s.users.each other ∙ others_stay other ne (is_utf8 other) refl);
    }

    credentials : All (IsCredentialOf name) scrams
    credentials = elim (fits (key.User (Some name)) refl refl holds quotas scrams is h) [
      | inl path ↦ all_credentials (key.User (Some name)) name (user_is_named name user_key) (no_dots name (user_fits name path)) path scrams h.scrams_are
      | inr none ↦ subst (All (IsCredentialOf name)) (sym none.1) (All-nil (IsCredentialOf name))
    ]

    pub user_step : (one : List MetaRecord) → one ≡ map (scram_record name) scrams ++ map (quota_record (key.User (Some name))) quotas → Step epoch rows brokers state earlier r one i
    user_step one e =
        let k : EntityKey = key.User (Some name) in
        let between : Image = record i { users = with_scram_list name scrams i.users } in
        let after : Image = record i { users = with_scram_list name scrams i.users; quotas = with_quota_list (path_of k) quotas i.quotas } in record {
          after = after;
          leads = subst (λ rs. Leads epoch rs i after) (sym e) (leads_append epoch (map (scram_record name) scrams) (map (quota_record k) quotas) i between after
              (scrams_lead epoch i name user_new scrams h.scrams_rise credentials)
              (quotas_lead epoch between k (has_quotas k refl refl holds quotas scrams is h) (quota_new k refl refl holds quotas scrams is h) quotas h.quotas_rise (allowed k refl refl holds quotas scrams is h)));
          says = with_users k refl refl holds quotas scrams is h (with_scram_list name scrams i.users) users_say;
        }
