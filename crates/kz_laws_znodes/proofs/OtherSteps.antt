-- The records of configurations of brokers, of quotas, credentials, access control entries and producer ids are accepted, and
-- what they make of the metadata.
use Rattle.std.proofs.Common.{◌≡◌, ℕ, ◌+◌, ◌<◌, ◌^◌, ℤ, pos, negsuc, true, false, not, List, [], ◌∷◌, ◌++◌, length, map, Some, None, Less, All, refl, sym, ap, ◌∙◌, subst, is_some, arith, append-nil, append_assoc}
use Rattle.std.specs.Prelude.{int_lt, option_map}
use Rattle.std.specs.Ordering.{int_cmp}
use Rattle.std.proofs.lemmas.List.Elements.{All-head, All-tail, All-append, All-cons, All-nil}
use Rattle.kz_types.specs.declared.row.AclRow.{AclRow}
use Rattle.kz_types.specs.declared.bodies.Pair.{Pair}
use Rattle.kz_types.specs.declared.bodies.QuotaRow.{QuotaRow}
use Rattle.kz_types.specs.declared.bodies.ScramPair.{ScramPair}
use Rattle.kz_types.specs.declared.image.Configuration.{Configuration}
use Rattle.kz_types.specs.declared.image.QuotaEntry.{QuotaEntry}
use Rattle.kz_types.specs.declared.image.ScramEntry.{ScramEntry}
use Rattle.kz_types.specs.declared.image.AclEntry.{AclEntry}
use Rattle.kz_types.specs.declared.key.EntityKey.{EntityKey}
use Rattle.kz_types.specs.declared.record.MetaRecord.TheVariants as meta
use Rattle.kz_types.specs.Paths.{is_legal, has_path, path_of, is_among}
use Rattle.kz_types.specs.Quotas.{is_quota}
use Rattle.kz_types.specs.Order.{bytes_cmp}
use Rattle.kz_types.specs.Ordered.{find, Rises, AllBelow}
use Rattle.kz_types.proofs.Order.{bytes_order, int_order}
use Rattle.kz_types.proofs.Append.{put_last, find_all_below}
use Rattle.kz_spec_data.specs.Credentials.{quota_keys}
use Rattle.kz_spec_data.specs.Metadata.{Image, name_of_configuration, name_of_pair, path_of_quotas, key_of_quota, name_of_user, mechanism_of_pair, id_of_acl, pairs_of}
use Rattle.kz_spec_data.specs.Image.{with_pairs, quotas_in, with_quotas, quota_changed, scrams_in, with_scrams, effect}
use Rattle.kz_spec_data.specs.ImageRules.{is_broker_name, is_user, is_mechanism, is_resource, are_codes, is_operation, is_permission, quota_key, has_quota, max_next}
use Rattle.kz_spec_data.specs.Translation.{config_record, quota_entity, quota_record, scram_record, migrated_id, acl_record, acl_records}
use Rattle.kz_laws_znodes.proofs.Ids.{ids_rise, id_not_zero}
use Rattle.kz_laws_znodes.proofs.Accepting.{Leads, leads_one, leads_none, leads_to, leads_append, leads_each}
use Rattle.kz_laws_znodes.proofs.ZnodeGroups.{grown, grows}
use Rattle.kz_laws_znodes.proofs.TopicSteps.{IsNamed}

-- ---- the configuration of a broker

abbrev pub configuration : List ℕ → List Pair → Configuration
configuration name pairs = record { name = name; pairs = pairs }

-- the configurations with this one, unless it is empty
abbrev pub with_configuration : List ℕ → List Pair → List Configuration → List Configuration
with_configuration = grown bytes_cmp name_of_configuration configuration

module _ (epoch : ℤ) (i : Image) (name : List ℕ) (legal : is_broker_name name ≡ true) (absent : find bytes_cmp name_of_configuration name i.broker_configs ≡ None) where
  abbrev broker_state : List Pair → Image
  broker_state done = record i { broker_configs = with_configuration name done i.broker_configs }

  broker_set : (done : List Pair) (p : Pair) → AllBelow bytes_cmp name_of_pair done p.name → IsNamed p → Leads epoch (config_record (pos 4) name p ∷ []) (broker_state done) (broker_state (done ++ p ∷ []))
  broker_set done p under h =
      leads_to epoch (config_record (pos 4) name p ∷ []) (broker_state done) (effect epoch (config_record (pos 4) name p) (broker_state done)) (broker_state (done ++ p ∷ []))
      (ap (λ configs. record i { broker_configs = configs })
      (grows bytes_order name_of_configuration bytes_order name_of_pair configuration pairs_of with_pairs (λ k list. refl) refl (λ k list. refl) (λ k a rest xs. refl) name done p i.broker_configs absent under))
      (leads_one epoch (broker_state done) (config_record (pos 4) name p) (record { plain = refl; named = rw (h, legal) refl; there = refl; new = refl; valued = refl }))

  pub broker_leads : (pairs : List Pair) → Rises bytes_cmp name_of_pair pairs → All IsNamed pairs
      → Leads epoch (map (config_record (pos 4) name) pairs) i (record i { broker_configs = with_configuration name pairs i.broker_configs })
  broker_leads pairs rise good = leads_each bytes_order name_of_pair epoch (config_record (pos 4) name) broker_state IsNamed broker_set [] pairs rise good

-- ---- the quotas of an entity

abbrev pub quota_list : List ℕ → List QuotaRow → QuotaEntry
quota_list path quotas = record { path = path; quotas = quotas }

abbrev pub with_quota_list : List ℕ → List QuotaRow → List QuotaEntry → List QuotaEntry
with_quota_list = grown bytes_cmp path_of_quotas quota_list

-- A quota that this entity may have.
pub record IsAllowed (k : EntityKey) (q : QuotaRow) : Type 0 where
  pub named : is_among (quota_keys k) q.key ≡ true
  pub valued : is_quota q.value ≡ true
  pub placed : has_path k ≡ true

-- An entity that may have quotas.
pub record HasQuotas (k : EntityKey) : Type 0 where
  pub known : quota_key (quota_entity k) ≡ Some k
  pub legal : is_legal k ≡ true

module _ (epoch : ℤ) (i : Image) (k : EntityKey) (h : HasQuotas k) (absent : find bytes_cmp path_of_quotas (path_of k) i.quotas ≡ None) where
  abbrev quota_state : List QuotaRow → Image
  quota_state done = record i { quotas = with_quota_list (path_of k) done i.quotas }

  quota_set : (done : List QuotaRow) (q : QuotaRow) → AllBelow bytes_cmp key_of_quota done q.key → IsAllowed k q → Leads epoch (quota_record k q ∷ []) (quota_state done) (quota_state (done ++ q ∷ []))
  quota_set done q under a =
      leads_to epoch (quota_record k q ∷ []) (quota_state done) (effect epoch (quota_record k q) (quota_state done)) (quota_state (done ++ q ∷ []))
      (ap (λ o. record i { quotas = quota_changed (record { entity = quota_entity k; key = q.key; value = q.value; remove = false }) o (quota_state done).quotas }) h.known
      ∙ ap (λ quotas. record i { quotas = quotas })
      (grows bytes_order path_of_quotas bytes_order key_of_quota quota_list quotas_in with_quotas (λ p list. refl) refl (λ p list. refl) (λ p a rest xs. refl) (path_of k) done q i.quotas absent under))
      (leads_one epoch (quota_state done) (quota_record k q) (record {
        plain = refl;
        named = ap (λ o. not (has_quota o q.key)) h.known ∙ (rw (h.legal, a.placed, a.named) refl);
        there = refl;
        new = refl;
        valued = ap not a.valued;
      }))

  pub quotas_lead : (quotas : List QuotaRow) → Rises bytes_cmp key_of_quota quotas → All (IsAllowed k) quotas
      → Leads epoch (map (quota_record k) quotas) i (record i { quotas = with_quota_list (path_of k) quotas i.quotas })
  quotas_lead quotas rise good = leads_each bytes_order key_of_quota epoch (quota_record k) quota_state (IsAllowed k) quota_set [] quotas rise good

-- ---- the credentials of a user

abbrev pub scram_list : List ℕ → List ScramPair → ScramEntry
scram_list name scrams = record { name = name; scrams = scrams }

abbrev pub with_scram_list : List ℕ → List ScramPair → List ScramEntry → List ScramEntry
with_scram_list = grown bytes_cmp name_of_user scram_list

-- A credential that this user may have.
pub record IsCredentialOf (name : List ℕ) (s : ScramPair) : Type 0 where
  pub owned : is_user name ≡ true
  pub mechanism : is_mechanism s.mechanism ≡ true
  pub iterated : int_lt s.value.iterations (pos 1) ≡ false

module _ (epoch : ℤ) (i : Image) (name : List ℕ) (absent : find bytes_cmp name_of_user name i.users ≡ None) where
  abbrev scram_state : List ScramPair → Image
  scram_state done = record i { users = with_scram_list name done i.users }

  scram_made : (done : List ScramPair) (s : ScramPair) → AllBelow int_cmp mechanism_of_pair done s.mechanism → IsCredentialOf name s → Leads epoch (scram_record name s ∷ []) (scram_state done) (scram_state (done ++ s ∷ []))
  scram_made done s under c =
      leads_to epoch (scram_record name s ∷ []) (scram_state done) (effect epoch (scram_record name s) (scram_state done)) (scram_state (done ++ s ∷ []))
      (ap (λ users. record i { users = users })
      (grows bytes_order name_of_user int_order mechanism_of_pair scram_list scrams_in with_scrams (λ n list. refl) refl (λ n list. refl) (λ n a rest xs. refl) name done s i.users absent under))
      (leads_one epoch (scram_state done) (scram_record name s) (record { plain = refl; named = ap not c.owned; there = refl; new = refl; valued = rw (c.mechanism, c.iterated) refl }))

  pub scrams_lead : (scrams : List ScramPair) → Rises int_cmp mechanism_of_pair scrams → All (IsCredentialOf name) scrams
      → Leads epoch (map (scram_record name) scrams) i (record i { users = with_scram_list name scrams i.users })
  scrams_lead scrams rise good = leads_each int_order mechanism_of_pair epoch (scram_record name) scram_state (IsCredentialOf name) scram_made [] scrams rise good

-- ---- the access control entries of a resource

-- An entry whose codes are those that there are.
pub record IsEntryMade (row : AclRow) : Type 0 where
  pub resource : is_resource row.kind row.pattern row.name ≡ true
  pub codes_are : are_codes row.kind row.pattern ≡ true
  pub operation : is_operation row.operation ≡ true
  pub permission : is_permission row.permission ≡ true

-- entries with the ids from a number on
abbrev pub numbered : ℕ → List AclRow → List AclEntry
numbered n [] = []
numbered n (row ∷ rows) = record { id = migrated_id n; row = row } ∷ numbered (n + 1) rows

-- the ids of these entries are below that of a number
abbrev pub AreBelowNumber : ℕ → List AclEntry → Type 0
AreBelowNumber n acls = AllBelow bytes_cmp id_of_acl acls (migrated_id n).bytes

all_weaker : (P Q : AclEntry → Type 0) (xs : List AclEntry) → ((a : AclEntry) → P a → Q a) → All P xs → All Q xs
all_weaker P Q xs so all k d within = so _ (all k d within)

below_next : (n : ℕ) (row : AclRow) (acls : List AclEntry) → n + 1 < 2 ^ 64 → AreBelowNumber n acls → AreBelowNumber (n + 1) (acls ++ record { id = migrated_id n; row = row } ∷ [])
below_next n row acls small under =
    let next : bytes_cmp (migrated_id n).bytes (migrated_id (n + 1)).bytes ≡ Less = ids_rise n (n + 1) (omega arith) small in
    All-append (λ a. bytes_cmp (id_of_acl a) (migrated_id (n + 1)).bytes ≡ Less) acls (record { id = migrated_id n; row = row } ∷ [])
    (all_weaker (λ a. bytes_cmp (id_of_acl a) (migrated_id n).bytes ≡ Less) (λ a. bytes_cmp (id_of_acl a) (migrated_id (n + 1)).bytes ≡ Less) acls
    (λ a less. bytes_order.chain (id_of_acl a) (migrated_id n).bytes (migrated_id (n + 1)).bytes less next) under)
    (All-cons (λ a. bytes_cmp (id_of_acl a) (migrated_id (n + 1)).bytes ≡ Less) (record { id = migrated_id n; row = row }) [] next (All-nil (λ a. bytes_cmp (id_of_acl a) (migrated_id (n + 1)).bytes ≡ Less)))

with_entries : Image → List AclEntry → Image
with_entries i acls = record i { acls = acls }

entry_made : (epoch : ℤ) (i : Image) (n : ℕ) (row : AclRow) → AreBelowNumber n i.acls → IsEntryMade row → Leads epoch (acl_record n row ∷ []) i (record i { acls = i.acls ++ record { id = migrated_id n; row = row } ∷ [] })
entry_made epoch i n row under h =
    leads_to epoch (acl_record n row ∷ []) i (effect epoch (acl_record n row) i) (record i { acls = i.acls ++ record { id = migrated_id n; row = row } ∷ [] })
    (ap (λ acls. record i { acls = acls }) (put_last bytes_order id_of_acl (record { id = migrated_id n; row = row }) i.acls under))
    (leads_one epoch i (acl_record n row) (record {
      plain = refl;
      named = rw (id_not_zero n, h.resource) refl;
      there = refl;
      new = ap (λ o. is_some (option_map (λ (a : AclEntry). a.row) o)) (find_all_below bytes_order id_of_acl (migrated_id n).bytes i.acls under);
      valued = rw (h.codes_are, h.operation, h.permission) refl;
    }))

pub entries_lead : (epoch : ℤ) (i : Image) (n : ℕ) (rows : List AclRow) → n + length rows < 2 ^ 64 → AreBelowNumber n i.acls → All IsEntryMade rows
    → Leads epoch (acl_records n rows) i (record i { acls = i.acls ++ numbered n rows }) × AreBelowNumber (n + length rows) (i.acls ++ numbered n rows)
entries_lead epoch i n [] small under good =
    let none : i.acls ++ [] ≡ i.acls = append-nil i.acls in
    let same : n + 0 ≡ n = omega arith in (
      leads_to epoch [] i i (record i { acls = i.acls ++ [] }) (ap (λ acls. record i { acls = acls }) (sym none)) (leads_none epoch i),
      subst (λ m. AreBelowNumber m (i.acls ++ [])) (sym same) (subst (AreBelowNumber n) (sym none) under),
    )
entries_lead epoch i n (row ∷ rows) small under good =
    let entry : AclEntry = record { id = migrated_id n; row = row } in
    let more : n + 1 + length rows ≡ n + length (row ∷ rows) = omega arith in
    let whole : (i.acls ++ entry ∷ []) ++ numbered (n + 1) rows ≡ i.acls ++ entry ∷ numbered (n + 1) rows = append_assoc i.acls (entry ∷ []) (numbered (n + 1) rows) in
    let rest = entries_lead epoch (record i { acls = i.acls ++ entry ∷ [] }) (n + 1) rows (omega (arith, small)) (below_next n row i.acls (omega (arith, small)) under) (All-tail IsEntryMade row rows good) in (
      leads_append epoch (acl_record n row ∷ []) (acl_records (n + 1) rows) i (record i { acls = i.acls ++ entry ∷ [] }) (record i { acls = i.acls ++ entry ∷ numbered (n + 1) rows })
          (entry_made epoch i n row under (All-head IsEntryMade row rows good))
          (leads_to epoch (acl_records (n + 1) rows) (record i { acls = i.acls ++ entry ∷ [] }) (record i { acls = (i.acls ++ entry ∷ []) ++ numbered (n + 1) rows }) (record i { acls = i.acls ++ entry ∷ numbered (n + 1) rows })
          (ap (λ acls. record i { acls = acls }) whole) rest.0),
      subst (λ m. AreBelowNumber m (i.acls ++ entry ∷ numbered (n + 1) rows)) more (subst (AreBelowNumber (n + 1 + length rows)) whole rest.1),
    )

-- ---- producer ids

pub producer_leads : (epoch : ℤ) (i : Image) (next : ℤ) → int_lt next (pos 0) ≡ false → int_lt max_next next ≡ false → i.next_producer ≡ None
    → Leads epoch (meta.ProducerIds (record { broker_id = negsuc 0; broker_epoch = negsuc 0; next = next }) ∷ []) i (record i { next_producer = Some next })
producer_leads epoch i next low high none =
    leads_one epoch i (meta.ProducerIds (record { broker_id = negsuc 0; broker_epoch = negsuc 0; next = next })) (record { plain = refl; named = refl; there = refl; new = refl; valued = rw (low, none, high) refl })
