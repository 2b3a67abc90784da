-- What a record says of a member of a broker's configuration, a credential and a quota.
use Rattle.std.proofs.Common.{◌≡◌, ℕ, ℤ, ◌&&◌, not, Bool, true, false, cond, List, [], ◌∷◌, Option, Some, None, option_map, refl, sym, ap, ◌∙◌}
use Rattle.std.specs.Prelude.{pos, option_and_then}
use Rattle.std.specs.Bool.{Decides}
use Rattle.std.specs.Ordering.{int_eq, int_cmp}
use Rattle.std.specs.Str.{bytes_eq}
use Rattle.std.proofs.lemmas.Bool.Decides.{Decides-int_eq}
use Rattle.std.proofs.lemmas.Slice.Eq.{bytes_eq-Decides}
use Rattle.kz_types.specs.declared.bodies.Pair.{Pair}
use Rattle.kz_types.specs.declared.bodies.QuotaRow.{QuotaRow}
use Rattle.kz_types.specs.declared.bodies.ScramPair.{ScramPair}
use Rattle.kz_types.specs.declared.row.ScramRow.{ScramRow}
use Rattle.kz_types.specs.declared.image.TopicEntry.{TopicEntry}
use Rattle.kz_types.specs.declared.image.Configuration.{Configuration}
use Rattle.kz_types.specs.declared.image.QuotaEntry.{QuotaEntry}
use Rattle.kz_types.specs.declared.image.ScramEntry.{ScramEntry}
use Rattle.kz_types.specs.declared.key.EntityKey.{EntityKey}
use Rattle.kz_types.specs.declared.record.MetaRecord.TheVariants as meta
use Rattle.kz_types.specs.declared.record.ConfigRecord.{ConfigRecord}
use Rattle.kz_types.specs.declared.record.ClientQuotaRecord.{ClientQuotaRecord}
use Rattle.kz_types.specs.Paths.{path_of, is_legal}
use Rattle.kz_types.specs.Order.{bytes_cmp}
use Rattle.kz_types.specs.Ordered.{find, put, without, Rises}
use Rattle.kz_types.proofs.Order.{bytes_order, int_order}
use Rattle.kz_spec_data.specs.Metadata.{Image, name_of_pair, name_of_configuration, mechanism_of_pair, name_of_user, key_of_quota, path_of_quotas, some_pairs, pairs_of, pairs_at, topic_named, scram_of}
use Rattle.kz_spec_data.specs.ImageRules.{quota_key}
use Rattle.kz_spec_data.specs.Image.{with_member, with_pairs, configurations_after, with_changed, topic_configured, scrams_in, scrams_at, with_scrams, scram_row, quotas_in, with_quota, quota_changed}
use Rattle.kz_spec_data.specs.InOrder.{IsInOrder}
use Rattle.kz_laws_znodes.specs.Words.{value_in, member_of, quota_in, quota_of, broker_member_word, scram_word, is_entity, quota_word}
use Rattle.kz_laws_znodes.proofs.Lists.{pairs_rise}
use Rattle.kz_laws_znodes.proofs.Entries.{Holds, found_has}
use Rattle.kz_laws_znodes.proofs.QuotaLists.{entity_with, quotas_hold, found_rows_rise}
use Rattle.kz_laws_znodes.proofs.UserLists.{user_with, users_hold, scrams_rise}
use Rattle.kz_laws_znodes.proofs.Unbroken.{unbroken}
use Rattle.kz_laws_znodes.proofs.Steps.{IsStep, config_leaves, state_leaves}
use Rattle.kz_laws_znodes.proofs.Tests.{find-put_by, find-without_by, map_by}
use Rattle.kz_laws_znodes.proofs.Members.{Finds, value_changed}

-- ---- configurations of brokers

abbrev pub configuration_with : List ℕ → List Pair → Configuration
configuration_with name pairs = record { name = name; pairs = pairs }

abbrev pub members_of : Configuration → List Pair
members_of c = c.pairs

pub configurations_hold : Holds name_of_configuration members_of configuration_with with_pairs
configurations_hold = record { whole = λ c. refl; key_made = λ k ps. refl; none = λ k xs. refl; some = λ k p ps xs. refl }

pairs_found : Finds configuration_with pairs_of
pairs_found = record { none = refl; some = λ k ps. refl }

-- a member after one is set or removed
pub value_with_member : (member name : List ℕ) (value : Option (List ℕ)) (ps : List Pair) (c : Bool) → Decides c (name ≡ member) → Rises bytes_cmp name_of_pair ps → value_in member (with_member name value ps) ≡ cond c value (value_in member ps)
value_with_member member name (Some value) ps c d rises =
    let pair : Pair = record { name = name; value = value } in
    ap (option_map (λ (p : Pair). p.value)) (find-put_by bytes_order name_of_pair member pair ps c d) ∙ map_by (λ (p : Pair). p.value) c (Some pair) (find bytes_cmp name_of_pair member ps)
value_with_member member name None ps c d rises =
    ap (option_map (λ (p : Pair). p.value)) (find-without_by bytes_order name_of_pair member name ps c d rises) ∙ map_by (λ (p : Pair). p.value) c None (find bytes_cmp name_of_pair member ps)

-- no member is found where there are none
pub value_of_some : (member : List ℕ) (ps : List Pair) → option_and_then (value_in member) (some_pairs ps) ≡ value_in member ps
value_of_some member [] = refl
value_of_some member (p ∷ ps) = refl

pub broker_member : (name member : List ℕ) (i : Image) → member_of (pos 4) name member i ≡ value_in member (pairs_at name i.broker_configs)
broker_member name member i = value_of_some member (pairs_at name i.broker_configs)

configured_member : (name member : List ℕ) (r : ConfigRecord) (i : Image) → IsInOrder i
    → member_of (pos 4) name member (record i { broker_configs = configurations_after r i.broker_configs }) ≡ cond (bytes_eq r.resource_name name && bytes_eq r.name member) r.value (member_of (pos 4) name member i)
configured_member name member r i order =
    let pairs = pairs_at r.resource_name i.broker_configs in
    broker_member name member (record i { broker_configs = configurations_after r i.broker_configs })
    ∙ value_changed configurations_hold pairs_found (value_in member) r.value name r.resource_name (with_member r.name r.value pairs) i.broker_configs (bytes_eq r.resource_name name) (bytes_eq r.name member)
    (bytes_eq-Decides r.resource_name name) order.configs.rising
    (value_with_member member r.name r.value pairs (bytes_eq r.name member) (bytes_eq-Decides r.name member) (pairs_rise r.resource_name i.broker_configs order.configs.filled))
    ∙ ap (cond (bytes_eq r.resource_name name && bytes_eq r.name member) r.value) (sym (broker_member name member i))

-- a topic isn't a broker
topic_kind : (kind : ℤ) → int_eq kind (pos 2) ≡ true → int_eq kind (pos 4) ≡ false
topic_kind kind h = ap (λ k. int_eq k (pos 4)) ((Decides-int_eq kind (pos 2)).0 h)

config_by : (topic broker : Bool) (name member : List ℕ) (r : ConfigRecord) (topics : List TopicEntry) (i : Image) → IsInOrder i → (topic ≡ true → broker ≡ false) → not topic && not broker ≡ false
    → member_of (pos 4) name member (cond topic (record i { topics = topics }) (record i { broker_configs = configurations_after r i.broker_configs })) ≡ cond (broker && bytes_eq r.resource_name name && bytes_eq r.name member) r.value (member_of (pos 4) name member i)
config_by true true name member r topics i order other known = let e : true ≡ false = other refl in absurd (cc)
config_by true false name member r topics i order other known = refl
config_by false true name member r topics i order other known = configured_member name member r i order
config_by false false name member r topics i order other known = absurd (cc)

pub broker_member_step : (name member : List ℕ) → IsStep (member_of (pos 4) name member) (λ epoch. broker_member_word name member)
broker_member_step name member epoch (meta.Config r) i order fine =
    config_by (int_eq r.resource_type (pos 2)) (int_eq r.resource_type (pos 4)) name member r (with_changed (topic_configured r) (topic_named r.resource_name i) i.topics) i order (topic_kind r.resource_type) (unbroken i (meta.Config r) fine).2
broker_member_step name member epoch (meta.ZkMigrationState s) i order fine = state_leaves (member_of (pos 4) name member) (member_of (pos 4) name member i) i epoch s refl refl
broker_member_step name member epoch r i order fine = refl

-- ---- credentials

scrams_found : Finds user_with scrams_in
scrams_found = record { none = refl; some = λ k ss. refl }

abbrev pub scram_in : ℤ → List ScramPair → Option ScramRow
scram_in mechanism scrams = option_map (λ (s : ScramPair). s.value) (find int_cmp mechanism_of_pair mechanism scrams)

pub scram_found : (mechanism : ℤ) (found : Option ScramEntry) → option_and_then (λ (u : ScramEntry). scram_in mechanism u.scrams) found ≡ scram_in mechanism (scrams_in found)
scram_found mechanism None = refl
scram_found mechanism (Some u) = refl

users_changed : (name : List ℕ) (mechanism : ℤ) (user : List ℕ) (scrams : List ScramPair) (v : Option ScramRow) (c : Bool) (i : Image) → IsInOrder i → scram_in mechanism scrams ≡ cond c v (scram_in mechanism (scrams_at user i.users))
    → scram_of name mechanism (record i { users = with_scrams user scrams i.users }) ≡ cond (bytes_eq user name && c) v (scram_of name mechanism i)
users_changed name mechanism user scrams v c i order e =
    scram_found mechanism (find bytes_cmp name_of_user name (with_scrams user scrams i.users))
    ∙ value_changed users_hold scrams_found (scram_in mechanism) v name user scrams i.users (bytes_eq user name) c (bytes_eq-Decides user name) order.users.rising e
    ∙ ap (cond (bytes_eq user name && c) v) (sym (scram_found mechanism (find bytes_cmp name_of_user name i.users)))

pub scram_step : (name : List ℕ) (mechanism : ℤ) → IsStep (scram_of name mechanism) (λ epoch. scram_word name mechanism)
scram_step name mechanism epoch (meta.UserScramCredential r) i order fine =
    let pair : ScramPair = record { mechanism = r.mechanism; value = scram_row r } in
    let scrams = scrams_at r.name i.users in
    users_changed name mechanism r.name (put int_cmp mechanism_of_pair pair scrams) (Some (scram_row r)) (int_eq r.mechanism mechanism) i order
    (ap (option_map (λ (s : ScramPair). s.value)) (find-put_by int_order mechanism_of_pair mechanism pair scrams (int_eq r.mechanism mechanism) (Decides-int_eq r.mechanism mechanism))
    ∙ map_by (λ (s : ScramPair). s.value) (int_eq r.mechanism mechanism) (Some pair) (find int_cmp mechanism_of_pair mechanism scrams))
scram_step name mechanism epoch (meta.RemoveUserScramCredential user by) i order fine =
    let scrams = scrams_at user i.users in
    users_changed name mechanism user (without int_cmp mechanism_of_pair by scrams) None (int_eq by mechanism) i order
    (ap (option_map (λ (s : ScramPair). s.value)) (find-without_by int_order mechanism_of_pair mechanism by scrams (int_eq by mechanism) (Decides-int_eq by mechanism) (scrams_rise user i.users order.users))
    ∙ map_by (λ (s : ScramPair). s.value) (int_eq by mechanism) None (find int_cmp mechanism_of_pair mechanism scrams))
scram_step name mechanism epoch (meta.Config r) i order fine = config_leaves (scram_of name mechanism) (scram_of name mechanism i) i epoch r (λ topics. refl) (λ configs. refl)
scram_step name mechanism epoch (meta.ZkMigrationState s) i order fine = state_leaves (scram_of name mechanism) (scram_of name mechanism i) i epoch s refl refl
scram_step name mechanism epoch r i order fine = refl

-- ---- quotas

quotas_found : Finds entity_with quotas_in
quotas_found = record { none = refl; some = λ k qs. refl }

quota_found : (quota : List ℕ) (found : Option QuotaEntry) → option_and_then (quota_in quota) (option_map (λ (q : QuotaEntry). q.quotas) found) ≡ quota_in quota (quotas_in found)
quota_found quota None = refl
quota_found quota (Some q) = refl

pub entity_quota : (entity : EntityKey) (quota : List ℕ) (i : Image) → is_legal entity ≡ true → quota_of entity quota i ≡ quota_in quota (quotas_in (find bytes_cmp path_of_quotas (path_of entity) i.quotas))
entity_quota entity quota i legal =
    let found = find bytes_cmp path_of_quotas (path_of entity) i.quotas in
    ap (λ b. option_and_then (quota_in quota) (cond b (option_map (λ (q : QuotaEntry). q.quotas) found) None)) legal ∙ quota_found quota found

quota_with : (remove : Bool) (quota : List ℕ) (r : ClientQuotaRecord) (qs : List QuotaRow) (c : Bool) → Decides c (r.key ≡ quota) → Rises bytes_cmp key_of_quota qs
    → quota_in quota (cond remove (without bytes_cmp key_of_quota r.key qs) (put bytes_cmp key_of_quota (record { key = r.key; value = r.value }) qs)) ≡ cond c (cond remove None (Some r.value)) (quota_in quota qs)
quota_with true quota r qs c d rises =
    ap (option_map (λ (q : QuotaRow). q.value)) (find-without_by bytes_order key_of_quota quota r.key qs c d rises) ∙ map_by (λ (q : QuotaRow). q.value) c None (find bytes_cmp key_of_quota quota qs)
quota_with false quota r qs c d rises =
    let row : QuotaRow = record { key = r.key; value = r.value } in
    ap (option_map (λ (q : QuotaRow). q.value)) (find-put_by bytes_order key_of_quota quota row qs c d) ∙ map_by (λ (q : QuotaRow). q.value) c (Some row) (find bytes_cmp key_of_quota quota qs)

quotas_changed : (entity : EntityKey) (quota : List ℕ) (r : ClientQuotaRecord) (k : Option EntityKey) (i : Image) → is_legal entity ≡ true → IsInOrder i
    → quota_of entity quota (record i { quotas = quota_changed r k i.quotas }) ≡ cond (is_entity entity k && bytes_eq r.key quota) (cond r.remove None (Some r.value)) (quota_of entity quota i)
quotas_changed entity quota r None i legal order = refl
quotas_changed entity quota r (Some k) i legal order =
    let before = find bytes_cmp path_of_quotas (path_of k) i.quotas in
    entity_quota entity quota (record i { quotas = quota_changed r (Some k) i.quotas }) legal
    ∙ value_changed quotas_hold quotas_found (quota_in quota) (cond r.remove None (Some r.value)) (path_of entity) (path_of k) (with_quota r (quotas_in before)) i.quotas (bytes_eq (path_of k) (path_of entity)) (bytes_eq r.key quota)
    (bytes_eq-Decides (path_of k) (path_of entity)) order.quotas.rising
    (quota_with r.remove quota r (quotas_in before) (bytes_eq r.key quota) (bytes_eq-Decides r.key quota) (found_rows_rise before (found_has _ bytes_cmp path_of_quotas (path_of k) i.quotas order.quotas.filled)))
    ∙ ap (cond (bytes_eq (path_of k) (path_of entity) && bytes_eq r.key quota) (cond r.remove None (Some r.value))) (sym (entity_quota entity quota i legal))

pub quota_step : (entity : EntityKey) (quota : List ℕ) → is_legal entity ≡ true → IsStep (quota_of entity quota) (λ epoch. quota_word entity quota)
quota_step entity quota legal epoch (meta.ClientQuota r) i order fine = quotas_changed entity quota r (quota_key r.entity) i legal order
quota_step entity quota legal epoch (meta.Config r) i order fine = config_leaves (quota_of entity quota) (quota_of entity quota i) i epoch r (λ topics. refl) (λ configs. refl)
quota_step entity quota legal epoch (meta.ZkMigrationState s) i order fine = state_leaves (quota_of entity quota) (quota_of entity quota i) i epoch s refl refl
quota_step entity quota legal epoch r i order fine = refl
