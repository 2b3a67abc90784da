-- What a record makes of a metadata whose entries are legal has legal entries.
use Rattle.std.proofs.Common.{◌≡◌, ◌≢◌, ℕ, zero, suc, ◌<◌, ◌&&◌, ℤ, pos, Bool, true, false, not, cond, List, [], ◌∷◌, Option, Some, None, Ok, Ordering, Less, Equal, Greater, length, get_or, set, refl, sym, ap, ◌∙◌, subst, arith, inl, inr}
use Rattle.std.specs.Prelude.{int_le, option_map, option_and_then, slice_index, ◌==◌, if◌then◌else◌}
use Rattle.std.specs.Ordering.{int_cmp, match_ordering}
use Rattle.std.specs.List.{All, Contains, find as find_by}
use Rattle.std.proofs.lemmas.Bool.{false≢true, cases_Bool}
use Rattle.std.proofs.lemmas.Slice.Eq.{bytes_eq-Decides}
use Rattle.std.proofs.lemmas.List.{length-set}
use Rattle.std.proofs.lemmas.List.Elements.{All-nil, All-cons, All-head, All-tail, All-filter, All-contains_itself}
use Rattle.std.proofs.lemmas.List.Kept.{AllPairs-cons, AllPairs-filter}
use Rattle.kz_types.specs.declared.id.Id.{Id}
use Rattle.kz_types.specs.declared.bodies.Pair.{Pair}
use Rattle.kz_types.specs.declared.bodies.QuotaRow.{QuotaRow}
use Rattle.kz_types.specs.declared.bodies.ScramPair.{ScramPair}
use Rattle.kz_types.specs.declared.row.PartitionRow.{PartitionRow}
use Rattle.kz_types.specs.declared.image.Configuration.{Configuration}
use Rattle.kz_types.specs.declared.image.TopicEntry.{TopicEntry}
use Rattle.kz_types.specs.declared.image.PartitionEntry.{PartitionEntry}
use Rattle.kz_types.specs.declared.image.QuotaEntry.{QuotaEntry}
use Rattle.kz_types.specs.declared.image.ScramEntry.{ScramEntry}
use Rattle.kz_types.specs.declared.key.EntityKey.{EntityKey}
use Rattle.kz_types.specs.declared.key.EntityKey.TheVariants as key
use Rattle.kz_types.specs.declared.record.TopicRecord.{TopicRecord}
use Rattle.kz_types.specs.declared.record.PartitionRecord.{PartitionRecord}
use Rattle.kz_types.specs.declared.record.PartitionChangeRecord.{PartitionChangeRecord}
use Rattle.kz_types.specs.declared.record.ConfigRecord.{ConfigRecord}
use Rattle.kz_types.specs.declared.record.ClientQuotaRecord.{ClientQuotaRecord}
use Rattle.kz_types.specs.declared.record.UserScramCredentialRecord.{UserScramCredentialRecord}
use Rattle.kz_types.specs.Paths.{is_topic_name, is_not_negative, is_legal, has_path, path_of, is_among}
use Rattle.kz_types.specs.Quotas.{is_quota}
use Rattle.kz_types.proofs.PathRules.{both_hold}
use Rattle.kz_types.specs.Order.{bytes_cmp}
use Rattle.kz_types.specs.Ordered.{find, put, without, Rises}
use Rattle.kz_types.specs.Spot.{IsSpot}
use Rattle.kz_types.proofs.Order.{bytes_order, int_order}
use Rattle.kz_types.proofs.Lookup.{key_of_found, some_is_none}
use Rattle.kz_types.proofs.Spot.{put_by_spot}
use Rattle.kz_spec_data.specs.Credentials.{quota_keys}
use Rattle.kz_spec_data.specs.Metadata.{name_of_topic, number_of_partition, name_of_configuration, name_of_pair, path_of_quotas, key_of_quota, name_of_user, mechanism_of_pair, same_id, partition_at, pairs_of, pairs_at}
use Rattle.kz_spec_data.specs.ImageRules.{is_empty, is_zero, is_broker_name, is_mechanism, is_user, is_row, new_row, changed_row, leaves_row, has_quota}
use Rattle.kz_spec_data.specs.Image.{put_topic, new_topic, with_changed, put_partition, change_partition, partition_changed, without_topic, topic_configured, with_member, with_pairs, configurations_after, quotas_in, with_quota, quota_changed, scrams_in, scrams_at, with_scrams, scram_row, scram_set, scram_removed}
use Rattle.kz_spec_data.specs.Legal.{IsMember, IsPartition, IsTopic, AreApart, AreTopics, IsConfiguration, IsQuotaOf, IsQuotaEntry, IsScramOf, IsScramEntry}
use Rattle.kz_laws_znodes.proofs.Lists.{All-put, All-without}
use Rattle.kz_laws_znodes.proofs.Entries.{HasIfFound, found_has, found_by_has, changed_all}
use Rattle.kz_laws_znodes.proofs.QuotaLists.{quotas_hold}
use Rattle.kz_laws_znodes.proofs.UserLists.{users_hold}

-- ---- members

pub member_legal : (name : List ℕ) (value : Option (List ℕ)) (ps : List Pair) → is_empty name ≡ false → All IsMember ps → All IsMember (with_member name value ps)
member_legal name (Some value) ps named h = All-put IsMember bytes_cmp name_of_pair (record { name = name; value = value }) ps named h
member_legal name None ps named h = All-without IsMember bytes_cmp name_of_pair name ps h

-- ---- topics apart

-- an item with another's key in its place has the same keys as before
set_keeps : {A K : Type 0} (f : A → K) (xs : List A) (n i : ℕ) (y d : A) → f y ≡ f (get_or xs n d) → f (get_or (set xs n y) i d) ≡ f (get_or xs i d)
set_keeps f [] n i y d e = refl
set_keeps f (x ∷ xs) zero zero y d e = e
set_keeps f (x ∷ xs) zero (suc i) y d e = refl
set_keeps f (x ∷ xs) (suc n) zero y d e = refl
set_keeps f (x ∷ xs) (suc n) (suc i) y d e = set_keeps f xs n i y d e

abbrev pub topic_id : TopicEntry → Id
topic_id t = t.id

set_apart : (xs : List TopicEntry) (n : ℕ) (new : TopicEntry) → ((d : TopicEntry) → new.id ≡ (get_or xs n d).id) → AreApart xs → AreApart (set xs n new)
set_apart xs n new same apart i j d below within e =
    apart i j d below (subst (λ l. j < l) (length-set xs n new) within)
    (sym (set_keeps topic_id xs n i new d (same d)) ∙ e ∙ set_keeps topic_id xs n j new d (same d))

-- a topic in place of one of its name and id
replaced_apart : (new old : TopicEntry) (xs : List TopicEntry) → Rises bytes_cmp name_of_topic xs → Contains xs old → new.name ≡ old.name → new.id ≡ old.id → AreApart xs → AreApart (put_topic new xs)
replaced_apart new old xs rises (n, within, at) named identified apart =
    let there = λ (d : TopicEntry). default_same xs n d old within ∙ at in
    let spot : IsSpot bytes_cmp name_of_topic new.name xs (Ok n) = (within, λ d. ap name_of_topic (there d) ∙ sym named) in
    subst AreApart (sym (put_by_spot bytes_order name_of_topic new xs n rises spot)) (set_apart xs n new (λ d. identified ∙ ap topic_id (sym (there d))) apart)
  where
    default_same : {A : Type 0} (xs : List A) (n : ℕ) (d e : A) → n < length xs → get_or xs n d ≡ get_or xs n e
    default_same [] n d e h = absurd (omega arith)
    default_same (x ∷ xs) zero d e h = refl
    default_same (x ∷ xs) (suc n) d e h = default_same xs n d e (omega arith)

-- a topic with an id of its own
put_apart : (t : TopicEntry) (xs : List TopicEntry) → All (λ (u : TopicEntry). t.id ≢ u.id) xs → AreApart xs → AreApart (put_topic t xs)
put_apart t [] other apart = AllPairs-cons (λ (u v : TopicEntry). u.id ≢ v.id) t [] other apart
put_apart t (x ∷ xs) other apart =
    let R = λ (u v : TopicEntry). u.id ≢ v.id in
    let rest : AreApart xs = λ i j d below within. apart (suc i) (suc j) d (omega arith) (omega arith) in
    let first : All (R x) xs = λ i d within. apart 0 (suc i) d (omega arith) (omega arith) in
    let others : All (R t) xs = All-tail (R t) x xs other in
    let back : R x t = λ e. All-head (R t) x xs other (sym e) in
    by_order (bytes_cmp t.name x.name) t x xs (put_topic t xs)
    (AllPairs-cons R t (x ∷ xs) other apart)
    (AllPairs-cons R t xs others rest)
    (AllPairs-cons R x (put_topic t xs) (All-put (R x) bytes_cmp name_of_topic t xs back first) (put_apart t xs others rest))
  where
    by_order : (o : Ordering) (t x : TopicEntry) (xs ys : List TopicEntry) → AreApart (t ∷ x ∷ xs) → AreApart (t ∷ xs) → AreApart (x ∷ ys) → AreApart (match_ordering o (t ∷ x ∷ xs) (t ∷ xs) (x ∷ ys))
    by_order Less t x xs ys a b c = a
    by_order Equal t x xs ys a b c = b
    by_order Greater t x xs ys a b c = c

-- ---- topics

-- it is one of these topics, and what is made of it is legal
abbrev pub Makes : (TopicEntry → TopicEntry) → List TopicEntry → TopicEntry → Type 0
Makes change xs t = Contains xs t × IsTopic (change t)

topic_changed_legal : (change : TopicEntry → TopicEntry) (found : Option TopicEntry) (xs : List TopicEntry) → ((t : TopicEntry) → (change t).name ≡ t.name) → ((t : TopicEntry) → (change t).id ≡ t.id)
    → Rises bytes_cmp name_of_topic xs → HasIfFound (Makes change xs) found → AreTopics xs → AreTopics (with_changed change found xs)
topic_changed_legal change None xs named identified rises makes legal = legal
topic_changed_legal change (Some t) xs named identified rises makes legal = record {
  each = All-put IsTopic bytes_cmp name_of_topic (change t) xs makes.1 legal.each;
  apart = replaced_apart (change t) t xs rises makes.0 (named t) (identified t) legal.apart;
}

-- each topic is among them, and is legal
among_legal : (xs : List TopicEntry) → All IsTopic xs → All (λ (t : TopicEntry). Contains xs t × IsTopic t) xs
among_legal xs h i d within = (All-contains_itself xs i d within, h i d within)

makes_all : (change : TopicEntry → TopicEntry) (xs : List TopicEntry) (found : Option TopicEntry) → ((t : TopicEntry) → IsTopic t → IsTopic (change t)) → HasIfFound (λ (t : TopicEntry). Contains xs t × IsTopic t) found → HasIfFound (Makes change xs) found
makes_all change xs None keeps has = tt
makes_all change xs (Some t) keeps has = (has.0, keeps t has.1)

partition_put_legal : (number : ℤ) (row : PartitionRow) (t : TopicEntry) → is_not_negative number ≡ true → is_row row ≡ true → IsTopic t → IsTopic (put_partition number row t)
partition_put_legal number row t numbered fits legal = record {
  named = legal.named;
  identified = legal.identified;
  each_partition = All-put IsPartition int_cmp number_of_partition (record { number = number; row = row }) t.partitions (numbered, fits) legal.each_partition;
  each_member = legal.each_member;
}

pub partition_made_legal : (epoch : ℤ) (r : PartitionRecord) (xs : List TopicEntry) → is_not_negative r.partition_id ≡ true → is_row (new_row epoch r) ≡ true → Rises bytes_cmp name_of_topic xs → AreTopics xs
    → AreTopics (with_changed (put_partition r.partition_id (new_row epoch r)) (find_by (λ (t : TopicEntry). same_id t.id r.topic_id) xs) xs)
partition_made_legal epoch r xs numbered fits rises legal =
    let found = find_by (λ (t : TopicEntry). same_id t.id r.topic_id) xs in
    let change = put_partition r.partition_id (new_row epoch r) in
    topic_changed_legal change found xs (λ t. refl) (λ t. refl) rises
    (makes_all change xs found (λ t h. partition_put_legal r.partition_id (new_row epoch r) t numbered fits h) (found_by_has _ (λ (t : TopicEntry). same_id t.id r.topic_id) xs (among_legal xs legal.each))) legal

-- a partition that is found has a number
found_number : (number : ℤ) (ps : List PartitionEntry) (found : Option PartitionEntry) → find int_cmp number_of_partition number ps ≡ found → All IsPartition ps → HasIfFound (λ (p : PartitionEntry). is_not_negative number ≡ true) found
found_number number ps None e h = tt
found_number number ps (Some p) e h =
    let has = subst (HasIfFound IsPartition) e (found_has IsPartition int_cmp number_of_partition number ps h) in
    ap is_not_negative (sym (key_of_found int_order number_of_partition number ps p e)) ∙ has.0

row_changed_legal : (epoch : ℤ) (r : PartitionChangeRecord) (t : TopicEntry) (found : Option PartitionEntry) → HasIfFound (λ (p : PartitionEntry). is_not_negative r.partition_id ≡ true) found → IsTopic t
    → leaves_row r (option_map (λ (p : PartitionEntry). p.row) found) ≡ true → IsTopic (change_partition r.partition_id (changed_row epoch r) (option_map (λ (p : PartitionEntry). p.row) found) t)
row_changed_legal epoch r t None numbered legal fits = legal
row_changed_legal epoch r t (Some p) numbered legal fits = partition_put_legal r.partition_id (changed_row epoch r p.row) t numbered fits legal

pub change_named : (number : ℤ) (change : PartitionRow → PartitionRow) (found : Option PartitionRow) (t : TopicEntry) → ((change_partition number change found t).name ≡ t.name) × ((change_partition number change found t).id ≡ t.id)
change_named number change None t = (refl, refl)
change_named number change (Some row) t = (refl, refl)

makes_changed : (epoch : ℤ) (r : PartitionChangeRecord) (xs : List TopicEntry) (found : Option TopicEntry) → leaves_row r (option_and_then (λ (t : TopicEntry). partition_at r.partition_id t.partitions) found) ≡ true
    → HasIfFound (λ (t : TopicEntry). Contains xs t × IsTopic t) found → HasIfFound (Makes (partition_changed epoch r) xs) found
makes_changed epoch r xs None fits has = tt
makes_changed epoch r xs (Some t) fits has =
    let found = find int_cmp number_of_partition r.partition_id t.partitions in
    (has.0, row_changed_legal epoch r t found (found_number r.partition_id t.partitions found refl has.1.each_partition) has.1 fits)

pub partition_changed_legal : (epoch : ℤ) (r : PartitionChangeRecord) (xs : List TopicEntry)
    → leaves_row r (option_and_then (λ (t : TopicEntry). partition_at r.partition_id t.partitions) (find_by (λ (t : TopicEntry). same_id t.id r.topic_id) xs)) ≡ true
    → Rises bytes_cmp name_of_topic xs → AreTopics xs → AreTopics (with_changed (partition_changed epoch r) (find_by (λ (t : TopicEntry). same_id t.id r.topic_id) xs) xs)
partition_changed_legal epoch r xs fits rises legal =
    let found = find_by (λ (t : TopicEntry). same_id t.id r.topic_id) xs in
    let kept = λ (t : TopicEntry). change_named r.partition_id (changed_row epoch r) (partition_at r.partition_id t.partitions) t in
    topic_changed_legal (partition_changed epoch r) found xs (λ t. (kept t).0) (λ t. (kept t).1) rises
    (makes_changed epoch r xs found fits (found_by_has _ (λ (t : TopicEntry). same_id t.id r.topic_id) xs (among_legal xs legal.each))) legal

pub topic_configured_legal : (c : ConfigRecord) (xs : List TopicEntry) → is_empty c.name ≡ false → Rises bytes_cmp name_of_topic xs → AreTopics xs
    → AreTopics (with_changed (topic_configured c) (find bytes_cmp name_of_topic c.resource_name xs) xs)
topic_configured_legal c xs named rises legal =
    let found = find bytes_cmp name_of_topic c.resource_name xs in
    topic_changed_legal (topic_configured c) found xs (λ t. refl) (λ t. refl) rises
    (makes_all (topic_configured c) xs found (λ t h. record { named = h.named; identified = h.identified; each_partition = h.each_partition; each_member = member_legal c.name c.value t.pairs named h.each_member })
    (found_has _ bytes_cmp name_of_topic c.resource_name xs (among_legal xs legal.each))) legal

-- no topic has an id that isn't found
pub same_itself : (id : Id) → same_id id id ≡ true
same_itself id = (bytes_eq-Decides id.bytes id.bytes).1 refl

pub id_not_found : (id : Id) (xs : List TopicEntry) → find_by (λ (t : TopicEntry). same_id t.id id) xs ≡ None → All (λ (u : TopicEntry). id ≢ u.id) xs
id_not_found id [] h = All-nil (λ (u : TopicEntry). id ≢ u.id)
id_not_found id (x ∷ xs) h =
    elim (cases_Bool (same_id x.id id)) [
      | inl e ↦ absurd (some_is_none (sym (ap (λ b. cond b (Some x) (find_by (λ (t : TopicEntry). same_id t.id id) xs)) e) ∙ h))
      | inr e ↦ All-cons (λ (u : TopicEntry). id ≢ u.id) x xs (λ same. false≢true (sym e ∙ ap (λ other. same_id other id) (sym same) ∙ same_itself id))
          (id_not_found id xs (sym (ap (λ b. cond b (Some x) (find_by (λ (t : TopicEntry). same_id t.id id) xs)) e) ∙ h))
    ]

pub topic_made_legal : (r : TopicRecord) (xs : List TopicEntry) → is_topic_name r.name ≡ true → is_zero r.topic_id ≡ false → find_by (λ (t : TopicEntry). same_id t.id r.topic_id) xs ≡ None → AreTopics xs → AreTopics (put_topic (new_topic r) xs)
topic_made_legal r xs named identified absent legal = record {
  each = All-put IsTopic bytes_cmp name_of_topic (new_topic r) xs (record { named = named; identified = identified; each_partition = All-nil IsPartition; each_member = All-nil IsMember }) legal.each;
  apart = put_apart (new_topic r) xs (id_not_found r.topic_id xs absent) legal.apart;
}

pub topic_removed_legal : (id : Id) (xs : List TopicEntry) → AreTopics xs → AreTopics (without_topic id xs)
topic_removed_legal id xs legal = record {
  each = All-filter (λ (t : TopicEntry). not (same_id t.id id)) IsTopic xs legal.each;
  apart = AllPairs-filter (λ (t u : TopicEntry). t.id ≢ u.id) (λ (t : TopicEntry). not (same_id t.id id)) xs legal.apart;
}

-- ---- configurations

found_members : (found : Option Configuration) → HasIfFound IsConfiguration found → All IsMember (pairs_of found)
found_members None h = All-nil IsMember
found_members (Some c) h = h.1

with_pairs_legal : (name : List ℕ) (ps : List Pair) (xs : List Configuration) → is_broker_name name ≡ true → All IsMember ps → All IsConfiguration xs → All IsConfiguration (with_pairs name ps xs)
with_pairs_legal name [] xs named h legal = All-without IsConfiguration bytes_cmp name_of_configuration name xs legal
with_pairs_legal name (p ∷ ps) xs named h legal = All-put IsConfiguration bytes_cmp name_of_configuration (record { name = name; pairs = p ∷ ps }) xs (named, h) legal

pub configured_legal : (c : ConfigRecord) (xs : List Configuration) → is_broker_name c.resource_name ≡ true → is_empty c.name ≡ false → All IsConfiguration xs → All IsConfiguration (configurations_after c xs)
configured_legal c xs named member legal =
    with_pairs_legal c.resource_name _ xs named
    (member_legal c.name c.value (pairs_at c.resource_name xs) member (found_members _ (found_has IsConfiguration bytes_cmp name_of_configuration c.resource_name xs legal))) legal

-- ---- quotas

-- the keys of quotas of an entity with this path
abbrev pub keys_under : List ℕ → List (List ℕ)
keys_under path = if slice_index path 8 == 105 then quota_keys (key.Ip None) else quota_keys (key.User None)

same_keys : (k : EntityKey) (name : List ℕ) → is_among (quota_keys k) name ≡ true → quota_keys k ≡ keys_under (path_of k)
unfolding path_of
same_keys (key.Topic topic) name h = absurd (false≢true h)
same_keys (key.Partition topic number) name h = absurd (false≢true h)
same_keys (key.TopicConfig topic) name h = absurd (false≢true h)
same_keys (key.BrokerConfig broker) name h = absurd (false≢true h)
same_keys (key.Client client) name h = refl
same_keys (key.User user) name h = refl
same_keys (key.UserClient user client) name h = refl
same_keys (key.Ip address) name h = refl
same_keys (key.Acl pattern kind resource) name h = absurd (false≢true h)
same_keys key.Producer name h = absurd (false≢true h)

-- a quota under one key of a path is one under another
same_quota : (k l : EntityKey) (name : List ℕ) (q : QuotaRow) → is_among (quota_keys k) name ≡ true → path_of l ≡ path_of k → IsQuotaOf l q → IsQuotaOf k q
same_quota k l name q h same legal =
    (ap (λ keys. is_among keys q.key) (same_keys k name h ∙ ap keys_under (sym same) ∙ sym (same_keys l q.key legal.0)) ∙ legal.0, legal.1)

found_quotas : (k : EntityKey) (name : List ℕ) (xs : List QuotaEntry) (found : Option QuotaEntry) → find bytes_cmp path_of_quotas (path_of k) xs ≡ found → is_among (quota_keys k) name ≡ true → All IsQuotaEntry xs → All (IsQuotaOf k) (quotas_in found)
found_quotas k name xs None e h legal = All-nil (IsQuotaOf k)
found_quotas k name xs (Some q) e h legal =
    let has = subst (HasIfFound IsQuotaEntry) e (found_has IsQuotaEntry bytes_cmp path_of_quotas (path_of k) xs legal) in
    λ i d within. same_quota k has.entity name (get_or q.quotas i d) h (has.placed ∙ key_of_found bytes_order path_of_quotas (path_of k) xs q e) (has.each i d within)

quotas_with : (b : Bool) (k : EntityKey) (r : ClientQuotaRecord) (qs : List QuotaRow) → is_among (quota_keys k) r.key ≡ true → is_quota r.value ≡ true → All (IsQuotaOf k) qs
    → All (IsQuotaOf k) (cond b (without bytes_cmp key_of_quota r.key qs) (put bytes_cmp key_of_quota (record { key = r.key; value = r.value }) qs))
quotas_with true k r qs named valued h = All-without (IsQuotaOf k) bytes_cmp key_of_quota r.key qs h
quotas_with false k r qs named valued h = All-put (IsQuotaOf k) bytes_cmp key_of_quota (record { key = r.key; value = r.value }) qs (named, valued) h

pub quota_changed_legal : (r : ClientQuotaRecord) (k : Option EntityKey) (xs : List QuotaEntry) → has_quota k r.key ≡ true → is_quota r.value ≡ true → All IsQuotaEntry xs → All IsQuotaEntry (quota_changed r k xs)
quota_changed_legal r None xs h valued legal = legal
quota_changed_legal r (Some k) xs h valued legal =
    let found = find bytes_cmp path_of_quotas (path_of k) xs in
    let named = both_hold (is_legal k && has_path k) (is_among (quota_keys k) r.key) h in
    let placed = both_hold (is_legal k) (has_path k) named.0 in
    let quotas = with_quota r (quotas_in found) in
    changed_all quotas_hold IsQuotaEntry (path_of k) quotas xs
    (λ some. record { entity = k; legal = placed.0; fits = placed.1; placed = refl; each = quotas_with r.remove k r (quotas_in found) named.1 valued (found_quotas k r.key xs found refl named.1 legal) }) legal

-- ---- credentials

found_scrams : (name : List ℕ) (xs : List ScramEntry) (found : Option ScramEntry) → find bytes_cmp name_of_user name xs ≡ found → All IsScramEntry xs → All (IsScramOf name) (scrams_in found)
found_scrams name xs None e legal = All-nil (IsScramOf name)
found_scrams name xs (Some u) e legal =
    let has = subst (HasIfFound IsScramEntry) e (found_has IsScramEntry bytes_cmp name_of_user name xs legal) in
    subst (λ n. All (IsScramOf n) u.scrams) (key_of_found bytes_order name_of_user name xs u e) has

scrams_legal : (name : List ℕ) (ss : List ScramPair) (xs : List ScramEntry) → All (IsScramOf name) ss → All IsScramEntry xs → All IsScramEntry (with_scrams name ss xs)
scrams_legal name ss xs h legal = changed_all users_hold IsScramEntry name ss xs (λ some. h) legal

pub scram_set_legal : (r : UserScramCredentialRecord) (xs : List ScramEntry) → is_user r.name ≡ true → is_mechanism r.mechanism ≡ true → int_le (pos 1) r.iterations ≡ true → All IsScramEntry xs → All IsScramEntry (scram_set r xs)
scram_set_legal r xs named by_one iterated legal =
    scrams_legal r.name _ xs
    (All-put (IsScramOf r.name) int_cmp mechanism_of_pair (record { mechanism = r.mechanism; value = scram_row r }) (scrams_at r.name xs) (named, by_one, iterated) (found_scrams r.name xs _ refl legal)) legal

pub scram_removed_legal : (name : List ℕ) (mechanism : ℤ) (xs : List ScramEntry) → All IsScramEntry xs → All IsScramEntry (scram_removed name mechanism xs)
scram_removed_legal name mechanism xs legal =
    scrams_legal name _ xs (All-without (IsScramOf name) int_cmp mechanism_of_pair mechanism (scrams_at name xs) (found_scrams name xs _ refl legal)) legal
