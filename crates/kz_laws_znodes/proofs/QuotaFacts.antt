-- The quotas, credentials and entries of the metadata are ones whose bodies are read as they are written.
use Rattle.std.proofs.Common.{◌≡◌, ◌⊎◌, ℕ, ◌+◌, ◌*◌, ◌==◌, ℤ, ◌≤ℤ◌, pos, Bool, true, false, not, ◌&&◌, ◌||◌, List, [], ◌∷◌, ◌++◌, map, Some, Less, All, length, refl, sym, ap, ◌∙◌, subst, inl, inr, arith, codes, slice_index}
use Rattle.std.specs.Prelude.{int_le, if◌then◌else◌}
use Rattle.std.specs.Ordering.{int_cmp, int_eq}
use Rattle.std.proofs.lemmas.Bool.{and_parts, and_from, lt-ltb}
use Rattle.std.proofs.lemmas.Int.{ints}
use Rattle.std.proofs.lemmas.List.Elements.{All-head, All-tail}
use Rattle.kz_types.specs.declared.bodies.QuotaRow.{QuotaRow}
use Rattle.kz_types.specs.declared.bodies.ScramPair.{ScramPair}
use Rattle.kz_types.specs.declared.image.QuotaEntry.{QuotaEntry}
use Rattle.kz_types.specs.declared.image.AclEntry.{AclEntry}
use Rattle.kz_types.specs.declared.key.EntityKey.{EntityKey}
use Rattle.kz_types.specs.declared.key.EntityKey.TheVariants as key
use Rattle.kz_types.specs.Paths.{is_part, resource_type_name, is_among, is_not_empty, is_pattern, is_resource_type, is_legal, has_path, path_of}
use Rattle.kz_types.specs.Order.{bytes_cmp}
use Rattle.kz_types.specs.Ordered.{Rises, RisesAbove}
use Rattle.kz_types.proofs.Order.{int_order}
use Rattle.kz_types.proofs.Lookup.{rest_rises, rises_above_smaller}
use Rattle.kz_types.proofs.Maps.{Rises-map}
use Rattle.kz_spec_data.specs.Credentials.{client_keys, quota_keys, credential_key, mechanism_name, quota_pair, credential_pair}
use Rattle.kz_spec_data.specs.Metadata.{name_of_pair, key_of_quota, mechanism_of_pair}
use Rattle.kz_spec_data.specs.ImageRules.{is_empty, is_dots, is_mechanism, is_user, are_codes, is_resource, is_operation, is_permission}
use Rattle.kz_spec_data.specs.Legal.{IsQuotaOf, IsQuotaEntry, IsScramOf, IsAcl}
use Rattle.kz_spec_data.specs.Rendering.{acl_key}
use Rattle.kz_laws_values.specs.Ranges.{IsBetween}
use Rattle.kz_laws_values.specs.Readable.{IsBelow, AreRising, AreQuotas, IsScram, AreCredentials, IsQuotaBody}
use Rattle.kz_laws_values.specs.TextKeys.{IsText}
use Rattle.kz_laws_values.proofs.Legal.{IsGoodKey}
use Rattle.kz_laws_znodes.specs.RoundTrip.{IsQuotaWritable, IsScramWritable, IsAclWritable}
use Rattle.kz_laws_znodes.proofs.Bodies.{holds_le, rising}

-- ---- which quotas an entity may have, by its path

abbrev tag : List ℕ → ℕ
tag path = slice_index path 1 * 1000 + slice_index path 8

abbrev tag_of : EntityKey → ℕ
tag_of (key.Topic name) = 98047
tag_of (key.Partition topic partition) = 98047
tag_of (key.TopicConfig name) = 99116
tag_of (key.BrokerConfig broker) = 99098
tag_of (key.Client client) = 99099
tag_of (key.User user) = 99117
tag_of (key.UserClient user client) = 99117
tag_of (key.Ip address) = 99105
tag_of (key.Acl pattern kind name) = 107099
tag_of key.Producer = 108112

tag_is : (k : EntityKey) → tag (path_of k) ≡ tag_of k
unfolding path_of
tag_is (key.Topic name) = refl
tag_is (key.Partition topic partition) = refl
tag_is (key.TopicConfig name) = refl
tag_is (key.BrokerConfig broker) = refl
tag_is (key.Client client) = refl
tag_is (key.User user) = refl
tag_is (key.UserClient user client) = refl
tag_is (key.Ip address) = refl
tag_is (key.Acl pattern kind name) = by (int_eq pattern (pos 3))
  where
    by : (t : Bool) → tag ((if t then codes "/kafka-acl/" else codes "/kafka-acl-extended/prefixed/") ++ (resource_type_name kind ++ (codes "/" ++ name))) ≡ 107099
    by true = refl
    by false = refl
tag_is key.Producer = refl

abbrev keys_by : ℕ → List (List ℕ)
keys_by n = if n == 99099 then client_keys else if n == 99117 then client_keys else if n == 99105 then codes "connection_creation_rate" ∷ [] else []

keys_are : (k : EntityKey) → quota_keys k ≡ keys_by (tag_of k)
keys_are (key.Topic name) = refl
keys_are (key.Partition topic partition) = refl
keys_are (key.TopicConfig name) = refl
keys_are (key.BrokerConfig broker) = refl
keys_are (key.Client client) = refl
keys_are (key.User user) = refl
keys_are (key.UserClient user client) = refl
keys_are (key.Ip address) = refl
keys_are (key.Acl pattern kind name) = refl
keys_are key.Producer = refl

-- entities of one path may have the same quotas
pub same_keys : (j k : EntityKey) → path_of j ≡ path_of k → quota_keys j ≡ quota_keys k
same_keys j k e = keys_are j ∙ ap keys_by (sym (tag_is j) ∙ ap tag e ∙ tag_is k) ∙ sym (keys_are k)

-- ---- quotas

each_quota : (j k : EntityKey) → path_of j ≡ path_of k → (quotas : List QuotaRow) → All (IsQuotaOf j) quotas → All IsQuotaWritable quotas → AreQuotas k quotas
each_quota j k e [] h w = tt
each_quota j k e (q ∷ qs) h w =
    let own = All-head (IsQuotaOf j) q qs h in (
      record { name_is = ap (λ keys. is_among keys q.key) (sym (same_keys j k e)) ∙ own.0; value_is = own.1; whole_fits = All-head IsQuotaWritable q qs w },
      each_quota j k e qs (All-tail (IsQuotaOf j) q qs h) (All-tail IsQuotaWritable q qs w),
    )

pub entity_quotas : (q : QuotaEntry) (k : EntityKey) → IsQuotaEntry q → path_of k ≡ q.path → All IsQuotaWritable q.quotas → AreQuotas k q.quotas
entity_quotas q k h at w = each_quota h.entity k (h.placed ∙ sym at) q.quotas h.each w

quotas_rising : (quotas : List QuotaRow) → Rises bytes_cmp key_of_quota quotas → AreRising (map quota_pair quotas)
quotas_rising quotas h = rising (map quota_pair quotas) (Rises-map bytes_cmp key_of_quota name_of_pair quota_pair (λ q. refl) quotas h)

-- ---- credentials

one_or_two : (m : ℤ) → is_mechanism m ≡ true → (m ≡ pos 1) ⊎ (m ≡ pos 2)
one_or_two m h = by (int_eq m (pos 1)) refl h
  where
    same : (n : ℤ) → int_eq m n ≡ true → m ≡ n
    same n e = grind (arith, ints)

    by : (t : Bool) → int_eq m (pos 1) ≡ t → t || int_eq m (pos 2) ≡ true → (m ≡ pos 1) ⊎ (m ≡ pos 2)
    by true e k = inl (same (pos 1) e)
    by false e k = inr (same (pos 2) k)

mechanism_named : (name : List ℕ) (m : ℤ) → is_mechanism m ≡ true → credential_key (key.User (Some name)) (mechanism_name m) ≡ Some m
mechanism_named name m h = elim (one_or_two m h) [
  | inl e ↦ subst (λ n. credential_key (key.User (Some name)) (mechanism_name n) ≡ Some n) (sym e) refl
  | inr e ↦ subst (λ n. credential_key (key.User (Some name)) (mechanism_name n) ≡ Some n) (sym e) refl
]

names_rise : (m n : ℤ) → is_mechanism m ≡ true → is_mechanism n ≡ true → int_cmp m n ≡ Less → bytes_cmp (mechanism_name m) (mechanism_name n) ≡ Less
names_rise m n h k less = by (one_or_two m h) (one_or_two n k)
  where
    at : (a b : ℤ) → m ≡ a → n ≡ b → int_cmp a b ≡ Less
    at a b e f = (λ i. int_cmp (sym e i) (sym f i)) ∙ less

    by : (m ≡ pos 1) ⊎ (m ≡ pos 2) → (n ≡ pos 1) ⊎ (n ≡ pos 2) → bytes_cmp (mechanism_name m) (mechanism_name n) ≡ Less
    by (inl e) (inl f) = absurd (let no = at (pos 1) (pos 1) e f in cc)
    by (inl e) (inr f) = (λ i. bytes_cmp (mechanism_name (e i)) (mechanism_name (f i)))
    by (inr e) (inl f) = absurd (let no = at (pos 2) (pos 1) e f in cc)
    by (inr e) (inr f) = absurd (let no = at (pos 2) (pos 2) e f in cc)

scrams_below : (m : ℤ) (scrams : List ScramPair) → is_mechanism m ≡ true → All (λ (s : ScramPair). is_mechanism s.mechanism ≡ true) scrams → RisesAbove int_cmp mechanism_of_pair m scrams → IsBelow (mechanism_name m) (map credential_pair scrams)
scrams_below m [] h all rise = tt
scrams_below m (s ∷ ss) h all rise = (
  names_rise m s.mechanism h (All-head (λ (x : ScramPair). is_mechanism x.mechanism ≡ true) s ss all) rise.0,
  scrams_below m ss h (All-tail (λ (x : ScramPair). is_mechanism x.mechanism ≡ true) s ss all) (rises_above_smaller int_order mechanism_of_pair m s.mechanism ss rise.0 rise.1),
)

scrams_rising : (scrams : List ScramPair) → All (λ (s : ScramPair). is_mechanism s.mechanism ≡ true) scrams → Rises int_cmp mechanism_of_pair scrams → AreRising (map credential_pair scrams)
scrams_rising [] all rise = tt
scrams_rising (s ∷ ss) all rise =
    let rest = All-tail (λ (x : ScramPair). is_mechanism x.mechanism ≡ true) s ss all in
    (scrams_below s.mechanism ss (All-head (λ (x : ScramPair). is_mechanism x.mechanism ≡ true) s ss all) rest rise, scrams_rising ss rest (rest_rises int_order mechanism_of_pair s ss rise))

all_mechanisms : (name : List ℕ) (scrams : List ScramPair) → All (IsScramOf name) scrams → All (λ (s : ScramPair). is_mechanism s.mechanism ≡ true) scrams
all_mechanisms name scrams h k d within = (h k d within).1

scram_is : (name : List ℕ) (s : ScramPair) → IsScramOf name s → IsScramWritable s → IsScram s.value
scram_is name s h w = record { salt_is = w.salt; stored_key_is = w.stored_key; server_key_is = w.server_key; iterations_are = (holds_le (pos 1) s.value.iterations h.2, w.iterations) }

each_credential : (name : List ℕ) (scrams : List ScramPair) → All (IsScramOf name) scrams → All IsScramWritable scrams → AreCredentials (key.User (Some name)) scrams
each_credential name [] h w = tt
each_credential name (s ∷ ss) h w =
    let own = All-head (IsScramOf name) s ss h in (
      record { mechanism_is = mechanism_named name s.mechanism own.1; value_is = scram_is name s own (All-head IsScramWritable s ss w) },
      each_credential name ss (All-tail (IsScramOf name) s ss h) (All-tail IsScramWritable s ss w),
    )

pub quota_body : (k : EntityKey) (quotas : List QuotaRow) → AreQuotas k quotas → Rises bytes_cmp key_of_quota quotas → IsQuotaBody k quotas []
quota_body k quotas h rise = record { quotas_are = h; scrams_are = tt; quotas_rise = quotas_rising quotas rise; scrams_rise = tt }

pub user_body : (name : List ℕ) (quotas : List QuotaRow) (scrams : List ScramPair) → AreQuotas (key.User (Some name)) quotas → Rises bytes_cmp key_of_quota quotas → All (IsScramOf name) scrams → All IsScramWritable scrams → Rises int_cmp mechanism_of_pair scrams
    → IsQuotaBody (key.User (Some name)) quotas scrams
user_body name quotas scrams h rise s w r = record {
  quotas_are = h;
  scrams_are = each_credential name scrams s w;
  quotas_rise = quotas_rising quotas rise;
  scrams_rise = scrams_rising scrams (all_mechanisms name scrams s) r;
}

-- what is known of the name of a user with credentials
pub user_parts : (name : List ℕ) → is_user name ≡ true → (is_not_empty name ≡ true) × (has_path (key.User (Some name)) ≡ true)
user_parts name h =
    let a = and_parts (not (is_empty name) && not (is_dots name)) (has_path (key.User (Some name))) h in
    let b = and_parts (not (is_empty name)) (not (is_dots name)) a.0 in
    (named name b.0, a.1)
  where
    named : (n : List ℕ) → not (is_empty n) ≡ true → is_not_empty n ≡ true
    named [] e = absurd (cc)
    named (b ∷ bs) e = lt-ltb 0 (length (b ∷ bs)) (omega arith)

-- ---- access control entries

-- What is known of an entry.
pub record AclFacts (a : AclEntry) : Type 0 where
  pub good : IsGoodKey (acl_key a.row)
  pub fits : has_path (acl_key a.row) ≡ true
  pub operation : IsBetween (pos 2) (pos 12) a.row.operation
  pub permission : IsBetween (pos 2) (pos 3) a.row.permission
  pub writable : IsAclWritable a

operation_between : (z : ℤ) → is_operation z ≡ true → IsBetween (pos 2) (pos 12) z
operation_between z h = let k = and_parts (int_le (pos 2) z) (int_le z (pos 12)) h in (holds_le (pos 2) z k.0, holds_le z (pos 12) k.1)

permission_low : (z : ℤ) → is_permission z ≡ true → pos 2 ≤ℤ z
permission_low z h = grind (arith, ints)

permission_high : (z : ℤ) → is_permission z ≡ true → z ≤ℤ pos 3
permission_high z h = grind (arith, ints)

resource_parts : (kind pattern : ℤ) (name : List ℕ) → is_resource kind pattern name ≡ true → are_codes kind pattern ≡ true → IsText name → IsGoodKey (key.Acl pattern kind name) × (has_path (key.Acl pattern kind name) ≡ true)
unfolding is_legal
resource_parts kind pattern name h c text =
    let a = and_parts (is_part name) (not (are_codes kind pattern) || has_path (key.Acl pattern kind name)) h in
    let b = and_parts (is_resource_type kind) (is_pattern pattern) c in
    ((and_from (is_pattern pattern && is_resource_type kind) (is_part name) (and_from (is_pattern pattern) (is_resource_type kind) b.1 b.0) a.0, text), sym (ap (λ t. not t || has_path (key.Acl pattern kind name)) c) ∙ a.1)

pub acl_facts : (a : AclEntry) → IsAcl a → IsAclWritable a → AclFacts a
acl_facts a h w =
    let k = resource_parts a.row.kind a.row.pattern a.row.name h.resource h.codes w.name in record {
      good = k.0;
      fits = k.1;
      operation = operation_between a.row.operation h.operation;
      permission = (permission_low a.row.permission h.permission, permission_high a.row.permission h.permission);
      writable = w;
    }
