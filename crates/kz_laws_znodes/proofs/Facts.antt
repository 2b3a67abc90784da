-- What is known of the keys of entries in order.
use Rattle.std.proofs.Common.{◌≡◌, ℕ, zero, suc, ℤ, pos, ◌+◌, ◌<◌, not, Bool, true, false, ◌&&◌, ◌||◌, List, [], ◌∷◌, ◌++◌, length, get_or, Option, Some, None, is_some, Contains, All, refl, sym, ap, ◌∙◌, subst, arith, codes, append_assoc}
use Rattle.std.specs.Prelude.{if◌then◌else◌}
use Rattle.std.specs.Str.{IsUtf8}
use Rattle.std.specs.List.{list_all}
use Rattle.std.specs.Ordering.{int_eq}
use Rattle.std.proofs.Math.Seq.{drop-append-add, get_or-append_seam}
use Rattle.std.proofs.lemmas.Bool.{false≢true, and_parts, and_from}
use Rattle.std.proofs.lemmas.List.{length-append}
use Rattle.std.proofs.lemmas.List.Elements.{All-contains, All-head}
use Rattle.std.proofs.lemmas.Str.{is_utf8-from_IsUtf8, IsUtf8-from_ascii, IsUtf8-drop, IsCharBoundary-after_ascii}
use Rattle.kz_types.specs.declared.bodies.ScramPair.{ScramPair}
use Rattle.kz_types.specs.declared.image.PartitionEntry.{PartitionEntry}
use Rattle.kz_types.specs.declared.image.TopicEntry.{TopicEntry}
use Rattle.kz_types.specs.declared.image.QuotaEntry.{QuotaEntry}
use Rattle.kz_types.specs.declared.image.ScramEntry.{ScramEntry}
use Rattle.kz_types.specs.declared.image.AclEntry.{AclEntry}
use Rattle.kz_types.specs.declared.key.EntityKey.{EntityKey}
use Rattle.kz_types.specs.declared.key.EntityKey.TheVariants as key
use Rattle.kz_types.specs.PathRule.{is_part}
use Rattle.kz_types.specs.Paths.{is_topic_name, is_topic_byte, is_not_negative, is_not_empty, resource_type_name, is_pattern, is_resource_type, is_legal, has_path, key_of, path_of}
use Rattle.kz_types.proofs.KeyLemmas.{path_of_key_of}
use Rattle.kz_types.proofs.PathRules.{path_is_text}
use Rattle.kz_spec_data.specs.Metadata.{Image}
use Rattle.kz_spec_data.specs.ImageRules.{is_resource, are_codes}
use Rattle.kz_spec_data.specs.InOrder.{IsTopicInOrder, IsQuotaFilled, IsUserFilled, is_below_quota_root, IsInOrder}
use Rattle.kz_spec_data.specs.Legal.{IsPartition, IsTopic, IsScramOf, IsScramEntry, IsAcl}
use Rattle.kz_spec_data.specs.Rendering.{acl_key}
use Rattle.kz_laws_values.specs.TextKeys.{IsText, IsSmall}
use Rattle.kz_laws_values.proofs.Legal.{IsGoodKey}
use Rattle.kz_laws_values.proofs.Texts.{key_good}
use Rattle.kz_laws_znodes.specs.RoundTrip.{FitsInt}
use Rattle.kz_laws_znodes.proofs.Held.{has_quotas}
use Rattle.kz_laws_znodes.proofs.QuotaFacts.{user_parts}
use Rattle.kz_laws_znodes.specs.Lookups.{AreKeysRead}

-- ---- texts

topic_byte : (b : ℕ) → is_topic_byte b ≡ true → b < 128
topic_byte b h = grind (arith)

topic_bytes : (name : List ℕ) → is_topic_name name ≡ true → list_all is_topic_byte name ≡ true
unfolding is_topic_name
topic_bytes name h = (and_parts _ _ (and_parts _ _ (and_parts _ _ h).0).0).1

ascii_bytes : (name : List ℕ) → list_all is_topic_byte name ≡ true → (k : ℕ) → get_or name k 0 < 128
ascii_bytes [] h k = omega arith
ascii_bytes (b ∷ bs) h zero = topic_byte b (and_parts (is_topic_byte b) (list_all is_topic_byte bs) h).0
ascii_bytes (b ∷ bs) h (suc k) = ascii_bytes bs (and_parts (is_topic_byte b) (list_all is_topic_byte bs) h).1 k

-- the name of a topic is a text
pub topic_text : (name : List ℕ) → is_topic_name name ≡ true → IsText name
topic_text name h = is_utf8-from_IsUtf8 name (IsUtf8-from_ascii name (ascii_bytes name (topic_bytes name h)))

-- what stands after a slash in a text is a text
text_after : (front name : List ℕ) → IsUtf8 (front ++ 47 ∷ name) → IsText name
text_after front name text =
    let whole : List ℕ = front ++ 47 ∷ name in
    let within : length front < length whole = omega (arith, length-append front (47 ∷ name)) in
    let slash : get_or whole (length front) 0 ≡ 47 = get_or-append_seam front 47 name 0 in
    let ascii : get_or whole (length front) 0 < 128 = omega (arith, slash) in
    is_utf8-from_IsUtf8 name (subst IsUtf8 (drop-append-add front (47 ∷ name) 1) (IsUtf8-drop whole (length front + 1) text (IsCharBoundary-after_ascii whole (length front) text within ascii)))

-- ---- keys

acl_text : (pattern kind : ℤ) (name : List ℕ) → has_path (key.Acl pattern kind name) ≡ true → IsText name
unfolding path_of has_path
acl_text pattern kind name fits =
    let begin : List ℕ = if int_eq pattern (pos 3) then codes "/kafka-acl/" else codes "/kafka-acl-extended/prefixed/" in
    text_after (begin ++ resource_type_name kind) name (subst IsUtf8 (sym (append_assoc begin (resource_type_name kind) (codes "/" ++ name))) (path_is_text (begin ++ (resource_type_name kind ++ (codes "/" ++ name))) fits))

acl_is_good : (pattern kind : ℤ) (name : List ℕ) → is_resource kind pattern name ≡ true → are_codes kind pattern ≡ true → IsGoodKey (key.Acl pattern kind name)
unfolding is_legal
acl_is_good pattern kind name h c =
    let a = and_parts (is_part name) (not (are_codes kind pattern) || has_path (key.Acl pattern kind name)) h in
    let b = and_parts (is_resource_type kind) (is_pattern pattern) c in
    let fits : has_path (key.Acl pattern kind name) ≡ true = sym (ap (λ t. not t || has_path (key.Acl pattern kind name)) c) ∙ a.1 in
    (and_from (is_pattern pattern && is_resource_type kind) (is_part name) (and_from (is_pattern pattern) (is_resource_type kind) b.1 b.0) a.0, acl_text pattern kind name fits)

user_is_good : (name : List ℕ) → is_not_empty name ≡ true → IsText name → IsGoodKey (key.User (Some name))
unfolding is_legal
user_is_good name some text = (some, text)

-- an entity at a path of quotas may have some
kind_at : (k : EntityKey) → is_below_quota_root (path_of k) ≡ true → has_quotas k ≡ true
unfolding path_of
kind_at (key.Topic name) h = absurd (false≢true h)
kind_at (key.Partition topic number) h = absurd (false≢true h)
kind_at (key.TopicConfig name) h = absurd (false≢true h)
kind_at (key.BrokerConfig broker) h = absurd (false≢true h)
kind_at (key.Client client) h = refl
kind_at (key.User user) h = refl
kind_at (key.UserClient user client) h = refl
kind_at (key.Ip address) h = refl
kind_at (key.Acl pattern kind name) h = by (int_eq pattern (pos 3)) h
  where
    by : (t : Bool) → is_below_quota_root ((if t then codes "/kafka-acl/" else codes "/kafka-acl-extended/prefixed/") ++ (resource_type_name kind ++ (codes "/" ++ name))) ≡ true → false ≡ true
    by true h = h
    by false h = h
kind_at key.Producer h = absurd (false≢true h)

module _ (i : Image) (o : IsInOrder i) where
  -- ---- topics

  pub topic_legal : (t : TopicEntry) → Contains i.topics t → IsTopic t
  topic_legal t has = All-contains IsTopic i.topics t o.legal.topics.each has

  pub topic_order : (t : TopicEntry) → Contains i.topics t → IsTopicInOrder t
  topic_order t has = All-contains IsTopicInOrder i.topics t o.topics.within has

  pub number_low : (t : TopicEntry) (q : PartitionEntry) → Contains i.topics t → Contains t.partitions q → is_not_negative q.number ≡ true
  number_low t q has within = (All-contains IsPartition t.partitions q (topic_legal t has).each_partition within).0

  -- ---- quotas

  pub quota_placed : (q : QuotaEntry) (k : EntityKey) → Contains i.quotas q → key_of q.path ≡ Some k → path_of k ≡ q.path
  quota_placed q k has is = path_of_key_of q.path k (All-contains IsQuotaFilled i.quotas q o.quotas.filled has).2 is

  pub quota_good : (q : QuotaEntry) (k : EntityKey) → Contains i.quotas q → key_of q.path ≡ Some k → IsGoodKey k
  quota_good q k has is = key_good q.path k (All-contains IsQuotaFilled i.quotas q o.quotas.filled has).2 is

  pub quota_kind : (q : QuotaEntry) (k : EntityKey) → Contains i.quotas q → key_of q.path ≡ Some k → has_quotas k ≡ true
  quota_kind q k has is = kind_at k (ap is_below_quota_root (quota_placed q k has is) ∙ (All-contains IsQuotaFilled i.quotas q o.quotas.filled has).3)

  -- ---- access control entries

  pub acl_good : (a : AclEntry) → Contains i.acls a → IsGoodKey (acl_key a.row)
  acl_good a has = let legal = All-contains IsAcl i.acls a o.legal.acls has in acl_is_good a.row.pattern a.row.kind a.row.name legal.resource legal.codes

  module _ (r : AreKeysRead i) where
    pub number_small : (t : TopicEntry) (q : PartitionEntry) → Contains i.topics t → Contains t.partitions q → IsSmall q.number
    number_small t q has within =
        All-contains (λ (p : PartitionEntry). FitsInt p.number) t.partitions q (All-contains (λ (t : TopicEntry). All (λ (p : PartitionEntry). FitsInt p.number) t.partitions) i.topics t r.numbers has) within

    -- the key of an entry of quotas
    pub quota_read : (q : QuotaEntry) → Contains i.quotas q → (k : EntityKey) × (key_of q.path ≡ Some k)
    quota_read q has = by (key_of q.path) refl (All-contains (λ (x : QuotaEntry). is_some (key_of x.path) ≡ true) i.quotas q r.quotas has)
      where
        by : (k : Option EntityKey) → key_of q.path ≡ k → is_some k ≡ true → (k : EntityKey) × (key_of q.path ≡ Some k)
        by None e h = absurd (false≢true h)
        by (Some k) e h = (k, e)

    pub user_good : (u : ScramEntry) → Contains i.users u → IsGoodKey (key.User (Some u.name))
    user_good u has =
        let filled = All-contains IsUserFilled i.users u o.users.filled has in
        user_is_good u.name (named u.scrams filled.0 (All-contains IsScramEntry i.users u o.legal.users has)) (All-contains (λ (x : ScramEntry). IsText x.name) i.users u r.users has)
      where
        named : (scrams : List ScramPair) → 0 < length scrams → All (IsScramOf u.name) scrams → is_not_empty u.name ≡ true
        named [] some all = absurd (omega (arith, some))
        named (s ∷ ss) some all = (user_parts u.name (All-head (IsScramOf u.name) s ss all).0).0
