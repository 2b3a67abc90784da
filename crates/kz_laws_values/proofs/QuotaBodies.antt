-- Quotas and credentials are read as they were written.
use Rattle.std.proofs.Common.{◌≡◌, ℕ, Bool, true, false, ◌||◌, List, [], ◌∷◌, ◌++◌, Some, None, Ok, refl, sym, ap, subst, ◌∙◌, arith, codes, pos, Less}
use Rattle.std.specs.Prelude.{⊤, map, bytes_eq, int_le, Err, if◌then◌else◌}
use Rattle.std.specs.Ordering.{match_ordering}
use Rattle.std.specs.Result.{result_ok}
use Rattle.std.proofs.lemmas.Int.{ints}
use Rattle.serde_json.specs.Data.{Data, string, object, Members, no_members, member, put}
use Rattle.serde_json.specs.Written.{compact_text}
use Rattle.kz_types.specs.Paths.{is_among}
use Rattle.kz_types.proofs.NumberLemmas.{bytes_eq-true}
use Rattle.kz_laws_values.proofs.QuotaTexts.{quota_restored, quota_is_text}
use Rattle.kz_types.specs.declared.bodies.Pair.{Pair}
use Rattle.kz_types.specs.declared.bodies.QuotaRow.{QuotaRow}
use Rattle.kz_types.specs.declared.bodies.ScramPair.{ScramPair}
use Rattle.kz_types.specs.declared.bodies.Body.TheVariants as body
use Rattle.kz_types.specs.declared.fault.BodyFault.TheVariants.{UnknownKey}
use Rattle.kz_types.specs.declared.key.EntityKey.{EntityKey}
use Rattle.kz_types.specs.declared.key.EntityKey.TheVariants.{Topic, Partition, TopicConfig, BrokerConfig, Client, User, UserClient, Ip, Acl, Producer}
use Rattle.kz_types.specs.Order.{bytes_cmp}
use Rattle.kz_types.proofs.Order.{bytes_order, cmp_greater}
use Rattle.kz_spec_data.specs.Credentials.{client_keys, quota_keys, mechanism_of, mechanism_name, credential_key, credential_entry, quota_entry, entry_by, entry_of, entries_of, both, quota_pair, credential_pair}
use Rattle.kz_spec_data.specs.Bodies.{then_read, with_texts, pairs_of, quota_of_data, body_of, read_body, text_of_body, is_of_kind}
use Rattle.kz_laws_values.specs.Readable.{IsText, AreTexts, IsBelow, AreRising, IsQuota, AreQuotas, IsCredential, AreCredentials, IsQuotaBody}
use Rattle.kz_laws_values.proofs.Plain.{IsPlain, object_says, whole_is_plain, word}
use Rattle.kz_laws_values.proofs.Credentials.{credential_is, credential_is_text}
use Rattle.kz_laws_values.proofs.Configs.{after, after_after, AreBelow, texts_members, AreAllBelow, all_below_after, none_below, written_texts, puts_texts, texts_plain, texts_read, config_members}

-- ---- names

-- a text that is no mechanism's name, and is above these
abbrev IsQuotaName : List ℕ → Type 0
IsQuotaName name = (mechanism_of name ≡ None) × IsText name × (bytes_cmp (codes "SCRAM-SHA-256") name ≡ Less) × (bytes_cmp (codes "SCRAM-SHA-512") name ≡ Less)

abbrev AreQuotaNames : List (List ℕ) → Type 0
AreQuotaNames [] = ⊤
AreQuotaNames (name ∷ names) = IsQuotaName name × AreQuotaNames names

one_among : (names : List (List ℕ)) (name : List ℕ) → AreQuotaNames names → is_among names name ≡ true → IsQuotaName name
one_among [] name h is = absurd (cc)
one_among (other ∷ names) name h is = by (bytes_eq name other) refl is (one_among names name h.1)
  where
    by : (t : Bool) → bytes_eq name other ≡ t → t || is_among names name ≡ true → (is_among names name ≡ true → IsQuotaName name) → IsQuotaName name
    by true e k rest = subst IsQuotaName (sym (bytes_eq-true name other e)) h.0
    by false e k rest = rest k

client_names : AreQuotaNames client_keys
client_names = (
  (refl, word (codes "producer_byte_rate") refl, refl, refl),
  (
    (refl, word (codes "consumer_byte_rate") refl, refl, refl),
    ((refl, word (codes "request_percentage") refl, refl, refl), ((refl, word (codes "controller_mutation_rate") refl, refl, refl), tt)),
  ),
)

quota_names : (key : EntityKey) → AreQuotaNames (quota_keys key)
quota_names (Topic name) = tt
quota_names (Partition topic number) = tt
quota_names (TopicConfig name) = tt
quota_names (BrokerConfig broker) = tt
quota_names (Client client) = client_names
quota_names (User user) = client_names
quota_names (UserClient user client) = client_names
quota_names (Ip address) = ((refl, word (codes "connection_creation_rate") refl, refl, refl), tt)
quota_names (Acl pattern kind name) = tt
quota_names Producer = tt

quota_name : (key : EntityKey) (row : QuotaRow) → IsQuota key row → IsQuotaName row.key
quota_name key row h = one_among (quota_keys key) row.key (quota_names key) h.name_is

no_mechanism : (key : EntityKey) (name : List ℕ) → mechanism_of name ≡ None → credential_key key name ≡ None
no_mechanism (Topic topic) name h = refl
no_mechanism (Partition topic number) name h = refl
no_mechanism (TopicConfig topic) name h = refl
no_mechanism (BrokerConfig broker) name h = refl
no_mechanism (Client client) name h = refl
no_mechanism (User None) name h = refl
no_mechanism (User (Some user)) name h = h
no_mechanism (UserClient user client) name h = refl
no_mechanism (Ip address) name h = refl
no_mechanism (Acl pattern kind resource) name h = refl
no_mechanism Producer name h = refl

mechanism_text : (small : Bool) → IsText (if small then codes "SCRAM-SHA-256" else codes "SCRAM-SHA-512")
mechanism_text true = word (codes "SCRAM-SHA-256") refl
mechanism_text false = word (codes "SCRAM-SHA-512") refl

mechanism_below : (small : Bool) (name : List ℕ) → IsQuotaName name → bytes_cmp (if small then codes "SCRAM-SHA-256" else codes "SCRAM-SHA-512") name ≡ Less
mechanism_below true name h = h.2
mechanism_below false name h = h.3

-- ---- members

-- a member between others
put_between : (k : List ℕ) (d : Data) (found : Members) (pairs : List Pair) → AreBelow found k → IsBelow k pairs → put k d (after found (texts_members pairs)) ≡ after found (member k d (texts_members pairs))
put_between k d no_members [] h less = refl
put_between k d no_members (pair ∷ pairs) h less =
    ap (λ r. match_ordering r (member k d (texts_members (pair ∷ pairs))) (member pair.name d (texts_members pairs)) (member pair.name (string pair.value) (put k d (texts_members pairs)))) less.0
put_between k d (member l e ms) pairs h less =
    ap (λ r. match_ordering r (member k d (member l e (after ms (texts_members pairs)))) (member l d (after ms (texts_members pairs))) (member l e (put k d (after ms (texts_members pairs))))) (cmp_greater bytes_order k l h.0)
    ∙ ap (member l e) (put_between k d ms pairs h.1 less)

-- each name of the first is below those of the second
abbrev AreUnder : List Pair → List Pair → Type 0
AreUnder [] pairs = ⊤
AreUnder (pair ∷ more) pairs = IsBelow pair.name pairs × AreUnder more pairs

texts_between : (found : Members) (first second : List Pair) → AreAllBelow found first → AreRising first → AreUnder first second
    → with_texts (after found (texts_members second)) first ≡ after found (texts_members (first ++ second))
texts_between found [] second h r u = refl
texts_between found (pair ∷ first) second h r u =
    ap (λ ms. with_texts ms first)
    (put_between pair.name (string pair.value) found second h.0 u.0 ∙ sym (after_after found (member pair.name (string pair.value) no_members) (texts_members second)))
    ∙ texts_between (after found (member pair.name (string pair.value) no_members)) first second (all_below_after found pair.name (string pair.value) first h.1 r.0) r.1 u.1
    ∙ after_after found (member pair.name (string pair.value) no_members) (texts_members (first ++ second))

texts_twice : (ms : Members) (first second : List Pair) → with_texts ms (first ++ second) ≡ with_texts (with_texts ms first) second
texts_twice ms [] second = refl
texts_twice ms (pair ∷ first) second = texts_twice (put pair.name (string pair.value) ms) first second

below_both : (name : List ℕ) (first second : List Pair) → IsBelow name first → IsBelow name second → IsBelow name (first ++ second)
below_both name [] second h k = k
below_both name (pair ∷ first) second h k = (h.0, below_both name first second h.1 k)

both_rise : (first second : List Pair) → AreRising first → AreRising second → AreUnder first second → AreRising (first ++ second)
both_rise [] second r s u = s
both_rise (pair ∷ first) second r s u = (below_both pair.name first second r.0 u.0, both_rise first second r.1 s u.1)

both_texts : (first second : List Pair) → AreTexts first → AreTexts second → AreTexts (first ++ second)
both_texts [] second t s = s
both_texts (pair ∷ first) second t s = (t.0, t.1, both_texts first second t.2 s)

-- ---- the pairs that are written

quota_texts : (key : EntityKey) (rows : List QuotaRow) → AreQuotas key rows → AreTexts (map quota_pair rows)
quota_texts key [] h = tt
quota_texts key (row ∷ rows) h = ((quota_name key row h.0).1, quota_is_text row.value h.0.value_is h.0.whole_fits, quota_texts key rows h.1)

credential_texts : (key : EntityKey) (pairs : List ScramPair) → AreCredentials key pairs → AreTexts (map credential_pair pairs)
credential_texts key [] h = tt
credential_texts key (pair ∷ pairs) h = (mechanism_text (int_le pair.mechanism (pos 1)), credential_is_text pair.value h.0.value_is, credential_texts key pairs h.1)

name_below : (key : EntityKey) (pair : ScramPair) (rows : List QuotaRow) → AreQuotas key rows → IsBelow (mechanism_name pair.mechanism) (map quota_pair rows)
name_below key pair [] h = tt
name_below key pair (row ∷ rows) h = (mechanism_below (int_le pair.mechanism (pos 1)) row.key (quota_name key row h.0), name_below key pair rows h.1)

credentials_under : (key : EntityKey) (pairs : List ScramPair) (rows : List QuotaRow) → AreQuotas key rows → AreUnder (map credential_pair pairs) (map quota_pair rows)
credentials_under key [] rows h = tt
credentials_under key (pair ∷ pairs) rows h = (name_below key pair rows h, credentials_under key pairs rows h)

-- ---- what they say

quota_read : (key : EntityKey) (row : QuotaRow) → IsQuota key row → entry_of key (quota_pair row) ≡ Ok (record { quotas = row ∷ []; scrams = [] })
quota_read key row h =
    ap (entry_by key (quota_pair row)) (no_mechanism key row.key (quota_name key row h).0)
    ∙ (λ i. if h.name_is i then quota_entry row.key (result_ok (quota_restored row.value h.value_is h.whole_fits i)) else Err (UnknownKey row.key))

quotas_read : (key : EntityKey) (rows : List QuotaRow) → AreQuotas key rows → entries_of key (map quota_pair rows) ≡ Ok (record { quotas = rows; scrams = [] })
unfolding entries_of
quotas_read key [] h = refl
quotas_read key (row ∷ rows) h = λ i. both (quota_read key row h.0 i) (quotas_read key rows h.1 i)

credential_read : (key : EntityKey) (pair : ScramPair) → IsCredential key pair → entry_of key (credential_pair pair) ≡ Ok (record { quotas = []; scrams = pair ∷ [] })
credential_read key pair h =
    ap (entry_by key (credential_pair pair)) h.mechanism_is ∙ ap (credential_entry (mechanism_name pair.mechanism) pair.mechanism) (credential_is pair.value h.value_is)

all_read : (key : EntityKey) (pairs : List ScramPair) (rows : List QuotaRow) → AreCredentials key pairs → AreQuotas key rows
    → entries_of key (map credential_pair pairs ++ map quota_pair rows) ≡ Ok (record { quotas = rows; scrams = pairs })
unfolding entries_of
all_read key [] rows c q = quotas_read key rows q
all_read key (pair ∷ pairs) rows c q = λ i. both (credential_read key pair c.0 i) (all_read key pairs rows c.1 q i)

-- ---- the whole

abbrev sorted : List QuotaRow → List ScramPair → List Pair
sorted quotas scrams = map credential_pair scrams ++ map quota_pair quotas

members_written : (key : EntityKey) (quotas : List QuotaRow) (scrams : List ScramPair) → IsQuotaBody key quotas scrams
    → with_texts no_members (map quota_pair quotas ++ map credential_pair scrams) ≡ texts_members (sorted quotas scrams)
members_written key quotas scrams h =
    texts_twice no_members (map quota_pair quotas) (map credential_pair scrams)
    ∙ ap (λ ms. with_texts ms (map credential_pair scrams)) (written_texts (map quota_pair quotas) h.quotas_rise)
    ∙ texts_between no_members (map credential_pair scrams) (map quota_pair quotas) (none_below (map credential_pair scrams)) h.scrams_rise (credentials_under key scrams quotas h.quotas_are)

sorted_rise : (key : EntityKey) (quotas : List QuotaRow) (scrams : List ScramPair) → IsQuotaBody key quotas scrams → AreRising (sorted quotas scrams)
sorted_rise key quotas scrams h = both_rise (map credential_pair scrams) (map quota_pair quotas) h.scrams_rise h.quotas_rise (credentials_under key scrams quotas h.quotas_are)

sorted_texts : (key : EntityKey) (quotas : List QuotaRow) (scrams : List ScramPair) → IsQuotaBody key quotas scrams → AreTexts (sorted quotas scrams)
sorted_texts key quotas scrams h = both_texts (map credential_pair scrams) (map quota_pair quotas) (credential_texts key scrams h.scrams_are) (quota_texts key quotas h.quotas_are)

pairs_plain : (pairs : List Pair) → AreTexts pairs → AreRising pairs → IsPlain 3 (object (config_members (texts_members pairs)))
pairs_plain pairs t r = (
  (
    word (codes "config") refl,
    (texts_plain 1 pairs t, puts_texts pairs no_members ∙ written_texts pairs r),
    (word (codes "version") refl, whole_is_plain 2 (pos 1) (omega (arith, ints), omega (arith, ints)), tt),
  ),
  refl,
)

pairs_read : (pairs : List Pair) → pairs_of (object (config_members (texts_members pairs))) ≡ Ok pairs
pairs_read pairs = rw (texts_read pairs) refl

quota_says : (key : EntityKey) (quotas : List QuotaRow) (scrams : List ScramPair) → IsQuotaBody key quotas scrams
    → quota_of_data key (object (config_members (texts_members (sorted quotas scrams)))) ≡ Ok (body.Quota quotas scrams)
quota_says key quotas scrams h =
    ap (λ r. then_read r (λ pairs. then_read (entries_of key pairs) (λ entries. Ok (body.Quota entries.quotas entries.scrams)))) (pairs_read (sorted quotas scrams))
    ∙ ap (λ r. then_read r (λ entries. Ok (body.Quota entries.quotas entries.scrams))) (all_read key scrams quotas h.scrams_are h.quotas_are)

quota_object : (key : EntityKey) (quotas : List QuotaRow) (scrams : List ScramPair) → IsQuotaBody key quotas scrams
    → read_body key (text_of_body (body.Quota quotas scrams)) ≡ body_of key (object (config_members (texts_members (sorted quotas scrams))))
unfolding text_of_body
quota_object key quotas scrams h =
    ap (λ ms. read_body key (compact_text (object (config_members ms)))) (members_written key quotas scrams h)
    ∙ object_says key (config_members (texts_members (sorted quotas scrams))) (pairs_plain (sorted quotas scrams) (sorted_texts key quotas scrams h) (sorted_rise key quotas scrams h))

pub quotas_are_read : (key : EntityKey) (quotas : List QuotaRow) (scrams : List ScramPair) → is_of_kind key (body.Quota quotas scrams) ≡ true → IsQuotaBody key quotas scrams
    → read_body key (text_of_body (body.Quota quotas scrams)) ≡ Ok (body.Quota quotas scrams)
unfolding body_of is_of_kind
quotas_are_read (Client client) quotas scrams kind h = quota_object (Client client) quotas scrams h ∙ quota_says (Client client) quotas scrams h
quotas_are_read (User user) quotas scrams kind h = quota_object (User user) quotas scrams h ∙ quota_says (User user) quotas scrams h
quotas_are_read (UserClient user client) quotas scrams kind h = quota_object (UserClient user client) quotas scrams h ∙ quota_says (UserClient user client) quotas scrams h
quotas_are_read (Ip address) quotas scrams kind h = quota_object (Ip address) quotas scrams h ∙ quota_says (Ip address) quotas scrams h
quotas_are_read (Topic name) quotas scrams kind h = cc kind
quotas_are_read (Partition topic partition) quotas scrams kind h = cc kind
quotas_are_read (TopicConfig name) quotas scrams kind h = cc kind
quotas_are_read (BrokerConfig broker) quotas scrams kind h = cc kind
quotas_are_read (Acl pattern resource name) quotas scrams kind h = cc kind
quotas_are_read Producer quotas scrams kind h = cc kind
