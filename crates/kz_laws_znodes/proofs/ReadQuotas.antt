-- The quotas and credentials that are read, each by rising key, with values in range.
use Rattle.std.proofs.Common.{◌≡◌, ◌⊎◌, ℕ, zero, suc, ◌/◌, ◌%◌, ◌==◌, nat_le, ℤ, pos, Bool, true, false, ◌&&◌, List, [], ◌∷◌, length, Option, Some, None, Result, Ok, Err, Less, refl, sym, ap, ◌∙◌, subst, inl, inr, arith, codes}
use Rattle.std.specs.Prelude.{⊤, IfSome, int_lt, option_and_then, if◌then◌else◌, bytes_eq}
use Rattle.std.specs.Ordering.{int_cmp}
use Rattle.std.specs.List.{slice_split}
use Rattle.std.specs.Result.{result_ok}
use Rattle.std.proofs.lemmas.Bool.{and_from, le-leb}
use Rattle.std.proofs.lemmas.Option.{IfSome_then}
use Rattle.std.proofs.lemmas.Int.{ints}
use Rattle.kz_types.specs.Numbers.{canonical}
use Rattle.kz_types.specs.Quotas.{is_quota}
use Rattle.kz_spec_data.specs.Quotas.{Numeral, numeral_of, digits_of, scale_of, in_millionths, quota_of_millionths, quota_of_numeral, quota_of}
use Rattle.kz_types.proofs.NumberLemmas.{bytes_eq-true}
use Rattle.kz_types.specs.declared.row.QuotaValue.{QuotaValue}
use Rattle.kz_types.specs.declared.row.ScramRow.{ScramRow}
use Rattle.kz_types.specs.declared.bodies.Pair.{Pair}
use Rattle.kz_types.specs.declared.bodies.QuotaRow.{QuotaRow}
use Rattle.kz_types.specs.declared.bodies.ScramPair.{ScramPair}
use Rattle.kz_types.specs.declared.fault.BodyFault.{BodyFault}
use Rattle.kz_types.specs.declared.fault.BodyFault.TheVariants as fault
use Rattle.kz_types.specs.declared.value_fault.QuotaFault.{QuotaFault}
use Rattle.kz_types.specs.declared.value_fault.QuotaFault.TheVariants.{TooLarge}
use Rattle.kz_types.specs.declared.key.EntityKey.{EntityKey}
use Rattle.kz_types.specs.declared.key.EntityKey.TheVariants as key
use Rattle.kz_types.specs.Order.{bytes_cmp}
use Rattle.kz_types.specs.Ordered.{Rises, RisesAbove}
use Rattle.kz_types.proofs.Order.{bytes_order}
use Rattle.kz_spec_data.specs.Credentials.{Entries, quota_keys, mechanism_of, mechanism_name, credential_key, value_of, bytes_of, credential_of, iterations_of, credential_of_pieces, credential_entry, quota_entry, entry_by, entry_of, entries_of_both, both, entries_of}
use Rattle.kz_types.specs.Paths.{is_among}
use Rattle.kz_spec_data.specs.Metadata.{key_of_quota, mechanism_of_pair}
use Rattle.kz_laws_values.specs.Readable.{IsBelow, AreRising}
use Rattle.kz_laws_znodes.proofs.Sorted.{if_mapped, if_any}
use Rattle.kz_laws_znodes.proofs.ReadForms.{Holds, if_either}

-- A quota that this entity may have.
pub record IsQuotaRead (k : EntityKey) (q : QuotaRow) : Type 0 where
  pub named : is_among (quota_keys k) q.key ≡ true
  pub valued : is_quota q.value ≡ true

-- a mechanism
abbrev pub IsMechanism : ℤ → Type 0
IsMechanism m = (m ≡ pos 1) ⊎ (m ≡ pos 2)

-- A credential that this entity may have.
pub record IsScramRead (k : EntityKey) (s : ScramPair) : Type 0 where
  pub user : List ℕ
  pub owned : k ≡ key.User (Some user)
  pub mechanism : IsMechanism s.mechanism
  pub iterated : int_lt s.value.iterations (pos 1) ≡ false

abbrev pub AreQuotasRead : EntityKey → List QuotaRow → Type 0
AreQuotasRead k [] = ⊤
AreQuotasRead k (q ∷ qs) = IsQuotaRead k q × AreQuotasRead k qs

abbrev pub AreScramsRead : EntityKey → List ScramPair → Type 0
AreScramsRead k [] = ⊤
AreScramsRead k (s ∷ ss) = IsScramRead k s × AreScramsRead k ss

-- The quotas and credentials of an entity, each by rising key.
pub record IsQuotaBodyRead (k : EntityKey) (quotas : List QuotaRow) (scrams : List ScramPair) : Type 0 where
  pub quotas_are : AreQuotasRead k quotas
  pub scrams_are : AreScramsRead k scrams
  pub quotas_rise : Rises bytes_cmp key_of_quota quotas
  pub scrams_rise : Rises int_cmp mechanism_of_pair scrams

-- What members say of an entity, and that it stands above what is below them.
pub record AreEntriesOf (k : EntityKey) (pairs : List Pair) (e : Entries) : Type 0 where
  pub body : IsQuotaBodyRead k e.quotas e.scrams
  pub quotas_above : (name : List ℕ) → IsBelow name pairs → RisesAbove bytes_cmp key_of_quota name e.quotas
  pub scrams_above : (m : ℤ) → IsMechanism m → IsBelow (mechanism_name m) pairs → RisesAbove int_cmp mechanism_of_pair m e.scrams

-- what one member says
abbrev IsEntryOf : EntityKey → Pair → Entries → Type 0
IsEntryOf k pair e =
    ((q : QuotaRow) × (e ≡ record { quotas = q ∷ []; scrams = [] }) × (q.key ≡ pair.name) × IsQuotaRead k q)
    ⊎ ((s : ScramPair) × (e ≡ record { quotas = []; scrams = s ∷ [] }) × (mechanism_name s.mechanism ≡ pair.name) × IsScramRead k s)

scaled_quota : (n : ℕ) → is_quota (record { whole = pos (n / 1000000); micros = pos (n % 1000000) }) ≡ true
scaled_quota n = and_from (nat_le 0 (n / 1000000) && nat_le 0 (n % 1000000)) (nat_le (n % 1000000) 999999)
    (and_from (nat_le 0 (n / 1000000)) (nat_le 0 (n % 1000000)) (le-leb 0 (n / 1000000) (omega arith)) (le-leb 0 (n % 1000000) (omega arith)))
    (le-leb (n % 1000000) 999999 (omega arith))

millionths_hold : (o : Option ℕ) → Holds (λ v. is_quota v ≡ true) (quota_of_millionths o)
millionths_hold None = tt
millionths_hold (Some n) = by (nat_le (n / 1000000) 9223372036854775807)
  where
    by : (t : Bool) → Holds (λ v. is_quota v ≡ true) (if t then Ok (record { whole = pos (n / 1000000); micros = pos (n % 1000000) }) else Err TooLarge)
    by true = scaled_quota n
    by false = tt

numeral_holds : (r : Result Numeral ℕ) → Holds (λ v. is_quota v ≡ true) (quota_of_numeral r)
numeral_holds (Err at) = tt
numeral_holds (Ok n) = millionths_hold (in_millionths (digits_of n) (scale_of n))

quota_holds : (text : List ℕ) → Holds (λ v. is_quota v ≡ true) (quota_of text)
unfolding quota_of
quota_holds text = numeral_holds (numeral_of text)

quota_entry_holds : (k : EntityKey) (pair : Pair) → is_among (quota_keys k) pair.name ≡ true → (r : Result QuotaValue QuotaFault) → Holds (λ v. is_quota v ≡ true) r → Holds (IsEntryOf k pair) (quota_entry pair.name (result_ok r))
quota_entry_holds k pair named (Err e) h = tt
quota_entry_holds k pair named (Ok v) h = inl (record { key = pair.name; value = v }, refl, refl, record { named = named; valued = h })

is_iterated : (n : ℕ) → (n == 0) ≡ false → int_lt (pos n) (pos 1) ≡ false
is_iterated zero e = absurd (cc)
is_iterated (suc n) e = grind (arith, ints)

iterations_hold : (pieces : List (List ℕ)) → IfSome (iterations_of pieces) (λ n. int_lt n (pos 1) ≡ false)
iterations_hold pieces = if_any (λ n. int_lt n (pos 1) ≡ false) (λ n. if n == 0 then None else Some (pos n)) (option_and_then canonical (value_of (codes "iterations") pieces)) (λ n. by n (n == 0) refl)
  where
    by : (n : ℕ) (t : Bool) → (n == 0) ≡ t → IfSome (if t then None else Some (pos n)) (λ n. int_lt n (pos 1) ≡ false)
    by n true e = tt
    by n false e = is_iterated n e

abbrev IsIterated : ScramRow → Type 0
IsIterated row = int_lt row.iterations (pos 1) ≡ false

pieces_hold : (pieces : List (List ℕ)) → IfSome (credential_of_pieces pieces) IsIterated
pieces_hold pieces =
    if_any IsIterated _ (bytes_of (codes "salt") pieces) (λ salt.
    if_any IsIterated _ (bytes_of (codes "stored_key") pieces) (λ stored_key.
    if_any IsIterated _ (bytes_of (codes "server_key") pieces) (λ server_key.
    if_mapped (λ n. int_lt n (pos 1) ≡ false) IsIterated (λ iterations. record { salt = salt; stored_key = stored_key; server_key = server_key; iterations = iterations }) (iterations_of pieces) (λ n h. h) (iterations_hold pieces))))

credential_holds : (text : List ℕ) → IfSome (credential_of text) IsIterated
unfolding credential_of
credential_holds text = if_either IsIterated (length (slice_split (λ b. b == 44) text) == 4) (credential_of_pieces (slice_split (λ b. b == 44) text)) None (pieces_hold (slice_split (λ b. b == 44) text)) tt

mechanism_holds : (name : List ℕ) → IfSome (mechanism_of name) (λ m. (mechanism_name m ≡ name) × IsMechanism m)
mechanism_holds name =
    by (bytes_eq name (codes "SCRAM-SHA-256")) (bytes_eq name (codes "SCRAM-SHA-512")) refl refl
  where
    by : (one two : Bool) → bytes_eq name (codes "SCRAM-SHA-256") ≡ one → bytes_eq name (codes "SCRAM-SHA-512") ≡ two
        → IfSome (if one then Some (pos 1) else if two then Some (pos 2) else None) (λ m. (mechanism_name m ≡ name) × IsMechanism m)
    by true two e f = (sym (bytes_eq-true name (codes "SCRAM-SHA-256") e), inl refl)
    by false true e f = (sym (bytes_eq-true name (codes "SCRAM-SHA-512") f), inr refl)
    by false false e f = tt

-- the key of a credential is that of a user with a name
abbrev IsCredentialKey : EntityKey → List ℕ → ℤ → Type 0
IsCredentialKey k name m = (u : List ℕ) × (k ≡ key.User (Some u)) × (mechanism_name m ≡ name) × IsMechanism m

credential_key_holds : (k : EntityKey) (name : List ℕ) → IfSome (credential_key k name) (IsCredentialKey k name)
credential_key_holds (key.Topic topic) name = tt
credential_key_holds (key.Partition topic partition) name = tt
credential_key_holds (key.TopicConfig topic) name = tt
credential_key_holds (key.BrokerConfig broker) name = tt
credential_key_holds (key.Client client) name = tt
credential_key_holds (key.User None) name = tt
credential_key_holds (key.User (Some user)) name = IfSome_then (mechanism_of name) (mechanism_holds name) (λ m h. (user, refl, h.0, h.1))
credential_key_holds (key.UserClient user client) name = tt
credential_key_holds (key.Ip address) name = tt
credential_key_holds (key.Acl pattern kind resource) name = tt
credential_key_holds key.Producer name = tt

credential_entry_holds : (k : EntityKey) (pair : Pair) (m : ℤ) → IsCredentialKey k pair.name m → (o : Option ScramRow) → IfSome o IsIterated → Holds (IsEntryOf k pair) (credential_entry pair.name m o)
credential_entry_holds k pair m is None h = tt
credential_entry_holds k pair m is (Some row) h = inr (record { mechanism = m; value = row }, refl, is.2, record { user = is.0; owned = is.1; mechanism = is.3; iterated = h })

entry_by_holds : (k : EntityKey) (pair : Pair) (o : Option ℤ) → IfSome o (IsCredentialKey k pair.name) → Holds (IsEntryOf k pair) (entry_by k pair o)
entry_by_holds k pair (Some m) is = credential_entry_holds k pair m is (credential_of pair.value) (credential_holds pair.value)
entry_by_holds k pair None is = by (is_among (quota_keys k) pair.name) refl
  where
    by : (t : Bool) → is_among (quota_keys k) pair.name ≡ t → Holds (IsEntryOf k pair) (if t then quota_entry pair.name (result_ok (quota_of pair.value)) else Err (fault.UnknownKey pair.name))
    by true e = quota_entry_holds k pair e (quota_of pair.value) (quota_holds pair.value)
    by false e = tt

entry_holds : (k : EntityKey) (pair : Pair) → Holds (IsEntryOf k pair) (entry_of k pair)
entry_holds k pair = entry_by_holds k pair (credential_key k pair.name) (credential_key_holds k pair.name)

-- the mechanisms rise as their names
same_key : (bs : List ℕ) → bytes_cmp bs bs ≡ Less → ⊥
same_key bs less = let same = bytes_order.itself bs in cc

falls : bytes_cmp (codes "SCRAM-SHA-512") (codes "SCRAM-SHA-256") ≡ Less → ⊥
falls less = cc

mechanisms_rise : (m n : ℤ) → IsMechanism m → IsMechanism n → bytes_cmp (mechanism_name m) (mechanism_name n) ≡ Less → int_cmp m n ≡ Less
mechanisms_rise m n (inl a) (inl b) less = absurd (same_key (codes "SCRAM-SHA-256") (subst (λ x. bytes_cmp (mechanism_name x) (codes "SCRAM-SHA-256") ≡ Less) a (subst (λ x. bytes_cmp (mechanism_name m) (mechanism_name x) ≡ Less) b less)))
mechanisms_rise m n (inl a) (inr b) less = ap (λ x. int_cmp x n) a ∙ ap (int_cmp (pos 1)) b
mechanisms_rise m n (inr a) (inl b) less = absurd (falls (subst (λ x. bytes_cmp (mechanism_name x) (codes "SCRAM-SHA-256") ≡ Less) a (subst (λ x. bytes_cmp (mechanism_name m) (mechanism_name x) ≡ Less) b less)))
mechanisms_rise m n (inr a) (inr b) less = absurd (same_key (codes "SCRAM-SHA-512") (subst (λ x. bytes_cmp (mechanism_name x) (codes "SCRAM-SHA-512") ≡ Less) a (subst (λ x. bytes_cmp (mechanism_name m) (mechanism_name x) ≡ Less) b less)))

joined_holds : (k : EntityKey) (pair : Pair) (pairs : List Pair) (a b : Entries) → IsBelow pair.name pairs → IsEntryOf k pair a → AreEntriesOf k pairs b → AreEntriesOf k (pair ∷ pairs) (entries_of_both a b)
joined_holds k pair pairs a b below (inl (q, is, named, h)) rest = subst (λ x. AreEntriesOf k (pair ∷ pairs) (entries_of_both x b)) (sym is) (record {
  body = record {
    quotas_are = (h, rest.body.quotas_are);
    scrams_are = rest.body.scrams_are;
    quotas_rise = rest.quotas_above q.key (subst (λ n. IsBelow n pairs) (sym named) below);
    scrams_rise = rest.body.scrams_rise;
  };
  quotas_above = λ name under. (subst (λ n. bytes_cmp name n ≡ Less) (sym named) under.0, rest.quotas_above q.key (subst (λ n. IsBelow n pairs) (sym named) below));
  scrams_above = λ m is under. rest.scrams_above m is under.1;
})
joined_holds k pair pairs a b below (inr (s, is, named, h)) rest = subst (λ x. AreEntriesOf k (pair ∷ pairs) (entries_of_both x b)) (sym is) (record {
  body = record {
    quotas_are = rest.body.quotas_are;
    scrams_are = (h, rest.body.scrams_are);
    quotas_rise = rest.body.quotas_rise;
    scrams_rise = rest.scrams_above s.mechanism h.mechanism (subst (λ n. IsBelow n pairs) (sym named) below);
  };
  quotas_above = λ name under. rest.quotas_above name under.1;
  scrams_above = λ m is under. (mechanisms_rise m s.mechanism is h.mechanism (subst (λ n. bytes_cmp (mechanism_name m) n ≡ Less) (sym named) under.0), rest.scrams_above s.mechanism h.mechanism (subst (λ n. IsBelow n pairs) (sym named) below));
})

both_hold : (P Q R : Entries → Type 0) (r s : Result Entries BodyFault) → ((a b : Entries) → P a → Q b → R (entries_of_both a b)) → Holds P r → Holds Q s → Holds R (both r s)
both_hold P Q R (Err e) s so h k = tt
both_hold P Q R (Ok a) (Err e) so h k = tt
both_hold P Q R (Ok a) (Ok b) so h k = so a b h k

pub entries_hold : (k : EntityKey) (pairs : List Pair) → AreRising pairs → Holds (AreEntriesOf k pairs) (entries_of k pairs)
unfolding entries_of
entries_hold k [] r = record { body = record { quotas_are = tt; scrams_are = tt; quotas_rise = tt; scrams_rise = tt }; quotas_above = λ name under. tt; scrams_above = λ m is under. tt }
entries_hold k (pair ∷ pairs) r =
    both_hold (IsEntryOf k pair) (AreEntriesOf k pairs) (AreEntriesOf k (pair ∷ pairs)) (entry_of k pair) (entries_of k pairs)
    (λ a b one rest. joined_holds k pair pairs a b r.0 one rest) (entry_holds k pair) (entries_hold k pairs r.1)
