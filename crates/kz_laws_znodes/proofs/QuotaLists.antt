-- The entities that have quotas stay in order when one is set or removed.
use Rattle.std.proofs.Common.{◌≡◌, ℕ, ◌&&◌, Bool, true, false, cond, List, [], Option, Some, None, refl}
use Rattle.std.proofs.lemmas.Bool.{false≢true}
use Rattle.kz_types.specs.PathRule.{is_path}
use Rattle.kz_types.specs.Paths.{path_of, has_path, is_legal, is_among}
use Rattle.kz_types.specs.declared.key.EntityKey.{EntityKey}
use Rattle.kz_types.specs.declared.key.EntityKey.TheVariants as key
use Rattle.kz_types.specs.declared.bodies.QuotaRow.{QuotaRow}
use Rattle.kz_types.specs.declared.image.QuotaEntry.{QuotaEntry}
use Rattle.kz_types.specs.declared.record.ClientQuotaRecord.{ClientQuotaRecord}
use Rattle.kz_types.proofs.PathRules.{both_hold}
use Rattle.kz_types.specs.Order.{bytes_cmp}
use Rattle.kz_types.specs.Ordered.{find, put, without, Rises}
use Rattle.kz_types.proofs.Order.{bytes_order}
use Rattle.kz_types.proofs.Lookup.{Rises-put, Rises-without}
use Rattle.kz_spec_data.specs.Credentials.{quota_keys}
use Rattle.kz_spec_data.specs.Metadata.{path_of_quotas, key_of_quota}
use Rattle.kz_spec_data.specs.ImageRules.{quota_key, has_quota}
use Rattle.kz_spec_data.specs.Image.{quotas_in, with_quota, with_quotas, quota_changed}
use Rattle.kz_spec_data.specs.InOrder.{IsQuotaFilled, AreQuotasInOrder}
use Rattle.kz_spec_data.specs.InOrder.{is_below_quota_root}
use Rattle.kz_laws_znodes.proofs.Entries.{Holds, HasIfFound, found_has, changed_rises, changed_all}

-- ---- whom a quota speaks of

-- a path of an entity with a quota
pub quota_path : (k : EntityKey) (name : List ℕ) → has_quota (Some k) name ≡ true → is_path (path_of k) ≡ true
unfolding has_path
quota_path k name h = (both_hold (is_legal k) (is_path (path_of k)) (both_hold (is_legal k && is_path (path_of k)) (is_among (quota_keys k) name) h).0).1

both_false : (a b : Bool) → a && b ≡ true → (b ≡ true → ⊥) → ⊥
both_false a b h fails = fails (both_hold a b h).1

pub quota_root : (k : EntityKey) (name : List ℕ) → has_quota (Some k) name ≡ true → is_below_quota_root (path_of k) ≡ true
unfolding path_of
quota_root (key.Topic topic) name h = absurd (both_false (is_legal (key.Topic topic) && has_path (key.Topic topic)) (is_among [] name) h (λ e. false≢true e))
quota_root (key.Partition topic number) name h = absurd (both_false (is_legal (key.Partition topic number) && has_path (key.Partition topic number)) (is_among [] name) h (λ e. false≢true e))
quota_root (key.TopicConfig topic) name h = absurd (both_false (is_legal (key.TopicConfig topic) && has_path (key.TopicConfig topic)) (is_among [] name) h (λ e. false≢true e))
quota_root (key.BrokerConfig broker) name h = absurd (both_false (is_legal (key.BrokerConfig broker) && has_path (key.BrokerConfig broker)) (is_among [] name) h (λ e. false≢true e))
quota_root (key.Client client) name h = refl
quota_root (key.User user) name h = refl
quota_root (key.UserClient user client) name h = refl
quota_root (key.Ip address) name h = refl
quota_root (key.Acl pattern kind resource) name h = absurd (both_false (is_legal (key.Acl pattern kind resource) && has_path (key.Acl pattern kind resource)) (is_among [] name) h (λ e. false≢true e))
quota_root key.Producer name h = absurd (both_false (is_legal key.Producer && has_path key.Producer) (is_among [] name) h (λ e. false≢true e))

-- ---- changes of an entity

abbrev pub entity_with : List ℕ → List QuotaRow → QuotaEntry
entity_with path quotas = record { path = path; quotas = quotas }

abbrev pub rows_of : QuotaEntry → List QuotaRow
rows_of q = q.quotas

pub quotas_hold : Holds path_of_quotas rows_of entity_with with_quotas
quotas_hold = record { whole = λ q. refl; key_made = λ k qs. refl; none = λ k xs. refl; some = λ k q qs xs. refl }

rows_rise_by : (b : Bool) (change : ClientQuotaRecord) (qs : List QuotaRow) → Rises bytes_cmp key_of_quota qs
    → Rises bytes_cmp key_of_quota (cond b (without bytes_cmp key_of_quota change.key qs) (put bytes_cmp key_of_quota (record { key = change.key; value = change.value }) qs))
rows_rise_by true change qs h = Rises-without bytes_order key_of_quota change.key qs h
rows_rise_by false change qs h = Rises-put bytes_order key_of_quota (record { key = change.key; value = change.value }) qs h

pub found_rows_rise : (found : Option QuotaEntry) → HasIfFound IsQuotaFilled found → Rises bytes_cmp key_of_quota (quotas_in found)
found_rows_rise None h = tt
found_rows_rise (Some q) h = h.1

quota_in_order : (change : ClientQuotaRecord) (k : Option EntityKey) (xs : List QuotaEntry) → has_quota k change.key ≡ true → AreQuotasInOrder xs → AreQuotasInOrder (quota_changed change k xs)
quota_in_order change None xs h order = order
quota_in_order change (Some k) xs h order =
    let found = find bytes_cmp path_of_quotas (path_of k) xs in
    let rises : Rises bytes_cmp key_of_quota (with_quota change (quotas_in found)) = rows_rise_by change.remove change (quotas_in found) (found_rows_rise found (found_has IsQuotaFilled bytes_cmp path_of_quotas (path_of k) xs order.filled)) in
    record {
      rising = changed_rises quotas_hold (path_of k) (with_quota change (quotas_in found)) xs order.rising;
      filled = changed_all quotas_hold IsQuotaFilled (path_of k) (with_quota change (quotas_in found)) xs (λ some. (some, rises, quota_path k change.key h, quota_root k change.key h)) order.filled;
    }

pub quota_changed_in_order : (change : ClientQuotaRecord) (xs : List QuotaEntry) → has_quota (quota_key change.entity) change.key ≡ true → AreQuotasInOrder xs → AreQuotasInOrder (quota_changed change (quota_key change.entity) xs)
quota_changed_in_order change xs h order = quota_in_order change (quota_key change.entity) xs h order
