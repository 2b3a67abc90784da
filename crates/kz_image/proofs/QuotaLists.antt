-- What a change of quotas makes of the entities that have some, at the place of its path.
use Rattle.std.proofs.Common.{◌≡◌, ◌≢◌, ℕ, ℤ, ◌++◌, ◌&&◌, Bool, true, false, cond, List, [], ◌∷◌, Option, Some, None, refl, sym, ap, ◌∙◌}
use Rattle.std.proofs.lemmas.Bool.{false≢true}
use Rattle.std.specs.Ordering.{int_eq}
use Rattle.std.specs.Prelude.{pos, is_some, codes}
use Rattle.std.specs.List.{All}
use Rattle.std.proofs.lemmas.List.Elements.{All-head, All-tail}
use Rattle.kz_types.specs.PathRule.{is_path}
use Rattle.kz_types.specs.Paths.{path_of, key_of, has_path, is_legal}
use Rattle.kz_types.specs.declared.key.EntityKey.{EntityKey}
use Rattle.kz_types.specs.declared.key.EntityKey.TheVariants as key
use Rattle.kz_types.specs.declared.image.QuotaEntry.{QuotaEntry}
use Rattle.kz_types.specs.declared.record.ClientQuotaRecord.{ClientQuotaRecord}
use Rattle.kz_types.proofs.PathRules.{both_hold}
use Rattle.kz_types.specs.Order.{bytes_cmp}
use Rattle.kz_types.specs.Ordered.{find}
use Rattle.kz_types.proofs.Order.{bytes_order, is_eq_other}
use Rattle.kz_spec_data.specs.Metadata.{path_of_quotas}
use Rattle.kz_spec_data.specs.ImageRules.{has_quota}
use Rattle.kz_spec_data.specs.Image.{quotas_in, with_quota, with_quotas}
use Rattle.kz_spec_data.specs.InOrder.{AreQuotasInOrder}
use Rattle.kz_spec_data.specs.InOrder.{is_below_quota_root}
use Rattle.kz_image.specs.QuotaPaths.{IsEntityRead}
use Rattle.kz_laws_znodes.proofs.Entries.{changed_all}
use Rattle.kz_laws_znodes.proofs.QuotaLists.{quotas_hold}

-- ---- what isn't found

-- no entry has a path that doesn't pass a test that all paths pass
pub path_not_found : (test : List ℕ → Bool) (k : List ℕ) (xs : List QuotaEntry) → All (λ (q : QuotaEntry). test q.path ≡ true) xs → test k ≡ false → find bytes_cmp path_of_quotas k xs ≡ None
path_not_found test k [] h fails = refl
path_not_found test k (x ∷ xs) h fails =
    let other : k ≢ x.path = λ same. false≢true (sym fails ∙ ap test same ∙ All-head (λ (q : QuotaEntry). test q.path ≡ true) x xs h) in
    rw (is_eq_other bytes_order k x.path other) (path_not_found test k xs (All-tail (λ (q : QuotaEntry). test q.path ≡ true) x xs h) fails)

pub long_path_not_found : (k : List ℕ) (xs : List QuotaEntry) → AreQuotasInOrder xs → is_path k ≡ false → find bytes_cmp path_of_quotas k xs ≡ None
long_path_not_found k xs order fails = path_not_found is_path k xs (λ i d within. (order.filled i d within).2) fails

pub other_path_not_found : (k : List ℕ) (xs : List QuotaEntry) → AreQuotasInOrder xs → is_below_quota_root k ≡ false → find bytes_cmp path_of_quotas k xs ≡ None
other_path_not_found k xs order fails = path_not_found is_below_quota_root k xs (λ i d within. (order.filled i d within).3) fails

-- what isn't found isn't found where it is looked for only under a condition
pub none_guarded : {A : Type 0} (b : Bool) (found : Option A) → found ≡ None → cond b found None ≡ None
none_guarded true found h = h
none_guarded false found h = refl

acl_path_is_other : (literal : Bool) (rest : List ℕ) → is_below_quota_root (cond literal (codes "/kafka-acl/") (codes "/kafka-acl-extended/prefixed/") ++ rest) ≡ false
acl_path_is_other true rest = refl
acl_path_is_other false rest = refl

-- no other kind of entity has quotas
pub topic_path : (name : List ℕ) → is_below_quota_root (path_of (key.Topic name)) ≡ false
unfolding path_of
topic_path name = refl

pub partition_path : (topic : List ℕ) (number : ℤ) → is_below_quota_root (path_of (key.Partition topic number)) ≡ false
unfolding path_of
partition_path topic number = refl

pub topic_config_path : (name : List ℕ) → is_below_quota_root (path_of (key.TopicConfig name)) ≡ false
unfolding path_of
topic_config_path name = refl

pub broker_config_path : (broker : Option ℤ) → is_below_quota_root (path_of (key.BrokerConfig broker)) ≡ false
unfolding path_of
broker_config_path broker = refl

pub acl_path : (pattern kind : ℤ) (name : List ℕ) → is_below_quota_root (path_of (key.Acl pattern kind name)) ≡ false
unfolding path_of
acl_path pattern kind name = acl_path_is_other (int_eq pattern (pos 3)) _

pub producer_path : is_below_quota_root (path_of key.Producer) ≡ false
unfolding path_of
producer_path = refl

-- ---- paths that are read

-- an entity with a quota is legal
pub quota_legal : (k : EntityKey) (name : List ℕ) → has_quota (Some k) name ≡ true → is_legal k ≡ true
quota_legal k name h = (both_hold (is_legal k) (has_path k) (both_hold (is_legal k && has_path k) _ h).0).0

-- each path is read after a change under a path that is
pub changed_is_read : (change : ClientQuotaRecord) (path : List ℕ) (xs : List QuotaEntry) → is_some (key_of path) ≡ true → All IsEntityRead xs
    → All IsEntityRead (with_quotas path (with_quota change (quotas_in (find bytes_cmp path_of_quotas path xs))) xs)
changed_is_read change path xs read h = changed_all quotas_hold IsEntityRead path (with_quota change (quotas_in (find bytes_cmp path_of_quotas path xs))) xs (λ some. read) h
