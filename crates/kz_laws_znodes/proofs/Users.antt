-- The records of quotas and credentials.
use Rattle.std.proofs.Common.{◌≡◌, ℕ, ◌<◌, ℤ, pos, true, false, List, [], ◌∷◌, ◌++◌, map, length, Option, Some, None, refl, sym, ap, ◌∙◌, subst, arith}
use Rattle.std.specs.Prelude.{int_le, int_lt}
use Rattle.std.specs.List.{All, Contains, flat_map}
use Rattle.std.proofs.lemmas.Int.{ints}
use Rattle.std.proofs.lemmas.List.Elements.{All-nil, All-cons, All-head, All-tail, All-contains, Contains-append_right}
use Rattle.kz_types.specs.declared.bodies.QuotaRow.{QuotaRow}
use Rattle.kz_types.specs.declared.bodies.ScramPair.{ScramPair}
use Rattle.kz_types.specs.declared.image.QuotaEntry.{QuotaEntry}
use Rattle.kz_types.specs.declared.image.ScramEntry.{ScramEntry}
use Rattle.kz_types.specs.declared.key.EntityKey.{EntityKey}
use Rattle.kz_types.specs.declared.key.EntityKey.TheVariants as key
use Rattle.kz_types.specs.Paths.{key_of, path_of, has_path, is_path}
use Rattle.kz_types.specs.Order.{bytes_cmp}
use Rattle.kz_types.specs.Ordered.{find, put, Rises}
use Rattle.kz_types.proofs.Order.{bytes_order}
use Rattle.kz_types.proofs.Append.{put_last, find_all_below, below_split}
use Rattle.kz_spec_data.specs.Metadata.{Image, path_of_quotas, name_of_user}
use Rattle.kz_spec_data.specs.ImageRules.{quota_key}
use Rattle.kz_spec_data.specs.InOrder.{IsInOrder, IsQuotaFilled, IsUserFilled}
use Rattle.kz_spec_data.specs.Legal.{IsQuotaEntry, IsScramOf, IsScramEntry}
use Rattle.kz_spec_data.specs.Translation.{quota_entity, quota_record}
use Rattle.kz_laws_values.specs.Readable.{AreQuotas}
use Rattle.kz_laws_znodes.specs.RoundTrip.{AreQuotasWritable, IsWritable}
use Rattle.kz_laws_znodes.proofs.OtherSteps.{quota_list, with_quota_list, IsAllowed, HasQuotas, quotas_lead, scram_list, with_scram_list, IsCredentialOf, scrams_lead}
use Rattle.kz_laws_znodes.proofs.QuotaFacts.{entity_quotas}
use Rattle.kz_laws_znodes.proofs.Held.{has_quotas, quota_path, quota_kind_of}
use Rattle.kz_laws_znodes.proofs.Shown.{quota_key_good}
use Rattle.kz_spec_data.specs.SnapshotRecords.{in_epoch, image_after, quotas_of_key, quotas_of_entry, scrams_of_entry}
use Rattle.kz_laws_znodes.proofs.Making.{Make, make_led, all_at, make_each}

-- ---- quotas

known_key : (k : EntityKey) → has_quotas k ≡ true → quota_key (quota_entity k) ≡ Some k
known_key (key.Topic name) h = absurd (cc)
known_key (key.Partition topic number) h = absurd (cc)
known_key (key.TopicConfig name) h = absurd (cc)
known_key (key.BrokerConfig broker) h = absurd (cc)
known_key (key.Client client) h = refl
known_key (key.User user) h = refl
known_key (key.UserClient user client) h = refl
known_key (key.Ip address) h = refl
known_key (key.Acl pattern kind name) h = absurd (cc)
known_key key.Producer h = absurd (cc)

all_allowed : (k : EntityKey) → has_path k ≡ true → (quotas : List QuotaRow) → AreQuotas k quotas → All (IsAllowed k) quotas
all_allowed k fits [] h = All-nil (IsAllowed k)
all_allowed k fits (q ∷ qs) h = All-cons (IsAllowed k) q qs (record { named = h.0.name_is; valued = h.0.value_is; placed = fits }) (all_allowed k fits qs h.1)

filled_quotas : (path : List ℕ) (quotas : List QuotaRow) (done : List QuotaEntry) → 0 < length quotas → with_quota_list path quotas done ≡ put bytes_cmp path_of_quotas (quota_list path quotas) done
filled_quotas path [] done some = absurd (omega (arith, some))
filled_quotas path (q ∷ qs) done some = refl

module _ (g : Image) (o : IsInOrder g) (w : IsWritable g) (i : Image) (none : i.quotas ≡ []) (epoch : ℤ) where
  abbrev quotas_done : List QuotaEntry → List QuotaEntry → Image
  quotas_done done todo = record i { quotas = done }

  fits : (q : QuotaEntry) (k : EntityKey) → Contains g.quotas q → key_of q.path ≡ Some k → has_path k ≡ true
  unfolding has_path
  fits q k has is = ap is_path (quota_path g o w q k has is) ∙ (All-contains IsQuotaFilled g.quotas q o.quotas.filled has).2

  quota_one : (done : List QuotaEntry) (q : QuotaEntry) (rest : List QuotaEntry) → g.quotas ≡ done ++ q ∷ rest → Make (map (in_epoch epoch) (quotas_of_entry q)) (quotas_done done (q ∷ rest)) (quotas_done (done ++ q ∷ []) rest)
  quota_one done q rest whole =
      let has : Contains g.quotas q = subst (λ (l : List QuotaEntry). Contains l q) (sym whole) (Contains-append_right done (q ∷ rest) q (0, omega arith, refl)) in
      let writable : AreQuotasWritable q = All-contains AreQuotasWritable g.quotas q w.quotas has in
      let filled : IsQuotaFilled q = All-contains IsQuotaFilled g.quotas q o.quotas.filled has in
      let legal : IsQuotaEntry q = All-contains IsQuotaEntry g.quotas q o.legal.quotas has in
      let k = writable.entity in
      let at : path_of k ≡ q.path = quota_path g o w q k has writable.read in
      let under = below_split bytes_order path_of_quotas done q rest (subst (Rises bytes_cmp path_of_quotas) whole o.quotas.rising) in
      let absent : find bytes_cmp path_of_quotas (path_of k) done ≡ None = ap (λ (p : List ℕ). find bytes_cmp path_of_quotas p done) at ∙ find_all_below bytes_order path_of_quotas q.path done under in
      let may : HasQuotas k = record { known = known_key k (quota_kind_of g o w q k has writable.read); legal = (quota_key_good g o w q k has writable.read).0 } in
      let allowed = all_allowed k (fits q k has writable.read) q.quotas (entity_quotas q k legal at writable.each) in
      let state = quotas_done done (q ∷ rest) in
      ap (λ (m : Option EntityKey). image_after (map (in_epoch epoch) (quotas_of_key m q.quotas)) state) writable.read
      ∙ make_led epoch (map (quota_record k) q.quotas) state (record state { quotas = with_quota_list (path_of k) q.quotas done }) (quotas_lead epoch state k may absent q.quotas filled.1 allowed)
      ∙ ap (λ (qs : List QuotaEntry). record i { quotas = qs })
      (filled_quotas (path_of k) q.quotas done filled.0 ∙ ap (λ (p : List ℕ). put bytes_cmp path_of_quotas (quota_list p q.quotas) done) at ∙ put_last bytes_order path_of_quotas q done under)

  pub quotas_made : Make (flat_map (λ (q : QuotaEntry). map (in_epoch epoch) (quotas_of_entry q)) g.quotas) i (record i { quotas = g.quotas })
  quotas_made =
      let begin : record i { quotas = [] } ≡ i = ap (λ (qs : List QuotaEntry). record i { quotas = qs }) (sym none) in
      subst (λ (j : Image). Make (flat_map (λ (q : QuotaEntry). map (in_epoch epoch) (quotas_of_entry q)) g.quotas) j (record i { quotas = g.quotas })) begin
      (make_each g.quotas (λ (q : QuotaEntry). map (in_epoch epoch) (quotas_of_entry q)) quotas_done quota_one)

-- ---- credentials

iterated : (n : ℤ) → int_le (pos 1) n ≡ true → int_lt n (pos 1) ≡ false
iterated n h = grind (arith, ints)

all_credentials : (name : List ℕ) (scrams : List ScramPair) → All (IsScramOf name) scrams → All (IsCredentialOf name) scrams
all_credentials name [] h = All-nil (IsCredentialOf name)
all_credentials name (s ∷ ss) h =
    let own = All-head (IsScramOf name) s ss h in
    All-cons (IsCredentialOf name) s ss (record { owned = own.0; mechanism = own.1; iterated = iterated s.value.iterations own.2 }) (all_credentials name ss (All-tail (IsScramOf name) s ss h))

filled_scrams : (name : List ℕ) (scrams : List ScramPair) (done : List ScramEntry) → 0 < length scrams → with_scram_list name scrams done ≡ put bytes_cmp name_of_user (scram_list name scrams) done
filled_scrams name [] done some = absurd (omega (arith, some))
filled_scrams name (s ∷ ss) done some = refl

module _ (users : List ScramEntry) (rises : Rises bytes_cmp name_of_user users) (filled : All IsUserFilled users) (legal : All IsScramEntry users) (i : Image) (none : i.users ≡ []) (epoch : ℤ) where
  abbrev users_done : List ScramEntry → List ScramEntry → Image
  users_done done todo = record i { users = done }

  user_one : (done : List ScramEntry) (u : ScramEntry) (rest : List ScramEntry) → users ≡ done ++ u ∷ rest → Make (map (in_epoch epoch) (scrams_of_entry u)) (users_done done (u ∷ rest)) (users_done (done ++ u ∷ []) rest)
  user_one done u rest whole =
      let under = below_split bytes_order name_of_user done u rest (subst (Rises bytes_cmp name_of_user) whole rises) in
      let full = all_at IsUserFilled done u rest (subst (All IsUserFilled) whole filled) in
      let own = all_at IsScramEntry done u rest (subst (All IsScramEntry) whole legal) in
      let state = users_done done (u ∷ rest) in
      make_led epoch (scrams_of_entry u) state (record state { users = with_scram_list u.name u.scrams done })
      (scrams_lead epoch state u.name (find_all_below bytes_order name_of_user u.name done under) u.scrams full.1 (all_credentials u.name u.scrams own))
      ∙ ap (λ (us : List ScramEntry). record i { users = us }) (filled_scrams u.name u.scrams done full.0 ∙ put_last bytes_order name_of_user u done under)

  pub users_made : Make (flat_map (λ (u : ScramEntry). map (in_epoch epoch) (scrams_of_entry u)) users) i (record i { users = users })
  users_made =
      let begin : record i { users = [] } ≡ i = ap (λ (us : List ScramEntry). record i { users = us }) (sym none) in
      subst (λ (j : Image). Make (flat_map (λ (u : ScramEntry). map (in_epoch epoch) (scrams_of_entry u)) users) j (record i { users = users })) begin
      (make_each users (λ (u : ScramEntry). map (in_epoch epoch) (scrams_of_entry u)) users_done user_one)
