-- What the znodes of brokers' configurations, of quotas, of users, of access control entries and of producer ids have at a path.
use Rattle.std.proofs.Common.{◌≡◌, ℕ, ℤ, pos, negsuc, Bool, true, false, cond, List, [], ◌∷◌, map, Option, Some, None, Contains, refl, sym, ap, ◌∙◌, subst, inl, inr}
use Rattle.std.specs.Prelude.{◌+ℤ◌, option_map}
use Rattle.std.specs.List.{flat_map}
use Rattle.std.proofs.lemmas.List.Elements.{All-contains}
use Rattle.kz_types.specs.declared.tree.Rendered.{Rendered}
use Rattle.kz_types.specs.declared.bodies.Body.{Body}
use Rattle.kz_types.specs.declared.bodies.Body.TheVariants as body
use Rattle.kz_types.specs.declared.image.Configuration.{Configuration}
use Rattle.kz_types.specs.declared.image.QuotaEntry.{QuotaEntry}
use Rattle.kz_types.specs.declared.image.ScramEntry.{ScramEntry}
use Rattle.kz_types.specs.declared.image.AclEntry.{AclEntry}
use Rattle.kz_types.specs.declared.key.EntityKey.{EntityKey}
use Rattle.kz_types.specs.declared.key.EntityKey.TheVariants as key
use Rattle.kz_types.specs.Paths.{is_legal, key_of, path_of}
use Rattle.kz_types.specs.Order.{bytes_cmp}
use Rattle.kz_types.specs.Ordered.{find}
use Rattle.kz_types.proofs.Order.{bytes_order}
use Rattle.kz_types.proofs.Lookup.{some_is_none, same_some, found_is_contained, key_of_found, contained_is_found, Contains-head, Contains-nil, Contains-cons_cases}
use Rattle.kz_spec_data.specs.Metadata.{Image, name_of_configuration, path_of_quotas, name_of_user, pairs_of, pairs_at}
use Rattle.kz_spec_data.specs.Image.{quotas_in, scrams_in, scrams_at}
use Rattle.kz_spec_data.specs.InOrder.{IsFilled, IsQuotaFilled, IsUserFilled, IsInOrder}
use Rattle.kz_spec_data.specs.Legal.{IsConfiguration}
use Rattle.kz_spec_data.specs.Rendering.{znode, config_znode, znode_of_quotas, own_znodes, quotas_of_user, user_znode, acl_key, acl_znode, producer_znodes}
use Rattle.kz_spec_data.specs.Translation.{broker_name}
use Rattle.kz_laws_values.proofs.Legal.{IsGoodKey}
use Rattle.kz_laws_values.proofs.Keys.{path_holds, one_key}
use Rattle.kz_laws_znodes.proofs.Within.{from_flat, to_flat, from_map, to_map}
use Rattle.kz_laws_znodes.proofs.BrokerWalk.{IsBrokerKey, named_only, named_back}
use Rattle.kz_laws_znodes.proofs.Held.{has_quotas, broker_good, broker_in}
use Rattle.kz_laws_znodes.proofs.Says.{broker_named}
use Rattle.kz_spec_data.specs.Entities.{config_body, quotas_at, scrams_of_user, acl_body, rows_of_resource, entity}
use Rattle.kz_laws_znodes.proofs.ConfigsAlike.{filled_body, body_filled}
use Rattle.kz_laws_znodes.proofs.EntriesAlike.{some_entry, some_rows, body_of_rows, rows_of_body}
use Rattle.kz_laws_znodes.proofs.QuotasAlike.{own_body, own_filled, own_is, user_body, user_filled, user_is}
use Rattle.kz_laws_znodes.proofs.Configurations.{broker_is_good}
use Rattle.kz_laws_znodes.specs.Lookups.{AreKeysRead}
use Rattle.kz_laws_znodes.proofs.Facts.{quota_placed, quota_good, quota_kind, acl_good, user_good}
use Rattle.kz_laws_znodes.proofs.Settled.{Keyed}

-- ---- what is held for a key

abbrev pub config_held : Image → EntityKey → Option Body
config_held i (key.BrokerConfig broker) = entity i (key.BrokerConfig broker)
config_held i k = None

abbrev pub quota_held : Image → EntityKey → Option Body
quota_held i k = cond (has_quotas k) (own_body (quotas_at k i)) None

abbrev pub user_held : Image → EntityKey → Option Body
user_held i (key.User user) = user_body (quotas_at (key.User user) i) (scrams_of_user user i)
user_held i k = None

abbrev pub acl_held : Image → EntityKey → Option Body
acl_held i (key.Acl pattern kind name) = entity i (key.Acl pattern kind name)
acl_held i k = None

abbrev pub producer_held : Option ℤ → EntityKey → Option Body
producer_held next key.Producer = option_map (λ n. body.Producer (negsuc 0) n (n +ℤ pos 999)) next
producer_held next k = None

-- ---- the znodes of keys

nothing : {A P : Type 0} (a : A) → None ≡ Some a → P
nothing a e = absurd (some_is_none (sym e))

module _ (i : Image) (o : IsInOrder i) where
  -- ---- configurations of brokers

  config_each : (r : Rendered) → Contains (map config_znode i.broker_configs) r → (k : EntityKey) × IsGoodKey k × ((b : Body) × (config_held i k ≡ Some b) × (r ≡ znode k b))
  config_each r has =
      let f = from_map config_znode i.broker_configs r has in
      let c : Configuration = f.source in
      let legal = All-contains IsConfiguration i.broker_configs c o.legal.configs f.has in
      let filled = All-contains IsFilled i.broker_configs c o.configs.filled f.has in
      let n = broker_in c legal.0 in
      let only = named_only c.name n.0 n.2 in
      let found : find bytes_cmp name_of_configuration (broker_name n.0) i.broker_configs ≡ Some c =
      ap (λ k. find bytes_cmp name_of_configuration k i.broker_configs) (sym only.0) ∙ contained_is_found bytes_order name_of_configuration i.broker_configs c o.configs.rising f.has in
      (key.BrokerConfig n.0, broker_good n.0 only.1, (body.Config c.pairs, ap (λ x. config_body (pairs_of x)) found ∙ filled_body c.pairs filled.0, f.is ∙ ap (λ k. znode k (body.Config c.pairs)) n.1))

  broker_there : (broker : Option ℤ) (b : Body) → IsBrokerKey broker → config_body (pairs_at (broker_name broker) i.broker_configs) ≡ Some b → Contains (map config_znode i.broker_configs) (znode (key.BrokerConfig broker) b)
  broker_there broker b good is = by (find bytes_cmp name_of_configuration (broker_name broker) i.broker_configs) refl is
    where
      by : (found : Option Configuration) → find bytes_cmp name_of_configuration (broker_name broker) i.broker_configs ≡ found → config_body (pairs_of found) ≡ Some b → Contains (map config_znode i.broker_configs) (znode (key.BrokerConfig broker) b)
      by None e is = nothing b is
      by (Some c) e is =
          let has : Contains i.broker_configs c = found_is_contained bytes_order name_of_configuration (broker_name broker) i.broker_configs c e in
          let at : c.name ≡ broker_name broker = key_of_found bytes_order name_of_configuration (broker_name broker) i.broker_configs c e in
          let legal = All-contains IsConfiguration i.broker_configs c o.legal.configs has in
          let n = broker_in c legal.0 in
          let same : n.0 ≡ broker = same_some n.0 broker (sym n.2 ∙ ap broker_named at ∙ named_back broker good) in
          let body_is : b ≡ body.Config c.pairs = body_filled c.pairs b is in
          let made : config_znode c ≡ znode (key.BrokerConfig broker) b = ap (λ k. znode k (body.Config c.pairs)) (n.1 ∙ ap (λ k. key.BrokerConfig k) same) ∙ ap (znode (key.BrokerConfig broker)) (sym body_is) in
          subst (Contains (map config_znode i.broker_configs)) made (to_map config_znode i.broker_configs c has)

  config_there : (k : EntityKey) (b : Body) → IsGoodKey k → config_held i k ≡ Some b → Contains (map config_znode i.broker_configs) (znode k b)
  config_there (key.BrokerConfig broker) b good is = broker_there broker b (broker_is_good broker good.0 good.1) is
  config_there (key.Topic name) b good is = nothing b is
  config_there (key.Partition topic number) b good is = nothing b is
  config_there (key.TopicConfig name) b good is = nothing b is
  config_there (key.Client client) b good is = nothing b is
  config_there (key.User user) b good is = nothing b is
  config_there (key.UserClient user client) b good is = nothing b is
  config_there (key.Ip address) b good is = nothing b is
  config_there (key.Acl pattern kind name) b good is = nothing b is
  config_there key.Producer b good is = nothing b is

  pub configs_keyed : Keyed (map config_znode i.broker_configs) (config_held i)
  configs_keyed = record { each = config_each; there = config_there }

  -- ---- quotas

  found_quota : (q : QuotaEntry) (k : EntityKey) → Contains i.quotas q → key_of q.path ≡ Some k → find bytes_cmp path_of_quotas (path_of k) i.quotas ≡ Some q
  found_quota q k has is = ap (λ p. find bytes_cmp path_of_quotas p i.quotas) (quota_placed i o q k has is) ∙ contained_is_found bytes_order path_of_quotas i.quotas q o.quotas.rising has

  quota_by : (q : QuotaEntry) → Contains i.quotas q → (k : Option EntityKey) → key_of q.path ≡ k → (r : Rendered) → Contains (znode_of_quotas q.quotas k) r → (j : EntityKey) × IsGoodKey j × ((b : Body) × (quota_held i j ≡ Some b) × (r ≡ znode j b))
  quota_by q has None is r gives = absurd (Contains-nil r gives)
  quota_by q has (Some k) is r gives = elim (Contains-cons_cases (znode k (body.Quota q.quotas [])) [] r gives) [
    | inl e ↦
        let filled = All-contains IsQuotaFilled i.quotas q o.quotas.filled has in
        let own : own_body (quotas_at k i) ≡ Some (body.Quota q.quotas []) = ap (λ f. own_body (quotas_in f)) (found_quota q k has is) ∙ own_filled q.quotas filled.0 in
        (k, quota_good i o q k has is, (body.Quota q.quotas [], ap (λ t. cond t (own_body (quotas_at k i)) None) (quota_kind i o q k has is) ∙ own, sym e))
    | inr none ↦ absurd (Contains-nil r none)
  ]

  quota_each : (r : Rendered) → Contains (flat_map own_znodes i.quotas) r → (k : EntityKey) × IsGoodKey k × ((b : Body) × (quota_held i k ≡ Some b) × (r ≡ znode k b))
  quota_each r has = let f = from_flat own_znodes i.quotas r has in quota_by f.source f.has (key_of f.source.path) refl r f.gives

  own_there : (k : EntityKey) (b : Body) → IsGoodKey k → own_body (quotas_at k i) ≡ Some b → Contains (flat_map own_znodes i.quotas) (znode k b)
  own_there k b good is = by (find bytes_cmp path_of_quotas (path_of k) i.quotas) refl is
    where
      by : (found : Option QuotaEntry) → find bytes_cmp path_of_quotas (path_of k) i.quotas ≡ found → own_body (quotas_in found) ≡ Some b → Contains (flat_map own_znodes i.quotas) (znode k b)
      by None e is = nothing b is
      by (Some q) e is =
          let has : Contains i.quotas q = found_is_contained bytes_order path_of_quotas (path_of k) i.quotas q e in
          let at : q.path ≡ path_of k = key_of_found bytes_order path_of_quotas (path_of k) i.quotas q e in
          let named : key_of q.path ≡ Some k = ap key_of at ∙ path_holds k good.0 good.1 in
          let made : Rendered = znode k (body.Quota q.quotas []) in
          let body_is : b ≡ body.Quota q.quotas [] = own_is q.quotas b is in
          to_flat own_znodes i.quotas q (znode k b) has (subst (λ j. Contains (znode_of_quotas q.quotas j) (znode k b)) (sym named) (subst (λ x. Contains (made ∷ []) (znode k x)) (sym body_is) (Contains-head made [])))

  quota_there : (k : EntityKey) (b : Body) → IsGoodKey k → quota_held i k ≡ Some b → Contains (flat_map own_znodes i.quotas) (znode k b)
  quota_there k b good is = by (has_quotas k) is
    where
      by : (t : Bool) → cond t (own_body (quotas_at k i)) None ≡ Some b → Contains (flat_map own_znodes i.quotas) (znode k b)
      by true is = own_there k b good is
      by false is = nothing b is

  pub quotas_keyed : Keyed (flat_map own_znodes i.quotas) (quota_held i)
  quotas_keyed = record { each = quota_each; there = quota_there }

  -- ---- users with credentials

  user_each : AreKeysRead i → (r : Rendered) → Contains (map (user_znode i.quotas) i.users) r → (k : EntityKey) × IsGoodKey k × ((b : Body) × (user_held i k ≡ Some b) × (r ≡ znode k b))
  user_each read r has =
      let f = from_map (user_znode i.quotas) i.users r has in
      let u : ScramEntry = f.source in
      let k : EntityKey = key.User (Some u.name) in
      let filled = All-contains IsUserFilled i.users u o.users.filled f.has in
      let found : find bytes_cmp name_of_user u.name i.users ≡ Some u = contained_is_found bytes_order name_of_user i.users u o.users.rising f.has in
      (k, user_good i o read u f.has, (body.Quota (quotas_of_user u.name i.quotas) u.scrams, ap (λ x. user_body (quotas_at k i) (scrams_in x)) found ∙ user_filled (quotas_of_user u.name i.quotas) u.scrams filled.0, f.is))

  named_there : (name : List ℕ) (b : Body) → user_body (quotas_at (key.User (Some name)) i) (scrams_at name i.users) ≡ Some b → Contains (map (user_znode i.quotas) i.users) (znode (key.User (Some name)) b)
  named_there name b is = by (find bytes_cmp name_of_user name i.users) refl is
    where
      by : (found : Option ScramEntry) → find bytes_cmp name_of_user name i.users ≡ found → user_body (quotas_at (key.User (Some name)) i) (scrams_in found) ≡ Some b → Contains (map (user_znode i.quotas) i.users) (znode (key.User (Some name)) b)
      by None e is = nothing b is
      by (Some u) e is =
          let has : Contains i.users u = found_is_contained bytes_order name_of_user name i.users u e in
          let at : u.name ≡ name = key_of_found bytes_order name_of_user name i.users u e in
          let body_is : b ≡ body.Quota (quotas_at (key.User (Some name)) i) u.scrams = user_is (quotas_at (key.User (Some name)) i) u.scrams b is in
          let made : user_znode i.quotas u ≡ znode (key.User (Some name)) b = ap (λ n. znode (key.User (Some n)) (body.Quota (quotas_of_user n i.quotas) u.scrams)) at ∙ ap (znode (key.User (Some name))) (sym body_is) in
          subst (Contains (map (user_znode i.quotas) i.users)) made (to_map (user_znode i.quotas) i.users u has)

  user_there : (k : EntityKey) (b : Body) → IsGoodKey k → user_held i k ≡ Some b → Contains (map (user_znode i.quotas) i.users) (znode k b)
  user_there (key.User (Some name)) b good is = named_there name b is
  user_there (key.User None) b good is = nothing b is
  user_there (key.Topic name) b good is = nothing b is
  user_there (key.Partition topic number) b good is = nothing b is
  user_there (key.TopicConfig name) b good is = nothing b is
  user_there (key.BrokerConfig broker) b good is = nothing b is
  user_there (key.Client client) b good is = nothing b is
  user_there (key.UserClient user client) b good is = nothing b is
  user_there (key.Ip address) b good is = nothing b is
  user_there (key.Acl pattern kind name) b good is = nothing b is
  user_there key.Producer b good is = nothing b is

  pub users_keyed : AreKeysRead i → Keyed (map (user_znode i.quotas) i.users) (user_held i)
  users_keyed read = record { each = user_each read; there = user_there }

  -- ---- access control entries

  acl_each : (r : Rendered) → Contains (map (acl_znode i.acls) i.acls) r → (k : EntityKey) × IsGoodKey k × ((b : Body) × (acl_held i k ≡ Some b) × (r ≡ znode k b))
  acl_each r has =
      let f = from_map (acl_znode i.acls) i.acls r has in
      let a : AclEntry = f.source in
      let rows = some_rows (acl_key a.row) i.acls a f.has refl in
      (acl_key a.row, acl_good i o a f.has, (body.Acls (rows_of_resource (acl_key a.row) i.acls), body_of_rows (rows_of_resource (acl_key a.row) i.acls) rows.0 rows.1.0 rows.1.1, f.is))

  rows_there : (k : EntityKey) (b : Body) → IsGoodKey k → acl_body (rows_of_resource k i.acls) ≡ Some b → Contains (map (acl_znode i.acls) i.acls) (znode k b)
  rows_there k b good is =
      let rows = rows_of_body (rows_of_resource k i.acls) b is in
      let a = some_entry k i.acls rows.1 in
      let g = acl_good i o a.0 a.1 in
      let same : acl_key a.0.row ≡ k = one_key (acl_key a.0.row) k g.0 g.1 good.0 good.1 a.2 in
      let made : acl_znode i.acls a.0 ≡ znode k b = ap (λ j. znode j (body.Acls (rows_of_resource j i.acls))) same ∙ ap (znode k) (sym rows.0) in
      subst (Contains (map (acl_znode i.acls) i.acls)) made (to_map (acl_znode i.acls) i.acls a.0 a.1)

  acl_there : (k : EntityKey) (b : Body) → IsGoodKey k → acl_held i k ≡ Some b → Contains (map (acl_znode i.acls) i.acls) (znode k b)
  acl_there (key.Acl pattern kind name) b good is = rows_there (key.Acl pattern kind name) b good is
  acl_there (key.Topic name) b good is = nothing b is
  acl_there (key.Partition topic number) b good is = nothing b is
  acl_there (key.TopicConfig name) b good is = nothing b is
  acl_there (key.BrokerConfig broker) b good is = nothing b is
  acl_there (key.Client client) b good is = nothing b is
  acl_there (key.User user) b good is = nothing b is
  acl_there (key.UserClient user client) b good is = nothing b is
  acl_there (key.Ip address) b good is = nothing b is
  acl_there key.Producer b good is = nothing b is

  pub acls_keyed : Keyed (map (acl_znode i.acls) i.acls) (acl_held i)
  acls_keyed = record { each = acl_each; there = acl_there }

-- ---- producer ids

producer_good : IsGoodKey key.Producer
unfolding is_legal
producer_good = (refl, tt)

producer_each : (next : Option ℤ) (r : Rendered) → Contains (producer_znodes next) r → (k : EntityKey) × IsGoodKey k × ((b : Body) × (producer_held next k ≡ Some b) × (r ≡ znode k b))
producer_each None r has = absurd (Contains-nil r has)
producer_each (Some n) r has = elim (Contains-cons_cases (znode key.Producer (body.Producer (negsuc 0) n (n +ℤ pos 999))) [] r has) [
  | inl e ↦ (key.Producer, producer_good, (body.Producer (negsuc 0) n (n +ℤ pos 999), refl, sym e))
  | inr none ↦ absurd (Contains-nil r none)
]

producer_next : (next : Option ℤ) (b : Body) → producer_held next key.Producer ≡ Some b → Contains (producer_znodes next) (znode key.Producer b)
producer_next None b is = nothing b is
producer_next (Some n) b is =
    let made : Body = body.Producer (negsuc 0) n (n +ℤ pos 999) in
    subst (λ x. Contains (znode key.Producer made ∷ []) (znode key.Producer x)) (same_some made b is) (Contains-head (znode key.Producer made) [])

producer_there : (next : Option ℤ) (k : EntityKey) (b : Body) → IsGoodKey k → producer_held next k ≡ Some b → Contains (producer_znodes next) (znode k b)
producer_there next key.Producer b good is = producer_next next b is
producer_there next (key.Topic name) b good is = nothing b is
producer_there next (key.Partition topic number) b good is = nothing b is
producer_there next (key.TopicConfig name) b good is = nothing b is
producer_there next (key.BrokerConfig broker) b good is = nothing b is
producer_there next (key.Client client) b good is = nothing b is
producer_there next (key.User user) b good is = nothing b is
producer_there next (key.UserClient user client) b good is = nothing b is
producer_there next (key.Ip address) b good is = nothing b is
producer_there next (key.Acl pattern kind name) b good is = nothing b is

pub producer_keyed : (next : Option ℤ) → Keyed (producer_znodes next) (producer_held next)
producer_keyed next = record { each = producer_each next; there = producer_there next }
