-- What a rendering has at the path of an entity that may have quotas.
use Rattle.std.proofs.Common.{◌≡◌, ℤ, pos, negsuc, true, false, List, [], ◌++◌, map, Option, Some, None, Contains, refl, sym, ap, ◌∙◌, subst, inl, inr, append_assoc}
use Rattle.std.specs.Prelude.{Ok, ◌+ℤ◌}
use Rattle.std.specs.List.{flat_map}
use Rattle.std.proofs.lemmas.Bool.{false≢true}
use Rattle.std.proofs.lemmas.List.Elements.{Contains-append_left, Contains-append_cases}
use Rattle.kz_types.specs.declared.tree.Rendered.{Rendered}
use Rattle.kz_types.specs.declared.bodies.QuotaRow.{QuotaRow}
use Rattle.kz_types.specs.declared.bodies.ScramPair.{ScramPair}
use Rattle.kz_types.specs.declared.bodies.Body.TheVariants as body
use Rattle.kz_types.specs.declared.image.QuotaEntry.{QuotaEntry}
use Rattle.kz_types.specs.declared.image.ScramEntry.{ScramEntry}
use Rattle.kz_types.specs.declared.image.AclEntry.{AclEntry}
use Rattle.kz_types.specs.declared.key.EntityKey.{EntityKey}
use Rattle.kz_types.specs.declared.key.EntityKey.TheVariants as key
use Rattle.kz_types.specs.Paths.{roots, key_of, path_of}
use Rattle.kz_types.specs.Order.{bytes_cmp}
use Rattle.kz_types.specs.Ordered.{find, all_put}
use Rattle.kz_types.proofs.Order.{bytes_order}
use Rattle.kz_types.proofs.Lookup.{some_is_none, same_some, found_is_contained, key_of_found, contained_is_found, Contains-head, Contains-nil, Contains-cons_cases}
use Rattle.kz_types.proofs.Puts.{all_put-append}
use Rattle.kz_spec_data.specs.Bodies.{read_body}
use Rattle.kz_spec_data.specs.Tree.{path_of_rendered}
use Rattle.kz_spec_data.specs.Metadata.{Image, path_of_quotas, name_of_user}
use Rattle.kz_spec_data.specs.Image.{quotas_in, scrams_in}
use Rattle.kz_spec_data.specs.InOrder.{IsInOrder}
use Rattle.kz_spec_data.specs.Rendering.{bare, znode, topic_znodes, config_znode, quota_parents, znode_of_quotas, own_znodes, quotas_of_user, user_znode, quota_znodes, acl_key, acl_znode, producer_znodes, render}
use Rattle.kz_laws_values.proofs.Legal.{IsGoodKey}
use Rattle.kz_laws_values.proofs.Keys.{path_holds}
use Rattle.kz_laws_znodes.specs.RoundTrip.{IsWritable, MayReturn}
use Rattle.kz_laws_znodes.proofs.Within.{from_flat, from_map, to_flat, to_map}
use Rattle.kz_laws_znodes.proofs.Shown.{Shown, shown_topic, shown_state, shown_topic_config, shown_config, shown_parent, shown_quotas, shown_user, shown_entries, shown_producer, shown_blank, shown_scaffold, after_quotas}
use Rattle.kz_laws_znodes.proofs.Held.{has_quotas, quota_path, quota_held, config_held, user_held, parent_held, facts_of_acl}
use Rattle.kz_laws_znodes.proofs.Puts.{found_among}
use Rattle.kz_laws_znodes.proofs.Found.{found_at, who_of}

pub producer_key : key_of (path_of key.Producer) ≡ Some key.Producer
unfolding key_of path_of
producer_key = refl

module _ (i : Image) (o : IsInOrder i) (w : IsWritable i) (m : MayReturn i) where
  -- the quotas and the credentials of an entity
  abbrev pub quotas_at : EntityKey → List QuotaRow
  quotas_at k = quotas_in (find bytes_cmp path_of_quotas (path_of k) i.quotas)

  abbrev pub scrams_for : EntityKey → List ScramPair
  scrams_for (key.User (Some name)) = scrams_in (find bytes_cmp name_of_user name i.users)
  scrams_for k = []

  abbrev pub own : List Rendered
  own = flat_map own_znodes i.quotas

  abbrev pub users : List Rendered
  users = map (user_znode i.quotas) i.users

  abbrev pub last : List Rendered
  last = after_quotas i o w

  -- what is put before the znodes of quotas, and before those of users
  abbrev pub first_base : List Rendered
  first_base = all_put bytes_cmp path_of_rendered (flat_map quota_parents i.quotas) (all_put bytes_cmp path_of_rendered (map config_znode i.broker_configs) (all_put bytes_cmp path_of_rendered (flat_map topic_znodes i.topics) (map bare roots)))

  abbrev pub second_base : List Rendered
  second_base = all_put bytes_cmp path_of_rendered own first_base

  put_after : (xs ys base : List Rendered) → all_put bytes_cmp path_of_rendered (xs ++ ys) base ≡ all_put bytes_cmp path_of_rendered ys (all_put bytes_cmp path_of_rendered xs base)
  put_after xs ys base = all_put-append bytes_order path_of_rendered xs ys base

  after_parents_put : render i ≡ all_put bytes_cmp path_of_rendered ((own ++ users) ++ last) first_base
  unfolding render
  after_parents_put =
      put_after (flat_map topic_znodes i.topics) (map config_znode i.broker_configs ++ (quota_znodes i.quotas i.users ++ last)) (map bare roots)
      ∙ put_after (map config_znode i.broker_configs) (quota_znodes i.quotas i.users ++ last) (all_put bytes_cmp path_of_rendered (flat_map topic_znodes i.topics) (map bare roots))
      ∙ ap (λ xs. all_put bytes_cmp path_of_rendered xs (all_put bytes_cmp path_of_rendered (map config_znode i.broker_configs) (all_put bytes_cmp path_of_rendered (flat_map topic_znodes i.topics) (map bare roots))))
      (append_assoc (flat_map quota_parents i.quotas) (own ++ users) last)
      ∙ put_after (flat_map quota_parents i.quotas) ((own ++ users) ++ last) (all_put bytes_cmp path_of_rendered (map config_znode i.broker_configs) (all_put bytes_cmp path_of_rendered (flat_map topic_znodes i.topics) (map bare roots)))

  pub after_own_put : render i ≡ all_put bytes_cmp path_of_rendered (users ++ last) second_base
  after_own_put = after_parents_put ∙ ap (λ xs. all_put bytes_cmp path_of_rendered xs first_base) (append_assoc own users last) ∙ put_after own (users ++ last) first_base

  -- ---- what the last znodes are

  acl_kind : (a : AclEntry) → has_quotas (acl_key a.row) ≡ false
  acl_kind a = refl

  last_kind : (k : EntityKey) (r : Rendered) → key_of r.path ≡ Some k → Contains last r → has_quotas k ≡ false
  last_kind k r is at = elim (Contains-append_cases (map (acl_znode i.acls) i.acls) (producer_znodes i.next_producer) r at) [
    | inl acl ↦
        let f = from_map (acl_znode i.acls) i.acls r acl in
        let g = (facts_of_acl i o w f.source f.has).good in
        same_kind (acl_key f.source.row) (sym (ap (λ (x : Rendered). key_of x.path) f.is ∙ path_holds (acl_key f.source.row) g.0 g.1) ∙ is) refl
    | inr block ↦ of_block i.next_producer block
  ]
    where
      same_kind : (j : EntityKey) → Some j ≡ Some k → has_quotas j ≡ false → has_quotas k ≡ false
      same_kind j e h = ap has_quotas (same_some k j (sym e)) ∙ h

      of_block : (next : Option ℤ) → Contains (producer_znodes next) r → has_quotas k ≡ false
      of_block None at = absurd (Contains-nil r at)
      of_block (Some next) at = elim (Contains-cons_cases (znode key.Producer (body.Producer (negsuc 0) next (next +ℤ pos 999))) [] r at) [
        | inl e ↦ same_kind key.Producer (sym (ap (λ (x : Rendered). key_of x.path) (sym e) ∙ producer_key) ∙ is) refl
        | inr none ↦ absurd (Contains-nil r none)
      ]

  module _ (k : EntityKey) (good : IsGoodKey k) (kind : has_quotas k ≡ true) (r : Rendered) (found : find bytes_cmp path_of_rendered (path_of k) (render i) ≡ Some r) where
    at : r.path ≡ path_of k
    at = key_of_found bytes_order path_of_rendered (path_of k) (render i) r found

    keyed : key_of r.path ≡ Some k
    keyed = ap key_of at ∙ path_holds k good.0 good.1

    not_last : Contains last r → ⊥
    not_last has = false≢true (sym (last_kind k r keyed has) ∙ kind)

    -- what its body says
    abbrev Says : List QuotaRow → List ScramPair → Type 0
    Says quotas scrams = read_body k r.body ≡ Ok (body.Quota quotas scrams)

    -- ---- by whom it is

    of_user : (u : ScramEntry) → Contains i.users u → r ≡ user_znode i.quotas u → (k ≡ key.User (Some u.name)) × Says (quotas_of_user u.name i.quotas) u.scrams
    of_user u has is =
        let h = user_held i o w u has in
        let same : k ≡ key.User (Some u.name) = same_some k (key.User (Some u.name)) (sym keyed ∙ ap (λ (x : Rendered). key_of x.path) is ∙ h.keyed) in
        (same, (λ j. read_body (same j) (is j).body) ∙ h.read)

    of_own : (q : QuotaEntry) (j : EntityKey) → Contains i.quotas q → key_of q.path ≡ Some j → r ≡ znode j (body.Quota q.quotas []) → (find bytes_cmp path_of_quotas (path_of k) i.quotas ≡ Some q) × Says q.quotas []
    of_own q j has named is =
        let h = quota_held i o w q j has named in
        let same : k ≡ j = same_some k j (sym keyed ∙ ap (λ (x : Rendered). key_of x.path) is ∙ h.keyed) in
        let here : path_of k ≡ q.path = ap path_of same ∙ quota_path i o w q j has named in
        (ap (λ p. find bytes_cmp path_of_quotas p i.quotas) here ∙ contained_is_found bytes_order path_of_quotas i.quotas q o.quotas.rising has, (λ n. read_body (same n) (is n).body) ∙ h.read)

    own_case : Contains own r → (q : QuotaEntry) × (find bytes_cmp path_of_quotas (path_of k) i.quotas ≡ Some q) × Says q.quotas []
    own_case has =
        let f = from_flat own_znodes i.quotas r has in
        by f.source f.has (key_of f.source.path) refl f.gives
      where
        by : (q : QuotaEntry) → Contains i.quotas q → (j : Option EntityKey) → key_of q.path ≡ j → Contains (znode_of_quotas q.quotas j) r → (q : QuotaEntry) × (find bytes_cmp path_of_quotas (path_of k) i.quotas ≡ Some q) × Says q.quotas []
        by q has None named gives = absurd (Contains-nil r gives)
        by q has (Some j) named gives = elim (Contains-cons_cases (znode j (body.Quota q.quotas [])) [] r gives) [
          | inl e ↦ let h = of_own q j has named (sym e) in (q, h.0, h.1)
          | inr none ↦ absurd (Contains-nil r none)
        ]

    user_case : Contains users r → (u : ScramEntry) × Contains i.users u × (k ≡ key.User (Some u.name)) × Says (quotas_of_user u.name i.quotas) u.scrams
    user_case has = let f = from_map (user_znode i.quotas) i.users r has in let h = of_user f.source f.has f.is in (f.source, f.has, h.0, h.1)

    -- ---- the quotas that it has

    quotas_of : (q : Option QuotaEntry) → find bytes_cmp path_of_quotas (path_of k) i.quotas ≡ q → quotas_at k ≡ quotas_in q
    quotas_of q e = ap quotas_in e

    -- where it has quotas of its own and is no user with credentials
    with_own : (q : QuotaEntry) → find bytes_cmp path_of_quotas (path_of k) i.quotas ≡ Some q → ((u : ScramEntry) → Contains i.users u → k ≡ key.User (Some u.name) → ⊥) → Says (quotas_at k) []
    with_own q e none =
        let has : Contains i.quotas q = found_is_contained bytes_order path_of_quotas (path_of k) i.quotas q e in
        let place : q.path ≡ path_of k = key_of_found bytes_order path_of_quotas (path_of k) i.quotas q e in
        let named : key_of q.path ≡ Some k = ap key_of place ∙ path_holds k good.0 good.1 in
        let x : Rendered = znode k (body.Quota q.quotas []) in
        let there : Contains own x = to_flat own_znodes i.quotas q x has (subst (λ j. Contains (znode_of_quotas q.quotas j) x) (sym named) (Contains-head x [])) in
        let among : Contains ((own ++ users) ++ last) r = found_among bytes_order path_of_rendered ((own ++ users) ++ last) first_base x r (Contains-append_left (own ++ users) last x (Contains-append_left own users x there)) (ap (find bytes_cmp path_of_rendered (path_of k)) (sym after_parents_put) ∙ found) in
        elim (Contains-append_cases (own ++ users) last r among) [
          | inl either ↦ elim (Contains-append_cases own users r either) [
            | inl mine ↦ let h = own_case mine in subst (λ qs. Says qs []) (sym (quotas_of (Some h.0) h.1)) h.2
            | inr user ↦ let h = user_case user in absurd (none h.0 h.1 h.2)
          ]
          | inr end ↦ absurd (not_last end)
        ]

    -- where it has none
    without_own : find bytes_cmp path_of_quotas (path_of k) i.quotas ≡ None → ((u : ScramEntry) → Contains i.users u → k ≡ key.User (Some u.name) → ⊥) → (s : Shown i r) → who_of i o w m r s ≡ Some k → Says (quotas_at k) []
    without_own absent none (shown_topic t has is) e = absurd (false≢true (ap has_quotas (same_some (key.Topic t.name) k e) ∙ kind))
    without_own absent none (shown_state t p has within is) e = absurd (false≢true (ap has_quotas (same_some (key.Partition t.name p.number) k e) ∙ kind))
    without_own absent none (shown_topic_config t has p ps some is) e = absurd (false≢true (ap has_quotas (same_some (key.TopicConfig t.name) k e) ∙ kind))
    without_own absent none (shown_config c has is) e = absurd (false≢true (ap has_quotas (same_some (key.BrokerConfig (config_held i o w c has).0) k e) ∙ kind))
    without_own absent none (shown_parent user g is) e =
        let same : k ≡ key.User user = same_some k (key.User user) (sym e) in
        (λ j. read_body (same j) (is j).body) ∙ (parent_held i o w user g).read ∙ ap (λ qs. Ok (body.Quota qs [])) (sym (quotas_of None absent))
    without_own absent none (shown_quotas q j has named is) e = absurd (some_is_none (sym (of_own q j has named is).0 ∙ absent))
    without_own absent none (shown_user u has is) e = absurd (none u has (of_user u has is).0)
    without_own absent none (shown_entries a has is) e = absurd (false≢true (ap has_quotas (same_some (acl_key a.row) k e) ∙ kind))
    without_own absent none (shown_producer next some is) e = absurd (false≢true (ap has_quotas (same_some key.Producer k e) ∙ kind))
    without_own absent none (shown_blank is) e = absurd (false≢true (ap has_quotas (same_some key.Producer k e) ∙ kind))
    without_own absent none (shown_scaffold scaffold) e = absurd (some_is_none (sym e))

    -- an entity without credentials
    pub no_scrams : ((u : ScramEntry) → Contains i.users u → k ≡ key.User (Some u.name) → ⊥) → Says (quotas_at k) []
    no_scrams none = by (find bytes_cmp path_of_quotas (path_of k) i.quotas) refl
      where
        by : (q : Option QuotaEntry) → find bytes_cmp path_of_quotas (path_of k) i.quotas ≡ q → Says (quotas_at k) []
        by None e = let f = found_at i o w m k r good found in without_own e none f.shows f.who
        by (Some q) e = with_own q e none

    -- a user with credentials
    pub with_scrams : (u : ScramEntry) → Contains i.users u → k ≡ key.User (Some u.name) → Says (quotas_at k) u.scrams
    with_scrams u has is =
        let x : Rendered = user_znode i.quotas u in
        let there : Contains users x = to_map (user_znode i.quotas) i.users u has in
        let place : x.path ≡ path_of k = ap path_of (sym is) in
        let among : Contains (users ++ last) r = found_among bytes_order path_of_rendered (users ++ last) second_base x r (Contains-append_left users last x there)
        (ap (λ p. find bytes_cmp path_of_rendered p (all_put bytes_cmp path_of_rendered (users ++ last) second_base)) place ∙ ap (find bytes_cmp path_of_rendered (path_of k)) (sym after_own_put) ∙ found) in
        elim (Contains-append_cases users last r among) [
          | inl user ↦
              let h = user_case user in
              let names : h.0.name ≡ u.name = same_name h.0 (sym h.2 ∙ is) in
              let same : h.0 ≡ u = same_some h.0 u (sym (contained_is_found bytes_order name_of_user i.users h.0 o.users.rising h.1) ∙ ap (λ n. find bytes_cmp name_of_user n i.users) names ∙ contained_is_found bytes_order name_of_user i.users u o.users.rising has) in
              h.3 ∙ (λ j. Ok (body.Quota (quotas_in (find bytes_cmp path_of_quotas (path_of (sym h.2 j)) i.quotas)) (same j).scrams))
          | inr end ↦ absurd (not_last end)
        ]
      where
        same_name : (v : ScramEntry) → key.User (Some v.name) ≡ key.User (Some u.name) → v.name ≡ u.name
        same_name v e = cc
