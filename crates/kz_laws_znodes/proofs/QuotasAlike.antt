-- The znodes of quotas and of users with credentials at a path.
use Rattle.std.proofs.Common.{◌≡◌, ℕ, ◌<◌, true, List, [], ◌∷◌, map, length, Option, Some, None, Contains, refl, sym, ap, ◌∙◌, subst, arith, inl, inr}
use Rattle.std.specs.List.{flat_map}
use Rattle.std.proofs.lemmas.Bool.{false≢true}
use Rattle.std.proofs.lemmas.List.Elements.{All-contains}
use Rattle.kz_types.specs.declared.tree.Rendered.{Rendered}
use Rattle.kz_types.specs.declared.bodies.Body.{Body}
use Rattle.kz_types.specs.declared.bodies.Body.TheVariants as body
use Rattle.kz_types.specs.declared.bodies.QuotaRow.{QuotaRow}
use Rattle.kz_types.specs.declared.bodies.ScramPair.{ScramPair}
use Rattle.kz_types.specs.declared.image.QuotaEntry.{QuotaEntry}
use Rattle.kz_types.specs.declared.image.ScramEntry.{ScramEntry}
use Rattle.kz_types.specs.declared.key.EntityKey.{EntityKey}
use Rattle.kz_types.specs.declared.key.EntityKey.TheVariants as key
use Rattle.kz_types.specs.Paths.{key_of, path_of}
use Rattle.kz_types.specs.Order.{bytes_cmp}
use Rattle.kz_types.specs.Ordered.{find}
use Rattle.kz_types.proofs.Order.{bytes_order}
use Rattle.kz_types.proofs.Lookup.{same_some, found_is_contained, key_of_found, contained_is_found, Contains-head, Contains-nil, Contains-cons_cases}
use Rattle.kz_spec_data.specs.Metadata.{Image, path_of_quotas, name_of_user}
use Rattle.kz_spec_data.specs.Image.{quotas_in, scrams_in, scrams_at}
use Rattle.kz_spec_data.specs.InOrder.{IsQuotaFilled, IsUserFilled, IsInOrder}
use Rattle.kz_spec_data.specs.Rendering.{bare, znode, client_parents, quota_parents, znode_of_quotas, own_znodes, quotas_of_user, user_znode}
use Rattle.kz_laws_values.proofs.Legal.{IsGoodKey}
use Rattle.kz_laws_values.proofs.Keys.{path_holds, one_key}
use Rattle.kz_laws_znodes.specs.RoundTrip.{IsWritable}
use Rattle.kz_laws_znodes.proofs.Within.{from_flat, from_map, to_flat, to_map}
use Rattle.kz_laws_znodes.proofs.Shown.{quota_key_good}
use Rattle.kz_laws_znodes.proofs.Held.{has_quotas, quota_path, quota_kind_of, user_held}
use Rattle.kz_spec_data.specs.Entities.{quota_body, quotas_at, scrams_of_user, entity}
use Rattle.kz_spec_data.specs.Spans.{spanned_paths, clients_path}
use Rattle.kz_laws_znodes.proofs.Lasts.{last_at, last_found, last_there, alike_by_one}
use Rattle.kz_laws_znodes.proofs.Spans.{own_path, second_of}
use Rattle.kz_laws_znodes.proofs.Spanned.{HoldTheSame}
use Rattle.kz_laws_znodes.proofs.DeltaGroups.{Gives, groups_alike}

-- ---- bodies of quotas

-- equal bodies say equal quotas and credentials
pub quotas_said : (qs us : List QuotaRow) (ss vs : List ScramPair) → quota_body qs ss ≡ quota_body us vs → (qs ≡ us) × (ss ≡ vs)
quotas_said [] [] [] [] e = (refl, refl)
quotas_said [] [] [] (v ∷ vs) e = absurd (cc (e))
quotas_said [] [] (s ∷ ss) [] e = absurd (cc (e))
quotas_said [] [] (s ∷ ss) (v ∷ vs) e = (refl, cc (e))
quotas_said [] (u ∷ us) [] vs e = absurd (cc (e))
quotas_said [] (u ∷ us) (s ∷ ss) vs e = absurd (cc (e))
quotas_said (q ∷ qs) [] ss [] e = absurd (cc (e))
quotas_said (q ∷ qs) [] ss (v ∷ vs) e = absurd (cc (e))
quotas_said (q ∷ qs) (u ∷ us) ss vs e = (cc (e), cc (e))

-- the body of quotas without credentials, where there are some
abbrev pub own_body : List QuotaRow → Option Body
own_body [] = None
own_body (q ∷ qs) = Some (body.Quota (q ∷ qs) [])

pub own_filled : (qs : List QuotaRow) → 0 < length qs → own_body qs ≡ Some (body.Quota qs [])
own_filled [] some = absurd (omega (arith, some))
own_filled (q ∷ qs) some = refl

pub own_is : (qs : List QuotaRow) (b : Body) → own_body qs ≡ Some b → b ≡ body.Quota qs []
own_is [] b e = absurd (cc (e))
own_is (q ∷ qs) b e = sym (same_some (body.Quota (q ∷ qs) []) b e)

-- the quotas of a key that may have some are the same, where what it holds is
kind_said : (old new : Image) (k : EntityKey) → has_quotas k ≡ true → entity old k ≡ entity new k → quotas_at k old ≡ quotas_at k new
kind_said old new (key.Client client) kind e = (quotas_said (quotas_at (key.Client client) old) (quotas_at (key.Client client) new) [] [] e).0
kind_said old new (key.User user) kind e = (quotas_said (quotas_at (key.User user) old) (quotas_at (key.User user) new) (scrams_of_user user old) (scrams_of_user user new) e).0
kind_said old new (key.UserClient user client) kind e = (quotas_said (quotas_at (key.UserClient user client) old) (quotas_at (key.UserClient user client) new) [] [] e).0
kind_said old new (key.Ip address) kind e = (quotas_said (quotas_at (key.Ip address) old) (quotas_at (key.Ip address) new) [] [] e).0
kind_said old new (key.Topic name) kind e = absurd (false≢true kind)
kind_said old new (key.Partition topic number) kind e = absurd (false≢true kind)
kind_said old new (key.TopicConfig name) kind e = absurd (false≢true kind)
kind_said old new (key.BrokerConfig broker) kind e = absurd (false≢true kind)
kind_said old new (key.Acl pattern resource name) kind e = absurd (false≢true kind)
kind_said old new key.Producer kind e = absurd (false≢true kind)

-- ---- the znodes of entities with quotas

abbrev IsQuotaKey : EntityKey → Type 0
IsQuotaKey k = IsGoodKey k × (has_quotas k ≡ true)

one_quota : (j k : EntityKey) → IsQuotaKey j → IsQuotaKey k → path_of j ≡ path_of k → j ≡ k
one_quota j k g h same = one_key j k g.0.0 g.0.1 h.0.0 h.0.1 same

module _ (i : Image) (o : IsInOrder i) (w : IsWritable i) where
  abbrev own_held : EntityKey → Option Body
  own_held k = own_body (quotas_at k i)

  found_quota : (q : QuotaEntry) (k : EntityKey) → Contains i.quotas q → key_of q.path ≡ Some k → find bytes_cmp path_of_quotas (path_of k) i.quotas ≡ Some q
  found_quota q k has is = ap (λ p. find bytes_cmp path_of_quotas p i.quotas) (quota_path i o w q k has is) ∙ contained_is_found bytes_order path_of_quotas i.quotas q o.quotas.rising has

  each_by : (q : QuotaEntry) → Contains i.quotas q → (k : Option EntityKey) → key_of q.path ≡ k → (r : Rendered) → Contains (znode_of_quotas q.quotas k) r → (j : EntityKey) × IsQuotaKey j × ((b : Body) × (own_held j ≡ Some b) × (r ≡ znode j b))
  each_by q has None is r gives = absurd (Contains-nil r gives)
  each_by q has (Some k) is r gives = elim (Contains-cons_cases (znode k (body.Quota q.quotas [])) [] r gives) [
    | inl e ↦
        let filled = All-contains IsQuotaFilled i.quotas q o.quotas.filled has in
        (k, (quota_key_good i o w q k has is, quota_kind_of i o w q k has is), (body.Quota q.quotas [], ap (λ f. own_body (quotas_in f)) (found_quota q k has is) ∙ own_filled q.quotas filled.0, sym e))
    | inr none ↦ absurd (Contains-nil r none)
  ]

  own_each : (r : Rendered) → Contains (flat_map own_znodes i.quotas) r → (j : EntityKey) × IsQuotaKey j × ((b : Body) × (own_held j ≡ Some b) × (r ≡ znode j b))
  own_each r has = let f = from_flat own_znodes i.quotas r has in each_by f.source f.has (key_of f.source.path) refl r f.gives

  own_there : (k : EntityKey) (b : Body) → IsQuotaKey k → own_held k ≡ Some b → Contains (flat_map own_znodes i.quotas) (znode k b)
  own_there k b good is = by (find bytes_cmp path_of_quotas (path_of k) i.quotas) refl
    where
      by : (found : Option QuotaEntry) → find bytes_cmp path_of_quotas (path_of k) i.quotas ≡ found → Contains (flat_map own_znodes i.quotas) (znode k b)
      by None e = absurd (let no : own_body [] ≡ Some b = ap (λ f. own_body (quotas_in f)) (sym e) ∙ is in cc (no))
      by (Some q) e =
          let has : Contains i.quotas q = found_is_contained bytes_order path_of_quotas (path_of k) i.quotas q e in
          let at : q.path ≡ path_of k = key_of_found bytes_order path_of_quotas (path_of k) i.quotas q e in
          let named : key_of q.path ≡ Some k = ap key_of at ∙ path_holds k good.0.0 good.0.1 in
          let body_is : b ≡ body.Quota q.quotas [] = own_is q.quotas b (ap (λ f. own_body (quotas_in f)) (sym e) ∙ is) in
          to_flat own_znodes i.quotas q (znode k b) has (subst (λ j. Contains (znode_of_quotas q.quotas j) (znode k b)) (sym named) (subst (λ x. Contains (znode k (body.Quota q.quotas []) ∷ []) (znode k x)) (sym body_is) (Contains-head (znode k (body.Quota q.quotas [])) [])))

  own_given : Gives path_of IsQuotaKey one_quota znode (λ k b. refl) (flat_map own_znodes i.quotas) own_held
  own_given = record { each = own_each; there = own_there }

-- ---- the znodes of users with credentials

abbrev path_of_user : List ℕ → List ℕ
path_of_user name = path_of (key.User (Some name))

abbrev IsUser : List ℕ → Type 0
IsUser name = IsGoodKey (key.User (Some name))

abbrev make_user : List ℕ → Body → Rendered
make_user name b = znode (key.User (Some name)) b

one_user : (a b : List ℕ) → IsUser a → IsUser b → path_of_user a ≡ path_of_user b → a ≡ b
one_user a b g h same = let keys : key.User (Some a) ≡ key.User (Some b) = one_key (key.User (Some a)) (key.User (Some b)) g.0 g.1 h.0 h.1 same in cc (keys)

-- the body of a user with credentials
abbrev pub user_body : List QuotaRow → List ScramPair → Option Body
user_body qs [] = None
user_body qs (s ∷ ss) = Some (body.Quota qs (s ∷ ss))

pub user_filled : (qs : List QuotaRow) (ss : List ScramPair) → 0 < length ss → user_body qs ss ≡ Some (body.Quota qs ss)
user_filled qs [] some = absurd (omega (arith, some))
user_filled qs (s ∷ ss) some = refl

pub user_is : (qs : List QuotaRow) (ss : List ScramPair) (b : Body) → user_body qs ss ≡ Some b → b ≡ body.Quota qs ss
user_is qs [] b e = absurd (cc (e))
user_is qs (s ∷ ss) b e = sym (same_some (body.Quota qs (s ∷ ss)) b e)

module _ (i : Image) (o : IsInOrder i) (w : IsWritable i) where
  abbrev user_held_by : List ℕ → Option Body
  user_held_by name = user_body (quotas_at (key.User (Some name)) i) (scrams_at name i.users)

  user_each : (r : Rendered) → Contains (map (user_znode i.quotas) i.users) r → (name : List ℕ) × IsUser name × ((b : Body) × (user_held_by name ≡ Some b) × (r ≡ make_user name b))
  user_each r has =
      let f = from_map (user_znode i.quotas) i.users r has in
      let u : ScramEntry = f.source in
      let filled = All-contains IsUserFilled i.users u o.users.filled f.has in
      let found : find bytes_cmp name_of_user u.name i.users ≡ Some u = contained_is_found bytes_order name_of_user i.users u o.users.rising f.has in
      (u.name, (user_held i o w u f.has).good, (body.Quota (quotas_of_user u.name i.quotas) u.scrams, ap (λ x. user_body (quotas_at (key.User (Some u.name)) i) (scrams_in x)) found ∙ user_filled (quotas_of_user u.name i.quotas) u.scrams filled.0, f.is))

  user_there : (name : List ℕ) (b : Body) → IsUser name → user_held_by name ≡ Some b → Contains (map (user_znode i.quotas) i.users) (make_user name b)
  user_there name b good is = by (find bytes_cmp name_of_user name i.users) refl
    where
      by : (found : Option ScramEntry) → find bytes_cmp name_of_user name i.users ≡ found → Contains (map (user_znode i.quotas) i.users) (make_user name b)
      by None e = absurd (let no : user_body (quotas_at (key.User (Some name)) i) [] ≡ Some b = ap (λ f. user_body (quotas_at (key.User (Some name)) i) (scrams_in f)) (sym e) ∙ is in cc (no))
      by (Some u) e =
          let has : Contains i.users u = found_is_contained bytes_order name_of_user name i.users u e in
          let at : u.name ≡ name = key_of_found bytes_order name_of_user name i.users u e in
          let body_is : b ≡ body.Quota (quotas_at (key.User (Some name)) i) u.scrams = user_is (quotas_at (key.User (Some name)) i) u.scrams b (ap (λ f. user_body (quotas_at (key.User (Some name)) i) (scrams_in f)) (sym e) ∙ is) in
          let made : user_znode i.quotas u ≡ make_user name b = ap (λ n. znode (key.User (Some n)) (body.Quota (quotas_of_user n i.quotas) u.scrams)) at ∙ ap (make_user name) (sym body_is) in
          subst (Contains (map (user_znode i.quotas) i.users)) made (to_map (user_znode i.quotas) i.users u has)

  users_given : Gives path_of_user IsUser one_user make_user (λ name b. refl) (map (user_znode i.quotas) i.users) user_held_by
  users_given = record { each = user_each; there = user_there }

-- ---- in two metadata

module _ (old new : Image) (oo : IsInOrder old) (wo : IsWritable old) (on : IsInOrder new) (wn : IsWritable new) (p : List ℕ) (hold : HoldTheSame old new p) where
  same_at : (k : EntityKey) → IsGoodKey k → path_of k ≡ p → entity old k ≡ entity new k
  same_at k good at = hold k good (subst (Contains (spanned_paths k)) at (own_path k))

  pub own_alike : last_at p (flat_map own_znodes old.quotas) ≡ last_at p (flat_map own_znodes new.quotas)
  own_alike =
      groups_alike path_of IsQuotaKey one_quota znode (λ k b. refl) p (flat_map own_znodes old.quotas) (flat_map own_znodes new.quotas) (own_held old oo wo) (own_held new on wn) (own_given old oo wo) (own_given new on wn)
      (λ k good at. ap own_body (kind_said old new k good.1 (same_at k good.0 at)))

  pub users_alike : last_at p (map (user_znode old.quotas) old.users) ≡ last_at p (map (user_znode new.quotas) new.users)
  users_alike =
      groups_alike path_of_user IsUser one_user make_user (λ name b. refl) p (map (user_znode old.quotas) old.users) (map (user_znode new.quotas) new.users) (user_held_by old oo wo) (user_held_by new on wn) (users_given old oo wo) (users_given new on wn)
      (λ name good at. let said = quotas_said (quotas_at (key.User (Some name)) old) (quotas_at (key.User (Some name)) new) (scrams_at name old.users) (scrams_at name new.users) (same_at (key.User (Some name)) good at) in (λ j. user_body (said.0 j) (said.1 j)))

  -- ---- the parents of users' clients

  -- Each parent at the path is without data.
  parent_is : (i : Image) (r : Rendered) → Contains (flat_map quota_parents i.quotas) r → r.path ≡ p → r ≡ bare p
  parent_is i r has at = let f = from_flat quota_parents i.quotas r has in by (key_of f.source.path) f.gives
    where
      bare_at : (path : List ℕ) → bare path ≡ r → r ≡ bare p
      bare_at path e = sym e ∙ ap bare (ap (λ (x : Rendered). x.path) e ∙ at)

      by : (k : Option EntityKey) → Contains (client_parents k) r → r ≡ bare p
      by None gives = absurd (Contains-nil r gives)
      by (Some (key.Topic name)) gives = absurd (Contains-nil r gives)
      by (Some (key.Partition topic number)) gives = absurd (Contains-nil r gives)
      by (Some (key.TopicConfig name)) gives = absurd (Contains-nil r gives)
      by (Some (key.BrokerConfig broker)) gives = absurd (Contains-nil r gives)
      by (Some (key.Client client)) gives = absurd (Contains-nil r gives)
      by (Some (key.User user)) gives = absurd (Contains-nil r gives)
      by (Some (key.UserClient user client)) gives = elim (Contains-cons_cases (bare (path_of (key.User user))) (bare (clients_path (key.User user)) ∷ []) r gives) [
        | inl e ↦ bare_at (path_of (key.User user)) e
        | inr later ↦ elim (Contains-cons_cases (bare (clients_path (key.User user))) [] r later) [
          | inl e ↦ bare_at (clients_path (key.User user)) e
          | inr none ↦ absurd (Contains-nil r none)
        ]
      ]
      by (Some (key.Ip address)) gives = absurd (Contains-nil r gives)
      by (Some (key.Acl pattern kind name)) gives = absurd (Contains-nil r gives)
      by (Some key.Producer) gives = absurd (Contains-nil r gives)

  module _ (i j : Image) (oi : IsInOrder i) (wi : IsWritable i) (oj : IsInOrder j) (same : (k : EntityKey) → IsGoodKey k → Contains (spanned_paths k) p → entity i k ≡ entity j k) where
    -- the parents of a client are there in the other, too
    client_there : (user client : Option (List ℕ)) (q : QuotaEntry) → Contains i.quotas q → key_of q.path ≡ Some (key.UserClient user client) → Contains (spanned_paths (key.UserClient user client)) p
        → (r : Rendered) → Contains (client_parents (Some (key.UserClient user client))) r → Contains (flat_map quota_parents j.quotas) r
    client_there user client q has is within r gives =
        let k : EntityKey = key.UserClient user client in
        let good = quota_key_good i oi wi q k has is in
        let quotas : quotas_at k i ≡ quotas_at k j = kind_said i j k refl (same k good within) in
        let here : quotas_at k i ≡ q.quotas = ap quotas_in (found_quota i oi wi q k has is) in
        by good (find bytes_cmp path_of_quotas (path_of k) j.quotas) refl (subst (λ (qs : List QuotaRow). 0 < length qs) (sym here ∙ quotas) (All-contains IsQuotaFilled i.quotas q oi.quotas.filled has).0)
      where
        by : IsGoodKey (key.UserClient user client) → (found : Option QuotaEntry) → find bytes_cmp path_of_quotas (path_of (key.UserClient user client)) j.quotas ≡ found
            → 0 < length (quotas_at (key.UserClient user client) j) → Contains (flat_map quota_parents j.quotas) r
        by good None e some = absurd (let none : 0 < length (quotas_in None) = subst (λ f. 0 < length (quotas_in f)) e some in omega (arith, none))
        by good (Some x) e some =
            let at : x.path ≡ path_of (key.UserClient user client) = key_of_found bytes_order path_of_quotas (path_of (key.UserClient user client)) j.quotas x e in
            let named : key_of x.path ≡ Some (key.UserClient user client) = ap key_of at ∙ path_holds (key.UserClient user client) good.0 good.1 in
            to_flat quota_parents j.quotas x r (found_is_contained bytes_order path_of_quotas (path_of (key.UserClient user client)) j.quotas x e) (subst (λ m. Contains (client_parents m) r) (sym named) gives)

    parent_by : (q : QuotaEntry) → Contains i.quotas q → (k : Option EntityKey) → key_of q.path ≡ k → (r : Rendered) → r.path ≡ p → Contains (client_parents k) r → Contains (flat_map quota_parents j.quotas) r
    parent_by q has None is r at gives = absurd (Contains-nil r gives)
    parent_by q has (Some (key.Topic name)) is r at gives = absurd (Contains-nil r gives)
    parent_by q has (Some (key.Partition topic number)) is r at gives = absurd (Contains-nil r gives)
    parent_by q has (Some (key.TopicConfig name)) is r at gives = absurd (Contains-nil r gives)
    parent_by q has (Some (key.BrokerConfig broker)) is r at gives = absurd (Contains-nil r gives)
    parent_by q has (Some (key.Client client)) is r at gives = absurd (Contains-nil r gives)
    parent_by q has (Some (key.User user)) is r at gives = absurd (Contains-nil r gives)
    parent_by q has (Some (key.UserClient user client)) is r at gives =
        let k : EntityKey = key.UserClient user client in
        client_there user client q has is (elim (Contains-cons_cases (bare (path_of (key.User user))) (bare (clients_path (key.User user)) ∷ []) r gives) [
          | inl e ↦ subst (Contains (spanned_paths k)) (ap (λ (x : Rendered). x.path) e ∙ at) (Contains-head (path_of (key.User user)) (clients_path (key.User user) ∷ path_of k ∷ []))
          | inr later ↦ elim (Contains-cons_cases (bare (clients_path (key.User user))) [] r later) [
            | inl e ↦ subst (Contains (spanned_paths k)) (ap (λ (x : Rendered). x.path) e ∙ at) (second_of (path_of (key.User user)) (clients_path (key.User user)) (path_of k ∷ []))
            | inr none ↦ absurd (Contains-nil r none)
          ]
        ]) r gives
    parent_by q has (Some (key.Ip address)) is r at gives = absurd (Contains-nil r gives)
    parent_by q has (Some (key.Acl pattern kind name)) is r at gives = absurd (Contains-nil r gives)
    parent_by q has (Some key.Producer) is r at gives = absurd (Contains-nil r gives)

    parent_there : (r : Rendered) → last_at p (flat_map quota_parents i.quotas) ≡ Some r → (s : Rendered) × (last_at p (flat_map quota_parents j.quotas) ≡ Some s)
    parent_there r e =
        let l = last_found p (flat_map quota_parents i.quotas) r e in
        let f = from_flat quota_parents i.quotas r l.0 in
        last_there p (flat_map quota_parents j.quotas) r (parent_by f.source f.has (key_of f.source.path) refl r l.1 f.gives) l.1

  pub parents_alike : last_at p (flat_map quota_parents old.quotas) ≡ last_at p (flat_map quota_parents new.quotas)
  parents_alike =
      alike_by_one p (bare p) (flat_map quota_parents old.quotas) (flat_map quota_parents new.quotas) (parent_is old) (parent_is new)
      (parent_there old new oo wo on (λ k good within. hold k good within)) (parent_there new old on wn oo (λ k good within. sym (hold k good within)))
