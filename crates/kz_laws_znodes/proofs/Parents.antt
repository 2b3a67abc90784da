-- What the parents of users' clients have at a path.
use Rattle.std.proofs.Common.{◌≡◌, ℕ, ◌/◌, ◌%◌, ◌==◌, length, Bool, true, false, cond, ◌&&◌, List, [], ◌∷◌, ◌++◌, Option, Some, None, Contains, refl, sym, ap, ◌∙◌, subst, inl, inr, arith, codes, append_assoc}
use Rattle.std.specs.Prelude.{option_map, option_and_then}
use Rattle.std.specs.Str.{bytes_eq}
use Rattle.std.specs.List.{flat_map, list_all, slice_split, join_with_byte}
use Rattle.std.proofs.lemmas.Bool.{false≢true, and_parts}
use Rattle.std.proofs.lemmas.List.Splits.{length-slice_split, join_with_byte-slice_split}
use Rattle.kz_types.specs.declared.tree.Rendered.{Rendered}
use Rattle.kz_types.specs.declared.image.QuotaEntry.{QuotaEntry}
use Rattle.kz_types.specs.declared.key.EntityKey.{EntityKey}
use Rattle.kz_types.specs.declared.key.EntityKey.TheVariants as key
use Rattle.kz_types.specs.PathRule.{is_path, is_part, parts}
use Rattle.kz_types.specs.Paths.{default_or, name_of_part, part_for_name, part_or_default, are, is_plain, hex_digit, is_absent_or, is_not_empty, is_legal, key_of, key_of_parts, path_of}
use Rattle.kz_types.proofs.KeyLemmas.{path_of_key_of, three_path}
use Rattle.kz_types.proofs.NumberLemmas.{bytes_eq-true}
use Rattle.kz_types.proofs.PathRules.{parts_are_legal, split_of_path}
use Rattle.kz_types.proofs.Lookup.{some_is_none, same_some, Contains-head, Contains-nil, Contains-cons_cases}
use Rattle.kz_spec_data.specs.Tree.{path_of_rendered}
use Rattle.kz_spec_data.specs.Metadata.{Image}
use Rattle.kz_spec_data.specs.InOrder.{IsInOrder}
use Rattle.kz_spec_data.specs.Rendering.{bare, client_parents, quota_parents}
use Rattle.kz_laws_values.proofs.Legal.{IsGoodKey}
use Rattle.kz_laws_values.proofs.Names.{taken}
use Rattle.kz_laws_values.proofs.Keys.{path_holds}
use Rattle.kz_laws_values.proofs.Parts.{HasNoSlash, split_part, part_has_none, sanitised_has_none, named_is_read}
use Rattle.kz_laws_values.proofs.Texts.{key_good}
use Rattle.kz_laws_znodes.proofs.Within.{from_flat, to_flat}
use Rattle.kz_laws_znodes.proofs.Scaffolds.{clients_scaffold}
use Rattle.kz_spec_data.specs.Spans.{clients_path}
use Rattle.kz_spec_data.specs.Lookups.{has_quotas_below, is_parent_of_clients}
use Rattle.kz_laws_znodes.proofs.Lasts.{last_at}
use Rattle.kz_laws_znodes.proofs.Spans.{second_of}
use Rattle.kz_laws_znodes.specs.Lookups.{AreKeysRead}
use Rattle.kz_laws_znodes.proofs.Facts.{quota_placed, quota_good, quota_read}
use Rattle.kz_laws_znodes.proofs.Settled.{settled}
use Rattle.kz_laws_znodes.proofs.Roots.{bare_at}
use Rattle.kz_laws_znodes.proofs.Below.{below_found, below_gives}

-- whether a user or the parent of its clients is there at a path, for the sake of its clients
abbrev pub is_parent : Image → List ℕ → Option EntityKey → Bool
is_parent i p None = is_parent_of_clients i p (parts p)
is_parent i p (Some (key.User user)) = has_quotas_below p i
is_parent i p (Some k) = false

-- ---- the paths of users' clients

abbrev part_of : Option (List ℕ) → List ℕ
part_of name = part_or_default part_for_name name

-- a part has a byte
part_begins : (name : Option (List ℕ)) → is_absent_or is_not_empty name ≡ true → (b : ℕ) × ((bs : List ℕ) × (part_of name ≡ b ∷ bs))
unfolding part_for_name
part_begins None h = (60, (codes "default>", refl))
part_begins (Some []) h = absurd (false≢true h)
part_begins (Some (c ∷ cs)) h = by (is_plain c)
  where
    by : (t : Bool) → (b : ℕ) × ((bs : List ℕ) × (cond t (c ∷ []) (37 ∷ hex_digit (c / 16) ∷ hex_digit (c % 16) ∷ []) ++ part_for_name cs ≡ b ∷ bs))
    by true = (c, (part_for_name cs, refl))
    by false = (37, (hex_digit (c / 16) ∷ hex_digit (c % 16) ∷ part_for_name cs, refl))

below_user : (user client : Option (List ℕ)) → path_of (key.UserClient user client) ≡ (path_of (key.User user) ++ codes "/") ++ (codes "clients/" ++ part_of client)
unfolding path_of
below_user user client = ap (λ bs. codes "/config/users/" ++ bs) (sym (append_assoc (part_of user) (codes "/") (codes "clients/" ++ part_of client)))

below_clients : (user client : Option (List ℕ)) → path_of (key.UserClient user client) ≡ (clients_path (key.User user) ++ codes "/") ++ part_of client
unfolding path_of
below_clients user client =
    ap (λ bs. codes "/config/users/" ++ bs) (sym (append_assoc (part_of user ++ codes "/clients") (codes "/") (part_of client) ∙ append_assoc (part_of user) (codes "/clients") (codes "/" ++ part_of client)))

clients_parts : (user : Option (List ℕ)) → parts (clients_path (key.User user)) ≡ codes "config" ∷ codes "users" ∷ part_of user ∷ codes "clients" ∷ []
unfolding path_of
clients_parts user = ap (λ ps. codes "config" ∷ codes "users" ∷ ps) (split_part (part_of user) (codes "clients") (sanitised_has_none user))

user_good : (user client : Option (List ℕ)) → IsGoodKey (key.UserClient user client) → IsGoodKey (key.User user)
unfolding is_legal
user_good user client good = ((and_parts (is_absent_or is_not_empty user) (is_absent_or is_not_empty client) good.0).0, good.1.0)

client_named : (user client : Option (List ℕ)) → IsGoodKey (key.UserClient user client) → is_absent_or is_not_empty client ≡ true
unfolding is_legal
client_named user client good = (and_parts (is_absent_or is_not_empty user) (is_absent_or is_not_empty client) good.0).1

-- ---- the key of a path below a user

-- What a key below a user is.
record IsClientOf (c : List ℕ) (k : EntityKey) : Type 0 where
  user : Option (List ℕ)
  client : Option (List ℕ)
  is : k ≡ key.UserClient user client
  read : default_or name_of_part c ≡ Some user

mapped : {A B : Type 0} (f : A → B) (o : Option A) (b : B) → option_map f o ≡ Some b → (a : A) × (o ≡ Some a) × (f a ≡ b)
mapped f None b h = cc h
mapped f (Some a) b h = (a, refl, cc h)

chained : {A B : Type 0} (f : A → Option B) (o : Option A) (b : B) → option_and_then f o ≡ Some b → (a : A) × (o ≡ Some a) × (f a ≡ Some b)
chained f None b h = cc h
chained f (Some a) b h = (a, refl, h)

client_below : (c : List ℕ) → HasNoSlash c → (rest : List ℕ) (k : EntityKey) → key_of (codes "/config/users/" ++ (c ++ 47 ∷ rest)) ≡ Some k → IsClientOf c k
unfolding key_of
client_below c none rest k is = by (slice_split (λ b. b == 47) rest) refl (sym (ap (λ ps. key_of_parts (codes "config" ∷ codes "users" ∷ ps)) (split_part c rest none)) ∙ is)
  where
    by : (ps : List (List ℕ)) → slice_split (λ b. b == 47) rest ≡ ps → key_of_parts (codes "config" ∷ codes "users" ∷ c ∷ ps) ≡ Some k → IsClientOf c k
    by [] e h = let l = ap length (sym e) ∙ length-slice_split (λ b. b == 47) rest in absurd (omega (arith, l))
    by (x ∷ []) e h = absurd (some_is_none (sym h))
    by (x ∷ y ∷ []) e h = elim (taken (bytes_eq x (codes "clients")) (option_and_then (λ user. option_map (λ client. key.UserClient user client) (default_or name_of_part y)) (default_or name_of_part c)) None k h) [
      | inl same ↦
          let u = chained (λ user. option_map (λ client. key.UserClient user client) (default_or name_of_part y)) (default_or name_of_part c) k same.1 in
          let m = mapped (λ client. key.UserClient u.0 client) (default_or name_of_part y) k u.2 in
          record { user = u.0; client = m.0; is = sym m.2; read = u.1 }
      | inr other ↦ absurd (some_is_none (sym other.1))
    ]
    by (x ∷ y ∷ z ∷ []) e h = absurd (some_is_none (sym h))
    by (x ∷ y ∷ z ∷ v ∷ more) e h = absurd (some_is_none (sym h))

module _ (i : Image) (o : IsInOrder i) (read : AreKeysRead i) (p : List ℕ) (rule : is_path p ≡ true) where
  abbrev found : Option EntityKey → Option Rendered
  found k = bare_at p (is_parent i p k)

  -- ---- each parent at the path is found

  module _ (user client : Option (List ℕ)) (q : QuotaEntry) (has : Contains i.quotas q) (is : key_of q.path ≡ Some (key.UserClient user client)) (r : Rendered) (at : r.path ≡ p) where
    abbrev this : EntityKey
    this = key.UserClient user client

    good : IsGoodKey this
    good = quota_good i o q this has is

    placed : q.path ≡ path_of this
    placed = sym (quota_placed i o q this has is)

    user_found : bare (path_of (key.User user)) ≡ r → found (key_of p) ≡ Some r
    user_found e =
        let here : path_of (key.User user) ≡ p = ap path_of_rendered e ∙ at in
        let has_below : has_quotas_below p i ≡ true = subst (λ z. has_quotas_below z i ≡ true) here (below_found (path_of (key.User user)) i o.quotas.rising q has 99 (codes "lients/" ++ part_of client) (placed ∙ below_user user client)) in
        let user_key = user_good user client good in
        let holds : key_of p ≡ Some (key.User user) = ap key_of (sym here) ∙ path_holds (key.User user) user_key.0 user_key.1 in
        ap found holds ∙ ap (bare_at p) has_below ∙ ap (λ x. Some x) (ap bare (sym here) ∙ e)

    clients_found : bare (clients_path (key.User user)) ≡ r → found (key_of p) ≡ Some r
    clients_found e =
        let here : clients_path (key.User user) ≡ p = ap path_of_rendered e ∙ at in
        let b = part_begins client (client_named user client good) in
        let path : q.path ≡ (clients_path (key.User user) ++ codes "/") ++ (b.0 ∷ b.1.0) = placed ∙ below_clients user client ∙ ap (λ z. (clients_path (key.User user) ++ codes "/") ++ z) b.1.1 in
        let has_below : has_quotas_below p i ≡ true = subst (λ z. has_quotas_below z i ≡ true) here (below_found (clients_path (key.User user)) i o.quotas.rising q has b.0 b.1.0 path) in
        let none : key_of p ≡ None = ap key_of (sym here) ∙ (clients_scaffold user good.1.0).none in
        let parts_are : parts p ≡ codes "config" ∷ codes "users" ∷ part_of user ∷ codes "clients" ∷ [] = ap parts (sym here) ∙ clients_parts user in
        ap found none ∙ ap (λ ps. bare_at p (is_parent_of_clients i p ps)) parts_are ∙ ap (bare_at p) has_below ∙ ap (λ x. Some x) (ap bare (sym here) ∙ e)

    client_found : Contains (client_parents (Some this)) r → found (key_of p) ≡ Some r
    client_found gives = elim (Contains-cons_cases (bare (path_of (key.User user))) (bare (clients_path (key.User user)) ∷ []) r gives) [
      | inl e ↦ user_found e
      | inr later ↦ elim (Contains-cons_cases (bare (clients_path (key.User user))) [] r later) [
        | inl e ↦ clients_found e
        | inr none ↦ absurd (Contains-nil r none)
      ]
    ]

  found_by : (q : QuotaEntry) → Contains i.quotas q → (k : Option EntityKey) → key_of q.path ≡ k → (r : Rendered) → r.path ≡ p → Contains (client_parents k) r → found (key_of p) ≡ Some r
  found_by q has None is r at gives = absurd (Contains-nil r gives)
  found_by q has (Some (key.Topic name)) is r at gives = absurd (Contains-nil r gives)
  found_by q has (Some (key.Partition topic number)) is r at gives = absurd (Contains-nil r gives)
  found_by q has (Some (key.TopicConfig name)) is r at gives = absurd (Contains-nil r gives)
  found_by q has (Some (key.BrokerConfig broker)) is r at gives = absurd (Contains-nil r gives)
  found_by q has (Some (key.Client client)) is r at gives = absurd (Contains-nil r gives)
  found_by q has (Some (key.User user)) is r at gives = absurd (Contains-nil r gives)
  found_by q has (Some (key.UserClient user client)) is r at gives = client_found user client q has is r at gives
  found_by q has (Some (key.Ip address)) is r at gives = absurd (Contains-nil r gives)
  found_by q has (Some (key.Acl pattern kind name)) is r at gives = absurd (Contains-nil r gives)
  found_by q has (Some key.Producer) is r at gives = absurd (Contains-nil r gives)

  parent_each : (r : Rendered) → Contains (flat_map quota_parents i.quotas) r → r.path ≡ p → found (key_of p) ≡ Some r
  parent_each r has at = let f = from_flat quota_parents i.quotas r has in found_by f.source f.has (key_of f.source.path) refl r at f.gives

  -- ---- what is found is a parent

  -- an entry below a path of users, whose third part is this one
  module _ (c : List ℕ) (none : HasNoSlash c) (q : QuotaEntry) (has : Contains i.quotas q) (rest : List ℕ) (path : q.path ≡ codes "/config/users/" ++ (c ++ 47 ∷ rest)) where
    client_of : IsClientOf c (quota_read i o read q has).0
    client_of = let k = quota_read i o read q has in client_below c none rest k.0 (ap key_of (sym path) ∙ k.1)

    parents_there : (r : Rendered) → Contains (client_parents (Some (key.UserClient client_of.user client_of.client))) r → Contains (flat_map quota_parents i.quotas) r
    parents_there r gives =
        let k = quota_read i o read q has in
        to_flat quota_parents i.quotas q r has (subst (λ k. Contains (client_parents k) r) (sym (k.1 ∙ ap (λ k. Some k) client_of.is)) gives)

  from_user : (user : Option (List ℕ)) → key_of p ≡ Some (key.User user) → has_quotas_below p i ≡ true → Contains (flat_map quota_parents i.quotas) (bare p)
  unfolding path_of
  from_user user e has_below =
      let here : path_of (key.User user) ≡ p = path_of_key_of p (key.User user) rule e in
      let b = below_gives p i has_below in
      let q : QuotaEntry = b.0 in
      let rest : List ℕ = b.2.0 in
      let path : q.path ≡ codes "/config/users/" ++ (part_of user ++ 47 ∷ rest) =
      b.2.1 ∙ ap (λ z. (z ++ codes "/") ++ rest) (sym here) ∙ ap (λ bs. codes "/config/users/" ++ bs) (append_assoc (part_of user) (codes "/") rest) in
      let c = client_of (part_of user) (sanitised_has_none user) q b.1 rest path in
      let good = key_good p (key.User user) rule e in
      let same : c.user ≡ user = same_some c.user user (sym c.read ∙ named_is_read user good.1) in
      parents_there (part_of user) (sanitised_has_none user) q b.1 rest path (bare p)
      (subst (λ z. Contains (bare (path_of (key.User c.user)) ∷ bare (clients_path (key.User c.user)) ∷ []) (bare z)) (ap (λ u. path_of (key.User u)) same ∙ here) (Contains-head (bare (path_of (key.User c.user))) (bare (clients_path (key.User c.user)) ∷ [])))

  from_clients : (a b c d : List ℕ) → parts p ≡ a ∷ b ∷ c ∷ d ∷ [] → are a b (codes "config") (codes "users") && (bytes_eq d (codes "clients") && has_quotas_below p i) ≡ true → Contains (flat_map quota_parents i.quotas) (bare p)
  unfolding path_of
  from_clients a b c d e h =
      let k = and_parts (are a b (codes "config") (codes "users")) (bytes_eq d (codes "clients") && has_quotas_below p i) h in
      let words = and_parts (bytes_eq a (codes "config")) (bytes_eq b (codes "users")) k.0 in
      let last = and_parts (bytes_eq d (codes "clients")) (has_quotas_below p i) k.1 in
      let first : a ≡ codes "config" = bytes_eq-true a (codes "config") words.0 in
      let second : b ≡ codes "users" = bytes_eq-true b (codes "users") words.1 in
      let fourth : d ≡ codes "clients" = bytes_eq-true d (codes "clients") last.0 in
      let legal : is_part a && (is_part b && (is_part c && (is_part d && true))) ≡ true = ap (list_all is_part) (sym e) ∙ parts_are_legal p rule in
      let part : is_part c ≡ true = (and_parts (is_part c) (is_part d && true) (and_parts (is_part b) (is_part c && (is_part d && true)) (and_parts (is_part a) (is_part b && (is_part c && (is_part d && true))) legal).1).1).0 in
      let none : HasNoSlash c = part_has_none c part in
      let here : p ≡ codes "/config/users/" ++ (c ++ codes "/clients") =
      sym (join_with_byte-slice_split 47 p) ∙ ap (join_with_byte 47) (split_of_path p rule ∙ ap (λ ps. [] ∷ ps) e) ∙ (λ j. 47 ∷ (first j ++ 47 ∷ (second j ++ 47 ∷ (c ++ 47 ∷ fourth j)))) in
      let g = below_gives p i last.1 in
      let q : QuotaEntry = g.0 in
      let rest : List ℕ = g.2.0 in
      let path : q.path ≡ codes "/config/users/" ++ (c ++ 47 ∷ (codes "clients/" ++ rest)) =
      g.2.1 ∙ ap (λ z. (z ++ codes "/") ++ rest) here ∙ ap (λ bs. codes "/config/users/" ++ bs) (append_assoc (c ++ codes "/clients") (codes "/") rest ∙ append_assoc c (codes "/clients") (codes "/" ++ rest)) in
      let m = client_of c none q g.1 (codes "clients/" ++ rest) path in
      let user_path : path_of (key.User m.user) ≡ codes "/config/users/" ++ c = three_path (codes "config") (codes "users") c (key.User m.user) (ap (option_map (λ user. key.User user)) m.read) in
      parents_there c none q g.1 (codes "clients/" ++ rest) path (bare p)
      (subst (λ z. Contains (bare (path_of (key.User m.user)) ∷ bare (clients_path (key.User m.user)) ∷ []) (bare z)) (ap (λ z. z ++ codes "/clients") user_path ∙ sym here) (second_of (bare (path_of (key.User m.user))) (bare (clients_path (key.User m.user))) []))

  by_parts : (ps : List (List ℕ)) → parts p ≡ ps → is_parent_of_clients i p ps ≡ true → Contains (flat_map quota_parents i.quotas) (bare p)
  by_parts [] e h = absurd (false≢true h)
  by_parts (a ∷ []) e h = absurd (false≢true h)
  by_parts (a ∷ b ∷ []) e h = absurd (false≢true h)
  by_parts (a ∷ b ∷ c ∷ []) e h = absurd (false≢true h)
  by_parts (a ∷ b ∷ c ∷ d ∷ []) e h = from_clients a b c d e h
  by_parts (a ∷ b ∷ c ∷ d ∷ f ∷ more) e h = absurd (false≢true h)

  by_key : (k : Option EntityKey) → key_of p ≡ k → is_parent i p k ≡ true → Contains (flat_map quota_parents i.quotas) (bare p)
  by_key None e h = by_parts (parts p) refl h
  by_key (Some (key.User user)) e h = from_user user e h
  by_key (Some (key.Topic name)) e h = absurd (false≢true h)
  by_key (Some (key.Partition topic number)) e h = absurd (false≢true h)
  by_key (Some (key.TopicConfig name)) e h = absurd (false≢true h)
  by_key (Some (key.BrokerConfig broker)) e h = absurd (false≢true h)
  by_key (Some (key.Client client)) e h = absurd (false≢true h)
  by_key (Some (key.UserClient user client)) e h = absurd (false≢true h)
  by_key (Some (key.Ip address)) e h = absurd (false≢true h)
  by_key (Some (key.Acl pattern kind name)) e h = absurd (false≢true h)
  by_key (Some key.Producer) e h = absurd (false≢true h)

  parent_there : (r : Rendered) → found (key_of p) ≡ Some r → Contains (flat_map quota_parents i.quotas) r × (r.path ≡ p)
  parent_there r is = by (is_parent i p (key_of p)) refl is
    where
      by : (t : Bool) → is_parent i p (key_of p) ≡ t → bare_at p t ≡ Some r → Contains (flat_map quota_parents i.quotas) r × (r.path ≡ p)
      by false h is = absurd (some_is_none (sym is))
      by true h is = let same : bare p ≡ r = same_some (bare p) r is in (subst (Contains (flat_map quota_parents i.quotas)) same (by_key (key_of p) refl h), ap path_of_rendered (sym same))

  pub parents_at : last_at p (flat_map quota_parents i.quotas) ≡ bare_at p (is_parent i p (key_of p))
  parents_at = settled p (flat_map quota_parents i.quotas) (found (key_of p)) (record { each = parent_each; there = parent_there })
