-- What stands above a rendered path: nothing but the root, a base znode, or what is rendered too.
use Rattle.std.proofs.Common.{◌≡◌, ◌⊎◌, ℕ, ◌||◌, ℤ, pos, Bool, true, false, ◌&&◌, if◌then◌else◌, List, [], ◌∷◌, ◌++◌, Option, Some, None, is_some, Contains, All, refl, sym, ap, ◌∙◌, subst, inl, inr, append_assoc, map, codes, rules}
use Rattle.std.specs.Prelude.{option_map}
use Rattle.std.specs.Ordering.{int_eq}
use Rattle.std.specs.Fmt.{signed_decimal}
use Rattle.std.proofs.lemmas.Bool.{and_parts, false≢true}
use Rattle.std.proofs.lemmas.List.Elements.{All-contains, All-map, All-from_recursion}
use Rattle.kz_types.specs.declared.tree.Rendered.{Rendered}
use Rattle.kz_types.specs.declared.key.EntityKey.{EntityKey}
use Rattle.kz_types.specs.declared.key.EntityKey.TheVariants as key
use Rattle.kz_types.specs.declared.image.TopicEntry.{TopicEntry}
use Rattle.kz_types.specs.declared.image.PartitionEntry.{PartitionEntry}
use Rattle.kz_types.specs.declared.image.QuotaEntry.{QuotaEntry}
use Rattle.kz_types.specs.declared.image.AclEntry.{AclEntry}
use Rattle.kz_types.specs.Numbers.{canonical}
use Rattle.kz_types.specs.PathRule.{is_part, is_shown}
use Rattle.kz_types.specs.Paths.{roots, base_paths, is_among, path_of, key_of, is_legal, part_for_name, part_or_default, resource_type_name, is_pattern, is_resource_type}
use Rattle.kz_types.proofs.KeyLemmas.{path_of_key_of}
use Rattle.kz_types.proofs.Order.{bytes_order}
use Rattle.kz_types.proofs.Lookup.{found_is_contained, key_of_found}
use Rattle.kz_types.proofs.Puts.{Contains-all_put_cases}
use Rattle.kz_spec_data.specs.Image.{Image}
use Rattle.kz_spec_data.specs.Legal.{IsTopic, IsAcl}
use Rattle.kz_spec_data.specs.InOrder.{IsInOrder, IsQuotaFilled, is_below_quota_root}
use Rattle.kz_spec_data.specs.Tree.{parent_of, is_root, path_of_rendered}
use Rattle.kz_spec_data.specs.Rendering.{bare, partitions_path, number_path, broker_key, entity_znodes, render}
use Rattle.kz_laws_values.proofs.Parts.{HasNoSlash, passed_has_none, topic_has_none, part_has_none, sanitised_has_none, address_has_none}
use Rattle.kz_laws_values.proofs.Texts.{key_good}
use Rattle.kz_laws_machine.proofs.Area.{find_rendered}
use Rattle.kz_laws_machine.proofs.Children.{parent_of_child, signed_has_none}
use Rattle.kz_laws_machine.proofs.Places.{Place, at_topic, at_partitions, at_number, at_state, at_topic_config, at_broker, at_client_user, at_clients, at_quota, at_user, at_acl, at_producer, IsPlaced, entities_placed}
use Rattle.kz_laws_machine.proofs.Shown.{Shows, shows_root, shows_topic, shows_partitions, shows_number, shows_user, shows_clients}

-- A path that may stand above a rendered one.
pub data Above (i : Image) (q : List ℕ) : Type 0 where
  top : is_root q ≡ true → Above i q
  base : is_among base_paths q ≡ true → Above i q
  shown : Shows i q → Above i q

-- ---- below a root

-- the parent is a root
below_root : (i : Image) (root part : List ℕ) → is_some (find_rendered root (map bare roots)) ≡ true → HasNoSlash part → Above i (parent_of (root ++ 47 ∷ part))
below_root i root part is none = subst (Above i) (sym (parent_of_child root part none)) (shown (shows_root i root is))

above_topic : (i : Image) (name : List ℕ) → HasNoSlash name → Above i (parent_of (path_of (key.Topic name)))
unfolding path_of roots
above_topic i name none = below_root i (codes "/brokers/topics") name refl none

above_topic_config : (i : Image) (name : List ℕ) → HasNoSlash name → Above i (parent_of (path_of (key.TopicConfig name)))
unfolding path_of roots
above_topic_config i name none = below_root i (codes "/config/topics") name refl none

broker_has_none : (b : Option ℤ) → HasNoSlash (part_or_default signed_decimal b)
broker_has_none None = sanitised_has_none None
broker_has_none (Some id) = signed_has_none id

above_broker : (i : Image) (b : Option ℤ) → Above i (parent_of (path_of (key.BrokerConfig b)))
unfolding path_of roots
above_broker i b = below_root i (codes "/config/brokers") (part_or_default signed_decimal b) refl (broker_has_none b)

above_client : (i : Image) (client : Option (List ℕ)) → Above i (parent_of (path_of (key.Client client)))
unfolding path_of roots
above_client i client = below_root i (codes "/config/clients") (part_or_default part_for_name client) refl (sanitised_has_none client)

above_user : (i : Image) (user : Option (List ℕ)) → Above i (parent_of (path_of (key.User user)))
unfolding path_of roots
above_user i user = below_root i (codes "/config/users") (part_or_default part_for_name user) refl (sanitised_has_none user)

above_ip : (i : Image) (address : Option (List ℕ)) → HasNoSlash (part_or_default (λ a. a) address) → Above i (parent_of (path_of (key.Ip address)))
unfolding path_of roots
above_ip i address none = below_root i (codes "/config/ips") (part_or_default (λ a. a) address) refl none

acl_root : (literal one two three four : Bool)
    → is_some (find_rendered ((if literal then codes "/kafka-acl/" else codes "/kafka-acl-extended/prefixed/")
    ++ (if one then codes "Topic" else if two then codes "Group" else if three then codes "Cluster" else if four then codes "TransactionalId" else codes "DelegationToken")) (map bare roots)) ≡ true
unfolding roots
acl_root true true two three four = refl
acl_root true false true three four = refl
acl_root true false false true four = refl
acl_root true false false false true = refl
acl_root true false false false false = refl
acl_root false true two three four = refl
acl_root false false true three four = refl
acl_root false false false true four = refl
acl_root false false false false true = refl
acl_root false false false false false = refl

above_acl : (i : Image) (pattern kind : ℤ) (name : List ℕ) → HasNoSlash name → Above i (parent_of (path_of (key.Acl pattern kind name)))
unfolding path_of
above_acl i pattern kind name none =
    let front : List ℕ = if int_eq pattern (pos 3) then codes "/kafka-acl/" else codes "/kafka-acl-extended/prefixed/" in
    subst (λ p. Above i (parent_of p)) (append_assoc front (resource_type_name kind) (47 ∷ name))
    (below_root i (front ++ resource_type_name kind) name (acl_root (int_eq pattern (pos 3)) (int_eq kind (pos 2)) (int_eq kind (pos 3)) (int_eq kind (pos 4)) (int_eq kind (pos 5))) none)

above_producer : (i : Image) → Above i (parent_of (path_of key.Producer))
unfolding path_of
above_producer i = top refl

-- ---- below what is rendered

-- the parent is rendered
below_shown : (i : Image) (q part : List ℕ) → Shows i q → HasNoSlash part → Above i (parent_of (q ++ 47 ∷ part))
below_shown i q part is none = subst (Above i) (sym (parent_of_child q part none)) (shown is)

above_partitions : (i : Image) (t : TopicEntry) → Contains i.topics t → Above i (parent_of (partitions_path t.name))
above_partitions i t has = below_shown i (path_of (key.Topic t.name)) (codes "partitions") (shows_topic i t has) (passed_has_none is_shown refl (codes "partitions") refl)

above_number : (i : Image) (t : TopicEntry) (n : ℤ) → Contains i.topics t → Above i (parent_of (number_path t.name n))
above_number i t n has = below_shown i (partitions_path t.name) (signed_decimal n) (shows_partitions i t has) (signed_has_none n)

state_is_below : (name : List ℕ) (n : ℤ) → number_path name n ++ 47 ∷ codes "state" ≡ path_of (key.Partition name n)
unfolding path_of
state_is_below name n =
    append_assoc (partitions_path name) (codes "/" ++ signed_decimal n) (codes "/state")
    ∙ append_assoc (codes "/brokers/topics/" ++ name) (codes "/partitions") (codes "/" ++ (signed_decimal n ++ codes "/state"))
    ∙ append_assoc (codes "/brokers/topics/") name (codes "/partitions/" ++ (signed_decimal n ++ codes "/state"))

above_state : (i : Image) (t : TopicEntry) (p : PartitionEntry) → Contains i.topics t → Contains t.partitions p → Above i (parent_of (path_of (key.Partition t.name p.number)))
above_state i t p has within = subst (λ q. Above i (parent_of q)) (state_is_below t.name p.number)
    (below_shown i (number_path t.name p.number) (codes "state") (shows_number i t p has within) (passed_has_none is_shown refl (codes "state") refl))

above_clients : (i : Image) (q : QuotaEntry) (user client : Option (List ℕ)) → Contains i.quotas q → key_of q.path ≡ Some (key.UserClient user client) → Above i (parent_of (path_of (key.User user) ++ codes "/clients"))
above_clients i q user client has is = below_shown i (path_of (key.User user)) (codes "clients") (shows_user i q user client has is) (passed_has_none is_shown refl (codes "clients") refl)

client_is_below : (user client : Option (List ℕ)) → (path_of (key.User user) ++ codes "/clients") ++ 47 ∷ part_or_default part_for_name client ≡ path_of (key.UserClient user client)
unfolding path_of
client_is_below user client =
    append_assoc (codes "/config/users/" ++ part_or_default part_for_name user) (codes "/clients") (codes "/" ++ part_or_default part_for_name client)
    ∙ append_assoc (codes "/config/users/") (part_or_default part_for_name user) (codes "/clients/" ++ part_or_default part_for_name client)

above_user_client : (i : Image) (q : QuotaEntry) (user client : Option (List ℕ)) → Contains i.quotas q → key_of q.path ≡ Some (key.UserClient user client) → Above i (parent_of (path_of (key.UserClient user client)))
above_user_client i q user client has is = subst (λ p. Above i (parent_of p)) (client_is_below user client)
    (below_shown i (path_of (key.User user) ++ codes "/clients") (part_or_default part_for_name client) (shows_clients i q user client has is) (sanitised_has_none client))

-- ---- quotas

-- no entity of quotas has the path of a partition
no_partition : (topic : List ℕ) (n : ℤ) → is_below_quota_root (path_of (key.Partition topic n)) ≡ false
unfolding path_of
no_partition topic n = refl

above_quota : (i : Image) (q : QuotaEntry) (k : EntityKey) → Contains i.quotas q → IsQuotaFilled q → key_of q.path ≡ Some k → Above i (parent_of (path_of k))
unfolding is_legal
above_quota i q (key.Topic name) has filled is = above_topic i name (topic_has_none name (key_good q.path (key.Topic name) filled.2 is).0)
above_quota i q (key.Partition topic number) has filled is =
    absurd (false≢true (sym (no_partition topic number) ∙ ap is_below_quota_root (path_of_key_of q.path (key.Partition topic number) filled.2 is) ∙ filled.3))
above_quota i q (key.TopicConfig name) has filled is = above_topic_config i name (topic_has_none name (key_good q.path (key.TopicConfig name) filled.2 is).0)
above_quota i q (key.BrokerConfig broker) has filled is = above_broker i broker
above_quota i q (key.Client client) has filled is = above_client i client
above_quota i q (key.User user) has filled is = above_user i user
above_quota i q (key.UserClient user client) has filled is = above_user_client i q user client has is
above_quota i q (key.Ip address) has filled is = above_ip i address (address_has_none address (key_good q.path (key.Ip address) filled.2 is).0)
above_quota i q (key.Acl pattern kind name) has filled is =
    above_acl i pattern kind name (part_has_none name (and_parts (is_pattern pattern && is_resource_type kind) (is_part name) (key_good q.path (key.Acl pattern kind name) filled.2 is).0).1)
above_quota i q key.Producer has filled is = above_producer i

-- ---- every rendered path

above_named_broker : (i : Image) (name : List ℕ) → Above i (parent_of (path_of (broker_key name)))
above_named_broker i [] = above_broker i None
above_named_broker i (b ∷ bs) = above_broker i (option_map pos (canonical (b ∷ bs)))

topic_none : (i : Image) (t : TopicEntry) → IsInOrder i → Contains i.topics t → HasNoSlash t.name
topic_none i t order has = topic_has_none t.name (All-contains IsTopic i.topics t order.legal.topics.each has).named

acl_none : (i : Image) (a : AclEntry) → IsInOrder i → Contains i.acls a → HasNoSlash a.row.name
acl_none i a order has = part_has_none a.row.name (and_parts (is_part a.row.name) _ (All-contains IsAcl i.acls a order.legal.acls has).resource).0

moved : (i : Image) (p q : List ℕ) → p ≡ q → Above i (parent_of q) → Above i (parent_of p)
moved i p q same above = subst (λ x. Above i (parent_of x)) (sym same) above

place_above : (i : Image) (p : List ℕ) → IsInOrder i → Place i p → Above i (parent_of p)
place_above i p order (at_topic t has is) = moved i p _ is (above_topic i t.name (topic_none i t order has))
place_above i p order (at_partitions t has is) = moved i p _ is (above_partitions i t has)
place_above i p order (at_number t n has within is) = moved i p _ is (above_number i t n.number has)
place_above i p order (at_state t n has within is) = moved i p _ is (above_state i t n has within)
place_above i p order (at_topic_config t has is) = moved i p _ is (above_topic_config i t.name (topic_none i t order has))
place_above i p order (at_broker c has is) = moved i p _ is (above_named_broker i c.name)
place_above i p order (at_client_user q user client has of is) = moved i p _ is (above_user i user)
place_above i p order (at_clients q user client has of is) = moved i p _ is (above_clients i q user client has of)
place_above i p order (at_quota q k has of is) = moved i p _ is (above_quota i q k has (All-contains IsQuotaFilled i.quotas q order.quotas.filled has) of)
place_above i p order (at_user u has is) = moved i p _ is (above_user i (Some u.name))
place_above i p order (at_acl a has is) = moved i p _ is (above_acl i a.row.pattern a.row.kind a.row.name (acl_none i a order has))
place_above i p order (at_producer is) = moved i p _ is (above_producer i)

top_or_base : (i : Image) (q : List ℕ) → (is_root q || is_among base_paths q) ≡ true → Above i q
top_or_base i q is = by (is_root q) refl
  where
    by : (b : Bool) → is_root q ≡ b → Above i q
    by true e = top e
    by false e = base (sym (ap (λ b. b || is_among base_paths q) e) ∙ is)

roots_above : All (λ p. (is_root (parent_of p) || is_among base_paths (parent_of p)) ≡ true) roots
unfolding roots base_paths
roots_above = All-from_recursion (λ p. (is_root (parent_of p) || is_among base_paths (parent_of p)) ≡ true) roots (search rules)

-- what is rendered stands below one of these
abbrev IsBelow : Image → Rendered → Type 0
IsBelow i r = Above i (parent_of r.path)

each_above : (i : Image) (r : Rendered) → IsInOrder i → Contains (render i) r → IsBelow i r
unfolding render
each_above i r order has = either (Contains-all_put_cases bytes_order path_of_rendered (entity_znodes i) (map bare roots) r has)
  where
    either : Contains (entity_znodes i) r ⊎ Contains (map bare roots) r → IsBelow i r
    either (inl within) = place_above i r.path order (All-contains (IsPlaced i) (entity_znodes i) r (entities_placed i) within)
    either (inr within) = top_or_base i (parent_of r.path)
        (All-contains (λ (x : Rendered). (is_root (parent_of x.path) || is_among base_paths (parent_of x.path)) ≡ true) (map bare roots) r
        (All-map (λ (x : Rendered). (is_root (parent_of x.path) || is_among base_paths (parent_of x.path)) ≡ true) bare roots roots_above) within)

-- The parent of a rendered path is the root or a base path, or is rendered too.
pub rendered_parent : (i : Image) (p : List ℕ) → IsInOrder i → Shows i p → Above i (parent_of p)
rendered_parent i p order shows =
    let found = there (find_rendered p (render i)) refl shows in
    subst (λ q. Above i (parent_of q)) (key_of_found bytes_order path_of_rendered p (render i) found.0 found.1)
    (each_above i found.0 order (found_is_contained bytes_order path_of_rendered p (render i) found.0 found.1))
  where
    there : (m : Option Rendered) → find_rendered p (render i) ≡ m → is_some m ≡ true → (r : Rendered) × (find_rendered p (render i) ≡ Some r)
    there None is some = absurd (cc)
    there (Some r) is some = (r, is)
