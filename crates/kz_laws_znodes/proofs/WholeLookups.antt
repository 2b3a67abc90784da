-- Look-ups at a path find what the rendering has there.
use Rattle.std.proofs.Common.{◌≡◌, ℕ, Bool, true, false, ◌||◌, List, [], ◌∷◌, ◌++◌, map, Option, Some, None, is_some, refl, sym, ap, ◌∙◌}
use Rattle.std.specs.Prelude.{option_map}
use Rattle.std.specs.List.{flat_map}
use Rattle.std.specs.Option.{option_or}
use Rattle.kz_types.specs.declared.tree.Rendered.{Rendered}
use Rattle.kz_types.specs.declared.bodies.Body.{Body}
use Rattle.kz_types.specs.declared.bodies.QuotaRow.{QuotaRow}
use Rattle.kz_types.specs.declared.bodies.ScramPair.{ScramPair}
use Rattle.kz_types.specs.declared.key.EntityKey.{EntityKey}
use Rattle.kz_types.specs.declared.key.EntityKey.TheVariants as key
use Rattle.kz_types.specs.PathRule.{is_path, parts}
use Rattle.kz_types.specs.Paths.{roots, is_among, key_of}
use Rattle.kz_types.proofs.KeyLemmas.{path_of_key_of}
use Rattle.kz_types.specs.Order.{bytes_cmp}
use Rattle.kz_types.specs.Ordered.{find}
use Rattle.kz_spec_data.specs.Bodies.{text_of_body}
use Rattle.kz_spec_data.specs.Tree.{path_of_rendered}
use Rattle.kz_spec_data.specs.Metadata.{Image}
use Rattle.kz_spec_data.specs.InOrder.{IsInOrder}
use Rattle.kz_spec_data.specs.Rendering.{znode, topic_znodes, config_znode, quota_parents, own_znodes, user_znode, quota_znodes, acl_znode, producer_znodes, entity_znodes, render, body_at_path}
use Rattle.kz_laws_znodes.specs.RoundTrip.{IsWritable}
use Rattle.kz_laws_znodes.specs.Lookups.{AreKeysRead}
use Rattle.kz_spec_data.specs.Entities.{quota_body, quotas_at, scrams_of_user, entity}
use Rattle.kz_spec_data.specs.Lookups.{has_quotas_below, is_parent_of_partitions, is_parent_of_clients, stands_bare, no_data_if, written_body, body_at}
use Rattle.kz_laws_znodes.proofs.Lasts.{last_at, last-append, found_in_rendering}
use Rattle.kz_laws_znodes.proofs.QuotasAlike.{own_body, user_body}
use Rattle.kz_laws_znodes.proofs.Settled.{given, keyed_at}
use Rattle.kz_laws_znodes.proofs.KeyedGroups.{config_held, quota_held, user_held, acl_held, producer_held, configs_keyed, quotas_keyed, users_keyed, acls_keyed, producer_keyed}
use Rattle.kz_laws_znodes.proofs.Roots.{bare_at, among_found, no_root, producer_root}
use Rattle.kz_laws_znodes.proofs.Parents.{is_parent, parents_at}
use Rattle.kz_laws_znodes.proofs.TopicsAt.{topics_found, topics_at}

-- ---- the data of what is found

abbrev data_of : Option Rendered → Option (List ℕ)
data_of found = option_map (λ (r : Rendered). r.body) found

abbrev znode_of : EntityKey → Option Body → Option Rendered
znode_of k b = option_map (znode k) b

abbrev text_of : Option Body → Option (List ℕ)
text_of b = option_map text_of_body b

topic_data : (k : EntityKey) (b : Option Body) → data_of (option_or (znode_of k b) None) ≡ option_or (text_of b) None
topic_data k None = refl
topic_data k (Some b) = refl

config_data : (k : EntityKey) (b : Option Body) → data_of (option_or (option_or (znode_of k b) None) None) ≡ option_or (text_of b) None
config_data k None = refl
config_data k (Some b) = refl

acl_data : (k : EntityKey) (b : Option Body) → data_of (option_or (option_or (option_or (option_or (znode_of k b) None) None) None) None) ≡ option_or (text_of b) None
acl_data k None = refl
acl_data k (Some b) = refl

producer_data : (p : List ℕ) (k : EntityKey) (b : Option Body) → data_of (option_or (option_or (option_or (option_or (option_or (znode_of k b) None) None) None) None) (bare_at p true)) ≡ option_or (text_of b) (Some [])
producer_data p k None = refl
producer_data p k (Some b) = refl

quota_data : (k : EntityKey) (qs : List QuotaRow) → data_of (option_or (option_or (option_or (option_or (znode_of k (own_body qs)) None) None) None) None) ≡ option_or (text_of (quota_body qs [])) None
quota_data k [] = refl
quota_data k (q ∷ qs) = refl

user_data : (p : List ℕ) (k : EntityKey) (qs : List QuotaRow) (ss : List ScramPair) (t : Bool)
    → data_of (option_or (option_or (option_or (option_or (option_or (znode_of k (user_body qs ss)) (znode_of k (own_body qs))) (bare_at p t)) None) None) None) ≡ option_or (text_of (quota_body qs ss)) (no_data_if t)
user_data p k [] [] true = refl
user_data p k [] [] false = refl
user_data p k [] (s ∷ ss) t = refl
user_data p k (q ∷ qs) [] t = refl
user_data p k (q ∷ qs) (s ∷ ss) t = refl

bare_data : (p : List ℕ) (clients partitions root : Bool) → data_of (option_or (option_or (option_or (bare_at p clients) None) (bare_at p partitions)) (bare_at p root)) ≡ no_data_if (root || (partitions || clients))
bare_data p true true true = refl
bare_data p true true false = refl
bare_data p true false true = refl
bare_data p true false false = refl
bare_data p false true true = refl
bare_data p false true false = refl
bare_data p false false true = refl
bare_data p false false false = refl

-- ---- all groups

module _ (i : Image) (o : IsInOrder i) (read : AreKeysRead i) (p : List ℕ) (rule : is_path p ≡ true) where
  joined : (xs ys : List Rendered) (a b : Option Rendered) → last_at p xs ≡ a → last_at p ys ≡ b → last_at p (xs ++ ys) ≡ option_or b a
  joined xs ys a b first second = last-append p xs ys ∙ (λ j. option_or (second j) (first j))

  abbrev quotas_found : Option EntityKey → Option Rendered
  quotas_found k = option_or (option_or (given (user_held i) k) (given (quota_held i) k)) (bare_at p (is_parent i p k))

  abbrev last_found : Option EntityKey → Option Rendered
  last_found k = option_or (given (producer_held i.next_producer) k) (given (acl_held i) k)

  abbrev entity_found : Option EntityKey → Option Rendered
  entity_found k = option_or (option_or (option_or (last_found k) (quotas_found k)) (given (config_held i) k)) (topics_found i p k)

  quotas_data_at : last_at p (quota_znodes i.quotas i.users) ≡ quotas_found (key_of p)
  quotas_data_at =
      joined (flat_map quota_parents i.quotas) (flat_map own_znodes i.quotas ++ map (user_znode i.quotas) i.users) (bare_at p (is_parent i p (key_of p))) (option_or (given (user_held i) (key_of p)) (given (quota_held i) (key_of p))) (parents_at i o read p rule)
      (joined (flat_map own_znodes i.quotas) (map (user_znode i.quotas) i.users) (given (quota_held i) (key_of p)) (given (user_held i) (key_of p)) (keyed_at p rule (flat_map own_znodes i.quotas) (quota_held i) (quotas_keyed i o)) (keyed_at p rule (map (user_znode i.quotas) i.users) (user_held i) (users_keyed i o read)))

  last_data_at : last_at p (map (acl_znode i.acls) i.acls ++ producer_znodes i.next_producer) ≡ last_found (key_of p)
  last_data_at =
      joined (map (acl_znode i.acls) i.acls) (producer_znodes i.next_producer) (given (acl_held i) (key_of p)) (given (producer_held i.next_producer) (key_of p))
      (keyed_at p rule (map (acl_znode i.acls) i.acls) (acl_held i) (acls_keyed i o)) (keyed_at p rule (producer_znodes i.next_producer) (producer_held i.next_producer) (producer_keyed i.next_producer))

  entities_at : last_at p (entity_znodes i) ≡ entity_found (key_of p)
  entities_at =
      let last : List Rendered = map (acl_znode i.acls) i.acls ++ producer_znodes i.next_producer in
      let after : List Rendered = quota_znodes i.quotas i.users ++ last in
      joined (flat_map topic_znodes i.topics) (map config_znode i.broker_configs ++ after) (topics_found i p (key_of p)) (option_or (option_or (last_found (key_of p)) (quotas_found (key_of p))) (given (config_held i) (key_of p))) (topics_at i o read p rule)
      (joined (map config_znode i.broker_configs) after (given (config_held i) (key_of p)) (option_or (last_found (key_of p)) (quotas_found (key_of p))) (keyed_at p rule (map config_znode i.broker_configs) (config_held i) (configs_keyed i o))
      (joined (quota_znodes i.quotas i.users) last (quotas_found (key_of p)) (last_found (key_of p)) quotas_data_at last_data_at))

  found_at : find bytes_cmp path_of_rendered p (render i) ≡ option_or (entity_found (key_of p)) (bare_at p (is_among roots p))
  found_at = found_in_rendering p i ∙ (λ j. option_or (entities_at j) (among_found p roots j))

  -- ---- the data

  no_root_at : (k : EntityKey) → key_of p ≡ Some k → (k ≡ key.Producer → ⊥) → data_of (option_or (entity_found (Some k)) (bare_at p (is_among roots p))) ≡ data_of (option_or (entity_found (Some k)) None)
  no_root_at k e other = ap (λ t. data_of (option_or (entity_found (Some k)) (bare_at p t))) (no_root p k e other)

  data_at : (k : Option EntityKey) → key_of p ≡ k → data_of (option_or (entity_found k) (bare_at p (is_among roots p))) ≡ option_or (written_body i k) (no_data_if (stands_bare i p k))
  data_at None e = bare_data p (is_parent_of_clients i p (parts p)) (is_parent_of_partitions i (parts p)) (is_among roots p)
  data_at (Some (key.Topic name)) e = no_root_at (key.Topic name) e (λ z. cc (z)) ∙ topic_data (key.Topic name) (entity i (key.Topic name))
  data_at (Some (key.Partition topic number)) e = no_root_at (key.Partition topic number) e (λ z. cc (z)) ∙ topic_data (key.Partition topic number) (entity i (key.Partition topic number))
  data_at (Some (key.TopicConfig name)) e = no_root_at (key.TopicConfig name) e (λ z. cc (z)) ∙ topic_data (key.TopicConfig name) (entity i (key.TopicConfig name))
  data_at (Some (key.BrokerConfig broker)) e = no_root_at (key.BrokerConfig broker) e (λ z. cc (z)) ∙ config_data (key.BrokerConfig broker) (entity i (key.BrokerConfig broker))
  data_at (Some (key.Client client)) e = no_root_at (key.Client client) e (λ z. cc (z)) ∙ quota_data (key.Client client) (quotas_at (key.Client client) i)
  data_at (Some (key.User user)) e = no_root_at (key.User user) e (λ z. cc (z)) ∙ user_data p (key.User user) (quotas_at (key.User user) i) (scrams_of_user user i) (has_quotas_below p i)
  data_at (Some (key.UserClient user client)) e = no_root_at (key.UserClient user client) e (λ z. cc (z)) ∙ quota_data (key.UserClient user client) (quotas_at (key.UserClient user client) i)
  data_at (Some (key.Ip address)) e = no_root_at (key.Ip address) e (λ z. cc (z)) ∙ quota_data (key.Ip address) (quotas_at (key.Ip address) i)
  data_at (Some (key.Acl pattern kind name)) e = no_root_at (key.Acl pattern kind name) e (λ z. cc (z)) ∙ acl_data (key.Acl pattern kind name) (entity i (key.Acl pattern kind name))
  data_at (Some key.Producer) e =
      ap (λ t. data_of (option_or (entity_found (Some key.Producer)) (bare_at p t))) (producer_root p (sym (path_of_key_of p key.Producer rule e)))
      ∙ producer_data p key.Producer (entity i key.Producer)

  -- the data that the path is rendered with is what the look-ups find
  pub rendered_data : body_at_path i p ≡ body_at i p
  rendered_data = ap data_of found_at ∙ data_at (key_of p) refl

-- the keys of metadata that can be written are read
pub keys_read : (i : Image) → IsWritable i → AreKeysRead i
keys_read i w = record {
  numbers = λ k d lt. λ m e less. ((w.topics k d lt).partitions m e less).number;
  quotas = λ k d lt. ap is_some (w.quotas k d lt).read;
  users = λ k d lt. (w.users k d lt).0;
}
