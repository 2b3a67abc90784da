-- Each path of a rendering keeps the rule of paths.
use Rattle.std.proofs.Common.{◌≡◌, ℕ, ℤ, pos, negsuc, true, false, List, [], ◌∷◌, ◌++◌, map, Option, Some, None, Contains, refl, sym, ap, ◌∙◌, subst, inl, inr}
use Rattle.std.specs.Prelude.{◌+ℤ◌}
use Rattle.std.specs.List.{flat_map}
use Rattle.std.proofs.lemmas.Bool.{false≢true}
use Rattle.std.proofs.lemmas.List.Elements.{All-contains, Contains-append_cases}
use Rattle.std.proofs.lemmas.List.Sums.{AllPass-from_list_all}
use Rattle.kz_types.specs.declared.tree.Rendered.{Rendered}
use Rattle.kz_types.specs.declared.bodies.Pair.{Pair}
use Rattle.kz_types.specs.declared.bodies.Body.TheVariants as body
use Rattle.kz_types.specs.declared.image.PartitionEntry.{PartitionEntry}
use Rattle.kz_types.specs.declared.image.TopicEntry.{TopicEntry}
use Rattle.kz_types.specs.declared.image.QuotaEntry.{QuotaEntry}
use Rattle.kz_types.specs.declared.image.ScramEntry.{ScramEntry}
use Rattle.kz_types.specs.declared.image.AclEntry.{AclEntry}
use Rattle.kz_types.specs.declared.key.EntityKey.{EntityKey}
use Rattle.kz_types.specs.declared.key.EntityKey.TheVariants as key
use Rattle.kz_types.specs.PathRule.{is_path}
use Rattle.kz_types.specs.Paths.{roots, has_path, is_topic_name, key_of, path_of}
use Rattle.kz_types.proofs.OnLiterals.{values_on_literals}
use Rattle.kz_types.proofs.KeyLemmas.{path_of_key_of}
use Rattle.kz_types.specs.Order.{bytes_cmp}
use Rattle.kz_types.specs.Ordered.{find}
use Rattle.kz_types.proofs.Order.{bytes_order}
use Rattle.kz_types.proofs.Lookup.{Contains-cons_cases, Contains-nil, key_of_found, found_is_contained}
use Rattle.kz_types.proofs.Puts.{Contains-all_put_cases}
use Rattle.kz_paths.proofs.Tables.{roots_are_paths}
use Rattle.kz_spec_data.specs.Tree.{path_of_rendered}
use Rattle.kz_spec_data.specs.Metadata.{Image}
use Rattle.kz_spec_data.specs.InOrder.{IsQuotaFilled, IsUserFilled, IsInOrder}
use Rattle.kz_spec_data.specs.Legal.{IsScramEntry, IsAcl}
use Rattle.kz_spec_data.specs.Rendering.{bare, znode, partitions_path, number_path, state_body, partition_znodes, topic_znode, topic_config_znodes, topic_znodes, broker_key, config_znode, client_parents, quota_parents, znode_of_quotas, own_znodes, user_znode, quota_znodes, acl_key, acl_znode, producer_znodes, entity_znodes, render}
use Rattle.kz_laws_znodes.specs.RoundTrip.{IsWritable}
use Rattle.kz_laws_znodes.proofs.Within.{from_flat, from_map}
use Rattle.kz_laws_znodes.proofs.Scaffolds.{clients_path}
use Rattle.kz_laws_znodes.proofs.Shown.{topic_facts, partition_facts}
use Rattle.kz_render.proofs.BrokerPaths.{broker_rule}
use Rattle.kz_render.proofs.Gathered.{resource_rule}
use Rattle.kz_render.proofs.QuotaLists.{scram_user}
use Rattle.kz_render.proofs.QuotaPaths.{clients_rule, user_rule}
use Rattle.kz_render.proofs.TopicPaths.{topic_rule, config_rule, partitions_rule, state_rule, number_rule}
use Rattle.kz_writer.specs.PathLists.{DifferAtPathsAlone}

-- ---- lists of znodes

-- each path of these znodes keeps the rule
abbrev Keep : List Rendered → Type 0
Keep rs = (r : Rendered) → Contains rs r → is_path r.path ≡ true

none_keep : Keep []
none_keep r has = absurd (Contains-nil r has)

one_more : (x : Rendered) (rs : List Rendered) → is_path x.path ≡ true → Keep rs → Keep (x ∷ rs)
one_more x rs rule rest r has = elim (Contains-cons_cases x rs r has) [
  | inl e ↦ subst (λ (y : Rendered). is_path y.path ≡ true) e rule
  | inr later ↦ rest r later
]

both_keep : (xs ys : List Rendered) → Keep xs → Keep ys → Keep (xs ++ ys)
both_keep xs ys first second r has = elim (Contains-append_cases xs ys r has) [
  | inl x ↦ first r x
  | inr y ↦ second r y
]

flat_keep : {X : Type 0} (f : X → List Rendered) (xs : List X) → ((x : X) → Contains xs x → Keep (f x)) → Keep (flat_map f xs)
flat_keep f xs each r has = let from = from_flat f xs r has in each from.source from.has r from.gives

map_keep : {X : Type 0} (f : X → Rendered) (xs : List X) → ((x : X) → Contains xs x → is_path (path_of_rendered (f x)) ≡ true) → Keep (map f xs)
map_keep f xs each r has = let from = from_map f xs r has in ap (λ (y : Rendered). is_path y.path) from.is ∙ each from.source from.has

own_rule : (k : EntityKey) → has_path k ≡ true → is_path (path_of k) ≡ true
unfolding has_path
own_rule k h = h

producer_rule : is_path (path_of key.Producer) ≡ true
unfolding values_on_literals
producer_rule = refl

-- ---- the znodes of the metadata

config_keep : (name : List ℕ) (pairs : List Pair) → is_topic_name name ≡ true → Keep (topic_config_znodes name pairs)
config_keep name [] named = none_keep
config_keep name (p ∷ ps) named = one_more (znode (key.TopicConfig name) (body.Config (p ∷ ps))) [] (own_rule (key.TopicConfig name) (config_rule name named)) none_keep

module _ (i : Image) (o : IsInOrder i) (w : IsWritable i) where
  partition_keep : (t : TopicEntry) (p : PartitionEntry) → Contains i.topics t → Contains t.partitions p → Keep (partition_znodes t.name p)
  partition_keep t p has within =
      let f = topic_facts i o w t has in
      let g = partition_facts i o w t p has within in
      let rule = state_rule t.name p.number f.legal.named g.legal.0 g.writable.number in
      one_more (bare (number_path t.name p.number)) (znode (key.Partition t.name p.number) (state_body p.row) ∷ []) (number_rule t.name p.number rule) (one_more (znode (key.Partition t.name p.number) (state_body p.row)) [] (own_rule (key.Partition t.name p.number) rule) none_keep)

  topic_keep : (t : TopicEntry) → Contains i.topics t → Keep (topic_znodes t)
  topic_keep t has =
      let f = topic_facts i o w t has in
      let partitions : List Rendered = flat_map (partition_znodes t.name) t.partitions in
      let config : List Rendered = topic_config_znodes t.name t.pairs in
      one_more (topic_znode t) (bare (partitions_path t.name) ∷ (partitions ++ config)) (own_rule (key.Topic t.name) (topic_rule t.name f.legal.named))
      (one_more (bare (partitions_path t.name)) (partitions ++ config) (partitions_rule t.name f.legal.named)
      (both_keep partitions config (flat_keep (partition_znodes t.name) t.partitions (λ p within. partition_keep t p has within)) (config_keep t.name t.pairs f.legal.named)))

  quota_rule : (q : QuotaEntry) → Contains i.quotas q → is_path q.path ≡ true
  quota_rule q has = (All-contains IsQuotaFilled i.quotas q o.quotas.filled has).2

  parents_keep : (q : QuotaEntry) → Contains i.quotas q → (k : Option EntityKey) → key_of q.path ≡ k → Keep (client_parents k)
  parents_keep q has (Some (key.UserClient user client)) is =
      one_more (bare (path_of (key.User user))) (bare (clients_path user) ∷ []) (own_rule (key.User user) (user_rule user client q.path (quota_rule q has) is))
      (one_more (bare (clients_path user)) [] (clients_rule user client q.path (quota_rule q has) is) none_keep)
  parents_keep q has None is = none_keep
  parents_keep q has (Some (key.Topic name)) is = none_keep
  parents_keep q has (Some (key.Partition topic partition)) is = none_keep
  parents_keep q has (Some (key.TopicConfig name)) is = none_keep
  parents_keep q has (Some (key.BrokerConfig broker)) is = none_keep
  parents_keep q has (Some (key.Client client)) is = none_keep
  parents_keep q has (Some (key.User user)) is = none_keep
  parents_keep q has (Some (key.Ip address)) is = none_keep
  parents_keep q has (Some (key.Acl pattern kind name)) is = none_keep
  parents_keep q has (Some key.Producer) is = none_keep

  own_keep : (q : QuotaEntry) → Contains i.quotas q → (k : Option EntityKey) → key_of q.path ≡ k → Keep (znode_of_quotas q.quotas k)
  own_keep q has None is = none_keep
  own_keep q has (Some k) is = one_more (znode k (body.Quota q.quotas [])) [] (ap is_path (path_of_key_of q.path k (quota_rule q has) is) ∙ quota_rule q has) none_keep

  user_keeps : (u : ScramEntry) → Contains i.users u → is_path (path_of (key.User (Some u.name))) ≡ true
  user_keeps u has =
      own_rule (key.User (Some u.name)) (scram_user u (All-contains IsUserFilled i.users u o.users.filled has) (All-contains IsScramEntry i.users u o.legal.users has)).1

  quotas_keep : Keep (quota_znodes i.quotas i.users)
  quotas_keep =
      both_keep (flat_map quota_parents i.quotas) (flat_map own_znodes i.quotas ++ map (user_znode i.quotas) i.users)
      (flat_keep quota_parents i.quotas (λ q has. parents_keep q has (key_of q.path) refl))
      (both_keep (flat_map own_znodes i.quotas) (map (user_znode i.quotas) i.users) (flat_keep own_znodes i.quotas (λ q has. own_keep q has (key_of q.path) refl)) (map_keep (user_znode i.quotas) i.users user_keeps))

  entry_keeps : (a : AclEntry) → Contains i.acls a → is_path (path_of (acl_key a.row)) ≡ true
  entry_keeps a has = own_rule (acl_key a.row) (resource_rule a (All-contains IsAcl i.acls a o.legal.acls has))

  producer_keep : (next : Option ℤ) → Keep (producer_znodes next)
  producer_keep None = none_keep
  producer_keep (Some next) = one_more (znode key.Producer (body.Producer (negsuc 0) next (next +ℤ pos 999))) [] producer_rule none_keep

  entities_keep : Keep (entity_znodes i)
  entities_keep =
      let topics : List Rendered = flat_map topic_znodes i.topics in
      let configs : List Rendered = map config_znode i.broker_configs in
      let quotas : List Rendered = quota_znodes i.quotas i.users in
      let acls : List Rendered = map (acl_znode i.acls) i.acls in
      let producer : List Rendered = producer_znodes i.next_producer in
      both_keep topics (configs ++ (quotas ++ (acls ++ producer))) (flat_keep topic_znodes i.topics topic_keep)
      (both_keep configs (quotas ++ (acls ++ producer)) (map_keep config_znode i.broker_configs (λ c has. own_rule (broker_key c.name) (broker_rule c.name)))
      (both_keep quotas (acls ++ producer) quotas_keep (both_keep acls producer (map_keep (acl_znode i.acls) i.acls entry_keeps) (producer_keep i.next_producer))))

  -- the roots keep it too
  roots_keep : Keep (map bare roots)
  roots_keep = map_keep bare roots (λ p has. All-contains (λ q. is_path q ≡ true) roots p (AllPass-from_list_all is_path roots roots_are_paths) has)

  pub render_keeps : Keep (render i)
  unfolding render
  render_keeps r has = elim (Contains-all_put_cases bytes_order path_of_rendered (entity_znodes i) (map bare roots) r has) [
    | inl entity ↦ entities_keep r entity
    | inr root ↦ roots_keep r root
  ]

  -- no znode is found under what isn't a path
  pub none_found : (p : List ℕ) → is_path p ≡ false → find bytes_cmp path_of_rendered p (render i) ≡ None
  none_found p none = by (find bytes_cmp path_of_rendered p (render i)) refl
    where
      by : (found : Option Rendered) → find bytes_cmp path_of_rendered p (render i) ≡ found → found ≡ None
      by None is = refl
      by (Some r) is =
          let rule = render_keeps r (found_is_contained bytes_order path_of_rendered p (render i) r is) in
          let named : r.path ≡ p = key_of_found bytes_order path_of_rendered p (render i) r is in
          absurd (false≢true (sym none ∙ ap is_path (sym named) ∙ rule))

-- two renderings find the same under what isn't a path
pub differ_at_paths : (i j : Image) → IsInOrder i → IsWritable i → IsInOrder j → IsWritable j → DifferAtPathsAlone (render i) (render j)
differ_at_paths i j oi wi oj wj = λ p none. none_found i oi wi p none ∙ sym (none_found j oj wj p none)
