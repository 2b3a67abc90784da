-- What a rendering shows: each root, and each znode of an entity.
use Rattle.std.proofs.Common.{◌≡◌, ℕ, true, List, [], ◌∷◌, ◌++◌, Option, Some, is_some, Contains, sym, ap, ◌∙◌, subst, inl, inr, map, codes}
use Rattle.std.specs.List.{flat_map}
use Rattle.std.proofs.lemmas.List.Elements.{Contains-append_left, Contains-append_right}
use Rattle.kz_types.specs.declared.tree.Rendered.{Rendered}
use Rattle.kz_types.specs.declared.key.EntityKey.TheVariants as key
use Rattle.kz_types.specs.declared.image.TopicEntry.{TopicEntry}
use Rattle.kz_types.specs.declared.image.PartitionEntry.{PartitionEntry}
use Rattle.kz_types.specs.declared.image.QuotaEntry.{QuotaEntry}
use Rattle.kz_types.specs.Paths.{roots, path_of, key_of}
use Rattle.kz_types.specs.Order.{bytes_cmp}
use Rattle.kz_types.specs.Ordered.{put, all_put}
use Rattle.kz_types.proofs.Order.{bytes_order}
use Rattle.kz_types.proofs.Lookup.{find-put_same, find-put_other, Contains-head, Contains-tail, Contains-nil, Contains-cons_cases}
use Rattle.kz_spec_data.specs.Image.{Image}
use Rattle.kz_spec_data.specs.Tree.{path_of_rendered}
use Rattle.kz_spec_data.specs.Rendering.{bare, znode, topic_znode, partitions_path, number_path, state_body, partition_znodes, topic_config_znodes, topic_znodes, config_znode, client_parents, quota_parents, quota_znodes, entity_znodes, render}
use Rattle.kz_laws_machine.proofs.Rows.{same, other, compare}
use Rattle.kz_laws_machine.proofs.Area.{find_rendered}

-- ---- after puts

shown_after_put : (p : List ℕ) (x : Rendered) (ys : List Rendered) → is_some (find_rendered p ys) ≡ true → is_some (find_rendered p (put bytes_cmp path_of_rendered x ys)) ≡ true
shown_after_put p x ys is = elim (compare p x.path) [
  | same e ↦ ap (λ q. is_some (find_rendered q (put bytes_cmp path_of_rendered x ys))) e ∙ ap is_some (find-put_same bytes_order path_of_rendered x ys)
  | other differ ↦ ap is_some (find-put_other bytes_order path_of_rendered x ys p differ) ∙ is
]

shown_after_all : (p : List ℕ) (xs ys : List Rendered) → is_some (find_rendered p ys) ≡ true → is_some (find_rendered p (all_put bytes_cmp path_of_rendered xs ys)) ≡ true
shown_after_all p [] ys is = is
shown_after_all p (x ∷ xs) ys is = shown_after_all p xs (put bytes_cmp path_of_rendered x ys) (shown_after_put p x ys is)

shown_of_all : (x : Rendered) (xs ys : List Rendered) → Contains xs x → is_some (find_rendered x.path (all_put bytes_cmp path_of_rendered xs ys)) ≡ true
shown_of_all x [] ys has = absurd (Contains-nil x has)
shown_of_all x (y ∷ xs) ys has = elim (Contains-cons_cases y xs x has) [
  | inl is ↦ shown_after_all x.path xs (put bytes_cmp path_of_rendered y ys)
      (subst (λ z. is_some (find_rendered z.path (put bytes_cmp path_of_rendered y ys)) ≡ true) is (ap is_some (find-put_same bytes_order path_of_rendered y ys)))
  | inr later ↦ shown_of_all x xs (put bytes_cmp path_of_rendered y ys) later
]

-- ---- the rendering

-- a rendering has a znode of this path
abbrev pub Shows : Image → List ℕ → Type 0
Shows i p = is_some (find_rendered p (render i)) ≡ true

pub shows_root : (i : Image) (p : List ℕ) → is_some (find_rendered p (map bare roots)) ≡ true → Shows i p
unfolding render
shows_root i p is = shown_after_all p (entity_znodes i) (map bare roots) is

shows_entity : (i : Image) (r : Rendered) → Contains (entity_znodes i) r → Shows i r.path
unfolding render
shows_entity i r has = shown_of_all r (entity_znodes i) (map bare roots) has

-- ---- the parents of entities

contains_flat : {A B : Type 0} (f : A → List B) (xs : List A) (x : A) (y : B) → Contains xs x → Contains (f x) y → Contains (flat_map f xs) y
contains_flat f [] x y has within = absurd (Contains-nil x has)
contains_flat f (z ∷ xs) x y has within = elim (Contains-cons_cases z xs x has) [
  | inl is ↦ Contains-append_left (f z) (flat_map f xs) y (subst (λ w. Contains (f w) y) (sym is) within)
  | inr later ↦ Contains-append_right (f z) (flat_map f xs) y (contains_flat f xs x y later within)
]

-- the znodes of a topic after its own, and those after the parent of its partitions
abbrev below_partitions : TopicEntry → List Rendered
below_partitions t = flat_map (partition_znodes t.name) t.partitions ++ topic_config_znodes t.name t.pairs

abbrev below_topic : TopicEntry → List Rendered
below_topic t = bare (partitions_path t.name) ∷ below_partitions t

shows_of_topic : (i : Image) (t : TopicEntry) (r : Rendered) → Contains i.topics t → Contains (topic_znodes t) r → Shows i r.path
shows_of_topic i t r has within = shows_entity i r (Contains-append_left (flat_map topic_znodes i.topics) _ r (contains_flat topic_znodes i.topics t r has within))

pub shows_topic : (i : Image) (t : TopicEntry) → Contains i.topics t → Shows i (path_of (key.Topic t.name))
shows_topic i t has = shows_of_topic i t (topic_znode t) has (Contains-head (topic_znode t) (below_topic t))

pub shows_partitions : (i : Image) (t : TopicEntry) → Contains i.topics t → Shows i (partitions_path t.name)
shows_partitions i t has = shows_of_topic i t (bare (partitions_path t.name)) has
    (Contains-tail (topic_znode t) (below_topic t) (bare (partitions_path t.name)) (Contains-head (bare (partitions_path t.name)) (below_partitions t)))

pub shows_number : (i : Image) (t : TopicEntry) (p : PartitionEntry) → Contains i.topics t → Contains t.partitions p → Shows i (number_path t.name p.number)
shows_number i t p has within =
    let r = bare (number_path t.name p.number) in
    let one = contains_flat (partition_znodes t.name) t.partitions p r within (Contains-head r (znode (key.Partition t.name p.number) (state_body p.row) ∷ [])) in
    shows_of_topic i t r has (Contains-tail (topic_znode t) (below_topic t) r (Contains-tail (bare (partitions_path t.name)) (below_partitions t) r
    (Contains-append_left (flat_map (partition_znodes t.name) t.partitions) (topic_config_znodes t.name t.pairs) r one)))

shows_of_quota : (i : Image) (q : QuotaEntry) (r : Rendered) → Contains i.quotas q → Contains (quota_parents q) r → Shows i r.path
shows_of_quota i q r has within =
    shows_entity i r (Contains-append_right (flat_map topic_znodes i.topics) _ r (Contains-append_right (map config_znode i.broker_configs) _ r
    (Contains-append_left (quota_znodes i.quotas i.users) _ r (Contains-append_left (flat_map quota_parents i.quotas) _ r (contains_flat quota_parents i.quotas q r has within)))))

-- the user of a user's client
pub shows_user : (i : Image) (q : QuotaEntry) (user client : Option (List ℕ)) → Contains i.quotas q → key_of q.path ≡ Some (key.UserClient user client) → Shows i (path_of (key.User user))
shows_user i q user client has is =
    let r = bare (path_of (key.User user)) in
    shows_of_quota i q r has (subst (λ k. Contains (client_parents k) r) (sym is) (Contains-head r (bare (path_of (key.User user) ++ codes "/clients") ∷ [])))

-- and the parent of its clients
pub shows_clients : (i : Image) (q : QuotaEntry) (user client : Option (List ℕ)) → Contains i.quotas q → key_of q.path ≡ Some (key.UserClient user client) → Shows i (path_of (key.User user) ++ codes "/clients")
shows_clients i q user client has is =
    let r = bare (path_of (key.User user) ++ codes "/clients") in
    let above = bare (path_of (key.User user)) in
    shows_of_quota i q r has (subst (λ k. Contains (client_parents k) r) (sym is) (Contains-tail above (r ∷ []) r (Contains-head r [])))
