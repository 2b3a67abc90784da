-- The configurations of topics may be put after all topics: their paths differ in the second byte.
use Rattle.std.proofs.Common.{eqb-true, ◌≡◌, ℕ, Bool, true, false, cond, nat_eq, List, [], ◌∷◌, ◌++◌, filter, Ordering, Less, Equal, Greater, is_eq, refl, sym, ap, ◌∙◌, subst, append_assoc}
use Rattle.std.specs.List.{flat_map}
use Rattle.std.proofs.lemmas.List.Elements.{filter-append}
use Rattle.kz_types.specs.declared.image.TopicEntry.{TopicEntry}
use Rattle.kz_types.specs.declared.image.PartitionEntry.{PartitionEntry}
use Rattle.kz_types.specs.declared.bodies.Pair.{Pair}
use Rattle.kz_types.specs.declared.tree.Rendered.{Rendered}
use Rattle.kz_types.specs.declared.key.EntityKey.TheVariants as key
use Rattle.kz_types.specs.declared.bodies.Body.TheVariants as body
use Rattle.kz_types.specs.Paths.{path_of}
use Rattle.kz_types.specs.Order.{bytes_cmp}
use Rattle.kz_types.specs.Ordered.{all_put}
use Rattle.kz_types.proofs.Order.{bytes_order}
use Rattle.kz_sorted.specs.Ties.{has_key, KeepsTies}
use Rattle.kz_sorted.proofs.Ties.{put_alike}
use Rattle.kz_spec_data.specs.Tree.{path_of_rendered}
use Rattle.kz_spec_data.specs.Rendering.{bare, znode, topic_znode, partitions_path, number_path, state_body, partition_znodes, topic_config_znodes, topic_znodes}
use Rattle.kz_render.specs.Apart.{own_znodes, configs_of, topics_apart}
use Rattle.kz_render.specs.Gathered.{PutAlike}

-- the second byte of a path
abbrev second : List ℕ → ℕ
second [] = 0
second (a ∷ []) = 0
second (a ∷ b ∷ rest) = b

abbrev has : List ℕ → Rendered → Bool
has = has_key path_of_rendered

apart_by : (k p : List ℕ) (r : Ordering) → bytes_cmp k p ≡ r → (k ≡ p → ⊥) → is_eq r ≡ false
apart_by k p Less e differ = refl
apart_by k p Equal e differ = absurd (differ (bytes_order.same k p e))
apart_by k p Greater e differ = refl

-- a znode whose path has another second byte hasn't the key
other_second : (k : List ℕ) (x : Rendered) (b : ℕ) → second (path_of_rendered x) ≡ b → nat_eq b b ≡ true → nat_eq (second k) b ≡ false → has k x ≡ false
other_second k x b at itself differs = apart_by k (path_of_rendered x) (bytes_cmp k (path_of_rendered x)) refl (λ same.
    let e : false ≡ true = sym differs ∙ ap (λ n. nat_eq n b) (ap second same ∙ at) ∙ itself in
    cc e)

skip : (k : List ℕ) (x : Rendered) (xs : List Rendered) → has k x ≡ false → filter (has k) (x ∷ xs) ≡ filter (has k) xs
skip k x xs none = ap (λ b. cond b (x ∷ filter (has k) xs) (filter (has k) xs)) none

-- ---- the key of no topic and no partition

module _ (k : List ℕ) (differs : nat_eq (second k) 98 ≡ false) where
  partitions_none : (name : List ℕ) (ps : List PartitionEntry) → filter (has k) (flat_map (partition_znodes name) ps) ≡ []
  unfolding path_of
  partitions_none name [] = refl
  partitions_none name (p ∷ ps) =
      let number : Rendered = bare (number_path name p.number) in
      let state : Rendered = znode (key.Partition name p.number) (state_body p.row) in
      let rest = flat_map (partition_znodes name) ps in
      skip k number (state ∷ rest) (other_second k number 98 refl refl differs) ∙ skip k state rest (other_second k state 98 refl refl differs) ∙ partitions_none name ps

  own_none : (t : TopicEntry) → filter (has k) (own_znodes t) ≡ []
  unfolding path_of
  own_none t =
      let parent : Rendered = bare (partitions_path t.name) in
      let rest = flat_map (partition_znodes t.name) t.partitions in
      skip k (topic_znode t) (parent ∷ rest) (other_second k (topic_znode t) 98 refl refl differs) ∙ skip k parent rest (other_second k parent 98 refl refl differs) ∙ partitions_none t.name t.partitions

  all_own_none : (ts : List TopicEntry) → filter (has k) (flat_map own_znodes ts) ≡ []
  all_own_none [] = refl
  all_own_none (t ∷ ts) = filter-append (has k) (own_znodes t) (flat_map own_znodes ts) ∙ ap (λ xs. xs ++ filter (has k) (flat_map own_znodes ts)) (own_none t) ∙ all_own_none ts

  configs_alone : (ts : List TopicEntry) → filter (has k) (flat_map topic_znodes ts) ≡ filter (has k) (flat_map configs_of ts)
  configs_alone [] = refl
  configs_alone (t ∷ ts) =
      filter-append (has k) (own_znodes t ++ configs_of t) (flat_map topic_znodes ts)
      ∙ ap (λ xs. xs ++ filter (has k) (flat_map topic_znodes ts)) (filter-append (has k) (own_znodes t) (configs_of t) ∙ ap (λ xs. xs ++ filter (has k) (configs_of t)) (own_none t))
      ∙ ap (λ xs. filter (has k) (configs_of t) ++ xs) (configs_alone ts)
      ∙ sym (filter-append (has k) (configs_of t) (flat_map configs_of ts))

  apart_there : (ts : List TopicEntry) → filter (has k) (topics_apart ts) ≡ filter (has k) (flat_map topic_znodes ts)
  apart_there ts =
      filter-append (has k) (flat_map own_znodes ts) (flat_map configs_of ts) ∙ ap (λ xs. xs ++ filter (has k) (flat_map configs_of ts)) (all_own_none ts) ∙ sym (configs_alone ts)

-- ---- the key of no configuration

append_none : (xs : List Rendered) → xs ++ [] ≡ xs
append_none [] = refl
append_none (x ∷ xs) = ap (λ ys. x ∷ ys) (append_none xs)

module _ (k : List ℕ) (differs : nat_eq (second k) 99 ≡ false) where
  pairs_none : (name : List ℕ) (pairs : List Pair) → filter (has k) (topic_config_znodes name pairs) ≡ []
  unfolding path_of
  pairs_none name [] = refl
  pairs_none name (p ∷ ps) =
      let config : Rendered = znode (key.TopicConfig name) (body.Config (p ∷ ps)) in
      skip k config [] (other_second k config 99 refl refl differs)

  all_configs_none : (ts : List TopicEntry) → filter (has k) (flat_map configs_of ts) ≡ []
  all_configs_none [] = refl
  all_configs_none (t ∷ ts) = filter-append (has k) (configs_of t) (flat_map configs_of ts) ∙ ap (λ xs. xs ++ filter (has k) (flat_map configs_of ts)) (pairs_none t.name t.pairs) ∙ all_configs_none ts

  own_alone : (ts : List TopicEntry) → filter (has k) (flat_map topic_znodes ts) ≡ filter (has k) (flat_map own_znodes ts)
  own_alone [] = refl
  own_alone (t ∷ ts) =
      filter-append (has k) (own_znodes t ++ configs_of t) (flat_map topic_znodes ts)
      ∙ ap (λ xs. xs ++ filter (has k) (flat_map topic_znodes ts)) (filter-append (has k) (own_znodes t) (configs_of t) ∙ ap (λ xs. filter (has k) (own_znodes t) ++ xs) (pairs_none t.name t.pairs) ∙ append_none (filter (has k) (own_znodes t)))
      ∙ ap (λ xs. filter (has k) (own_znodes t) ++ xs) (own_alone ts)
      ∙ sym (filter-append (has k) (own_znodes t) (flat_map own_znodes ts))

  apart_here : (ts : List TopicEntry) → filter (has k) (topics_apart ts) ≡ filter (has k) (flat_map topic_znodes ts)
  apart_here ts =
      filter-append (has k) (flat_map own_znodes ts) (flat_map configs_of ts) ∙ ap (λ xs. filter (has k) (flat_map own_znodes ts) ++ xs) (all_configs_none ts) ∙ append_none (filter (has k) (flat_map own_znodes ts)) ∙ sym (own_alone ts)

-- ---- of any key

one_of : (b : ℕ) → nat_eq b 98 ≡ true → nat_eq b 99 ≡ false
one_of b is = ap (λ n. nat_eq n 99) (eqb-true b 98 is)

apart_by_second : (k : List ℕ) (b : Bool) → nat_eq (second k) 98 ≡ b → (ts : List TopicEntry) → filter (has k) (topics_apart ts) ≡ filter (has k) (flat_map topic_znodes ts)
apart_by_second k true e ts = apart_here k (one_of (second k) e) ts
apart_by_second k false e ts = apart_there k e ts

keeps : (old rest : List Rendered) (ts : List TopicEntry) → KeepsTies path_of_rendered (old ++ (flat_map topic_znodes ts ++ rest)) (old ++ (topics_apart ts ++ rest))
keeps old rest ts = λ k.
    filter-append (has k) old (topics_apart ts ++ rest)
    ∙ ap (λ xs. filter (has k) old ++ xs) (filter-append (has k) (topics_apart ts) rest ∙ ap (λ xs. xs ++ filter (has k) rest) (apart_by_second k (nat_eq (second k) 98) refl ts) ∙ sym (filter-append (has k) (flat_map topic_znodes ts) rest))
    ∙ sym (filter-append (has k) old (flat_map topic_znodes ts ++ rest))

-- the znodes of topics put apart are put as those of one topic after another
pub apart_alike : (old rest : List Rendered) (ts : List TopicEntry) → PutAlike (old ++ (topics_apart ts ++ rest)) (old ++ (flat_map topic_znodes ts ++ rest))
apart_alike old rest ts = put_alike path_of_rendered (old ++ (flat_map topic_znodes ts ++ rest)) (old ++ (topics_apart ts ++ rest)) [] (keeps old rest ts) tt
