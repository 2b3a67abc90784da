-- The rendering of the metadata rises and lies in the migrated area, and so do the operations that lead to it.
use Rattle.std.proofs.Common.{◌≡◌, ◌⊎◌, ℕ, ℤ, pos, Bool, true, false, if◌then◌else◌, List, [], ◌∷◌, ◌++◌, Option, Contains, All, refl, ap, ◌∙◌, inl, inr, map, filter, codes, rules}
use Rattle.std.specs.Ordering.{int_eq}
use Rattle.std.proofs.lemmas.Slice.Eq.{bytes_eq-Decides}
use Rattle.std.proofs.lemmas.List.Elements.{All-contains, All-map, All-append, All-head, All-tail, All-weaker, filter_passes, All-from_recursion}
use Rattle.kz_types.specs.declared.tree.Row.{Row}
use Rattle.kz_types.specs.declared.tree.Rendered.{Rendered}
use Rattle.kz_types.specs.declared.key.EntityKey.{EntityKey}
use Rattle.kz_types.specs.declared.key.EntityKey.TheVariants as key
use Rattle.kz_types.specs.Paths.{is_migrated, roots, path_of}
use Rattle.kz_types.specs.Order.{bytes_cmp}
use Rattle.kz_types.specs.Ordered.{Rises}
use Rattle.kz_types.specs.Difference.{DecidesEqual, Edit, difference}
use Rattle.kz_types.proofs.Order.{bytes_order}
use Rattle.kz_types.proofs.Edits.{All-drops, All-makes}
use Rattle.kz_types.proofs.Puts.{Rises-all_put, Contains-all_put_cases}
use Rattle.kz_spec_data.specs.Image.{Image}
use Rattle.kz_spec_data.specs.Tree.{rendered_row, path_of_rendered}
use Rattle.kz_spec_data.specs.Rendering.{bare, partitions_path, number_path, entity_znodes, render}
use Rattle.kz_spec_data.specs.Difference.{same_body}
use Rattle.kz_laws_machine.proofs.Area.{area_of, edit_path}
use Rattle.kz_laws_machine.proofs.Runs.{Inside}
use Rattle.kz_laws_machine.proofs.Each.{all_from_contains}
use Rattle.kz_laws_machine.proofs.Places.{Place, at_topic, at_partitions, at_number, at_state, at_topic_config, at_broker, at_client_user, at_clients, at_quota, at_user, at_acl, at_producer, IsPlaced, entities_placed}

pub decides_body : DecidesEqual path_of_rendered same_body
decides_body = record {
  itself = λ x. (bytes_eq-Decides x.body x.body).1 refl;
  equal = λ x y path is. let body : x.body ≡ y.body = (bytes_eq-Decides x.body y.body).0 is in same_parts x y path body;
}
  where
    same_parts : (x y : Rendered) → x.path ≡ y.path → x.body ≡ y.body → x ≡ y
    same_parts x y path body = ap (λ (p : List ℕ). record { path = p; body = x.body }) path ∙ ap (λ (b : List ℕ). record { path = y.path; body = b }) body

abbrev pub IsInside : Rendered → Type 0
IsInside r = is_migrated r.path ≡ true

-- ---- the paths of entities

acl_by : (literal topic group cluster transactional : Bool) (name : List ℕ)
    → is_migrated ((if literal then codes "/kafka-acl/" else codes "/kafka-acl-extended/prefixed/")
    ++ ((if topic then codes "Topic" else if group then codes "Group" else if cluster then codes "Cluster" else if transactional then codes "TransactionalId" else codes "DelegationToken") ++ (codes "/" ++ name))) ≡ true
unfolding is_migrated roots
acl_by true true group cluster transactional name = refl
acl_by true false true cluster transactional name = refl
acl_by true false false true transactional name = refl
acl_by true false false false true name = refl
acl_by true false false false false name = refl
acl_by false true group cluster transactional name = refl
acl_by false false true cluster transactional name = refl
acl_by false false false true transactional name = refl
acl_by false false false false true name = refl
acl_by false false false false false name = refl

key_inside : (k : EntityKey) → is_migrated (path_of k) ≡ true
unfolding is_migrated roots path_of
key_inside (key.Topic name) = refl
key_inside (key.Partition topic number) = refl
key_inside (key.TopicConfig name) = refl
key_inside (key.BrokerConfig broker) = refl
key_inside (key.Client client) = refl
key_inside (key.User user) = refl
key_inside (key.UserClient user client) = refl
key_inside (key.Ip address) = refl
key_inside (key.Acl pattern kind name) = acl_by (int_eq pattern (pos 3)) (int_eq kind (pos 2)) (int_eq kind (pos 3)) (int_eq kind (pos 4)) (int_eq kind (pos 5)) name
key_inside key.Producer = refl

partitions_inside : (name : List ℕ) → is_migrated (partitions_path name) ≡ true
unfolding is_migrated roots path_of
partitions_inside name = refl

number_inside : (name : List ℕ) (n : ℤ) → is_migrated (number_path name n) ≡ true
unfolding is_migrated roots path_of
number_inside name n = refl

clients_inside : (user : Option (List ℕ)) → is_migrated (path_of (key.User user) ++ codes "/clients") ≡ true
unfolding is_migrated roots path_of
clients_inside user = refl

moved : (p q : List ℕ) → p ≡ q → is_migrated q ≡ true → is_migrated p ≡ true
moved p q same inside = ap is_migrated same ∙ inside

place_inside : (i : Image) (p : List ℕ) → Place i p → is_migrated p ≡ true
place_inside i p (at_topic t has is) = moved p _ is (key_inside _)
place_inside i p (at_partitions t has is) = moved p _ is (partitions_inside t.name)
place_inside i p (at_number t n has within is) = moved p _ is (number_inside t.name n.number)
place_inside i p (at_state t n has within is) = moved p _ is (key_inside _)
place_inside i p (at_topic_config t has is) = moved p _ is (key_inside _)
place_inside i p (at_broker c has is) = moved p _ is (key_inside _)
place_inside i p (at_client_user q name client has of is) = moved p _ is (key_inside _)
place_inside i p (at_clients q name client has of is) = moved p _ is (clients_inside name)
place_inside i p (at_quota q k has of is) = moved p _ is (key_inside k)
place_inside i p (at_user u has is) = moved p _ is (key_inside _)
place_inside i p (at_acl a has is) = moved p _ is (key_inside _)
place_inside i p (at_producer is) = moved p _ is (key_inside _)

entities_inside : (i : Image) → All IsInside (entity_znodes i)
entities_inside i = All-weaker (IsPlaced i) IsInside (λ r place. place_inside i r.path place) (entity_znodes i) (entities_placed i)

-- ---- the rendering

roots_inside : All (λ p. is_migrated p ≡ true) roots
unfolding is_migrated roots
roots_inside = All-from_recursion (λ p. is_migrated p ≡ true) roots (search rules)

roots_rise : Rises bytes_cmp path_of_rendered (map bare roots)
unfolding roots
roots_rise = search rules

pub render_rises : (i : Image) → Rises bytes_cmp path_of_rendered (render i)
unfolding render
render_rises i = Rises-all_put bytes_order path_of_rendered (entity_znodes i) (map bare roots) roots_rise

pub render_inside : (i : Image) → All IsInside (render i)
unfolding render
render_inside i = all_from_contains IsInside (render i) (λ r has. either r (Contains-all_put_cases bytes_order path_of_rendered (entity_znodes i) (map bare roots) r has))
  where
    either : (r : Rendered) → Contains (entity_znodes i) r ⊎ Contains (map bare roots) r → IsInside r
    either r (inl has) = All-contains IsInside (entity_znodes i) r (entities_inside i) has
    either r (inr has) = All-contains IsInside (map bare roots) r (All-map IsInside bare roots roots_inside) has

pub area_inside : (rows : List Row) → All IsInside (area_of rows)
area_inside rows = All-map IsInside rendered_row (filter (λ (r : Row). is_migrated r.path) rows) (filter_passes (λ (r : Row). is_migrated r.path) rows)

inside_all : (es : List (Edit Rendered (List ℕ))) → All (λ e. is_migrated (edit_path e) ≡ true) es → Inside es
inside_all [] all = tt
inside_all (e ∷ es) all = (All-head (λ e. is_migrated (edit_path e) ≡ true) e es all, inside_all es (All-tail (λ e. is_migrated (edit_path e) ≡ true) e es all))

-- what leads from one list of the area to another
pub difference_inside : (have want : List Rendered) → All IsInside have → All IsInside want → Inside (difference bytes_cmp path_of_rendered same_body have want)
difference_inside have want a b = inside_all (difference bytes_cmp path_of_rendered same_body have want) (All-append (λ e. is_migrated (edit_path e) ≡ true) _ _
    (All-drops bytes_order path_of_rendered (λ e. is_migrated (edit_path e) ≡ true) have want (λ z has absent. All-contains IsInside have z a has))
    (All-makes bytes_order path_of_rendered same_body (λ e. is_migrated (edit_path e) ≡ true) have want (λ z has new. All-contains IsInside want z b has) (λ z has y old differs. All-contains IsInside want z b has)))
