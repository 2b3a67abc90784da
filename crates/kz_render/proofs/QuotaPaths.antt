-- The paths of entities with quotas, and of users, keep the rule of paths.
use Rattle.std.proofs.Common.{◌≡◌, ℕ, ◌++◌, List, Option, Some, true, codes, sym, ap, ◌∙◌, arith, append_assoc}
use Rattle.kz_types.specs.PathRule.{is_path}
use Rattle.kz_types.specs.Paths.{path_of, key_of, has_path, is_legal, is_absent_or, is_not_empty, part_or_default, part_for_name}
use Rattle.kz_types.specs.declared.key.EntityKey.TheVariants.{User, UserClient}
use Rattle.kz_types.proofs.KeyLemmas.{path_of_key_of}
use Rattle.kz_types.proofs.PathRules.{both_hold}
use Rattle.kz_laws_values.proofs.Texts.{key_good}
use Rattle.kz_render.proofs.PathForms.{front_is_path}

client_path : (user client : Option (List ℕ)) → path_of (UserClient user client) ≡ (path_of (User user) ++ codes "/clients") ++ (codes "/" ++ part_or_default part_for_name client)
unfolding path_of
client_path user client = ap (λ t. codes "/config/users/" ++ t) (sym (append_assoc (part_or_default part_for_name user) (codes "/clients") (codes "/" ++ part_or_default part_for_name client)))

pub clients_rule : (user client : Option (List ℕ)) (path : List ℕ) → is_path path ≡ true → key_of path ≡ Some (UserClient user client) → is_path (path_of (User user) ++ codes "/clients") ≡ true
unfolding path_of
clients_rule user client path rule is =
    front_is_path (path_of (User user) ++ codes "/clients") (part_or_default part_for_name client) (omega arith)
    (ap is_path (sym (client_path user client) ∙ path_of_key_of path (UserClient user client) rule is) ∙ rule)

pub user_rule : (user client : Option (List ℕ)) (path : List ℕ) → is_path path ≡ true → key_of path ≡ Some (UserClient user client) → has_path (User user) ≡ true
unfolding has_path path_of
user_rule user client path rule is = front_is_path (path_of (User user)) (codes "clients") (omega arith) (clients_rule user client path rule is)

pub user_legal : (user client : Option (List ℕ)) (path : List ℕ) → is_path path ≡ true → key_of path ≡ Some (UserClient user client) → is_legal (User user) ≡ true
unfolding is_legal
user_legal user client path rule is = (both_hold (is_absent_or is_not_empty user) (is_absent_or is_not_empty client) (key_good path (UserClient user client) rule is).0).0
