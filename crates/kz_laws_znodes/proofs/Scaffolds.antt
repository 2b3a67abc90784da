-- The parents of entities hold none.
use Rattle.std.proofs.Common.{◌≡◌, ◌⊎◌, ℕ, ℤ, pos, Bool, true, false, ◌&&◌, ◌||◌, List, [], ◌∷◌, ◌++◌, Option, Some, None, is_some, Contains, All, refl, ap, ◌∙◌, inl, inr, codes, append_assoc}
use Rattle.std.specs.Prelude.{option_map, IfSome}
use Rattle.std.specs.Fmt.{signed_decimal}
use Rattle.std.proofs.lemmas.List.Elements.{All-contains, All-from_recursion}
use Rattle.kz_types.specs.declared.key.EntityKey.TheVariants as key
use Rattle.kz_types.specs.declared.kind.Kind.TheVariants as kind
use Rattle.kz_types.specs.Numbers.{canonical}
use Rattle.kz_types.specs.PathRule.{parts}
use Rattle.kz_types.specs.Paths.{roots, is_among, is_topic_name, is_not_negative, part_for_name, part_or_default, key_of, key_of_parts, is_scaffold_of_parts, kind_of, is_migrated, path_of}
use Rattle.kz_spec_data.specs.Rendering.{partitions_path, number_path}
use Rattle.kz_laws_values.specs.TextKeys.{IsText, IsSmall}
use Rattle.kz_laws_values.proofs.Parts.{split_part, split_last, topic_has_none, number_has_none, number_is_read, sanitised_has_none, named_is_read}

-- A path that holds no entity, and is a parent of some.
pub record IsScaffold (path : List ℕ) : Type 0 where
  pub none : key_of path ≡ None
  pub kind_is : kind_of path ≡ kind.Scaffold

or_true : (b : Bool) → b || true ≡ true
or_true true = refl
or_true false = refl

kind_from : (path : List ℕ) → key_of path ≡ None → is_scaffold_of_parts (parts path) ≡ true → kind_of path ≡ kind.Scaffold
unfolding kind_of
kind_from path none scaffold = rw (none, scaffold, or_true (is_among roots path)) refl

partitions_parts : (name : List ℕ) → is_topic_name name ≡ true → parts (partitions_path name) ≡ codes "brokers" ∷ codes "topics" ∷ name ∷ codes "partitions" ∷ []
unfolding path_of
partitions_parts name h = ap (λ ps. codes "brokers" ∷ codes "topics" ∷ ps) (split_part name (codes "partitions") (topic_has_none name h))

pub partitions_scaffold : (name : List ℕ) → is_topic_name name ≡ true → IsScaffold (partitions_path name)
unfolding key_of
partitions_scaffold name h = record {
  none = ap key_of_parts (partitions_parts name h);
  kind_is = kind_from (partitions_path name) (ap key_of_parts (partitions_parts name h)) (ap is_scaffold_of_parts (partitions_parts name h) ∙ (rw h refl));
}

number_parts : (name : List ℕ) (number : ℤ) → is_topic_name name ≡ true → is_not_negative number ≡ true → IsSmall number → parts (number_path name number) ≡ codes "brokers" ∷ codes "topics" ∷ name ∷ codes "partitions" ∷ signed_decimal number ∷ []
unfolding path_of
number_parts name number h low small =
    ap (λ bs. parts (codes "/brokers/topics/" ++ bs)) (append_assoc name (codes "/partitions") (codes "/" ++ signed_decimal number))
    ∙ ap (λ ps. codes "brokers" ∷ codes "topics" ∷ ps) (split_part name (codes "partitions/" ++ signed_decimal number) (topic_has_none name h))
    ∙ ap (λ ps. codes "brokers" ∷ codes "topics" ∷ name ∷ codes "partitions" ∷ ps) (split_last (signed_decimal number) (number_has_none number low small))

decimal_is : (number : ℤ) → is_not_negative number ≡ true → IsSmall number → is_some (canonical (signed_decimal number)) ≡ true
decimal_is number low small = by (canonical (signed_decimal number)) (number_is_read number low small)
  where
    by : (o : Option ℕ) → option_map (λ n. pos n) o ≡ Some number → is_some o ≡ true
    by None e = absurd (cc)
    by (Some n) e = refl

pub number_scaffold : (name : List ℕ) (number : ℤ) → is_topic_name name ≡ true → is_not_negative number ≡ true → IsSmall number → IsScaffold (number_path name number)
unfolding key_of
number_scaffold name number h low small = record {
  none = ap key_of_parts (number_parts name number h low small);
  kind_is = kind_from (number_path name number) (ap key_of_parts (number_parts name number h low small)) (ap is_scaffold_of_parts (number_parts name number h low small) ∙ (rw (h, decimal_is number low small) refl));
}

abbrev pub clients_path : Option (List ℕ) → List ℕ
clients_path user = path_of (key.User user) ++ codes "/clients"

clients_parts : (user : Option (List ℕ)) → parts (clients_path user) ≡ codes "config" ∷ codes "users" ∷ part_or_default part_for_name user ∷ codes "clients" ∷ []
unfolding path_of
clients_parts user = ap (λ ps. codes "config" ∷ codes "users" ∷ ps) (split_part (part_or_default part_for_name user) (codes "clients") (sanitised_has_none user))

pub clients_scaffold : (user : Option (List ℕ)) → IfSome user IsText → IsScaffold (clients_path user)
unfolding key_of
clients_scaffold user text = record {
  none = ap key_of_parts (clients_parts user);
  kind_is = kind_from (clients_path user) (ap key_of_parts (clients_parts user)) (ap is_scaffold_of_parts (clients_parts user) ∙ ap (λ o. is_some o && true) (named_is_read user text));
}

-- ---- roots

-- a root holds no entity, but for that of the producer ids
abbrev IsRootScaffold : List ℕ → Type 0
IsRootScaffold path = IsScaffold path ⊎ (path ≡ path_of key.Producer)

abbrev scaffold : (path : List ℕ) → key_of path ≡ None → kind_of path ≡ kind.Scaffold → IsRootScaffold path
scaffold path none kind_is = inl (record { none = none; kind_is = kind_is })

each_root : All IsRootScaffold roots
unfolding roots key_of kind_of is_migrated path_of
each_root = All-from_recursion IsRootScaffold roots (
  scaffold (codes "/brokers/topics") refl refl,
  (
    scaffold (codes "/config/brokers") refl refl,
    (
      scaffold (codes "/config/clients") refl refl,
      (
        scaffold (codes "/config/ips") refl refl,
        (
          scaffold (codes "/config/topics") refl refl,
          (
            scaffold (codes "/config/users") refl refl,
            (
              scaffold (codes "/kafka-acl-extended/prefixed/Cluster") refl refl,
              (
                scaffold (codes "/kafka-acl-extended/prefixed/DelegationToken") refl refl,
                (
                  scaffold (codes "/kafka-acl-extended/prefixed/Group") refl refl,
                  (
                    scaffold (codes "/kafka-acl-extended/prefixed/Topic") refl refl,
                    (
                      scaffold (codes "/kafka-acl-extended/prefixed/TransactionalId") refl refl,
                      (
                        scaffold (codes "/kafka-acl/Cluster") refl refl,
                        (
                          scaffold (codes "/kafka-acl/DelegationToken") refl refl,
                          (
                            scaffold (codes "/kafka-acl/Group") refl refl,
                            (
                              scaffold (codes "/kafka-acl/Topic") refl refl,
                              (
                                scaffold (codes "/kafka-acl/TransactionalId") refl refl,
                                (
                                  inr refl,
                                  tt,
                                ),
                              ),
                            ),
                          ),
                        ),
                      ),
                    ),
                  ),
                ),
              ),
            ),
          ),
        ),
      ),
    ),
  ),
)

pub root_is : (path : List ℕ) → Contains roots path → IsRootScaffold path
root_is path has = All-contains IsRootScaffold roots path each_root has
