-- A key is read from its path.
use Rattle.std.proofs.Common.{◌≡◌, ℕ, ◌==◌, true, ◌&&◌, List, [], ◌∷◌, ◌++◌, Option, Some, refl, sym, ap, subst, ◌∙◌, inl, inr, codes, ℤ, pos}
use Rattle.std.specs.Prelude.{option_map, option_and_then, IfSome}
use Rattle.std.specs.List.{slice_split}
use Rattle.std.specs.Fmt.{signed_decimal}
use Rattle.std.proofs.lemmas.Bool.{and_parts}
use Rattle.kz_types.specs.declared.key.EntityKey.{EntityKey}
use Rattle.kz_types.specs.declared.key.EntityKey.TheVariants.{Topic, Partition, TopicConfig, BrokerConfig, Client, User, UserClient, Ip, Acl, Producer}
use Rattle.kz_types.specs.PathRule.{is_part}
use Rattle.kz_types.specs.Paths.{is_topic_name, part_for_name, part_or_default, resource_type_name, is_absent_or, is_not_negative, is_address, is_pattern, is_resource_type, key_of, key_of_parts, path_of, is_legal}
use Rattle.kz_laws_values.specs.TextKeys.{IsText, IsSmall, HasTexts}
use Rattle.kz_laws_values.proofs.Names.{some_same}
use Rattle.kz_laws_values.proofs.Parts.{HasNoSlash, split_part, split_last, topic_has_none, topic_is_read, part_has_none, sanitised_has_none, named_is_read, address_has_none, address_is_read, number_has_none, number_is_read, broker_has_none, broker_is_read, IsOneOf, pattern_is, type_has_none, type_is_read}

abbrev split : List ℕ → List (List ℕ)
split bs = slice_split (λ b. b == 47) bs

-- two words and one part
three_parts : (a b c : List ℕ) → HasNoSlash c → key_of_parts (a ∷ b ∷ split c) ≡ key_of_parts (a ∷ b ∷ c ∷ [])
three_parts a b c none = ap (λ ps. key_of_parts (a ∷ b ∷ ps)) (split_last c none)

topic_key : (name : List ℕ) → is_topic_name name ≡ true → key_of (path_of (Topic name)) ≡ Some (Topic name)
unfolding key_of path_of
topic_key name h = three_parts (codes "brokers") (codes "topics") name (topic_has_none name h) ∙ ap (option_map (λ n. Topic n)) (topic_is_read name h)

topic_config_key : (name : List ℕ) → is_topic_name name ≡ true → key_of (path_of (TopicConfig name)) ≡ Some (TopicConfig name)
unfolding key_of path_of
topic_config_key name h = three_parts (codes "config") (codes "topics") name (topic_has_none name h) ∙ ap (option_map (λ n. TopicConfig n)) (topic_is_read name h)

partition_key : (topic : List ℕ) (number : ℤ) → is_topic_name topic ≡ true → is_not_negative number ≡ true → IsSmall number → key_of (path_of (Partition topic number)) ≡ Some (Partition topic number)
unfolding key_of path_of
partition_key topic number name legal small =
    ap (λ ps. key_of_parts (codes "brokers" ∷ codes "topics" ∷ ps)) (split_part topic (codes "partitions/" ++ (signed_decimal number ++ codes "/state")) (topic_has_none topic name))
    ∙ ap (λ ps. key_of_parts (codes "brokers" ∷ codes "topics" ∷ topic ∷ codes "partitions" ∷ ps)) (split_part (signed_decimal number) (codes "state") (number_has_none number legal small))
    ∙ (λ i. option_and_then (λ t. option_map (λ n. Partition t n) (number_is_read number legal small i)) (topic_is_read topic name i))

broker_config_key : (broker : Option ℤ) → is_absent_or is_not_negative broker ≡ true → IfSome broker IsSmall → key_of (path_of (BrokerConfig broker)) ≡ Some (BrokerConfig broker)
unfolding key_of path_of
broker_config_key broker legal small =
    three_parts (codes "config") (codes "brokers") (part_or_default signed_decimal broker) (broker_has_none broker legal small) ∙ ap (option_map (λ b. BrokerConfig b)) (broker_is_read broker legal small)

client_key : (client : Option (List ℕ)) → IfSome client IsText → key_of (path_of (Client client)) ≡ Some (Client client)
unfolding key_of path_of
client_key client text = three_parts (codes "config") (codes "clients") (part_or_default part_for_name client) (sanitised_has_none client) ∙ ap (option_map (λ c. Client c)) (named_is_read client text)

user_key : (user : Option (List ℕ)) → IfSome user IsText → key_of (path_of (User user)) ≡ Some (User user)
unfolding key_of path_of
user_key user text = three_parts (codes "config") (codes "users") (part_or_default part_for_name user) (sanitised_has_none user) ∙ ap (option_map (λ u. User u)) (named_is_read user text)

user_client_key : (user client : Option (List ℕ)) → IfSome user IsText → IfSome client IsText → key_of (path_of (UserClient user client)) ≡ Some (UserClient user client)
unfolding key_of path_of
user_client_key user client one other =
    ap (λ ps. key_of_parts (codes "config" ∷ codes "users" ∷ ps)) (split_part (part_or_default part_for_name user) (codes "clients/" ++ part_or_default part_for_name client) (sanitised_has_none user))
    ∙ ap (λ ps. key_of_parts (codes "config" ∷ codes "users" ∷ part_or_default part_for_name user ∷ codes "clients" ∷ ps)) (split_last (part_or_default part_for_name client) (sanitised_has_none client))
    ∙ (λ i. option_and_then (λ u. option_map (λ c. UserClient u c) (named_is_read client other i)) (named_is_read user one i))

ip_key : (address : Option (List ℕ)) → is_absent_or is_address address ≡ true → key_of (path_of (Ip address)) ≡ Some (Ip address)
unfolding key_of path_of
ip_key address legal = three_parts (codes "config") (codes "ips") (part_or_default (λ a. a) address) (address_has_none address legal) ∙ ap (option_map (λ a. Ip a)) (address_is_read address legal)

literal_key : (kind : ℤ) (name : List ℕ) → is_resource_type kind ≡ true → is_part name ≡ true → key_of (path_of (Acl (pos 3) kind name)) ≡ Some (Acl (pos 3) kind name)
unfolding key_of path_of
literal_key kind name legal part =
    ap (λ ps. key_of_parts (codes "kafka-acl" ∷ ps)) (split_part (resource_type_name kind) name (type_has_none kind legal))
    ∙ three_parts (codes "kafka-acl") (resource_type_name kind) name (part_has_none name part) ∙ ap (option_map (λ k. Acl (pos 3) k name)) (type_is_read kind legal)

prefixed_key : (kind : ℤ) (name : List ℕ) → is_resource_type kind ≡ true → is_part name ≡ true → key_of (path_of (Acl (pos 4) kind name)) ≡ Some (Acl (pos 4) kind name)
unfolding key_of path_of
prefixed_key kind name legal part =
    ap (λ ps. key_of_parts (codes "kafka-acl-extended" ∷ codes "prefixed" ∷ ps)) (split_part (resource_type_name kind) name (type_has_none kind legal))
    ∙ ap (λ ps. key_of_parts (codes "kafka-acl-extended" ∷ codes "prefixed" ∷ resource_type_name kind ∷ ps)) (split_last name (part_has_none name part))
    ∙ ap (option_map (λ k. Acl (pos 4) k name)) (type_is_read kind legal)

-- a key that is read from its path
abbrev IsRead : EntityKey → Type 0
IsRead key = key_of (path_of key) ≡ Some key

acl_key : (pattern kind : ℤ) (name : List ℕ) → IsOneOf (3 ∷ 4 ∷ []) pattern → is_resource_type kind ≡ true → is_part name ≡ true → IsRead (Acl pattern kind name)
acl_key pattern kind name (inl e) legal part = subst (λ p. IsRead (Acl p kind name)) (sym e) (literal_key kind name legal part)
acl_key pattern kind name (inr (inl e)) legal part = subst (λ p. IsRead (Acl p kind name)) (sym e) (prefixed_key kind name legal part)
acl_key pattern kind name (inr (inr e)) legal part = absurd e

producer_key : IsRead Producer
unfolding key_of path_of
producer_key = refl

-- a path holds the key that it is the path of
pub path_holds : (key : EntityKey) → is_legal key ≡ true → HasTexts key → key_of (path_of key) ≡ Some key
unfolding is_legal
path_holds (Topic name) legal texts = topic_key name legal
path_holds (Partition topic number) legal texts = let k = and_parts (is_topic_name topic) (is_not_negative number) legal in partition_key topic number k.0 k.1 texts.1
path_holds (TopicConfig name) legal texts = topic_config_key name legal
path_holds (BrokerConfig broker) legal texts = broker_config_key broker legal texts
path_holds (Client client) legal texts = client_key client texts
path_holds (User user) legal texts = user_key user texts
path_holds (UserClient user client) legal texts = user_client_key user client texts.0 texts.1
path_holds (Ip address) legal texts = ip_key address legal
path_holds (Acl pattern kind name) legal texts =
    let k = and_parts (is_pattern pattern && is_resource_type kind) (is_part name) legal in
    let m = and_parts (is_pattern pattern) (is_resource_type kind) k.0 in
    acl_key pattern kind name (pattern_is pattern m.0) m.1 k.1
path_holds Producer legal texts = producer_key

-- keys of one path are one key
pub one_key : (key other : EntityKey) → is_legal key ≡ true → HasTexts key → is_legal other ≡ true → HasTexts other → path_of key ≡ path_of other → key ≡ other
one_key key other legal texts legal_other texts_other same =
    some_same key other (sym (path_holds key legal texts) ∙ ap key_of same ∙ path_holds other legal_other texts_other)
