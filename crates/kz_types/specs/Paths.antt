-- What each path of ZooKeeper's tree is to the migration, and which entity it holds.
pub use Rattle.kz_types.specs.PathRule.{is_path, parts, is_part}
use Rattle.std.specs.Prelude.{ℕ, ◌+◌, ◌-◌, ◌*◌, ◌/◌, ◌%◌, Bool, true, false, not, ◌&&◌, ◌||◌, ◌==◌, nat_lt, nat_le, ℤ, pos, int_le, List, [], ◌∷◌, ◌++◌, length, Option, Some, None, option_map, option_and_then, is_some, if◌then◌else◌, codes, bytes_eq}
use Rattle.std.specs.Str.{is_utf8}
use Rattle.std.specs.List.{list_any, list_all, starts_with, flat_map}
use Rattle.std.specs.Fmt.{signed_decimal}
use Rattle.std.specs.Bool.{nat_eq}
use Rattle.std.specs.Ordering.{int_eq}
use Rattle.kz_types.specs.Numbers.{canonical, number_in}
use Rattle.kz_types.specs.declared.kind.Kind.{Kind}
use Rattle.kz_types.specs.declared.kind.Kind.TheVariants.{Entity, Scaffold, Stray, Base, Control, Reserved, Outside}
use Rattle.kz_types.specs.declared.key.EntityKey.{EntityKey}
use Rattle.kz_types.specs.declared.key.EntityKey.TheVariants.{Topic, Partition, TopicConfig, BrokerConfig, Client, User, UserClient, Ip, Acl, Producer}

-- ---- the paths that are there before any entity

-- below these each entity has its place; in path order
unfoldable pub roots : List (List ℕ)
roots =
    codes "/brokers/topics"
    ∷ codes "/config/brokers"
    ∷ codes "/config/clients"
    ∷ codes "/config/ips"
    ∷ codes "/config/topics"
    ∷ codes "/config/users"
    ∷ codes "/kafka-acl-extended/prefixed/Cluster"
    ∷ codes "/kafka-acl-extended/prefixed/DelegationToken"
    ∷ codes "/kafka-acl-extended/prefixed/Group"
    ∷ codes "/kafka-acl-extended/prefixed/Topic"
    ∷ codes "/kafka-acl-extended/prefixed/TransactionalId"
    ∷ codes "/kafka-acl/Cluster"
    ∷ codes "/kafka-acl/DelegationToken"
    ∷ codes "/kafka-acl/Group"
    ∷ codes "/kafka-acl/Topic"
    ∷ codes "/kafka-acl/TransactionalId"
    ∷ codes "/latest_producer_id_block"
    ∷ []

-- the parents of roots, in path order
unfoldable pub base_paths : List (List ℕ)
base_paths =
    codes "/brokers"
    ∷ codes "/config"
    ∷ codes "/kafka-acl"
    ∷ codes "/kafka-acl-extended"
    ∷ codes "/kafka-acl-extended/prefixed"
    ∷ []

-- the znodes by which controllers find each other and record the migration, in path order
unfoldable pub control_paths : List (List ℕ)
control_paths = codes "/controller" ∷ codes "/controller_epoch" ∷ codes "/migration" ∷ []

-- one of these texts
abbrev pub is_among : List (List ℕ) → List ℕ → Bool
is_among texts text = list_any (λ t. bytes_eq text t) texts

-- a path below another
abbrev pub is_below : List ℕ → List ℕ → Bool
is_below above path = starts_with nat_eq path (above ++ codes "/")

-- at or below a root
unfoldable pub is_migrated : List ℕ → Bool
is_migrated path = list_any (λ root. bytes_eq path root || is_below root path) roots

-- ---- names

-- the part that stands for the default in place of a name
abbrev pub default_part : List ℕ
default_part = codes "<default>"

-- the default, or a name that is read
abbrev pub default_or : {A : Type 0} → (List ℕ → Option A) → List ℕ → Option (Option A)
default_or read part = if bytes_eq part default_part then Some None else option_map (λ a. Some a) (read part)

-- the part of the default, or of a name
abbrev pub part_or_default : {A : Type 0} → (A → List ℕ) → Option A → List ℕ
part_or_default write None = default_part
part_or_default write (Some a) = write a

-- `A` to `Z`, `a` to `z`, `0` to `9`
abbrev pub is_letter_or_digit : ℕ → Bool
is_letter_or_digit b = (nat_le 65 b && nat_le b 90) || (nat_le 97 b && nat_le b 122) || (nat_le 48 b && nat_le b 57)

-- letters, digits, `.`, `_` and `-`
abbrev pub is_topic_byte : ℕ → Bool
is_topic_byte b = is_letter_or_digit b || (b == 46) || (b == 95) || (b == 45)

-- a legal name of a topic: 1 to 249 of these, and neither `.` nor `..`
unfoldable pub is_topic_name : List ℕ → Bool
is_topic_name name = nat_lt 0 (length name) && nat_le (length name) 249 && list_all is_topic_byte name
    && not (bytes_eq name (codes ".")) && not (bytes_eq name (codes ".."))

-- letters, digits, `.`, `_`, `-` and `~` stand for themselves
abbrev pub is_plain : ℕ → Bool
is_plain b = is_topic_byte b || (b == 126)

-- an upper-case hexadecimal digit
abbrev pub hex_digit : ℕ → ℕ
hex_digit n = if nat_lt n 10 then 48 + n else 55 + n

-- a byte as it stands, or `%` and its two hexadecimal digits
abbrev pub sanitised_byte : ℕ → List ℕ
sanitised_byte b = if is_plain b then b ∷ [] else 37 ∷ hex_digit (b / 16) ∷ hex_digit (b % 16) ∷ []

-- the part that a client id or a user's name is written as
unfoldable pub part_for_name : List ℕ → List ℕ
part_for_name name = flat_map sanitised_byte name

-- the value of an upper-case hexadecimal digit, and 0 of another byte
abbrev pub hex_value : ℕ → ℕ
hex_value c = if nat_le 48 c && nat_le c 57 then c - 48 else if nat_le 65 c && nat_le c 70 then c - 55 else 0

-- the bytes that a part's plain bytes and escapes stand for
unfoldable pub bytes_of_part : List ℕ → List ℕ
bytes_of_part [] = []
bytes_of_part (c ∷ []) = c ∷ []
bytes_of_part (c ∷ d ∷ []) = c ∷ d ∷ []
bytes_of_part (c ∷ d ∷ e ∷ rest) = if c == 37 then (hex_value d * 16 + hex_value e) ∷ bytes_of_part rest else c ∷ bytes_of_part (d ∷ e ∷ rest)

-- the name that is written as this part. A part that no name is written as has none
unfoldable pub name_of_part : List ℕ → Option (List ℕ)
name_of_part part = if bytes_eq (part_for_name (bytes_of_part part)) part && is_utf8 (bytes_of_part part) then Some (bytes_of_part part) else None

-- ---- the forms of a path's parts

abbrev pub topic_of : List ℕ → Option (List ℕ)
topic_of part = if is_topic_name part then Some part else None

-- a part other than `<default>`
abbrev pub address_of : List ℕ → Option (List ℕ)
address_of part = if is_part part then Some part else None

-- Kafka's code of a type of resource
abbrev pub resource_type_of : List ℕ → Option ℤ
resource_type_of part =
    if bytes_eq part (codes "Topic") then Some (pos 2)
    else if bytes_eq part (codes "Group") then Some (pos 3)
    else if bytes_eq part (codes "Cluster") then Some (pos 4)
    else if bytes_eq part (codes "TransactionalId") then Some (pos 5)
    else if bytes_eq part (codes "DelegationToken") then Some (pos 6)
    else None

abbrev pub resource_type_name : ℤ → List ℕ
resource_type_name kind =
    if int_eq kind (pos 2) then codes "Topic"
    else if int_eq kind (pos 3) then codes "Group"
    else if int_eq kind (pos 4) then codes "Cluster"
    else if int_eq kind (pos 5) then codes "TransactionalId"
    else codes "DelegationToken"

-- two parts that are these words
abbrev pub are : List ℕ → List ℕ → List ℕ → List ℕ → Bool
are a b word next = bytes_eq a word && bytes_eq b next

-- the entity of three parts
abbrev pub key_of_three : List ℕ → List ℕ → List ℕ → Option EntityKey
key_of_three a b c =
    if are a b (codes "brokers") (codes "topics") then option_map (λ name. Topic name) (topic_of c)
    else if are a b (codes "config") (codes "topics") then option_map (λ name. TopicConfig name) (topic_of c)
    else if are a b (codes "config") (codes "brokers") then option_map (λ broker. BrokerConfig broker) (default_or number_in c)
    else if are a b (codes "config") (codes "clients") then option_map (λ client. Client client) (default_or name_of_part c)
    else if are a b (codes "config") (codes "users") then option_map (λ user. User user) (default_or name_of_part c)
    else if are a b (codes "config") (codes "ips") then option_map (λ address. Ip address) (default_or address_of c)
    else if bytes_eq a (codes "kafka-acl") then option_map (λ kind. Acl (pos 3) kind c) (resource_type_of b)
    else None

-- of four
abbrev pub key_of_four : List ℕ → List ℕ → List ℕ → List ℕ → Option EntityKey
key_of_four a b c d =
    if are a b (codes "kafka-acl-extended") (codes "prefixed") then option_map (λ kind. Acl (pos 4) kind d) (resource_type_of c)
    else None

-- of five
abbrev pub key_of_five : List ℕ → List ℕ → List ℕ → List ℕ → List ℕ → Option EntityKey
key_of_five a b c d e =
    if are a b (codes "config") (codes "users") && bytes_eq d (codes "clients")
    then option_and_then (λ user. option_map (λ client. UserClient user client) (default_or name_of_part e)) (default_or name_of_part c)
    else None

-- of six
abbrev pub key_of_six : List ℕ → List ℕ → List ℕ → List ℕ → List ℕ → List ℕ → Option EntityKey
key_of_six a b c d e f =
    if are a b (codes "brokers") (codes "topics") && are d f (codes "partitions") (codes "state")
    then option_and_then (λ topic. option_map (λ number. Partition topic number) (number_in e)) (topic_of c)
    else None

-- the entity that a path of these parts holds
abbrev pub key_of_parts : List (List ℕ) → Option EntityKey
key_of_parts [] = None
key_of_parts (a ∷ []) = if bytes_eq a (codes "latest_producer_id_block") then Some Producer else None
key_of_parts (a ∷ b ∷ []) = None
key_of_parts (a ∷ b ∷ c ∷ []) = key_of_three a b c
key_of_parts (a ∷ b ∷ c ∷ d ∷ []) = key_of_four a b c d
key_of_parts (a ∷ b ∷ c ∷ d ∷ e ∷ []) = key_of_five a b c d e
key_of_parts (a ∷ b ∷ c ∷ d ∷ e ∷ f ∷ []) = key_of_six a b c d e f
key_of_parts (a ∷ b ∷ c ∷ d ∷ e ∷ f ∷ g ∷ more) = None

-- the entity that a path holds
unfoldable pub key_of : List ℕ → Option EntityKey
key_of path = key_of_parts (parts path)

-- the parents of entities below the roots
abbrev pub is_scaffold_of_parts : List (List ℕ) → Bool
is_scaffold_of_parts [] = false
is_scaffold_of_parts (a ∷ []) = false
is_scaffold_of_parts (a ∷ b ∷ []) = false
is_scaffold_of_parts (a ∷ b ∷ c ∷ []) = false
is_scaffold_of_parts (a ∷ b ∷ c ∷ d ∷ []) =
    (are a b (codes "brokers") (codes "topics") && is_topic_name c && bytes_eq d (codes "partitions"))
    || (are a b (codes "config") (codes "users") && is_some (default_or name_of_part c) && bytes_eq d (codes "clients"))
is_scaffold_of_parts (a ∷ b ∷ c ∷ d ∷ e ∷ []) =
    are a b (codes "brokers") (codes "topics") && is_topic_name c && bytes_eq d (codes "partitions") && is_some (canonical e)
is_scaffold_of_parts (a ∷ b ∷ c ∷ d ∷ e ∷ f ∷ more) = false

-- what a path is to the migration
unfoldable pub kind_of : List ℕ → Kind
kind_of path =
    if is_some (key_of path) then Entity
    else if is_among roots path || is_scaffold_of_parts (parts path) then Scaffold
    else if is_migrated path then Stray
    else if is_among base_paths path then Base
    else if is_among control_paths path then Control
    else if list_any (λ control. is_below control path) control_paths then Reserved
    else Outside

-- ---- keys

-- the path of an entity
unfoldable pub path_of : EntityKey → List ℕ
path_of (Topic name) = codes "/brokers/topics/" ++ name
path_of (Partition topic number) = codes "/brokers/topics/" ++ (topic ++ (codes "/partitions/" ++ (signed_decimal number ++ codes "/state")))
path_of (TopicConfig name) = codes "/config/topics/" ++ name
path_of (BrokerConfig broker) = codes "/config/brokers/" ++ part_or_default signed_decimal broker
path_of (Client client) = codes "/config/clients/" ++ part_or_default part_for_name client
path_of (User user) = codes "/config/users/" ++ part_or_default part_for_name user
path_of (UserClient user client) = codes "/config/users/" ++ (part_or_default part_for_name user ++ (codes "/clients/" ++ part_or_default part_for_name client))
path_of (Ip address) = codes "/config/ips/" ++ part_or_default (λ a. a) address
path_of (Acl pattern kind name) =
    (if int_eq pattern (pos 3) then codes "/kafka-acl/" else codes "/kafka-acl-extended/prefixed/")
    ++ (resource_type_name kind ++ (codes "/" ++ name))
path_of Producer = codes "/latest_producer_id_block"

-- absent, or one of which the test holds
abbrev pub is_absent_or : {A : Type 0} → (A → Bool) → Option A → Bool
is_absent_or test None = true
is_absent_or test (Some a) = test a

abbrev pub is_not_negative : ℤ → Bool
is_not_negative n = int_le (pos 0) n

abbrev pub is_not_empty : List ℕ → Bool
is_not_empty name = nat_lt 0 (length name)

-- an address isn't spelled as the default
abbrev pub is_address : List ℕ → Bool
is_address name = is_part name && not (bytes_eq name default_part)

-- 3 for literal names, 4 for prefixes
abbrev pub is_pattern : ℤ → Bool
is_pattern pattern = int_le (pos 3) pattern && int_le pattern (pos 4)

abbrev pub is_resource_type : ℤ → Bool
is_resource_type kind = int_le (pos 2) kind && int_le kind (pos 6)

-- a key whose names, numbers and codes are those of its entity
unfoldable pub is_legal : EntityKey → Bool
is_legal (Topic name) = is_topic_name name
is_legal (Partition topic number) = is_topic_name topic && is_not_negative number
is_legal (TopicConfig name) = is_topic_name name
is_legal (BrokerConfig broker) = is_absent_or is_not_negative broker
is_legal (Client client) = is_absent_or is_not_empty client
is_legal (User user) = is_absent_or is_not_empty user
is_legal (UserClient user client) = is_absent_or is_not_empty user && is_absent_or is_not_empty client
is_legal (Ip address) = is_absent_or is_address address
is_legal (Acl pattern kind name) = is_pattern pattern && is_resource_type kind && is_part name
is_legal Producer = true

-- the key's path keeps the rule of paths
unfoldable pub has_path : EntityKey → Bool
has_path key = is_path (path_of key)
