-- A path and the entity that it holds belong to each other.
use Rattle.std.proofs.Common.{◌≡◌, ℕ, Bool, true, false, ◌&&◌, List, [], ◌∷◌, ◌++◌, ◌∙◌, sym, ap, refl, Some, None, codes, inl, inr}
use Rattle.std.specs.Prelude.{◌⊎◌, Option, option_map, option_and_then, if◌then◌else◌, bytes_eq, ℤ, pos}
use Rattle.std.specs.Fmt.{signed_decimal}
use Rattle.std.specs.Str.{is_utf8}
use Rattle.std.specs.List.{join_with_byte}
use Rattle.std.proofs.lemmas.List.Splits.{join_with_byte-slice_split}
use Rattle.kz_types.specs.declared.key.EntityKey.{EntityKey}
use Rattle.kz_types.specs.declared.key.EntityKey.TheVariants.{Topic, Partition, TopicConfig, BrokerConfig, Client, User, UserClient, Ip, Acl, Producer}
use Rattle.kz_types.specs.Numbers.{canonical, number_in}
use Rattle.kz_types.specs.PathRule.{is_path, parts}
use Rattle.kz_types.specs.Paths.{is_part, is_topic_name, topic_of, address_of, default_or, part_or_default, default_part, name_of_part, part_for_name, bytes_of_part, resource_type_of, resource_type_name, are, key_of, key_of_parts, key_of_three, key_of_four, key_of_five, key_of_six, path_of}
use Rattle.kz_types.proofs.NumberLemmas.{bytes_eq-true, canonical_sound}
use Rattle.kz_types.proofs.PathRules.{both_hold, split_of_path}

-- ---- what an answer says of its parts

taken : {A : Type 0} (t : Bool) (x y : Option A) (a : A) → (if t then x else y) ≡ Some a → ((t ≡ true) × (x ≡ Some a)) ⊎ ((t ≡ false) × (y ≡ Some a))
taken true x y a h = inl (refl, h)
taken false x y a h = inr (refl, h)

mapped : {A B : Type 0} (f : A → B) (o : Option A) (b : B) → option_map f o ≡ Some b → (a : A) × (o ≡ Some a) × (f a ≡ b)
mapped f None b h = cc h
mapped f (Some a) b h = (a, refl, cc h)

chained : {A B : Type 0} (f : A → Option B) (o : Option A) (b : B) → option_and_then f o ≡ Some b → (a : A) × (o ≡ Some a) × (f a ≡ Some b)
chained f None b h = cc h
chained f (Some a) b h = (a, refl, h)

some_same : {A : Type 0} (a b : A) → Some a ≡ Some b → a ≡ b
some_same a b h = cc h

no_some : {A P : Type 0} (a : A) → None ≡ Some a → P
no_some a h = cc h

-- ---- names

topic_is : (part name : List ℕ) → topic_of part ≡ Some name → part ≡ name
topic_is part name h = elim (taken (is_topic_name part) (Some part) None name h) [
  | inl same ↦ some_same part name same.1
  | inr other ↦ no_some name other.1
]

address_is : (part name : List ℕ) → address_of part ≡ Some name → part ≡ name
address_is part name h = elim (taken (is_part part) (Some part) None name h) [
  | inl same ↦ some_same part name same.1
  | inr other ↦ no_some name other.1
]

restored_is : (part name : List ℕ) → name_of_part part ≡ Some name → part_for_name name ≡ part
unfolding name_of_part
restored_is part name h = elim (taken (bytes_eq (part_for_name (bytes_of_part part)) part && is_utf8 (bytes_of_part part)) (Some (bytes_of_part part)) None name h) [
  | inl same ↦ ap part_for_name (sym (some_same (bytes_of_part part) name same.1)) ∙ bytes_eq-true (part_for_name (bytes_of_part part)) part (both_hold (bytes_eq (part_for_name (bytes_of_part part)) part) (is_utf8 (bytes_of_part part)) same.0).0
  | inr other ↦ no_some name other.1
]

number_is : (part : List ℕ) (z : ℤ) → number_in part ≡ Some z → signed_decimal z ≡ part
number_is part z h = let m = mapped (λ n. pos n) (canonical part) z h in ap signed_decimal (sym m.2) ∙ sym (canonical_sound part m.0 m.1).0

-- the default, or a name whose part it is
default_is : {A : Type 0} (read : List ℕ → Option A) (write : A → List ℕ) (part : List ℕ) (o : Option A) → ((a : A) → read part ≡ Some a → write a ≡ part)
    → default_or read part ≡ Some o → part_or_default write o ≡ part
default_is read write part o back h = elim (taken (bytes_eq part default_part) (Some None) (option_map (λ a. Some a) (read part)) o h) [
  | inl same ↦ ap (part_or_default write) (sym (some_same None o same.1)) ∙ sym (bytes_eq-true part default_part same.0)
  | inr other ↦ let m = mapped (λ a. Some a) (read part) o other.1 in ap (part_or_default write) (sym m.2) ∙ back m.0 m.1
]

words : (a b word next : List ℕ) → are a b word next ≡ true → (a ≡ word) × (b ≡ next)
words a b word next h = let k = both_hold (bytes_eq a word) (bytes_eq b next) h in (bytes_eq-true a word k.0, bytes_eq-true b next k.1)

-- ---- the path of the entity that parts hold

between : (a b word next tail : List ℕ) → are a b word next ≡ true → 47 ∷ (word ++ 47 ∷ (next ++ 47 ∷ tail)) ≡ 47 ∷ (a ++ 47 ∷ (b ++ 47 ∷ tail))
between a b word next tail h = let w = words a b word next h in λ i. 47 ∷ (sym w.0 i ++ 47 ∷ (sym w.1 i ++ 47 ∷ tail))

-- a form of two words and one part
form : {A : Type 0} (make : A → EntityKey) (write : A → List ℕ) (a b c word next : List ℕ) (o : Option A) (key : EntityKey)
    → ((x : A) → path_of (make x) ≡ 47 ∷ (word ++ 47 ∷ (next ++ 47 ∷ write x))) → ((x : A) → o ≡ Some x → write x ≡ c)
    → are a b word next ≡ true → option_map make o ≡ Some key → path_of key ≡ 47 ∷ (a ++ 47 ∷ (b ++ 47 ∷ c))
form make write a b c word next o key path back is h =
    let m = mapped make o key h in
    ap path_of (sym m.2) ∙ path m.0 ∙ ap (λ x. 47 ∷ (word ++ 47 ∷ (next ++ 47 ∷ x))) (back m.0 m.1) ∙ between a b word next c is

type_is : (part : List ℕ) (kind : ℤ) → resource_type_of part ≡ Some kind → resource_type_name kind ≡ part
type_is part kind h = elim (taken (bytes_eq part (codes "Topic")) (Some (pos 2)) _ kind h) [
  | inl same ↦ ap resource_type_name (sym (some_same (pos 2) kind same.1)) ∙ sym (bytes_eq-true part (codes "Topic") same.0)
  | inr other ↦ elim (taken (bytes_eq part (codes "Group")) (Some (pos 3)) _ kind other.1) [
    | inl same ↦ ap resource_type_name (sym (some_same (pos 3) kind same.1)) ∙ sym (bytes_eq-true part (codes "Group") same.0)
    | inr other ↦ elim (taken (bytes_eq part (codes "Cluster")) (Some (pos 4)) _ kind other.1) [
      | inl same ↦ ap resource_type_name (sym (some_same (pos 4) kind same.1)) ∙ sym (bytes_eq-true part (codes "Cluster") same.0)
      | inr other ↦ elim (taken (bytes_eq part (codes "TransactionalId")) (Some (pos 5)) _ kind other.1) [
        | inl same ↦ ap resource_type_name (sym (some_same (pos 5) kind same.1)) ∙ sym (bytes_eq-true part (codes "TransactionalId") same.0)
        | inr other ↦ elim (taken (bytes_eq part (codes "DelegationToken")) (Some (pos 6)) None kind other.1) [
          | inl same ↦ ap resource_type_name (sym (some_same (pos 6) kind same.1)) ∙ sym (bytes_eq-true part (codes "DelegationToken") same.0)
          | inr other ↦ no_some kind other.1
        ]
      ]
    ]
  ]
]

literal_is : (a b c : List ℕ) (key : EntityKey) → bytes_eq a (codes "kafka-acl") ≡ true → option_map (λ kind. Acl (pos 3) kind c) (resource_type_of b) ≡ Some key
    → path_of key ≡ 47 ∷ (a ++ 47 ∷ (b ++ 47 ∷ c))
unfolding path_of
literal_is a b c key is h =
    let m = mapped (λ kind. Acl (pos 3) kind c) (resource_type_of b) key h in
    ap path_of (sym m.2) ∙ (λ i. 47 ∷ (sym (bytes_eq-true a (codes "kafka-acl") is) i ++ 47 ∷ (type_is b m.0 m.1 i ++ 47 ∷ c)))

pub three_path : (a b c : List ℕ) (key : EntityKey) → key_of_three a b c ≡ Some key → path_of key ≡ 47 ∷ (a ++ 47 ∷ (b ++ 47 ∷ c))
unfolding path_of
three_path a b c key h = elim (taken (are a b (codes "brokers") (codes "topics")) (option_map (λ name. Topic name) (topic_of c)) _ key h) [
  | inl same ↦ form (λ name. Topic name) (λ name. name) a b c (codes "brokers") (codes "topics") (topic_of c) key (λ x. refl) (λ x e. sym (topic_is c x e)) same.0 same.1
  | inr other ↦ elim (taken (are a b (codes "config") (codes "topics")) (option_map (λ name. TopicConfig name) (topic_of c)) _ key other.1) [
    | inl same ↦ form (λ name. TopicConfig name) (λ name. name) a b c (codes "config") (codes "topics") (topic_of c) key (λ x. refl) (λ x e. sym (topic_is c x e)) same.0 same.1
    | inr other ↦ elim (taken (are a b (codes "config") (codes "brokers")) (option_map (λ broker. BrokerConfig broker) (default_or number_in c)) _ key other.1) [
      | inl same ↦ form (λ broker. BrokerConfig broker) (part_or_default signed_decimal) a b c (codes "config") (codes "brokers") (default_or number_in c) key (λ x. refl)
          (λ x e. default_is number_in signed_decimal c x (number_is c) e) same.0 same.1
      | inr other ↦ elim (taken (are a b (codes "config") (codes "clients")) (option_map (λ client. Client client) (default_or name_of_part c)) _ key other.1) [
        | inl same ↦ form (λ client. Client client) (part_or_default part_for_name) a b c (codes "config") (codes "clients") (default_or name_of_part c) key (λ x. refl)
            (λ x e. default_is name_of_part part_for_name c x (restored_is c) e) same.0 same.1
        | inr other ↦ elim (taken (are a b (codes "config") (codes "users")) (option_map (λ user. User user) (default_or name_of_part c)) _ key other.1) [
          | inl same ↦ form (λ user. User user) (part_or_default part_for_name) a b c (codes "config") (codes "users") (default_or name_of_part c) key (λ x. refl)
              (λ x e. default_is name_of_part part_for_name c x (restored_is c) e) same.0 same.1
          | inr other ↦ elim (taken (are a b (codes "config") (codes "ips")) (option_map (λ address. Ip address) (default_or address_of c)) _ key other.1) [
            | inl same ↦ form (λ address. Ip address) (part_or_default (λ x. x)) a b c (codes "config") (codes "ips") (default_or address_of c) key (λ x. refl)
                (λ x e. default_is address_of (λ y. y) c x (λ y f. sym (address_is c y f)) e) same.0 same.1
            | inr other ↦ elim (taken (bytes_eq a (codes "kafka-acl")) (option_map (λ kind. Acl (pos 3) kind c) (resource_type_of b)) None key other.1) [
              | inl same ↦ literal_is a b c key same.0 same.1
              | inr other ↦ no_some key other.1
            ]
          ]
        ]
      ]
    ]
  ]
]

pub four_path : (a b c d : List ℕ) (key : EntityKey) → key_of_four a b c d ≡ Some key → path_of key ≡ 47 ∷ (a ++ 47 ∷ (b ++ 47 ∷ (c ++ 47 ∷ d)))
unfolding path_of
four_path a b c d key h = elim (taken (are a b (codes "kafka-acl-extended") (codes "prefixed")) (option_map (λ kind. Acl (pos 4) kind d) (resource_type_of c)) None key h) [
  | inl same ↦
      let m = mapped (λ kind. Acl (pos 4) kind d) (resource_type_of c) key same.1 in
      ap path_of (sym m.2) ∙ ap (λ t. 47 ∷ (codes "kafka-acl-extended" ++ 47 ∷ (codes "prefixed" ++ 47 ∷ (t ++ 47 ∷ d)))) (type_is c m.0 m.1)
      ∙ between a b (codes "kafka-acl-extended") (codes "prefixed") (c ++ 47 ∷ d) same.0
  | inr other ↦ no_some key other.1
]

pub five_path : (a b c d e : List ℕ) (key : EntityKey) → key_of_five a b c d e ≡ Some key → path_of key ≡ 47 ∷ (a ++ 47 ∷ (b ++ 47 ∷ (c ++ 47 ∷ (d ++ 47 ∷ e))))
unfolding path_of
five_path a b c d e key h = elim (taken (are a b (codes "config") (codes "users") && bytes_eq d (codes "clients"))
    (option_and_then (λ user. option_map (λ client. UserClient user client) (default_or name_of_part e)) (default_or name_of_part c)) None key h) [
      | inl same ↦
          let w = both_hold (are a b (codes "config") (codes "users")) (bytes_eq d (codes "clients")) same.0 in
          let u = chained (λ user. option_map (λ client. UserClient user client) (default_or name_of_part e)) (default_or name_of_part c) key same.1 in
          let m = mapped (λ client. UserClient u.0 client) (default_or name_of_part e) key u.2 in
          ap path_of (sym m.2)
          ∙ (λ i. 47 ∷ (codes "config" ++ 47 ∷ (codes "users" ++ 47 ∷ (default_is name_of_part part_for_name c u.0 (restored_is c) u.1 i
          ++ 47 ∷ (sym (bytes_eq-true d (codes "clients") w.1) i ++ 47 ∷ default_is name_of_part part_for_name e m.0 (restored_is e) m.1 i)))))
          ∙ between a b (codes "config") (codes "users") (c ++ 47 ∷ (d ++ 47 ∷ e)) w.0
      | inr other ↦ no_some key other.1
    ]

pub six_path : (a b c d e f : List ℕ) (key : EntityKey) → key_of_six a b c d e f ≡ Some key → path_of key ≡ 47 ∷ (a ++ 47 ∷ (b ++ 47 ∷ (c ++ 47 ∷ (d ++ 47 ∷ (e ++ 47 ∷ f)))))
unfolding path_of
six_path a b c d e f key h = elim (taken (are a b (codes "brokers") (codes "topics") && are d f (codes "partitions") (codes "state"))
    (option_and_then (λ topic. option_map (λ n. Partition topic n) (number_in e)) (topic_of c)) None key h) [
      | inl same ↦
          let w = both_hold (are a b (codes "brokers") (codes "topics")) (are d f (codes "partitions") (codes "state")) same.0 in
          let v = words d f (codes "partitions") (codes "state") w.1 in
          let u = chained (λ topic. option_map (λ n. Partition topic n) (number_in e)) (topic_of c) key same.1 in
          let m = mapped (λ n. Partition u.0 n) (number_in e) key u.2 in
          ap path_of (sym m.2)
          ∙ (λ i. 47 ∷ (codes "brokers" ++ 47 ∷ (codes "topics" ++ 47 ∷ (sym (topic_is c u.0 u.1) i ++ 47 ∷ (sym v.0 i ++ 47 ∷ (number_is e m.0 m.1 i ++ 47 ∷ sym v.1 i))))))
          ∙ between a b (codes "brokers") (codes "topics") (c ++ 47 ∷ (d ++ 47 ∷ (e ++ 47 ∷ f))) w.0
      | inr other ↦ no_some key other.1
    ]

-- the path of the entity of these parts
pub parts_path : (ps : List (List ℕ)) (key : EntityKey) → key_of_parts ps ≡ Some key → path_of key ≡ join_with_byte 47 ([] ∷ ps)
unfolding path_of
parts_path [] key h = no_some key h
parts_path (a ∷ []) key h = elim (taken (bytes_eq a (codes "latest_producer_id_block")) (Some Producer) None key h) [
  | inl same ↦ ap path_of (sym (some_same Producer key same.1)) ∙ ap (λ x. 47 ∷ x) (sym (bytes_eq-true a (codes "latest_producer_id_block") same.0))
  | inr other ↦ no_some key other.1
]
parts_path (a ∷ b ∷ []) key h = no_some key h
parts_path (a ∷ b ∷ c ∷ []) key h = three_path a b c key h
parts_path (a ∷ b ∷ c ∷ d ∷ []) key h = four_path a b c d key h
parts_path (a ∷ b ∷ c ∷ d ∷ e ∷ []) key h = five_path a b c d e key h
parts_path (a ∷ b ∷ c ∷ d ∷ e ∷ f ∷ []) key h = six_path a b c d e f key h
parts_path (a ∷ b ∷ c ∷ d ∷ e ∷ f ∷ g ∷ more) key h = no_some key h

-- a path is the path of the entity that it holds
pub path_of_key_of : (path : List ℕ) (key : EntityKey) → is_path path ≡ true → key_of path ≡ Some key → path_of key ≡ path
unfolding key_of
path_of_key_of path key rule holds =
    parts_path (parts path) key holds ∙ ap (join_with_byte 47) (sym (split_of_path path rule)) ∙ join_with_byte-slice_split 47 path
