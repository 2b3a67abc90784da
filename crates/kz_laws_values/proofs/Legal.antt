-- The key that a path holds is legal.
use Rattle.std.proofs.Common.{◌≡◌, ℕ, ◌<◌, ◌≤◌, not, Bool, true, false, ◌&&◌, List, [], ◌∷◌, length, Option, Some, None, refl, ap, subst, ◌∙◌, arith, inl, inr, codes, ℤ, pos}
use Rattle.std.specs.Prelude.{⊤, option_map, option_and_then, if◌then◌else◌, bytes_eq, IfSome}
use Rattle.std.specs.Str.{is_utf8}
use Rattle.std.proofs.lemmas.Bool.{and_parts, and_from, false≢true, not_from_false, le-leb, lt-ltb}
use Rattle.std.proofs.lemmas.Int.{ints}
use Rattle.kz_types.specs.declared.key.EntityKey.{EntityKey}
use Rattle.kz_types.specs.declared.key.EntityKey.TheVariants.{Topic, Partition, TopicConfig, BrokerConfig, Client, User, UserClient, Ip, Acl, Producer}
use Rattle.kz_types.specs.Numbers.{canonical, number_in}
use Rattle.kz_types.specs.PathRule.{is_part}
use Rattle.kz_types.specs.Paths.{is_topic_name, part_for_name, bytes_of_part, default_part, default_or, name_of_part, topic_of, address_of, resource_type_of, are, is_absent_or, is_not_negative, is_not_empty, is_address, is_resource_type, key_of_parts, key_of_three, key_of_four, key_of_five, key_of_six, is_legal}
use Rattle.kz_types.proofs.NumberLemmas.{canonical_sound}
use Rattle.kz_laws_values.specs.TextKeys.{IsText, IsSmall, HasTexts}
use Rattle.kz_laws_values.proofs.Names.{taken, some_same, no_some, part_is_written}

-- ---- what an answer says of its parts

mapped : {A B : Type 0} (f : A → B) (o : Option A) (b : B) → option_map f o ≡ Some b → (a : A) × (o ≡ Some a) × (f a ≡ b)
mapped f None b h = cc h
mapped f (Some a) b h = (a, refl, cc h)

chained : {A B : Type 0} (f : A → Option B) (o : Option A) (b : B) → option_and_then f o ≡ Some b → (a : A) × (o ≡ Some a) × (f a ≡ Some b)
chained f None b h = cc h
chained f (Some a) b h = (a, refl, h)

-- where a test holds, this, and else that
by_test : {A P : Type 0} (t : Bool) (x y : Option A) (a : A) → (if t then x else y) ≡ Some a → (x ≡ Some a → P) → (y ≡ Some a → P) → P
by_test true x y a h first second = first h
by_test false x y a h first second = second h

-- ---- names and numbers that are read

-- a part of the rule that is a text
abbrev pub IsGoodPart : List ℕ → Type 0
IsGoodPart part = (is_part part ≡ true) × IsText part

topic_good : (part name : List ℕ) → IsGoodPart part → topic_of part ≡ Some name → (is_topic_name name ≡ true) × IsText name
topic_good part name good h = elim (taken (is_topic_name part) (Some part) None name h) [
  | inl same ↦ subst (λ n. (is_topic_name n ≡ true) × IsText n) (some_same part name same.1) (same.0, good.1)
  | inr other ↦ no_some name other.1
]

number_good : (part : List ℕ) (z : ℤ) → number_in part ≡ Some z → (is_not_negative z ≡ true) × IsSmall z
number_good part z h =
    let m = mapped (λ n. pos n) (canonical part) z h in
    let k = canonical_sound part m.0 m.1 in
    let zero : 0 ≤ m.0 = omega arith in
    let small : IsSmall (pos m.0) = omega (arith, ints, k.1) in
    subst (λ n. (is_not_negative n ≡ true) × IsSmall n) m.2 (le-leb 0 m.0 zero, small)

-- the default, or what is read from another part
default_good : {A : Type 0} (P : Option A → Type 0) (read : List ℕ → Option A) (part : List ℕ) (o : Option A)
    → P None → ((a : A) → bytes_eq part default_part ≡ false → read part ≡ Some a → P (Some a)) → default_or read part ≡ Some o → P o
default_good P read part o none some h = elim (taken (bytes_eq part default_part) (Some None) (option_map (λ a. Some a) (read part)) o h) [
  | inl same ↦ subst P (some_same None o same.1) none
  | inr other ↦ let m = mapped (λ a. Some a) (read part) o other.1 in subst P m.2 (some m.0 other.0 m.1)
]

broker_good : (part : List ℕ) (o : Option ℤ) → default_or number_in part ≡ Some o → (is_absent_or is_not_negative o ≡ true) × IfSome o IsSmall
broker_good part o h = default_good (λ b. (is_absent_or is_not_negative b ≡ true) × IfSome b IsSmall) number_in part o (refl, tt) (λ z other is. number_good part z is) h

restored_good : (part name : List ℕ) → IsGoodPart part → name_of_part part ≡ Some name → (is_not_empty name ≡ true) × IsText name
unfolding name_of_part part_for_name
restored_good part name good h = (some name (part_is_written part name h), text)
  where
    text : IsText name
    text = elim (taken (bytes_eq (part_for_name (bytes_of_part part)) part && is_utf8 (bytes_of_part part)) (Some (bytes_of_part part)) None name h) [
      | inl same ↦ subst IsText (some_same (bytes_of_part part) name same.1) (and_parts (bytes_eq (part_for_name (bytes_of_part part)) part) (is_utf8 (bytes_of_part part)) same.0).1
      | inr other ↦ no_some name other.1
    ]

    some : (n : List ℕ) → part_for_name n ≡ part → is_not_empty n ≡ true
    some [] e = absurd (false≢true (ap is_part e ∙ good.0))
    some (b ∷ bs) e = let more : 0 < length (b ∷ bs) = omega arith in lt-ltb 0 (length (b ∷ bs)) more

name_good : (part : List ℕ) (o : Option (List ℕ)) → IsGoodPart part → default_or name_of_part part ≡ Some o → (is_absent_or is_not_empty o ≡ true) × IfSome o IsText
name_good part o good h = default_good (λ n. (is_absent_or is_not_empty n ≡ true) × IfSome n IsText) name_of_part part o (refl, tt) (λ name other is. restored_good part name good is) h

address_good : (part : List ℕ) (o : Option (List ℕ)) → IsGoodPart part → default_or address_of part ≡ Some o → (is_absent_or is_address o ≡ true) × IfSome o IsText
address_good part o good h = default_good (λ a. (is_absent_or is_address a ≡ true) × IfSome a IsText) address_of part o (refl, tt) one h
  where
    one : (address : List ℕ) → bytes_eq part default_part ≡ false → address_of part ≡ Some address → (is_address address ≡ true) × IsText address
    one address other is = elim (taken (is_part part) (Some part) None address is) [
      | inl same ↦ subst (λ a. (is_address a ≡ true) × IsText a) (some_same part address same.1) (and_from (is_part part) (not (bytes_eq part default_part)) good.0 (not_from_false (bytes_eq part default_part) other), good.1)
      | inr none ↦ no_some address none.1
    ]

kind_good : (part : List ℕ) (kind : ℤ) → resource_type_of part ≡ Some kind → is_resource_type kind ≡ true
kind_good part kind h =
    by_test (bytes_eq part (codes "Topic")) (Some (pos 2)) _ kind h (one 2 refl) (λ h.
    by_test (bytes_eq part (codes "Group")) (Some (pos 3)) _ kind h (one 3 refl) (λ h.
    by_test (bytes_eq part (codes "Cluster")) (Some (pos 4)) _ kind h (one 4 refl) (λ h.
    by_test (bytes_eq part (codes "TransactionalId")) (Some (pos 5)) _ kind h (one 5 refl) (λ h.
    by_test (bytes_eq part (codes "DelegationToken")) (Some (pos 6)) None kind h (one 6 refl) (no_some kind)))))
  where
    one : (n : ℕ) → is_resource_type (pos n) ≡ true → Some (pos n) ≡ Some kind → is_resource_type kind ≡ true
    one n legal e = subst (λ k. is_resource_type k ≡ true) (some_same (pos n) kind e) legal

-- ---- the entity of parts

-- a legal key of texts
abbrev pub IsGoodKey : EntityKey → Type 0
IsGoodKey key = (is_legal key ≡ true) × HasTexts key

made : {A : Type 0} (make : A → EntityKey) (o : Option A) (key : EntityKey) → ((a : A) → o ≡ Some a → IsGoodKey (make a)) → option_map make o ≡ Some key → IsGoodKey key
made make o key good h = let m = mapped make o key h in subst IsGoodKey m.2 (good m.0 m.1)

three_good : (a b c : List ℕ) (key : EntityKey) → IsGoodPart c → key_of_three a b c ≡ Some key → IsGoodKey key
unfolding is_legal
three_good a b c key good h =
    by_test (are a b (codes "brokers") (codes "topics")) (option_map (λ name. Topic name) (topic_of c)) _ key h (made (λ name. Topic name) (topic_of c) key (λ name e. topic_good c name good e)) (λ h.
    by_test (are a b (codes "config") (codes "topics")) (option_map (λ name. TopicConfig name) (topic_of c)) _ key h (made (λ name. TopicConfig name) (topic_of c) key (λ name e. topic_good c name good e)) (λ h.
    by_test (are a b (codes "config") (codes "brokers")) (option_map (λ broker. BrokerConfig broker) (default_or number_in c)) _ key h (made (λ broker. BrokerConfig broker) (default_or number_in c) key (λ o e. broker_good c o e)) (λ h.
    by_test (are a b (codes "config") (codes "clients")) (option_map (λ client. Client client) (default_or name_of_part c)) _ key h (made (λ client. Client client) (default_or name_of_part c) key (λ o e. name_good c o good e)) (λ h.
    by_test (are a b (codes "config") (codes "users")) (option_map (λ user. User user) (default_or name_of_part c)) _ key h (made (λ user. User user) (default_or name_of_part c) key (λ o e. name_good c o good e)) (λ h.
    by_test (are a b (codes "config") (codes "ips")) (option_map (λ address. Ip address) (default_or address_of c)) _ key h (made (λ address. Ip address) (default_or address_of c) key (λ o e. address_good c o good e)) (λ h.
    by_test (bytes_eq a (codes "kafka-acl")) (option_map (λ kind. Acl (pos 3) kind c) (resource_type_of b)) None key h
    (made (λ kind. Acl (pos 3) kind c) (resource_type_of b) key (λ kind e. (and_from (is_resource_type kind) (is_part c) (kind_good b kind e) good.0, good.1)))
    (no_some key)))))))

four_good : (a b c d : List ℕ) (key : EntityKey) → IsGoodPart d → key_of_four a b c d ≡ Some key → IsGoodKey key
unfolding is_legal
four_good a b c d key good h = by_test (are a b (codes "kafka-acl-extended") (codes "prefixed")) (option_map (λ kind. Acl (pos 4) kind d) (resource_type_of c)) None key h
    (made (λ kind. Acl (pos 4) kind d) (resource_type_of c) key (λ kind e. (and_from (is_resource_type kind) (is_part d) (kind_good c kind e) good.0, good.1)))
    (no_some key)

five_good : (a b c d e : List ℕ) (key : EntityKey) → IsGoodPart c → IsGoodPart e → key_of_five a b c d e ≡ Some key → IsGoodKey key
unfolding is_legal
five_good a b c d e key one other h = by_test (are a b (codes "config") (codes "users") && bytes_eq d (codes "clients"))
    (option_and_then (λ user. option_map (λ client. UserClient user client) (default_or name_of_part e)) (default_or name_of_part c)) None key h
    (λ h.
    let u = chained (λ user. option_map (λ client. UserClient user client) (default_or name_of_part e)) (default_or name_of_part c) key h in
    let first = name_good c u.0 one u.1 in
    made (λ client. UserClient u.0 client) (default_or name_of_part e) key
    (λ o is. let second = name_good e o other is in (and_from (is_absent_or is_not_empty u.0) (is_absent_or is_not_empty o) first.0 second.0, (first.1, second.1))) u.2)
    (no_some key)

six_good : (a b c d e f : List ℕ) (key : EntityKey) → IsGoodPart c → key_of_six a b c d e f ≡ Some key → IsGoodKey key
unfolding is_legal
six_good a b c d e f key good h = by_test (are a b (codes "brokers") (codes "topics") && are d f (codes "partitions") (codes "state"))
    (option_and_then (λ topic. option_map (λ n. Partition topic n) (number_in e)) (topic_of c)) None key h
    (λ h.
    let u = chained (λ topic. option_map (λ n. Partition topic n) (number_in e)) (topic_of c) key h in
    let first = topic_good c u.0 good u.1 in
    made (λ n. Partition u.0 n) (number_in e) key
    (λ z is. let second = number_good e z is in (and_from (is_topic_name u.0) (is_not_negative z) first.0 second.0, (first.1, second.1))) u.2)
    (no_some key)

-- parts of the rule that are texts
abbrev pub AreGoodParts : List (List ℕ) → Type 0
AreGoodParts [] = ⊤
AreGoodParts (part ∷ more) = IsGoodPart part × AreGoodParts more

pub parts_good : (ps : List (List ℕ)) (key : EntityKey) → AreGoodParts ps → key_of_parts ps ≡ Some key → IsGoodKey key
unfolding is_legal
parts_good [] key good h = no_some key h
parts_good (a ∷ []) key good h = by_test (bytes_eq a (codes "latest_producer_id_block")) (Some Producer) None key h (λ e. subst IsGoodKey (some_same Producer key e) (refl, tt)) (no_some key)
parts_good (a ∷ b ∷ []) key good h = no_some key h
parts_good (a ∷ b ∷ c ∷ []) key good h = three_good a b c key good.1.1.0 h
parts_good (a ∷ b ∷ c ∷ d ∷ []) key good h = four_good a b c d key good.1.1.1.0 h
parts_good (a ∷ b ∷ c ∷ d ∷ e ∷ []) key good h = five_good a b c d e key good.1.1.0 good.1.1.1.1.0 h
parts_good (a ∷ b ∷ c ∷ d ∷ e ∷ f ∷ []) key good h = six_good a b c d e f key good.1.1.0 h
parts_good (a ∷ b ∷ c ∷ d ∷ e ∷ f ∷ g ∷ more) key good h = no_some key h
