-- The paths of a topic keep the rule of paths.
use Rattle.std.proofs.Common.{◌≡◌, ℕ, ◌<◌, ◌≤◌, nat_le, nat_lt, ℤ, pos, negsuc, true, false, not, ◌&&◌, List, [], ◌∷◌, ◌++◌, length, codes, decimal, refl, sym, ap, ◌∙◌, inl, inr, arith, length-append, append_assoc, ◌≤ℤ◌}
use Rattle.std.specs.List.{list_all}
use Rattle.std.specs.Str.{bytes_eq}
use Rattle.std.specs.Fmt.{signed_decimal}
use Rattle.std.proofs.lemmas.Bool.{cases_lt, and_parts, and_from, false≢true, leb-true}
use Rattle.std.proofs.lemmas.Bool.Decides.{nat_tests}
use Rattle.std.proofs.lemmas.Fmt.{length-decimal-le}
use Rattle.std.proofs.lemmas.Int.{ints}
use Rattle.kz_types.specs.PathRule.{is_path, is_part, is_shown}
use Rattle.kz_types.specs.Paths.{path_of, has_path, is_topic_name, is_topic_byte, is_not_negative}
use Rattle.kz_types.specs.declared.key.EntityKey.TheVariants.{Topic, Partition, TopicConfig}
use Rattle.kz_types.proofs.OnLiterals.{values_on_literals}
use Rattle.kz_types.proofs.NumberLemmas.{canonical_complete, canonical_digits}
use Rattle.kz_render.proofs.PathForms.{is_ascii, is_ascii_part, shown_byte, passed, digits_are_part, joined_is_path, front_is_path}
use Rattle.kz_spec_data.specs.Rendering.{partitions_path, number_path}

-- ---- names of topics

byte_is_high : (b : ℕ) → b < 45 → is_topic_byte b ≡ false
byte_is_high b low = grind (arith, nat_tests)

byte_is_low : (b : ℕ) → 122 < b → is_topic_byte b ≡ false
byte_is_low b high = grind (arith, nat_tests)

byte_is_shown : (b : ℕ) → is_topic_byte b ≡ true → is_shown b && is_ascii b ≡ true
byte_is_shown b h = elim (cases_lt b 45) [
  | inl lt ↦ absurd (false≢true (sym (byte_is_high b lt) ∙ h))
  | inr ge ↦ elim (cases_lt 122 b) [
    | inl lt ↦ absurd (false≢true (sym (byte_is_low b lt) ∙ h))
    | inr le ↦ shown_byte b (omega (arith, ge)) (omega (arith, le)) (λ same. false≢true (ap is_topic_byte (sym same) ∙ h))
  ]
]

name_is_part : (name : List ℕ) → is_topic_name name ≡ true → (is_ascii_part name ≡ true) × (length name ≤ 249)
unfolding is_topic_name
name_is_part name h =
    let a = and_parts (nat_lt 0 (length name) && nat_le (length name) 249 && list_all is_topic_byte name && not (bytes_eq name (codes "."))) (not (bytes_eq name (codes ".."))) h in
    let b = and_parts (nat_lt 0 (length name) && nat_le (length name) 249 && list_all is_topic_byte name) (not (bytes_eq name (codes "."))) a.0 in
    let c = and_parts (nat_lt 0 (length name) && nat_le (length name) 249) (list_all is_topic_byte name) b.0 in
    let d = and_parts (nat_lt 0 (length name)) (nat_le (length name) 249) c.0 in
    let k = passed is_topic_byte byte_is_shown name c.1 in
    (and_from (is_part name) (list_all is_ascii name) (and_from _ _ (and_from _ _ (and_from _ _ d.0 b.1) a.1) k.0) k.1, leb-true (length name) 249 d.1)

-- ---- paths

state_path : (name : List ℕ) (n : ℕ) → is_topic_name name ≡ true → n ≤ 2147483647 → is_path (path_of (Partition name (pos n))) ≡ true
unfolding values_on_literals
state_path name n h small =
    let part = name_is_part name h in
    let digits = canonical_digits (decimal n) n (canonical_complete n small) in
    let short : length (decimal n) ≤ 10 = length-decimal-le 10 n (omega arith) (omega arith) (omega (arith, small)) in
    let number : is_ascii_part (decimal n) ≡ true = digits_are_part (decimal n) digits.0 digits.1 in
    let all : list_all is_ascii_part (codes "brokers" ∷ codes "topics" ∷ name ∷ codes "partitions" ∷ decimal n ∷ codes "state" ∷ []) ≡ true = rw (part.0, number) refl in
    joined_is_path (codes "brokers") (codes "topics" ∷ name ∷ codes "partitions" ∷ decimal n ∷ codes "state" ∷ []) all
    (omega (arith, part.1, short, length-append name (47 ∷ (codes "partitions" ++ 47 ∷ (decimal n ++ 47 ∷ codes "state"))), length-append (decimal n) (47 ∷ codes "state")))

pub state_rule : (name : List ℕ) (number : ℤ) → is_topic_name name ≡ true → is_not_negative number ≡ true → number ≤ℤ pos 2147483647 → has_path (Partition name number) ≡ true
unfolding has_path
state_rule name (pos n) h legal small = state_path name n h (omega (arith, ints, small))
state_rule name (negsuc n) h legal small = absurd (false≢true legal)

pub state_of_number : (name : List ℕ) (number : ℤ) → path_of (Partition name number) ≡ number_path name number ++ codes "/state"
unfolding path_of
state_of_number name number = ap (λ t. codes "/brokers/topics/" ++ t)
    (sym (append_assoc (name ++ codes "/partitions") (codes "/" ++ signed_decimal number) (codes "/state") ∙ append_assoc name (codes "/partitions") (codes "/" ++ (signed_decimal number ++ codes "/state"))))

pub state_after : (name : List ℕ) (number : ℤ) → is_topic_name name ≡ true → is_not_negative number ≡ true → number ≤ℤ pos 2147483647 → is_path (number_path name number ++ codes "/state") ≡ true
unfolding has_path
state_after name number h legal small = sym (ap is_path (state_of_number name number)) ∙ state_rule name number h legal small

pub number_rule : (name : List ℕ) (number : ℤ) → has_path (Partition name number) ≡ true → is_path (number_path name number) ≡ true
unfolding has_path path_of
number_rule name number h = front_is_path (number_path name number) (codes "state") (omega arith) (sym (ap is_path (state_of_number name number)) ∙ h)

pub partitions_rule : (name : List ℕ) → is_topic_name name ≡ true → is_path (partitions_path name) ≡ true
unfolding path_of
partitions_rule name h = front_is_path (partitions_path name) (decimal 0) (omega arith) (number_rule name (pos 0) (state_rule name (pos 0) h refl (omega (arith, ints))))

pub topic_rule : (name : List ℕ) → is_topic_name name ≡ true → has_path (Topic name) ≡ true
unfolding has_path path_of
topic_rule name h = front_is_path (path_of (Topic name)) (codes "partitions") (omega arith) (partitions_rule name h)

pub config_rule : (name : List ℕ) → is_topic_name name ≡ true → has_path (TopicConfig name) ≡ true
unfolding has_path values_on_literals
config_rule name h =
    let part = name_is_part name h in
    let all : list_all is_ascii_part (codes "config" ∷ codes "topics" ∷ name ∷ []) ≡ true = rw part.0 refl in
    joined_is_path (codes "config") (codes "topics" ∷ name ∷ []) all (omega (arith, part.1))
