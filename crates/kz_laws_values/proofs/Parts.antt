-- Parts without a slash, and what is read from them.
use Rattle.std.proofs.Common.{◌≡◌, ℕ, ◌+◌, ◌/◌, ◌%◌, ◌≤◌, nat_lt, nat_le, ◌==◌, not, Bool, true, false, ◌&&◌, List, [], ◌∷◌, ◌++◌, Option, Some, None, refl, sym, ap, subst, ◌∙◌, arith, inl, inr, decimal, ℤ, pos, negsuc}
use Rattle.std.specs.Prelude.{◌⊎◌, option_map, if◌then◌else◌, bytes_eq, IfSome}
use Rattle.std.specs.List.{All, list_all, slice_split}
use Rattle.std.specs.Fmt.{signed_decimal}
use Rattle.std.proofs.lemmas.Bool.{cases_lt, and_parts, and_from, false≢true, ne_eqb, false_from_ne_true, leb-true, ltb-true, ltb-false}
use Rattle.std.proofs.lemmas.Int.{ints}
use Rattle.std.proofs.lemmas.Fmt.{digits_decimal}
use Rattle.std.proofs.lemmas.Str.Parse.{numerals_by_value}
use Rattle.std.proofs.lemmas.List.Folds.{list_all-append}
use Rattle.std.proofs.lemmas.List.Sums.{AllPass-from_list_all}
use Rattle.std.proofs.lemmas.List.Splits.{slice_split_none, slice_split_at}
use Rattle.kz_types.specs.Numbers.{number_in, is_digit}
use Rattle.kz_types.specs.PathRule.{is_part, is_shown}
use Rattle.kz_types.specs.Paths.{is_topic_name, is_topic_byte, is_plain, hex_digit, part_for_name, sanitised_byte, default_part, default_or, part_or_default, name_of_part, topic_of, address_of, resource_type_of, resource_type_name, is_absent_or, is_not_negative, is_address, is_pattern, is_resource_type}
use Rattle.kz_types.proofs.NumberLemmas.{bytes_eq-true, tells, canonical_complete}
use Rattle.kz_laws_values.specs.TextKeys.{IsText, IsSmall}
use Rattle.kz_laws_values.proofs.Names.{name_is_read}

-- ---- parts without a slash

-- no byte is a slash
abbrev pub HasNoSlash : List ℕ → Type 0
HasNoSlash bs = All (λ b. (b == 47) ≡ false) bs

-- a test that no slash passes
abbrev pub RefusesSlash : (ℕ → Bool) → Type 0
RefusesSlash test = test 47 ≡ false

pub passed_has_none : (test : ℕ → Bool) → RefusesSlash test → (bs : List ℕ) → list_all test bs ≡ true → HasNoSlash bs
passed_has_none test refuses bs h k d lt = ne_eqb _ 47 (λ same. false≢true (sym refuses ∙ ap test (sym same) ∙ AllPass-from_list_all test bs h k d lt))

-- the parts of what stands before the first slash and of what stands after it
pub split_part : (part rest : List ℕ) → HasNoSlash part → slice_split (λ b. b == 47) (part ++ 47 ∷ rest) ≡ part ∷ slice_split (λ b. b == 47) rest
split_part part rest none = slice_split_at (λ b. b == 47) part 47 rest none refl

pub split_last : (part : List ℕ) → HasNoSlash part → slice_split (λ b. b == 47) part ≡ part ∷ []
split_last part none = slice_split_none (λ b. b == 47) part none

-- ---- the names of topics

topic_bytes : (name : List ℕ) → is_topic_name name ≡ true → list_all is_topic_byte name ≡ true
unfolding is_topic_name
topic_bytes name h = (and_parts _ _ (and_parts _ _ (and_parts _ _ h).0).0).1

pub topic_has_none : (name : List ℕ) → is_topic_name name ≡ true → HasNoSlash name
topic_has_none name h = passed_has_none is_topic_byte refl name (topic_bytes name h)

pub topic_is_read : (name : List ℕ) → is_topic_name name ≡ true → topic_of name ≡ Some name
topic_is_read name h i = if h i then Some name else None

-- ---- parts of the rule, and addresses

pub part_has_none : (part : List ℕ) → is_part part ≡ true → HasNoSlash part
part_has_none part h = passed_has_none is_shown refl part (and_parts _ _ h).1

-- ---- the default

-- a byte of a written name: neither a slash nor the first byte of the default
abbrev is_written_byte : ℕ → Bool
is_written_byte b = not (b == 47) && not (b == 60)

written_byte : (b : ℕ) → (b ≡ 47 → ⊥) → (b ≡ 60 → ⊥) → is_written_byte b ≡ true
written_byte b slash angle i = not (ne_eqb b 47 slash i) && not (ne_eqb b 60 angle i)

not_default : (part : List ℕ) → list_all is_written_byte part ≡ true → bytes_eq part default_part ≡ false
not_default part h = false_from_ne_true (bytes_eq part default_part) (λ same. false≢true (ap (list_all is_written_byte) (sym (bytes_eq-true part default_part same)) ∙ h))

-- what is read from a part that isn't the default's
named : {A : Type 0} (read : List ℕ → Option A) (part : List ℕ) (a : A) → bytes_eq part default_part ≡ false → read part ≡ Some a → default_or read part ≡ Some (Some a)
named read part a other is i = if other i then Some None else option_map (λ x. Some x) (is i)

-- ---- sanitised names

digit_is_written : (n : ℕ) → is_written_byte (hex_digit n) ≡ true
digit_is_written n = by (nat_lt n 10) refl
  where
    by : (small : Bool) → nat_lt n 10 ≡ small → is_written_byte (if small then 48 + n else 55 + n) ≡ true
    by true e = let l = ltb-true n 10 e in written_byte (48 + n) (λ same. omega (arith, same)) (λ same. omega (arith, same, l))
    by false e = let l = ltb-false n 10 e in written_byte (55 + n) (λ same. omega (arith, same)) (λ same. omega (arith, same, l))

plain_is_written : (b : ℕ) → is_plain b ≡ true → is_written_byte b ≡ true
plain_is_written b plain = written_byte b (λ same. false≢true (ap is_plain (sym same) ∙ plain)) (λ same. false≢true (ap is_plain (sym same) ∙ plain))

byte_is_written : (b : ℕ) → list_all is_written_byte (sanitised_byte b) ≡ true
byte_is_written b = by (is_plain b) refl
  where
    by : (plain : Bool) → is_plain b ≡ plain → list_all is_written_byte (if plain then b ∷ [] else 37 ∷ hex_digit (b / 16) ∷ hex_digit (b % 16) ∷ []) ≡ true
    by true e = and_from _ true (plain_is_written b e) refl
    by false e = and_from _ _ (digit_is_written (b / 16)) (and_from _ true (digit_is_written (b % 16)) refl)

name_is_written : (name : List ℕ) → list_all is_written_byte (part_for_name name) ≡ true
unfolding part_for_name
name_is_written [] = refl
name_is_written (b ∷ bs) = list_all-append is_written_byte (sanitised_byte b) (part_for_name bs) ∙ and_from _ _ (byte_is_written b) (name_is_written bs)

pub sanitised_has_none : (name : Option (List ℕ)) → HasNoSlash (part_or_default part_for_name name)
sanitised_has_none None = passed_has_none is_shown refl default_part refl
sanitised_has_none (Some name) = passed_has_none is_written_byte refl (part_for_name name) (name_is_written name)

pub named_is_read : (name : Option (List ℕ)) → IfSome name IsText → default_or name_of_part (part_or_default part_for_name name) ≡ Some name
named_is_read None text = refl
named_is_read (Some name) text = named name_of_part (part_for_name name) name (not_default (part_for_name name) (name_is_written name)) (name_is_read name text)

-- ---- addresses

pub address_has_none : (address : Option (List ℕ)) → is_absent_or is_address address ≡ true → HasNoSlash (part_or_default (λ a. a) address)
address_has_none None legal = passed_has_none is_shown refl default_part refl
address_has_none (Some address) legal = part_has_none address (and_parts (is_part address) _ legal).0

pub address_is_read : (address : Option (List ℕ)) → is_absent_or is_address address ≡ true → default_or address_of (part_or_default (λ a. a) address) ≡ Some address
address_is_read None legal = refl
address_is_read (Some address) legal =
    let k = and_parts (is_part address) (not (bytes_eq address default_part)) legal in
    named address_of address address (from_not (bytes_eq address default_part) k.1) (λ i. if k.0 i then Some address else None)
  where
    from_not : (b : Bool) → not b ≡ true → b ≡ false
    from_not true h = absurd (false≢true h)
    from_not false h = refl

-- ---- numbers

digits_written : (n : ℕ) → n ≤ 2147483647 → list_all is_digit (decimal n) ≡ true
digits_written n le = digits_decimal (numerals_by_value _ tells) n (omega (arith, le))

number_below : (n : ℕ) → IsSmall (pos n) → n ≤ 2147483647
number_below n small = omega (arith, ints, small)

-- a number that is legal and small
pub number_has_none : (z : ℤ) → is_not_negative z ≡ true → IsSmall z → HasNoSlash (signed_decimal z)
number_has_none (pos n) legal small = passed_has_none is_digit refl (decimal n) (digits_written n (number_below n small))
number_has_none (negsuc n) legal small = absurd (false≢true legal)

pub number_is_read : (z : ℤ) → is_not_negative z ≡ true → IsSmall z → number_in (signed_decimal z) ≡ Some z
number_is_read (pos n) legal small = ap (option_map (λ m. pos m)) (canonical_complete n (number_below n small))
number_is_read (negsuc n) legal small = absurd (false≢true legal)

number_not_default : (z : ℤ) → is_not_negative z ≡ true → IsSmall z → bytes_eq (signed_decimal z) default_part ≡ false
number_not_default (pos n) legal small =
    false_from_ne_true (bytes_eq (decimal n) default_part) (λ same. false≢true (ap (list_all is_digit) (sym (bytes_eq-true (decimal n) default_part same)) ∙ digits_written n (number_below n small)))
number_not_default (negsuc n) legal small = absurd (false≢true legal)

pub broker_has_none : (broker : Option ℤ) → is_absent_or is_not_negative broker ≡ true → IfSome broker IsSmall → HasNoSlash (part_or_default signed_decimal broker)
broker_has_none None legal small = passed_has_none is_shown refl default_part refl
broker_has_none (Some z) legal small = number_has_none z legal small

pub broker_is_read : (broker : Option ℤ) → is_absent_or is_not_negative broker ≡ true → IfSome broker IsSmall → default_or number_in (part_or_default signed_decimal broker) ≡ Some broker
broker_is_read None legal small = refl
broker_is_read (Some z) legal small = named number_in (signed_decimal z) z (number_not_default z legal small) (number_is_read z legal small)

-- ---- codes of resources

-- one of these numbers
abbrev pub IsOneOf : List ℕ → ℤ → Type 0
IsOneOf [] z = ⊥
IsOneOf (n ∷ ns) z = (z ≡ pos n) ⊎ IsOneOf ns z

pub pattern_is : (z : ℤ) → is_pattern z ≡ true → IsOneOf (3 ∷ 4 ∷ []) z
pattern_is (negsuc n) h = absurd (false≢true h)
pattern_is (pos n) h =
    let k = and_parts (nat_le 3 n) (nat_le n 4) h in
    let low : 3 ≤ n = leb-true 3 n k.0 in
    let high : n ≤ 4 = leb-true n 4 k.1 in
    elim (cases_lt n 4) [ inl lt ↦ inl (ap (λ m. pos m) {x = n} {y = 3} (omega (arith, low, lt))) | inr ge ↦ inr (inl (ap (λ m. pos m) {x = n} {y = 4} (omega (arith, high, ge)))) ]

pub type_is : (z : ℤ) → is_resource_type z ≡ true → IsOneOf (2 ∷ 3 ∷ 4 ∷ 5 ∷ 6 ∷ []) z
type_is (negsuc n) h = absurd (false≢true h)
type_is (pos n) h =
    let k = and_parts (nat_le 2 n) (nat_le n 6) h in
    let low : 2 ≤ n = leb-true 2 n k.0 in
    let high : n ≤ 6 = leb-true n 6 k.1 in
    elim (cases_lt n 3) [
      | inl lt ↦ inl (ap (λ m. pos m) {x = n} {y = 2} (omega (arith, low, lt)))
      | inr ge ↦ elim (cases_lt n 4) [
        | inl lt ↦ inr (inl (ap (λ m. pos m) {x = n} {y = 3} (omega (arith, ge, lt))))
        | inr ge ↦ elim (cases_lt n 5) [
          | inl lt ↦ inr (inr (inl (ap (λ m. pos m) {x = n} {y = 4} (omega (arith, ge, lt)))))
          | inr ge ↦ elim (cases_lt n 6) [
            | inl lt ↦ inr (inr (inr (inl (ap (λ m. pos m) {x = n} {y = 5} (omega (arith, ge, lt))))))
            | inr ge ↦ inr (inr (inr (inr (inl (ap (λ m. pos m) {x = n} {y = 6} (omega (arith, ge, high)))))))
          ]
        ]
      ]
    ]

-- what the name of a type of resource is
abbrev pub IsTypeName : ℤ → Type 0
IsTypeName z = (list_all is_shown (resource_type_name z) ≡ true) × (resource_type_of (resource_type_name z) ≡ Some z)

type_name : (z : ℤ) → IsOneOf (2 ∷ 3 ∷ 4 ∷ 5 ∷ 6 ∷ []) z → IsTypeName z
type_name z (inl e) = subst IsTypeName (sym e) (refl, refl)
type_name z (inr (inl e)) = subst IsTypeName (sym e) (refl, refl)
type_name z (inr (inr (inl e))) = subst IsTypeName (sym e) (refl, refl)
type_name z (inr (inr (inr (inl e)))) = subst IsTypeName (sym e) (refl, refl)
type_name z (inr (inr (inr (inr (inl e))))) = subst IsTypeName (sym e) (refl, refl)
type_name z (inr (inr (inr (inr (inr e))))) = absurd e

pub type_has_none : (kind : ℤ) → is_resource_type kind ≡ true → HasNoSlash (resource_type_name kind)
type_has_none kind h = passed_has_none is_shown refl (resource_type_name kind) (type_name kind (type_is kind h)).0

pub type_is_read : (kind : ℤ) → is_resource_type kind ≡ true → resource_type_of (resource_type_name kind) ≡ Some kind
type_is_read kind h = (type_name kind (type_is kind h)).1
