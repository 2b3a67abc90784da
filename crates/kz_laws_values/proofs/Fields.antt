-- What is written for a field's value has at most as many bytes as any spelling of it.
use Rattle.std.proofs.Common.{◌≡◌, ℕ, zero, suc, ◌+◌, ◌/◌, ◌%◌, ◌≤◌, Bool, true, false, cond, nat_lt, List, [], ◌∷◌, ◌++◌, length, Option, Some, None, option_map, refl, sym, ap, ◌∙◌, subst, length-append, arith, ltb-true, ltb-false}
use Rattle.std.proofs.Math.Nat.{div-le_of_le-mul}
use Rattle.std.specs.Int.{Width}
use Rattle.kz_types.specs.declared.record.ByteFault.{ByteFault}
use Rattle.kz_spec_data.specs.Fields.{Format, front, unsigned_number, signed_number, id, uvarint, varint, varlong, zigzag, groups_of, IsGroups, items_with_count, nullable_text, int_bytes}
use Rattle.kz_spec_data.specs.Forms.{field, non_null, flag, nullable_ints}
use Rattle.kz_laws_values.specs.Lengths.{IsShortest}

-- ---- fields of fixed size

same_length : (x y : List ℕ) → y ≡ x → length x ≤ length y
same_length x y e = let h = ap length e in omega (arith, h)

pub front_shortest : (n : ℕ) → IsShortest (front n)
front_shortest n = record { least = λ x bytes s. same_length x bytes s.1 }

pub unsigned_shortest : (w : Width) → IsShortest (unsigned_number w)
unsigned_shortest w = record { least = λ n bytes s. same_length ((unsigned_number w).written n) bytes s.1 }

pub signed_shortest : (w : Width) → IsShortest (signed_number w)
signed_shortest w = record { least = λ z bytes s. same_length ((signed_number w).written z) bytes s.1 }

pub id_shortest : IsShortest id
id_shortest = record { least = λ i bytes s. same_length i.bytes bytes s.1 }

pub flag_shortest : IsShortest flag
flag_shortest = record { least = λ b bytes s. same_length (flag.written b) bytes s }

-- ---- groups

-- one group, or the first group and those of the rest
first_group : (more n : ℕ) (low : Bool) (rest : ℕ) → nat_lt n 128 ≡ low → (128 ≤ n → length (groups_of more (n / 128)) ≤ rest)
    → length (cond low (n ∷ []) ((128 + n % 128) ∷ groups_of more (n / 128))) ≤ suc rest
first_group more n true rest e go = omega arith
first_group more n false rest e go = let h = go (ltb-false n 128 e) in omega (arith, h)

pub fewest_groups : (more n : ℕ) (bytes : List ℕ) → IsGroups n bytes → length (groups_of more n) ≤ length bytes
unfolding groups_of
fewest_groups more n [] g = absurd g
fewest_groups zero n (b ∷ bytes) g = omega arith
fewest_groups (suc more) n (b ∷ []) g =
    let low = g.0 in let is = g.1 in
    first_group more n (nat_lt n 128) 0 refl (λ high. absurd (omega (arith, low, is, high)))
fewest_groups (suc more) n (b ∷ c ∷ rest) g =
    let high = g.2.0 in
    let less = g.1 in let least = g.0 in let is = g.2.1 in
    let same : n / 128 ≡ high = omega (arith, less, least, is) in
    let h : length (groups_of more (n / 128)) ≤ length (c ∷ rest) = subst (λ k. length (groups_of more k) ≤ length (c ∷ rest)) (sym same) (fewest_groups more high (c ∷ rest) g.2.2) in
    first_group more n (nat_lt n 128) (length (c ∷ rest)) refl (λ many. h)

-- the first group of a number, and those of a greater one
groups_after : (more m n : ℕ) (low : Bool) → nat_lt n 128 ≡ low → m ≤ n → (128 ≤ n → length (groups_of more (m / 128)) ≤ length (groups_of more (n / 128)))
    → length (cond (nat_lt m 128) (m ∷ []) ((128 + m % 128) ∷ groups_of more (m / 128))) ≤ length (cond low (n ∷ []) ((128 + n % 128) ∷ groups_of more (n / 128)))
groups_after more m n true e le go =
    let less = ltb-true n 128 e in
    first_group more m (nat_lt m 128) 0 refl (λ high. absurd (omega (arith, less, le, high)))
groups_after more m n false e le go =
    let h = go (ltb-false n 128 e) in
    first_group more m (nat_lt m 128) (length (groups_of more (n / 128))) refl (λ high. h)

-- a greater number has no fewer groups
pub more_groups : (more m n : ℕ) → m ≤ n → length (groups_of more m) ≤ length (groups_of more n)
unfolding groups_of
more_groups zero m n le = omega arith
more_groups (suc more) m n le = groups_after more m n (nat_lt n 128) refl le (λ high. more_groups more (m / 128) (n / 128) (omega (arith, le)))

pub uvarint_shortest : IsShortest uvarint
uvarint_shortest = record { least = λ n bytes s. fewest_groups 9 n bytes s.0 }

pub varint_shortest : IsShortest varint
varint_shortest = record { least = λ z bytes s. fewest_groups 9 (zigzag z) bytes s.0 }

pub varlong_shortest : IsShortest varlong
varlong_shortest = record { least = λ z bytes s. fewest_groups 9 (zigzag z) bytes s.0 }

-- what is written for a number at most as great as one that is spelled
pub uvarint_below : (m n : ℕ) (bytes : List ℕ) → m ≤ n → uvarint.spells n bytes → length (uvarint.written m) ≤ length bytes
uvarint_below m n bytes le s =
    let more = more_groups 9 m n le in
    let few = fewest_groups 9 n bytes s.0 in
    omega (arith, more, few)

-- ---- items after their count

pub joined : (a b c d bytes : List ℕ) → length a ≤ length c → length b ≤ length d → bytes ≡ c ++ d → length (a ++ b) ≤ length bytes
joined a b c d bytes one two whole =
    let all = ap length whole ∙ length-append c d in
    let sum = length-append a b in
    omega (arith, one, two, all, sum)

counted_least : (size : ℕ) (value : Option (List ℕ)) (bytes : List ℕ) → (items_with_count size).spells value bytes → length ((items_with_count size).written value) ≤ length bytes
unfolding groups_of
counted_least size None bytes s = fewest_groups 9 0 bytes s.0
counted_least size (Some items) bytes s =
    let many = s.2 in
    let le : length items / size ≤ s.0 = div-le_of_le-mul size (omega (arith, many)) in
    let below : length items / size + 1 ≤ s.0 + 1 = omega (arith, le) in
    joined (uvarint.written (length items / size + 1)) items s.1 items bytes (uvarint_below (length items / size + 1) (s.0 + 1) s.1 below s.3) (omega arith) s.4

pub counted_shortest : (size : ℕ) → IsShortest (items_with_count size)
counted_shortest size = record { least = counted_least size }

pub text_shortest : IsShortest nullable_text
text_shortest = record { least = λ value bytes s. counted_least 1 value bytes s.1 }

pub ints_shortest : IsShortest nullable_ints
ints_shortest = record { least = λ value bytes s. counted_least 4 (option_map int_bytes value) bytes s.1 }

-- ---- fields of records

pub field_shortest : {X : Type 0} (f : Format ByteFault X) → IsShortest f → IsShortest (field f)
field_shortest f sf = record { least = λ x bytes s. sf.least x bytes s }

pub present_shortest : {X : Type 0} (f : Format ByteFault (Option X)) → IsShortest f → IsShortest (non_null f)
present_shortest f sf = record { least = λ x bytes s. sf.least (Some x) bytes s }
