-- Names that are gathered in a buffer of a path's size.
use Rattle.std.proofs.Common.{◌≡◌, ◌∙◌, ◌≤◌, ◌<◌, ◌+◌, ℕ, Bool, true, false, List, [], ◌∷◌, ◌++◌, length, drop, Some, None, is_some, refl, sym, ap, arith, length-append}
use Rattle.std.specs.Prelude.{bytes_eq, if◌then◌else◌, ◌&&◌, ◌/◌, ◌%◌}
use Rattle.std.specs.List.{flat_map}
use Rattle.std.specs.Str.{is_utf8}
use Rattle.kz_types.specs.Paths.{part_for_name, sanitised_byte, is_plain, hex_digit, bytes_of_part, name_of_part}
use Rattle.kz_types.proofs.NumberLemmas.{bytes_eq-true}

one_more : (b : ℕ) (bs : List ℕ) → length (b ∷ bs) ≡ length bs + 1
one_more b bs = omega arith

-- one byte more than there is room for
pub past_end : (part bytes : List ℕ) (b at next : ℕ) → bytes_of_part (drop at part) ≡ b ∷ bytes_of_part (drop next part) → bytes ++ bytes_of_part (drop at part) ≡ bytes_of_part part → 1024 < length bytes + 1 → 1024 < length (bytes_of_part part)
past_end part bytes b at next step left more =
    let sum : length (bytes_of_part part) ≡ length bytes + length (bytes_of_part (drop at part)) = ap length (sym left) ∙ length-append bytes (bytes_of_part (drop at part)) in
    let one : length (bytes_of_part (drop at part)) ≡ length (bytes_of_part (drop next part)) + 1 = ap length step ∙ one_more b (bytes_of_part (drop next part)) in
    omega (arith, sum, one, more)

byte_is_some : (b : ℕ) (plain : Bool) → 1 ≤ length (if plain then b ∷ [] else 37 ∷ hex_digit (b / 16) ∷ hex_digit (b % 16) ∷ [])
byte_is_some b true = omega arith
byte_is_some b false = omega arith

sanitised_longer : (name : List ℕ) → length name ≤ length (flat_map sanitised_byte name)
sanitised_longer [] = omega arith
sanitised_longer (b ∷ bs) =
    let sum = length-append (sanitised_byte b) (flat_map sanitised_byte bs) in
    let first = byte_is_some b (is_plain b) in
    let rest = sanitised_longer bs in
    omega (arith, sum, first, rest)

differ : (a b : List ℕ) → 1024 < length a → length b ≤ 1024 → bytes_eq a b ≡ false
differ a b more few = by_test (bytes_eq a b) refl
  where
    by_test : (t : Bool) → bytes_eq a b ≡ t → t ≡ false
    by_test false e = refl
    by_test true e = let same = ap length (bytes_eq-true a b e) in absurd (omega (arith, same, more, few))

-- bytes that are written longer than a path are no name of this part
pub written_longer : (bytes part : List ℕ) → 1024 < length (part_for_name bytes) → length part ≤ 1024 → bytes_eq (part_for_name bytes) part ≡ false
written_longer bytes part more few = differ (part_for_name bytes) part more few

longer_than : (name : List ℕ) → length name ≤ length (part_for_name name)
unfolding part_for_name
longer_than name = sanitised_longer name

-- a part that stands for more bytes than a path has is no name's
pub none_restored : (part : List ℕ) → 1024 < length (bytes_of_part part) → length part ≤ 1024 → is_some (name_of_part part) ≡ false
unfolding name_of_part
none_restored part more few =
    let longer = longer_than (bytes_of_part part) in
    let other : bytes_eq (part_for_name (bytes_of_part part)) part ≡ false = differ (part_for_name (bytes_of_part part)) part (omega (arith, more, longer)) few in
    λ i. is_some (if other i && is_utf8 (bytes_of_part part) then Some (bytes_of_part part) else None)
