-- A block of producer ids is read as it was written.
use Rattle.std.proofs.Common.{◌≡◌, ℕ, ◌<◌, ◌≤◌, ◌^◌, ℤ, pos, negsuc, nat_le, true, ◌&&◌, List, length, Some, None, Ok, decimal, refl, ◌∙◌, arith, codes, le-leb}
use Rattle.std.specs.Prelude.{option_map, if◌then◌else◌}
use Rattle.std.specs.List.{list_all}
use Rattle.std.specs.Fmt.{signed_decimal}
use Rattle.std.proofs.lemmas.Bool.{ne_eqb}
use Rattle.std.proofs.lemmas.Int.{ints}
use Rattle.std.proofs.lemmas.Fmt.{decimal_is_IsNumeral, digits_decimal}
use Rattle.std.proofs.lemmas.Str.{is_utf8-from_IsUtf8}
use Rattle.std.proofs.lemmas.Str.Parse.{numerals_by_value}
use Rattle.kz_types.specs.Numbers.{is_digit, number_of, digits_up_to}
use Rattle.kz_types.proofs.NumberLemmas.{tells}
use Rattle.kz_types.specs.declared.bodies.Body.TheVariants as body
use Rattle.kz_types.specs.declared.key.EntityKey.TheVariants.{Producer}
use Rattle.kz_spec_data.specs.Bodies.{greatest, digits_number, producer_data, producer_of_data, body_of, empty_body, read_body, text_of_body}
use Rattle.kz_laws_values.specs.Ranges.{IsBetween, IsLong}
use Rattle.kz_laws_values.proofs.ReadsBack.{whole_in_range, signed_is_utf8}
use Rattle.kz_laws_values.specs.Readable.{IsText, IsOffset, IsBlock}
use Rattle.kz_laws_values.proofs.Plain.{IsPlain, object_says, whole_is_plain, word}

digits_are : (bytes : List ℕ) (n most : ℕ) → list_all is_digit bytes ≡ true → number_of bytes ≡ n → n ≤ most → digits_up_to most bytes ≡ Some n
digits_are bytes n most digits value le =
    (λ i. if digits i && nat_le (value i) most then Some (value i) else None) ∙ (λ i. if le-leb n most le i then Some n else None)

some_digits : (bytes : List ℕ) (n : ℕ) → 0 < length bytes → digits_up_to 9223372036854775807 bytes ≡ Some n → digits_number bytes ≡ Some (pos n)
some_digits bytes n some is =
    (λ i. if ne_eqb (length bytes) 0 (λ same. omega (arith, some, same)) i then None else option_map (λ m. pos m) (is i))

offset_below : (n : ℕ) → IsOffset (pos n) → n ≤ 9223372036854775807
offset_below n h = omega (arith, ints, h.1)

digits_read : (z : ℤ) → IsOffset z → digits_number (signed_decimal z) ≡ Some z
digits_read (pos n) h =
    let most : n ≤ 9223372036854775807 = offset_below n h in
    let small : n < 2 ^ 64 = omega (arith, most) in
    let numeral = decimal_is_IsNumeral n small in
    some_digits (decimal n) n numeral.0.0 (digits_are (decimal n) n 9223372036854775807 (digits_decimal (numerals_by_value _ tells) n small) numeral.1 most)
digits_read (negsuc n) h = absurd (omega (arith, ints, h.0))

offset_long : (z : ℤ) → IsOffset z → IsLong z
offset_long z b = (omega (arith, ints, b.0), omega (arith, ints, b.1))

broker_long : (z : ℤ) → IsBetween (negsuc 0) (pos 2147483647) z → IsLong z
broker_long z b = (omega (arith, ints, b.0), omega (arith, ints, b.1))

offset_text : (z : ℤ) → IsOffset z → IsText (signed_decimal z)
offset_text z h = is_utf8-from_IsUtf8 (signed_decimal z) (signed_is_utf8 z (offset_long z h))

producer_plain : (broker start end : ℤ) → IsBlock broker start end → IsPlain 3 (producer_data broker start end)
producer_plain broker start end h = (
  (
    word (codes "block_end") refl,
    offset_text end h.end_is,
    (
      word (codes "block_start") refl,
      offset_text start h.start_is,
      (
        word (codes "broker") refl,
        whole_is_plain 2 broker (broker_long broker h.broker_is),
        (word (codes "version") refl, whole_is_plain 2 (pos 1) (omega (arith, ints), omega (arith, ints)), tt),
      ),
    ),
  ),
  refl,
)

producer_says : (broker start end : ℤ) → IsBlock broker start end → producer_of_data (producer_data broker start end) ≡ Ok (body.Producer broker start end)
producer_says broker start end h =
    rw (
      whole_in_range (negsuc 0) greatest broker (broker_long broker h.broker_is) h.broker_is.0 h.broker_is.1,
      digits_read start h.start_is,
      digits_read end h.end_is,
    ) refl

pub producer_is_read : (broker start end : ℤ) → IsBlock broker start end → read_body Producer (text_of_body (body.Producer broker start end)) ≡ Ok (body.Producer broker start end)
unfolding text_of_body body_of
producer_is_read broker start end h = object_says Producer _ (producer_plain broker start end h) ∙ producer_says broker start end h

pub blank_is_read : read_body Producer (text_of_body body.Blank) ≡ Ok body.Blank
unfolding text_of_body read_body empty_body
blank_is_read = refl
