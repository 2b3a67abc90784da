-- The compact text of a value is read as that value.
use Rattle.std.proofs.Common.{◌≡◌, ℕ, ◌<◌, ◌≤◌, ◌^◌, ℤ, pos, negsuc, Bool, true, false, cond, List, [], ◌∷◌, ◌++◌, Some, option_and_then, decimal, refl, sym, ap, ◌∙◌, arith, append-nil, lt-ltb}
use Rattle.std.specs.Prelude.{◌≤ℤ◌, IsUtf8, ⊤}
use Rattle.std.specs.Fmt.{signed_decimal}
use Rattle.std.proofs.lemmas.Str.{is_utf8-from_IsUtf8, IsUtf8-append, IsUtf8-from_ascii}
use Rattle.std.proofs.lemmas.Int.{ints}
use Rattle.std.proofs.lemmas.Fmt.{decimal_is_IsNumeral, IsAscii-from_digits}
use Rattle.json.specs.Lex.{tokens}
use Rattle.json.specs.Print.{quoted}
use Rattle.json.specs.Json as json
use Rattle.json.specs.Tree.{json_tokens, depth, HasNumbers}
use Rattle.json.proofs.Printed.Trees.{value-json_tokens, ArePrintable-json_tokens}
use Rattle.json.proofs.Printed.Tokens.{tokens-print}
use Rattle.json.proofs.Printed.Decimals.{IsNumber-decimal, IsNumber-signed_decimal}
use Rattle.json.proofs.Printed.Utf8.{IsUtf8-quoted, IsUtf8-are_ascii, are_ascii}
use Rattle.serde_json.specs.Data.{Data, null, boolean, number, string, array, object, Items, no_items, item, Members, no_members, member}
use Rattle.serde_json.specs.Find.{of_integer, as_i64}
use Rattle.serde_json.specs.Read.{read, of_json, number_of}
use Rattle.serde_json.specs.Written.{compact_text, items_text, members_text, comma_if, number_text, outline}
use Rattle.serde_json.proofs.Texts.{print-outline}
use Rattle.serde_json.proofs.Numbers.{number_of-decimal, number_of-negative}
use Rattle.kz_spec_data.specs.Bodies.{json_of, whole, within, whole_data}
use Rattle.kz_laws_values.specs.Ranges.{IsLong}

pub read_back : (d : Data) → HasNumbers (outline d) → depth (outline d) ≤ 127 → of_json (outline d) ≡ Some d → read (compact_text d) ≡ Some d
read_back d numbers shallow same =
    ap (λ ts. option_and_then of_json (option_and_then (λ p. json.if_last p.0 p.1) (json.value 127 ts)))
    (ap tokens (sym (print-outline d)) ∙ tokens-print (json_tokens (outline d)) (ArePrintable-json_tokens (outline d) numbers) ∙ sym (append-nil (json_tokens (outline d))))
    ∙ ap (λ o. option_and_then of_json (option_and_then (λ p. json.if_last p.0 p.1) o)) (value-json_tokens (outline d) 127 [] shallow)
    ∙ same

-- ---- the text is UTF-8

abbrev mutual
  pub HasUtf8 : Data → Type 0
  HasUtf8 null = ⊤
  HasUtf8 (boolean b) = ⊤
  HasUtf8 (number n) = IsUtf8 (number_text n)
  HasUtf8 (string s) = IsUtf8 s
  HasUtf8 (array ds) = ItemsHaveUtf8 ds
  HasUtf8 (object ms) = MembersHaveUtf8 ms

  pub ItemsHaveUtf8 : Items → Type 0
  ItemsHaveUtf8 no_items = ⊤
  ItemsHaveUtf8 (item d ds) = HasUtf8 d × ItemsHaveUtf8 ds

  pub MembersHaveUtf8 : Members → Type 0
  MembersHaveUtf8 no_members = ⊤
  MembersHaveUtf8 (member k d ms) = IsUtf8 k × HasUtf8 d × MembersHaveUtf8 ms

byte_then : (b : ℕ) (bs : List ℕ) → are_ascii (b ∷ []) ≡ true → IsUtf8 bs → IsUtf8 (b ∷ bs)
byte_then b bs e u = IsUtf8-append (b ∷ []) bs (IsUtf8-are_ascii (b ∷ []) e) u

comma_then : (later : Bool) (bs : List ℕ) → IsUtf8 bs → IsUtf8 (comma_if later ++ bs)
comma_then true bs u = byte_then 44 bs refl u
comma_then false bs u = u

boolean_is_utf8 : (b : Bool) → IsUtf8 (compact_text (boolean b))
boolean_is_utf8 true = IsUtf8-are_ascii (compact_text (boolean true)) refl
boolean_is_utf8 false = IsUtf8-are_ascii (compact_text (boolean false)) refl

mutual
  pub compact_is_utf8 : (d : Data) → HasUtf8 d → IsUtf8 (compact_text d)
  compact_is_utf8 null h = IsUtf8-are_ascii (compact_text null) refl
  compact_is_utf8 (boolean b) h = boolean_is_utf8 b
  compact_is_utf8 (number n) h = h
  compact_is_utf8 (string s) h = IsUtf8-quoted s h
  compact_is_utf8 (array ds) h = byte_then 91 (items_text false ds) refl (items_are_utf8 false ds h)
  compact_is_utf8 (object ms) h = byte_then 123 (members_text false ms) refl (members_are_utf8 false ms h)

  items_are_utf8 : (later : Bool) (ds : Items) → ItemsHaveUtf8 ds → IsUtf8 (items_text later ds)
  items_are_utf8 later no_items h = IsUtf8-are_ascii (93 ∷ []) refl
  items_are_utf8 later (item d ds) h = comma_then later (compact_text d ++ items_text true ds) (IsUtf8-append (compact_text d) (items_text true ds) (compact_is_utf8 d h.0) (items_are_utf8 true ds h.1))

  members_are_utf8 : (later : Bool) (ms : Members) → MembersHaveUtf8 ms → IsUtf8 (members_text later ms)
  members_are_utf8 later no_members h = IsUtf8-are_ascii (125 ∷ []) refl
  members_are_utf8 later (member k d ms) h =
      comma_then later (quoted k ++ 58 ∷ (compact_text d ++ members_text true ms))
      (IsUtf8-append (quoted k) (58 ∷ (compact_text d ++ members_text true ms)) (IsUtf8-quoted k h.0)
      (byte_then 58 (compact_text d ++ members_text true ms) refl
      (IsUtf8-append (compact_text d) (members_text true ms) (compact_is_utf8 d h.1) (members_are_utf8 true ms h.2))))

cond_true : {A : Type 0} (b : Bool) (x y : A) → b ≡ true → cond b x y ≡ x
cond_true true x y e = refl
cond_true false x y e = absurd (cc)

pub json_of_compact : (d : Data) → HasUtf8 d → HasNumbers (outline d) → depth (outline d) ≤ 127 → of_json (outline d) ≡ Some d → json_of (compact_text d) ≡ Some d
json_of_compact d texts numbers shallow same =
    cond_true _ _ _ (is_utf8-from_IsUtf8 (compact_text d) (compact_is_utf8 d texts)) ∙ read_back d numbers shallow same

-- ---- whole numbers

pub decimal_is_utf8 : (n : ℕ) → n < 2 ^ 64 → IsUtf8 (decimal n)
decimal_is_utf8 n h = IsUtf8-from_ascii (decimal n) (IsAscii-from_digits (decimal n) (decimal_is_IsNumeral n h).0.1)

below_long : (n : ℕ) → pos n ≤ℤ pos 9223372036854775807 → n < 2 ^ 63
below_long n h = omega (arith, ints)

above_long : (n : ℕ) → negsuc 9223372036854775807 ≤ℤ negsuc n → n < 2 ^ 63
above_long n h = omega (arith, ints)

pub whole_is_utf8 : (z : ℤ) → IsLong z → IsUtf8 (number_text (of_integer z))
whole_is_utf8 (pos n) h = decimal_is_utf8 n (omega (arith, below_long n h.1))
whole_is_utf8 (negsuc n) h = byte_then 45 _ refl (decimal_is_utf8 _ (omega (arith, above_long n h.0)))

pub signed_is_utf8 : (z : ℤ) → IsLong z → IsUtf8 (signed_decimal z)
signed_is_utf8 (pos n) h = decimal_is_utf8 n (omega (arith, below_long n h.1))
signed_is_utf8 (negsuc n) h = byte_then 45 _ refl (decimal_is_utf8 _ (omega (arith, above_long n h.0)))

pub whole_is_number : (z : ℤ) → IsLong z → HasNumbers (outline (whole_data z))
whole_is_number (pos n) h = IsNumber-decimal n (omega (arith, below_long n h.1))
whole_is_number (negsuc n) h = IsNumber-signed_decimal (negsuc n) (omega (arith, above_long n h.0))

pub whole_reads : (z : ℤ) → IsLong z → number_of (number_text (of_integer z)) ≡ Some (of_integer z)
whole_reads (pos n) h = number_of-decimal n (omega (arith, below_long n h.1))
whole_reads (negsuc n) h = number_of-negative n (above_long n h.0)

whole_is : (z : ℤ) → IsLong z → as_i64 (of_integer z) ≡ Some z
whole_is (pos n) h = rw (lt-ltb n (2 ^ 63) (below_long n h.1)) refl
whole_is (negsuc n) h = refl

within_is : (low high z : ℤ) → low ≤ℤ z → z ≤ℤ high → within low high z ≡ Some z
within_is low high z l h = grind (arith, ints)

pub whole_in_range : (low high z : ℤ) → IsLong z → low ≤ℤ z → z ≤ℤ high → whole low high (whole_data z) ≡ Some z
whole_in_range low high z long l h = ap (option_and_then (within low high)) (whole_is z long) ∙ within_is low high z l h
