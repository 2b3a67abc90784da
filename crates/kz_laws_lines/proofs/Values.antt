-- Numbers, texts and bytes are read as they were written.
use Rattle.std.proofs.Common.{◌≡◌, ℕ, suc, ◌≤◌, ◌==◌, ◌^◌, ◌<◌, ℤ, pos, negsuc, Bool, true, false, cond, ◌&&◌, List, [], ◌∷◌, length, Option, Some, None, refl, sym, ap, ◌∙◌, arith, lt-ltb, le-leb}
use Rattle.std.specs.Prelude.{◌≤ℤ◌, map, option_map, option_and_then, int_le, nat_le}
use Rattle.std.specs.Result.{result_ok}
use Rattle.std.proofs.lemmas.Bool.{false≢true, ne_eqb}
use Rattle.std.proofs.lemmas.Int.{ints}
use Rattle.std.proofs.lemmas.Str.{is_utf8-from_IsUtf8, IsUtf8-from_ascii}
use Rattle.base64.specs.Engines.{standard, url_safe_no_pad}
use Rattle.base64.specs.GeneralPurpose.{IsBytes, encode_of, decoded_of}
use Rattle.base64.proofs.EngineFacts.{decode_of-encode_of, IsAscii-encode_of}
use Rattle.serde_json.specs.Data.{Data, string}
use Rattle.serde_json.specs.Find.{as_i64, of_integer}
use Rattle.serde_json.specs.View.{items_of}
use Rattle.kz_types.specs.Ids.{id_text}
use Rattle.kz_types.specs.declared.id.Id.{Id}
use Rattle.kz_types.proofs.IdLemmas.{id_of_text}
use Rattle.kz_types.specs.PathRule.{has_path_form, is_path}
use Rattle.kz_types.proofs.PathRules.{both_hold}
use Rattle.kz_spec_data.specs.Json.{whole_up_to, whole_within}
use Rattle.kz_spec_data.specs.Ops.{session_in}
use Rattle.kz_spec_data.specs.LineFields.{int8, int16, uint16, int32, int64, uuid, bytes, all_of}
use Rattle.kz_spec_data.specs.Members.{whole_data}
use Rattle.kz_laws_values.specs.Ranges.{IsBetween, IsLong}
use Rattle.kz_laws_values.specs.Readable.{IsText}
use Rattle.kz_laws_lines.specs.Writable.{IsId, IsTime, IsSession, IsVersion, IsPath, Each, IsInt8, IsInt16, IsInt32, IsUuid}

cond_true : {A : Type 0} (b : Bool) (x y : A) → b ≡ true → cond b x y ≡ x
cond_true true x y e = refl
cond_true false x y e = absurd (cc)

-- ---- numbers

pub long_id : (n : ℤ) → IsId n → IsLong n
long_id n h = (omega (arith, ints, h.0), omega (arith, ints, h.1))

pub long_time : (n : ℤ) → IsTime n → IsLong n
long_time n h = (omega (arith, ints, h.0), omega (arith, ints, h.1))

pub long_session : (n : ℤ) → IsSession n → IsLong n
long_session n h = (omega (arith, ints, h.0), omega (arith, ints, h.1))

pub long_version : (n : ℤ) → IsVersion n → IsLong n
long_version n h = (omega (arith, ints, h.0), omega (arith, ints, h.1))

pub long_8 : (n : ℤ) → IsInt8 n → IsLong n
long_8 n h = (omega (arith, ints, h.0), omega (arith, ints, h.1))

pub long_16 : (n : ℤ) → IsInt16 n → IsLong n
long_16 n h = (omega (arith, ints, h.0), omega (arith, ints, h.1))

pub long_32 : (n : ℤ) → IsInt32 n → IsLong n
long_32 n h = (omega (arith, ints, h.0), omega (arith, ints, h.1))

pub long_port : (n : ℕ) → n ≤ 65535 → IsLong (pos n)
long_port n h = (omega (arith, ints), omega (arith, ints))

at_most : (n most : ℕ) → pos n ≤ℤ pos most → n ≤ most
at_most n most h = omega (arith, ints)

pub up_to_is : (most : ℕ) (n : ℤ) → IsBetween (pos 0) (pos most) n → whole_up_to most (whole_data n) ≡ Some n
up_to_is most (pos n) h = cond_true (nat_le n most) (Some (pos n)) None (le-leb n most (at_most n most h.1))
up_to_is most (negsuc n) h = absurd (omega (arith, ints, h.0))

pub session_is : (n : ℤ) → IsSession n → session_in (whole_data n) ≡ Some n
session_is (pos n) h =
    cond_true (nat_le 1 n && nat_le n 9223372036854775807) (Some (pos n)) None
    (rw (le-leb 1 n (omega (arith, ints, h.0)), le-leb n 9223372036854775807 (at_most n 9223372036854775807 h.1)) refl)
session_is (negsuc n) h = absurd (omega (arith, ints, h.0))

below_long : (n : ℕ) → pos n ≤ℤ pos 9223372036854775807 → n < 2 ^ 63
below_long n h = omega (arith, ints)

whole_is : (z : ℤ) → IsLong z → as_i64 (of_integer z) ≡ Some z
whole_is (pos n) h = rw (lt-ltb n (2 ^ 63) (below_long n h.1)) refl
whole_is (negsuc n) h = refl

between : (low high z : ℤ) → low ≤ℤ z → z ≤ℤ high → cond (int_le low z && int_le z high) (Some z) None ≡ Some z
between low high z l h = grind (arith, ints)

pub within_is : (low high z : ℤ) → IsLong z → IsBetween low high z → whole_within low high (whole_data z) ≡ Some z
within_is low high z long h =
    ap (option_and_then (λ n. cond (int_le low n && int_le n high) (Some n) None)) (whole_is z long) ∙ between low high z h.0 h.1

pub int8_is : (n : ℤ) → IsInt8 n → int8 (whole_data n) ≡ Some n
int8_is n h = within_is (negsuc 127) (pos 127) n (long_8 n h) h

pub int16_is : (n : ℤ) → IsInt16 n → int16 (whole_data n) ≡ Some n
int16_is n h = within_is (negsuc 32767) (pos 32767) n (long_16 n h) h

pub int32_is : (n : ℤ) → IsInt32 n → int32 (whole_data n) ≡ Some n
int32_is n h = within_is (negsuc 2147483647) (pos 2147483647) n (long_32 n h) h

pub int64_is : (n : ℤ) → IsLong n → int64 (whole_data n) ≡ Some n
int64_is n h = whole_is n h

pub uint16_is : (n : ℕ) → n ≤ 65535 → uint16 (whole_data (pos n)) ≡ Some n
uint16_is n h = cond_true (nat_le n 65535) (Some n) None (le-leb n 65535 h)

-- ---- lists

-- a list is read as it was written, where each item is
pub each_is : {A : Type 0} (P : A → Type 0) (to : A → Data) (read : Data → Option A) → ((x : A) → P x → read (to x) ≡ Some x)
    → (xs : List A) → Each P xs → all_of read (items_of (map to xs)) ≡ Some xs
each_is P to read is [] h = refl
each_is P to read is (x ∷ xs) h =
    ap (option_and_then (λ y. option_map (λ ys. y ∷ ys) (all_of read (items_of (map to xs))))) (is x h.0)
    ∙ ap (option_map (λ ys. x ∷ ys)) (each_is P to read is xs h.1)

pub ints_is : (ns : List ℤ) → Each IsInt32 ns → all_of int32 (items_of (map whole_data ns)) ≡ Some ns
ints_is ns h = each_is IsInt32 whole_data int32 int32_is ns h

-- ---- texts

pub path_is_text : (path : List ℕ) → IsPath path → IsText path
unfolding is_path has_path_form
path_is_text path h = (both_hold _ _ (both_hold _ _ (both_hold _ _ h).0).0).0

pub encoded_is_text : (bytes : List ℕ) → IsText (encode_of standard bytes)
encoded_is_text bytes = is_utf8-from_IsUtf8 (encode_of standard bytes) (IsUtf8-from_ascii (encode_of standard bytes) (IsAscii-encode_of standard bytes))

pub decoded_is : (bytes : List ℕ) → IsBytes bytes → decoded_of standard (encode_of standard bytes) ≡ Some bytes
unfolding decoded_of
decoded_is bytes h = ap result_ok (decode_of-encode_of standard bytes refl h)

pub no_bytes : (bytes : List ℕ) → (length bytes == 0) ≡ true → [] ≡ bytes
no_bytes [] h = refl
no_bytes (b ∷ bs) h = absurd (false≢true (sym (ne_eqb (suc (length bs)) 0 (λ same. omega (arith, same))) ∙ h))

pub bytes_are : (b : List ℕ) → IsBytes b → bytes (string (encode_of standard b)) ≡ Some b
bytes_are b h = decoded_is b h

pub uuid_is : (i : Id) → IsUuid i → uuid (string (id_text i.bytes)) ≡ Some i
uuid_is i h = ap (option_map (λ b. record { bytes = b })) (id_of_text i.bytes h.bytes_are h.length_is)

pub id_is_text : (i : Id) → IsText (id_text i.bytes)
id_is_text i = is_utf8-from_IsUtf8 (id_text i.bytes) (IsUtf8-from_ascii (id_text i.bytes) (IsAscii-encode_of url_safe_no_pad i.bytes))
