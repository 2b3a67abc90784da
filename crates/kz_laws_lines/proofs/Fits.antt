-- What is put beside plain members is plain.
use Rattle.std.proofs.Common.{◌≡◌, ℕ, suc, ℤ, Bool, true, false, cond, List, [], ◌∷◌, Option, Some, None}
use Rattle.std.specs.Prelude.{map}
use Rattle.std.specs.Ordering.{int_eq}
use Rattle.json.proofs.Printed.Utf8.{are_ascii}
use Rattle.base64.specs.Engines.{standard}
use Rattle.base64.specs.GeneralPurpose.{encode_of}
use Rattle.serde_json.specs.Data.{Data, boolean, string, object, Members, no_members, put}
use Rattle.serde_json.specs.View.{items_of}
use Rattle.kz_types.specs.Ids.{id_text}
use Rattle.kz_types.specs.declared.id.Id.{Id}
use Rattle.kz_spec_data.specs.Members.{whole_data, text_or_null_data, ints_data, with_text, with_whole, with_text_or_null, with_flag, with_id, with_bytes, with_ints, with_tagged_whole, with_tagged_ints, with_tagged_text}
use Rattle.kz_laws_values.specs.Ranges.{IsLong}
use Rattle.kz_laws_values.specs.Readable.{IsText}
use Rattle.kz_laws_values.proofs.Plain.{IsPlain, ArePlainItems, ArePlainMembers, whole_is_plain, word}
use Rattle.kz_laws_values.proofs.Members.{put_plain, Rise, put_rises, puts_same}
use Rattle.kz_laws_lines.specs.Writable.{IsTextOrNull, Each, IsInt32, AreIntsOrNull}
use Rattle.kz_laws_lines.proofs.Values.{long_32, encoded_is_text, id_is_text}

-- plain members that rise
pub record Fits (n : ℕ) (ms : Members) : Type 0 where
  pub plain : ArePlainMembers n ms
  pub rise : Rise ms

pub fits_object : (n : ℕ) (ms : Members) → Fits n ms → IsPlain (suc n) (object ms)
fits_object n ms h = (h.plain, puts_same ms h.rise)

pub with_data : (n : ℕ) (k : List ℕ) (d : Data) (ms : Members) → are_ascii k ≡ true → IsPlain n d → Fits n ms → Fits n (put k d ms)
with_data n k d ms name plain h = record { plain = put_plain n k d ms (word k name) plain h.plain; rise = put_rises k d ms h.rise }

pub with_a_text : (n : ℕ) (k text : List ℕ) (ms : Members) → are_ascii k ≡ true → IsText text → Fits n ms → Fits n (with_text k text ms)
with_a_text n k text ms name is h = with_data n k (string text) ms name is h

pub with_a_whole : (n : ℕ) (k : List ℕ) (z : ℤ) (ms : Members) → are_ascii k ≡ true → IsLong z → Fits n ms → Fits n (with_whole k z ms)
with_a_whole n k z ms name long h = with_data n k (whole_data z) ms name (whole_is_plain n z long) h

pub none_fits : (n : ℕ) → Fits n no_members
none_fits n = record { plain = tt; rise = tt }

pub one_of : (n : ℕ) (b : Bool) (x y : Members) → Fits n x → Fits n y → Fits n (cond b x y)
one_of n true x y p q = p
one_of n false x y p q = q

-- ---- members of records

pub with_a_flag : (n : ℕ) (k : List ℕ) (b : Bool) (ms : Members) → are_ascii k ≡ true → Fits n ms → Fits n (with_flag k b ms)
with_a_flag n k b ms name h = with_data n k (boolean b) ms name tt h

pub with_an_id : (n : ℕ) (k : List ℕ) (i : Id) (ms : Members) → are_ascii k ≡ true → Fits n ms → Fits n (with_id k i ms)
with_an_id n k i ms name h = with_a_text n k (id_text i.bytes) ms name (id_is_text i) h

pub with_some_bytes : (n : ℕ) (k bytes : List ℕ) (ms : Members) → are_ascii k ≡ true → Fits n ms → Fits n (with_bytes k bytes ms)
with_some_bytes n k bytes ms name h = with_a_text n k (encode_of standard bytes) ms name (encoded_is_text bytes) h

nullable_is_plain : (n : ℕ) (text : Option (List ℕ)) → IsTextOrNull text → IsPlain n (text_or_null_data text)
nullable_is_plain n None h = tt
nullable_is_plain n (Some text) h = h

pub with_a_nullable : (n : ℕ) (k : List ℕ) (text : Option (List ℕ)) (ms : Members) → are_ascii k ≡ true → IsTextOrNull text → Fits n ms → Fits n (with_text_or_null k text ms)
with_a_nullable n k text ms name is h = with_data n k (text_or_null_data text) ms name (nullable_is_plain n text is) h

-- items that are each plain
pub each_is_plain : {A : Type 0} (n : ℕ) (P : A → Type 0) (to : A → Data) → ((x : A) → P x → IsPlain n (to x)) → (xs : List A) → Each P xs → ArePlainItems n (items_of (map to xs))
each_is_plain n P to is [] h = tt
each_is_plain n P to is (x ∷ xs) h = (is x h.0, each_is_plain n P to is xs h.1)

pub with_some_ints : (n : ℕ) (k : List ℕ) (ns : List ℤ) (ms : Members) → are_ascii k ≡ true → Each IsInt32 ns → Fits (suc n) ms → Fits (suc n) (with_ints k ns ms)
with_some_ints n k ns ms name are h = with_data (suc n) k (ints_data ns) ms name (each_is_plain n IsInt32 whole_data (λ z is. whole_is_plain n z (long_32 z is)) ns are) h

pub with_tag_whole : (n : ℕ) (k : List ℕ) (default z : ℤ) (ms : Members) → are_ascii k ≡ true → IsLong z → Fits n ms → Fits n (with_tagged_whole k default z ms)
unfolding with_tagged_whole
with_tag_whole n k default z ms name long h = one_of n (int_eq z default) ms (with_whole k z ms) h (with_a_whole n k z ms name long h)

pub with_tag_ints : (n : ℕ) (k : List ℕ) (ns : Option (List ℤ)) (ms : Members) → are_ascii k ≡ true → AreIntsOrNull ns → Fits (suc n) ms → Fits (suc n) (with_tagged_ints k ns ms)
unfolding with_tagged_ints
with_tag_ints n k None ms name are h = h
with_tag_ints n k (Some ns) ms name are h = with_some_ints n k ns ms name are h

pub with_tag_text : (n : ℕ) (k : List ℕ) (text : Option (List ℕ)) (ms : Members) → are_ascii k ≡ true → IsTextOrNull text → Fits n ms → Fits n (with_tagged_text k text ms)
unfolding with_tagged_text
with_tag_text n k None ms name is h = h
with_tag_text n k (Some text) ms name is h = with_a_text n k text ms name is h
