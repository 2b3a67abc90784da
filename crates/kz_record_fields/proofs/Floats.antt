-- What is put beside members without floats has none.
use Rattle.std.proofs.Common.{◌≡◌, ℕ, Bool, true, false, cond, List, [], ◌∷◌, Option, Some, None, refl, ℤ, pos, negsuc}
use Rattle.std.specs.Prelude.{map}
use Rattle.std.specs.Ordering.{int_eq}
use Rattle.base64.specs.Engines.{standard}
use Rattle.base64.specs.GeneralPurpose.{encode_of}
use Rattle.serde_json.specs.Data.{Data, boolean, string, Members, no_members, put}
use Rattle.serde_json.specs.View.{items_of}
use Rattle.serde_json.specs.Written.{has_float, members_have_float, items_have_float}
use Rattle.kz_body_parts.proofs.Floats.{neither, put_no_float}
use Rattle.kz_types.specs.Ids.{id_text}
use Rattle.kz_types.specs.declared.id.Id.{Id}
use Rattle.kz_spec_data.specs.Members.{whole_data, text_or_null_data, ints_data, with_text, with_whole, with_text_or_null, with_flag, with_id, with_bytes, with_ints, with_tagged_whole, with_tagged_ints, with_tagged_text}

-- members without floats
pub record Calm (ms : Members) : Type 0 where
  pub none : members_have_float ms ≡ false

pub no_members_calm : Calm no_members
no_members_calm = record { none = refl }

pub put_calm : (k : List ℕ) (d : Data) (ms : Members) → has_float d ≡ false → Calm ms → Calm (put k d ms)
put_calm k d ms none all = record { none = put_no_float k d ms none all.none }

pub text_no_float : (k s : List ℕ) (ms : Members) → Calm ms → Calm (with_text k s ms)
text_no_float k s ms all = put_calm k (string s) ms refl all

pub integer_no_float : (n : ℤ) → has_float (whole_data n) ≡ false
integer_no_float (pos n) = refl
integer_no_float (negsuc n) = refl

pub whole_no_float : (k : List ℕ) (n : ℤ) (ms : Members) → Calm ms → Calm (with_whole k n ms)
whole_no_float k n ms all = put_calm k (whole_data n) ms (integer_no_float n) all

pub one_of : (b : Bool) (x y : Members) → Calm x → Calm y → Calm (cond b x y)
one_of true x y p q = p
one_of false x y p q = q

-- ---- members

pub flag_no_float : (k : List ℕ) (b : Bool) (ms : Members) → Calm ms → Calm (with_flag k b ms)
flag_no_float k b ms all = put_calm k (boolean b) ms refl all

pub id_no_float : (k : List ℕ) (i : Id) (ms : Members) → Calm ms → Calm (with_id k i ms)
id_no_float k i ms all = text_no_float k (id_text i.bytes) ms all

pub bytes_no_float : (k bytes : List ℕ) (ms : Members) → Calm ms → Calm (with_bytes k bytes ms)
bytes_no_float k bytes ms all = text_no_float k (encode_of standard bytes) ms all

nullable_has_none : (text : Option (List ℕ)) → has_float (text_or_null_data text) ≡ false
nullable_has_none None = refl
nullable_has_none (Some text) = refl

pub nullable_no_float : (k : List ℕ) (text : Option (List ℕ)) (ms : Members) → Calm ms → Calm (with_text_or_null k text ms)
nullable_no_float k text ms all = put_calm k (text_or_null_data text) ms (nullable_has_none text) all

-- items that each have no float
pub each_no_float : {A : Type 0} (to : A → Data) (none : (x : A) → has_float (to x) ≡ false) (xs : List A) → items_have_float (items_of (map to xs)) ≡ false
each_no_float to none [] = refl
each_no_float to none (x ∷ xs) = neither (has_float (to x)) (items_have_float (items_of (map to xs))) (none x) (each_no_float to none xs)

pub ints_no_float : (k : List ℕ) (ns : List ℤ) (ms : Members) → Calm ms → Calm (with_ints k ns ms)
ints_no_float k ns ms all = put_calm k (ints_data ns) ms (each_no_float whole_data integer_no_float ns) all

pub tagged_whole_no_float : (k : List ℕ) (default n : ℤ) (ms : Members) → Calm ms → Calm (with_tagged_whole k default n ms)
unfolding with_tagged_whole
tagged_whole_no_float k default n ms all = one_of (int_eq n default) ms (with_whole k n ms) all (whole_no_float k n ms all)

pub tagged_ints_no_float : (k : List ℕ) (ns : Option (List ℤ)) (ms : Members) → Calm ms → Calm (with_tagged_ints k ns ms)
unfolding with_tagged_ints
tagged_ints_no_float k None ms all = all
tagged_ints_no_float k (Some ns) ms all = ints_no_float k ns ms all

pub tagged_text_no_float : (k : List ℕ) (text : Option (List ℕ)) (ms : Members) → Calm ms → Calm (with_tagged_text k text ms)
unfolding with_tagged_text
tagged_text_no_float k None ms all = all
tagged_text_no_float k (Some text) ms all = text_no_float k text ms all
