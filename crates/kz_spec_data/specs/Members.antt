-- Members of objects, as they are written.
use Rattle.std.specs.Prelude.{ℕ, Bool, ℤ, List, map, Option, Some, None, if◌then◌else◌}
use Rattle.std.specs.Ordering.{int_eq}
use Rattle.serde_json.specs.Data.{boolean, Data, null, number, string, array, Members, put}
use Rattle.serde_json.specs.Find.{of_integer}
use Rattle.serde_json.specs.View.{items_of}
use Rattle.base64.specs.Engines.{standard}
use Rattle.base64.specs.GeneralPurpose.{encode_of}
use Rattle.kz_types.specs.Ids.{id_text}
use Rattle.kz_types.specs.declared.id.Id.{Id}

-- a whole number
abbrev pub whole_data : ℤ → Data
whole_data n = number (of_integer n)

-- a text, or null
abbrev pub text_or_null_data : Option (List ℕ) → Data
text_or_null_data None = null
text_or_null_data (Some text) = string text

-- a list of whole numbers
abbrev pub ints_data : List ℤ → Data
ints_data ns = array (items_of (map whole_data ns))

-- ---- one more member

-- a text
abbrev pub with_text : List ℕ → List ℕ → Members → Members
with_text name text ms = put name (string text) ms

-- a whole number
abbrev pub with_whole : List ℕ → ℤ → Members → Members
with_whole name n ms = put name (whole_data n) ms

-- a text or null
abbrev pub with_text_or_null : List ℕ → Option (List ℕ) → Members → Members
with_text_or_null name text ms = put name (text_or_null_data text) ms

-- true or false
abbrev pub with_flag : List ℕ → Bool → Members → Members
with_flag name flag ms = put name (boolean flag) ms

-- an id: the 22 characters that its bytes are in URL-safe base64
abbrev pub with_id : List ℕ → Id → Members → Members
with_id name i ms = with_text name (id_text i.bytes) ms

-- bytes in base64 with its padding
abbrev pub with_bytes : List ℕ → List ℕ → Members → Members
with_bytes name bytes ms = with_text name (encode_of standard bytes) ms

-- a list of whole numbers
abbrev pub with_ints : List ℕ → List ℤ → Members → Members
with_ints name ns ms = put name (ints_data ns) ms

-- ---- tagged fields, which are left out at their default

-- a whole number, by default this one
unfoldable pub with_tagged_whole : List ℕ → ℤ → ℤ → Members → Members
with_tagged_whole name default n ms = if int_eq n default then ms else with_whole name n ms

-- a list of whole numbers, by default null
unfoldable pub with_tagged_ints : List ℕ → Option (List ℤ) → Members → Members
with_tagged_ints name None ms = ms
with_tagged_ints name (Some ns) ms = with_ints name ns ms

-- a text, by default null
unfoldable pub with_tagged_text : List ℕ → Option (List ℕ) → Members → Members
with_tagged_text name None ms = ms
with_tagged_text name (Some text) ms = with_text name text ms
