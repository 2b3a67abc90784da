-- Fields of records, as a script writes them: how the values of members are read, and how members are taken one by one.
use Rattle.std.specs.Prelude.{ℕ, nat_le, ℤ, pos, negsuc, List, [], ◌∷◌, Option, Some, None, option_map, option_and_then, if◌then◌else◌}
use Rattle.serde_json.specs.Data.{Data, null, boolean, number, string, array, object, Items, no_items, item}
use Rattle.serde_json.specs.Find.{get, as_number, as_u64, as_i64, as_str, as_array}
use Rattle.base64.specs.Engines.{standard}
use Rattle.base64.specs.GeneralPurpose.{decoded_of}
use Rattle.kz_types.specs.Ids.{id_of}
use Rattle.kz_types.specs.declared.id.Id.{Id}
use Rattle.kz_spec_data.specs.Json.{count_with, whole_within}

-- Where a value is read, what is made of it; where it isn't, nothing.
infixl 10 ◌>>=◌
abbrev pub ◌>>=◌ : {A B : Type 0} → Option A → (A → Option B) → Option B
value >>= made = option_and_then made value

-- ---- values

-- a whole number of 8 bits with a sign
abbrev pub int8 : Data → Option ℤ
int8 d = whole_within (negsuc 127) (pos 127) d

-- a whole number of 16 bits with a sign
abbrev pub int16 : Data → Option ℤ
int16 d = whole_within (negsuc 32767) (pos 32767) d

-- a whole number of 16 bits without a sign
abbrev pub uint16 : Data → Option ℕ
uint16 d = option_and_then (λ n. if nat_le n 65535 then Some n else None) (option_and_then as_u64 (as_number d))

-- a whole number of 32 bits with a sign
abbrev pub int32 : Data → Option ℤ
int32 d = whole_within (negsuc 2147483647) (pos 2147483647) d

-- a whole number of 64 bits with a sign
abbrev pub int64 : Data → Option ℤ
int64 d = option_and_then as_i64 (as_number d)

-- an id: the 22 characters that its 16 bytes are in URL-safe base64, without padding
abbrev pub uuid : Data → Option Id
uuid d = option_map (λ bytes. record { bytes = bytes }) (option_and_then id_of (as_str d))

-- bytes in base64 with its padding, as they are written
abbrev pub bytes : Data → Option (List ℕ)
bytes d = option_and_then (λ text. decoded_of standard text) (as_str d)

-- ---- lists

-- items that are all read so
abbrev pub all_of : {A : Type 0} → (Data → Option A) → Items → Option (List A)
all_of read no_items = Some []
all_of read (item d ds) = option_and_then (λ x. option_map (λ xs. x ∷ xs) (all_of read ds)) (read d)

-- a list of them
abbrev pub list_of : {A : Type 0} → (Data → Option A) → Data → Option (List A)
list_of read d = option_and_then (all_of read) (as_array d)

-- a list of whole numbers of 32 bits
abbrev pub ints : Data → Option (List ℤ)
ints d = list_of int32 d

-- such a list, or null
abbrev pub ints_or_null : Data → Option (Option (List ℤ))
ints_or_null null = Some None
ints_or_null (boolean b) = None
ints_or_null (number n) = None
ints_or_null (string s) = None
ints_or_null (array ds) = option_map (λ ns. Some ns) (all_of int32 ds)
ints_or_null (object ms) = None

-- ---- members

-- the member of this name, whose value is read so
abbrev pub field : {A : Type 0} → List ℕ → (Data → Option A) → Data → Option A
field name read d = option_and_then read (get name d)

-- a member that may be absent, which is its default
abbrev pub value_or : {A : Type 0} → A → (Data → Option A) → Option Data → Option A
value_or default read None = Some default
value_or default read (Some d) = read d

-- a tagged field: the member of this name may be absent
abbrev pub tagged_member : {A : Type 0} → List ℕ → A → (Data → Option A) → Data → Option A
tagged_member name default read d = value_or default read (get name d)

-- how many members there are with a tagged field, where there are so many others
abbrev pub tagged_count : List ℕ → Data → ℕ → ℕ
tagged_count name d others = count_with (get name d) others
