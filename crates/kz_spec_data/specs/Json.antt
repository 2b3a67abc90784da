-- JSON values, as `serde_json` reads them, and their members.
use Rattle.std.specs.Prelude.{ℕ, ◌+◌, ◌&&◌, nat_le, ℤ, pos, int_le, List, [], ◌∷◌, Option, Some, None, option_and_then, if◌then◌else◌}
use Rattle.std.specs.Str.{bytes_eq, is_utf8}
use Rattle.serde_json.specs.Data.{Data, null, boolean, number, string, array, object}
use Rattle.serde_json.specs.Read.{read}
use Rattle.serde_json.specs.Find.{get, as_number, as_u64, as_i64, as_str}
use Rattle.serde_json.specs.Events.{members_len}

-- The JSON value of a text in UTF-8. Of two members of an object with one name, the last counts.
abbrev pub json_of : List ℕ → Option Data
json_of bytes = if is_utf8 bytes then read bytes else None

-- how many members an object has; what is no object has none
abbrev pub member_count : Data → ℕ
member_count null = 0
member_count (boolean b) = 0
member_count (number n) = 0
member_count (string s) = 0
member_count (array ds) = 0
member_count (object ms) = members_len ms

-- how many members an object has that has `n` members beside this one, which may be absent
abbrev pub count_with : Option Data → ℕ → ℕ
count_with None n = n
count_with (Some d) n = n + 1

-- A whole number from 0 to `most`. What has a point, an exponent or a minus sign is none, whatever its value.
abbrev pub whole_up_to : ℕ → Data → Option ℤ
whole_up_to most d = option_and_then (λ n. if nat_le n most then Some (pos n) else None) (option_and_then as_u64 (as_number d))

-- a whole number from `least` to `most`
abbrev pub whole_within : ℤ → ℤ → Data → Option ℤ
whole_within least most d = option_and_then (λ n. if int_le least n && int_le n most then Some n else None) (option_and_then as_i64 (as_number d))

-- a text or null
abbrev pub text_or_null : Data → Option (Option (List ℕ))
text_or_null null = Some None
text_or_null (boolean b) = None
text_or_null (number n) = None
text_or_null (string s) = Some (Some s)
text_or_null (array ds) = None
text_or_null (object ms) = None

-- the member of this name that is a text
abbrev pub text_member : List ℕ → Data → Option (List ℕ)
text_member name d = option_and_then as_str (get name d)

-- A value is read by the form that has this name; one whose name isn't in the table is read as none.
abbrev pub by_name : {A : Type 0} → List (List ℕ × (Data → Option A)) → List ℕ → Data → Option A
by_name [] name d = None
by_name (form ∷ forms) name d = if bytes_eq name form.0 then form.1 d else by_name forms name d
