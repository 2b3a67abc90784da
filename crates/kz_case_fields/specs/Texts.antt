-- Parts of the answers to cases.
use Rattle.std.specs.Prelude.{ℕ, ◌+◌, ◌/◌, ◌%◌, nat_lt, List, [], ◌∷◌, Option, Some, None, if◌then◌else◌, codes}
use Rattle.std.specs.Str.{is_utf8}
use Rattle.serde_json.specs.Data.{Members, no_members}
use Rattle.kz_spec_data.specs.Members.{with_text}

-- ---- bytes in hexadecimal

-- the digit of a value below 16, in lower case
abbrev pub hex_digit : ℕ → ℕ
hex_digit n = if nat_lt n 10 then 48 + n else 87 + n

-- bytes, each as two digits
abbrev pub hex : List ℕ → List ℕ
hex [] = []
hex (b ∷ bs) = hex_digit (b / 16) ∷ hex_digit (b % 16) ∷ hex bs

-- The members that each answer to a text repeats: the call, and the text under its name.
abbrev pub given : List ℕ → List ℕ → List ℕ → Members
given call name text = with_text name text (with_text (codes "call") call no_members)

-- bytes that are UTF-8
abbrev pub text_of : List ℕ → Option (List ℕ)
text_of bytes = if is_utf8 bytes then Some bytes else None
