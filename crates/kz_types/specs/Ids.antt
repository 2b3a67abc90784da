-- The text of a 16-byte id: its 22 characters of URL-safe base64 without padding.
use Rattle.std.specs.Prelude.{ℕ, ◌==◌, List, length, replicate, Option, Some, None, option_and_then, if◌then◌else◌}
use Rattle.base64.specs.Engines.{url_safe_no_pad}
use Rattle.base64.specs.GeneralPurpose.{encode_of, decoded_of}

-- the text of an id's bytes
abbrev pub id_text : List ℕ → List ℕ
id_text bytes = encode_of url_safe_no_pad bytes

-- the bytes where they are an id's
abbrev pub of_id_length : List ℕ → Option (List ℕ)
of_id_length bytes = if length bytes == 16 then Some bytes else None

-- the bytes of the id that a text is. Only the spelling that is written counts: the unused bits of the last character are zero
unfoldable pub id_of : List ℕ → Option (List ℕ)
id_of text = option_and_then of_id_length (decoded_of url_safe_no_pad text)

-- the bytes of the id that stands for none
abbrev pub zero_id : List ℕ
zero_id = replicate 16 0
