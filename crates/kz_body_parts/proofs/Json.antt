-- What a look at a text says of the JSON value that it is.
use Rattle.std.proofs.Common.{◌≡◌, ℕ, Bool, true, false, cond, List, Some, None, refl, sym, IsUtf8}
use Rattle.std.specs.Str.{is_utf8}
use Rattle.std.proofs.lemmas.Str.{IsUtf8-from_is_utf8, is_utf8-from_IsUtf8}
use Rattle.serde_json.specs.Data.{Data}
use Rattle.serde_json.specs.Read.{read}
use Rattle.kz_spec_data.specs.Bodies.{json_of}

pub found_json : (bs : List ℕ) (d : Data) → IsUtf8 bs × (read bs ≡ Some d) → Some d ≡ json_of bs
found_json bs d h = rw (is_utf8-from_IsUtf8 bs h.0) (sym h.1)

tested : (b : Bool) (bs : List ℕ) → is_utf8 bs ≡ b → (IsUtf8 bs → read bs ≡ None) → None ≡ cond b (read bs) None
tested true bs e h = sym (h (IsUtf8-from_is_utf8 bs e))
tested false bs e h = refl

pub no_json : (bs : List ℕ) → (IsUtf8 bs → read bs ≡ None) → None ≡ json_of bs
no_json bs h = tested (is_utf8 bs) bs refl h
