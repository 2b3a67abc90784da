-- Lemmas on the texts of ids.
use Rattle.std.proofs.Common.{◌≡◌, ℕ, ◌==◌, Bool, true, false, List, [], length, ◌∙◌, ap, subst, refl, arith, length-append}
use Rattle.std.specs.Prelude.{Option, Some, None, Result, Ok, Err, option_and_then, if◌then◌else◌}
use Rattle.std.specs.Result.{result_ok}
use Rattle.std.proofs.lemmas.Bool.{eqb-true, eq-eqb, ne_eqb}
use Rattle.base64.specs.declared.decode.DecodeError.{DecodeError}
use Rattle.base64.specs.Engines.{url_safe_no_pad}
use Rattle.base64.specs.Rfc4648.{encode_symbols}
use Rattle.base64.specs.GeneralPurpose.{IsBytes, decode_of, decoded_of}
use Rattle.base64.proofs.EngineFacts.{decode_of_strict, decode_of-encode_of}
use Rattle.base64.proofs.RoundTrip.{length-encode_symbols}
use Rattle.kz_types.specs.Ids.{id_of, id_text, of_id_length}

of_length : (bytes b : List ℕ) → of_id_length bytes ≡ Some b → (bytes ≡ b) × (length bytes ≡ 16)
of_length bytes b h = by (length bytes == 16) refl h
  where
    by : (t : Bool) → (length bytes == 16) ≡ t → (if t then Some bytes else None) ≡ Some b → (bytes ≡ b) × (length bytes ≡ 16)
    by true e k = (cc k, eqb-true (length bytes) 16 e)
    by false e k = cc k

-- what a decoded id is decoded from
pub of_decoded : (r : Result (List ℕ) DecodeError) (b : List ℕ) → option_and_then of_id_length (result_ok r) ≡ Some b → (r ≡ Ok b) × (length b ≡ 16)
of_decoded (Err e) b h = cc h
of_decoded (Ok bytes) b h = let o = of_length bytes b h in (ap (λ x. Ok x) o.0, subst (λ x. length x ≡ 16) o.0 o.1)

-- a text that is an id is the text that is written for it
pub text_of_id : (s b : List ℕ) → IsBytes s → id_of s ≡ Some b → (s ≡ id_text b) × (length b ≡ 16)
unfolding id_of decoded_of
text_of_id s b bytes is = let d = of_decoded (decode_of url_safe_no_pad s) b is in (decode_of_strict url_safe_no_pad s b (refl, refl) bytes d.0, d.1)

-- what decodes to an id's bytes is the id
pub id_of_decoded : (s b : List ℕ) → decode_of url_safe_no_pad s ≡ Ok b → length b ≡ 16 → id_of s ≡ Some b
unfolding id_of decoded_of
id_of_decoded s b is l = ap (λ r. option_and_then of_id_length (result_ok r)) is ∙ ap (λ t. if t then Some b else None) (eq-eqb (length b) 16 l)

-- an id's text is read as that id
pub id_of_text : (b : List ℕ) → IsBytes b → length b ≡ 16 → id_of (id_text b) ≡ Some b
id_of_text b bytes l = id_of_decoded (id_text b) b (decode_of-encode_of url_safe_no_pad b refl bytes) l

-- bytes of another number are no id
pub no_id_of_length : (s b : List ℕ) → decode_of url_safe_no_pad s ≡ Ok b → (length b ≡ 16 → ⊥) → id_of s ≡ None
unfolding id_of decoded_of
no_id_of_length s b is other = ap (λ r. option_and_then of_id_length (result_ok r)) is ∙ ap (λ t. if t then Some b else None) (ne_eqb (length b) 16 other)

-- what doesn't decode is no id
pub no_id_of_error : (s : List ℕ) (e : DecodeError) → decode_of url_safe_no_pad s ≡ Err e → id_of s ≡ None
unfolding id_of decoded_of
no_id_of_error s e is = ap (λ r. option_and_then of_id_length (result_ok r)) is

-- how long a text is
pub length-id_text : (b : List ℕ) → length b ≡ 16 → length (id_text b) ≡ 22
length-id_text b l = omega (arith, length-append (encode_symbols url_safe_no_pad.encode_table b) [], length-encode_symbols url_safe_no_pad.encode_table b)

-- a text of another length is no id
pub no_id_of_text_length : (s : List ℕ) → IsBytes s → (length s ≡ 22 → ⊥) → id_of s ≡ None
no_id_of_text_length s bytes other = by (id_of s) refl
  where
    by : (o : Option (List ℕ)) → id_of s ≡ o → o ≡ None
    by None e = refl
    by (Some b) e = let t = text_of_id s b bytes e in absurd (other (ap length t.0 ∙ length-id_text b t.1))
