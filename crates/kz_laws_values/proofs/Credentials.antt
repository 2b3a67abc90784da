-- The text of a credential is read as it.
use Rattle.std.proofs.Common.{◌≡◌, ℕ, zero, suc, ◌+◌, ◌*◌, ◌/◌, ◌%◌, ◌≤◌, ◌==◌, not, Bool, true, false, List, [], ◌∷◌, ◌++◌, length, replicate, Some, None, refl, sym, ap, subst, ◌∙◌, arith, ℤ, pos, negsuc, codes, decimal, slice_index}
use Rattle.std.specs.Prelude.{IsUtf8, option_and_then, if◌then◌else◌}
use Rattle.std.specs.List.{All, list_all, slice_split}
use Rattle.std.specs.Result.{result_ok}
use Rattle.std.specs.Fmt.{signed_decimal}
use Rattle.std.proofs.lemmas.Bool.{and_parts, and_from, false≢true, ne_eqb}
use Rattle.std.proofs.lemmas.Int.{ints}
use Rattle.std.proofs.lemmas.Fmt.{digits_decimal}
use Rattle.std.proofs.lemmas.Str.Parse.{numerals_by_value}
use Rattle.std.proofs.lemmas.List.Folds.{list_all-append}
use Rattle.std.proofs.lemmas.List.Sums.{AllPass-from_list_all}
use Rattle.std.proofs.lemmas.List.Splits.{slice_split_none, slice_split_at}
use Rattle.base64.specs.Engines.{standard}
use Rattle.base64.specs.Rfc4648.{encode_symbols, padding_len}
use Rattle.base64.specs.GeneralPurpose.{IsBytes, encode_of, decoded_of}
use Rattle.base64.proofs.EngineFacts.{decode_of-encode_of, IsAscii-encode_of}
use Rattle.std.proofs.lemmas.Str.{is_utf8-from_IsUtf8, IsUtf8-append, IsUtf8-from_ascii}
use Rattle.json.proofs.Printed.Utf8.{IsUtf8-are_ascii, are_ascii}
use Rattle.kz_types.specs.Numbers.{is_digit, canonical}
use Rattle.kz_types.proofs.NumberLemmas.{tells, canonical_complete}
use Rattle.kz_types.specs.declared.row.ScramRow.{ScramRow}
use Rattle.kz_spec_data.specs.Credentials.{credential_of, credential_of_pieces, credential_text}
use Rattle.kz_laws_values.specs.Ranges.{IsBetween, IsLong}
use Rattle.kz_laws_values.proofs.ReadsBack.{signed_is_utf8}
use Rattle.kz_laws_values.specs.Readable.{IsText, IsScram}

-- ---- no comma

abbrev is_other : ℕ → Bool
is_other b = not (b == 44)

no_comma : (test : ℕ → Bool) → test 44 ≡ false → (bs : List ℕ) → list_all test bs ≡ true → All (λ b. (b == 44) ≡ false) bs
no_comma test refuses bs h k d lt = ne_eqb _ 44 (λ same. false≢true (sym refuses ∙ ap test (sym same) ∙ AllPass-from_list_all test bs h k d lt))

at_each : (t : List ℕ) → list_all is_other t ≡ true → (i : ℕ) → is_other (slice_index t i) ≡ true
at_each [] h i = refl
at_each (b ∷ t) h zero = (and_parts (is_other b) (list_all is_other t) h).0
at_each (b ∷ t) h (suc i) = at_each t (and_parts (is_other b) (list_all is_other t) h).1 i

symbols_other : (t m : List ℕ) → ((i : ℕ) → is_other (slice_index t i) ≡ true) → list_all is_other (encode_symbols t m) ≡ true
unfolding encode_symbols
symbols_other t [] h = refl
symbols_other t (a ∷ []) h = and_from _ _ (h (a / 4)) (and_from _ true (h (a % 4 * 16)) refl)
symbols_other t (a ∷ b ∷ []) h = and_from _ _ (h (a / 4)) (and_from _ _ (h (a % 4 * 16 + b / 16)) (and_from _ true (h (b % 16 * 4)) refl))
symbols_other t (a ∷ b ∷ c ∷ rest) h =
    and_from _ _ (h (a / 4)) (and_from _ _ (h (a % 4 * 16 + b / 16)) (and_from _ _ (h (b % 16 * 4 + c / 64)) (and_from _ _ (h (c % 64)) (symbols_other t rest h))))

pads_other : (n : ℕ) → list_all is_other (replicate n 61) ≡ true
pads_other zero = refl
pads_other (suc n) = pads_other n

encoded_other : (bytes : List ℕ) → list_all is_other (encode_of standard bytes) ≡ true
encoded_other bytes =
    list_all-append is_other (encode_symbols standard.encode_table bytes) (replicate (padding_len (length bytes)) 61)
    ∙ and_from _ _ (symbols_other standard.encode_table bytes (at_each standard.encode_table refl)) (pads_other (padding_len (length bytes)))

-- a piece of a word and these
piece : (word bytes : List ℕ) → list_all is_other word ≡ true → All (λ b. (b == 44) ≡ false) (word ++ encode_of standard bytes)
piece word bytes h =
    no_comma is_other refl (word ++ encode_of standard bytes) (list_all-append is_other word (encode_of standard bytes) ∙ and_from _ _ h (encoded_other bytes))

number_other : (n : ℕ) → n ≤ 2147483647 → list_all is_other (codes "iterations=" ++ decimal n) ≡ true
number_other n le = digits_other (decimal n) (digits_decimal (numerals_by_value _ tells) n (omega (arith, le)))
  where
    digit_other : (b : ℕ) → is_digit b ≡ true → is_other b ≡ true
    digit_other b h = ap not (ne_eqb b 44 (λ same. false≢true (ap is_digit (sym same) ∙ h)))

    digits_other : (bs : List ℕ) → list_all is_digit bs ≡ true → list_all is_other bs ≡ true
    digits_other [] h = refl
    digits_other (b ∷ bs) h = let k = and_parts (is_digit b) (list_all is_digit bs) h in and_from _ _ (digit_other b k.0) (digits_other bs k.1)

-- ---- the pieces

abbrev pieces_of : ScramRow → List (List ℕ)
pieces_of row =
    (codes "salt=" ++ encode_of standard row.salt) ∷ (codes "stored_key=" ++ encode_of standard row.stored_key)
    ∷ (codes "server_key=" ++ encode_of standard row.server_key) ∷ (codes "iterations=" ++ signed_decimal row.iterations) ∷ []

split : (part rest : List ℕ) → All (λ b. (b == 44) ≡ false) part → slice_split (λ b. b == 44) (part ++ 44 ∷ rest) ≡ part ∷ slice_split (λ b. b == 44) rest
split part rest none = slice_split_at (λ b. b == 44) part 44 rest none refl

text_splits : (row : ScramRow) (n : ℕ) → row.iterations ≡ pos n → n ≤ 2147483647 → slice_split (λ b. b == 44) (credential_text row) ≡ pieces_of row
unfolding credential_text
text_splits row n is le =
    let salt : List ℕ = encode_of standard row.salt in
    let stored : List ℕ = encode_of standard row.stored_key in
    let server : List ℕ = encode_of standard row.server_key in
    let last : List ℕ = codes "iterations=" ++ signed_decimal row.iterations in
    let ending : All (λ b. (b == 44) ≡ false) last = subst (λ z. All (λ b. (b == 44) ≡ false) (codes "iterations=" ++ signed_decimal z)) (sym is) (no_comma is_other refl (codes "iterations=" ++ decimal n) (number_other n le)) in
    split (codes "salt=" ++ salt) (codes "stored_key=" ++ (stored ++ (codes ",server_key=" ++ (server ++ (codes ",iterations=" ++ signed_decimal row.iterations))))) (piece (codes "salt=") row.salt refl)
    ∙ ap (λ ps. (codes "salt=" ++ salt) ∷ ps) (split (codes "stored_key=" ++ stored) (codes "server_key=" ++ (server ++ (codes ",iterations=" ++ signed_decimal row.iterations))) (piece (codes "stored_key=") row.stored_key refl))
    ∙ ap (λ ps. (codes "salt=" ++ salt) ∷ (codes "stored_key=" ++ stored) ∷ ps) (split (codes "server_key=" ++ server) last (piece (codes "server_key=") row.server_key refl))
    ∙ ap (λ ps. (codes "salt=" ++ salt) ∷ (codes "stored_key=" ++ stored) ∷ (codes "server_key=" ++ server) ∷ ps) (slice_split_none (λ b. b == 44) last ending)

-- ---- what they say

decoded : (bytes : List ℕ) → IsBytes bytes → decoded_of standard (encode_of standard bytes) ≡ Some bytes
unfolding decoded_of
decoded bytes h = ap result_ok (decode_of-encode_of standard bytes refl h)

counted : (n : ℕ) → n ≤ 2147483647 → 1 ≤ n → option_and_then (λ m. if m == 0 then None else Some (pos m)) (canonical (decimal n)) ≡ Some (pos n)
counted n le more =
    ap (option_and_then (λ m. if m == 0 then None else Some (pos m))) (canonical_complete n le)
    ∙ (λ i. if ne_eqb n 0 (λ same. omega (arith, same, more)) i then None else Some (pos n))

iterations_read : (z : ℤ) → IsBetween (pos 1) (pos 2147483647) z → option_and_then (λ m. if m == 0 then None else Some (pos m)) (canonical (signed_decimal z)) ≡ Some z
iterations_read (pos n) h = counted n (omega (arith, ints, h.1)) (omega (arith, ints, h.0))
iterations_read (negsuc n) h = absurd (omega (arith, ints, h.0))

pieces_read : (row : ScramRow) → IsScram row → credential_of_pieces (pieces_of row) ≡ Some row
pieces_read row h =
    rw (
      decoded row.salt h.salt_is,
      decoded row.stored_key h.stored_key_is,
      decoded row.server_key h.server_key_is,
      iterations_read row.iterations h.iterations_are,
    ) refl

natural : (z : ℤ) → IsBetween (pos 1) (pos 2147483647) z → (n : ℕ) × (z ≡ pos n) × (n ≤ 2147483647)
natural (pos n) h = (n, refl, omega (arith, ints, h.1))
natural (negsuc n) h = absurd (omega (arith, ints, h.0))

pub credential_is : (row : ScramRow) → IsScram row → credential_of (credential_text row) ≡ Some row
unfolding credential_of
credential_is row h =
    let k = natural row.iterations h.iterations_are in
    ap (λ ps. if length ps == 4 then credential_of_pieces ps else None) (text_splits row k.0 k.1 k.2) ∙ pieces_read row h

-- ---- it is a text

encoded_text : (bytes : List ℕ) → IsUtf8 (encode_of standard bytes)
encoded_text bytes = IsUtf8-from_ascii (encode_of standard bytes) (IsAscii-encode_of standard bytes)

then_text : (name bytes : List ℕ) → are_ascii name ≡ true → IsUtf8 bytes → IsUtf8 (name ++ bytes)
then_text name bytes h u = IsUtf8-append name bytes (IsUtf8-are_ascii name h) u

long_iterations : (z : ℤ) → IsBetween (pos 1) (pos 2147483647) z → IsLong z
long_iterations z b = (omega (arith, ints, b.0), omega (arith, ints, b.1))

pub credential_is_text : (row : ScramRow) → IsScram row → IsText (credential_text row)
unfolding credential_text
credential_is_text row h =
    is_utf8-from_IsUtf8 _
    (then_text (codes "salt=") _ refl (IsUtf8-append (encode_of standard row.salt) _ (encoded_text row.salt)
    (then_text (codes ",stored_key=") _ refl (IsUtf8-append (encode_of standard row.stored_key) _ (encoded_text row.stored_key)
    (then_text (codes ",server_key=") _ refl (IsUtf8-append (encode_of standard row.server_key) _ (encoded_text row.server_key)
    (then_text (codes ",iterations=") (signed_decimal row.iterations) refl (signed_is_utf8 row.iterations (long_iterations row.iterations h.iterations_are)))))))))
