-- The parts of a text are texts.
use Rattle.std.proofs.Common.{◌≡◌, ℕ, ◌+◌, ◌/◌, ◌%◌, ◌≤◌, nat_lt, ◌==◌, not, Bool, true, false, cond, ◌&&◌, List, [], ◌∷◌, ◌++◌, refl, sym, ap, subst, ◌∙◌, arith, Some}
use Rattle.std.specs.Prelude.{⊤}
use Rattle.std.specs.List.{list_all, slice_split, onto_first}
use Rattle.std.specs.Str.{IsUtf8, encode_utf8_all, all_scalars}
use Rattle.std.specs.Char.{encode_utf8, IsScalar}
use Rattle.std.proofs.lemmas.Bool.{and_parts, eqb-true, ne_eqb}
use Rattle.std.proofs.lemmas.Str.{is_utf8-from_IsUtf8, IsUtf8-append, IsUtf8-nil, IsUtf8-encode}
use Rattle.std.proofs.lemmas.List.Splits.{slice_split-cons_no}
use Rattle.kz_types.specs.declared.key.EntityKey.{EntityKey}
use Rattle.kz_types.specs.PathRule.{is_path, is_part, parts}
use Rattle.kz_types.specs.Paths.{key_of}
use Rattle.kz_types.proofs.PathRules.{path_is_text, parts_are_legal, split_of_path}
use Rattle.kz_laws_values.proofs.Legal.{IsGoodKey, AreGoodParts, parts_good}

-- each of these is a text
abbrev AreTexts : List (List ℕ) → Type 0
AreTexts [] = ⊤
AreTexts (part ∷ more) = IsUtf8 part × AreTexts more

-- bytes put before the first part
abbrev onto : List ℕ → List (List ℕ) → List (List ℕ)
onto [] ps = ps
onto (b ∷ bs) ps = onto_first b (onto bs ps)

onto_part : (bs p : List ℕ) (ps : List (List ℕ)) → onto bs (p ∷ ps) ≡ (bs ++ p) ∷ ps
onto_part [] p ps = refl
onto_part (b ∷ bs) p ps = ap (onto_first b) (onto_part bs p ps)

onto_none : (b : ℕ) (bs : List ℕ) → onto (b ∷ bs) [] ≡ (b ∷ bs) ∷ []
onto_none b [] = refl
onto_none b (c ∷ bs) = ap (onto_first b) (onto_none c bs)

onto_texts : (bs : List ℕ) (ps : List (List ℕ)) → IsUtf8 bs → AreTexts ps → AreTexts (onto bs ps)
onto_texts bs (p ∷ ps) text texts = subst AreTexts (sym (onto_part bs p ps)) (IsUtf8-append bs p text texts.0, texts.1)
onto_texts [] [] text texts = tt
onto_texts (b ∷ bs) [] text texts = subst AreTexts (sym (onto_none b bs)) (text, tt)

abbrev is_no_slash : ℕ → Bool
is_no_slash b = not (b == 47)

no_slash : (b : ℕ) → is_no_slash b ≡ true → (b == 47) ≡ false
no_slash b h = by (b == 47) h
  where
    by : (t : Bool) → not t ≡ true → t ≡ false
    by true e = absurd (cc)
    by false e = refl

-- the parts of bytes without a slash and more
split_onto : (bs rest : List ℕ) → list_all is_no_slash bs ≡ true → slice_split (λ b. b == 47) (bs ++ rest) ≡ onto bs (slice_split (λ b. b == 47) rest)
split_onto [] rest h = refl
split_onto (b ∷ bs) rest h =
    let k = and_parts (is_no_slash b) (list_all is_no_slash bs) h in
    slice_split-cons_no (λ x. x == 47) b (bs ++ rest) (no_slash b k.0) ∙ ap (onto_first b) (split_onto bs rest k.1)

high_byte : (b : ℕ) → 128 ≤ b → is_no_slash b ≡ true
high_byte b high = ap not (ne_eqb b 47 (λ same. omega (arith, high, same)))

-- a character other than the slash has none
encoded_without : (c : ℕ) → (c == 47) ≡ false → list_all is_no_slash (encode_utf8 c) ≡ true
unfolding encode_utf8
encoded_without c other = by (nat_lt c 128) (nat_lt c 2048) (nat_lt c 65536)
  where
    later : (d : ℕ) → is_no_slash (128 + d % 64) ≡ true
    later d = high_byte (128 + d % 64) (omega arith)

    by : (one two three : Bool)
        → list_all is_no_slash (cond one (c ∷ []) (cond two ((192 + c / 64) ∷ (128 + c % 64) ∷ []) (cond three ((224 + c / 4096) ∷ (128 + (c / 64) % 64) ∷ (128 + c % 64) ∷ [])
        ((240 + c / 262144) ∷ (128 + (c / 4096) % 64) ∷ (128 + (c / 64) % 64) ∷ (128 + c % 64) ∷ [])))) ≡ true
    by true two three i = not (other i) && true
    by false true three i = high_byte (192 + c / 64) (omega arith) i && (later c i && true)
    by false false true i = high_byte (224 + c / 4096) (omega arith) i && (later (c / 64) i && (later c i && true))
    by false false false i = high_byte (240 + c / 262144) (omega arith) i && (later (c / 4096) i && (later (c / 64) i && (later c i && true)))

split_char : (c : ℕ) (rest : List ℕ) (slash : Bool) → (c == 47) ≡ slash → IsScalar c → AreTexts (slice_split (λ b. b == 47) rest) → AreTexts (slice_split (λ b. b == 47) (encode_utf8 c ++ rest))
unfolding encode_utf8
split_char c rest true e scalar texts = subst (λ d. AreTexts (slice_split (λ b. b == 47) (encode_utf8 d ++ rest))) (sym (eqb-true c 47 e)) (IsUtf8-nil, texts)
split_char c rest false e scalar texts =
    subst AreTexts (sym (split_onto (encode_utf8 c) rest (encoded_without c e))) (onto_texts (encode_utf8 c) (slice_split (λ b. b == 47) rest) (IsUtf8-encode c scalar) texts)

split_chars : (cs : List ℕ) → all_scalars cs ≡ true → AreTexts (slice_split (λ b. b == 47) (encode_utf8_all cs))
split_chars [] h = (IsUtf8-nil, tt)
split_chars (c ∷ cs) h = let k = and_parts _ (all_scalars cs) h in split_char c (encode_utf8_all cs) (c == 47) refl k.0 (split_chars cs k.1)

split_texts : (bs : List ℕ) → IsUtf8 bs → AreTexts (slice_split (λ b. b == 47) bs)
split_texts bs text = subst (λ x. AreTexts (slice_split (λ b. b == 47) x)) text.1.1 (split_chars text.0 text.1.0)

-- ---- the key of a path

are_good : (ps : List (List ℕ)) → AreTexts ps → list_all is_part ps ≡ true → AreGoodParts ps
are_good [] texts h = tt
are_good (p ∷ ps) texts h = let k = and_parts (is_part p) (list_all is_part ps) h in ((k.0, is_utf8-from_IsUtf8 p texts.0), are_good ps texts.1 k.1)

pub key_good : (path : List ℕ) (key : EntityKey) → is_path path ≡ true → key_of path ≡ Some key → IsGoodKey key
unfolding key_of
key_good path key rule holds =
    let texts : AreTexts ([] ∷ parts path) = subst AreTexts (split_of_path path rule) (split_texts path (path_is_text path rule)) in
    parts_good (parts path) key (are_good (parts path) texts.1 (parts_are_legal path rule)) holds
