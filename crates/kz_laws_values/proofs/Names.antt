-- Names and the parts that they are written as.
use Rattle.std.proofs.Common.{◌≡◌, ℕ, zero, suc, ◌+◌, ◌/◌, ◌%◌, ◌<◌, nat_lt, nat_le, Bool, true, false, cond, ◌&&◌, List, [], ◌∷◌, ◌++◌, get_or, Option, Some, None, refl, sym, ap, subst, ◌∙◌, arith, inl, inr}
use Rattle.std.specs.Prelude.{◌⊎◌, if◌then◌else◌, bytes_eq}
use Rattle.std.specs.Str.{IsUtf8, is_utf8, encode_utf8_all, all_scalars}
use Rattle.std.specs.Char.{encode_utf8, IsScalar}
use Rattle.std.proofs.lemmas.Bool.{and_parts, ltb-true}
use Rattle.std.proofs.lemmas.Str.{IsUtf8-from_is_utf8}
use Rattle.kz_types.specs.Paths.{part_for_name, bytes_of_part, name_of_part}
use Rattle.kz_types.proofs.NumberLemmas.{bytes_eq-true}
use Rattle.kz_types.proofs.NameLemmas.{restored_sanitised}

-- ---- the bytes of a text

-- bytes, by their places
abbrev pub AreBytes : List ℕ → Type 0
AreBytes bs = (k : ℕ) → get_or bs k 0 < 256

no_bytes : AreBytes []
no_bytes k = omega arith

one_more : (b : ℕ) (bs : List ℕ) → b < 256 → AreBytes bs → AreBytes (b ∷ bs)
one_more b bs lt more zero = lt
one_more b bs lt more (suc k) = more k

joined_bytes : (xs ys : List ℕ) → AreBytes xs → AreBytes ys → AreBytes (xs ++ ys)
joined_bytes [] ys first second = second
joined_bytes (x ∷ xs) ys first second = one_more x (xs ++ ys) (first 0) (joined_bytes xs ys (λ k. first (suc k)) second)

scalar_below : (c : ℕ) → IsScalar c → c < 1114112
scalar_below c scalar = by (nat_lt c 55296) refl scalar
  where
    by : (t : Bool) → nat_lt c 55296 ≡ t → cond t true (nat_le 57344 c && nat_lt c 1114112) ≡ true → c < 1114112
    by true e h = omega (arith, ltb-true c 55296 e)
    by false e h = ltb-true c 1114112 (and_parts (nat_le 57344 c) (nat_lt c 1114112) h).1

one_byte : (a : ℕ) → a < 256 → AreBytes (a ∷ [])
one_byte a l = one_more a [] l no_bytes

two_bytes : (a b : ℕ) → a < 256 → b < 256 → AreBytes (a ∷ b ∷ [])
two_bytes a b l m = one_more a (b ∷ []) l (one_byte b m)

three_bytes : (a b c : ℕ) → a < 256 → b < 256 → c < 256 → AreBytes (a ∷ b ∷ c ∷ [])
three_bytes a b c l m n = one_more a (b ∷ c ∷ []) l (two_bytes b c m n)

later : (c : ℕ) → 128 + c % 64 < 256
later c = omega arith

encoded_bytes : (c : ℕ) → c < 1114112 → AreBytes (encode_utf8 c)
unfolding encode_utf8
encoded_bytes c lt = by (nat_lt c 128) (nat_lt c 2048) (nat_lt c 65536) refl refl refl
  where
    by : (one two three : Bool) → nat_lt c 128 ≡ one → nat_lt c 2048 ≡ two → nat_lt c 65536 ≡ three
        → AreBytes (cond one (c ∷ []) (cond two ((192 + c / 64) ∷ (128 + c % 64) ∷ []) (cond three ((224 + c / 4096) ∷ (128 + (c / 64) % 64) ∷ (128 + c % 64) ∷ [])
        ((240 + c / 262144) ∷ (128 + (c / 4096) % 64) ∷ (128 + (c / 64) % 64) ∷ (128 + c % 64) ∷ []))))
    by true two three e f g = one_byte c (omega (arith, ltb-true c 128 e))
    by false true three e f g = two_bytes (192 + c / 64) (128 + c % 64) (omega (arith, ltb-true c 2048 f)) (later c)
    by false false true e f g = three_bytes (224 + c / 4096) (128 + (c / 64) % 64) (128 + c % 64) (omega (arith, ltb-true c 65536 g)) (later (c / 64)) (later c)
    by false false false e f g =
        one_more (240 + c / 262144) ((128 + (c / 4096) % 64) ∷ (128 + (c / 64) % 64) ∷ (128 + c % 64) ∷ []) (omega (arith, lt))
        (three_bytes (128 + (c / 4096) % 64) (128 + (c / 64) % 64) (128 + c % 64) (later (c / 4096)) (later (c / 64)) (later c))

all_encoded_bytes : (cs : List ℕ) → all_scalars cs ≡ true → AreBytes (encode_utf8_all cs)
all_encoded_bytes [] h = no_bytes
all_encoded_bytes (c ∷ cs) h =
    let k = and_parts _ (all_scalars cs) h in
    joined_bytes (encode_utf8 c) (encode_utf8_all cs) (encoded_bytes c (scalar_below c k.0)) (all_encoded_bytes cs k.1)

pub bytes_of_text : (bs : List ℕ) → IsUtf8 bs → AreBytes bs
bytes_of_text bs text = subst AreBytes text.1.1 (all_encoded_bytes text.0 text.1.0)

-- ---- names and parts

pub name_is_read : (name : List ℕ) → is_utf8 name ≡ true → name_of_part (part_for_name name) ≡ Some name
name_is_read name h = let text = IsUtf8-from_is_utf8 name h in restored_sanitised name (bytes_of_text name text) text

-- what an answer says of its test
pub taken : {A : Type 0} (t : Bool) (x y : Option A) (a : A) → (if t then x else y) ≡ Some a → ((t ≡ true) × (x ≡ Some a)) ⊎ ((t ≡ false) × (y ≡ Some a))
taken true x y a h = inl (refl, h)
taken false x y a h = inr (refl, h)

pub some_same : {A : Type 0} (a b : A) → Some a ≡ Some b → a ≡ b
some_same a b h = cc h

pub no_some : {A P : Type 0} (a : A) → None ≡ Some a → P
no_some a h = cc h

pub part_is_written : (part name : List ℕ) → name_of_part part ≡ Some name → part_for_name name ≡ part
unfolding name_of_part
part_is_written part name h = elim (taken (bytes_eq (part_for_name (bytes_of_part part)) part && is_utf8 (bytes_of_part part)) (Some (bytes_of_part part)) None name h) [
  | inl same ↦ ap part_for_name (sym (some_same (bytes_of_part part) name same.1)) ∙ bytes_eq-true (part_for_name (bytes_of_part part)) part (and_parts (bytes_eq (part_for_name (bytes_of_part part)) part) (is_utf8 (bytes_of_part part)) same.0).0
  | inr other ↦ no_some name other.1
]
