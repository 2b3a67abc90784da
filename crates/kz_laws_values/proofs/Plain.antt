-- The text of plain data is read as that data.
use Rattle.std.proofs.Common.{◌≡◌, ℕ, zero, suc, max, ◌≤◌, ◌==◌, ℤ, Bool, true, false, cond, List, length, ◌∷◌, Option, Some, None, refl, sym, ap, subst, ◌∙◌, arith}
use Rattle.std.specs.Prelude.{⊤, IsUtf8, option_map, option_and_then}
use Rattle.std.proofs.lemmas.Str.{IsUtf8-from_is_utf8, is_utf8-from_IsUtf8}
use Rattle.std.proofs.lemmas.Bool.{ne_eqb}
use Rattle.json.specs.Tree as tree
use Rattle.json.proofs.Printed.Utf8.{IsUtf8-are_ascii, are_ascii}
use Rattle.serde_json.specs.Data.{Num, Data, null, boolean, number, string, array, object, Items, no_items, item, Members, no_members, member, put}
use Rattle.serde_json.specs.Find.{of_integer}
use Rattle.serde_json.specs.Read.{of_json, of_items, of_members, number_of}
use Rattle.serde_json.specs.Written.{compact_text, members_text, number_text, outline, items_outline, members_outline}
use Rattle.kz_types.specs.declared.bodies.Body.{Body}
use Rattle.kz_types.specs.declared.key.EntityKey.{EntityKey}
use Rattle.kz_spec_data.specs.Bodies.{whole_data, json_of, body_of, body_of_json, body_unless_empty, empty_body, read_body}
use Rattle.kz_laws_values.specs.Ranges.{IsLong}
use Rattle.kz_laws_values.proofs.ReadsBack.{HasUtf8, ItemsHaveUtf8, MembersHaveUtf8, json_of_compact, whole_is_utf8, whole_is_number, whole_reads}
use Rattle.kz_laws_values.specs.Readable.{IsText}

-- these members put one after another
abbrev pub puts : Members → Members → Members
puts no_members found = found
puts (member k d ms) found = puts ms (put k d found)

-- a whole number of 64 bits
abbrev pub IsWholeNumber : Num → Type 0
IsWholeNumber n = (z : ℤ) × (n ≡ of_integer z) × IsLong z

abbrev mutual
  -- data of texts and whole numbers, whose members are as they are put one after another, nested at most so deep
  pub IsPlain : ℕ → Data → Type 0
  IsPlain n null = ⊤
  IsPlain n (boolean b) = ⊤
  IsPlain n (number x) = IsWholeNumber x
  IsPlain n (string s) = IsText s
  IsPlain zero (array ds) = ⊥
  IsPlain (suc n) (array ds) = ArePlainItems n ds
  IsPlain zero (object ms) = ⊥
  IsPlain (suc n) (object ms) = ArePlainMembers n ms × (puts ms no_members ≡ ms)

  pub ArePlainItems : ℕ → Items → Type 0
  ArePlainItems n no_items = ⊤
  ArePlainItems n (item d ds) = IsPlain n d × ArePlainItems n ds

  pub ArePlainMembers : ℕ → Members → Type 0
  ArePlainMembers n no_members = ⊤
  ArePlainMembers n (member k d ms) = IsText k × IsPlain n d × ArePlainMembers n ms

number_is_utf8 : (x : Num) → IsWholeNumber x → IsUtf8 (number_text x)
number_is_utf8 x h = subst (λ y. IsUtf8 (number_text y)) (sym h.1) (whole_is_utf8 h.0 h.2)

mutual
  plain_utf8 : (n : ℕ) (d : Data) → IsPlain n d → HasUtf8 d
  plain_utf8 n null h = tt
  plain_utf8 n (boolean b) h = tt
  plain_utf8 n (number x) h = number_is_utf8 x h
  plain_utf8 n (string s) h = IsUtf8-from_is_utf8 s h
  plain_utf8 zero (array ds) h = absurd h
  plain_utf8 (suc n) (array ds) h = items_utf8 n ds h
  plain_utf8 zero (object ms) h = absurd h
  plain_utf8 (suc n) (object ms) h = members_utf8 n ms h.0

  items_utf8 : (n : ℕ) (ds : Items) → ArePlainItems n ds → ItemsHaveUtf8 ds
  items_utf8 n no_items h = tt
  items_utf8 n (item d ds) h = (plain_utf8 n d h.0, items_utf8 n ds h.1)

  members_utf8 : (n : ℕ) (ms : Members) → ArePlainMembers n ms → MembersHaveUtf8 ms
  members_utf8 n no_members h = tt
  members_utf8 n (member k d ms) h = (IsUtf8-from_is_utf8 k h.0, plain_utf8 n d h.1, members_utf8 n ms h.2)

mutual
  plain_numbers : (n : ℕ) (d : Data) → IsPlain n d → tree.HasNumbers (outline d)
  plain_numbers n null h = tt
  plain_numbers n (boolean b) h = tt
  plain_numbers n (number x) h = subst (λ y. tree.HasNumbers (outline (number y))) (sym h.1) (whole_is_number h.0 h.2)
  plain_numbers n (string s) h = tt
  plain_numbers zero (array ds) h = absurd h
  plain_numbers (suc n) (array ds) h = items_numbers n ds h
  plain_numbers zero (object ms) h = absurd h
  plain_numbers (suc n) (object ms) h = members_numbers n ms h.0

  items_numbers : (n : ℕ) (ds : Items) → ArePlainItems n ds → tree.ItemsHaveNumbers (items_outline ds)
  items_numbers n no_items h = tt
  items_numbers n (item d ds) h = (plain_numbers n d h.0, items_numbers n ds h.1)

  members_numbers : (n : ℕ) (ms : Members) → ArePlainMembers n ms → tree.MembersHaveNumbers (members_outline ms)
  members_numbers n no_members h = tt
  members_numbers n (member k d ms) h = (plain_numbers n d h.1, members_numbers n ms h.2)

max_at_most : (a b n : ℕ) → a ≤ n → b ≤ n → max a b ≤ n
max_at_most a b n h k = grind (arith)

mutual
  plain_depth : (n : ℕ) (d : Data) → IsPlain n d → tree.depth (outline d) ≤ n
  plain_depth n null h = omega arith
  plain_depth n (boolean b) h = omega arith
  plain_depth n (number x) h = omega arith
  plain_depth n (string s) h = omega arith
  plain_depth zero (array ds) h = absurd h
  plain_depth (suc n) (array ds) h = omega (arith, items_depth n ds h)
  plain_depth zero (object ms) h = absurd h
  plain_depth (suc n) (object ms) h = omega (arith, members_depth n ms h.0)

  items_depth : (n : ℕ) (ds : Items) → ArePlainItems n ds → tree.items_depth (items_outline ds) ≤ n
  items_depth n no_items h = omega arith
  items_depth n (item d ds) h = max_at_most (tree.depth (outline d)) (tree.items_depth (items_outline ds)) n (plain_depth n d h.0) (items_depth n ds h.1)

  members_depth : (n : ℕ) (ms : Members) → ArePlainMembers n ms → tree.members_depth (members_outline ms) ≤ n
  members_depth n no_members h = omega arith
  members_depth n (member k d ms) h = max_at_most (tree.depth (outline d)) (tree.members_depth (members_outline ms)) n (plain_depth n d h.1) (members_depth n ms h.2)

mutual
  plain_same : (n : ℕ) (d : Data) → IsPlain n d → of_json (outline d) ≡ Some d
  plain_same n null h = refl
  plain_same n (boolean b) h = refl
  plain_same n (number x) h =
      ap (option_map number) (subst (λ y. number_of (number_text y) ≡ Some y) (sym h.1) (whole_reads h.0 h.2))
  plain_same n (string s) h = refl
  plain_same zero (array ds) h = absurd h
  plain_same (suc n) (array ds) h = ap (option_map array) (items_same n ds h)
  plain_same zero (object ms) h = absurd h
  plain_same (suc n) (object ms) h = ap (option_map object) (members_same n ms no_members h.0 ∙ ap (λ found. Some found) h.1)

  items_same : (n : ℕ) (ds : Items) → ArePlainItems n ds → of_items (items_outline ds) ≡ Some ds
  items_same n no_items h = refl
  items_same n (item d ds) h =
      ap (option_and_then (λ x. option_map (item x) (of_items (items_outline ds)))) (plain_same n d h.0) ∙ ap (option_map (item d)) (items_same n ds h.1)

  members_same : (n : ℕ) (ms found : Members) → ArePlainMembers n ms → of_members (members_outline ms) found ≡ Some (puts ms found)
  members_same n no_members found h = refl
  members_same n (member k d ms) found h =
      ap (option_and_then (λ x. of_members (members_outline ms) (put k x found))) (plain_same n d h.1) ∙ members_same n ms (put k d found) h.2

pub plain_is_read : (d : Data) → IsPlain 3 d → json_of (compact_text d) ≡ Some d
plain_is_read d h =
    json_of_compact d (plain_utf8 3 d h) (plain_numbers 3 d h) (omega (arith, plain_depth 3 d h)) (plain_same 3 d h)

cond_false : {A : Type 0} (b : Bool) (x y : A) → b ≡ false → cond b x y ≡ y
cond_false true x y e = absurd (cc)
cond_false false x y e = refl

not_empty : (key : EntityKey) (b : ℕ) (bs : List ℕ) (empty : Option Body) → body_unless_empty key (b ∷ bs) empty ≡ body_of_json key (json_of (b ∷ bs))
not_empty key b bs (Some empty) = cond_false (length (b ∷ bs) == 0) _ _ (ne_eqb (suc (length bs)) 0 (λ same. omega (arith, same)))
not_empty key b bs None = refl

-- what the text of an object says of an entity
pub object_says : (key : EntityKey) (ms : Members) → IsPlain 3 (object ms) → read_body key (compact_text (object ms)) ≡ body_of key (object ms)
unfolding read_body
object_says key ms h = not_empty key 123 (members_text false ms) (empty_body key) ∙ ap (body_of_json key) (plain_is_read (object ms) h)

pub whole_is_plain : (n : ℕ) (z : ℤ) → IsLong z → IsPlain n (whole_data z)
whole_is_plain n z h = (z, refl, h)

-- a word is a text
pub word : (bytes : List ℕ) → are_ascii bytes ≡ true → IsText bytes
word bytes h = is_utf8-from_IsUtf8 bytes (IsUtf8-are_ascii bytes h)
