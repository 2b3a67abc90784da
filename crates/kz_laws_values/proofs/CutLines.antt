-- How a line that comes byte by byte is cut off its input.
use Rattle.std.proofs.Common.{◌≡◌, ◌≢◌, ℕ, ◌+◌, ◌-◌, ◌<◌, ◌≤◌, Bool, true, false, eqb, List, [], ◌∷◌, ◌++◌, length, refl, ap, ◌∙◌, arith, length-append}
use Rattle.std.proofs.lemmas.Bool.Decides.{nat_tests}
use Rattle.kz_types.specs.declared.limits.TheConstants.{MAX_INPUT_BYTES, MAX_LINE_BYTES}
use Rattle.kz_spec_data.specs.Lines.{Item, line, long, much, with_byte, with_front, items_from}
use Rattle.kz_laws_values.specs.Coming.{lines_after}

-- ---- a part of a line before further lines

pub front_byte : (l : List ℕ) (b : ℕ) (is : List Item) → with_front l (with_byte b is) ≡ with_front (l ++ b ∷ []) is
front_byte [] b is = refl
front_byte (x ∷ l) b is = ap (with_byte x) (front_byte l b is)

pub front_line : (l : List ℕ) (is : List Item) → with_front l (line [] ∷ is) ≡ line l ∷ is
front_line [] is = refl
front_line (x ∷ l) is = ap (with_byte x) (front_line l is)

pub front_long : (l : List ℕ) (is : List Item) → with_front l (long ∷ is) ≡ long ∷ is
front_long [] is = refl
front_long (x ∷ l) is = ap (with_byte x) (front_long l is)

pub front_much : (l : List ℕ) (is : List Item) → with_front l (much ∷ is) ≡ much ∷ is
front_much [] is = refl
front_much (x ∷ l) is = ap (with_byte x) (front_much l is)

-- ---- the lines of a first byte and further bytes

pub is_not : (m n : ℕ) → m ≢ n → eqb m n ≡ false
is_not m n h = grind (arith, nat_tests)

module _ (here all b : ℕ) (bs : List ℕ) (no_end : b ≢ 10) where
  pub items_byte : 0 < here → 0 < all → items_from here all (b ∷ bs) ≡ with_byte b (items_from (here - 1) (all - 1) bs)
  items_byte h a = rw (is_not b 10 no_end, is_not here 0 (omega arith), is_not all 0 (omega arith))

  pub items_long : here ≡ 0 → items_from here all (b ∷ bs) ≡ long ∷ []
  items_long h = rw (is_not b 10 no_end, h)

  pub items_much : 0 < here → all ≡ 0 → items_from here all (b ∷ bs) ≡ much ∷ []
  items_much h a = rw (is_not b 10 no_end, is_not here 0 (omega arith), a)

pub items_end : (here all : ℕ) (bs : List ℕ) → 0 < all → items_from here all (10 ∷ bs) ≡ line [] ∷ items_from MAX_LINE_BYTES (all - 1) bs
items_end here all bs a = rw (is_not all 0 (omega arith))

pub items_end_much : (here all : ℕ) (bs : List ℕ) → all ≡ 0 → items_from here all (10 ∷ bs) ≡ much ∷ []
items_end_much here all bs a = rw a

-- ---- the lines that come

-- a byte of a line
pub coming_byte : (l : List ℕ) (t b : ℕ) (rest : List ℕ) → b ≢ 10 → length l < MAX_LINE_BYTES → t < MAX_INPUT_BYTES → lines_after l t (b ∷ rest) ≡ lines_after (l ++ b ∷ []) (t + 1) rest
coming_byte l t b rest no_end room more =
    let step = items_byte (MAX_LINE_BYTES - length l) (MAX_INPUT_BYTES - t) b rest no_end (omega arith) (omega arith) in
    let here : MAX_LINE_BYTES - length l - 1 ≡ MAX_LINE_BYTES - length (l ++ b ∷ []) = omega (arith, length-append l (b ∷ [])) in
    let all : MAX_INPUT_BYTES - t - 1 ≡ MAX_INPUT_BYTES - (t + 1) = omega arith in
    ap (with_front l) step ∙ front_byte l b _
    ∙ ap (λ h. with_front (l ++ b ∷ []) (items_from h (MAX_INPUT_BYTES - t - 1) rest)) here
    ∙ ap (λ a. with_front (l ++ b ∷ []) (items_from (MAX_LINE_BYTES - length (l ++ b ∷ [])) a rest)) all

-- the end of a line
pub coming_end : (l : List ℕ) (t : ℕ) (rest : List ℕ) → t < MAX_INPUT_BYTES → lines_after l t (10 ∷ rest) ≡ line l ∷ lines_after [] (t + 1) rest
coming_end l t rest more =
    let all : MAX_INPUT_BYTES - t - 1 ≡ MAX_INPUT_BYTES - (t + 1) = omega arith in
    ap (with_front l) (items_end (MAX_LINE_BYTES - length l) (MAX_INPUT_BYTES - t) rest (omega arith)) ∙ front_line l _
    ∙ ap (λ a. line l ∷ items_from MAX_LINE_BYTES a rest) all

-- a byte for which the line has no room
pub coming_long : (l : List ℕ) (t b : ℕ) (rest : List ℕ) → b ≢ 10 → MAX_LINE_BYTES ≤ length l → lines_after l t (b ∷ rest) ≡ long ∷ []
coming_long l t b rest no_end full = ap (with_front l) (items_long (MAX_LINE_BYTES - length l) (MAX_INPUT_BYTES - t) b rest no_end (omega arith)) ∙ front_long l []

-- a byte for which the input has no room
pub coming_much : (l : List ℕ) (t b : ℕ) (rest : List ℕ) → b ≢ 10 → length l < MAX_LINE_BYTES → MAX_INPUT_BYTES ≤ t → lines_after l t (b ∷ rest) ≡ much ∷ []
coming_much l t b rest no_end room full = ap (with_front l) (items_much (MAX_LINE_BYTES - length l) (MAX_INPUT_BYTES - t) b rest no_end (omega arith) (omega arith)) ∙ front_much l []

-- an end for which the input has no room
pub coming_end_much : (l : List ℕ) (t : ℕ) (rest : List ℕ) → MAX_INPUT_BYTES ≤ t → lines_after l t (10 ∷ rest) ≡ much ∷ []
coming_end_much l t rest full = ap (with_front l) (items_end_much (MAX_LINE_BYTES - length l) (MAX_INPUT_BYTES - t) rest (omega arith)) ∙ front_much l []

-- ---- the bytes of a last line

pub last_item : (l : List ℕ) → 0 < length l → with_front l [] ≡ line l ∷ []
last_item [] h = absurd (omega arith)
last_item (x ∷ []) h = refl
last_item (x ∷ y ∷ l) h = ap (with_byte x) (last_item (y ∷ l) (omega arith))

pub no_item : (l : List ℕ) → length l ≡ 0 → with_front l [] ≡ []
no_item [] h = refl
no_item (x ∷ l) h = absurd (omega arith)

pub some_bytes : (l : List ℕ) (empty : Bool) → empty ≡ eqb (length l) 0 → empty ≡ false → 0 < length l
some_bytes l empty e f = grind (arith, nat_tests)

pub no_bytes : (l : List ℕ) (empty : Bool) → empty ≡ eqb (length l) 0 → empty ≡ true → length l ≡ 0
no_bytes l empty e t = grind (arith, nat_tests)
