-- Fields of records and batches: which bytes spell a value, what a reader makes of bytes, and what is written.
--
-- A fault names the first byte at which no spelling goes on. A text is judged once its bytes are taken.
use Rattle.std.specs.Prelude.{◌≡◌, ℕ, zero, suc, ◌+◌, ◌-◌, ◌*◌, ◌/◌, ◌%◌, ◌^◌, ◌<◌, ◌≤◌, ℤ, pos, negsuc, Bool, false, nat_lt, nat_le, ◌==◌, ◌&&◌, List, [], ◌∷◌, ◌++◌, length, take, drop, slice_index, Option, Some, None, Result, Ok, Err, if◌then◌else◌}
use Rattle.std.specs.Int.{Width, w32, byte_len, from_be_bytes, to_be_bytes, cast_signed, cast_unsigned}
use Rattle.std.specs.Int.RustNames.{FitsSigned}
use Rattle.std.specs.Option.{unwrap_or}
use Rattle.std.specs.Str.{IsUtf8, is_utf8}
use Rattle.std.specs.Str.Lossy.{utf8_valid_len, utf8_error_len}
use mir.Val.{bits}
use Rattle.kz_types.specs.declared.id.Id.{Id}
use Rattle.kz_types.specs.declared.record.ByteFault.{ByteFault}
use Rattle.kz_types.specs.declared.record.ByteFault.TheVariants.{Short, Overlong, NotUtf8}

-- How far a reader has come: the number of bytes that it has passed, and those that are left.
pub record Reading : Type 0 where
  pub at : ℕ
  pub left : List ℕ

-- a reader in front of bytes
abbrev pub start : List ℕ → Reading
start bytes = record { at = 0; left = bytes }

-- where the bytes end
abbrev pub end_of : Reading → ℕ
end_of r = r.at + length r.left

-- the reader after the next n bytes
abbrev pub past : ℕ → Reading → Reading
past n r = record { at = r.at + n; left = drop n r.left }

-- A value and the reader after it, or a fault. What follows a value is read from there.
infixl 10 ◌>>=◌
abbrev pub ◌>>=◌ : {A B E : Type 0} → Result A E → (A → Result B E) → Result B E
(Ok x) >>= f = f x
(Err e) >>= f = Err e

-- How values of X are written as bytes.
pub record Format (E X : Type 0) : Type 1 where
  -- which bytes spell a value
  pub spells : X → List ℕ → Type 0
  -- the value that stands next and the reader after it, or the first fault
  pub read : Reading → Result (X × Reading) E
  -- the bytes that are written
  pub written : X → List ℕ
  -- which values can be written
  pub fits : X → Type 0

-- A value that another one stands for.
abbrev pub format_through : {E X Y : Type 0} → (X → Y) → (Y → X) → Format E X → Format E Y
format_through made back f = record {
  spells = λ y bytes. f.spells (back y) bytes;
  read = λ r. f.read r >>= λ x. Ok (made x.0, x.1);
  written = λ y. f.written (back y);
  fits = λ y. f.fits (back y);
}

-- ---- bytes and numbers of fixed size

-- so many bytes
abbrev pub front : ℕ → Format ByteFault (List ℕ)
front n = record {
  spells = λ x bytes. (length x ≡ n) × (bytes ≡ x);
  read = λ r. if nat_lt (length r.left) n then Err (Short (end_of r)) else Ok (take n r.left, past n r);
  written = λ x. x;
  fits = λ x. length x ≡ n;
}

-- a number of this width, the highest byte first
abbrev pub unsigned_number : Width → Format ByteFault ℕ
unsigned_number w = record {
  spells = λ n bytes. (n < 2 ^ bits w) × (bytes ≡ to_be_bytes w n);
  read = λ r. (front (byte_len w)).read r >>= λ x. Ok (from_be_bytes w x.0, x.1);
  written = to_be_bytes w;
  fits = λ n. n < 2 ^ bits w;
}

-- the same in two's complement
abbrev pub signed_number : Width → Format ByteFault ℤ
signed_number w = record {
  spells = λ z bytes. FitsSigned w z × (bytes ≡ to_be_bytes w (cast_unsigned w z));
  read = λ r. (unsigned_number w).read r >>= λ x. Ok (cast_signed w x.0, x.1);
  written = λ z. to_be_bytes w (cast_unsigned w z);
  fits = FitsSigned w;
}

-- the 16 bytes of an id
abbrev pub id : Format ByteFault Id
id = format_through (λ x. record { bytes = x }) (λ i. i.bytes) (front 16)

-- ---- numbers of variable size

-- Groups of seven bits, the lowest first. The last byte is below 128; each byte before it has 128 added.
abbrev pub IsGroups : ℕ → List ℕ → Type 0
IsGroups n [] = ⊥
IsGroups n (b ∷ []) = (b < 128) × (n ≡ b)
IsGroups n (b ∷ c ∷ rest) = (128 ≤ b) × (b < 256) × ((high : ℕ) × (n + 128 ≡ b + 128 * high) × IsGroups high (c ∷ rest))

-- Read from the front, at most `more` bytes from 128 on and then one below `last`.
unfoldable pub groups_at : ℕ → ℕ → ℕ → List ℕ → Result (ℕ × Reading) ByteFault
groups_at more last at [] = Err (Short at)
groups_at zero last at (b ∷ rest) = if nat_lt b last then Ok (b, record { at = at + 1; left = rest }) else Err (Overlong at)
groups_at (suc more) last at (b ∷ rest) =
    if nat_lt b 128 then Ok (b, record { at = at + 1; left = rest })
    else groups_at more last (at + 1) rest >>= λ high. Ok (b + 128 * high.0 - 128, high.1)

-- the fewest groups of a number, at most `more` of them before the last
unfoldable pub groups_of : ℕ → ℕ → List ℕ
groups_of zero n = n ∷ []
groups_of (suc more) n = if nat_lt n 128 then n ∷ [] else (128 + n % 128) ∷ groups_of more (n / 128)

-- An unsigned number of at most 32 bits, in at most five groups. A number from 2 ^ 32 on is no value of a field; what
-- is written for it counts only as a length.
abbrev pub uvarint : Format ByteFault ℕ
uvarint = record {
  spells = λ n bytes. IsGroups n bytes × (length bytes ≤ 5) × (n < 2 ^ 32);
  read = λ r. groups_at 4 16 r.at r.left;
  written = groups_of 9;
  fits = λ n. n < 2 ^ 32;
}

-- the same of at most 64 bits, in at most ten groups
abbrev pub uvarlong : Format ByteFault ℕ
uvarlong = record {
  spells = λ n bytes. IsGroups n bytes × (length bytes ≤ 10) × (n < 2 ^ 64);
  read = λ r. groups_at 9 2 r.at r.left;
  written = groups_of 9;
  fits = λ n. n < 2 ^ 64;
}

-- a signed number as an unsigned one: 0, -1, 1, -2, 2 and so on
abbrev pub zigzag : ℤ → ℕ
zigzag (pos n) = 2 * n
zigzag (negsuc n) = 2 * n + 1

abbrev pub unzigzag : ℕ → ℤ
unzigzag n = if n % 2 == 0 then pos (n / 2) else negsuc (n / 2)

-- a signed number of 32 bits
abbrev pub varint : Format ByteFault ℤ
varint = format_through unzigzag zigzag uvarint

-- a signed number of 64 bits
abbrev pub varlong : Format ByteFault ℤ
varlong = format_through unzigzag zigzag uvarlong

-- ---- lengths and what they count

-- A count of items plus one, and the items, which have so many bytes each; or a 0 for none at all.
abbrev pub items_with_count : ℕ → Format ByteFault (Option (List ℕ))
items_with_count size = record {
  spells = λ value bytes. elim value [
    | None ↦ uvarint.spells 0 bytes
    | Some items ↦ (count : ℕ) × (head : List ℕ) × (length items ≡ size * count) × uvarint.spells (count + 1) head × (bytes ≡ head ++ items)
  ];
  read = λ r. uvarint.read r >>= λ count. if count.0 == 0 then Ok (None, count.1) else (front (size * (count.0 - 1))).read count.1 >>= λ items. Ok (Some items.0, items.1);
  written = λ value. elim value [ None ↦ 0 ∷ [] | Some items ↦ uvarint.written (length items / size + 1) ++ items ];
  fits = λ value. elim value [ None ↦ Unit {0} | Some items ↦ (length items ≡ size * (length items / size)) × (length items / size + 1 < 2 ^ 32) ];
}

abbrev pub nullable_bytes : Format ByteFault (Option (List ℕ))
nullable_bytes = items_with_count 1

-- how many bytes a character has that begins with this byte; 0 where none does
abbrev pub char_size : ℕ → ℕ
char_size b = if nat_lt b 128 then 1 else (if nat_lt b 194 then 0 else (if nat_lt b 224 then 2 else (if nat_lt b 240 then 3 else (if nat_lt b 245 then 4 else 0))))

-- Of bytes that begin with no character: how many of them a text of this length may begin with.
abbrev pub text_beginning_length : List ℕ → ℕ
text_beginning_length bytes = if nat_le 1 (char_size (slice_index bytes 0)) && nat_le (char_size (slice_index bytes 0)) (length bytes) then unwrap_or (utf8_error_len bytes) 0 else 0

-- the place of the first byte at which no text of this length goes on
abbrev pub text_fault : List ℕ → ℕ
text_fault bytes = utf8_valid_len bytes + text_beginning_length (drop (utf8_valid_len bytes) bytes)

-- A text that was taken, whose bytes end at this place.
abbrev pub text_or_fault : ℕ → Option (List ℕ) → Result (Option (List ℕ)) ByteFault
text_or_fault end None = Ok None
text_or_fault end (Some text) = if is_utf8 text then Ok (Some text) else Err (NotUtf8 (end - length text + text_fault text))

abbrev pub IsText : Option (List ℕ) → Type 0
IsText None = Unit {0}
IsText (Some text) = IsUtf8 text

-- a text in UTF-8, or none
abbrev pub nullable_text : Format ByteFault (Option (List ℕ))
nullable_text = record {
  spells = λ value bytes. IsText value × nullable_bytes.spells value bytes;
  read = λ r. nullable_bytes.read r >>= λ x. text_or_fault x.1.at x.0 >>= λ text. Ok (text, x.1);
  written = nullable_bytes.written;
  fits = λ value. IsText value × nullable_bytes.fits value;
}

-- Numbers of 32 bits, four bytes each.
abbrev pub ints_of : List ℕ → List ℤ
ints_of (a ∷ b ∷ c ∷ d ∷ rest) = cast_signed w32 (from_be_bytes w32 (a ∷ b ∷ c ∷ d ∷ [])) ∷ ints_of rest
ints_of bytes = []

abbrev pub int_bytes : List ℤ → List ℕ
int_bytes [] = []
int_bytes (z ∷ zs) = to_be_bytes w32 (cast_unsigned w32 z) ++ int_bytes zs

abbrev pub AreInts : List ℤ → Type 0
AreInts [] = Unit {0}
AreInts (z ∷ zs) = FitsSigned w32 z × AreInts zs

-- whether a null stands next
abbrev pub begins_null : Result (ℕ × Reading) ByteFault → Bool
begins_null (Ok x) = x.0 == 0
begins_null (Err e) = false

abbrev pub is_null : Reading → Bool
is_null r = begins_null (uvarint.read r)

-- ---- what calls of a reader and of a writer answer

-- A call of a reader answers what stands next, seen by `view`, and stands after it, or answers the first fault and
-- stands where it stood.
abbrev pub Reads : {X Y : Type 0} → (X → Y) → Reading → Result X ByteFault → Reading → Result (Y × Reading) ByteFault → Type 0
Reads view old (Ok x) new next = next ≡ Ok (view x, new)
Reads view old (Err e) new next = (next ≡ Err e) × (new ≡ old)

-- A call of a writer appends these bytes, or leaves what was there.
abbrev pub Writes : {E : Type 0} → List ℕ → Result (Unit {0}) E → List ℕ → List ℕ → Type 0
Writes old (Ok done) new bytes = new ≡ old ++ bytes
Writes old (Err e) new bytes = new ≡ old
