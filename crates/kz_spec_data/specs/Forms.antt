-- Forms of which record values are made: fields one after another, lists, and tagged sections.
use Rattle.std.specs.Prelude.{◌≡◌, ℕ, zero, suc, ◌+◌, ◌-◌, ◌<◌, ◌≤◌, ◌^◌, ℤ, Bool, true, false, nat_lt, ◌==◌, List, [], ◌∷◌, ◌++◌, length, Option, Some, None, Result, Ok, Err, if◌then◌else◌}
use Rattle.std.specs.Option.{option_map}
use Rattle.kz_types.specs.declared.record.ByteFault.{ByteFault}
use Rattle.kz_types.specs.declared.record.ByteFault.TheVariants as bytes
use Rattle.kz_types.specs.declared.record.CodecFault.{CodecFault}
use Rattle.kz_types.specs.declared.record.CodecFault.TheVariants.{Short, BadField}
use Rattle.kz_spec_data.specs.Fields.{Reading, Format, format_through, ◌>>=◌, uvarint, front, items_with_count, nullable_bytes, text_or_fault, IsText, ints_of, int_bytes, AreInts}

-- ---- single fields

-- a fault of a field, as a fault of a record
abbrev pub field_fault : ByteFault → CodecFault
field_fault (bytes.Short at) = Short at
field_fault (bytes.Overlong at) = BadField at
field_fault (bytes.NotUtf8 at) = BadField at

abbrev pub with_field_fault : {A : Type 0} → Result A ByteFault → Result A CodecFault
with_field_fault (Ok x) = Ok x
with_field_fault (Err e) = Err (field_fault e)

-- a field of a record
abbrev pub field : {X : Type 0} → Format ByteFault X → Format CodecFault X
field f = record { spells = f.spells; read = λ r. with_field_fault (f.read r); written = f.written; fits = f.fits }

-- a value that is there, or a bad field at this place
abbrev pub there : {X : Type 0} → ℕ → Option X × Reading → Result (X × Reading) CodecFault
there at (None, r) = Err (BadField at)
there at (Some x, r) = Ok (x, r)

-- a field that can't be null
abbrev pub non_null : {X : Type 0} → Format ByteFault (Option X) → Format CodecFault X
non_null f = record {
  spells = λ x bytes. f.spells (Some x) bytes;
  read = λ r. with_field_fault (f.read r) >>= there r.at;
  written = λ x. f.written (Some x);
  fits = λ x. f.fits (Some x);
}

-- a byte 0 or 1
abbrev pub flag_byte : Bool → ℕ
flag_byte false = 0
flag_byte true = 1

abbrev pub flag_at : ℕ → List ℕ → Result (Bool × Reading) CodecFault
flag_at at [] = Err (Short at)
flag_at at (b ∷ rest) =
    if b == 0 then Ok (false, record { at = at + 1; left = rest })
    else (if b == 1 then Ok (true, record { at = at + 1; left = rest }) else Err (BadField at))

abbrev pub flag : Format CodecFault Bool
flag = record {
  spells = λ b bytes. bytes ≡ flag_byte b ∷ [];
  read = λ r. flag_at r.at r.left;
  written = λ b. flag_byte b ∷ [];
  fits = λ b. Unit {0};
}

-- a list of numbers of 32 bits, or null
abbrev pub AreIntsOrNull : Option (List ℤ) → Type 0
AreIntsOrNull None = Unit {0}
AreIntsOrNull (Some zs) = AreInts zs

abbrev pub nullable_ints : Format ByteFault (Option (List ℤ))
nullable_ints = record {
  spells = λ value bytes. AreIntsOrNull value × (items_with_count 4).spells (option_map int_bytes value) bytes;
  read = λ r. (items_with_count 4).read r >>= λ x. Ok (option_map ints_of x.0, x.1);
  written = λ value. (items_with_count 4).written (option_map int_bytes value);
  fits = λ value. AreIntsOrNull value × (items_with_count 4).fits (option_map int_bytes value);
}

-- ---- one after another

infixr 20 ◌⊗◌
abbrev pub ◌⊗◌ : {E X Y : Type 0} → Format E X → Format E Y → Format E (X × Y)
f ⊗ g = record {
  spells = λ pair bytes. (first : List ℕ) × (second : List ℕ) × (bytes ≡ first ++ second) × f.spells pair.0 first × g.spells pair.1 second;
  read = λ r. f.read r >>= λ x. g.read x.1 >>= λ y. Ok ((x.0, y.0), y.1);
  written = λ pair. f.written pair.0 ++ g.written pair.1;
  fits = λ pair. f.fits pair.0 × g.fits pair.1;
}

-- ---- lists

-- the bytes of each item, one after another
abbrev pub Each : {X : Type 0} → (X → List ℕ → Type 0) → List X → List ℕ → Type 0
Each spells [] bytes = bytes ≡ []
Each spells (x ∷ xs) bytes = (first : List ℕ) × (rest : List ℕ) × (bytes ≡ first ++ rest) × spells x first × Each spells xs rest

unfoldable pub items_at : {E X : Type 0} → (Reading → Result (X × Reading) E) → ℕ → Reading → Result (List X × Reading) E
items_at item zero r = Ok ([], r)
items_at item (suc n) r = item r >>= λ x. items_at item n x.1 >>= λ xs. Ok (x.0 ∷ xs.0, xs.1)

-- the items so many, or a bad field at this place for null
abbrev pub counted_items : {X : Type 0} → (Reading → Result (X × Reading) CodecFault) → ℕ → ℕ × Reading → Result (List X × Reading) CodecFault
counted_items item at count = if count.0 == 0 then Err (BadField at) else items_at item (count.0 - 1) count.1

abbrev pub items_written : {X : Type 0} → (X → List ℕ) → List X → List ℕ
items_written written [] = []
items_written written (x ∷ xs) = written x ++ items_written written xs

abbrev pub AllFit : {X : Type 0} → (X → Type 0) → List X → Type 0
AllFit fits [] = Unit {0}
AllFit fits (x ∷ xs) = fits x × AllFit fits xs

-- a count of items plus one, and the items
abbrev pub list_of : {X : Type 0} → Format CodecFault X → Format CodecFault (List X)
list_of f = record {
  spells = λ xs bytes. (head : List ℕ) × (body : List ℕ) × (bytes ≡ head ++ body) × uvarint.spells (length xs + 1) head × Each f.spells xs body;
  read = λ r. with_field_fault (uvarint.read r) >>= counted_items f.read r.at;
  written = λ xs. uvarint.written (length xs + 1) ++ items_written f.written xs;
  fits = λ xs. (length xs + 1 < 2 ^ 32) × AllFit f.fits xs;
}

-- ---- tagged sections

-- A tag: its number and the bytes of its field.
pub record Tag : Type 0 where
  pub number : ℕ
  pub bytes : List ℕ

-- These tags one after another, their numbers rising from this one on: number, length of the field, field.
abbrev pub AreTags : ℕ → List Tag → List ℕ → Type 0
AreTags least [] text = text ≡ []
AreTags least (t ∷ ts) text =
    (least ≤ t.number) × ((number : List ℕ) × (size : List ℕ) × (rest : List ℕ) × (text ≡ number ++ (size ++ (t.bytes ++ rest)))
    × uvarint.spells t.number number × uvarint.spells (length t.bytes) size × AreTags (t.number + 1) ts rest)

-- a count of tags, and the tags
abbrev pub IsSection : List Tag → List ℕ → Type 0
IsSection ts text = (head : List ℕ) × (body : List ℕ) × (text ≡ head ++ body) × uvarint.spells (length ts) head × AreTags 0 ts body

abbrev pub tags_written : List Tag → List ℕ
tags_written [] = []
tags_written (t ∷ ts) = uvarint.written t.number ++ (uvarint.written (length t.bytes) ++ (t.bytes ++ tags_written ts))

-- What the known tags of a section make of a value. Unknown tags are passed over.
pub record Known (S : Type 0) : Type 1 where
  -- the value where no tag is there
  pub default : S
  -- the tags of a section say this value
  pub says : List Tag → S → Type 0
  -- a tag that is read: its number, the place of that number, its field, and the value so far
  pub take : ℕ → ℕ → Reading → S → Result S CodecFault
  -- the tags that are written
  pub tags : S → List Tag
  pub fits : S → Type 0

abbrev pub nothing : Known (Unit {0})
nothing = record { default = tt; says = λ tags s. Unit {0}; take = λ number at r s. Ok s; tags = λ s. []; fits = λ s. Unit {0} }

-- the known tags of two parts
abbrev pub both : {S T : Type 0} → Known S → Known T → Known (S × T)
both a b = record {
  default = (a.default, b.default);
  says = λ tags s. a.says tags s.0 × b.says tags s.1;
  take = λ number at r s. a.take number at r s.0 >>= λ first. b.take number at r s.1 >>= λ second. Ok (first, second);
  tags = λ s. a.tags s.0 ++ b.tags s.1;
  fits = λ s. a.fits s.0 × b.fits s.1;
}

-- the field of the tag of this number
abbrev pub field_of : ℕ → List Tag → Option (List ℕ)
field_of number [] = None
field_of number (t ∷ ts) = if t.number == number then Some t.bytes else field_of number ts

-- What a known tag holds: how its bytes are taken, and how what was taken is judged, once it fills the field.
pub record Content (X : Type 0) : Type 1 where
  pub format : Format ByteFault X
  pub good : X → Type 0
  pub judge : ℕ → X → Result X ByteFault

abbrev pub plain : {X : Type 0} → Format ByteFault X → Content X
plain f = record { format = f; good = λ x. Unit {0}; judge = λ end x. Ok x }

abbrev pub text_content : Content (Option (List ℕ))
text_content = record { format = nullable_bytes; good = IsText; judge = text_or_fault }

-- a fault in a tag's field, whose number stands at this place
abbrev pub tag_fault : ℕ → ByteFault → CodecFault
tag_fault at (bytes.Short end) = BadField at
tag_fault at (bytes.Overlong place) = BadField place
tag_fault at (bytes.NotUtf8 place) = BadField place

abbrev pub with_tag_fault : {X : Type 0} → ℕ → Result X ByteFault → Result X CodecFault
with_tag_fault at (Ok x) = Ok x
with_tag_fault at (Err e) = Err (tag_fault at e)

-- the value of a tag's field, which has to fill the field
abbrev pub tag_value : {X : Type 0} → Content X → ℕ → Reading → Result X CodecFault
tag_value content at r = with_tag_fault at (content.format.read r) >>= λ x. if length x.1.left == 0 then with_field_fault (content.judge x.1.at x.0) else Err (BadField at)

abbrev pub Says : {X : Type 0} → Content X → X → X → Option (List ℕ) → Type 0
Says content default x None = x ≡ default
Says content default x (Some bytes) = content.good x × content.format.spells x bytes

-- A tag of this number, which is left out where the value is the default.
abbrev pub tag : {X : Type 0} → ℕ → X → (X → Bool) → Content X → Known X
tag number default is_default content = record {
  default = default;
  says = λ tags x. Says content default x (field_of number tags);
  take = λ other at r x. if other == number then tag_value content at r else Ok x;
  tags = λ x. if is_default x then [] else record { number = number; bytes = content.format.written x } ∷ [];
  fits = λ x. content.good x × content.format.fits x;
}

-- The next tag, whose number has to be at least this one: its number, and its field where it stands.
abbrev pub tag_at : ℕ → Reading → Result ((ℕ × Reading) × Reading) CodecFault
tag_at least r = with_field_fault (uvarint.read r) >>= λ number.
    if nat_lt number.0 least then Err (BadField r.at)
    else with_field_fault (uvarint.read number.1) >>= λ size. with_field_fault ((front size.0).read size.1) >>= λ content.
    Ok ((number.0, record { at = size.1.at; left = content.0 }), content.1)

-- so many tags, from this value on
unfoldable pub tags_at : {S : Type 0} → (ℕ → ℕ → Reading → S → Result S CodecFault) → ℕ → ℕ → S → Reading → Result (S × Reading) CodecFault
tags_at take zero least s r = Ok (s, r)
tags_at take (suc n) least s r = tag_at least r >>= λ t. take t.0.0 r.at t.0.1 s >>= λ next. tags_at take n (t.0.0 + 1) next t.1

abbrev pub section : {S : Type 0} → Known S → Format CodecFault S
section known = record {
  spells = λ s bytes. (tags : List Tag) × IsSection tags bytes × known.says tags s;
  read = λ r. with_field_fault (uvarint.read r) >>= λ count. tags_at known.take count.0 0 known.default count.1;
  written = λ s. uvarint.written (length (known.tags s)) ++ tags_written (known.tags s);
  fits = known.fits;
}

-- fields, and then a tagged section in which no tag is known
abbrev pub without_tags : {X : Type 0} → Format CodecFault X → Format CodecFault X
without_tags f = format_through (λ p. p.0) (λ x. (x, tt)) (f ⊗ section nothing)
