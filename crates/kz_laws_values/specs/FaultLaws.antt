-- What the laws of faults say of a format.
use Rattle.std.specs.Int.{w8, w16, w32, w64}
use Rattle.std.specs.Prelude.{◌≡◌, ℕ, ◌+◌, List, [], ◌∷◌, ◌++◌, length, Err}
use Rattle.kz_types.specs.declared.record.ByteFault.{ByteFault}
use Rattle.kz_types.specs.declared.record.ByteFault.TheVariants.{Short, Overlong, NotUtf8}
use Rattle.kz_spec_data.specs.Fields.{Reading, Format, end_of, front, unsigned_number, signed_number, id, uvarint, varint, varlong, items_with_count, nullable_bytes, nullable_text}
use Rattle.kz_laws_values.specs.Texts.{AreBytes}

-- Some spelling begins with these bytes.
abbrev pub GoesOn : {E X : Type 0} → Format E X → List ℕ → Type 0
GoesOn {X = X} f bytes = (x : X) × (more : List ℕ) × f.spells x (bytes ++ more)

-- At this place stands the first byte at which no spelling goes on: some spelling begins with the bytes before it, and
-- none with these and it.
pub record IsFirstBad {E X : Type 0} (f : Format E X) (r : Reading) (place : ℕ) : Type 0 where
  pub before : List ℕ
  pub byte : ℕ
  pub after : List ℕ
  pub left : r.left ≡ before ++ (byte ∷ after)
  pub at : place ≡ r.at + length before
  pub some : GoesOn f before
  pub none : GoesOn f (before ++ (byte ∷ [])) → ⊥

-- What a fault says of the bytes that a reader has left: they end too soon, or one of them is bad.
abbrev pub IsFirstFault : {E X : Type 0} → Format E X → Reading → ByteFault → Type 0
IsFirstFault f r (Short place) = (place ≡ end_of r) × GoesOn f r.left
IsFirstFault f r (Overlong place) = IsFirstBad f r place
IsFirstFault f r (NotUtf8 place) = IsFirstBad f r place

-- Each fault that reading bytes answers stands at the first byte at which no spelling goes on.
abbrev pub FaultsAreFirst : {X : Type 0} → Format ByteFault X → Type 0
FaultsAreFirst f = (r : Reading) (fault : ByteFault) → AreBytes r.left → f.read r ≡ Err fault → IsFirstFault f r fault

-- The same of a text, which is judged once its bytes are taken: where these are cut, they go on as bytes.
abbrev pub IsFirstTextFault : Reading → ByteFault → Type 0
IsFirstTextFault r (Short place) = (place ≡ end_of r) × GoesOn nullable_bytes r.left
IsFirstTextFault r (Overlong place) = IsFirstBad nullable_text r place
IsFirstTextFault r (NotUtf8 place) = IsFirstBad nullable_text r place

-- Each fault of each field stands at the first byte at which no spelling goes on. A text is judged once its bytes are taken.
pub record FaultsOfFields : Type 0 where
  pub part : (n : ℕ) → FaultsAreFirst (front n)
  pub i8 : FaultsAreFirst (signed_number w8)
  pub i16 : FaultsAreFirst (signed_number w16)
  pub u16 : FaultsAreFirst (unsigned_number w16)
  pub i32 : FaultsAreFirst (signed_number w32)
  pub i64 : FaultsAreFirst (signed_number w64)
  pub id : FaultsAreFirst id
  pub uvarint : FaultsAreFirst uvarint
  pub varint : FaultsAreFirst varint
  pub varlong : FaultsAreFirst varlong
  pub counted : (size : ℕ) → FaultsAreFirst (items_with_count size)
  pub nullable_text : (r : Reading) (fault : ByteFault) → AreBytes r.left → nullable_text.read r ≡ Err fault → IsFirstTextFault r fault
