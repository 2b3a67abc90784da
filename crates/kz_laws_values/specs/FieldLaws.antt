-- What the laws of fields say of a format.
use Rattle.std.specs.Int.{w8, w16, w32, w64}
use Rattle.std.specs.Prelude.{◌≡◌, ℕ, ◌+◌, List, [], ◌++◌, length, Ok}
use Rattle.kz_spec_data.specs.Fields.{Reading, Format, front, unsigned_number, signed_number, id, uvarint, varint, varlong, items_with_count, nullable_bytes, nullable_text}
use Rattle.kz_spec_data.specs.Forms.{non_null, flag, nullable_ints}
use Rattle.kz_laws_values.specs.Texts.{AreBytes}

-- These bytes, in front of whatever follows, are read as this value, and the reader stands after them.
abbrev pub AreReadAs : {E X : Type 0} → Format E X → List ℕ → X → Type 0
AreReadAs f bytes x = (rest : List ℕ) (at : ℕ) → f.read (record { at = at; left = bytes ++ rest }) ≡ Ok (x, record { at = at + length bytes; left = rest })

-- The bytes between these two readers spell the value.
pub record AreBetween {E X : Type 0} (f : Format E X) (x : X) (old new : Reading) : Type 0 where
  pub bytes : List ℕ
  pub left : old.left ≡ bytes ++ new.left
  pub at : new.at ≡ old.at + length bytes
  pub spelled : f.spells x bytes

-- What is read is what is spelled.
pub record ReadsSpellings {E X : Type 0} (f : Format E X) : Type 0 where
  -- bytes that spell a value are read as it
  pub accepted : (x : X) (bytes : List ℕ) → f.spells x bytes → AreReadAs f bytes x
  -- what is read of bytes is spelled by the bytes that were passed
  pub spelled : (x : X) (old new : Reading) → AreBytes old.left → f.read old ≡ Ok (x, new) → AreBetween f x old new
  -- bytes spell at most one value, and no spelling is a proper prefix of another
  pub alone : (x y : X) (bytes more : List ℕ) → f.spells x bytes → f.spells y (bytes ++ more) → (x ≡ y) × (more ≡ [])

-- What is written for a value that fits is read as it.
abbrev pub ReadsWritten : {E X : Type 0} → Format E X → Type 0
ReadsWritten {X = X} f = (x : X) → f.fits x → AreReadAs f (f.written x) x

-- This holds of each field of records and batches.
pub record HoldsOfFields (Holds : (E X : Type 0) → Format E X → Type 0) : Type 0 where
  pub part : (n : ℕ) → Holds _ _ (front n)
  pub i8 : Holds _ _ (signed_number w8)
  pub i16 : Holds _ _ (signed_number w16)
  pub u16 : Holds _ _ (unsigned_number w16)
  pub i32 : Holds _ _ (signed_number w32)
  pub i64 : Holds _ _ (signed_number w64)
  pub id : Holds _ _ id
  pub flag : Holds _ _ flag
  pub uvarint : Holds _ _ uvarint
  pub varint : Holds _ _ varint
  pub varlong : Holds _ _ varlong
  pub counted : (size : ℕ) → Holds _ _ (items_with_count size)
  pub byte_field : Holds _ _ (non_null nullable_bytes)
  pub nullable_bytes : Holds _ _ nullable_bytes
  pub text : Holds _ _ (non_null nullable_text)
  pub nullable_text : Holds _ _ nullable_text
  pub ints : Holds _ _ (non_null nullable_ints)
  pub nullable_ints : Holds _ _ nullable_ints
