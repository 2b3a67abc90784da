-- What the laws of lengths say of a format and of a value.
use Rattle.std.specs.Prelude.{ℕ, ◌<◌, ◌≤◌, ◌^◌, List, length}
use Rattle.kz_spec_data.specs.Fields.{Format}
use Rattle.kz_laws_values.specs.Texts.{AreBytes}

-- What is written for a value has at most as many bytes as any spelling of it.
pub record IsShortest {E X : Type 0} (f : Format E X) : Type 0 where
  pub least : (x : X) (bytes : List ℕ) → f.spells x bytes → length (f.written x) ≤ length bytes

-- bytes, fewer than 2^31
pub record IsShortValue (value : List ℕ) : Type 0 where
  pub bytes : AreBytes value
  pub size : length value < 2 ^ 31
