-- Metadata that answers for the bodies of its znodes.
use Rattle.std.specs.Prelude.{ℕ}
use Rattle.kz_spec_data.specs.Metadata.{Image}

-- The metadata, and how many bodies were asked for.
pub record Asked : Type 0 where
  pub image : Image
  pub count : ℕ
