-- What is true of the znodes of every tree.
pub use Rattle.kz_row_parts.specs.Kept.{AreRows}
use Rattle.std.specs.Prelude.{◌≡◌, ◌<◌, ◌^◌, ℕ, List, Bool, length, is_some, if◌then◌else◌}
use Rattle.std.specs.List.{count_by, filter}
use Rattle.kz_types.specs.Paths.{is_migrated}
use Rattle.kz_types.specs.declared.tree.Row.{Row}
use Rattle.kz_spec_data.specs.Tree.{put_row, without_row}
use Rattle.kz_row_parts.specs.Kept.{AreRows}

-- the znodes rise, a `usize` can count them, and this is the number of those in the migrated area
pub record AreCounted (rows : List Row) (migrated : ℕ) : Type 0 where
  pub rise : AreRows rows
  pub fits : length rows < 2 ^ 64
  pub inside : migrated ≡ count_by (λ (r : Row). is_migrated r.path) rows

-- whether a znode is ephemeral: it ends with the session that owns it
abbrev pub has_owner : Row → Bool
has_owner r = is_some r.owner

-- those of the znodes that are ephemeral
abbrev pub ephemeral_rows : List Row → List Row
ephemeral_rows rows = filter has_owner rows

-- The ephemeral znodes once this znode is put among all. One that isn't ephemeral may replace one that is.
abbrev pub ephemeral_with : Row → List Row → List Row
ephemeral_with r ephemeral = if has_owner r then put_row r ephemeral else without_row r.path ephemeral

-- the znodes are counted, and these are those that are ephemeral
pub record AreKept (rows : List Row) (migrated : ℕ) (ephemeral : List Row) : Type 0 where
  pub counted : AreCounted rows migrated
  pub with_owner : ephemeral ≡ ephemeral_rows rows
