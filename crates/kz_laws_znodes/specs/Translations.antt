-- The znodes that a translation is given, and what becomes of its records.
use Rattle.std.specs.Prelude.{◌≡◌, true, ℤ, List, None, Ok, All}
use Rattle.kz_types.specs.declared.tree.Row.{Row}
use Rattle.kz_types.specs.declared.record.MetaRecord.{MetaRecord}
use Rattle.kz_types.specs.declared.record.RegisterBrokerRecord.{RegisterBrokerRecord}
use Rattle.kz_types.specs.Paths.{is_path}
use Rattle.kz_types.specs.Order.{bytes_cmp}
use Rattle.kz_types.specs.Ordered.{Rises}
use Rattle.kz_spec_data.specs.Tree.{path_of_row}
use Rattle.kz_spec_data.specs.Image.{Image, empty_image, first_bad}
use Rattle.kz_spec_data.specs.ImageRules.{is_epoch}
use Rattle.kz_spec_data.specs.Translation.{translate}

-- Znodes as a tree has them: their paths rise, each path keeps the rule of paths, and each data version is 0 to 2147483647.
pub record AreZnodes (rows : List Row) : Type 0 where
  pub rising : Rises bytes_cmp path_of_row rows
  pub paths : All (λ (r : Row). is_path r.path ≡ true) rows
  pub versions : All (λ (r : Row). is_epoch r.version ≡ true) rows

-- metadata that holds nothing but these brokers and this state of the migration
abbrev pub bare_image : List RegisterBrokerRecord → ℤ → Image
bare_image brokers state = record empty_image { brokers = brokers; state = state }

-- Where the metadata holds nothing but brokers and a state of the migration, each record of a translation is accepted, one
-- after another.
abbrev pub TranslatedIsAccepted : Type 0
TranslatedIsAccepted = (rows : List Row) (records : List MetaRecord) → AreZnodes rows → translate rows ≡ Ok records
    → (brokers : List RegisterBrokerRecord) (state : ℤ) → first_bad 0 records (bare_image brokers state) ≡ None
