-- What a driver rests on is read from few znodes.
use Rattle.std.proofs.Common.{◌≡◌, ℕ, List, option_map, sym, ap, ◌∙◌}
use Rattle.std.specs.Prelude.{option_and_then}
use Rattle.kz_types.specs.declared.tree.Row.{Row}
use Rattle.kz_spec_data.specs.Control.{epoch_path, migration_path, recorded_of}
use Rattle.kz_spec_data.specs.Tree.{Tree, row_at, migrated_rows, migration_record}
use Rattle.kz_spec_machine.specs.Sound.{shown_in}
use Rattle.kz_laws_machine.specs.Effects.{IsUnchanged}
use Rattle.kz_laws_machine.proofs.Rows.{still}
use Rattle.kz_laws_machine.proofs.Multi.{version_still}
use Rattle.kz_laws_machine.proofs.Beside.{recorded_still, unclosed_kept}

-- these znodes have the same at a path, but for the transaction of its children
abbrev pub Alike : List Row → List Row → List ℕ → Type 0
Alike old new p = option_map still (row_at p new) ≡ option_map still (row_at p old)

pub recorded_alike : (t new : Tree) → Alike t.rows new.rows migration_path → migration_record new ≡ migration_record t
recorded_alike t new alike = sym (recorded_still (row_at migration_path new.rows)) ∙ ap (option_and_then (λ (r : Row). recorded_of r.body)) alike ∙ recorded_still (row_at migration_path t.rows)

-- the znodes of the area, `/migration`, `/controller_epoch` and what `/controller` shows are all
pub unchanged_by : (t new : Tree) → migrated_rows new ≡ migrated_rows t → Alike t.rows new.rows migration_path → Alike t.rows new.rows epoch_path → shown_in new ≡ shown_in t → IsUnchanged t new
unchanged_by t new rows migration epoch shown = record {
  rows = rows;
  recorded = recorded_alike t new migration;
  unclosed = unclosed_kept t new migration rows;
  version = sym (version_still (row_at epoch_path new.rows)) ∙ ap (option_map (λ (r : Row). r.version)) epoch ∙ version_still (row_at epoch_path t.rows);
  shown = shown;
}
