-- Amounts of znodes and operations, and what may remain to be written by what a driver tells of its state.
use Rattle.std.specs.Prelude.{◌≤◌, ◌<◌, ◌*◌, ◌^◌, ℕ, ℤ, List, [], map, Option, Some, if◌then◌else◌}
use Rattle.std.specs.List.{filter}
use Rattle.kz_types.specs.declared.limits.TheConstants.{MAX_CHUNK_BYTES}
use Rattle.kz_types.specs.Paths.{is_migrated}
use Rattle.kz_types.specs.declared.tree.Op.{Op}
use Rattle.kz_types.specs.declared.tree.Rendered.{Rendered}
use Rattle.kz_types.specs.declared.tree.Row.{Row}
use Rattle.kz_types.specs.declared.machine.DriverState.{DriverState}
use Rattle.kz_types.specs.declared.machine.DriverState.TheVariants as state
use Rattle.kz_spec_data.specs.Tree.{rendered_row}
use Rattle.kz_spec_data.specs.Log.{Log, image_at, batch_ends}
use Rattle.kz_spec_data.specs.Rendering.{render}
use Rattle.kz_spec_machine.specs.Driver.{is_one_of}
use Rattle.kz_spec_machine.specs.Machine.{Amount, no_amount, amount_of_znodes, amount_of_ops}

-- the paths and bodies of those of these znodes that are in the migrated area
abbrev pub area_of_rows : List Row → List Rendered
area_of_rows rows = map rendered_row (filter (λ (r : Row). is_migrated r.path) rows)

-- the znodes that the metadata at an offset is rendered as, where the offset is a batch end
abbrev pub amount_at_offset : Log → ℤ → Amount
amount_at_offset l offset = if is_one_of (batch_ends l) offset then amount_of_znodes (render (image_at l offset)) else no_amount

-- What may remain to be written: before the operations of a resync are known, the znodes of its target, and after that the
-- operations that the driver holds.
abbrev pub remaining_by : Log → DriverState → Option ℤ → List Op → Amount
remaining_by l state.SyncKraftToZk (Some offset) [] = amount_at_offset l offset
remaining_by l s target ops = amount_of_ops ops

-- The bytes of so many znodes or operations are whole units of MAX_CHUNK_BYTES, and fewer bytes than one beyond them. Each
-- has fewer than 2^46 units, so the units of a list fit their number.
pub record AreUnits (count units rest : ℕ) : Type 0 where
  pub bound : units ≤ count * 2 ^ 46
  pub beyond : rest < MAX_CHUNK_BYTES
