-- What a turn starts from, and the bound on its steps that this gives.
use Rattle.std.specs.Prelude.{ℕ, ℤ, Bool, true, false, List, Result, Ok, Err, if◌then◌else◌}
use Rattle.kz_types.specs.declared.record.MetaRecord.{MetaRecord}
use Rattle.kz_types.specs.declared.tree.Rendered.{Rendered}
use Rattle.kz_spec_data.specs.Tree.{Tree, area, migrated_rows}
use Rattle.kz_spec_data.specs.Image.{Image, all_applied, empty_image, is_migrated_state}
use Rattle.kz_spec_data.specs.Rendering.{render}
use Rattle.kz_spec_data.specs.Translation.{Unreadable, translate}
use Rattle.kz_spec_machine.specs.Driver.{Shared, Driver, epoch_or_zero}
use Rattle.kz_spec_machine.specs.Machine.{Amount, amount_of_znodes, most_steps, remaining_amount, translated_count}

-- The tree, the driver's epoch, 0 where it has none, and what may remain to be written, before the first step of a turn.
pub record TurnStart : Type 0 where
  pub tree : Tree
  pub epoch : ℤ
  pub remaining : Amount

-- what a turn of a driver starts from
abbrev pub start_of : Shared → Driver → TurnStart
start_of s d = record { tree = s.tree; epoch = epoch_or_zero d.epoch; remaining = remaining_amount s.log d.stage }

-- the znodes that the turn ends with, where these are the metadata at the log's end
abbrev pub final_znodes_of : Bool → Image → ℤ → Result (List MetaRecord) Unreadable → List Rendered
final_znodes_of true i epoch translation = render i
final_znodes_of false i epoch (Ok records) = render (all_applied epoch records empty_image)
final_znodes_of false i epoch (Err e) = render i

-- the most steps of a turn that starts from this, where these are the metadata at the log's end
abbrev pub most_from : TurnStart → Image → ℕ
most_from start i = most_steps
    (amount_of_znodes (area start.tree))
    (if is_migrated_state i.state then 0 else translated_count (translate (migrated_rows start.tree)))
    (amount_of_znodes (final_znodes_of (is_migrated_state i.state) i start.epoch (translate (migrated_rows start.tree))))
    start.remaining
