-- The bound of what a turn starts from is the machine's.
use Rattle.std.proofs.Common.{◌≡◌, ℤ, Bool, true, false, List, Result, Ok, Err, if◌then◌else◌, refl, ap}
use Rattle.kz_types.specs.declared.record.MetaRecord.{MetaRecord}
use Rattle.kz_types.specs.declared.tree.Rendered.{Rendered}
use Rattle.kz_spec_data.specs.Tree.{area, migrated_rows}
use Rattle.kz_spec_data.specs.Log.{Log, image_of, is_migrated_log}
use Rattle.kz_spec_data.specs.Translation.{Unreadable, translate}
use Rattle.kz_spec_machine.specs.Driver.{Shared, Driver, epoch_or_zero}
use Rattle.kz_spec_machine.specs.Machine.{amount_of_znodes, final_znodes, most_steps, remaining_amount, translated_count, work}
use Rattle.kz_world_parts.specs.Starts.{final_znodes_of, most_from, start_of}

same_znodes : (migrated : Bool) (l : Log) (epoch : ℤ) (translation : Result (List MetaRecord) Unreadable) → final_znodes_of migrated (image_of l) epoch translation ≡ final_znodes migrated l epoch translation
same_znodes true l epoch translation = refl
same_znodes false l epoch (Ok records) = refl
same_znodes false l epoch (Err e) = refl

pub most_is_work : (s : Shared) (d : Driver) → most_from (start_of s d) (image_of s.log) ≡ work s d
most_is_work s d =
    let translation = translate (migrated_rows s.tree) in
    ap (λ (znodes : List Rendered). most_steps (amount_of_znodes (area s.tree)) (if is_migrated_log s.log then 0 else translated_count translation) (amount_of_znodes znodes) (remaining_amount s.log d.stage))
    (same_znodes (is_migrated_log s.log) s.log (epoch_or_zero d.epoch) translation)
