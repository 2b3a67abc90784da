-- What the metadata refuses of a change and of a finalisation.
use Rattle.std.specs.Prelude.{nat_le, not, ℤ, List, length, Option}
use Rattle.kz_types.specs.declared.limits.TheConstants.{MAX_CHANGE_RECORDS}
use Rattle.kz_types.specs.declared.limits.Limit.TheVariants as limits
use Rattle.kz_types.specs.Limits.{number_of_limit}
use Rattle.kz_types.specs.declared.machine.Answer.{Answer}
use Rattle.kz_types.specs.declared.machine.Answer.TheVariants as answer
use Rattle.kz_types.specs.declared.record.MetaRecord.{MetaRecord}
use Rattle.kz_spec_data.specs.Image.{Image, all_applied, first_bad, is_migrated_state}
use Rattle.kz_spec_data.specs.Rendering.{excess}
use Rattle.kz_spec_data.specs.Log.{end_of, is_migrated_log}
use Rattle.kz_spec_machine.specs.Machine.{World, driver_of, first_of, unless, over, over_excess, bad_record, is_finalised_log, dual_write_refusal, rest_refusal}

-- why a leader's change of a log of this epoch, with this metadata, is refused, before the log's room is asked for
abbrev pub records_refusal : ℤ → Image → List MetaRecord → Option Answer
records_refusal epoch image records = first_of (unless (is_migrated_state image.state) answer.NotMigrated) (
    first_of (unless (nat_le (length records) MAX_CHANGE_RECORDS) (over (number_of_limit limits.ChangeRecords))) (
    first_of (bad_record (first_bad 0 records image)) (
    over_excess (excess (all_applied epoch records image)))))

-- why a leader may not finalise the migration, before the log's room is asked for
abbrev pub end_refusal : World → ℤ → Option Answer
end_refusal w id = first_of (unless (is_migrated_log w.shared.log) answer.NotMigrated) (
    first_of (unless (not (is_finalised_log w.shared.log)) answer.Finalised) (
    first_of (dual_write_refusal (driver_of id w.drivers)) (
    rest_refusal w.shared.tree (end_of w.shared.log))))
