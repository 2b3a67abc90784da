-- The multi of a claim, by what its controller says of itself.
use Rattle.std.specs.Prelude.{negsuc, List, ◌∷◌, ◌++◌}
use Rattle.kz_types.specs.declared.tree.Op.{Op}
use Rattle.kz_types.specs.declared.driver.ClaimSeen.{ClaimSeen}
use Rattle.kz_types.specs.declared.machine.Recorded.{Recorded}
use Rattle.kz_types.specs.Paths.{base_paths}
use Rattle.kz_spec_data.specs.Control.{written_control, written_recorded}
use Rattle.kz_spec_machine.specs.Driver.{epoch_op, control_ops, migration_ops, base_ops}
use Rattle.kz_fence.specs.declared.claimer.Claimer.{Claimer}

-- what a controller records before the first offset
abbrev pub unrecorded_by : Claimer → Recorded
unrecorded_by own = record { id = own.id; controller_epoch = own.epoch; offset = negsuc 0; epoch = negsuc 0 }

-- `claim_ops` of a driver is this, of what the driver says of itself.
abbrev pub claim_ops_by : ClaimSeen → Claimer → List Op
claim_ops_by seen own =
    epoch_op seen.epoch
    ∷ (control_ops seen.control (written_control own.id own.epoch own.now)
    ++ (migration_ops own.migrated seen.migration (written_recorded (unrecorded_by own))
    ++ base_ops seen.bases base_paths))
