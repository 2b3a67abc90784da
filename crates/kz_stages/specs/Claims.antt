-- What becomes of a claim.
use Rattle.std.specs.Prelude.{ℤ, List, [], Some, Result, Ok, Err, if◌then◌else◌}
use Rattle.kz_types.specs.declared.tree.Op.{Op}
use Rattle.kz_types.specs.declared.driver.ClaimSeen.{ClaimSeen}
use Rattle.kz_types.specs.declared.driver.Stage.TheVariants as stage
use Rattle.kz_types.specs.declared.machine.DriverState.TheVariants as state
use Rattle.kz_types.specs.declared.machine.Reply.{Reply}
use Rattle.kz_types.specs.declared.machine.Reply.TheVariants as reply
use Rattle.kz_types.specs.declared.fault.TreeFault.{TreeFault}
use Rattle.kz_types.specs.declared.fault.TreeFault.TheVariants as fault
use Rattle.kz_spec_data.specs.Tree.{Tree}
use Rattle.kz_spec_machine.specs.Driver.{Driver, epoch_or_zero, views_migrated, claimed_number, claimed_version, begins_again, path_at}
use Rattle.kz_fence.specs.declared.claimer.Claimer.{Claimer}
use Rattle.kz_stages.specs.declared.become_controller.ClaimOutcome.{ClaimOutcome}
use Rattle.kz_stages.specs.declared.become_controller.ClaimOutcome.TheVariants.{Done, Refused, Stopped}

-- what a driver says of itself in a claim
abbrev pub claimer_of : Driver → ℤ → Claimer
claimer_of d now = record { id = d.id; epoch = epoch_or_zero d.epoch; now = now; migrated = views_migrated d }

-- what became of a claim with these operations
abbrev pub claim_outcome : ClaimSeen → List Op → Result Tree TreeFault → ClaimOutcome
claim_outcome seen ops (Ok t) = Done (claimed_number seen.epoch) (claimed_version seen.epoch)
claim_outcome seen ops (Err (fault.Refused index code)) = Refused
claim_outcome seen ops (Err (fault.Limit index number)) = Stopped (reply.Limit (path_at ops index))
claim_outcome seen ops (Err f) = Stopped (reply.TreeFailed f)

-- the driver after it
abbrev pub after_claim_outcome : ClaimOutcome → Driver → Driver × Reply
after_claim_outcome (Done number version) d = (record d { claim = Some version; stage = if views_migrated d then stage.ReadLogForResync else stage.ScanForMigration [] }, reply.Claimed number)
after_claim_outcome Refused d = (begins_again d, reply.Moved state.BecomeController)
after_claim_outcome (Stopped told) d = (d, told)
