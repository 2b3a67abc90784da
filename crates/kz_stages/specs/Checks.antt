-- What a driver checks before its claim.
use Rattle.std.specs.Prelude.{ℤ, ⊤, Option, Some, None, codes}
use Rattle.kz_types.specs.declared.driver.ClaimSeen.{ClaimSeen}
use Rattle.kz_types.specs.declared.driver.Stage.{Stage}
use Rattle.kz_types.specs.declared.driver.Stage.TheVariants as stage
use Rattle.kz_types.specs.declared.machine.Reply.{Reply}
use Rattle.kz_types.specs.declared.machine.Reply.TheVariants as reply
use Rattle.kz_types.specs.declared.fault.BodyFault.TheVariants.{BadField}
use Rattle.kz_types.specs.declared.fault.ReadWhy.TheVariants as why
use Rattle.kz_spec_data.specs.Control.{epoch_path}
use Rattle.kz_spec_data.specs.Image.{is_migrated_state}
use Rattle.kz_spec_data.specs.Log.{View}
use Rattle.kz_spec_machine.specs.Driver.{Driver, epoch_or_zero, at_stage, resigned_driver}
use Rattle.kz_fence.specs.declared.checks.ClaimFault.{ClaimFault}
use Rattle.kz_fence.specs.declared.checks.ClaimFault.TheVariants.{HigherEpoch, BadEpochBody, Limit, NoMemory}
use Rattle.kz_fence.specs.Checks.{CanClaim}

-- what is told of a body of `/controller_epoch` that is no number
abbrev pub bad_epoch_reply : Reply
bad_epoch_reply = reply.Untranslatable epoch_path (why.Body (BadField (codes "controller_epoch")))

-- The driver after its look, by what stands against its claim: `after_look` is this of `claim_fault`.
abbrev pub after_check : Option ClaimFault → ClaimSeen → Driver → Driver × Reply
after_check None seen d = (at_stage (stage.ClaimLeadership seen) d, reply.Looked)
after_check (Some (HigherEpoch epoch)) seen d = (resigned_driver d, reply.FencedEpoch epoch)
after_check (Some BadEpochBody) seen d = (d, bad_epoch_reply)
after_check (Some (Limit path)) seen d = (d, reply.Limit path)
after_check (Some NoMemory) seen d = (d, reply.NoMemory)

-- where a driver with this epoch and this view is before its claim, nothing stands against it
abbrev pub StageCanClaim : Option ℤ → View → Stage → Type 0
StageCanClaim epoch view (stage.ClaimLeadership seen) = CanClaim seen (epoch_or_zero epoch) (is_migrated_state view.image.state)
StageCanClaim epoch view other = ⊤
