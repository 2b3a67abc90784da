-- What becomes of a write.
use Rattle.std.specs.Prelude.{◌≡◌, ⊤, ℕ, ℤ, Bool, false, List, length, Option, Some, None, Result, Ok, Err, if◌then◌else◌}
use Rattle.kz_types.specs.declared.plan.Plan.{Plan}
use Rattle.kz_types.specs.declared.tree.Op.{Op}
use Rattle.kz_types.specs.declared.driver.Stage.{Stage}
use Rattle.kz_types.specs.declared.driver.Stage.TheVariants as stage
use Rattle.kz_types.specs.declared.machine.DriverState.TheVariants as state
use Rattle.kz_types.specs.declared.machine.Recorded.{Recorded}
use Rattle.kz_types.specs.declared.machine.Reply.{Reply}
use Rattle.kz_types.specs.declared.machine.Reply.TheVariants as reply
use Rattle.kz_types.specs.declared.fault.TreeFault.{TreeFault}
use Rattle.kz_types.specs.declared.fault.TreeFault.TheVariants as fault
use Rattle.kz_spec_data.specs.Requests.{Disk, TreeChange, Multi, Either, IsTaken, ChangesDisk}
use Rattle.kz_spec_data.specs.Tree.{Tree, multi}
use Rattle.kz_spec_data.specs.Difference.{chunk, after_chunk}
use Rattle.kz_spec_machine.specs.Driver.{Driver, hears_answer, at_stage, begins_again, resigned_driver, path_at, is_last_write, is_claim_refused, write_ops}
use Rattle.kz_connection.specs.Connections.{Wired}
use Rattle.kz_resync.specs.Remainders.{Remainder}
use Rattle.kz_requests.specs.declared.fault.StepFault.{StepFault}
use Rattle.kz_requests.specs.Fares.{IsHeard, Fares, IsAfterRequest, tree_after}
use Rattle.kz_requests.specs.Disks.{answer_of_made, TreeDisk}
use Rattle.kz_stages.specs.declared.row.Stage.{Stage as HeldStage}
use Rattle.kz_stages.specs.declared.row.Stage.TheVariants as held
use Rattle.kz_stages.specs.declared.writing.Scope.{Scope}
use Rattle.kz_stages.specs.declared.writing.Scope.TheVariants.{All, Change}
use Rattle.kz_stages.specs.declared.writing.WriteOutcome.{WriteOutcome}
use Rattle.kz_stages.specs.declared.writing.WriteOutcome.TheVariants.{Last, More, Fenced, Refused, Stopped}
use Rattle.kz_stages.specs.Disks.{AsksNothing}

-- what a driver has still to write, where it writes
abbrev pub held_remainder : HeldStage → Option Remainder
held_remainder (held.WriteResync r) = Some r
held_remainder (held.WriteDelta r) = Some r
held_remainder s = None

-- what is written at a stage at which a driver writes
abbrev pub held_scope : HeldStage → Scope
held_scope (held.WriteDelta r) = Change
held_scope s = All

-- the stage while operations remain to be written
abbrev pub more_of : Scope → Recorded → List Op → Stage
more_of All target rest = stage.WriteResync target rest
more_of Change target rest = stage.WriteDelta target rest

-- the stage after the last write
abbrev pub last_of : Scope → Stage
last_of All = stage.KraftControllerToBrokerComm
last_of Change = stage.DualWrite

-- what became of a write that the tree took
abbrev pub outcome_of_taken : Remainder → WriteOutcome
outcome_of_taken r = if is_last_write r.ops then Last r.target.offset else More (length (chunk r.ops))

-- what became of a write that the tree refused
abbrev pub outcome_of_refused : ℤ → ℕ → ℤ → WriteOutcome
outcome_of_refused claim index code = if is_claim_refused index code then Fenced claim else Refused

-- what became of a write under a claim
abbrev pub write_outcome : ℤ → Remainder → Result Tree TreeFault → WriteOutcome
write_outcome claim r (Ok t) = outcome_of_taken r
write_outcome claim r (Err (fault.Refused index code)) = outcome_of_refused claim index code
write_outcome claim r (Err (fault.Limit index number)) = Stopped (reply.Limit (path_at (write_ops claim r.ops r.target) index))
write_outcome claim r (Err f) = Stopped (reply.TreeFailed f)

-- the driver after it
abbrev pub after_write_outcome : WriteOutcome → Remainder → (List Op → Stage) → Stage → Driver → Driver × Reply
after_write_outcome (Last offset) r more last d = (record d { stage = last; recorded = Some offset }, reply.Recorded offset)
after_write_outcome (More count) r more last d = (at_stage (more (after_chunk r.ops)) d, reply.Wrote count)
after_write_outcome (Fenced claim) r more last d = (resigned_driver d, reply.FencedWrite claim)
after_write_outcome Refused r more last d = (begins_again d, reply.Moved state.BecomeController)
after_write_outcome (Stopped told) r more last d = (d, told)

-- ---- the request, where the driver has a claim

-- the tree that a write makes
abbrev pub written_tree : Tree → ℤ → Remainder → Tree
written_tree t claim r = tree_after (multi t (write_ops claim r.ops r.target)) t

abbrev pub IsWritten : {A : Type 0} → Bool → Tree → Option ℤ → Remainder → Result A StepFault → Tree → Type 0
IsWritten reaches t None r result new = new ≡ t
IsWritten reaches t (Some claim) r result new = IsAfterRequest reaches (written_tree t claim r) t result new

abbrev pub WriteFares : {A T : Type 0} → Option ℤ → Result A StepFault → Wired T → Wired T → Type 0
WriteFares None result old new = IsHeard hears_answer result × (new ≡ old)
WriteFares (Some claim) result old new = Fares false false result old new

abbrev pub WriteDisk : {A : Type 0} → (Tree → TreeChange → ℕ) → Tree → Option ℤ → Remainder → Plan → Result A StepFault → Disk → Disk → Type 0
WriteDisk bytes t None r p result old new = AsksNothing result × (new ≡ old)
WriteDisk bytes t (Some claim) r p result old new =
    TreeDisk (ChangesDisk (IsTaken (multi t (write_ops claim r.ops r.target))) (bytes t (Multi (write_ops claim r.ops r.target)))) (answer_of_made (multi t (write_ops claim r.ops r.target))) p result old new

abbrev pub WriteStop : Bool → Tree → Option ℤ → Remainder → (Option Tree → Type 0) → Type 0
WriteStop reaches t None r left = ⊤
WriteStop reaches t (Some claim) r left = Either t (if reaches then written_tree t claim r else t) left
