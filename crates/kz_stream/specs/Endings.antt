-- Why a run stops before the end of its input, and what it has written by then.
use Rattle.std.specs.Prelude.{◌≡◌, ℕ, Bool, List, Option, Some, None, Result, Err}
use Rattle.kz_types.specs.declared.limits.Limit.TheVariants as limits
use Rattle.kz_types.specs.Limits.{number_of_limit}
use Rattle.kz_types.specs.declared.limits.TheConstants.{MAX_FILE_BYTES, MAX_INPUT_BYTES, MAX_LINE_BYTES}
use Rattle.kz_types.specs.declared.outside.Status.{Status}
use Rattle.kz_types.specs.declared.outside.Status.TheVariants as status
use Rattle.kz_stream.specs.declared.failure.Failure.{Failure}
use Rattle.kz_stream.specs.declared.failure.Failure.TheVariants as failure
use Rattle.kz_spec_machine.specs.Machine.{World}
use Rattle.kz_spec_machine.specs.Output.{Outcome, after, limit_status}
use Rattle.kz_spec_machine.specs.Endings.{IsFront, EndsAtFailure}
use Rattle.kz_stream.specs.declared.ending.Ending.{Ending}
use Rattle.kz_stream.specs.declared.ending.Ending.TheVariants as ending
use Rattle.kz_stream.specs.declared.ending.Next.{Next}
use Rattle.kz_stream.specs.declared.ending.Next.TheVariants as next_is
use Rattle.kz_stream.specs.declared.ending.Stop.{Stop}
use Rattle.kz_stream.specs.declared.ending.Stop.TheVariants as stop

-- the status of a run that ends for this reason
abbrev pub status_of : Ending → Status
status_of (ending.BadLine line) = status.Script line
status_of ending.LongLine = status.Limit (number_of_limit limits.LineBytes) MAX_LINE_BYTES
status_of ending.LongInput = status.Limit (number_of_limit limits.InputBytes) MAX_INPUT_BYTES
status_of (ending.StoreLimit number) = limit_status number

-- the status of a run whose event failed
abbrev pub failure_status : Failure → Status
failure_status failure.TreeDisk = status.TreeFault
failure_status failure.LogDisk = status.LogFault
failure_status failure.TreeFull = status.Limit (number_of_limit limits.TreeFileBytes) MAX_FILE_BYTES
failure_status failure.LogFull = status.Limit (number_of_limit limits.LogFileBytes) MAX_FILE_BYTES
failure_status failure.NoMemory = status.NoMemory

-- the status of a run that stops for this reason
abbrev pub stop_status : Stop → Status
stop_status (stop.Ends e) = status_of e
stop_status (stop.Fails f) = failure_status f
stop_status stop.SinkFailed = status.WriteFault

-- what a run does that ends with this status, or goes on
abbrev pub IsNext : Next → Option Status → Type 0
IsNext next_is.GoesOn end = end ≡ None
IsNext (next_is.Ends e) end = end ≡ Some (status_of e)
IsNext (next_is.Fails f) end = ⊥

-- An outcome begins with a text that is printed. Then the run goes on with the rest of the outcome, or ends in this world: at the
-- outcome's own end, or earlier where an event failed.
abbrev pub Begins : List ℕ → Next → World → Outcome → Outcome → Type 0
Begins text next_is.GoesOn w o rest = o ≡ after text rest
Begins text (next_is.Ends e) w o rest = o ≡ record { text = text; status = status_of e; world = w }
Begins text (next_is.Fails f) w o rest = IsFront text o.text

-- A run that should have this outcome has written this much and stopped in this world: at the outcome's own end, or earlier, where
-- an event failed, or memory or the sink did.
abbrev pub Stops : Outcome → List ℕ → World → Stop → Type 0
Stops o sent w (stop.Ends e) = o ≡ record { text = sent; status = status_of e; world = w }
Stops o sent w (stop.Fails f) = IsFront sent o.text
Stops o sent w stop.SinkFailed = IsFront sent o.text

-- A part of a run stops with `SinkFailed` exactly where a write failed, and that was the last one.
abbrev pub StopsAtSink : {T : Type 0} → Result T Stop → ℕ → ℕ → Bool → Bool → Type 0
StopsAtSink result faults faults_now failed failed_now = EndsAtFailure (Err stop.SinkFailed) result faults faults_now failed failed_now
