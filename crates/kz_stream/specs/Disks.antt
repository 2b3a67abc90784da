-- What a part of a run does to the disks below the tree and the log, where neither store was down before it.
use Rattle.std.specs.Prelude.{◌≡◌, ⊤, Option, Some, Result, Ok, Err}
use Rattle.kz_world_parts.specs.Disks.{Disks}
use Rattle.kz_world_parts.specs.TurnStops.{AreUp}
use Rattle.kz_types.specs.declared.memory.NoMemory.{NoMemory}
use Rattle.kz_spec_machine.specs.Machine.{World}
use Rattle.kz_spec_machine.specs.Sound.{Sound}
use Rattle.kz_stream.specs.declared.failure.Failure.{Failure}
use Rattle.kz_stream.specs.FailureDisks.{AreQuiet, AnswerDisks}
use Rattle.kz_stream.specs.declared.ending.Next.{Next}
use Rattle.kz_stream.specs.declared.ending.Next.TheVariants as next_is
use Rattle.kz_stream.specs.declared.ending.Printed.{Printed}
use Rattle.kz_stream.specs.declared.ending.Stop.{Stop}
use Rattle.kz_stream.specs.declared.ending.Stop.TheVariants as stop

-- A disk failed exactly where the run ends by it.
abbrev pub NextDisks : Next → Disks → Disks → Type 0
NextDisks next_is.GoesOn old new = AreQuiet old new
NextDisks (next_is.Ends e) old new = AreQuiet old new
NextDisks (next_is.Fails f) old new = AnswerDisks (Some f) old new

-- Where the sink failed, a disk may have failed before, or none.
abbrev pub StopDisks : Stop → Disks → Disks → Type 0
StopDisks (stop.Ends e) old new = AreQuiet old new
StopDisks (stop.Fails f) old new = AnswerDisks (Some f) old new
StopDisks stop.SinkFailed old new = (f : Option Failure) × AnswerDisks f old new

-- How what is printed ends a part of a run: as it says, or earlier, where the sink failed.
abbrev pub IsEndOf : {T : Type 0} → Next → Result T Stop → Type 0
IsEndOf what (Ok done) = what ≡ next_is.GoesOn
IsEndOf what (Err (stop.Ends e)) = what ≡ next_is.Ends e
IsEndOf what (Err (stop.Fails f)) = what ≡ next_is.Fails f
IsEndOf what (Err stop.SinkFailed) = ⊤

-- What is printed for a part of the script, or memory ran out.
abbrev pub PrintedDisks : Result Printed NoMemory → Disks → Disks → Type 0
PrintedDisks (Ok p) old new = NextDisks p.next old new
PrintedDisks (Err none) old new = AreQuiet old new

abbrev pub PartDisks : {T : Type 0} → Result T Stop → Disks → Disks → Type 0
PartDisks (Ok done) old new = AreQuiet old new
PartDisks (Err s) old new = StopDisks s old new

-- This holds of a world that was sound, over stores of which neither was down.
abbrev pub OverSound : World → Disks → Type 0 → Type 0
OverSound w disks P = Sound w → AreUp disks → P
