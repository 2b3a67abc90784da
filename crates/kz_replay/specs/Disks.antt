-- What a replay did to the disks below its machine, by its status, where neither store was down before it.
use Rattle.std.specs.Prelude.{Option}
use Rattle.kz_types.specs.declared.outside.Status.{Status}
use Rattle.kz_types.specs.declared.outside.Status.TheVariants as status
use Rattle.kz_world.specs.Disks.{Disks}
use Rattle.kz_stream.specs.declared.failure.Failure.{Failure}
use Rattle.kz_stream.specs.FailureDisks.{IsQuiet, HasFailed, AreQuiet, AnswerDisks}

-- A disk failed exactly where the status is its own. Where the sink failed, a disk may have failed before.
abbrev pub RunDisks : Status → Disks → Disks → Type 0
RunDisks status.TreeFault old new = HasFailed old.tree new.tree × IsQuiet old.log new.log
RunDisks status.LogFault old new = IsQuiet old.tree new.tree × HasFailed old.log new.log
RunDisks status.WriteFault old new = (f : Option Failure) × AnswerDisks f old new
RunDisks s old new = AreQuiet old new
