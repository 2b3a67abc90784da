-- What a failure of an event says of the disks below the tree and the log, where neither store was down before the event.
use Rattle.std.specs.Prelude.{◌≡◌, true, false, Option, Some, None}
use Rattle.kz_types.specs.Causes.{Rose}
use Rattle.kz_spec_data.specs.Requests.{Disk}
use Rattle.kz_world_parts.specs.Disks.{Disks}
use Rattle.kz_stream.specs.declared.failure.Failure.{Failure}
use Rattle.kz_stream.specs.declared.failure.Failure.TheVariants as failure

-- No call of a disk failed, and the store isn't down.
pub record IsQuiet (old new : Disk) : Type 0 where
  pub up : new.down ≡ false
  pub calm : new.faults ≡ old.faults

-- A call of the disk failed, and the store is down since.
pub record HasFailed (old new : Disk) : Type 0 where
  pub down : new.down ≡ true
  pub cause : Rose old.faults new.faults

pub record AreQuiet (old new : Disks) : Type 0 where
  pub tree : IsQuiet old.tree new.tree
  pub log : IsQuiet old.log new.log

-- A disk failed exactly where the event failed by it.
abbrev pub AnswerDisks : Option Failure → Disks → Disks → Type 0
AnswerDisks None old new = AreQuiet old new
AnswerDisks (Some failure.TreeDisk) old new = HasFailed old.tree new.tree × IsQuiet old.log new.log
AnswerDisks (Some failure.LogDisk) old new = IsQuiet old.tree new.tree × HasFailed old.log new.log
AnswerDisks (Some failure.TreeFull) old new = AreQuiet old new
AnswerDisks (Some failure.LogFull) old new = AreQuiet old new
AnswerDisks (Some failure.NoMemory) old new = AreQuiet old new
