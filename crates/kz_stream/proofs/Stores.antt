-- What the answer of a store says of its disk, where the store was up before the request.
use Rattle.std.proofs.Common.{◌≡◌, ℕ, false, Option, Some, None, sym, ap, ◌∙◌, subst}
use Rattle.kz_types.specs.Causes.{Rose}
use Rattle.kz_types.specs.declared.fault.TreeFault.{TreeFault}
use Rattle.kz_types.specs.declared.fault.TreeFault.TheVariants as tree_fault
use Rattle.kz_types.specs.declared.fault.LogFault.{LogFault}
use Rattle.kz_types.specs.declared.fault.LogFault.TheVariants as log_fault
use Rattle.kz_spec_data.specs.Requests.{Disk, StoreAnswer, Done, Refused, NoMemory, Failed, Down, Full, answer_of_tree_fault, answer_of_log_fault, ChangesDisk, ReadsDisk}
use Rattle.kz_world_parts.specs.Disks.{Disks}
use Rattle.kz_world_parts.specs.TurnStops.{AreUp}
use Rattle.kz_stream.specs.declared.failure.Failure.{Failure}
use Rattle.kz_stream.specs.declared.failure.Failure.TheVariants as failure
use Rattle.kz_stream.specs.Failures.{failure_of_tree, failure_of_log}
use Rattle.kz_stream.specs.FailureDisks.{IsQuiet, HasFailed, AreQuiet, AnswerDisks}
use Rattle.kz_stream.proofs.Answers.{differ}

-- ---- one store

-- What an answer says of the disk. A store that was up doesn't answer that it is down.
abbrev pub AnswerDisk : StoreAnswer → Disk → Disk → Type 0
AnswerDisk Failed old new = HasFailed old new
AnswerDisk Down old new = ⊥
AnswerDisk a old new = IsQuiet old new

pub same_quiet : (old new : Disk) → old.down ≡ false → new ≡ old → IsQuiet old new
same_quiet old new up same = record { up = ap (λ (d : Disk). d.down) same ∙ up; calm = ap (λ (d : Disk). d.faults) same }

pub change_tells : (taken : Type 0) (payload : ℕ) (a : StoreAnswer) (old new : Disk) → old.down ≡ false → ChangesDisk taken payload a old new → AnswerDisk a old new
change_tells taken payload Done old new up h = record { up = ap (λ (d : Disk). d.down) h.2 ∙ up; calm = ap (λ (d : Disk). d.faults) h.2 }
change_tells taken payload Refused old new up h = same_quiet old new up h.1
change_tells taken payload NoMemory old new up h = same_quiet old new up h
change_tells taken payload Failed old new up h = record { down = h.4; cause = h.3 }
change_tells taken payload Down old new up h = differ (sym up ∙ h.0)
change_tells taken payload (Full length) old new up h = same_quiet old new up h.3

pub read_tells : (a : StoreAnswer) (old new : Disk) → old.down ≡ false → ReadsDisk a old new → AnswerDisk a old new
read_tells Done old new up h = same_quiet old new up h.1
read_tells Refused old new up h = absurd h
read_tells NoMemory old new up h = same_quiet old new up h
read_tells Failed old new up h = absurd h
read_tells Down old new up h = differ (sym up ∙ h.0)
read_tells (Full length) old new up h = absurd h

-- ---- both stores

pub all_same : (old new : Disks) → AreUp old → new ≡ old → AreQuiet old new
all_same old new up same = record { tree = same_quiet old.tree new.tree up.tree (ap (λ (d : Disks). d.tree) same); log = same_quiet old.log new.log up.log (ap (λ (d : Disks). d.log) same) }

-- the tree was asked, and it answers with a fault
pub tree_fails : (f : TreeFault) (old new : Disks) → IsQuiet old.log new.log → AnswerDisk (answer_of_tree_fault f) old.tree new.tree → AnswerDisks (failure_of_tree f) old new
tree_fails (tree_fault.Refused index code) old new log h = record { tree = h; log = log }
tree_fails (tree_fault.Limit index number) old new log h = record { tree = h; log = log }
tree_fails tree_fault.NoMemory old new log h = record { tree = h; log = log }
tree_fails tree_fault.Device old new log h = (h, log)
tree_fails tree_fault.Down old new log h = absurd h
tree_fails (tree_fault.Full length) old new log h = record { tree = h; log = log }

-- the log was asked, and it answers with a fault
pub log_fails : (f : LogFault) (old new : Disks) → IsQuiet old.tree new.tree → AnswerDisk (answer_of_log_fault f) old.log new.log → AnswerDisks (failure_of_log f) old new
log_fails (log_fault.Stale epoch) old new tree h = record { tree = tree; log = h }
log_fails log_fault.Failed old new tree h = (tree, h)
log_fails (log_fault.Limit number) old new tree h = record { tree = tree; log = h }
log_fails log_fault.NoMemory old new tree h = record { tree = tree; log = h }
log_fails log_fault.Down old new tree h = absurd h
log_fails (log_fault.Full length) old new tree h = record { tree = tree; log = h }

-- ---- one request after another

quiet_after : (old mid new : Disk) → IsQuiet old mid → IsQuiet mid new → IsQuiet old new
quiet_after old mid new before h = record { up = h.up; calm = h.calm ∙ before.calm }

failed_after : (old mid new : Disk) → IsQuiet old mid → HasFailed mid new → HasFailed old new
failed_after old mid new before h = record { down = h.down; cause = subst (λ (n : ℕ). Rose n new.faults) before.calm h.cause }

-- what an answer says of the disks, where no disk failed before
module _ (old mid new : Disks) (before : AreQuiet old mid) where
  all_quiet_after : AreQuiet mid new → AreQuiet old new
  all_quiet_after h = record { tree = quiet_after old.tree mid.tree new.tree before.tree h.tree; log = quiet_after old.log mid.log new.log before.log h.log }

  pub after_quiet : (f : Option Failure) → AnswerDisks f mid new → AnswerDisks f old new
  after_quiet None h = all_quiet_after h
  after_quiet (Some failure.TreeDisk) h = (failed_after old.tree mid.tree new.tree before.tree h.0, quiet_after old.log mid.log new.log before.log h.1)
  after_quiet (Some failure.LogDisk) h = (quiet_after old.tree mid.tree new.tree before.tree h.0, failed_after old.log mid.log new.log before.log h.1)
  after_quiet (Some failure.TreeFull) h = all_quiet_after h
  after_quiet (Some failure.LogFull) h = all_quiet_after h
  after_quiet (Some failure.NoMemory) h = all_quiet_after h

pub up_after : (old new : Disks) → AreQuiet old new → AreUp new
up_after old new h = record { tree = h.tree.up; log = h.log.up }
