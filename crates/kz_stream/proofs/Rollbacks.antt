-- What a rollback says of the disks by its result, where neither store was down before it. It asks the log first and then the tree.
use Rattle.std.proofs.Common.{◌≡◌, ◌⊎◌, inl, inr, ℕ, false, List, [], ◌∷◌, Option, Some, None, Result, Ok, Err, refl, sym, subst}
use Rattle.std.specs.Prelude.{⊤}
use Rattle.kz_types.specs.declared.fault.TreeFault.{TreeFault}
use Rattle.kz_types.specs.declared.fault.TreeFault.TheVariants as tree_fault
use Rattle.kz_types.specs.declared.fault.LogFault.{LogFault}
use Rattle.kz_types.specs.declared.fault.LogFault.TheVariants as log_fault
use Rattle.kz_types.specs.declared.tree.Op.{Op}
use Rattle.kz_types.specs.declared.machine.Answer.{Answer}
use Rattle.kz_types.specs.declared.machine.Answer.TheVariants as answer
use Rattle.kz_spec_data.specs.Tree.{Tree, multi}
use Rattle.kz_spec_data.specs.Requests.{Disk, TreeChange, Multi, Reset, StoreAnswer, Done, answer_of_tree_fault, answer_of_log_fault, IsTaken}
use Rattle.kz_spec_machine.specs.Driver.{Shared}
use Rattle.kz_spec_machine.specs.Machine.{exit_ops}
use Rattle.kz_world_parts.specs.Disks.{Disks, Payloads}
use Rattle.kz_world_parts.specs.TurnStops.{AreUp}
use Rattle.kz_exit.specs.declared.faults.ExitFault.{ExitFault}
use Rattle.kz_exit.specs.declared.faults.ExitFault.TheVariants as exit
use Rattle.kz_exit.specs.Disks.{LogDisk, TreeDisk, MakesOps, ResetsDisk}
use Rattle.kz_world_parts.specs.declared.faults.EventFault.{EventFault}
use Rattle.kz_world_parts.specs.declared.faults.EventFault.TheVariants as event_fault
use Rattle.kz_world_parts.specs.EventDisks.{TakesBack}
use Rattle.kz_world_parts.specs.Faults.{result_of_answer, after_exit}
use Rattle.kz_stream.specs.declared.failure.Failure.{Failure}
use Rattle.kz_stream.specs.declared.failure.Failure.TheVariants as failure
use Rattle.kz_stream.specs.Failures.{failure_of_tree, failure_of_log}
use Rattle.kz_stream.specs.FailureDisks.{IsQuiet, AreQuiet, AnswerDisks}
use Rattle.kz_stream.proofs.Stores.{AnswerDisk, same_quiet, change_tells, read_tells, tree_fails, log_fails}

-- how an event fails by a fault of its own
abbrev pub failure_of_fault : EventFault → Option Failure
failure_of_fault (event_fault.Tree f) = failure_of_tree f
failure_of_fault (event_fault.Log f) = failure_of_log f
failure_of_fault event_fault.NoMemory = Some failure.NoMemory

-- how it fails by itself; the failures of its steps are told by their replies
abbrev pub own_failure : {A : Type 0} → Result A EventFault → Option Failure
own_failure (Ok told) = None
own_failure (Err f) = failure_of_fault f

pub tree_result : (f : TreeFault) → own_failure (result_of_answer (answer.TreeFailed f)) ≡ failure_of_tree f
tree_result (tree_fault.Refused index code) = refl
tree_result (tree_fault.Limit index number) = refl
tree_result tree_fault.NoMemory = refl
tree_result tree_fault.Device = refl
tree_result tree_fault.Down = refl
tree_result (tree_fault.Full length) = refl

pub log_result : (f : LogFault) → own_failure (result_of_answer (answer.LogFailed f)) ≡ failure_of_log f
log_result (log_fault.Stale epoch) = refl
log_result log_fault.Failed = refl
log_result (log_fault.Limit number) = refl
log_result log_fault.NoMemory = refl
log_result log_fault.Down = refl
log_result (log_fault.Full length) = refl

ops_tell : (t : Tree) (payload_bytes : Tree → TreeChange → ℕ) (ops : List Op) (a : StoreAnswer) (old new : Disk) → old.down ≡ false → MakesOps t payload_bytes ops a old new → AnswerDisk a old new
ops_tell t payload_bytes [] a old new up h = subst (λ (x : StoreAnswer). AnswerDisk x old new) (sym h.0) (same_quiet old new up h.1)
ops_tell t payload_bytes (o ∷ os) a old new up h = change_tells (IsTaken (multi t (o ∷ os))) (payload_bytes t (Multi (o ∷ os))) a old new up h

reset_tells : (payload : ℕ) (a : StoreAnswer) (old new : Disk) → old.down ≡ false → ResetsDisk payload a old new → AnswerDisk a old new
reset_tells payload a old new up h = change_tells ⊤ payload a old new up h

-- out of memory, the log may have been reset
perhaps_reset : (payload : ℕ) (old new : Disk) → old.down ≡ false → (new ≡ old) ⊎ ResetsDisk payload Done old new → IsQuiet old new
perhaps_reset payload old new up (inl same) = same_quiet old new up same
perhaps_reset payload old new up (inr h) = reset_tells payload Done old new up h

module _ (t : Tree) (payload_bytes : Tree → TreeChange → ℕ) (ops : List Op) (payload : ℕ) (old new : Disks) (up : AreUp old) where
  refused_tells : LogDisk payload (Err exit.Finalised) old.log new.log → new.tree ≡ old.tree → AreQuiet old new
  refused_tells log same = record { tree = same_quiet old.tree new.tree up.tree same; log = read_tells Done old.log new.log up.log log }

  result_tells : (r : Result ⊤ ExitFault) → LogDisk payload r old.log new.log → TreeDisk t payload_bytes ops r old.tree new.tree → AnswerDisks (own_failure (after_exit r)) old new
  result_tells (Ok told) log tree = record { tree = ops_tell t payload_bytes ops Done old.tree new.tree up.tree tree; log = reset_tells payload Done old.log new.log up.log log }
  result_tells (Err exit.Finalised) log tree = refused_tells log tree
  result_tells (Err (exit.Unclosed path)) log tree = refused_tells log tree
  result_tells (Err (exit.Behind recorded end)) log tree = refused_tells log tree
  result_tells (Err (exit.Log f)) log tree =
      rw (log_result f) (log_fails f old new (same_quiet old.tree new.tree up.tree tree) (reset_tells payload (answer_of_log_fault f) old.log new.log up.log log))
  result_tells (Err (exit.Tree f)) log tree =
      rw (tree_result f) (tree_fails f old new (reset_tells payload Done old.log new.log up.log log) (ops_tell t payload_bytes ops (answer_of_tree_fault f) old.tree new.tree up.tree tree))
  result_tells (Err exit.NoMemory) log tree = record { tree = same_quiet old.tree new.tree up.tree tree; log = perhaps_reset payload old.log new.log up.log log }

-- the result of a rollback says what it did to the disks
pub rollback_tells : (s : Shared) (payloads : Payloads) (r : Result Answer EventFault) (old new : Disks) → AreUp old → TakesBack s payloads r old new → AnswerDisks (own_failure r) old new
rollback_tells s payloads r old new up h =
    subst (λ (x : Result Answer EventFault). AnswerDisks (own_failure x) old new) (sym h.told) (result_tells s.tree payloads.tree (exit_ops s.tree) (payloads.log s.log Reset) old new up h.result h.log h.tree)
