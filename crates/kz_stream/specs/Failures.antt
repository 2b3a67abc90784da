-- How an event fails that the machine answers: by a disk, by a file that has no room, or out of memory.
use Rattle.std.specs.Prelude.{List, [], ◌∷◌, Option, Some, None}
use Rattle.kz_types.specs.declared.fault.TreeFault.{TreeFault}
use Rattle.kz_types.specs.declared.fault.TreeFault.TheVariants as tree_fault
use Rattle.kz_types.specs.declared.fault.LogFault.{LogFault}
use Rattle.kz_types.specs.declared.fault.LogFault.TheVariants as log_fault
use Rattle.kz_types.specs.declared.machine.Reply.{Reply}
use Rattle.kz_types.specs.declared.machine.Reply.TheVariants as reply
use Rattle.kz_types.specs.declared.machine.Answer.{Answer}
use Rattle.kz_types.specs.declared.machine.Answer.TheVariants as answer
use Rattle.kz_stream.specs.declared.failure.Failure.{Failure}
use Rattle.kz_stream.specs.declared.failure.Failure.TheVariants as failure

-- a refusal of the tree, a limit among them, is no failure
abbrev pub failure_of_tree : TreeFault → Option Failure
failure_of_tree (tree_fault.Refused index code) = None
failure_of_tree (tree_fault.Limit index number) = None
failure_of_tree tree_fault.NoMemory = Some failure.NoMemory
failure_of_tree tree_fault.Device = Some failure.TreeDisk
failure_of_tree tree_fault.Down = Some failure.TreeDisk
failure_of_tree (tree_fault.Full length) = Some failure.TreeFull

-- neither is one of the log
abbrev pub failure_of_log : LogFault → Option Failure
failure_of_log (log_fault.Stale epoch) = None
failure_of_log log_fault.Failed = Some failure.LogDisk
failure_of_log (log_fault.Limit number) = None
failure_of_log log_fault.NoMemory = Some failure.NoMemory
failure_of_log log_fault.Down = Some failure.LogDisk
failure_of_log (log_fault.Full length) = Some failure.LogFull

abbrev pub failure_of_reply : Reply → Option Failure
failure_of_reply (reply.TreeFailed fault) = failure_of_tree fault
failure_of_reply (reply.LogFailed fault) = failure_of_log fault
failure_of_reply reply.NoMemory = Some failure.NoMemory
failure_of_reply other = None

abbrev pub first_failure : Option Failure → Option Failure → Option Failure
first_failure (Some f) other = Some f
first_failure None other = other

-- the first failure of these steps
abbrev pub failure_of_replies : List Reply → Option Failure
failure_of_replies [] = None
failure_of_replies (r ∷ rs) = first_failure (failure_of_reply r) (failure_of_replies rs)

-- how the event of this answer failed, by itself or by a step, or none
abbrev pub failure_of : Answer → Option Failure
failure_of (answer.TreeFailed fault) = failure_of_tree fault
failure_of (answer.LogFailed fault) = failure_of_log fault
failure_of answer.NoMemory = Some failure.NoMemory
failure_of (answer.Step r) = failure_of_reply r
failure_of (answer.Turn replies) = failure_of_replies replies
failure_of other = None
