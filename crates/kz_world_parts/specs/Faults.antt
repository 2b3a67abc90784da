-- How a fault of a store is told by the answer of an event. A refusal of the tree or of the log is an answer of the machine.
use Rattle.std.specs.Prelude.{Result, Ok, Err, if◌then◌else◌}
use Rattle.kz_types.specs.declared.fault.TreeFault.{TreeFault}
use Rattle.kz_types.specs.declared.fault.TreeFault.TheVariants as tree_fault
use Rattle.kz_types.specs.declared.fault.LogFault.{LogFault}
use Rattle.kz_types.specs.declared.fault.LogFault.TheVariants as log_fault
use Rattle.kz_types.specs.declared.machine.Answer.{Answer}
use Rattle.kz_types.specs.declared.machine.Answer.TheVariants as answer
use Rattle.kz_session.specs.declared.sessions.SessionFault.{SessionFault}
use Rattle.kz_session.specs.declared.sessions.SessionFault.TheVariants as session_fault
use Rattle.kz_spec_machine.specs.Failures.{is_tree_failure, is_log_failure}
use Rattle.kz_exit.specs.declared.faults.ExitFault.{ExitFault}
use Rattle.kz_exit.specs.declared.faults.ExitFault.TheVariants as exit
use Rattle.kz_world_parts.specs.declared.faults.EventFault.{EventFault}
use Rattle.kz_world_parts.specs.declared.faults.EventFault.TheVariants as event_fault

-- ---- answers of events

-- the answer that tells a fault
abbrev pub answer_of_fault : EventFault → Answer
answer_of_fault (event_fault.Tree f) = answer.TreeFailed f
answer_of_fault (event_fault.Log f) = answer.LogFailed f
answer_of_fault event_fault.NoMemory = answer.NoMemory

-- the answer of an event, which tells its fault where it has one
abbrev pub answer_of_result : Result Answer EventFault → Answer
answer_of_result (Ok a) = a
answer_of_result (Err f) = answer_of_fault f

-- an answer, or the fault that it tells; the faults of a turn's steps are told by their replies
abbrev pub result_of_answer : Answer → Result Answer EventFault
result_of_answer (answer.TreeFailed f) = if is_tree_failure f then Err (event_fault.Tree f) else Ok (answer.TreeFailed f)
result_of_answer (answer.LogFailed f) = if is_log_failure f then Err (event_fault.Log f) else Ok (answer.LogFailed f)
result_of_answer answer.NoMemory = Err event_fault.NoMemory
result_of_answer a = Ok a

-- ---- what follows where a store doesn't do what an event asks of it

-- the tree refuses a client's multi, or there is a fault
abbrev pub after_tree_fault : TreeFault → Result Answer EventFault
after_tree_fault (tree_fault.Refused index code) = Ok (answer.Refused index code)
after_tree_fault (tree_fault.Limit index number) = Ok (answer.OverOp index number)
after_tree_fault tree_fault.NoMemory = Err event_fault.NoMemory
after_tree_fault f = Err (event_fault.Tree f)

-- the log refuses a batch, or there is a fault
abbrev pub after_log_fault : LogFault → Result Answer EventFault
after_log_fault (log_fault.Stale epoch) = Ok (answer.Stale epoch)
after_log_fault (log_fault.Limit number) = Ok (answer.Over number)
after_log_fault log_fault.NoMemory = Err event_fault.NoMemory
after_log_fault f = Err (event_fault.Log f)

-- a session doesn't begin or end, or there is a fault
abbrev pub after_session_fault : SessionFault → Result Answer EventFault
after_session_fault session_fault.Known = Ok answer.Known
after_session_fault session_fault.Unknown = Ok answer.Unknown
after_session_fault session_fault.NoMemory = Err event_fault.NoMemory
after_session_fault session_fault.Device = Err (event_fault.Tree tree_fault.Device)
after_session_fault session_fault.Down = Err (event_fault.Tree tree_fault.Down)
after_session_fault (session_fault.Full length) = Err (event_fault.Tree (tree_fault.Full length))
after_session_fault (session_fault.Limit number) = Ok (answer.Over number)

-- what an event answers whose rollback ended so
abbrev pub after_exit : {A : Type 0} → Result A ExitFault → Result Answer EventFault
after_exit (Ok told) = Ok answer.RolledBack
after_exit (Err exit.Finalised) = Ok answer.Finalised
after_exit (Err (exit.Unclosed path)) = Ok (answer.Unclosed path)
after_exit (Err (exit.Behind recorded end)) = Ok (answer.Behind recorded end)
after_exit (Err (exit.Log f)) = result_of_answer (answer.LogFailed f)
after_exit (Err (exit.Tree f)) = result_of_answer (answer.TreeFailed f)
after_exit (Err exit.NoMemory) = Err event_fault.NoMemory
