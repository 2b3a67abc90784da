-- What a tree in memory answers of a session.
use Rattle.kz_types.specs.declared.move_fault.MoveFault.{MoveFault}
use Rattle.kz_types.specs.declared.move_fault.MoveFault.TheVariants as move_fault
use Rattle.kz_session.specs.declared.sessions.SessionFault.{SessionFault}
use Rattle.kz_session.specs.declared.sessions.SessionFault.TheVariants as fault

-- the same fault, as one of a store
abbrev pub session_fault : MoveFault → SessionFault
session_fault move_fault.Known = fault.Known
session_fault move_fault.Unknown = fault.Unknown
session_fault (move_fault.Limit number) = fault.Limit number
session_fault move_fault.NoMemory = fault.NoMemory
