-- What a store answers the begin and the end of a session.
use Rattle.std.specs.Prelude.{◌≡◌, Result, Err, ⊤}
use Rattle.kz_types.specs.declared.move_fault.MoveFault.{MoveFault}
use Rattle.kz_types.specs.declared.move_fault.MoveFault.TheVariants as move_fault
use Rattle.kz_spec_data.specs.Requests.{StoreAnswer, Refused, NoMemory, Failed, Down, Full}
use Rattle.kz_session.specs.declared.sessions.SessionFault.{SessionFault}
use Rattle.kz_session.specs.declared.sessions.SessionFault.TheVariants as fault

abbrev pub answer_of_session_fault : SessionFault → StoreAnswer
answer_of_session_fault fault.Known = Refused
answer_of_session_fault fault.Unknown = Refused
answer_of_session_fault fault.NoMemory = NoMemory
answer_of_session_fault fault.Device = Failed
answer_of_session_fault fault.Down = Down
answer_of_session_fault (fault.Full length) = Full length
answer_of_session_fault (fault.Limit number) = Refused

-- A refusal is the definition's. The other faults are of the store, and the clauses on its disk say when they come.
abbrev pub IsRefusal : {A : Type 0} → Result A MoveFault → SessionFault → Type 0
IsRefusal said fault.Known = said ≡ Err move_fault.Known
IsRefusal said fault.Unknown = said ≡ Err move_fault.Unknown
IsRefusal said fault.NoMemory = ⊤
IsRefusal said fault.Device = ⊤
IsRefusal said fault.Down = ⊤
IsRefusal said (fault.Full length) = ⊤
IsRefusal said (fault.Limit number) = said ≡ Err (move_fault.Limit number)
