-- What arrives of a log's answers over a connection.
use Rattle.std.specs.Prelude.{◌≡◌, Bool, true, false, Result, Ok, Err, ⊤}
use Rattle.kz_types.specs.declared.fault.LogFault.{LogFault}
use Rattle.kz_types.specs.declared.fault.LogFault.TheVariants as fault
use Rattle.kz_spec_data.specs.Log.{Log}
use Rattle.kz_spec_data.specs.Requests.{Done, answer_of_log_fault}
use Rattle.kz_connection.specs.Connections.{Arrival, Answered, Lost}
use Rattle.kz_log.specs.declared.wire.LogWireFault.{LogWireFault}
use Rattle.kz_log.specs.declared.wire.LogWireFault.TheVariants as wire_fault

abbrev pub arrival_of : {A : Type 0} → Result A LogWireFault → Arrival
arrival_of (Ok a) = Answered Done
arrival_of (Err wire_fault.Lost) = Lost
arrival_of (Err (wire_fault.Log f)) = Answered (answer_of_log_fault f)

-- where it is a fault of the log, this holds of it
abbrev pub IfStore : (LogFault → Type 0) → LogWireFault → Type 0
IfStore P wire_fault.Lost = ⊤
IfStore P (wire_fault.Log f) = P f

-- The faults that pass although the answer is to be lost: those that say that the log can't go on.
abbrev pub passes : LogFault → Bool
passes (fault.Stale epoch) = false
passes fault.Failed = true
passes (fault.Limit number) = true
passes fault.NoMemory = true
passes fault.Down = true
passes (fault.Full length) = true

-- What comes of a request whose answer is to be lost: its fault passes, or nothing arrives, and then `P` holds.
abbrev pub IsUnanswered : {A : Type 0} → Type 0 → Result A LogWireFault → Type 0
IsUnanswered P (Ok a) = ⊥
IsUnanswered P (Err wire_fault.Lost) = P
IsUnanswered P (Err (wire_fault.Log f)) = passes f ≡ true

-- the log after an append whose answer was lost: it was made, or refused as one of another epoch; no other answer is lost
abbrev pub IsAfterAppend : Log → Result Log LogFault → Log → Type 0
IsAfterAppend old (Ok made) new = new ≡ made
IsAfterAppend old (Err (fault.Stale epoch)) new = new ≡ old
IsAfterAppend old (Err fault.Failed) new = ⊥
IsAfterAppend old (Err (fault.Limit number)) new = ⊥
IsAfterAppend old (Err fault.NoMemory) new = ⊥
IsAfterAppend old (Err fault.Down) new = ⊥
IsAfterAppend old (Err (fault.Full length)) new = ⊥
