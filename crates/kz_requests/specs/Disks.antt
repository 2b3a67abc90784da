-- What a request of a driver does to the disk below the store that it asks.
use Rattle.std.specs.Prelude.{◌≡◌, ⊤, true, false, Result, Ok, Err}
use Rattle.kz_types.specs.declared.plan.Plan.{Plan}
use Rattle.kz_spec_data.specs.Requests.{Disk, StoreAnswer, Done, Refused, Failed, Down, Full, answer_of_tree_fault, answer_of_log_fault}
use Rattle.kz_connection.specs.Connections.{Answered, Lost, Expired, OverConnection, without_sessions}
use Rattle.kz_requests.specs.declared.fault.StepFault.{StepFault}
use Rattle.kz_requests.specs.declared.fault.StepFault.TheVariants as step_fault
use Rattle.kz_spec_machine.specs.Driver.{reaches}

-- an answer of the store itself: a disk that failed in this request or in an earlier one, or a full file
abbrev pub IsOfStore : StoreAnswer → Type 0
IsOfStore Failed = ⊤
IsOfStore Down = ⊤
IsOfStore (Full length) = ⊤
IsOfStore answer = ⊥

-- done, or refused, as the definition says
abbrev pub answer_of_made : {B E : Type 0} → Result B E → StoreAnswer
answer_of_made (Ok made) = Done
answer_of_made (Err refusal) = Refused

-- A request of the tree, which answers `said` where nothing fails, and of which `Changes` says what it does to the disk. The
-- store fails only where the request reaches it.
abbrev pub TreeDisk : {A : Type 0} → (StoreAnswer → Disk → Disk → Type 0) → StoreAnswer → Plan → Result A StepFault → Disk → Disk → Type 0
TreeDisk Changes said p (Ok a) old new = OverConnection Changes said p (Answered said) old new
TreeDisk Changes said p (Err step_fault.Lost) old new = OverConnection Changes said p Lost old new
TreeDisk Changes said p (Err step_fault.Expired) old new = OverConnection Changes said p Expired old new
TreeDisk Changes said p (Err (step_fault.Tree f)) old new = (reaches p false ≡ true) × IsOfStore (answer_of_tree_fault f) × OverConnection Changes said p (Answered (answer_of_tree_fault f)) old new
TreeDisk Changes said p (Err (step_fault.Log f)) old new = ⊥
TreeDisk Changes said p (Err step_fault.NoMemory) old new = new ≡ old

-- the same of the log, which knows no sessions
abbrev pub LogDisk : {A : Type 0} → (StoreAnswer → Disk → Disk → Type 0) → StoreAnswer → Plan → Result A StepFault → Disk → Disk → Type 0
LogDisk Changes said p (Ok a) old new = OverConnection Changes said (without_sessions p) (Answered said) old new
LogDisk Changes said p (Err step_fault.Lost) old new = OverConnection Changes said (without_sessions p) Lost old new
LogDisk Changes said p (Err step_fault.Expired) old new = ⊥
LogDisk Changes said p (Err (step_fault.Tree f)) old new = ⊥
LogDisk Changes said p (Err (step_fault.Log f)) old new = (reaches p true ≡ true) × IsOfStore (answer_of_log_fault f) × OverConnection Changes said (without_sessions p) (Answered (answer_of_log_fault f)) old new
LogDisk Changes said p (Err step_fault.NoMemory) old new = new ≡ old
