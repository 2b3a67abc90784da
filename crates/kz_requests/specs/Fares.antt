-- How a request of a driver fares over its connection.
use Rattle.std.specs.Prelude.{◌≡◌, ⊤, ℕ, Bool, Result, Ok, Err, if◌then◌else◌}
use Rattle.kz_types.specs.Causes.{Rose}
use Rattle.kz_types.specs.declared.fault.TreeFault.{TreeFault}
use Rattle.kz_types.specs.declared.fault.TreeFault.TheVariants as tree_fault
use Rattle.kz_tree.specs.declared.wire.WireFault.{WireFault}
use Rattle.kz_tree.specs.declared.wire.WireFault.TheVariants as wire_fault
use Rattle.kz_types.specs.declared.fault.LogFault.TheVariants as log_fault
use Rattle.kz_log.specs.declared.wire.LogWireFault.{LogWireFault}
use Rattle.kz_log.specs.declared.wire.LogWireFault.TheVariants as log_wire_fault
use Rattle.kz_spec_data.specs.Tree.{Tree}
use Rattle.kz_spec_machine.specs.Driver.{Hearing, hears_answer, hears_nothing, hears_expiry, hearing_of_request}
use Rattle.kz_connection.specs.Connections.{Wired}
use Rattle.kz_requests.specs.declared.fault.StepFault.{StepFault}
use Rattle.kz_requests.specs.declared.fault.StepFault.TheVariants.{Lost, Expired, Tree as TreeFailed, Log as LogFailed, NoMemory}

-- The driver hears the answer, nothing, or that its session had expired. Of a store that failed, and where memory ran out, the
-- definitions don't speak.
abbrev pub IsHeard : {A : Type 0} → Hearing → Result A StepFault → Type 0
IsHeard hearing (Ok a) = hearing ≡ hears_answer
IsHeard hearing (Err Lost) = hearing ≡ hears_nothing
IsHeard hearing (Err Expired) = hearing ≡ hears_expiry
IsHeard hearing (Err (TreeFailed f)) = ⊤
IsHeard hearing (Err (LogFailed f)) = ⊤
IsHeard hearing (Err NoMemory) = ⊤

-- A connection counts each request that it doesn't answer, and no other.
abbrev pub IsCounted : {A : Type 0} → Result A StepFault → ℕ → ℕ → Type 0
IsCounted (Ok a) old new = new ≡ old
IsCounted (Err Lost) old new = Rose old new
IsCounted (Err Expired) old new = Rose old new
IsCounted (Err (TreeFailed f)) old new = new ≡ old
IsCounted (Err (LogFailed f)) old new = new ≡ old
IsCounted (Err NoMemory) old new = new ≡ old

-- A request of the log, or of the tree, which the log answers with a limit or doesn't, is heard by the plan of its connection,
-- which counts it where it isn't answered.
pub record Fares {A T : Type 0} (of_log limit : Bool) (result : Result A StepFault) (old new : Wired T) : Type 0 where
  pub heard : IsHeard (hearing_of_request old.plan of_log limit) result
  pub counted : IsCounted result old.faults new.faults

-- What a store holds after a request that makes this of it where it reaches it. A store that failed holds what it held.
abbrev pub IsAfterRequest : {A V : Type 0} → Bool → V → V → Result A StepFault → V → Type 0
IsAfterRequest reaches made old (Ok a) new = new ≡ (if reaches then made else old)
IsAfterRequest reaches made old (Err Lost) new = new ≡ (if reaches then made else old)
IsAfterRequest reaches made old (Err Expired) new = new ≡ (if reaches then made else old)
IsAfterRequest reaches made old (Err (TreeFailed f)) new = new ≡ old
IsAfterRequest reaches made old (Err (LogFailed f)) new = new ≡ old
IsAfterRequest reaches made old (Err NoMemory) new = new ≡ old

-- the tree after a multi
abbrev pub tree_after : Result Tree TreeFault → Tree → Tree
tree_after (Ok made) t = made
tree_after (Err f) t = t

-- what a driver makes of a fault of a request that only reads
abbrev pub fault_of_read : WireFault → StepFault
fault_of_read wire_fault.Lost = Lost
fault_of_read wire_fault.Expired = Expired
fault_of_read (wire_fault.Tree tree_fault.NoMemory) = NoMemory
fault_of_read (wire_fault.Tree tree_fault.Device) = TreeFailed tree_fault.Device
fault_of_read (wire_fault.Tree tree_fault.Down) = TreeFailed tree_fault.Down
fault_of_read (wire_fault.Tree (tree_fault.Full length)) = TreeFailed (tree_fault.Full length)
fault_of_read (wire_fault.Tree (tree_fault.Refused index code)) = TreeFailed (tree_fault.Refused index code)
fault_of_read (wire_fault.Tree (tree_fault.Limit index number)) = TreeFailed (tree_fault.Limit index number)

-- the same of a read of the log
abbrev pub fault_of_log_read : LogWireFault → StepFault
fault_of_log_read log_wire_fault.Lost = Lost
fault_of_log_read (log_wire_fault.Log log_fault.NoMemory) = NoMemory
fault_of_log_read (log_wire_fault.Log log_fault.Failed) = LogFailed log_fault.Failed
fault_of_log_read (log_wire_fault.Log log_fault.Down) = LogFailed log_fault.Down
fault_of_log_read (log_wire_fault.Log (log_fault.Full length)) = LogFailed (log_fault.Full length)
fault_of_log_read (log_wire_fault.Log (log_fault.Stale epoch)) = LogFailed (log_fault.Stale epoch)
fault_of_log_read (log_wire_fault.Log (log_fault.Limit number)) = LogFailed (log_fault.Limit number)
