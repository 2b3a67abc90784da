-- How the bound on the steps of a turn is told, and what that does to the disks.
use Rattle.std.specs.Prelude.{ℕ, Result, Ok, Err}
use Rattle.kz_world_parts.specs.Disks.{Disks}
use Rattle.kz_world_parts.specs.declared.faults.EventFault.{EventFault}
use Rattle.kz_world_parts.specs.declared.faults.EventFault.TheVariants as event_fault
use Rattle.kz_world_parts.specs.Stores.{ReadsLog}
use Rattle.kz_world.specs.declared.bound.WorkFault.{WorkFault}
use Rattle.kz_world.specs.declared.bound.WorkFault.TheVariants as work_fault

-- the fault of an event that is made of the same
abbrev pub event_fault_of : WorkFault → EventFault
event_fault_of (work_fault.Log f) = event_fault.Log f
event_fault_of work_fault.NoMemory = event_fault.NoMemory

-- The log is read. A fault of its disk is told.
abbrev pub ReadsForBound : Result ℕ WorkFault → Disks → Disks → Type 0
ReadsForBound (Ok most) old new = ReadsLog {A = ℕ} (Ok most) old new
ReadsForBound (Err f) old new = ReadsLog {A = ℕ} (Err (event_fault_of f)) old new
