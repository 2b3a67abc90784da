-- What a log that wasn't read tells of a request that was to follow.
use Rattle.std.proofs.Common.{ℕ, ℤ, Option, Some, None, Err}
use Rattle.kz_types.specs.declared.fault.LogFault.TheVariants as log_fault
use Rattle.kz_types.specs.declared.machine.Answer.{Answer}
use Rattle.kz_spec_data.specs.Log.{Log}
use Rattle.kz_spec_data.specs.Requests.{Disk, ChangesDisk, ReadsDisk}
use Rattle.kz_world_parts.specs.Disks.{Disks, Payloads}
use Rattle.kz_world_parts.specs.declared.faults.EventFault.{EventFault}
use Rattle.kz_world_parts.specs.declared.faults.EventFault.TheVariants as event_fault
use Rattle.kz_world_parts.specs.EventDisks.{UnlessRefused, CutsLog}
use Rattle.kz_world_parts.specs.Stores.{OnLogFault, ReadsLog}

-- a log that wasn't read tells what it would tell of an append
pub unread : (taken : Type 0) (payload : ℕ) (f : EventFault) (old new : Disk) → OnLogFault (λ a. ReadsDisk a old new) f → OnLogFault (λ a. ChangesDisk taken payload a old new) f
unread taken payload (event_fault.Tree f) old new h = h
unread taken payload (event_fault.Log (log_fault.Stale epoch)) old new h = absurd h.0
unread taken payload (event_fault.Log log_fault.Failed) old new h = absurd h.1
unread taken payload (event_fault.Log (log_fault.Limit number)) old new h = absurd h.0
unread taken payload (event_fault.Log log_fault.NoMemory) old new h = absurd h.0
unread taken payload (event_fault.Log log_fault.Down) old new h = h
unread taken payload (event_fault.Log (log_fault.Full length)) old new h = absurd h.1
unread taken payload event_fault.NoMemory old new h = h

pub either : (o : Option Answer) (asked refused : Type 0) → asked → refused → UnlessRefused o asked refused
either None asked refused h k = h
either (Some r) asked refused h k = k

-- the same of a snapshot
pub unread_cut : (l : Log) (at : Option ℤ) (payloads : Payloads) (f : EventFault) (old new : Disks) → ReadsLog {A = Answer} (Err f) old new → CutsLog l at payloads (Err f) old new
unread_cut l None payloads f old new h = h
unread_cut l (Some at) payloads f old new h = (unread _ _ f old.log new.log h.0, h.1)
