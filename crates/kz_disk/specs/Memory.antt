-- Disks in memory.
use Rattle.std.specs.Prelude.{ℕ, Bool, List, reverse}
use Rattle.kz_disk.specs.declared.changes.Change.{Change}
use Rattle.kz_disk.specs.declared.memory.MemoryDisk.{MemoryDisk}

-- what a disk holds
abbrev pub memory_bytes : MemoryDisk → List ℕ
memory_bytes d = d.bytes.items

-- what it held when it was made
abbrev pub memory_start : MemoryDisk → List ℕ
memory_start d = d.start.items

-- its changes since then, the newest first
abbrev pub memory_changes : MemoryDisk → List Change
memory_changes d = reverse d.changes.items

-- how often a sync has succeeded
abbrev pub memory_syncs : MemoryDisk → ℕ
memory_syncs d = d.syncs

-- the number of its next call
abbrev pub memory_call : MemoryDisk → ℕ
memory_call d = d.calls.count

-- the numbers of the calls that fail
abbrev pub memory_plan : MemoryDisk → List ℕ
memory_plan d = d.calls.fail.items

-- how often a call has failed
abbrev pub memory_faults : MemoryDisk → ℕ
memory_faults d = d.calls.faults

-- whether its last call failed
abbrev pub memory_failed : MemoryDisk → Bool
memory_failed d = d.calls.failed
