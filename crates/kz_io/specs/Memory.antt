-- Sources and sinks in memory.
use Rattle.std.specs.Prelude.{◌≡◌, ◌↔◌, ℕ, ◌+◌, ◌-◌, ◌^◌, min, Bool, ◌==◌, List, length, drop, Result, IfOk, IsErr, IsTrue, if◌then◌else◌}
use Rattle.std.specs.List.{list_any}
use Rattle.kz_types.specs.declared.outside.Failed.{Failed}
use Rattle.kz_io.specs.declared.memory.MemorySource.{MemorySource}
use Rattle.kz_io.specs.declared.memory.MemorySink.{MemorySink}

-- what a source has left
abbrev pub source_left : MemorySource → List ℕ
source_left s = drop s.at s.bytes.items

-- the number of its next read
abbrev pub source_call : MemorySource → ℕ
source_call s = s.calls

-- the numbers of the reads that fail
abbrev pub source_plan : MemorySource → List ℕ
source_plan s = s.fail.items

-- how often it has failed
abbrev pub source_faults : MemorySource → ℕ
source_faults s = s.faults

-- what a sink has taken
abbrev pub sink_taken : MemorySink → List ℕ
sink_taken s = s.bytes.items

-- the number of its next write
abbrev pub sink_call : MemorySink → ℕ
sink_call s = s.calls

-- the numbers of the writes that fail
abbrev pub sink_plan : MemorySink → List ℕ
sink_plan s = s.fail.items

-- the numbers of the writes that take nothing, where they don't fail
abbrev pub sink_none : MemorySink → List ℕ
sink_none s = s.none.items

-- how often it has failed, or has taken nothing of a piece that wasn't empty
abbrev pub sink_faults : MemorySink → ℕ
sink_faults s = s.faults

-- whether its last read failed
abbrev pub source_failed : MemorySource → Bool
source_failed s = s.failed

-- whether its last write failed, or took nothing of a piece that wasn't empty
abbrev pub sink_failed : MemorySink → Bool
sink_failed s = s.failed

-- a call of this number is listed
abbrev pub is_listed : ℕ → List ℕ → Bool
is_listed call calls = list_any (λ n. n == call) calls

-- A read by the list of a source: it fails exactly where its number is listed, and gives as many bytes as are left and find
-- room. The next read has the next number, up to the greatest of 64 bits, and the list stays.
abbrev pub ReadsByList : MemorySource → MemorySource → ℕ → Result ℕ Failed → Type 0
ReadsByList old new room result = (IsErr result ↔ IsTrue (is_listed (source_call old) (source_plan old))) × IfOk result (λ n. n ≡ min (length (source_left old)) room)
    × (source_call new ≡ min (source_call old + 1) (2 ^ 64 - 1)) × (source_plan new ≡ source_plan old)

-- A write by the lists of a sink: it fails where its number is listed, and takes nothing of the piece or all of it, by the
-- other list. The next write has the next number, up to the greatest of 64 bits, and the lists stay.
abbrev pub WritesByLists : MemorySink → MemorySink → List ℕ → Result ℕ Failed → Type 0
WritesByLists old new piece result = (IsTrue (is_listed (sink_call old) (sink_plan old)) → IsErr result)
    × IfOk result (λ n. n ≡ (if is_listed (sink_call old) (sink_none old) then 0 else length piece))
    × (sink_call new ≡ min (sink_call old + 1) (2 ^ 64 - 1)) × (sink_plan new ≡ sink_plan old) × (sink_none new ≡ sink_none old)
