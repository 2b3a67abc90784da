-- Readers and writers of std.
use Rattle.std.specs.Prelude.{ℕ, Bool}
use Rattle.kz_io.specs.declared.standard.StdSource.{StdSource}
use Rattle.kz_io.specs.declared.standard.StdSink.{StdSink}

-- the reader of a source
abbrev pub reader : {R : Type 0} → StdSource R → R
reader s = s.inner

-- how often it has failed
abbrev pub read_faults : {R : Type 0} → StdSource R → ℕ
read_faults s = s.faults

-- whether its last read failed
abbrev pub read_failed : {R : Type 0} → StdSource R → Bool
read_failed s = s.failed

-- the writer of a sink
abbrev pub writer : {W : Type 0} → StdSink W → W
writer s = s.inner

-- how often it has failed, or has taken nothing of a piece that wasn't empty
abbrev pub write_faults : {W : Type 0} → StdSink W → ℕ
write_faults s = s.faults

-- whether its last write failed, or took nothing of a piece that wasn't empty
abbrev pub write_failed : {W : Type 0} → StdSink W → Bool
write_failed s = s.failed
